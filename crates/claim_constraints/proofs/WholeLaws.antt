-- Constraints are what is read of them, are read as they are, and are refused exactly if something is wrong.
use Rattle.std.proofs.Common.{◌≡◌, ◌≢◌, ◌↔◌, ◌⊎◌, inl, inr, ℕ, ◌<◌, ◌≤◌, nat_le, Bool, true, false, cond, List, [], ◌∷◌, ◌++◌, length, bit_and, Result, Ok, Err, IfOk, refl, sym, ap, subst, ◌∙◌, append-nil, length-append, arith}
use Rattle.std.proofs.lemmas.Bool.Decides.{nat_tests}
use Rattle.std.specs.List.{list_all}
use Rattle.lists.specs.Steps.{◌>>=◌}
use Rattle.lists.proofs.Bytes.{same_byte}
use Rattle.lists.proofs.StepLaws.{after, inside}
use Rattle.der_reader.specs.declared.part.Fault.{Fault}
use Rattle.der_reader.specs.Broken.{Behind, First, IsTagged, LeftOver, Unless, Within}
use Rattle.der_reader.specs.Elem.{AllBytes, element_text}
use Rattle.der_reader.specs.Part.{ItemView, PartView, at_kind, element_at, end_at, whole_text}
use Rattle.der_reader.specs.Tags.{ia5_string_tag, sequence_tag}
use Rattle.der_reader.proofs.EachLaws.{at}
use Rattle.der_reader.proofs.PartLaws.{Begins, alone, begins_text, element_again, standing}
use Rattle.der_reader.proofs.ReadLaws.{Reads, element_reads, end_reads, in_order, reads_as, test_reads, through_reads}
use Rattle.claim_constraints.specs.declared.fault.ConstraintFault.{ConstraintFault}
use Rattle.claim_constraints.specs.declared.fault.ConstraintFault.TheVariants.{At, Memory}
use Rattle.claim_constraints.specs.declared.form.Form.TheVariants.{Name}
use Rattle.claim_constraints.specs.Constraints.{ConstraintsView, IsConstraints, PermitView, is_name, is_permit}
use Rattle.claim_constraints.specs.ConstraintsText.{ConstraintsText, constraints_text, elements, itself, must_part, must_tag, part_text, parts_text, permit_content, permits_part, permits_tag}
use Rattle.claim_constraints.specs.Elements.{FormText, PermitText, Says}
use Rattle.claim_constraints.specs.Fault.{Gives}
use Rattle.claim_constraints.specs.Read.{begins, marked_in, optional_in, parts_in, permit_with, read_constraints, some_in, text_with}
use Rattle.claim_constraints.specs.Refused.{AreParts, AreSome, BeginsBy, IsFilled, IsRefused, Refused, SomeText, WrongEntry, WrongPart, WrongParts, WrongSome, WrongText}
use Rattle.claim_constraints.proofs.ElementLaws.{TakesOne, filled_test, longer, reads_good, reads_wrong, said_text, some_again, some_each, some_elements, some_reads, text_said}
use Rattle.claim_constraints.proofs.TextLaws.{low_form, permits_taken, texts_taken}

-- ---- a part that may be absent

begins_by : (tag : ℕ) (bytes : List ℕ) → begins tag bytes ≡ true → BeginsBy tag bytes
begins_by tag [] e = cc
begins_by tag (first ∷ rest) e = let is : first ≡ tag = grind (arith, nat_tests, e) in (rest, ap (λ b. b ∷ rest) is)

begins_not : (tag : ℕ) (bytes : List ℕ) → begins tag bytes ≡ false → BeginsBy tag bytes → ⊥
begins_not tag bytes e (rest, is) = let k : begins tag bytes ≡ true = ap (begins tag) is ∙ same_byte tag in let m = sym e ∙ k in cc

-- what is read of the part's element, and what comes after it
abbrev in_part : {X : Type 0} → (List X → ItemView → Result (List X) Fault) → ItemView → Result (List X × PartView) Fault
in_part step marked =
    element_at sequence_tag marked.content >>= λ sequence. some_in step [] sequence >>= λ xs. end_at sequence.behind (xs, marked.behind)

-- the part and what is read after it
pub part_reads : {A X : Type 0} (tag : ℕ) (step : List X → ItemView → Result (List X) Fault) (Text : List ℕ → X → Type 0) (Wrong : ItemView → Fault → Type 0)
    → TakesOne step Text Wrong → (part : PartView) (next : List X × PartView → Result A Fault) (Good : A → Type 0) (Next : PartView → Fault → Type 0) → AllBytes part.left
    → Reads (next ([], part)) Good (Next part)
    → ((marked : ItemView) (xs : List X) → Begins part marked × (marked.tag ≡ tag) → SomeText Text marked.content.left xs
    → Reads (next (xs, marked.behind)) Good (Next marked.behind))
    → Reads (optional_in tag step part >>= next) Good (WrongPart tag Text Wrong Next part)
unfolding optional_in marked_in
part_reads {A = A} tag step Text Wrong takes part next Good Next b absent present = of (begins tag part.left) refl
  where
    inner : (marked : ItemView) → Begins part marked × (marked.tag ≡ tag)
        → Reads (in_part step marked) (λ found. SomeText Text marked.content.left found.0 × (found ≡ (found.0, marked.behind))) (WrongSome Text Wrong marked.content)
    inner marked is = some_reads step Text Wrong takes [] marked.content (λ xs. (xs, marked.behind)) _ is.0.content_bytes (λ each t. (t, refl))

    of : (t : Bool) → begins tag part.left ≡ t
        → Reads (cond t (element_at tag part >>= in_part step) (Ok ([], part)) >>= next) Good (WrongPart tag Text Wrong Next part)
    of true t =
        reads_wrong _ Good (First (Unless (IsTagged tag) 1 (Within (WrongSome Text Wrong) (AreSome Text) (Behind Next))) part) (WrongPart tag Text Wrong Next part)
        (λ fault. (λ w. inl (begins_by tag part.left t, w), λ w. elim w [ inl here ↦ here.1 | inr past ↦ absurd (past.0 (begins_by tag part.left t)) ]))
        (reads_as _ _ Good _ (in_order (element_at tag part) (in_part step) next)
        (element_reads tag part _ Good (Within (WrongSome Text Wrong) (AreSome Text) (Behind Next)) b (λ marked is.
        through_reads (in_part step marked) marked.content next Good (WrongSome Text Wrong) (AreSome Text) (Next marked.behind) (inner marked is).tells
        (λ found e.
        let k = (inner marked is).found found e in
        ((found.0, k.0), subst (λ found. Reads (next found) Good (Next marked.behind)) (sym k.1) (present marked found.0 is k.0)))
        (λ some. (
          (some.0, marked.behind),
          some_again step Text Wrong takes [] some.0 marked.content.left marked.content.place (λ xs. (xs, marked.behind)) some.1,
        )))))
    of false t =
        reads_wrong _ Good (Next part) (WrongPart tag Text Wrong Next part)
        (λ fault. (λ w. inr (begins_not tag part.left t, w), λ w. elim w [ inl here ↦ absurd (begins_not tag part.left t here.0) | inr past ↦ past.1 ]))
        absent

-- the part's text, if it has something in it
pub part_some : {X : Type 0} (mark tag : ℕ) (content : X → List ℕ) (xs : List X) → 1 ≤ length xs
    → part_text mark tag content xs ≡ element_text mark (element_text sequence_tag (elements tag content xs))
part_some mark tag content [] some = absurd (omega (arith, some))
part_some mark tag content (x ∷ xs) some = refl

-- what is there is the part and what comes after it
part_found : {X : Type 0} (mark tag : ℕ) (content : X → List ℕ) (good : X → Bool) (part : PartView) (marked : ItemView) (xs : List X)
    → Begins part marked × (marked.tag ≡ mark) → SomeText (Says tag content good) marked.content.left xs
    → (part.left ≡ part_text mark tag content xs ++ marked.behind.left) × (list_all good xs ≡ true)
part_found mark tag content good part marked xs is t =
    let said = said_text tag content good xs t.content t.each in
    let inner : marked.content.left ≡ element_text sequence_tag (elements tag content xs) = t.elem.text ∙ ap (element_text sequence_tag) said.0 in
    let some : 1 ≤ length xs = some_each (Says tag content good) xs t.content t.each t.some in (
      begins_text mark part marked is ∙ ap (λ c. element_text mark c ++ marked.behind.left) inner
          ∙ ap (λ p. p ++ marked.behind.left) (sym (part_some mark tag content xs some)),
      said.1,
    )

-- the part's text is read again
part_again : {X : Type 0} (mark tag : ℕ) (content : X → List ℕ) (good : X → Bool) (step : List X → ItemView → Result (List X) Fault) (Wrong : ItemView → Fault → Type 0)
    → TakesOne step (Says tag content good) Wrong → bit_and mark 31 ≢ 31 → bit_and tag 31 ≢ 31 → (xs : List X) (rest : List ℕ) (place : ℕ) → list_all good xs ≡ true
    → length (part_text mark tag content xs) < 65536 → begins mark rest ≡ false
    → (behind : ℕ) × (optional_in mark step (at (part_text mark tag content xs ++ rest) place) ≡ Ok (xs, at rest behind))
unfolding optional_in marked_in
part_again mark tag content good step Wrong takes low_mark low [] rest place all l none = (place, rw none refl)
part_again mark tag content good step Wrong takes low_mark low (x ∷ more) rest place all l none =
    let each : List ℕ = elements tag content (x ∷ more) in
    let inner : List ℕ = element_text sequence_tag each in
    let inner_small : length inner < 65536 = omega (arith, l, longer mark inner) in
    let each_small : length each < 65536 = omega (arith, inner_small, longer sequence_tag each) in
    let marked : ItemView = standing mark inner rest place in
    let some : SomeText (Says tag content good) inner (x ∷ more) =
    record {
      content = each;
      elem = record { low_tag = λ e. omega (arith, e); size = each_small; text = refl };
      some = some_elements tag content (x ∷ more) (omega arith);
      each = text_said tag content good (x ∷ more) low all each_small;
    } in (
      marked.behind.place,
      rw (same_byte mark)
          (after (element_at mark (at (element_text mark inner ++ rest) place)) marked _ _ (element_again mark inner rest place low_mark inner_small)
          (some_again step (Says tag content good) Wrong takes [] (x ∷ more) inner marked.content.place (λ xs. (xs, marked.behind)) some)),
    )

-- ---- both parts

-- the second part, after these names
permits_read : (must : List (List ℕ)) (part : PartView) → AllBytes part.left
    → Reads (optional_in permits_tag permit_with part >>= λ permits. end_at permits.1 (record { must = must; permits = permits.0 }))
    (λ (c : ConstraintsView). (c.must ≡ must) × (part.left ≡ permits_part c.permits) × (list_all is_permit c.permits ≡ true))
    (WrongPart permits_tag PermitText WrongEntry LeftOver part)
permits_read must part b =
    part_reads permits_tag permit_with PermitText WrongEntry permits_taken part (λ permits. end_at permits.1 (record { must = must; permits = permits.0 }))
    (λ (c : ConstraintsView). (c.must ≡ must) × (part.left ≡ permits_part c.permits) × (list_all is_permit c.permits ≡ true)) LeftOver b
    (end_reads part _ _ (λ none. (refl, none, refl)))
    (λ marked permits is t.
    let found = part_found permits_tag sequence_tag permit_content is_permit part marked permits is t in
    end_reads marked.behind _ _ (λ none. (refl, found.0 ∙ ap (λ r. permits_part permits ++ r) none ∙ append-nil (permits_part permits), found.1)))

abbrev AreTheParts : List ℕ → ConstraintsView → Type 0
AreTheParts content c = (content ≡ parts_text c) × (list_all is_name c.must ≡ true) × (list_all is_permit c.permits ≡ true)

parts_read : (part : PartView) → AllBytes part.left → Reads (parts_in part) (AreTheParts part.left) (WrongParts part)
unfolding parts_in
parts_read part b =
    part_reads must_tag (text_with Name) (FormText Name) (WrongText Name) (texts_taken Name) part _ (AreTheParts part.left)
    (WrongPart permits_tag PermitText WrongEntry LeftOver) b
    (reads_good _ _ (AreTheParts part.left) _
    (λ c k. (k.1 ∙ ap (λ m. must_part m ++ permits_part c.permits) (sym k.0), ap (list_all is_name) k.0, k.2))
    (permits_read [] part b))
    (λ marked names is t.
    let found = part_found must_tag ia5_string_tag itself is_name part marked names is t in
    reads_good _ _ (AreTheParts part.left) _
    (λ c k. (
      found.0 ∙ ap (λ r. must_part names ++ r) k.1 ∙ ap (λ m. must_part m ++ permits_part c.permits) (sym k.0),
      ap (list_all is_name) k.0 ∙ found.1,
      k.2,
    ))
    (permits_read names marked.behind is.0.behind_bytes))

-- what is no part's tag
not_must : (permits : List PermitView) → begins must_tag (permits_part permits) ≡ false
not_must [] = refl
not_must (permit ∷ more) = refl

parts_again : (c : ConstraintsView) (place : ℕ) → IsConstraints c → length (parts_text c) < 65536 → parts_in (at (parts_text c) place) ≡ Ok c
unfolding parts_in
parts_again c place is l =
    let both = length-append (must_part c.must) (permits_part c.permits) in
    let must = part_again must_tag ia5_string_tag itself is_name (text_with Name) (WrongText Name) (texts_taken Name) (λ e. omega (arith, e)) (low_form Name) c.must
    (permits_part c.permits) place is.must (omega (arith, l, both)) (not_must c.permits) in
    let permits = part_again permits_tag sequence_tag permit_content is_permit permit_with WrongEntry permits_taken (λ e. omega (arith, e)) (λ e. omega (arith, e)) c.permits
    [] must.0 is.permits (omega (arith, l, both)) refl in
    after (optional_in must_tag (text_with Name) (at (parts_text c) place)) (c.must, at (permits_part c.permits) must.0) _ _ must.1
    (after (optional_in permits_tag permit_with (at (permits_part c.permits) must.0)) (c.permits, at [] permits.0) _ _
    (ap (λ left. optional_in permits_tag permit_with (at left must.0)) (sym (append-nil (permits_part c.permits))) ∙ permits.1) refl)

-- there is one claim at least, if there is a byte
some_claim : (c : ConstraintsView) → 1 ≤ length (parts_text c) → (1 ≤ length c.must) ⊎ (1 ≤ length c.permits)
some_claim c some = of c.must c.permits some
  where
    of : (must : List (List ℕ)) (permits : List PermitView) → 1 ≤ length (must_part must ++ permits_part permits) → (1 ≤ length must) ⊎ (1 ≤ length permits)
    of [] [] l = absurd (omega (arith, l))
    of [] (permit ∷ more) l = inr (omega arith)
    of (name ∷ more) permits l = inl (omega arith)

some_parts : (c : ConstraintsView) → IsConstraints c → 1 ≤ length (parts_text c)
some_parts c is = of c.must c.permits is.some
  where
    of : (must : List (List ℕ)) (permits : List PermitView) → (1 ≤ length must) ⊎ (1 ≤ length permits) → 1 ≤ length (must_part must ++ permits_part permits)
    of [] [] some = elim some [ inl l ↦ absurd (omega (arith, l)) | inr l ↦ absurd (omega (arith, l)) ]
    of [] (permit ∷ more) some = omega arith
    of (name ∷ more) permits some = omega arith

-- ---- the whole

constraints_read : (bytes : List ℕ) → AllBytes bytes → Reads (read_constraints bytes) (ConstraintsText bytes) (Refused bytes)
unfolding read_constraints constraints_text
constraints_read bytes b =
    element_reads sequence_tag (whole_text bytes) _ (ConstraintsText bytes) (Unless IsFilled 2 (Within WrongParts AreParts (Behind LeftOver))) b (λ sequence is.
    let parts = parts_read sequence.content is.0.content_bytes in
    test_reads (nat_le 1 (length sequence.content.left)) sequence.content sequence 2 (λ content. parts_in content >>= λ c. end_at sequence.behind c)
    (ConstraintsText bytes) IsFilled (Within WrongParts AreParts (Behind LeftOver)) (filled_test sequence) (λ test.
    let some : 1 ≤ length sequence.content.left = (filled_test sequence).0 test in
    through_reads (parts_in sequence.content) sequence.content (λ c. end_at sequence.behind c) (ConstraintsText bytes) WrongParts AreParts (LeftOver sequence.behind) parts.tells
    (λ c e.
    let found = parts.found c e in
    let are : IsConstraints c = record { some = some_claim c (omega (arith, some, ap length found.0)); must = found.1; permits = found.2 } in (
      (c, are, found.0),
      end_reads sequence.behind c (ConstraintsText bytes) (λ none. record {
        form = are;
        size = omega (arith, is.0.elem.size, ap length found.0);
        is = (alone sequence_tag (whole_text bytes) sequence is none).text ∙ ap (element_text sequence_tag) found.0;
      }),
    ))
    (λ are. (
      are.0,
      ap (λ left. parts_in (at left sequence.content.place)) are.2
          ∙ parts_again are.0 sequence.content.place are.1 (omega (arith, is.0.elem.size, ap length are.2)),
    ))))

pub constraints_tell : (bytes : List ℕ) (fault : Fault) → AllBytes bytes → (read_constraints bytes ≡ Err fault) ↔ Refused bytes fault
constraints_tell bytes fault b = (constraints_read bytes b).tells fault

pub text_found : (bytes : List ℕ) (c : ConstraintsView) → AllBytes bytes → read_constraints bytes ≡ Ok c → ConstraintsText bytes c
text_found bytes c b e = (constraints_read bytes b).found c e

pub read_is : (bytes : List ℕ) (c : ConstraintsView) → AllBytes bytes → read_constraints bytes ≡ Ok c → IsConstraints c
read_is bytes c b e = (text_found bytes c b e).form

-- what is written is read again
pub text_read : (c : ConstraintsView) → IsConstraints c → length (parts_text c) < 65536 → read_constraints (constraints_text c) ≡ Ok c
unfolding read_constraints constraints_text
text_read c is l =
    let sequence : ItemView = standing sequence_tag (parts_text c) [] 0 in
    let some : nat_le 1 (length (parts_text c)) ≡ true = let k = some_parts c is in grind (arith, nat_tests, k) in
    after (element_at sequence_tag (whole_text (element_text sequence_tag (parts_text c)))) sequence _ _
    (ap (λ (left : List ℕ). element_at sequence_tag (whole_text left)) (sym (append-nil (element_text sequence_tag (parts_text c))))
    ∙ element_again sequence_tag (parts_text c) [] 0 (λ e. omega (arith, e)) l)
    (rw some (after (parts_in sequence.content) c _ _ (parts_again c sequence.content.place is l) refl))

pub read_only : (bytes : List ℕ) (c : ConstraintsView) → ConstraintsText bytes c → read_constraints bytes ≡ Ok c
read_only bytes c t = ap read_constraints t.is ∙ text_read c t.form t.size

-- the parts of a text of at most 65,535 bytes are shorter
pub parts_within : (c : ConstraintsView) → length (constraints_text c) ≤ 65535 → length (parts_text c) < 65536
unfolding constraints_text
parts_within c l = omega (arith, l, longer sequence_tag (parts_text c))

pub written_text : (c : ConstraintsView) (text : List ℕ) → IsConstraints c → length (constraints_text c) ≤ 65535 → text ≡ constraints_text c → ConstraintsText text c
written_text c text is l e = record { form = is; size = parts_within c l; is = e }

pub read_again : (c : ConstraintsView) (text : List ℕ) → IsConstraints c → length (constraints_text c) ≤ 65535 → text ≡ constraints_text c → read_constraints text ≡ Ok c
read_again c text is l e = read_only text c (written_text c text is l e)

-- bytes that are the text are what is written
pub only_text : (c : ConstraintsView) (text bytes : List ℕ) → text ≡ constraints_text c → ConstraintsText bytes c → text ≡ bytes
only_text c text bytes e t = e ∙ sym t.is

-- bytes are the text of one at most
pub one_text : (bytes : List ℕ) (a b : ConstraintsView) → ConstraintsText bytes a → ConstraintsText bytes b → a ≡ b
one_text bytes a b s t = inside a b (sym (read_only bytes a s) ∙ read_only bytes b t)

-- ---- the same of an answer

pub answer_found : (bytes : List ℕ) (r : Result ConstraintsView ConstraintFault) → AllBytes bytes → Gives (λ c. c) r (read_constraints bytes) → IfOk r (ConstraintsText bytes)
answer_found bytes (Ok c) b g = text_found bytes c b g
answer_found bytes (Err fault) b g = tt

pub answer_only : (bytes : List ℕ) (r : Result ConstraintsView ConstraintFault) (c : ConstraintsView) → Gives (λ c. c) r (read_constraints bytes) → ConstraintsText bytes c
    → Gives (λ c. c) r (Ok c)
answer_only bytes r c g t = subst (λ read. Gives (λ c. c) r read) (read_only bytes c t) g

pub answer_refused : (bytes : List ℕ) (r : Result ConstraintsView ConstraintFault) (fault : Fault) → AllBytes bytes → Gives (λ c. c) r (read_constraints bytes)
    → Refused bytes fault → Gives (λ c. c) r (Err fault)
answer_refused bytes r fault b g w = subst (λ read. Gives (λ c. c) r read) ((constraints_tell bytes fault b).1 w) g

pub answer_is_refused : (bytes : List ℕ) (r : Result ConstraintsView ConstraintFault) → AllBytes bytes → Gives (λ c. c) r (read_constraints bytes) → IsRefused bytes r
answer_is_refused bytes (Ok c) b g = tt
answer_is_refused bytes (Err (At kind place)) b g = (constraints_tell bytes (at_kind kind place) b).0 g
answer_is_refused bytes (Err Memory) b g = tt
