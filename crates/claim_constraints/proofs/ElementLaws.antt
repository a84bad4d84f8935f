-- Elements one after another, each one more of a list: what is read of them, what is read again, and which fault comes first.
use Rattle.std.proofs.Common.{◌≡◌, ◌≢◌, ◌↔◌, ℕ, ◌<◌, ◌≤◌, Bool, true, false, cond, nat_le, List, [], ◌∷◌, ◌++◌, length, bit_and, Result, Ok, Err, refl, sym, ap, subst, ◌∙◌, append_assoc, append-nil, length-append, arith}
use Rattle.std.proofs.lemmas.Bool.{and_parts}
use Rattle.std.proofs.lemmas.Bool.Decides.{nat_tests}
use Rattle.std.specs.Cmp.Derive.{both_true}
use Rattle.std.specs.List.{list_all}
use Rattle.lists.specs.Steps.{◌>>=◌}
use Rattle.lists.proofs.StepLaws.{after, inside}
use Rattle.der_reader.specs.declared.part.Fault.{Fault}
use Rattle.der_reader.specs.Broken.{Behind, LeftOver, Unless, Within}
use Rattle.der_reader.specs.Each.{ComeTo, OneAfterAnother, each_in}
use Rattle.der_reader.specs.Elem.{AllBytes, element_text, length_text}
use Rattle.der_reader.specs.Part.{ItemView, PartView, at_kind, element_at, end_at, item_in}
use Rattle.der_reader.specs.Tags.{sequence_tag}
use Rattle.der_reader.proofs.BrokenLaws.{right, unless_tells}
use Rattle.der_reader.proofs.EachLaws.{Takes, at, each_again, each_reads}
use Rattle.der_reader.proofs.PartLaws.{alone, element_alone}
use Rattle.der_reader.proofs.ReadLaws.{Reads, element_reads, end_reads, in_order, reads_as, test_reads, through_reads}
use Rattle.claim_constraints.specs.ConstraintsText.{elements}
use Rattle.claim_constraints.specs.Elements.{Says}
use Rattle.claim_constraints.specs.Read.{filled, some_in}
use Rattle.claim_constraints.specs.Refused.{AreAll, IsFilled, SomeText, WrongAfter, WrongSome}

-- ---- readings

-- the same by weaker words of what is read, and by other words of what is wrong
pub reads_good : {A : Type 0} (r : Result A Fault) (Good Better : A → Type 0) (Wrong : Fault → Type 0) → ((x : A) → Good x → Better x) → Reads r Good Wrong
    → Reads r Better Wrong
reads_good r Good Better Wrong more reads = record { found = λ x e. more x (reads.found x e); tells = reads.tells }

pub reads_wrong : {A : Type 0} (r : Result A Fault) (Good : A → Type 0) (Wrong Worse : Fault → Type 0) → ((fault : Fault) → Wrong fault ↔ Worse fault)
    → Reads r Good Wrong → Reads r Good Worse
reads_wrong r Good Wrong Worse same reads = record {
  found = reads.found;
  tells = λ fault. (λ e. (same fault).0 ((reads.tells fault).0 e), λ w. (reads.tells fault).1 ((same fault).1 w));
}

-- what gives a value
pub value_read : {A : Type 0} (x : A) (Good : A → Type 0) → Good x → Reads (Ok x) Good (λ fault. ⊥)
value_read x Good good = record { found = λ y e. subst Good (inside x y e) good; tells = λ fault. (λ e. right x fault e, λ w. absurd w) }

-- by a test that an element has to pass
pub cond_reads : {A : Type 0} (t : Bool) (r : Result A Fault) (item : ItemView) (kind : ℕ) (Good : A → Type 0) (Form : ItemView → Type 0)
    (Wrong : ItemView → Fault → Type 0) → ((t ≡ true) ↔ Form item) → (t ≡ true → Reads r Good (Wrong item))
    → Reads (cond t r (Err (at_kind kind item.place))) Good (Unless Form kind Wrong item)
cond_reads {A = A} t r item kind Good Form Wrong test reads = record {
  found = λ x e. found t refl x e;
  tells = unless_tells t item kind Form Wrong r test (λ good. (reads (test.1 good)).tells);
}
  where
    found : (s : Bool) → t ≡ s → (x : A) → cond s r (Err (at_kind kind item.place)) ≡ Ok x → Good x
    found true k x e = (reads k).found x e
    found false k x e = cc

pub filled_test : (item : ItemView) → (nat_le 1 (length item.content.left) ≡ true) ↔ IsFilled item
filled_test item = (λ e. grind (arith, nat_tests, e), λ e. grind (arith, nat_tests, e))

-- ---- one more of a list

abbrev pub AddsOne : {X : Type 0} → List X → X → List X → Type 0
AddsOne start x next = next ≡ start ++ x ∷ []

come_to : {X : Type 0} (start each end : List X) → ComeTo AddsOne start each end → end ≡ start ++ each
come_to start [] end e = e ∙ sym (append-nil start)
come_to start (x ∷ more) end (next, adds, come) = come_to next more end come ∙ ap (λ n. n ++ more) adds ∙ append_assoc start (x ∷ []) more

come_again : {X : Type 0} (start each : List X) → ComeTo AddsOne start each (start ++ each)
come_again start [] = append-nil start
come_again start (x ∷ more) =
    (start ++ x ∷ [], refl, subst (ComeTo AddsOne (start ++ x ∷ []) more) (append_assoc start (x ∷ []) more) (come_again (start ++ x ∷ []) more))

-- how one is taken
abbrev pub TakesOne : {X : Type 0} → (List X → ItemView → Result (List X) Fault) → (List ℕ → X → Type 0) → (ItemView → Fault → Type 0) → Type 0
TakesOne step Text Wrong = Takes step Text AddsOne (λ start. Wrong)

pub all_read : {X : Type 0} (step : List X → ItemView → Result (List X) Fault) (Text : List ℕ → X → Type 0) (Wrong : ItemView → Fault → Type 0)
    → TakesOne step Text Wrong → (start : List X) (part : PartView) → AllBytes part.left
    → Reads (each_in step start part) (λ end. (each : List X) × OneAfterAnother Text each part.left × (end ≡ start ++ each)) (WrongAfter Text Wrong part)
all_read step Text Wrong takes start part b =
    let reads = each_reads step Text AddsOne (λ start. Wrong) takes start part b in
    record {
      found = λ end e. let (each, texts, come) = reads.found end e in (each, texts, come_to start each end come);
      tells = λ fault. (
        λ e. let w = (reads.tells fault).0 e in record { before = w.before; front = w.front; rest = w.rest; split = w.split; each = w.each; some = w.some; wrong = w.wrong },
        λ w. (reads.tells fault).1 (record {
          before = w.before;
          now = start ++ w.before;
          front = w.front;
          rest = w.rest;
          split = w.split;
          each = w.each;
          come = come_again start w.before;
          some = w.some;
          wrong = w.wrong;
        }),
      );
    }

pub all_again : {X : Type 0} (step : List X → ItemView → Result (List X) Fault) (Text : List ℕ → X → Type 0) (Wrong : ItemView → Fault → Type 0)
    → TakesOne step Text Wrong → (start each : List X) (part : PartView) → OneAfterAnother Text each part.left → each_in step start part ≡ Ok (start ++ each)
all_again step Text Wrong takes start each part texts =
    each_again step Text AddsOne (λ start. Wrong) takes each start part (start ++ each) texts (come_again start each)

-- ---- a SEQUENCE of one or more

pub some_reads : {A X : Type 0} (step : List X → ItemView → Result (List X) Fault) (Text : List ℕ → X → Type 0) (Wrong : ItemView → Fault → Type 0)
    → TakesOne step Text Wrong → (start : List X) (part : PartView) (make : List X → A) (Good : A → Type 0) → AllBytes part.left
    → ((each : List X) → SomeText Text part.left each → Good (make (start ++ each)))
    → Reads (element_at sequence_tag part >>= λ sequence. some_in step start sequence >>= λ xs. end_at sequence.behind (make xs)) Good (WrongSome Text Wrong part)
unfolding some_in
some_reads step Text Wrong takes start part make Good b good =
    element_reads sequence_tag part _ Good (Unless IsFilled 2 (Within (WrongAfter Text Wrong) (AreAll Text) (Behind LeftOver))) b (λ sequence is.
    let all = all_read step Text Wrong takes start sequence.content is.0.content_bytes in
    reads_as _ (filled sequence >>= λ content. each_in step start content >>= λ xs. end_at sequence.behind (make xs)) _ _
    (in_order (filled sequence) (λ content. each_in step start content) (λ xs. end_at sequence.behind (make xs)))
    (test_reads (nat_le 1 (length sequence.content.left)) sequence.content sequence 2 (λ content. each_in step start content >>= λ xs. end_at sequence.behind (make xs))
    Good IsFilled (Within (WrongAfter Text Wrong) (AreAll Text) (Behind LeftOver)) (filled_test sequence) (λ some.
    through_reads (each_in step start sequence.content) sequence.content (λ xs. end_at sequence.behind (make xs)) Good (WrongAfter Text Wrong) (AreAll Text)
    (LeftOver sequence.behind) all.tells
    (λ end e. let (each, texts, is_end) = all.found end e in (
      (each, texts),
      end_reads sequence.behind (make end) Good (λ none. subst (λ end. Good (make end)) (sym is_end) (good each (record {
        content = sequence.content.left;
        elem = alone sequence_tag part sequence is none;
        some = (filled_test sequence).0 some;
        each = texts;
      }))),
    ))
    (λ are. (start ++ are.0, all_again step Text Wrong takes start are.0 sequence.content are.1)))))

pub some_again : {A X : Type 0} (step : List X → ItemView → Result (List X) Fault) (Text : List ℕ → X → Type 0) (Wrong : ItemView → Fault → Type 0)
    → TakesOne step Text Wrong → (start each : List X) (bytes : List ℕ) (place : ℕ) (make : List X → A) → SomeText Text bytes each
    → (element_at sequence_tag (at bytes place) >>= λ sequence. some_in step start sequence >>= λ xs. end_at sequence.behind (make xs)) ≡ Ok (make (start ++ each))
unfolding some_in
some_again step Text Wrong takes start each bytes place make t =
    let sequence : ItemView = item_in place (record { tag = sequence_tag; whole = bytes; content = t.content }) [] in
    let test : nat_le 1 (length t.content) ≡ true = grind (arith, nat_tests, t.some) in
    after (element_at sequence_tag (at bytes place)) sequence _ _ (element_alone sequence_tag bytes t.content place t.elem)
    (rw test (after (each_in step start sequence.content) (start ++ each) _ _ (all_again step Text Wrong takes start each sequence.content t.each) refl))

-- ---- texts of such elements

-- an element is longer than its content
pub longer : (tag : ℕ) (content : List ℕ) → length content < length (element_text tag content)
longer tag content = omega (arith, length-append (length_text (length content)) content)

pub said_text : {X : Type 0} (tag : ℕ) (content : X → List ℕ) (good : X → Bool) (xs : List X) (bytes : List ℕ) → OneAfterAnother (Says tag content good) xs bytes
    → (bytes ≡ elements tag content xs) × (list_all good xs ≡ true)
said_text tag content good [] bytes none = (none, refl)
said_text tag content good (x ∷ more) bytes (first, rest, split, says, each) =
    let k = said_text tag content good more rest each in
    (split ∙ ap (λ f. f ++ rest) says.elem.text ∙ ap (λ r. element_text tag (content x) ++ r) k.0, both_true says.is_good k.1)

pub text_said : {X : Type 0} (tag : ℕ) (content : X → List ℕ) (good : X → Bool) (xs : List X) → bit_and tag 0x1F ≢ 0x1F → list_all good xs ≡ true
    → length (elements tag content xs) < 65536 → OneAfterAnother (Says tag content good) xs (elements tag content xs)
text_said tag content good [] low g l = refl
text_said tag content good (x ∷ more) low g l =
    let p = and_parts (good x) (list_all good more) g in
    let both = length-append (element_text tag (content x)) (elements tag content more) in (
      element_text tag (content x),
      elements tag content more,
      refl,
      record { elem = record { low_tag = low; size = omega (arith, longer tag (content x), both, l); text = refl }; is_good = p.0 },
      text_said tag content good more low p.1 (omega (arith, both, l)),
    )

-- bytes of which there are some are the texts of one at least
pub some_each : {X : Type 0} (Text : List ℕ → X → Type 0) (xs : List X) (bytes : List ℕ) → OneAfterAnother Text xs bytes → 1 ≤ length bytes → 1 ≤ length xs
some_each Text [] bytes none some = absurd (omega (arith, some, ap length none))
some_each Text (x ∷ more) bytes each some = omega arith

pub some_elements : {X : Type 0} (tag : ℕ) (content : X → List ℕ) (xs : List X) → 1 ≤ length xs → 1 ≤ length (elements tag content xs)
some_elements tag content [] some = absurd (omega (arith, some))
some_elements tag content (x ∷ more) some = omega arith
