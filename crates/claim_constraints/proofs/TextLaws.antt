-- The text of one element of constraints: a name or a value, and a claim with its values.
use Rattle.std.proofs.Common.{◌≡◌, ◌≢◌, ◌↔◌, ℕ, ◌<◌, ◌==◌, ◌&&◌, nat_le, Bool, true, false, cond, List, [], ◌∷◌, ◌++◌, length, bit_and, Result, Ok, Err, refl, sym, ap, subst, ◌∙◌, length-append, arith}
use Rattle.std.proofs.lemmas.Bool.{and_parts}
use Rattle.std.proofs.lemmas.Bool.Decides.{nat_tests}
use Rattle.std.specs.Cmp.Derive.{both_true}
use Rattle.std.specs.List.{list_all}
use Rattle.std.specs.Str.{is_utf8}
use Rattle.lists.specs.Steps.{◌>>=◌}
use Rattle.lists.proofs.StepLaws.{after}
use Rattle.der_reader.specs.declared.part.Fault.{Fault}
use Rattle.der_reader.specs.Broken.{Behind, IsTagged, Unless}
use Rattle.der_reader.specs.Elem.{AllBytes, Elem, element_text}
use Rattle.der_reader.specs.Part.{ItemView, PartView, at_kind, item_at, item_in}
use Rattle.der_reader.specs.Tags.{sequence_tag}
use Rattle.der_reader.proofs.EachLaws.{at}
use Rattle.der_reader.proofs.PartLaws.{begins_text, item_again, ok_is, standing}
use Rattle.der_reader.proofs.ReadLaws.{Reads, item_reads, last_reads, reads_as, test_reads}
use Rattle.claim_constraints.specs.declared.form.Form.{Form}
use Rattle.claim_constraints.specs.declared.form.Form.TheVariants.{Name, Value}
use Rattle.claim_constraints.specs.Constraints.{PermitView, is_name, is_permit, permit_of}
use Rattle.claim_constraints.specs.ConstraintsText.{itself, permit_content, values_text}
use Rattle.claim_constraints.specs.Elements.{FormText, PermitText}
use Rattle.claim_constraints.specs.Form.{kind_of, passes, tag_of}
use Rattle.claim_constraints.specs.Read.{permit_in, permit_with, text_of, text_with}
use Rattle.claim_constraints.specs.Refused.{IsFilled, IsOfForm, Nothing, SomeText, WrongEntry, WrongPermit, WrongSome, WrongText}
use Rattle.claim_constraints.proofs.ElementLaws.{TakesOne, cond_reads, filled_test, longer, said_text, some_again, some_each, some_elements, some_reads, text_said, value_read}

-- ---- a name or a value

-- the tags of the forms are low
pub low_form : (form : Form) → bit_and (tag_of form) 0x1F ≢ 0x1F
low_form Name = λ e. omega (arith, e)
low_form Value = λ e. omega (arith, e)

tag_test : (tag : ℕ) (item : ItemView) → (item.tag == tag ≡ true) ↔ IsTagged tag item
tag_test tag item = (λ e. grind (arith, nat_tests, e), λ e. grind (arith, nat_tests, e))

-- both tests, and what is read after them
text_steps : {A : Type 0} (form : Form) (before : List (List ℕ)) (item : ItemView) (next : List (List ℕ) → Result A Fault)
    → text_with form before item >>= next
    ≡ cond (item.tag == tag_of form) (cond (passes form item.content.left) (next (before ++ item.content.left ∷ [])) (Err (at_kind (kind_of form) item.place)))
    (Err (at_kind 1 item.place))
unfolding text_with text_of
text_steps {A = A} form before item next = by_tag (item.tag == tag_of form)
  where
    by_form : (s : Bool)
        → cond s (Ok item.content.left) (Err (at_kind (kind_of form) item.place)) >>= (λ text. Ok (before ++ text ∷ [])) >>= next
        ≡ cond s (next (before ++ item.content.left ∷ [])) (Err (at_kind (kind_of form) item.place))
    by_form true = refl
    by_form false = refl

    by_tag : (t : Bool)
        → (cond t (Ok item) (Err (at_kind 1 item.place))
        >>= (λ (string : ItemView). cond (passes form string.content.left) (Ok string.content.left) (Err (at_kind (kind_of form) string.place))))
        >>= (λ text. Ok (before ++ text ∷ [])) >>= next
        ≡ cond t (cond (passes form item.content.left) (next (before ++ item.content.left ∷ [])) (Err (at_kind (kind_of form) item.place))) (Err (at_kind 1 item.place))
    by_tag true = by_form (passes form item.content.left)
    by_tag false = refl

-- a text, and what is read after it
pub text_then : {A : Type 0} (form : Form) (before : List (List ℕ)) (item : ItemView) (next : List (List ℕ) → Result A Fault) (Good : A → Type 0)
    (After : ItemView → Fault → Type 0)
    → (passes form item.content.left ≡ true → item.tag ≡ tag_of form → Reads (next (before ++ item.content.left ∷ [])) Good (After item))
    → Reads (text_with form before item >>= next) Good (Unless (IsTagged (tag_of form)) 1 (Unless (IsOfForm form) (kind_of form) After) item)
text_then form before item next Good After reads =
    reads_as _ _ _ _ (text_steps form before item next)
    (cond_reads (item.tag == tag_of form) _ item 1 Good (IsTagged (tag_of form)) (Unless (IsOfForm form) (kind_of form) After) (tag_test (tag_of form) item) (λ t.
    cond_reads (passes form item.content.left) _ item (kind_of form) Good (IsOfForm form) After (λ e. e, λ e. e) (λ s. reads s ((tag_test (tag_of form) item).0 t))))

same : {A : Type 0} (r : Result A Fault) → r ≡ r >>= λ x. Ok x
same (Ok x) = refl
same (Err fault) = refl

text_again : (form : Form) (before : List (List ℕ)) (text content rest : List ℕ) (place : ℕ) → FormText form text content
    → text_with form before (item_in place (record { tag = tag_of form; whole = text; content = content }) rest) ≡ Ok (before ++ content ∷ [])
unfolding text_with text_of
text_again form before text content rest place t =
    let test : tag_of form == tag_of form ≡ true = grind (arith, nat_tests) in
    rw (test, t.is_good) refl

pub texts_taken : (form : Form) → TakesOne (text_with form) (FormText form) (WrongText form)
texts_taken form = record {
  reads = λ start part item is.
      reads_as _ _ _ _ (same (text_with form start item))
      (text_then form start item (λ x. Ok x) (λ next. (x : List ℕ) × FormText form item.whole x × (next ≡ start ++ x ∷ [])) Nothing (λ good tag.
      value_read (start ++ item.content.left ∷ []) (λ next. (x : List ℕ) × FormText form item.whole x × (next ≡ start ++ x ∷ [])) (
        item.content.left,
        record { elem = subst (λ tag. Elem item.whole tag item.content.left) tag is.elem; is_good = good },
        refl,
      )));
  tag = λ text x t. tag_of form;
  content = λ text x t. x;
  elem = λ text x t. t.elem;
  again = λ start next text x t rest place adds. text_again form start text x rest place t ∙ ok_is _ _ (sym adds);
}

-- ---- a claim and its values

abbrev IsEntry : List ℕ → PermitView → Type 0
IsEntry bytes permit = (bytes ≡ permit_content permit) × (is_permit permit ≡ true)

-- the claim by its name and the SEQUENCE of its values
entry_of : (claim bytes : List ℕ) (values : List (List ℕ)) → is_name claim ≡ true → SomeText (FormText Value) bytes values
    → (bytes ≡ element_text sequence_tag (values_text values)) × (is_permit (record { claim = claim; values = values }) ≡ true)
entry_of claim bytes values name t =
    let said = said_text (tag_of Value) itself (passes Value) values t.content t.each in
    let some : nat_le 1 (length values) ≡ true = let l = some_each (FormText Value) values t.content t.each t.some in grind (arith, nat_tests, l) in (
      t.elem.text ∙ ap (element_text sequence_tag) said.0,
      both_true name (both_true some said.1),
    )

permit_reads : (part : PartView) → AllBytes part.left → Reads (permit_in part) (IsEntry part.left) (WrongPermit part)
unfolding permit_in
permit_reads part b =
    item_reads part _ (IsEntry part.left) (Unless (IsTagged (tag_of Name)) 1 (Unless (IsOfForm Name) (kind_of Name) (Behind (WrongSome (FormText Value) (WrongText Value)))))
    b (λ name is.
    text_then Name [] name _ (IsEntry part.left) (Behind (WrongSome (FormText Value) (WrongText Value))) (λ good tag.
    some_reads (text_with Value) (FormText Value) (WrongText Value) (texts_taken Value) (name.content.left ∷ []) name.behind permit_of (IsEntry part.left) is.behind_bytes
    (λ each t.
    let entry = entry_of name.content.left name.behind.left each good t in
    (begins_text (tag_of Name) part name (is, tag) ∙ ap (λ r. element_text (tag_of Name) name.content.left ++ r) entry.0, entry.1))))

-- the SEQUENCE of such values
values_some : (values : List (List ℕ)) → nat_le 1 (length values) ≡ true → list_all is_utf8 values ≡ true
    → length (element_text sequence_tag (values_text values)) < 65536 → SomeText (FormText Value) (element_text sequence_tag (values_text values)) values
values_some values some good l =
    let inner : length (values_text values) < 65536 = omega (arith, l, longer sequence_tag (values_text values)) in
    record {
      content = values_text values;
      elem = record { low_tag = λ e. omega (arith, e); size = inner; text = refl };
      some = some_elements (tag_of Value) itself values (grind (arith, nat_tests, some));
      each = text_said (tag_of Value) itself (passes Value) values (low_form Value) good inner;
    }

permit_again : (permit : PermitView) (place : ℕ) → is_permit permit ≡ true → length (permit_content permit) < 65536
    → permit_in (at (permit_content permit) place) ≡ Ok permit
unfolding permit_in
permit_again permit place good l =
    let name = and_parts (is_name permit.claim) (nat_le 1 (length permit.values) && list_all is_utf8 permit.values) good in
    let values = and_parts (nat_le 1 (length permit.values)) (list_all is_utf8 permit.values) name.1 in
    let claim : List ℕ = element_text (tag_of Name) permit.claim in
    let rest : List ℕ = element_text sequence_tag (values_text permit.values) in
    let both = length-append claim rest in
    let small : length permit.claim < 65536 = omega (arith, l, both, longer (tag_of Name) permit.claim) in
    let item : ItemView = standing (tag_of Name) permit.claim rest place in
    let t : FormText Name claim permit.claim = record { elem = record { low_tag = low_form Name; size = small; text = refl }; is_good = name.0 } in
    after (item_at (at (claim ++ rest) place)) item _ _ (item_again (tag_of Name) permit.claim rest place (low_form Name) small)
    (after (text_with Name [] item) (permit.claim ∷ []) _ _ (text_again Name [] claim permit.claim rest place t)
    (some_again (text_with Value) (FormText Value) (WrongText Value) (texts_taken Value) (permit.claim ∷ []) permit.values rest item.behind.place permit_of
    (values_some permit.values values.0 values.1 (omega (arith, l, both)))))

-- the last step that makes an entry one more
pub permits_taken : TakesOne permit_with PermitText WrongEntry
unfolding permit_with
permits_taken = record {
  reads = λ start part item is.
      let Good : List PermitView → Type 0 = λ next. (x : PermitView) × PermitText item.whole x × (next ≡ start ++ x ∷ []) in
      test_reads (item.tag == sequence_tag) item item 1 _ Good (IsTagged sequence_tag) (Unless IsFilled 2 (λ entry. WrongPermit entry.content)) (tag_test sequence_tag item) (λ tag.
      test_reads (nat_le 1 (length item.content.left)) item.content item 2 _ Good IsFilled (λ entry. WrongPermit entry.content) (filled_test item) (λ some.
      let reads = permit_reads item.content is.content_bytes in
      last_reads (permit_in item.content) (λ permit. start ++ permit ∷ []) Good (WrongPermit item.content) reads.tells (λ permit e.
      let entry = reads.found permit e in
      let same_tag : item.tag ≡ sequence_tag = (tag_test sequence_tag item).0 tag in
      let elem : Elem item.whole sequence_tag item.content.left = subst (λ tag. Elem item.whole tag item.content.left) same_tag is.elem in
      (permit, record { elem = subst (Elem item.whole sequence_tag) entry.0 elem; is_good = entry.1 }, refl))));
  tag = λ text x t. sequence_tag;
  content = λ text x t. permit_content x;
  elem = λ text x t. t.elem;
  again = λ start next text x t rest place adds.
      let item : ItemView = item_in place (record { tag = sequence_tag; whole = text; content = permit_content x }) rest in
      let some : nat_le 1 (length (permit_content x)) ≡ true = grind (arith, nat_tests) in
      rw some (after (permit_in item.content) x _ _ (permit_again x item.content.place t.is_good t.elem.size) (ok_is _ _ (sym adds)));
}
