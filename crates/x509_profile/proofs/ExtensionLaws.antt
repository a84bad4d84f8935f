-- The extensions of a certificate are what is read of them, and are read as they are.
use Rattle.std.proofs.Common.{◌≡◌, ℕ, ◌+◌, ◌-◌, ◌==◌, Bool, true, false, cond, List, [], ◌++◌, length, Option, Some, None, Result, Ok, Err, refl, sym, ap, subst, ◌∙◌, inl, inr, arith, ◌≢◌}
use Rattle.std.proofs.lemmas.Bool.Decides.{nat_tests}
use Rattle.lists.specs.Steps.{◌>>=◌}
use Rattle.std.specs.Str.{bytes_eq}
use Rattle.lists.proofs.Bytes.{bytes_same, no_byte, same_bytes}
use Rattle.lists.proofs.StepLaws.{after, inside}
use Rattle.der_reader.specs.declared.part.Fault.{Fault}
use Rattle.der_reader.specs.Elem.{AllBytes}
use Rattle.der_reader.specs.Broken.{AtEnd, First, IsTagged, LeftOver, Through, Unless}
use Rattle.der_reader.specs.Part.{ItemView, PartView, element_at, item_in, or_broken}
use Rattle.der_reader.proofs.BrokenLaws.{end_tells, last_tells, right, same_fault}
use Rattle.der_reader.proofs.ReadLaws.{Reads, at_end_reads, broken_reads, element_reads, through_reads}
use Rattle.der_reader.proofs.PartLaws.{Begins, alone, came_by, element_alone, ended, kept, ok_is, some_bytes}
use Rattle.claim_constraints.specs.ConstraintsText.{ConstraintsText}
use Rattle.claim_constraints.specs.Read.{read_constraints}
use Rattle.claim_constraints.proofs.WholeLaws.{read_only, text_found}
use Rattle.tn_auth_list.specs.ListText.{ListText}
use Rattle.tn_auth_list.specs.Read.{read_list}
use Rattle.tn_auth_list.proofs.ListLaws.{list_again, list_found}
use Rattle.der_reader.proofs.EachLaws.{Takes, at, each_again, each_reads}
use Rattle.der_reader.specs.Each.{WrongBehind, each_in}
use Rattle.der_reader.specs.Tags.{sequence_tag}
use Rattle.x509_profile.specs.Contents.{ExtensionRead, authority_of, basic_of, extension_of, extension_view, subject_key_of, usage_of}
use Rattle.x509_profile.specs.Extended.{Adds, AddsAs, AuthorityText, BasicText, ExtensionText, ExtensionTexts, ExtensionsText, MarkedText, SubjectKeyText, UsageText, extensions_tag}
use Rattle.x509_profile.specs.ExtensionId.{ExtensionName, BasicConstraints, KeyUsage, SubjectKey, AuthorityKey, AuthorityList, ClaimConstraints, EnhancedConstraints, Unknown, IsNamed, name_of}
use Rattle.x509_profile.specs.Extensions.{ended_at, filled, marked_in, optional_in, values_by, values_with}
use Rattle.x509_profile.specs.Fault.{fault_at}
use Rattle.x509_profile.specs.View.{ExtensionView, Values, no_values}
use Rattle.x509_profile.specs.WrongExtensions.{AreExtensions, IsExtension, IsRefusedBehind, IsRefusedThere, IsSecondOr, WrongExtension, WrongExtensions}
use Rattle.x509_profile.proofs.ContentLaws.{ReadOf, authority_again, authority_found, basic_again, basic_found, extension_again, extension_found, opened, subject_key_again, subject_key_found, usage_again, usage_found}

-- ---- names

-- what a test of an OID decides
by_test : {C : Type 0} (oid text : List ℕ) (one other name : ExtensionName) → cond (bytes_eq oid text) one other ≡ name → (oid ≡ text → one ≡ name → C)
    → (oid ≢ text → other ≡ name → C) → C
by_test {C = C} oid text one other name e is is_not = of (bytes_eq oid text) refl e
  where
    of : (t : Bool) → bytes_eq oid text ≡ t → cond t one other ≡ name → C
    of true t e = is (bytes_same oid text t) e
    of false t e = is_not (λ k. let m = sym t ∙ (ap (λ o. bytes_eq o text) k ∙ same_bytes text) in cc) e

name_found : (oid : List ℕ) (name : ExtensionName) → name_of oid ≡ name → IsNamed oid name
unfolding name_of
name_found oid name e =
    by_test oid _ _ _ name e (λ is k. subst (IsNamed oid) k is) (λ a e.
    by_test oid _ _ _ name e (λ is k. subst (IsNamed oid) k is) (λ b e.
    by_test oid _ _ _ name e (λ is k. subst (IsNamed oid) k is) (λ c e.
    by_test oid _ _ _ name e (λ is k. subst (IsNamed oid) k is) (λ d e.
    by_test oid _ _ _ name e (λ is k. subst (IsNamed oid) k is) (λ f e.
    by_test oid _ _ _ name e (λ is k. subst (IsNamed oid) k is) (λ g e.
    by_test oid _ _ _ name e (λ is k. subst (IsNamed oid) k is) (λ h k. subst (IsNamed oid) k (a, b, c, d, f, g, h))))))))

differs : (oid text : List ℕ) → oid ≢ text → bytes_eq oid text ≡ false
differs oid text no_one = of (bytes_eq oid text) refl
  where
    of : (t : Bool) → bytes_eq oid text ≡ t → t ≡ false
    of true t = absurd (no_one (bytes_same oid text t))
    of false t = refl

name_again : (oid : List ℕ) (name : ExtensionName) → IsNamed oid name → name_of oid ≡ name
unfolding name_of
name_again oid BasicConstraints is = ap name_of is
name_again oid KeyUsage is = ap name_of is
name_again oid SubjectKey is = ap name_of is
name_again oid AuthorityKey is = ap name_of is
name_again oid AuthorityList is = ap name_of is
name_again oid ClaimConstraints is = ap name_of is
name_again oid EnhancedConstraints is = ap name_of is
name_again oid Unknown (a, b, c, d, f, g, h) =
    rw (differs oid _ a, differs oid _ b, differs oid _ c, differs oid _ d, differs oid _ f, differs oid _ g, differs oid _ h) refl

-- ---- one extension more

-- How the content of an extension is read: what is read is what it says, and what it says is read.
record Forms {A E : Type 0} (Text : List ℕ → A → Type 0) (read : List ℕ → Result A E) : Type 0 where
  found : (value : List ℕ) (said : A) → AllBytes value → read value ≡ Ok said → Text value said
  again : (value : List ℕ) (said : A) → Text value said → read value ≡ Ok said

basic_forms : Forms BasicText basic_of
basic_forms = record { found = basic_found; again = basic_again }

usage_forms : Forms UsageText usage_of
usage_forms = record { found = usage_found; again = usage_again }

subject_key_forms : Forms SubjectKeyText subject_key_of
subject_key_forms = record { found = subject_key_found; again = subject_key_again }

authority_forms : Forms AuthorityText authority_of
authority_forms = record { found = authority_found; again = authority_again }

list_forms : Forms ListText read_list
list_forms = record { found = list_found; again = list_again }

constraints_forms : Forms ConstraintsText read_constraints
constraints_forms = record { found = text_found; again = read_only }

err_is : {A : Type 0} {x y : Fault} → x ≡ y → ◌≡◌ {A = Result A Fault} (Err x) (Err y)
err_is e = ap (λ f. let r : Result _ Fault = Err f in r) e

-- what the place for one extension holds, with one more of its name
slot_reads : {A E : Type 0} (Text : List ℕ → A → Type 0) (read : List ℕ → Result A E) → Forms Text read → (value : List ℕ) (slot : Option A) (broken second : Fault)
    (put : Option A → Values) → AllBytes value
    → Reads (filled slot (or_broken (read value) broken) second >>= λ next. Ok (put next))
    (λ next. (slot ≡ None) × (said : A) × Text value said × (next ≡ put (Some said))) (IsSecondOr (Text value) broken slot second)
slot_reads {A = A} {E = E} Text read forms value (Some before) broken second put b = record {
  found = λ next e. absurd cc;
  tells = λ fault. (
    λ e. inl (refl, sym (same_fault _ _ e)),
    λ w. elim w [ inl is ↦ err_is (sym is.1) | inr other ↦ let k = other.0 in absurd cc ],
  );
}
slot_reads {A = A} {E = E} Text read forms value None broken second put b = of (read value) refl
  where
    of : (r : Result A E) → read value ≡ r
        → Reads (filled {A = A} None (or_broken r broken) second >>= λ next. Ok (put next))
        (λ next. (◌≡◌ {A = Option A} None None) × (said : A) × Text value said × (next ≡ put (Some said))) (IsSecondOr {A = A} (Text value) broken None second)
    of (Ok said) k = record {
      found = λ next e. (refl, said, forms.found value said b k, sym (inside _ _ e));
      tells = λ fault. (
        λ e. absurd (right _ fault e),
        λ w. elim w [ inl is ↦ let k = is.0 in absurd cc | inr other ↦ absurd (other.1 said (forms.found value said b k)) ],
      );
    }
    of (Err f) k = record {
      found = λ next e. absurd cc;
      tells = λ fault. (
        λ e. inr (refl, λ said text. let m = sym (forms.again value said text) ∙ k in cc, sym (same_fault _ _ e)),
        λ w. elim w [ inl is ↦ let k = is.0 in absurd cc | inr other ↦ err_is (sym other.2) ],
      );
    }

slot_again : {A E : Type 0} (Text : List ℕ → A → Type 0) (read : List ℕ → Result A E) → Forms Text read → (value : List ℕ) (slot : Option A) (broken second : Fault)
    (put : Option A → Values) (next : Values) → (slot ≡ None) × (said : A) × Text value said × (next ≡ put (Some said))
    → filled slot (or_broken (read value) broken) second >>= (λ next. Ok (put next)) ≡ Ok next
slot_again Text read forms value slot broken second put next (none, said, text, is) = rw (none, forms.again value said text) (ok_is _ _ (sym is))

one_reads : (name : ExtensionName) (values : Values) (read : ExtensionRead) (place inner : ℕ) → AllBytes read.octets.content
    → Reads (values_by name values read place inner) (AddsAs name values (extension_view read)) (IsRefusedBehind name values (extension_view read) place inner)
one_reads BasicConstraints values read place inner b = slot_reads BasicText basic_of basic_forms read.octets.content values.basic _ _ (λ x. record values { basic = x }) b
one_reads KeyUsage values read place inner b = slot_reads UsageText usage_of usage_forms read.octets.content values.usage _ _ (λ x. record values { usage = x }) b
one_reads SubjectKey values read place inner b =
    slot_reads SubjectKeyText subject_key_of subject_key_forms read.octets.content values.subject_key _ _ (λ x. record values { subject_key = x }) b
one_reads AuthorityKey values read place inner b =
    slot_reads AuthorityText authority_of authority_forms read.octets.content values.authority _ _ (λ x. record values { authority = x }) b
one_reads AuthorityList values read place inner b = slot_reads ListText read_list list_forms read.octets.content values.list _ _ (λ x. record values { list = x }) b
one_reads ClaimConstraints values read place inner b =
    slot_reads ConstraintsText read_constraints constraints_forms read.octets.content values.constraints _ _ (λ x. record values { constraints = x }) b
one_reads EnhancedConstraints values read place inner b =
    record { found = λ next e. absurd cc; tells = λ fault. (λ e. sym (same_fault _ _ e), λ is. err_is (sym is)) }
one_reads Unknown values read place inner b = of read.critical refl
  where
    of : (t : Bool) → read.critical ≡ t
        → Reads (cond t (Err (fault_at 6 place)) (Ok values)) (λ next. (read.critical ≡ false) × (next ≡ values)) (λ fault. (read.critical ≡ true) × (fault ≡ fault_at 6 place))
    of true k = record { found = λ next e. absurd cc; tells = λ fault. (λ e. (k, sym (same_fault _ _ e)), λ is. err_is (sym is.1)) }
    of false k = record {
      found = λ next e. (k, sym (inside _ _ e));
      tells = λ fault. (λ e. absurd (right _ fault e), λ is. let m = sym k ∙ is.0 in absurd cc);
    }

one_again : (name : ExtensionName) (values next : Values) (read : ExtensionRead) (place inner : ℕ) → AddsAs name values (extension_view read) next
    → values_by name values read place inner ≡ Ok next
one_again BasicConstraints values next read place inner a = slot_again BasicText basic_of basic_forms read.octets.content values.basic _ _ (λ x. record values { basic = x }) next a
one_again KeyUsage values next read place inner a = slot_again UsageText usage_of usage_forms read.octets.content values.usage _ _ (λ x. record values { usage = x }) next a
one_again SubjectKey values next read place inner a =
    slot_again SubjectKeyText subject_key_of subject_key_forms read.octets.content values.subject_key _ _ (λ x. record values { subject_key = x }) next a
one_again AuthorityKey values next read place inner a =
    slot_again AuthorityText authority_of authority_forms read.octets.content values.authority _ _ (λ x. record values { authority = x }) next a
one_again AuthorityList values next read place inner a = slot_again ListText read_list list_forms read.octets.content values.list _ _ (λ x. record values { list = x }) next a
one_again ClaimConstraints values next read place inner a =
    slot_again ConstraintsText read_constraints constraints_forms read.octets.content values.constraints _ _ (λ x. record values { constraints = x }) next a
one_again EnhancedConstraints values next read place inner a = absurd a
one_again Unknown values next read place inner a = rw a.0 (ok_is _ _ (sym a.1))

-- ---- the extension that an element is

with_reads : (values : Values) (part : PartView) (item : ItemView) → Begins part item
    → Reads (values_with values item) (λ next. (view : ExtensionView) × ExtensionText item.whole view × Adds values view next) (WrongExtension values item)
unfolding values_with
with_reads values part item is =
    broken_reads (extension_of item.whole) item 1 _ _ IsExtension (IsRefusedThere values)
    (λ read e. let o = extension_found item.whole read is.whole_bytes e in ((extension_view read, o.text_is), there read e o))
    (λ x. (opened item.whole x.0 x.1, extension_again item.whole x.0 x.1))
  where
    -- its text says where it is
    there : (read : ExtensionRead) → extension_of item.whole ≡ Ok read → ReadOf item.whole read
        → Reads (values_by (name_of read.oid) values read item.place (item.place + (length item.whole - length read.octets.whole)))
        (λ next. (view : ExtensionView) × ExtensionText item.whole view × Adds values view next) (IsRefusedThere values item)
    there read e o =
        let reads = one_reads (name_of read.oid) values read item.place (item.place + (length item.whole - length read.octets.whole)) o.bytes in
        let Refused : Fault → ExtensionRead → Type 0 =
        λ fault read. IsRefusedBehind (name_of read.oid) values (extension_view read) item.place (item.place + (length item.whole - length read.octets.whole)) fault in
        let same : (view : ExtensionView) (text : ExtensionText item.whole view) → read ≡ opened item.whole view text =
        λ view text. inside read (opened item.whole view text) (sym e ∙ extension_again item.whole view text) in
        record {
          found = λ next k. (extension_view read, o.text_is, (name_of read.oid, name_found read.oid _ refl, reads.found next k));
          tells = λ fault. (
            λ r. record {
              view = extension_view read;
              text = o.text_is;
              name = name_of read.oid;
              named = name_found read.oid _ refl;
              refused = subst (Refused fault) (same (extension_view read) o.text_is) ((reads.tells fault).0 r);
            },
            λ w.
                let by_name = subst (λ n. IsRefusedBehind n values w.view item.place (item.place + (length item.whole - length w.text.value)) fault)
                (sym (name_again w.view.oid w.name w.named)) w.refused in
                (reads.tells fault).1 (subst (Refused fault) (sym (same w.view w.text)) by_name),
          );
        }

with_again : (values next : Values) (text : List ℕ) (view : ExtensionView) (t : ExtensionText text view) (rest : List ℕ) (place : ℕ) → Adds values view next
    → values_with values (item_in place (record { tag = sequence_tag; whole = text; content = t.oid ++ t.behind }) rest) ≡ Ok next
unfolding values_with
with_again values next text view t rest place a =
    after (or_broken (extension_of text) (fault_at 1 place)) (opened text view t) _ _ (kept (extension_of text) _ _ (extension_again text view t))
    (ap (λ n. values_by n values (opened text view t) place (place + (length text - length t.value))) (name_again view.oid a.0 a.1)
    ∙ one_again a.0 values next (opened text view t) place (place + (length text - length t.value)) a.2)

takes : Takes values_with ExtensionText Adds WrongExtension
takes = record {
  reads = with_reads;
  tag = λ text view t. sequence_tag;
  content = λ text view t. t.oid ++ t.behind;
  elem = λ text view t. t.elem;
  again = λ values next text view t rest place a. with_again values next text view t rest place a;
}

-- ---- all extensions

marked_reads : (part : PartView) → AllBytes part.left → Reads (marked_in part) (MarkedText part.left) (First (Unless (IsTagged extensions_tag) 1 (λ marked.
    First (Unless (IsTagged sequence_tag) 1 (λ sequence. Through (WrongBehind ExtensionText Adds WrongExtension no_values) AreExtensions
    (AtEnd (LeftOver marked.behind) sequence.behind) sequence.content)) marked.content)) part)
unfolding marked_in
marked_reads part b =
    element_reads extensions_tag part _ _ _ b (λ marked is_marked.
    element_reads sequence_tag marked.content _ _ _ is_marked.0.content_bytes (λ sequence is_sequence.
    let each = each_reads values_with ExtensionText Adds WrongExtension takes no_values sequence.content is_sequence.0.content_bytes in
    through_reads (each_in values_with no_values sequence.content) sequence.content _ _ (WrongBehind ExtensionText Adds WrongExtension no_values) AreExtensions _ each.tells
    (λ values e.
    let (extensions, texts, come) = each.found values e in
    let are : ExtensionTexts sequence.content.left values = record { extensions = extensions; each = texts; say = come } in (
      (values, are),
      at_end_reads sequence.behind (tt {0}) _ _ (LeftOver marked.behind) (last_tells (ended_at marked.behind) _ (LeftOver marked.behind) (end_tells marked.behind (tt {0})))
          (λ none out k. came_by (ended_at marked.behind) _ out k (λ done d m. subst (MarkedText part.left) (inside _ _ m) (record {
            inner = marked.content.left;
            content = sequence.content.left;
            marked = alone extensions_tag part marked is_marked (ended marked.behind (tt {0}) done d).0;
            sequence = alone sequence_tag marked.content sequence is_sequence none;
            each = are;
          }))),
    ))
    (λ a. (a.0, each_again values_with ExtensionText Adds WrongExtension takes a.1.extensions no_values sequence.content a.0 a.1.each a.1.say))))

marked_again : (text : List ℕ) (place : ℕ) (values : Values) → MarkedText text values → marked_in (at text place) ≡ Ok values
unfolding marked_in
marked_again text place values t =
    let marked : ItemView = item_in place (record { tag = extensions_tag; whole = text; content = t.inner }) [] in
    let sequence : ItemView = item_in marked.content.place (record { tag = sequence_tag; whole = t.inner; content = t.content }) [] in
    after (element_at extensions_tag (at text place)) marked _ _ (element_alone extensions_tag text t.inner place t.marked)
    (after (element_at sequence_tag marked.content) sequence _ _ (element_alone sequence_tag t.inner t.content marked.content.place t.sequence)
    (after (each_in values_with no_values sequence.content) values _ _
    (each_again values_with ExtensionText Adds WrongExtension takes t.each.extensions no_values sequence.content values t.each.each t.each.say) refl))

pub extensions_read : (part : PartView) → AllBytes part.left → Reads (optional_in part) (ExtensionsText part.left) (WrongExtensions part)
unfolding optional_in
extensions_read part b = of (length part.left == 0) refl
  where
    of : (t : Bool) → length part.left == 0 ≡ t → Reads (cond t (Ok no_values) (marked_in part)) (ExtensionsText part.left) (WrongExtensions part)
    of true t = record {
      found = λ values e. inl (no_byte part.left t, sym (inside _ _ e));
      tells = λ fault. (λ e. absurd (right _ fault e), λ w. absurd (grind (arith, nat_tests, t, w.0)));
    }
    of false t =
        let reads = marked_reads part b in
        record {
          found = λ values e. inr (reads.found values e);
          tells = λ fault. (λ e. (grind (arith, nat_tests, t), (reads.tells fault).0 e), λ w. (reads.tells fault).1 w.1);
        }

pub extensions_again : (text : List ℕ) (place : ℕ) (values : Values) → ExtensionsText text values → optional_in (at text place) ≡ Ok values
unfolding optional_in
extensions_again text place values is = elim is [
  | inl none ↦ let test : length text == 0 ≡ true = ap (λ l. length l == 0) none.0 in rw test (ok_is _ _ (sym none.1))
  | inr marked ↦ rw (some_bytes extensions_tag text marked.inner marked.marked) (marked_again text place values marked)
]
