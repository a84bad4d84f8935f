-- Laws of elements that may be absent: they are what is read, and are read as they are.
use Rattle.std.proofs.Common.{◌≡◌, ◌==◌, inl, inr, ℕ, Bool, true, false, cond, List, length, Option, Some, None, Ok, refl, sym, ap, subst, ◌∙◌, arith}
use Rattle.std.proofs.lemmas.Bool.Decides.{nat_tests}
use Rattle.lists.specs.Steps.{◌>>=◌}
use Rattle.lists.proofs.Bytes.{no_byte}
use Rattle.lists.proofs.StepLaws.{after, came, inside}
use Rattle.der_reader.specs.Elem.{AllBytes, BeginsWith, Element, MayBeginWith}
use Rattle.der_reader.specs.Integer.{unsigned_of}
use Rattle.der_reader.specs.Next.{next_at, optional_at, tagged_or}
use Rattle.der_reader.specs.Optional.{IsFlag, IsLimit, flag_of, limit_of}
use Rattle.der_reader.specs.Tags.{boolean_tag, integer_tag}
use Rattle.der_reader.proofs.ElementLaws.{boolean_again, boolean_found}
use Rattle.der_reader.proofs.IntegerLaws.{unsigned_again, unsigned_found}
use Rattle.der_reader.proofs.NextLaws.{next_again, next_found, parts_are_bytes}
use Rattle.der_reader.proofs.PartLaws.{ok_is, some_front}

-- ---- the element

-- what was found, and that it and what comes after it are bytes
pub record Optional (tag : ℕ) (text : List ℕ) (found : Option Element × List ℕ) : Type 0 where
  pub begins : MayBeginWith tag text found.0 found.1
  pub rest_bytes : AllBytes found.1

pub optional_found : (tag : ℕ) (text : List ℕ) (found : Option Element × List ℕ) → AllBytes text → optional_at tag text ≡ Ok found → Optional tag text found
unfolding optional_at
optional_found tag text found b e = by_end (length text == 0) refl e
  where
    by_tag : (a : Element × List ℕ) → BeginsWith text a.0 a.1 → (t : Bool) → a.0.tag == tag ≡ t → Optional tag text (cond t (Some a.0, a.1) (None, text))
    by_tag a begins true t = record { begins = (begins, grind (arith, nat_tests, t)); rest_bytes = (parts_are_bytes text a.0 a.1 b begins).1 }
    by_tag a begins false t = record {
      begins = (refl, inr (record { element = a.0; rest = a.1; begins = begins; other = λ k. absurd (grind (arith, nat_tests, t, k)) }));
      rest_bytes = b;
    }

    by_end : (t : Bool) → length text == 0 ≡ t → cond t (Ok (None, text)) (next_at text >>= λ a. Ok (tagged_or tag text a)) ≡ Ok found → Optional tag text found
    by_end true t e = subst (Optional tag text) (inside (None, text) found e) (record { begins = (refl, inl (no_byte text t)); rest_bytes = b })
    by_end false t e =
        let a = came (next_at text) _ found e in
        subst (Optional tag text) (inside (tagged_or tag text a.0) found a.2) (by_tag a.0 (next_found text a.0 b a.1) (a.0.0.tag == tag) refl)

pub optional_again : (tag : ℕ) (text : List ℕ) (element : Option Element) (rest : List ℕ) → MayBeginWith tag text element rest
    → optional_at tag text ≡ Ok (element, rest)
unfolding optional_at
optional_again tag text (Some element) rest t =
    let some : length text == 0 ≡ false = ap (λ l. length l == 0) t.0.split ∙ some_front element.tag element.whole element.content rest t.0.elem in
    let test : element.tag == tag ≡ true = grind (arith, nat_tests, t.1) in
    rw some (after (next_at text) _ _ _ (next_again text element rest t.0) (rw test refl))
optional_again tag text None rest t = elim t.1 [
  | inl none ↦ let test : length text == 0 ≡ true = ap (λ l. length l == 0) none in rw (test, t.0) refl
  | inr o ↦
      let some : length text == 0 ≡ false = ap (λ l. length l == 0) o.begins.split ∙ some_front o.element.tag o.element.whole o.element.content o.rest o.begins.elem in
      let test : o.element.tag == tag ≡ false = grind (arith, nat_tests, o.other) in
      rw (some, t.0) (after (next_at text) _ _ _ (next_again text o.element o.rest o.begins) (rw test refl))
]

-- ---- what it says

pub flag_found : (boolean : Option Element) (truth : Bool) → flag_of boolean ≡ Ok truth → IsFlag boolean truth
flag_found (Some e) truth r = (boolean_found e.tag e.content truth r).1
flag_found None truth r = sym (inside _ _ r)

pub flag_again : (text rest : List ℕ) (boolean : Option Element) (truth : Bool) → MayBeginWith boolean_tag text boolean rest → IsFlag boolean truth → flag_of boolean ≡ Ok truth
flag_again text rest (Some e) truth m is = boolean_again e.tag e.content truth m.1 is
flag_again text rest None truth m is = ok_is false truth (sym is)

pub limit_found : (integer : Option Element) (limit : Option ℕ) → limit_of integer ≡ Ok limit → IsLimit integer limit
limit_found (Some e) limit r =
    let n = came (unsigned_of e.tag e.content) _ limit r in
    let is = unsigned_found e.tag e.content n.0 n.1 in
    subst (IsLimit (Some e)) (inside (Some n.0) limit n.2) (is.1, is.2)
limit_found None limit r = subst (IsLimit None) (inside None limit r) tt

pub limit_again : (text rest : List ℕ) (integer : Option Element) (limit : Option ℕ) → MayBeginWith integer_tag text integer rest → IsLimit integer limit → limit_of integer ≡ Ok limit
limit_again text rest (Some e) (Some number) m is = after (unsigned_of e.tag e.content) number _ _ (unsigned_again e.tag e.content number m.1 is.0 is.1) refl
limit_again text rest (Some e) None m is = absurd is
limit_again text rest None (Some number) m is = absurd is
limit_again text rest None None m is = refl
