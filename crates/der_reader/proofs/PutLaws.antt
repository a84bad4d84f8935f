-- What was written is read back.
use Rattle.std.proofs.Common.{◌≡◌, ℕ, ◌+◌, ◌<◌, List, ◌++◌, length, length-append, arith, drop, Result, Ok, Err, OnOk, refl, sym, ap, subst, ◌∙◌}
use Rattle.std.proofs.Math.Seq.{drop-append_seam}
use Rattle.der_reader.specs.Elem.{Elem}
use Rattle.der_reader.specs.Put.{AddsElement, ReadsBack}
use Rattle.der_reader.proofs.NextLaws.{next_again}
use Rattle.der_reader.proofs.PartLaws.{element_length}

reads_back : (old new : List ℕ) (tag : ℕ) (content : List ℕ) → AddsElement old new tag content
    → ReadsBack old new tag content
reads_back old new tag content a =
    let is : drop (length old) new ≡ a.added = ap (λ n. drop (length old) n) a.behind ∙ drop-append_seam old a.added in
    record {
      reads = λ more. next_again (drop (length old) new ++ more) _ more (record {
        elem = subst (λ w. Elem w tag content) (sym is) a.elem;
        split = refl;
      });
    }

pub added_reads_back : {X E : Type 0} (old new : List ℕ) (tag : ℕ) (content : List ℕ) (r : Result X E)
    → OnOk r (AddsElement old new tag content) → OnOk r (ReadsBack old new tag content)
added_reads_back old new tag content (Ok x) a = reads_back old new tag content a
added_reads_back old new tag content (Err e) a = a

-- how much longer a few bytes make it
pub added_short : {X E : Type 0} (old new : List ℕ) (tag : ℕ) (content : List ℕ) (r : Result X E) → OnOk r (AddsElement old new tag content)
    → OnOk r (length content < 128 → length new ≡ length old + (2 + length content))
added_short old new tag content (Ok x) a = λ l. omega (arith, ap length a.behind, ap length a.elem.text, length-append old a.added, element_length tag content l)
added_short old new tag content (Err e) a = a
