-- What is said of a text that is all that comes of a call.
use Rattle.std.proofs.Common.{◌≡◌, ℕ, ◌<◌, ◌≤◌, Bool, true, false, List, ◌++◌, drop, length, nat_le, refl, sym, ap, subst, arith}
use Rattle.std.proofs.lemmas.Bool.Decides.{nat_tests}
use Rattle.stir_c.specs.Written.{HasWritten}
use Rattle.stir_c.specs.WrittenText.{ToldText, said_written}
use Rattle.stir_c.specs.declared.said.Said.{Said}

kind_of : (size : ℕ) (written : Bool) → (said_written size written).kind ≤ 4
kind_of size true = omega arith
kind_of size false = omega arith

pub text_kinds : (text before now : List ℕ) (said : Said) → ToldText text before now said → said.kind ≤ 4
text_kinds text before now said so = subst (λ (s : Said). s.kind ≤ 4) (sym so.told_is) (kind_of (length text) so.written)

into_as : (text before now : List ℕ) (written : Bool) (said : Said) → HasWritten text before now written → said ≡ said_written (length text) written → said.kind ≡ 0
    → (said.size ≡ length text) × (now ≡ text ++ drop (length text) before)
into_as text before now true said wrote is zero = (ap (λ (s : Said). s.size) is, wrote.text_is refl)
into_as text before now false said wrote is zero = absurd (let four = subst (λ (s : Said). s.kind ≡ 0) is zero in omega (arith, four))

pub text_into : (text before now : List ℕ) (said : Said) → ToldText text before now said → said.kind ≡ 0 → (said.size ≡ length text) × (now ≡ text ++ drop (length text) before)
text_into text before now said so zero = into_as text before now so.written said so.wrote so.told_is zero

more_as : (text before now : List ℕ) (written : Bool) (said : Said) → HasWritten text before now written → said ≡ said_written (length text) written → said.kind ≡ 4
    → (said.size ≡ length text) × (length before < said.size)
more_as text before now true said wrote is four = absurd (let zero = subst (λ (s : Said). s.kind ≡ 4) is four in omega (arith, zero))
more_as text before now false said wrote is four =
    let small : nat_le (length text) (length before) ≡ false = sym wrote.exactly in
    let size : said.size ≡ length text = ap (λ (s : Said). s.size) is in
    let more : length before < length text = grind (arith, nat_tests) in
    (size, subst (λ n. length before < n) (sym size) more)

pub text_more : (text before now : List ℕ) (said : Said) → ToldText text before now said → said.kind ≡ 4 → (said.size ≡ length text) × (length before < said.size)
text_more text before now said so four = more_as text before now so.written said so.wrote so.told_is four

middle_as : (size : ℕ) (written : Bool) → 1 ≤ (said_written size written).kind → (said_written size written).kind ≤ 3 → ⊥
middle_as size true some few = omega arith
middle_as size false some few = omega arith

-- no other kind is said of it
pub no_middle : (text before now : List ℕ) (said : Said) → ToldText text before now said → 1 ≤ said.kind → said.kind ≤ 3 → ⊥
no_middle text before now said so some few =
    middle_as (length text) so.written (subst (λ (s : Said). 1 ≤ s.kind) so.told_is some) (subst (λ (s : Said). s.kind ≤ 3) so.told_is few)

unwritten_as : (size : ℕ) (written : Bool) → 1 ≤ (said_written size written).kind → written ≡ false
unwritten_as size true high = absurd (omega arith)
unwritten_as size false high = refl

pub high_unwritten : (text before now : List ℕ) (said : Said) → ToldText text before now said → 1 ≤ said.kind → now ≡ before
high_unwritten text before now said so high = so.wrote.as_was (unwritten_as (length text) so.written (subst (λ (s : Said). 1 ≤ s.kind) so.told_is high))
