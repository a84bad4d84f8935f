-- Calls that were dropped, and that may be there still.
use Rattle.std.proofs.Common.{◌≡◌, ◌≤◌, ℕ, max, nat_le, Bool, true, false, List, [], ◌∷◌, Option, Some, None, refl, ◌∙◌, ap, arith}
use Rattle.std.specs.List.{AllByRecursion, IsDistinct}
use Rattle.std.specs.Map.{keys_of, lookup}
use Rattle.std.specs.Str.{bytes_eq}
use Rattle.std.proofs.lemmas.Cmp.{nat_list_eq_equiv}
use Rattle.std.proofs.lemmas.Map.Entries.{lookup-filter-values, option_filter}
use Rattle.std.proofs.lemmas.Bool.Decides.{nat_tests}
use Rattle.replay_desk.specs.Past.{kept_from, unless_below}
use Rattle.state_text.specs.State.{Entry}
use Rattle.state_text.specs.declared.kept.Kept.{Kept}

-- a call stays exactly if the moment isn't after its last second
not_below : (moment : ℕ) (call : Option Kept) → option_filter (λ k. nat_le moment k.last) call ≡ unless_below moment call
not_below moment None = refl
not_below moment (Some kept) = grind (arith, nat_tests)

-- what is found from a moment on
pub found_from : (moment : ℕ) (ticket : List ℕ) (es : List Entry) → IsDistinct bytes_eq (keys_of es) → lookup (bytes_eq ticket) (kept_from moment es) ≡ unless_below moment (lookup (bytes_eq ticket) es)
found_from moment ticket es d = lookup-filter-values nat_list_eq_equiv (λ (k : Kept). nat_le moment k.last) ticket es d ∙ not_below moment (lookup (bytes_eq ticket) es)

-- from the later of two moments on
pub below_later : (a b : ℕ) (call : Option Kept) → unless_below (max a b) call ≡ unless_below b (unless_below a call)
below_later a b None = refl
below_later a b (Some kept) = grind (arith, nat_tests)

-- a call in or after the moment
pub stays : (moment : ℕ) (kept : Kept) → moment ≤ kept.last → unless_below moment (Some kept) ≡ Some kept
stays moment kept h = grind (arith, nat_tests)

-- nothing more is dropped by a moment that isn't later
pub kept_still : (a b : ℕ) (es : List Entry) → a ≤ b → kept_from a (kept_from b es) ≡ kept_from b es
kept_still a b [] h = refl
kept_still a b (e ∷ es) h = by_test (nat_le b e.1.last) refl (kept_still a b es h) where
  by_test : (t : Bool) → nat_le b e.1.last ≡ t → kept_from a (kept_from b es) ≡ kept_from b es → kept_from a (kept_from b (e ∷ es)) ≡ kept_from b (e ∷ es)
  by_test true is more =
      let still : nat_le a e.1.last ≡ true = grind (arith, nat_tests) in
      rw is (rw still (ap (λ rest. e ∷ rest) more))
  by_test false is more = rw is more

-- ---- different tickets

apart_left : (moment : ℕ) (ticket : List ℕ) (es : List Entry) → AllByRecursion (λ y. bytes_eq ticket y ≡ false) (keys_of es) → AllByRecursion (λ y. bytes_eq ticket y ≡ false) (keys_of (kept_from moment es))
apart_left moment ticket [] h = tt
apart_left moment ticket (e ∷ es) h = by_test (nat_le moment e.1.last) refl (apart_left moment ticket es h.1) where
  by_test : (t : Bool) → nat_le moment e.1.last ≡ t → AllByRecursion (λ y. bytes_eq ticket y ≡ false) (keys_of (kept_from moment es)) → AllByRecursion (λ y. bytes_eq ticket y ≡ false) (keys_of (kept_from moment (e ∷ es)))
  by_test true is more = rw is (h.0, more)
  by_test false is more = rw is more

pub distinct_left : (moment : ℕ) (es : List Entry) → IsDistinct bytes_eq (keys_of es) → IsDistinct bytes_eq (keys_of (kept_from moment es))
unfolding IsDistinct
distinct_left moment [] d = tt
distinct_left moment (e ∷ es) d = by_test (nat_le moment e.1.last) refl (apart_left moment e.0 es d.0) (distinct_left moment es d.1) where
  by_test : (t : Bool) → nat_le moment e.1.last ≡ t → AllByRecursion (λ y. bytes_eq e.0 y ≡ false) (keys_of (kept_from moment es)) → IsDistinct bytes_eq (keys_of (kept_from moment es)) → IsDistinct bytes_eq (keys_of (kept_from moment (e ∷ es)))
  by_test true is apart more = rw is (apart, more)
  by_test false is apart more = rw is more
