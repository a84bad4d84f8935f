-- The test that stops at the limit tells whether a value has a deterministic form.
use Rattle.std.proofs.Common.{◌≡◌, ◌↔◌, ℕ, ◌-◌, ◌≤◌, true, false, not, nat_lt, IsTrue, refl, arith}
use Rattle.std.proofs.lemmas.Bool.Decides.{nat_tests}
use Rattle.serde_json.specs.Data.{Data, null, boolean, number, string, array, object, Items, no_items, item, Members, no_members, member, depth, items_depth, members_depth, Num, unsigned, negative, float}
use Rattle.serde_json.specs.Find.{is_float}
use Rattle.serde_json.specs.Written.{has_float, items_have_float, members_have_float}
use Rattle.passport_json.specs.Deterministic.{IsWritable, most_deep, is_plain, are_plain_items, are_plain_members}
use Rattle.std.proofs.lemmas.Bool.{and_parts, or_parts}

number_found : (n : Num) → not (is_float n) ≡ true → is_float n ≡ false
number_found (unsigned n) h = refl
number_found (negative z) h = refl
number_found (float x) h = absurd cc

mutual
  plain_found : (most : ℕ) (value : Data) → is_plain most value ≡ true → (has_float value ≡ false) × (depth value ≤ most)
  plain_found most null h = (refl, omega arith)
  plain_found most (boolean b) h = (refl, omega arith)
  plain_found most (number n) h = (number_found n h, omega arith)
  plain_found most (string s) h = (refl, omega arith)
  plain_found most (array items) h =
      let k = and_parts (nat_lt 0 most) (are_plain_items (most - 1) items) h in
      let rest = items_found (most - 1) items k.1 in
      (rest.0, grind (arith, nat_tests, k.0, rest.1))
  plain_found most (object members) h =
      let k = and_parts (nat_lt 0 most) (are_plain_members (most - 1) members) h in
      let rest = members_found (most - 1) members k.1 in
      (rest.0, grind (arith, nat_tests, k.0, rest.1))

  items_found : (most : ℕ) (items : Items) → are_plain_items most items ≡ true → (items_have_float items ≡ false) × (items_depth items ≤ most)
  items_found most no_items h = (refl, omega arith)
  items_found most (item value items) h =
      let k = and_parts (is_plain most value) (are_plain_items most items) h in
      let one = plain_found most value k.0 in
      let rest = items_found most items k.1 in
      (rw (one.0, rest.0) refl, omega (arith, one.1, rest.1))

  members_found : (most : ℕ) (members : Members) → are_plain_members most members ≡ true → (members_have_float members ≡ false) × (members_depth members ≤ most)
  members_found most no_members h = (refl, omega arith)
  members_found most (member name value members) h =
      let k = and_parts (is_plain most value) (are_plain_members most members) h in
      let one = plain_found most value k.0 in
      let rest = members_found most members k.1 in
      (rw (one.0, rest.0) refl, omega (arith, one.1, rest.1))

mutual
  plain_again : (most : ℕ) (value : Data) → has_float value ≡ false → depth value ≤ most → is_plain most value ≡ true
  plain_again most null f d = refl
  plain_again most (boolean b) f d = refl
  plain_again most (number n) f d = rw f refl
  plain_again most (string s) f d = refl
  plain_again most (array items) f d =
      let some : nat_lt 0 most ≡ true = grind (arith, nat_tests, d) in
      rw (some, items_again (most - 1) items f (omega (arith, d))) refl
  plain_again most (object members) f d =
      let some : nat_lt 0 most ≡ true = grind (arith, nat_tests, d) in
      rw (some, members_again (most - 1) members f (omega (arith, d))) refl

  items_again : (most : ℕ) (items : Items) → items_have_float items ≡ false → items_depth items ≤ most → are_plain_items most items ≡ true
  items_again most no_items f d = refl
  items_again most (item value items) f d =
      let k = or_parts (has_float value) (items_have_float items) f in
      rw (plain_again most value k.0 (omega (arith, d)), items_again most items k.1 (omega (arith, d))) refl

  members_again : (most : ℕ) (members : Members) → members_have_float members ≡ false → members_depth members ≤ most → are_plain_members most members ≡ true
  members_again most no_members f d = refl
  members_again most (member name value members) f d =
      let k = or_parts (has_float value) (members_have_float members) f in
      rw (plain_again most value k.0 (omega (arith, d)), members_again most members k.1 (omega (arith, d))) refl

pub plain_writable : (value : Data) → IsTrue (is_plain most_deep value) ↔ IsWritable value
plain_writable value = (
  (λ h. let k = plain_found most_deep value h in record { no_float = k.0; shallow = k.1 }),
  (λ w. plain_again most_deep value w.no_float w.shallow),
)
