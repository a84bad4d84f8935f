-- The test of a payload passes exactly if it meets the constraints.
use Rattle.std.proofs.Common.{◌≡◌, ◌↔◌, IsTrue, ℕ, zero, suc, ◌||◌, Bool, true, false, List, [], ◌∷◌, Option, Some, None, is_some, refl, sym, ap, ◌∙◌, arith}
use Rattle.std.proofs.lemmas.Bool.{and_parts}
use Rattle.std.specs.Cmp.Derive.{both_true}
use Rattle.std.specs.List.{Contains, list_all, list_any}
use Rattle.std.specs.Str.{bytes_eq}
use Rattle.lists.proofs.Bytes.{bytes_same, same_bytes}
use Rattle.serde_json.specs.Data.{Data, null, boolean, number, string, array, object}
use Rattle.serde_json.specs.Find.{get}
use Rattle.claim_constraints.specs.Constraints.{ConstraintsView, PermitView}
use Rattle.claim_constraints.specs.Meets.{HasMember, IsTextOf, Meets, is_one_of, is_permitted, meets, permits, stands}

-- ---- lists

passes_each : {X : Type 0} (p : X → Bool) (xs : List X) → list_all p xs ≡ true → (x : X) → Contains xs x → p x ≡ true
passes_each p [] all x (k, within, is) = absurd (omega (arith, within))
passes_each p (y ∷ ys) all x (zero, within, is) = ap p (sym is) ∙ (and_parts (p y) (list_all p ys) all).0
passes_each p (y ∷ ys) all x (suc k, within, is) = passes_each p ys (and_parts (p y) (list_all p ys) all).1 x (k, omega (arith, within), is)

each_passes : {X : Type 0} (p : X → Bool) (xs : List X) → ((x : X) → Contains xs x → p x ≡ true) → list_all p xs ≡ true
each_passes p [] each = refl
each_passes p (y ∷ ys) each =
    both_true (each y (zero, omega arith, refl)) (each_passes p ys (λ x c. let (k, within, is) = c in each x (suc k, omega (arith, within), is)))

any_contained : (text : List ℕ) (values : List (List ℕ)) → list_any (bytes_eq text) values ≡ true → Contains values text
any_contained text [] e = cc
any_contained text (value ∷ others) e = of (any_contained text others) (bytes_eq text value) refl e
  where
    of : (list_any (bytes_eq text) others ≡ true → Contains others text) → (t : Bool) → bytes_eq text value ≡ t
        → (t || list_any (bytes_eq text) others) ≡ true → Contains (value ∷ others) text
    of more true k e = (zero, omega arith, sym (bytes_same text value k))
    of more false k e = let (n, within, is) = more e in (suc n, omega (arith, within), is)

contained_any : (text : List ℕ) (values : List (List ℕ)) → Contains values text → list_any (bytes_eq text) values ≡ true
contained_any text [] (k, within, is) = absurd (omega (arith, within))
contained_any text (value ∷ others) (zero, within, is) = let same : bytes_eq text value ≡ true = ap (bytes_eq text) is ∙ same_bytes text in rw same refl
contained_any text (value ∷ others) (suc k, within, is) = of (bytes_eq text value) (contained_any text others (k, omega (arith, within), is))
  where
    of : (t : Bool) → list_any (bytes_eq text) others ≡ true → (t || list_any (bytes_eq text) others) ≡ true
    of true e = refl
    of false e = e

-- ---- a member

is_there : (found : Option Data) → is_some found ≡ true → (value : Data) × (found ≡ Some value)
is_there None e = cc
is_there (Some value) e = (value, refl)

text_of_them : (values : List (List ℕ)) (value : Data) → is_one_of values value ≡ true → IsTextOf values value
text_of_them values null e = cc
text_of_them values (boolean b) e = cc
text_of_them values (number n) e = cc
text_of_them values (string text) e = (text, refl, any_contained text values e)
text_of_them values (array items) e = cc
text_of_them values (object all) e = cc

one_of_them : (values : List (List ℕ)) (value : Data) → IsTextOf values value → is_one_of values value ≡ true
one_of_them values value (text, is, c) = ap (is_one_of values) is ∙ contained_any text values c

permitted : (permit : PermitView) (payload : Data) → ((value : Data) → HasMember payload permit.claim value → IsTextOf permit.values value)
    → permits payload permit ≡ true
permitted permit payload each = of (get permit.claim payload) refl
  where
    of : (found : Option Data) → get permit.claim payload ≡ found → is_permitted permit.values found ≡ true
    of None k = refl
    of (Some value) k = one_of_them permit.values value (each value k)

-- ---- all of them

pub meets_law : (c : ConstraintsView) (payload : Data) → (meets c payload ≡ true) ↔ Meets c payload
unfolding meets
meets_law c payload = (
  λ e.
      let parts = and_parts (list_all (stands payload) c.must) (list_all (permits payload) c.permits) e in
      record {
        must = λ name c. is_there (get name payload) (passes_each (stands payload) _ parts.0 name c);
        permits = λ permit value c has.
            text_of_them permit.values value (ap (is_permitted permit.values) (sym has) ∙ passes_each (permits payload) _ parts.1 permit c);
      },
  λ m.
      both_true
      (each_passes (stands payload) c.must (λ name k. let found = m.must name k in ap is_some found.1))
      (each_passes (permits payload) c.permits (λ permit k. permitted permit payload (λ value has. m.permits permit value k has))),
)

-- the same of an answer
pub answer_meets : (answer : Bool) (c : ConstraintsView) (payload : Data) → answer ≡ meets c payload → IsTrue answer ↔ Meets c payload
answer_meets answer c payload e = (λ t. (meets_law c payload).0 (sym e ∙ t), λ m. e ∙ (meets_law c payload).1 m)
