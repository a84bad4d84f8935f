-- Whether some call of a list passes with a ticket, and what the answers of a settled round tell of it.
use Rattle.std.proofs.Common.{◌≡◌, ◌≢◌, ℕ, zero, suc, Bool, true, false, List, [], ◌∷◌, ◌⊎◌, inl, inr, refl, sym, ◌∙◌, subst}
use Rattle.std.specs.Str.{bytes_eq}
use Rattle.std.proofs.lemmas.Option.{none-some, same_Some}
use Rattle.std.proofs.lemmas.Slice.Eq.{bytes_eq-Decides}
use Rattle.replay_law.specs.Row.{valid, replay, neither, Row, Uses, Stands}

abbrev pub SomeUser : List ℕ → List Row → Type 0
SomeUser ticket rows = (place : ℕ) × (row : Row) × Stands rows place row × Uses ticket row

abbrev pub NoUser : List ℕ → List Row → Type 0
NoUser ticket rows = (place : ℕ) (row : Row) → Stands rows place row → Uses ticket row → ⊥

-- two tickets are one or two
pub one_ticket : (a b : List ℕ) → (a ≡ b) ⊎ (a ≢ b)
one_ticket a b = by_test (bytes_eq a b) refl where
  by_test : (t : Bool) → bytes_eq a b ≡ t → (a ≡ b) ⊎ (a ≢ b)
  by_test true is = inl ((bytes_eq-Decides a b).0 is)
  by_test false is = inr (λ e. let same = (bytes_eq-Decides a b).1 e in let both : true ≡ false = sym same ∙ is in absurd (cc))

-- a call passes with the ticket, or doesn't
pub uses_or_not : (ticket : List ℕ) (row : Row) → Uses ticket row ⊎ (Uses ticket row → ⊥)
uses_or_not ticket row = by_passes row.passes refl where
  by_passes : (t : Bool) → row.passes ≡ t → Uses ticket row ⊎ (Uses ticket row → ⊥)
  by_passes true is = elim (one_ticket row.ticket ticket) [ inl same ↦ inl (record { passes = is; same = same }) | inr other ↦ inr (λ u. other u.same) ]
  by_passes false is = inr (λ u. let p = u.passes in let both : true ≡ false = sym p ∙ is in absurd (cc))

-- nobody, if a first call doesn't and nobody in the rest does
nobody : (ticket : List ℕ) (row : Row) (rows : List Row) → (Uses ticket row → ⊥) → NoUser ticket rows → NoUser ticket (row ∷ rows)
nobody ticket row rows apart none zero other stands uses = apart (subst (Uses ticket) (sym (same_Some row other stands)) uses)
nobody ticket row rows apart none (suc place) other stands uses = none place other stands uses

-- some call passes with the ticket, or none does
pub user : (ticket : List ℕ) (rows : List Row) → SomeUser ticket rows ⊎ NoUser ticket rows
user ticket [] = inr (λ place row stands uses. none-some row stands)
user ticket (row ∷ rows) =
    elim (uses_or_not ticket row) [
      | inl uses ↦ inl (0, row, refl, uses)
      | inr apart ↦ elim (user ticket rows) [
        | inl (place, other, stands, uses) ↦ inl (suc place, other, stands, uses)
        | inr none ↦ inr (nobody ticket row rows apart none)
      ]
    ]

-- a valid call passes, if those that don't pass are answered otherwise
pub valid_passes : (row : Row) → (row.passes ≡ false → row.answer ≡ neither) → row.answer ≡ valid → row.passes ≡ true
valid_passes row refused wins = by_passes row.passes refl where
  by_passes : (t : Bool) → row.passes ≡ t → row.passes ≡ true
  by_passes true is = is
  by_passes false is = let other = refused is in let both : valid ≡ neither = sym wins ∙ other in absurd (cc)

-- and so does a replay
pub replay_passes : (row : Row) (number : ℕ) → (row.passes ≡ false → row.answer ≡ neither) → row.answer ≡ replay number → row.passes ≡ true
replay_passes row number refused replayed = by_passes row.passes refl where
  by_passes : (t : Bool) → row.passes ≡ t → row.passes ≡ true
  by_passes true is = is
  by_passes false is = let other = refused is in let both : replay number ≡ neither = sym replayed ∙ other in absurd (cc)
