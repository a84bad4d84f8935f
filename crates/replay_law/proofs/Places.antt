-- The place of a call in its round, and its place in the whole log.
use Rattle.std.proofs.Common.{◌≡◌, ℕ, zero, suc, ◌+◌, ◌<◌, List, [], ◌∷◌, ◌++◌, length, ◌⊎◌, inl, inr, refl, ◌∙◌, ap, arith}
use Rattle.std.proofs.lemmas.Option.{none-some, slice_get_within}
use Rattle.replay_law.specs.ByFirst.{rows_in}
use Rattle.replay_law.specs.Log.{IsBefore, StandsIn}
use Rattle.replay_law.specs.Round.{Round}
use Rattle.replay_law.specs.Row.{Row, Stands}

-- ---- a list after another

-- the place in the whole of a place after these rows
abbrev pub after : List Row → ℕ → ℕ
after [] place = place
after (row ∷ rows) place = suc (after rows place)

pub after_is : (rows : List Row) (place : ℕ) → after rows place ≡ length rows + place
after_is [] place = omega arith
after_is (row ∷ rows) place = let more = after_is rows place in omega (arith, more)

pub in_first : (rows more : List Row) (place : ℕ) (row : Row) → Stands rows place row → Stands (rows ++ more) place row
in_first [] more place row stands = absurd (none-some row stands)
in_first (r ∷ rows) more zero row stands = stands
in_first (r ∷ rows) more (suc place) row stands = in_first rows more place row stands

pub in_second : (rows more : List Row) (place : ℕ) (row : Row) → Stands more place row → Stands (rows ++ more) (after rows place) row
in_second [] more place row stands = stands
in_second (r ∷ rows) more place row stands = in_second rows more place row stands

pub in_either : (rows more : List Row) (place : ℕ) (row : Row) → Stands (rows ++ more) place row
    → Stands rows place row ⊎ ((other : ℕ) × Stands more other row × (after rows other ≡ place))
in_either [] more place row stands = inr (place, stands, refl)
in_either (r ∷ rows) more zero row stands = inl stands
in_either (r ∷ rows) more (suc place) row stands =
    elim (in_either rows more place row stands) [
      | inl first ↦ inl first
      | inr (other, second, is) ↦ inr (other, second, ap suc is)
    ]

-- ---- the rounds of a log

-- the place in the log of a place in a round
abbrev pub place_of : List Round → ℕ → ℕ → ℕ
place_of [] round place = place
place_of (r ∷ rounds) zero place = place
place_of (r ∷ rounds) (suc round) place = after r.rows (place_of rounds round place)

pub in_log : (rounds : List Round) (round place : ℕ) (row : Row) → StandsIn rounds round place row → Stands (rows_in rounds) (place_of rounds round place) row
in_log [] round place row stands = absurd (none-some row stands)
in_log (r ∷ rounds) zero place row stands = in_first r.rows (rows_in rounds) place row stands
in_log (r ∷ rounds) (suc round) place row stands =
    in_second r.rows (rows_in rounds) (place_of rounds round place) row (in_log rounds round place row stands)

-- where a call of the log is
abbrev pub InRound : List Round → ℕ → Row → Type 0
InRound rounds place row = (round other : ℕ) × StandsIn rounds round other row × (place_of rounds round other ≡ place)

pub in_round : (rounds : List Round) (place : ℕ) (row : Row) → Stands (rows_in rounds) place row → InRound rounds place row
in_round [] place row stands = absurd (none-some row stands)
in_round (r ∷ rounds) place row stands =
    elim (in_either r.rows (rows_in rounds) place row stands) [
      | inl here ↦ (0, place, here, refl)
      | inr (other, later, is) ↦
          let (round, there, stands_there, same) = in_round rounds other row later in
          (suc round, there, stands_there, ap (after r.rows) same ∙ is)
    ]

-- what comes before in the rounds comes before in the log
pub before_in_log : (rounds : List Round) (round place other_round other : ℕ) (row later : Row) → StandsIn rounds round place row
    → StandsIn rounds other_round other later → IsBefore round place other_round other → place_of rounds round place < place_of rounds other_round other
before_in_log [] round place other_round other row later stands there before = absurd (none-some row stands)
before_in_log (r ∷ rounds) zero place zero other row later stands there before =
    elim before [ inl less ↦ absurd (omega arith) | inr (same, less) ↦ less ]
before_in_log (r ∷ rounds) zero place (suc other_round) other row later stands there before =
    let within = slice_get_within r.rows place row stands in
    let is = after_is r.rows (place_of rounds other_round other) in
    omega (arith, within, is)
before_in_log (r ∷ rounds) (suc round) place zero other row later stands there before =
    elim before [ inl less ↦ absurd (omega arith) | inr (same, less) ↦ absurd (omega arith) ]
before_in_log (r ∷ rounds) (suc round) place (suc other_round) other row later stands there before =
    let less = before_in_log rounds round place other_round other row later stands there
    (elim before [ inl less ↦ inl (omega arith) | inr (same, less) ↦ inr (omega arith, less) ]) in
    let is = after_is r.rows (place_of rounds round place) in
    let other_is = after_is r.rows (place_of rounds other_round other) in
    omega (arith, less, is, other_is)
