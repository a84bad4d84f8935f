-- What follows from legal rows: which call is the valid one, and which call a replay names.
use Rattle.std.proofs.Common.{◌≡◌, ℕ, ◌≤◌, List, Some, ◌⊎◌, inl, inr, refl, sym, ◌∙◌, ap, arith}
use Rattle.std.specs.List.{slice_get}
use Rattle.std.specs.Option.{option_and_then}
use Rattle.std.proofs.lemmas.Bool.{cases_order}
use Rattle.std.proofs.lemmas.Option.{same_Some, option_and_then_some}
use Rattle.replay_law.specs.Row.{Answer, valid, replay, Row, Uses, Stands}
use Rattle.replay_law.specs.Round.{Round}
use Rattle.replay_law.specs.Log.{row_at, StandsIn, IsBefore, LogWinner}
use Rattle.replay_law.specs.Turn.{EachFirstWins}
use Rattle.replay_law.specs.Law.{FirstOfAll, LegalPassesOnce, NumbersRise, ReplayNamesOne}
use Rattle.replay_law.proofs.Users.{valid_passes, replay_passes}

-- two places are one, or one comes before the other
abbrev pub AreOne : ℕ → ℕ → ℕ → ℕ → Type 0
AreOne round place other_round other = (round ≡ other_round) × (place ≡ other)

pub places : (round place other_round other : ℕ)
    → AreOne round place other_round other ⊎ (IsBefore round place other_round other ⊎ IsBefore other_round other round place)
places round place other_round other =
    elim (cases_order round other_round) [
      | inl same ↦ elim (cases_order place other) [
        | inl is ↦ inl (same, is)
        | inr (inl before) ↦ inr (inl (inr (same, before)))
        | inr (inr behind) ↦ inr (inr (inr (sym same, behind)))
      ]
      | inr (inl before) ↦ inr (inl (inl before))
      | inr (inr behind) ↦ inr (inr (inl behind))
    ]

-- one place has one row
pub one_row : (rounds : List Round) (round place other_round other : ℕ) (row same : Row) → AreOne round place other_round other
    → StandsIn rounds round place row → StandsIn rounds other_round other same → row ≡ same
one_row rounds round place other_round other row same (rounds_are, places_are) stands there =
    same_Some row same (sym stands ∙ (ap (λ r. row_at rounds r place) rounds_are ∙ (ap (λ p. row_at rounds other_round p) places_are ∙ there)))

-- a call that passes with the ticket is the valid one, or a replay of it
pub valid_or_replay : (rounds : List Round) (ticket : List ℕ) (w : LogWinner rounds ticket) (round place : ℕ) (row : Row) → StandsIn rounds round place row
    → Uses ticket row → AreOne round place w.round w.place ⊎ (row.answer ≡ replay w.winner.number)
valid_or_replay rounds ticket w round place row stands uses =
    elim (places round place w.round w.place) [
      | inl one ↦ inl one
      | inr (inl (inl before)) ↦ inr (w.others round place row stands uses (λ same _. absurd (omega arith)))
      | inr (inl (inr (same, before))) ↦ inr (w.others round place row stands uses (λ _ at. absurd (omega arith)))
      | inr (inr (inl behind)) ↦ inr (w.others round place row stands uses (λ same _. absurd (omega arith)))
      | inr (inr (inr (same, behind))) ↦ inr (w.others round place row stands uses (λ _ at. absurd (omega arith)))
    ]

-- ---- the first of a log

-- a row of a round is in the round
in_round : (rounds : List Round) (round place : ℕ) (r : Round) (row : Row) → slice_get rounds round ≡ Some r → StandsIn rounds round place row
    → Stands r.rows place row
in_round rounds round place r row there stands = sym (ap (option_and_then (λ (r : Round). slice_get r.rows place)) there) ∙ stands

-- in a round no call that passes with the ticket comes before the valid one
first_in_round : (rounds : List Round) → EachFirstWins rounds → (round place other : ℕ) (winner row : Row) → StandsIn rounds round place winner
    → winner.answer ≡ valid → StandsIn rounds round other row → Uses winner.ticket row → place ≤ other
first_in_round rounds each round place other winner row stands wins there uses =
    option_and_then_some (λ (r : Round). slice_get r.rows place) (slice_get rounds round) winner stands
    (λ r is at. each round r is place other winner row at wins (in_round rounds round other r row is there) uses)

pub first_of_all : FirstOfAll
first_of_all rounds legal each round place other_round other winner row stands wins there uses before =
    let w = legal.once round place winner stands (valid_passes winner (legal.refused round place winner stands) wins) in
    let first : w.round ≤ other_round = w.first other_round other row there uses in
    elim (valid_or_replay rounds winner.ticket w round place winner stands (record { passes = valid_passes winner (legal.refused round place winner stands) wins; same = refl })) [
      | inl (same, _) ↦ elim before [
        | inl earlier ↦ omega arith
        | inr (is, earlier) ↦
            let below : place ≤ other = first_in_round rounds each round place other winner row stands wins (ap (λ r. row_at rounds r other) (sym is) ∙ there) uses in
            omega arith
      ]
      | inr replayed ↦ let both : valid ≡ replay w.winner.number = sym wins ∙ replayed in absurd (cc)
    ]

-- ---- a valid call is alone

-- it stands where the valid call of its ticket does
at_winner : (rounds : List Round) (ticket : List ℕ) (w : LogWinner rounds ticket) (round place : ℕ) (row : Row) → StandsIn rounds round place row
    → Uses ticket row → row.answer ≡ valid → AreOne round place w.round w.place
at_winner rounds ticket w round place row stands uses wins =
    elim (valid_or_replay rounds ticket w round place row stands uses) [
      | inl one ↦ one
      | inr replayed ↦ let both : valid ≡ replay w.winner.number = sym wins ∙ replayed in absurd (cc)
    ]

pub passes_once : LegalPassesOnce
passes_once rounds legal round place other_round other row same stands wins there uses =
    let passes = valid_passes row (legal.refused round place row stands) wins in
    let w = legal.once round place row stands passes in
    let mine = at_winner rounds row.ticket w round place row stands (record { passes = passes; same = refl }) wins in
    let is = one_row rounds round place w.round w.place row w.winner mine stands w.stands in
    let first : w.round ≤ other_round = w.first other_round other same there uses in
    let here : round ≡ w.round = mine.0 in
    elim (valid_or_replay rounds row.ticket w other_round other same there uses) [
      | inl one ↦ inl (one.0 ∙ sym mine.0, one.1 ∙ sym mine.1)
      | inr replayed ↦ inr (replayed ∙ ap (λ (r : Row). replay r.number) (sym is), omega (arith, first, here))
    ]

-- ---- the call that a replay names

-- an answer names one call
named : (answer : Answer) (number other : ℕ) → answer ≡ replay number → answer ≡ replay other → other ≡ number
named answer number other is also = let both : replay other ≡ replay number = sym also ∙ is in cc

-- no other call of the log has the number of a call
alone : (rounds : List Round) → NumbersRise rounds → (round place other_round other : ℕ) (row same : Row) → StandsIn rounds round place row
    → StandsIn rounds other_round other same → row.number ≡ same.number → row ≡ same
alone rounds rise round place other_round other row same stands there numbers =
    elim (places round place other_round other) [
      | inl one ↦ one_row rounds round place other_round other row same one stands there
      | inr (inl before) ↦ let less = rise round place other_round other row same stands there before in absurd (omega (arith, less, numbers))
      | inr (inr behind) ↦ let less = rise other_round other round place same row there stands behind in absurd (omega (arith, less, numbers))
    ]

pub replay_names_one : ReplayNamesOne
replay_names_one rounds legal rise round place number row stands is =
    let passes = replay_passes row number (legal.refused round place row stands) is in
    let w = legal.once round place row stands passes in
    elim (valid_or_replay rounds row.ticket w round place row stands (record { passes = passes; same = refl })) [
      | inl one ↦
          let same = one_row rounds round place w.round w.place row w.winner one stands w.stands in
          let both : replay number ≡ valid = sym is ∙ (ap (λ (r : Row). r.answer) same ∙ w.wins) in
          absurd (cc)
      | inr replayed ↦
          let names = named row.answer number w.winner.number is replayed in
          record {
            valid_call = w;
            names = names;
            alone = λ r p other there numbers. alone rounds rise r p w.round w.place other w.winner there w.stands (numbers ∙ sym names);
          }
    ]
