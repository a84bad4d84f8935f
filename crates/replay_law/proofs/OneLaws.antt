-- The same calls, answered twice, have the same answers.
use Rattle.std.proofs.Common.{◌≡◌, ℕ, Bool, true, false, List, inl, inr, refl, sym, ◌∙◌, ap, subst}
use Rattle.std.proofs.lemmas.Option.{same_Some}
use Rattle.replay_law.specs.Law.{HasEach, IsSameCall, OneAnswer}
use Rattle.replay_law.specs.Log.{IsBefore, LogWinner, RowsLegal, StandsIn}
use Rattle.replay_law.specs.Round.{Round}
use Rattle.replay_law.specs.Row.{Row, Uses, replay, valid}
use Rattle.replay_law.specs.Turn.{FirstOfLogWins}
use Rattle.replay_law.proofs.LogLaws.{AreOne, one_row, places, valid_or_replay}

-- the same call passes with the same ticket
uses_too : (ticket : List ℕ) (row other : Row) → IsSameCall row other → Uses ticket row → Uses ticket other
uses_too ticket row other same uses = record { passes = sym same.passes ∙ uses.passes; same = sym same.ticket ∙ uses.same }

-- the valid call of a ticket isn't before that of the other answers
not_before : (rounds others : List Round) (ticket : List ℕ) (w : LogWinner rounds ticket) (v : LogWinner others ticket) → HasEach rounds others
    → FirstOfLogWins others → IsBefore w.round w.place v.round v.place → ⊥
not_before rounds others ticket w v each first before =
    let (there, stands, same) = each w.round w.place w.winner w.stands in
    let uses : Uses ticket there = uses_too ticket w.winner there same w.uses in
    first v.round v.place w.round w.place v.winner there v.stands v.wins stands (record { passes = uses.passes; same = uses.same ∙ sym v.uses.same }) before

-- so both are at one place
one_place : (rounds others : List Round) (ticket : List ℕ) (w : LogWinner rounds ticket) (v : LogWinner others ticket) → HasEach rounds others → HasEach others rounds
    → FirstOfLogWins rounds → FirstOfLogWins others → AreOne w.round w.place v.round v.place
one_place rounds others ticket w v each each_other first first_other =
    elim (places w.round w.place v.round v.place) [
      | inl one ↦ one
      | inr (inl before) ↦ absurd (not_before rounds others ticket w v each first_other before)
      | inr (inr behind) ↦ absurd (not_before others rounds ticket v w each_other first behind)
    ]

-- the call at the place of the valid one is the valid one
pub valid_at : (rounds : List Round) (ticket : List ℕ) (w : LogWinner rounds ticket) (round place : ℕ) (row : Row) → StandsIn rounds round place row
    → AreOne round place w.round w.place → row.answer ≡ valid
valid_at rounds ticket w round place row stands one =
    ap (λ (r : Row). r.answer) (one_row rounds round place w.round w.place row w.winner one stands w.stands) ∙ w.wins

-- and what is at one place of both is one call
one_number : (rounds others : List Round) (ticket : List ℕ) (w : LogWinner rounds ticket) (v : LogWinner others ticket) → HasEach rounds others
    → AreOne w.round w.place v.round v.place → w.winner.number ≡ v.winner.number
one_number rounds others ticket w v each one =
    let (there, stands, same) = each w.round w.place w.winner w.stands in
    same.number ∙ ap (λ (r : Row). r.number) (one_row others w.round w.place v.round v.place there v.winner one stands v.stands)

-- of a call that passes
passing : (rounds others : List Round) (ticket : List ℕ) (w : LogWinner rounds ticket) (v : LogWinner others ticket) → HasEach rounds others
    → AreOne w.round w.place v.round v.place → (round place : ℕ) (row other : Row) → StandsIn rounds round place row → StandsIn others round place other
    → Uses ticket row → Uses ticket other → row.answer ≡ other.answer
passing rounds others ticket w v each one round place row other stands stands_other uses uses_other =
    elim (valid_or_replay rounds ticket w round place row stands uses) [
      | inl here ↦ valid_at rounds ticket w round place row stands here
          ∙ sym (valid_at others ticket v round place other stands_other (here.0 ∙ one.0, here.1 ∙ one.1))
      | inr replayed ↦ elim (valid_or_replay others ticket v round place other stands_other uses_other) [
        | inl here ↦ valid_at rounds ticket w round place row stands (here.0 ∙ sym one.0, here.1 ∙ sym one.1)
            ∙ sym (valid_at others ticket v round place other stands_other here)
        | inr replayed_other ↦ replayed ∙ ap replay (one_number rounds others ticket w v each one) ∙ sym replayed_other
      ]
    ]

-- of each call
by_passes : (rounds others : List Round) → HasEach rounds others → HasEach others rounds → RowsLegal rounds → FirstOfLogWins rounds → RowsLegal others
    → FirstOfLogWins others → (round place : ℕ) (row other : Row) → StandsIn rounds round place row → StandsIn others round place other
    → IsSameCall row other → (t : Bool) → row.passes ≡ t → row.answer ≡ other.answer
by_passes rounds others each each_other legal first legal_other first_other round place row other stands stands_other same false is =
    legal.refused round place row stands is ∙ sym (legal_other.refused round place other stands_other (sym same.passes ∙ is))
by_passes rounds others each each_other legal first legal_other first_other round place row other stands stands_other same true is =
    let uses : Uses row.ticket row = record { passes = is; same = refl } in
    let uses_other : Uses row.ticket other = uses_too row.ticket row other same uses in
    let w : LogWinner rounds row.ticket = legal.once round place row stands is in
    let v : LogWinner others row.ticket = winner_of others legal_other round place row other stands_other same is in
    passing rounds others row.ticket w v each (one_place rounds others row.ticket w v each each_other first first_other) round place row other stands stands_other uses uses_other
  where
    winner_of : (others : List Round) → RowsLegal others → (round place : ℕ) (row other : Row) → StandsIn others round place other → IsSameCall row other
        → row.passes ≡ true → LogWinner others row.ticket
    winner_of others legal round place row other stands same is = subst (LogWinner others) (sym same.ticket) (legal.once round place other stands (sym same.passes ∙ is))

pub one_answer : OneAnswer
one_answer rounds others each each_other legal first legal_other first_other round place row other stands stands_other =
    let (there, stands_there, same) = each round place row stands in
    let is : there ≡ other = same_Some there other (sym stands_there ∙ stands_other) in
    by_passes rounds others each each_other legal first legal_other first_other round place row other stands stands_other (subst (IsSameCall row) is same) row.passes refl
