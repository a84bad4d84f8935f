-- Answers by the first call of each ticket.
use Rattle.std.specs.List.{slice_get}
use Rattle.std.proofs.lemmas.Bool.{cases_order}
use Rattle.std.proofs.Common.{◌≡◌, ℕ, zero, suc, ◌<◌, ◌≤◌, Bool, true, false, List, [], ◌∷◌, inl, inr, refl, sym, ◌∙◌, ap, subst, arith}
use Rattle.std.proofs.lemmas.Option.{none-some, same_Some}
use Rattle.replay_law.specs.ByFirst.{AnsweredByFirst, AreAnsweredAlike, AreSameCalls, FirstIsLegal, IsFirst, LegalIsFirst, OneByFirst, rows_in}
use Rattle.replay_law.specs.Law.{IsSameCall}
use Rattle.replay_law.specs.Log.{IsBefore, LogWinner, RowsLegal, StandsIn}
use Rattle.replay_law.specs.Round.{Round}
use Rattle.replay_law.specs.Row.{Row, Stands, Uses, replay, valid}
use Rattle.replay_law.specs.Turn.{FirstOfLogWins}
use Rattle.replay_law.proofs.LogLaws.{AreOne, one_row, places, valid_or_replay}
use Rattle.replay_law.proofs.OneLaws.{valid_at}
use Rattle.replay_law.proofs.Places.{InRound, before_in_log, in_log, in_round, place_of}
use Rattle.replay_law.proofs.Users.{uses_or_not, valid_passes}

-- ---- the first call that passes with a ticket

abbrev SomeFirst : List Row → List ℕ → Type 0
SomeFirst rows ticket = (place : ℕ) × (row : Row) × IsFirst rows ticket place row

-- it is the first of the list, or that of the rest
first_here : (row : Row) (rows : List Row) (ticket : List ℕ) → Uses ticket row → SomeFirst (row ∷ rows) ticket
first_here row rows ticket uses = (0, row, record { stands = refl; uses = uses; none_before = λ other same stands also. omega arith })

first_later : (row : Row) (rows : List Row) (ticket : List ℕ) → (Uses ticket row → ⊥) → SomeFirst rows ticket → SomeFirst (row ∷ rows) ticket
first_later row rows ticket apart (place, winner, is) =
    (suc place, winner, record { stands = is.stands; uses = is.uses; none_before = none_before })
  where
    none_before : (other : ℕ) (same : Row) → Stands (row ∷ rows) other same → Uses ticket same → suc place ≤ other
    none_before zero same stands also = absurd (apart (subst (Uses ticket) (sym (same_Some row same stands)) also))
    none_before (suc other) same stands also = let below = is.none_before other same stands also in omega (arith, below)

some_first : (rows : List Row) (ticket : List ℕ) (place : ℕ) (row : Row) → Stands rows place row → Uses ticket row → SomeFirst rows ticket
some_first [] ticket place row stands uses = absurd (none-some row stands)
some_first (r ∷ rows) ticket zero row stands uses = first_here r rows ticket (subst (Uses ticket) (sym (same_Some r row stands)) uses)
some_first (r ∷ rows) ticket (suc place) row stands uses =
    elim (uses_or_not ticket r) [
      | inl here ↦ first_here r rows ticket here
      | inr apart ↦ first_later r rows ticket apart (some_first rows ticket place row stands uses)
    ]

-- ---- such answers are legal

-- the first call that passes with the ticket is its valid one
winner_by : (rounds : List Round) → AnsweredByFirst (rows_in rounds) → (ticket : List ℕ) (place : ℕ) (winner : Row)
    → IsFirst (rows_in rounds) ticket place winner → InRound rounds place winner → LogWinner rounds ticket
winner_by rounds by ticket place winner is (round, at, stands, same) = record {
  round = round;
  place = at;
  winner = winner;
  stands = stands;
  uses = is.uses;
  wins = by.first place winner (record { stands = is.stands; uses = record { passes = is.uses.passes; same = refl }; none_before = own_ticket });
  first = first;
  others = others;
} where
  own_ticket : (other : ℕ) (row : Row) → Stands (rows_in rounds) other row → Uses winner.ticket row → place ≤ other
  own_ticket other row stands uses = is.none_before other row stands (record { passes = uses.passes; same = uses.same ∙ is.uses.same })

  with_ticket : (row : Row) → Uses ticket row → IsFirst (rows_in rounds) row.ticket place winner
  with_ticket row uses = subst (λ t. IsFirst (rows_in rounds) t place winner) (sym uses.same) is

  -- no call with the ticket comes before it
  not_before : (other_round other : ℕ) (row : Row) → StandsIn rounds other_round other row → Uses ticket row → IsBefore other_round other round at → ⊥
  not_before other_round other row there uses before =
      let less = before_in_log rounds other_round other round at row winner there stands before in
      let below = is.none_before (place_of rounds other_round other) row (in_log rounds other_round other row there) uses in
      omega (arith, less, below, same)

  first : (other_round other : ℕ) (row : Row) → StandsIn rounds other_round other row → Uses ticket row → round ≤ other_round
  first other_round other row there uses =
      elim (places round at other_round other) [
        | inl one ↦ let e = one.0 in omega (arith, e)
        | inr (inl (inl before)) ↦ omega (arith, before)
        | inr (inl (inr (e, before))) ↦ omega (arith, e)
        | inr (inr behind) ↦ absurd (not_before other_round other row there uses behind)
      ]

  others : (other_round other : ℕ) (row : Row) → StandsIn rounds other_round other row → Uses ticket row → (other_round ≡ round → other ≡ at → ⊥)
      → row.answer ≡ replay winner.number
  others other_round other row there uses elsewhere =
      elim (places round at other_round other) [
        | inl one ↦ absurd (elsewhere (sym one.0) (sym one.1))
        | inr (inr behind) ↦ absurd (not_before other_round other row there uses behind)
        | inr (inl before) ↦
            let less = before_in_log rounds round at other_round other winner row stands there before in
            by.later place (place_of rounds other_round other) winner row (with_ticket row uses) (in_log rounds other_round other row there) uses.passes
            (omega (arith, less, same))
      ]

legal_by : (rounds : List Round) → AnsweredByFirst (rows_in rounds) → RowsLegal rounds
legal_by rounds by = record {
  refused = λ round place row stands. by.refused (place_of rounds round place) row (in_log rounds round place row stands);
  once = λ round place row stands passes.
      let (at, winner, is) = some_first (rows_in rounds) row.ticket (place_of rounds round place) row (in_log rounds round place row stands)
      (record { passes = passes; same = refl }) in
      winner_by rounds by row.ticket at winner is (in_round rounds at winner is.stands);
}

-- a valid call is the first that passes with its ticket
first_wins_by : (rounds : List Round) → AnsweredByFirst (rows_in rounds) → FirstOfLogWins rounds
first_wins_by rounds by round place other_round other winner row stands wins there uses before =
    let passes = valid_passes winner (by.refused (place_of rounds round place) winner (in_log rounds round place winner stands)) wins in
    let (at, first, is) = some_first (rows_in rounds) winner.ticket (place_of rounds other_round other) row (in_log rounds other_round other row there) uses in
    let below = is.none_before (place_of rounds other_round other) row (in_log rounds other_round other row there) uses in
    let less = before_in_log rounds other_round other round place row winner there stands before in
    let replayed = by.later at (place_of rounds round place) first winner is (in_log rounds round place winner stands) passes (omega (arith, below, less)) in
    let both : valid ≡ replay first.number = sym wins ∙ replayed in
    absurd (cc)

pub first_is_legal : FirstIsLegal
first_is_legal rounds by = (legal_by rounds by, first_wins_by rounds by)

-- ---- and legal answers of which the first call wins are such answers

-- the first call that passes with a ticket is where its valid call is
at_winner : (rounds : List Round) (ticket : List ℕ) (w : LogWinner rounds ticket) → FirstOfLogWins rounds → (place : ℕ) (first : Row)
    → IsFirst (rows_in rounds) ticket place first → (round at : ℕ) → StandsIn rounds round at first → place_of rounds round at ≡ place
    → AreOne round at w.round w.place
at_winner rounds ticket w wins place first is round at stands same =
    elim (places round at w.round w.place) [
      | inl one ↦ one
      | inr (inl before) ↦ absurd (wins w.round w.place round at w.winner first w.stands w.wins stands
          (record { passes = is.uses.passes; same = is.uses.same ∙ sym w.uses.same }) before)
      | inr (inr behind) ↦
          let less = before_in_log rounds w.round w.place round at w.winner first w.stands stands behind in
          let below = is.none_before (place_of rounds w.round w.place) w.winner (in_log rounds w.round w.place w.winner w.stands) w.uses in
          absurd (omega (arith, less, below, same))
    ]

first_answer : (rounds : List Round) → RowsLegal rounds → FirstOfLogWins rounds → (place : ℕ) (row : Row) → IsFirst (rows_in rounds) row.ticket place row
    → InRound rounds place row → row.answer ≡ valid
first_answer rounds legal wins place row is (round, at, stands, same) =
    let w = legal.once round at row stands is.uses.passes in
    valid_at rounds row.ticket w round at row stands (at_winner rounds row.ticket w wins place row is round at stands same)

later_answer : (rounds : List Round) → RowsLegal rounds → FirstOfLogWins rounds → (place other : ℕ) (winner row : Row)
    → IsFirst (rows_in rounds) row.ticket place winner → row.passes ≡ true → place < other → InRound rounds place winner → InRound rounds other row
    → row.answer ≡ replay winner.number
later_answer rounds legal wins place other winner row is passes less (round, at, stands, same) (other_round, there, stands_there, also) =
    let w = legal.once other_round there row stands_there passes in
    let one = at_winner rounds row.ticket w wins place winner is round at stands same in
    let named : winner ≡ w.winner = one_row rounds round at w.round w.place winner w.winner one stands w.stands in
    elim (valid_or_replay rounds row.ticket w other_round there row stands_there (record { passes = passes; same = refl })) [
      | inl here ↦
          let e : place_of rounds other_round there ≡ place_of rounds round at = ap (λ r. place_of rounds r there) (here.0 ∙ sym one.0) ∙ ap (place_of rounds round) (here.1 ∙ sym one.1) in
          absurd (omega (arith, e, same, also, less))
      | inr replayed ↦ replayed ∙ ap (λ (r : Row). replay r.number) (sym named)
    ]

pub legal_is_first : LegalIsFirst
legal_is_first rounds legal wins = record {
  refused = λ place row stands. let (round, at, stands_there, same) = in_round rounds place row stands in legal.refused round at row stands_there;
  first = λ place row is. first_answer rounds legal wins place row is (in_round rounds place row is.stands);
  later = λ place other winner row is stands passes less.
      later_answer rounds legal wins place other winner row is passes less (in_round rounds place winner is.stands) (in_round rounds other row stands);
}

-- ---- the same calls have one list of such answers

-- a place of the one is a place of the other, with the same call
same_at : (rows others : List Row) → AreSameCalls rows others → (place : ℕ) (row : Row) → Stands rows place row
    → (other : Row) × Stands others place other × IsSameCall row other
same_at [] others same place row stands = absurd (none-some row stands)
same_at (r ∷ rows) [] same place row stands = absurd same
same_at (r ∷ rows) (other ∷ others) (one, more) zero row stands = (other, refl, subst (λ row. IsSameCall row other) (same_Some r row stands) one)
same_at (r ∷ rows) (other ∷ others) (one, more) (suc place) row stands = same_at rows others more place row stands

same_back : (rows others : List Row) → AreSameCalls rows others → AreSameCalls others rows
same_back [] [] same = same
same_back [] (other ∷ others) same = absurd same
same_back (row ∷ rows) [] same = absurd same
same_back (row ∷ rows) (other ∷ others) (one, more) =
    (record { number = sym one.number; ticket = sym one.ticket; passes = sym one.passes }, same_back rows others more)

uses_same : (ticket : List ℕ) (row other : Row) → IsSameCall row other → Uses ticket row → Uses ticket other
uses_same ticket row other same uses = record { passes = sym same.passes ∙ uses.passes; same = sym same.ticket ∙ uses.same }

-- the first of the one is the first of the other
first_at : (rows others : List Row) → AreSameCalls rows others → (ticket : List ℕ) (place : ℕ) (row : Row) → IsFirst rows ticket place row
    → (other : Row) × IsFirst others ticket place other × IsSameCall row other
first_at rows others same ticket place row is =
    let (other, stands, one) = same_at rows others same place row is.stands in
    (other, record { stands = stands; uses = uses_same ticket row other one is.uses; none_before = none_before }, one)
  where
    none_before : (at : ℕ) (there : Row) → Stands others at there → Uses ticket there → place ≤ at
    none_before at there stands uses =
        let (back, stands_back, one) = same_at others rows (same_back rows others same) at there stands in
        is.none_before at back stands_back (uses_same ticket there back one uses)

-- of a call that passes
passing_alike : (rows others : List Row) → AreSameCalls rows others → AnsweredByFirst rows → AnsweredByFirst others → (place : ℕ) (row other : Row)
    → Stands rows place row → Stands others place other → IsSameCall row other → row.passes ≡ true → row.answer ≡ other.answer
passing_alike rows others same by by_other place row other stands stands_other one passes =
    let uses : Uses row.ticket row = record { passes = passes; same = refl } in
    let (at, winner, is) = some_first rows row.ticket place row stands uses in
    let (winner_other, is_other, named) = first_at rows others same row.ticket at winner is in
    elim (cases_order at place) [
      | inl here ↦
          let mine : winner ≡ row = same_Some winner row (sym is.stands ∙ (ap (slice_get rows) here ∙ stands)) in
          let theirs : winner_other ≡ other = same_Some winner_other other (sym is_other.stands ∙ (ap (slice_get others) here ∙ stands_other)) in
          by.first at row (subst (IsFirst rows row.ticket at) mine is)
          ∙ sym (by_other.first at other (subst (λ t. IsFirst others t at other) one.ticket (subst (IsFirst others row.ticket at) theirs is_other)))
      | inr (inl before) ↦
          by.later at place winner row is stands passes before
          ∙ (ap replay named.number
          ∙ sym (by_other.later at place winner_other other (subst (λ t. IsFirst others t at winner_other) one.ticket is_other) stands_other (sym one.passes ∙ passes) before))
      | inr (inr behind) ↦ let below = is.none_before place row stands uses in absurd (omega (arith, below, behind))
    ]

alike_at : (rows others : List Row) → AreSameCalls rows others → AnsweredByFirst rows → AnsweredByFirst others → (place : ℕ) (row other : Row)
    → Stands rows place row → Stands others place other → IsSameCall row other → row.answer ≡ other.answer
alike_at rows others same by by_other place row other stands stands_other one = by_passes row.passes refl where
  by_passes : (t : Bool) → row.passes ≡ t → row.answer ≡ other.answer
  by_passes true is = passing_alike rows others same by by_other place row other stands stands_other one is
  by_passes false is = by.refused place row stands is ∙ sym (by_other.refused place other stands_other (sym one.passes ∙ is))

-- so each two are alike, as each place is
all_alike : (rows others : List Row) → AreSameCalls rows others
    → ((place : ℕ) (row other : Row) → Stands rows place row → Stands others place other → IsSameCall row other → row.answer ≡ other.answer)
    → AreAnsweredAlike rows others
all_alike [] [] same each = same
all_alike [] (other ∷ others) same each = absurd same
all_alike (row ∷ rows) [] same each = absurd same
all_alike (row ∷ rows) (other ∷ others) (one, more) each =
    (each 0 row other refl refl one, all_alike rows others more (λ place. each (suc place)))

pub one_by_first : OneByFirst
one_by_first rows others same by by_other = all_alike rows others same (alike_at rows others same by by_other)
