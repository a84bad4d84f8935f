-- A day after others, answered over what is kept of them.
use Rattle.std.proofs.Common.{◌≡◌, ℕ, ◌<◌, true, List, ◌++◌, Option, Some, None, ◌⊎◌, inl, inr, refl, sym, ◌∙◌, ap, arith}
use Rattle.std.specs.List.{slice_get}
use Rattle.std.proofs.lemmas.Option.{same_Some, slice_get_within}
use Rattle.replay_law.specs.ByFirst.{AnsweredAfter, AnsweredByFirst, AreFreshFrom, DayAfterDay, HaveOneLast, IsFirst, IsKeptOf}
use Rattle.replay_law.specs.Held.{Held, Kept}
use Rattle.replay_law.specs.Row.{Row, Stands, replay, valid}
use Rattle.replay_law.proofs.Places.{after, after_is, in_either, in_first, in_second}

-- ---- the first call of all days

-- if it is one of the earlier days, it is the first of these
first_before : (before rows : List Row) (ticket : List ℕ) (place : ℕ) (row : Row) → IsFirst (before ++ rows) ticket place row → Stands before place row
    → IsFirst before ticket place row
first_before before rows ticket place row is stands = record {
  stands = stands;
  uses = is.uses;
  none_before = λ other same there. is.none_before other same (in_first before rows other same there);
}

-- if it is one of the day, it is the first of the day
first_today : (before rows : List Row) (ticket : List ℕ) (place at : ℕ) (row : Row) → IsFirst (before ++ rows) ticket place row → Stands rows at row
    → after before at ≡ place → IsFirst rows ticket at row
first_today before rows ticket place at row is stands same = record {
  stands = stands;
  uses = is.uses;
  none_before = λ other also there uses.
      let low = is.none_before (after before other) also (in_second before rows other also there) uses in
      omega (arith, low, same, after_is before at, after_is before other);
}

-- and then no call of the earlier days passes with the ticket
none_earlier : (before rows : List Row) (ticket : List ℕ) (place at : ℕ) (row : Row) → IsFirst (before ++ rows) ticket place row → after before at ≡ place
    → (other : ℕ) (same : Row) → IsFirst before ticket other same → ⊥
none_earlier before rows ticket place at row is same other first there =
    let low = is.none_before other first (in_first before rows other first there.stands) there.uses in
    omega (arith, low, same, after_is before at, slice_get_within before other first there.stands)

-- two firsts are one
one_first : (rows : List Row) (ticket : List ℕ) (place other : ℕ) (row same : Row) → IsFirst rows ticket place row → IsFirst rows ticket other same → row ≡ same
one_first rows ticket place other row same is also =
    let low = is.none_before other same also.stands also.uses in
    let high = also.none_before place row is.stands is.uses in
    let e : place ≡ other = omega (arith, low, high) in
    same_Some row same (sym is.stands ∙ (ap (slice_get rows) e ∙ also.stands))

-- ---- what is kept

-- a ticket is kept or not
kept_or_none : (kept : Option Kept) → ((k : Kept) × (kept ≡ Some k)) ⊎ (kept ≡ None)
kept_or_none (Some k) = inl (k, refl)
kept_or_none None = inr refl

-- a call with a ticket that was kept is answered by the first call that passed with it
by_kept : (moment : ℕ) (held : Held) (before rows : List Row) → IsKeptOf moment before held → AnsweredAfter held rows → (place at : ℕ) (winner row : Row)
    → IsFirst before row.ticket place winner → Stands rows at row → row.passes ≡ true → (kept : Kept) → held row.ticket ≡ Some kept → row.answer ≡ replay winner.number
by_kept moment held before rows keeps today place at winner row is stands passes kept there =
    let (other, first, also, names) = keeps.names row.ticket kept there in
    today.earlier at row kept stands passes there
    ∙ (ap (λ (k : Kept). replay k.call) names ∙ ap (λ (r : Row). replay r.number) (one_first before row.ticket other place first winner also is))

-- and one whose ticket was dropped isn't fresh
not_dropped : (moment : ℕ) (held : Held) (before rows : List Row) → IsKeptOf moment before held → AreFreshFrom moment rows → HaveOneLast (before ++ rows)
    → (place at : ℕ) (winner row : Row) → IsFirst before row.ticket place winner → Stands rows at row → row.passes ≡ true → held row.ticket ≡ None → ⊥
not_dropped moment held before rows keeps fresh one place at winner row is stands passes none =
    let late = keeps.drops row.ticket place winner is none in
    let last = one (after before at) place row winner (in_second before rows at row stands) passes (in_first before rows place winner is.stands) is.uses in
    omega (arith, late, last, fresh.fresh at row stands passes, fresh.from at row stands)

-- ---- the answers

-- to the first call of all days
first_answer : (moment : ℕ) (held : Held) (before rows : List Row) → AnsweredByFirst before → IsKeptOf moment before held → AnsweredAfter held rows
    → (place : ℕ) (row : Row) → IsFirst (before ++ rows) row.ticket place row → row.answer ≡ valid
first_answer moment held before rows by keeps today place row is =
    elim (in_either before rows place row is.stands) [
      | inl here ↦ by.first place row (first_before before rows row.ticket place row is here)
      | inr (at, here, same) ↦ elim (kept_or_none (held row.ticket)) [
        | inl (kept, there) ↦
            let (other, first, also, names) = keeps.names row.ticket kept there in
            absurd (none_earlier before rows row.ticket place at row is same other first also)
        | inr none ↦ today.first at row (first_today before rows row.ticket place at row is here same) none
      ]
    ]

-- to a later one of the day, if the first is one of the day too
later_today : (moment : ℕ) (held : Held) (before rows : List Row) → IsKeptOf moment before held → AnsweredAfter held rows → (place at other : ℕ) (winner row : Row)
    → IsFirst (before ++ rows) row.ticket place winner → Stands rows at winner → after before at ≡ place → (there : ℕ) → Stands rows there row
    → after before there ≡ other → row.passes ≡ true → place < other → row.answer ≡ replay winner.number
later_today moment held before rows keeps today place at other winner row is here same there stands also passes less =
    elim (kept_or_none (held row.ticket)) [
      | inl (kept, held_there) ↦
          let (earlier, first, found, names) = keeps.names row.ticket kept held_there in
          absurd (none_earlier before rows row.ticket place at winner is same earlier first found)
      | inr none ↦ today.later at there winner row (first_today before rows row.ticket place at winner is here same) stands passes none
          (omega (arith, same, also, less, after_is before at, after_is before there))
    ]

-- to a later one, if the first is one of the earlier days
later_kept : (moment : ℕ) (held : Held) (before rows : List Row) → AnsweredByFirst before → IsKeptOf moment before held → AnsweredAfter held rows
    → AreFreshFrom moment rows → HaveOneLast (before ++ rows) → (place other : ℕ) (winner row : Row) → IsFirst before row.ticket place winner
    → Stands (before ++ rows) other row → row.passes ≡ true → place < other → row.answer ≡ replay winner.number
later_kept moment held before rows by keeps today fresh one place other winner row is stands passes less =
    elim (in_either before rows other row stands) [
      | inl here ↦ by.later place other winner row is here passes less
      | inr (at, here, same) ↦ elim (kept_or_none (held row.ticket)) [
        | inl (kept, there) ↦ by_kept moment held before rows keeps today place at winner row is here passes kept there
        | inr none ↦ absurd (not_dropped moment held before rows keeps fresh one place at winner row is here passes none)
      ]
    ]

later_answer : (moment : ℕ) (held : Held) (before rows : List Row) → AnsweredByFirst before → IsKeptOf moment before held → AnsweredAfter held rows
    → AreFreshFrom moment rows → HaveOneLast (before ++ rows) → (place other : ℕ) (winner row : Row) → IsFirst (before ++ rows) row.ticket place winner
    → Stands (before ++ rows) other row → row.passes ≡ true → place < other → row.answer ≡ replay winner.number
later_answer moment held before rows by keeps today fresh one place other winner row is stands passes less =
    elim (in_either before rows place winner is.stands) [
      | inl here ↦ later_kept moment held before rows by keeps today fresh one place other winner row
          (first_before before rows row.ticket place winner is here) stands passes less
      | inr (at, here, same) ↦ elim (in_either before rows other row stands) [
        | inl there ↦ absurd (omega (arith, same, less, after_is before at, slice_get_within before other row there))
        | inr (there, stands_there, also) ↦ later_today moment held before rows keeps today place at other winner row is here same there stands_there also passes less
      ]
    ]

pub day_after_day : DayAfterDay
day_after_day moment held before rows by keeps today fresh one = record {
  refused = λ place row stands. elim (in_either before rows place row stands) [
    | inl here ↦ by.refused place row here
    | inr (at, here, same) ↦ today.refused at row here
  ];
  first = first_answer moment held before rows by keeps today;
  later = later_answer moment held before rows by keeps today fresh one;
}
