-- What a day hands on is kept of its calls and of those of the days before it.
use Rattle.std.proofs.Common.{◌≡◌, ℕ, zero, suc, ◌<◌, ◌≤◌, ◌⊎◌, inl, inr, List, [], ◌∷◌, ◌++◌, Option, Some, None, refl, sym, ◌∙◌, ap, subst, arith}
use Rattle.std.specs.List.{slice_get}
use Rattle.std.proofs.lemmas.Option.{none-some, same_Some}
use Rattle.log_rounds.specs.Days.{AreApart, AreDaysAfter, AreHandedOn, Day, DaysHandOn, HandsOn, IsWonOn, day_rows}
use Rattle.log_rounds.specs.Judge.{IsIn}
use Rattle.replay_law.proofs.Users.{NoUser, uses_or_not}
use Rattle.replay_law.specs.ByFirst.{AreFreshFrom, IsFirst, IsKeptOf}
use Rattle.replay_law.specs.Held.{Held, Kept, Same, kept_of, nothing}
use Rattle.replay_law.specs.Row.{Row, Stands, Uses}
use Rattle.log_rounds.proofs.DaysLaws.{AreOfDays, FirstLaw, KnownLaw, all_owed, are_both, are_of_day, fresh_from, one_last}

-- ---- the first call with a ticket

-- it stays the first after a call that doesn't pass with the ticket,
behind_one : (r : Row) (rows : List Row) (ticket : List ℕ) (place : ℕ) (row : Row) → (Uses ticket r → ⊥) → IsFirst rows ticket place row
    → IsFirst (r ∷ rows) ticket (suc place) row
behind_one r rows ticket place row other is = record { stands = is.stands; uses = is.uses; none_before = none_before } where
  none_before : (at : ℕ) (same : Row) → Stands (r ∷ rows) at same → Uses ticket same → suc place ≤ at
  none_before zero same stands uses = absurd (other (subst (Uses ticket) (sym (same_Some r same stands)) uses))
  none_before (suc at) same stands uses = let low = is.none_before at same stands uses in omega arith

-- and is the first of those after it
without_one : (r : Row) (rows : List Row) (ticket : List ℕ) (place : ℕ) (row : Row) → IsFirst (r ∷ rows) ticket (suc place) row → IsFirst rows ticket place row
without_one r rows ticket place row is = record {
  stands = is.stands;
  uses = is.uses;
  none_before = λ at same stands uses. let low : suc place ≤ suc at = is.none_before (suc at) same stands uses in omega arith;
}

-- no call before it passes with the ticket
not_front : (r : Row) (rows : List Row) (ticket : List ℕ) (place : ℕ) (row : Row) → IsFirst (r ∷ rows) ticket (suc place) row → Uses ticket r → ⊥
not_front r rows ticket place row is uses = let low : suc place ≤ 0 = is.none_before 0 r refl uses in omega arith

at_front : (r : Row) (rows : List Row) (ticket : List ℕ) → Uses ticket r → IsFirst (r ∷ rows) ticket 0 r
at_front r rows ticket uses = record { stands = refl; uses = uses; none_before = λ at same stands also. omega arith }

-- none passes with the ticket, if the first doesn't and none of the rest
none_of : (ticket : List ℕ) (r : Row) (rows : List Row) → (Uses ticket r → ⊥) → NoUser ticket rows → NoUser ticket (r ∷ rows)
none_of ticket r rows other none zero same stands uses = other (subst (Uses ticket) (sym (same_Some r same stands)) uses)
none_of ticket r rows other none (suc place) same stands uses = none place same stands uses

-- the first of a list, or none passes with the ticket
abbrev SomeFirst : List Row → List ℕ → Type 0
SomeFirst rows ticket = (place : ℕ) × (row : Row) × IsFirst rows ticket place row

first_or_none : (rows : List Row) (ticket : List ℕ) → SomeFirst rows ticket ⊎ NoUser ticket rows
first_or_none [] ticket = inr (λ place row stands uses. none-some row stands)
first_or_none (r ∷ rows) ticket =
    elim (uses_or_not ticket r) [
      | inl uses ↦ inl (0, r, at_front r rows ticket uses)
      | inr other ↦ elim (first_or_none rows ticket) [
        | inl (place, row, is) ↦ inl (suc place, row, behind_one r rows ticket place row other is)
        | inr none ↦ inr (none_of ticket r rows other none)
      ]
    ]

-- with more calls after it
with_more : (rows more : List Row) (ticket : List ℕ) (place : ℕ) (row : Row) → IsFirst rows ticket place row → IsFirst (rows ++ more) ticket place row
with_more [] more ticket place row is = absurd (none-some row is.stands)
with_more (r ∷ rows) more ticket zero row is = record { stands = is.stands; uses = is.uses; none_before = λ at same stands uses. omega arith }
with_more (r ∷ rows) more ticket (suc place) row is =
    behind_one r (rows ++ more) ticket place row (not_front r rows ticket place row is) (with_more rows more ticket place row (without_one r rows ticket place row is))

-- after calls of which none passes with the ticket
behind_all : (rows more : List Row) (ticket : List ℕ) (place : ℕ) (row : Row) → NoUser ticket rows → IsFirst more ticket place row
    → (at : ℕ) × IsFirst (rows ++ more) ticket at row
behind_all [] more ticket place row none is = (place, is)
behind_all (r ∷ rows) more ticket place row none is =
    let (at, first) = behind_all rows more ticket place row (λ p s there. none (suc p) s there) is in
    (suc at, behind_one r (rows ++ more) ticket at row (none 0 r refl) first)

-- the first of both is the first of the first, or of the second
of_either : (rows more : List Row) (ticket : List ℕ) (place : ℕ) (row : Row) → IsFirst (rows ++ more) ticket place row
    → IsFirst rows ticket place row ⊎ (NoUser ticket rows × (at : ℕ) × IsFirst more ticket at row)
of_either [] more ticket place row is = inr (λ p s stands uses. none-some s stands, place, is)
of_either (r ∷ rows) more ticket zero row is = inl (record { stands = is.stands; uses = is.uses; none_before = λ at same stands uses. omega arith })
of_either (r ∷ rows) more ticket (suc place) row is =
    let other = not_front r (rows ++ more) ticket place row is in
    elim (of_either rows more ticket place row (without_one r (rows ++ more) ticket place row is)) [
      | inl first ↦ inl (behind_one r rows ticket place row other first)
      | inr (none, at, first) ↦ inr (none_of ticket r rows other none, at, first)
    ]

-- two firsts are one
one_first : (rows : List Row) (ticket : List ℕ) (place at : ℕ) (row same : Row) → IsFirst rows ticket place row → IsFirst rows ticket at same → row ≡ same
one_first rows ticket place at row same is also =
    let low = is.none_before at same also.stands also.uses in
    let high = also.none_before place row is.stands is.uses in
    let e : place ≡ at = omega (arith, low, high) in
    same_Some row same (sym is.stands ∙ (ap (slice_get rows) e ∙ also.stands))

-- ---- what is kept

held_or_none : (kept : Option Kept) → ((k : Kept) × (kept ≡ Some k)) ⊎ (kept ≡ None)
held_or_none (Some k) = inl (k, refl)
held_or_none None = inr refl

kept_none : (moment : ℕ) (held : Held) → Same nothing held → IsKeptOf moment [] held
kept_none moment held same = record {
  names = λ ticket kept there. absurd (none-some kept (same ticket ∙ there));
  drops = λ ticket place row is none. absurd (none-some row is.stands);
}

-- the first call of the day with a ticket of which nothing was kept is the first of all days
none_earlier : (past : ℕ) (days : List Day) → AreApart days → (before : List Row) (day : Day) → IsKeptOf day.moment before day.held → AreOfDays past days before
    → AreOfDays past days (day_rows day) → AreFreshFrom day.moment (day_rows day) → (ticket : List ℕ) (kept : Kept) → IsWonOn day ticket kept → NoUser ticket before
none_earlier past days one before day keeps of today fresh ticket kept won =
    elim (first_or_none before ticket) [
      | inl (place, row, is) ↦
          let late : row.last < day.moment = keeps.drops ticket place row is won.none in
          let passes = won.first.uses.passes in
          let alike : Uses won.row.ticket row = record { passes = is.uses.passes; same = is.uses.same ∙ sym won.first.uses.same } in
          let last : won.row.last ≡ row.last =
          one_last past days one won.row row (today won.place won.row won.first.stands) passes (of place row is.stands) alike in
          let long : won.row.moment ≤ won.row.last = fresh.fresh won.place won.row won.first.stands passes in
          let from : day.moment ≤ won.row.moment = fresh.from won.place won.row won.first.stands in
          absurd (omega (arith, late, last, long, from))
      | inr none ↦ none
    ]

keeps_on : (past : ℕ) (days : List Day) → AreApart days → (before : List Row) (day : Day) (moment : ℕ) (next : Held) → IsKeptOf day.moment before day.held
    → AreOfDays past days before → AreOfDays past days (day_rows day) → AreFreshFrom day.moment (day_rows day) → day.moment ≤ moment → HandsOn day moment next
    → IsKeptOf moment (before ++ day_rows day) next
keeps_on past days one before day moment next keeps of today fresh order hands = record { names = names; drops = drops } where
  names : (ticket : List ℕ) (kept : Kept) → next ticket ≡ Some kept → (place : ℕ) × (row : Row) × IsFirst (before ++ day_rows day) ticket place row × (kept ≡ kept_of row)
  names ticket kept there =
      elim (hands.names ticket kept there) [
        | inl held ↦
            let (place, row, is, e) = keeps.names ticket kept held in
            (place, row, with_more before (day_rows day) ticket place row is, e)
        | inr won ↦
            let none = none_earlier past days one before day keeps of today fresh ticket kept won in
            let (at, is) = behind_all before (day_rows day) ticket won.place won.row none won.first in
            (at, won.row, is, won.is)
      ]

  of_before : (ticket : List ℕ) (place : ℕ) (row : Row) → IsFirst before ticket place row → next ticket ≡ None → row.last < moment
  of_before ticket place row is none =
      elim (held_or_none (day.held ticket)) [
        | inl (kept, there) ↦
            let (other, first, also, e) = keeps.names ticket kept there in
            let late : kept.last < moment = hands.drops ticket kept (inl there) none in
            let same : kept.last ≡ row.last = ap (λ (k : Kept). k.last) e ∙ ap (λ (r : Row). r.last) (one_first before ticket other place first row also is) in
            omega (arith, late, same)
        | inr dropped ↦ let late : row.last < day.moment = keeps.drops ticket place row is dropped in omega (arith, late, order)
      ]

  of_today : (ticket : List ℕ) (at : ℕ) (row : Row) → NoUser ticket before → IsFirst (day_rows day) ticket at row → next ticket ≡ None → row.last < moment
  of_today ticket at row apart is none =
      elim (held_or_none (day.held ticket)) [
        | inl (kept, there) ↦ let (other, first, also, e) = keeps.names ticket kept there in absurd (apart other first also.stands also.uses)
        | inr free ↦ hands.drops ticket (kept_of row) (inr (record { none = free; place = at; row = row; first = is; is = refl })) none
      ]

  drops : (ticket : List ℕ) (place : ℕ) (row : Row) → IsFirst (before ++ day_rows day) ticket place row → next ticket ≡ None → row.last < moment
  drops ticket place row is none =
      elim (of_either before (day_rows day) ticket place row is) [
        | inl here ↦ of_before ticket place row here none
        | inr (apart, at, here) ↦ of_today ticket at row apart here none
      ]

-- ---- day after day

days_from : KnownLaw → FirstLaw → (past : ℕ) (days : List Day) → AreApart days → (before : List Row) (day : Day) (others : List Day)
    → ((one : Day) → IsIn one (day ∷ others) → IsIn one days) → AreOfDays past days before → IsKeptOf day.moment before day.held → AreHandedOn past (day ∷ others)
    → AreDaysAfter past before (day ∷ others)
days_from known early past days one before day [] inside of kept settled = (record { settled = settled; kept = kept }, tt)
days_from known early past days one before day (next ∷ others) inside of kept (settled, order, hands, more) =
    let owed = all_owed known early past day settled in
    let today = are_of_day past days day settled (inside day (inl refl)) owed in
    let on = keeps_on past days one before day next.moment next.held kept of today (fresh_from day owed settled.from) order hands in (
      record { settled = settled; kept = kept },
      days_from known early past days one (before ++ day_rows day) next others (λ other i. inside other (inr i))
          (are_both past days before (day_rows day) of today) on more,
    )

pub days_hand_on : KnownLaw → FirstLaw → DaysHandOn
days_hand_on known early past [] from are one = tt
days_hand_on known early past (day ∷ others) from are one =
    days_from known early past (day ∷ others) one [] day others (λ other i. i) (λ place row stands. absurd (none-some row stands)) (kept_none day.moment day.held from) are
