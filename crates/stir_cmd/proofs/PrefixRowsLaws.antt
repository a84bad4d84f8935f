-- Calls that are answered in a round, and again with more calls after them, over one past and in each round the first with its ticket first: each of them
-- has one answer.
use Rattle.std.proofs.Common.{◌≡◌, ℕ, zero, suc, ◌≤◌, List, [], ◌∷◌, refl, sym, ◌∙◌, subst, arith}
use Rattle.std.specs.Prelude.{⊤}
use Rattle.std.proofs.lemmas.Option.{none-some, same_Some}
use Rattle.replay_law.specs.Held.{Held, purged}
use Rattle.replay_law.specs.Round.{Settled, Winner, first_moment}
use Rattle.replay_law.specs.Row.{Row, Stands}
use Rattle.replay_law.specs.Turn.{FirstWins}
use Rattle.stir_cmd.proofs.OneGoingLaws.{IsOneCall, one_answer_at}

-- the first calls of the other are these, whatever was answered to them
abbrev pub BeginCalls : List Row → List Row → Type 0
BeginCalls [] others = ⊤
BeginCalls (row ∷ rows) [] = ⊥
BeginCalls (row ∷ rows) (other ∷ others) = IsOneCall row other × BeginCalls rows others

-- at a place where the one has a call, the other has it too
there : (rows others : List Row) → BeginCalls rows others → (place : ℕ) (row : Row) → Stands rows place row → (other : Row) × Stands others place other × IsOneCall row other
there [] others begins place row stands = absurd (none-some row stands)
there (r ∷ rows) [] begins place row stands = absurd begins
there (r ∷ rows) (o ∷ others) (here, more) zero row stands = (o, refl, subst (λ (x : Row). IsOneCall x o) (same_Some r row stands) here)
there (r ∷ rows) (o ∷ others) (here, more) (suc place) row stands = there rows others more place row stands

-- and the one has each call of the other that comes no later than one of its own
back : (rows others : List Row) → BeginCalls rows others → (place at : ℕ) (other last : Row) → Stands others place other → Stands rows at last → place ≤ at
    → (row : Row) × Stands rows place row × IsOneCall row other
back [] others begins place at other last stands ends low = absurd (none-some last ends)
back (r ∷ rows) [] begins place at other last stands ends low = absurd begins
back (r ∷ rows) (o ∷ others) (here, more) zero at other last stands ends low = (r, refl, subst (λ (x : Row). IsOneCall r x) (same_Some o other stands) here)
back (r ∷ rows) (o ∷ others) (here, more) (suc place) zero other last stands ends low = absurd (omega (arith, low))
back (r ∷ rows) (o ∷ others) (here, more) (suc place) (suc at) other last stands ends low = back rows others more place at other last stands ends (omega (arith, low))

module _ (held next other_next : Held) (rows others : List Row) (begins : BeginCalls rows others) (mine : Settled held rows next) (yours : Settled held others other_next)
    (first : FirstWins rows) (first_other : FirstWins others) where
  not_after : (ticket : List ℕ) (w : Winner rows ticket) (v : Winner others ticket) → v.place ≤ w.place
  not_after ticket w v =
      let (other, stands, one) = there rows others begins w.place w.winner w.stands in
      first_other v.place w.place v.winner other v.stands v.wins stands (record { passes = sym one.passes ∙ w.uses.passes; same = sym one.ticket ∙ w.uses.same ∙ sym v.uses.same })

  one_place : (ticket : List ℕ) (w : Winner rows ticket) (v : Winner others ticket) → w.place ≡ v.place
  one_place ticket w v =
      let low = not_after ticket w v in
      let (row, stands, one) = back rows others begins v.place w.place v.winner w.winner v.stands w.stands low in
      let high = first w.place v.place w.winner row w.stands w.wins stands (record { passes = one.passes ∙ v.uses.passes; same = one.ticket ∙ v.uses.same ∙ sym w.uses.same }) in
      omega (arith, low, high)

  one_answer_first : (place : ℕ) (row other : Row) → Stands rows place row → Stands others place other → row.answer ≡ other.answer
  one_answer_first = one_answer_at held next other_next rows others (there rows others begins) mine yours one_place

-- and so over a past that is purged by the moment of the first call
pub one_answer : (past next other_next : Held) (rows others : List Row) → BeginCalls rows others → Settled (purged (first_moment rows) past) rows next
    → Settled (purged (first_moment others) past) others other_next → FirstWins rows → FirstWins others → (place : ℕ) (row other : Row) → Stands rows place row → Stands others place other
    → row.answer ≡ other.answer
one_answer past next other_next [] others begins mine yours first first_other place row other stands stands_other = absurd (none-some row stands)
one_answer past next other_next (r ∷ rows) [] begins mine yours first first_other place row other stands stands_other = absurd begins
one_answer past next other_next (r ∷ rows) (o ∷ others) (here, more) mine yours first first_other place row other stands stands_other =
    one_answer_first (purged r.moment past) next other_next (r ∷ rows) (o ∷ others) (here, more) mine
    (subst (λ (m : ℕ). Settled (purged m past) (o ∷ others) other_next) (sym here.moment) yours) first first_other place row other stands stands_other
