-- Rounds that are settled one by one are legal together.
use Rattle.std.proofs.Common.{◌≡◌, ℕ, zero, suc, ◌<◌, ◌≤◌, Bool, true, false, List, [], ◌∷◌, Some, None, ◌⊎◌, inl, inr, refl, sym, ◌∙◌, ap, subst, arith, nat_lt}
use Rattle.std.proofs.lemmas.Bool.{ltb-true}
use Rattle.std.proofs.lemmas.Option.{none-some}
use Rattle.replay_law.specs.Row.{replay, neither, Row, Uses}
use Rattle.replay_law.specs.Held.{Kept, Held, nothing, unless_below, purged, kept_of}
use Rattle.replay_law.specs.Round.{Winner, Settled, Round, Rounds}
use Rattle.replay_law.specs.Log.{StandsIn, LogWinner}
use Rattle.replay_law.specs.Law.{IsFresh, NeverFalls, IsApart, LegalTogether}
use Rattle.replay_law.proofs.Users.{NoUser, user, valid_passes}

-- ---- a ticket that is held

-- an entry is kept by a purge, or its last second is below the moment
kept_or_late : (moment : ℕ) (kept : Kept) → (unless_below moment (Some kept) ≡ Some kept) ⊎ (kept.last < moment)
kept_or_late moment kept = by_test (nat_lt kept.last moment) refl where
  by_test : (t : Bool) → nat_lt kept.last moment ≡ t → (unless_below moment (Some kept) ≡ Some kept) ⊎ (kept.last < moment)
  by_test true is = inr (ltb-true kept.last moment is)
  by_test false is = inl (rw is refl)

-- each call that passes with the ticket has this last second
abbrev LastIs : List Round → List ℕ → ℕ → Type 0
LastIs rounds ticket last = (round place : ℕ) (row : Row) → StandsIn rounds round place row → Uses ticket row → row.last ≡ last

-- each call that passes with the ticket is a replay of this call
abbrev AllReplay : List Round → List ℕ → ℕ → Type 0
AllReplay rounds ticket call = (round place : ℕ) (row : Row) → StandsIn rounds round place row → Uses ticket row → row.answer ≡ replay call

-- moments don't fall after the first round
falls_behind : (round : Round) (rounds : List Round) → NeverFalls (round ∷ rounds) → NeverFalls rounds
falls_behind round rounds falls earlier later place r row there order stands = falls (suc earlier) (suc later) place r row there (omega (arith, order)) stands

-- in a round, and in those after it
replayed_on : (held middle : Held) (round : Round) (rounds : List Round) (ticket : List ℕ) (kept : Kept) → Settled held round.rows middle
    → held ticket ≡ Some kept → AllReplay rounds ticket kept.call → AllReplay (round ∷ rounds) ticket kept.call
replayed_on held middle round rounds ticket kept settled is later zero place row stands uses =
    settled.replays place row kept stands uses.passes (ap held uses.same ∙ is)
replayed_on held middle round rounds ticket kept settled is later (suc r) place row stands uses = later r place row stands uses

-- Calls that pass with a ticket that is held are replays of the call that it is kept for: if a purge dropped its entry,
-- none of them would be fresh.
replayed : (past next : Held) (rounds : List Round) (ticket : List ℕ) (kept : Kept) → Rounds past rounds next → IsFresh rounds → NeverFalls rounds
    → LastIs rounds ticket kept.last → past ticket ≡ Some kept → AllReplay rounds ticket kept.call
replayed past next [] ticket kept runs fresh falls lasts held = λ r place row stands uses. absurd (none-some row stands)
replayed past next (round ∷ rounds) ticket kept (middle, settled, more) fresh falls lasts held =
    elim (kept_or_late round.moment kept) [
      | inl still ↦
          let is : purged round.moment past ticket ≡ Some kept = ap (unless_below round.moment) held ∙ still in
          replayed_on (purged round.moment past) middle round rounds ticket kept settled is
          (replayed middle next rounds ticket kept more (λ r. fresh (suc r)) (falls_behind round rounds falls) (λ r. lasts (suc r)) (settled.stays ticket kept is))
      | inr late ↦ λ r place row stands uses.
          let first : round.moment ≤ row.moment = falls 0 r place round row refl (omega arith) stands in
          let last : row.moment ≤ row.last = fresh r place row stands uses.passes in
          let same : row.last ≡ kept.last = lasts r place row stands uses in
          absurd (omega arith)
    ]

-- ---- a ticket that isn't held

-- the winner of the first round, if all later calls with its ticket are replays of it
won_here : (round : Round) (rounds : List Round) (ticket : List ℕ) (w : Winner round.rows ticket) → AllReplay rounds ticket w.winner.number
    → LogWinner (round ∷ rounds) ticket
won_here round rounds ticket w later = record {
  round = 0;
  place = w.place;
  winner = w.winner;
  stands = w.stands;
  uses = w.uses;
  wins = w.wins;
  first = λ r place row stands uses. omega arith;
  others = others;
} where
  others : (r place : ℕ) (row : Row) → StandsIn (round ∷ rounds) r place row → Uses ticket row → (r ≡ 0 → place ≡ w.place → ⊥) → row.answer ≡ replay w.winner.number
  others zero place row stands uses elsewhere = w.others place row stands uses (elsewhere refl)
  others (suc r) place row stands uses elsewhere = later r place row stands uses

-- the winner of later rounds, if no call of the first passes with its ticket
won_later : (round : Round) (rounds : List Round) (ticket : List ℕ) → NoUser ticket round.rows → LogWinner rounds ticket → LogWinner (round ∷ rounds) ticket
won_later round rounds ticket none w = record {
  round = suc w.round;
  place = w.place;
  winner = w.winner;
  stands = w.stands;
  uses = w.uses;
  wins = w.wins;
  first = first;
  others = others;
} where
  first : (r place : ℕ) (row : Row) → StandsIn (round ∷ rounds) r place row → Uses ticket row → suc w.round ≤ r
  first zero place row stands uses = absurd (none place row stands uses)
  first (suc r) place row stands uses = let below = w.first r place row stands uses in omega arith

  others : (r place : ℕ) (row : Row) → StandsIn (round ∷ rounds) r place row → Uses ticket row → (r ≡ suc w.round → place ≡ w.place → ⊥)
      → row.answer ≡ replay w.winner.number
  others zero place row stands uses elsewhere = absurd (none place row stands uses)
  others (suc r) place row stands uses elsewhere = w.others r place row stands uses (λ e. elsewhere (ap suc e))

-- a ticket that isn't held and with which no call of the round passes isn't held after it
free_behind : (held middle : Held) (rows : List Row) (ticket : List ℕ) → Settled held rows middle → held ticket ≡ None → NoUser ticket rows → middle ticket ≡ None
free_behind held middle rows ticket settled free none = settled.no_more ticket free
    (λ at other there same wins. none at other there (record { passes = valid_passes other (settled.refused at other there) wins; same = same }))

-- a call that passes with the ticket comes after the first round, if no call of that round does
won_behind : (round : Round) (rounds : List Round) (ticket : List ℕ) → NoUser ticket round.rows
    → ((r place : ℕ) (row : Row) → StandsIn rounds r place row → Uses ticket row → LogWinner rounds ticket)
    → (r place : ℕ) (row : Row) → StandsIn (round ∷ rounds) r place row → Uses ticket row → LogWinner (round ∷ rounds) ticket
won_behind round rounds ticket none later zero place row stands uses = absurd (none place row stands uses)
won_behind round rounds ticket none later (suc r) place row stands uses = won_later round rounds ticket none (later r place row stands uses)

-- calls that pass with a ticket that isn't held have one winner among them
won_once : (past next : Held) (rounds : List Round) (ticket : List ℕ) → Rounds past rounds next → IsFresh rounds → NeverFalls rounds → IsApart rounds
    → past ticket ≡ None → (r place : ℕ) (row : Row) → StandsIn rounds r place row → Uses ticket row → LogWinner rounds ticket
won_once past next [] ticket runs fresh falls apart free r place row stands uses = absurd (none-some row stands)
won_once past next (round ∷ rounds) ticket (middle, settled, more) fresh falls apart free r place row stands uses =
    let free_here : purged round.moment past ticket ≡ None = ap (unless_below round.moment) free in
    elim (user ticket round.rows) [
      | inl (at, first_row, there, first) ↦
          let w = subst (Winner round.rows) first.same (settled.winners at first_row there first.passes (ap (purged round.moment past) first.same ∙ free_here)) in
          won_here round rounds ticket w (replayed middle next rounds ticket (kept_of w.winner) more (λ r. fresh (suc r)) (falls_behind round rounds falls)
          (λ r place row stands uses. apart (suc r) place 0 w.place row w.winner stands uses.passes w.stands (record { passes = w.uses.passes; same = w.uses.same ∙ sym uses.same }))
          (ap middle (sym w.uses.same) ∙ settled.gains w.place w.winner w.stands w.wins))
      | inr none ↦
          won_behind round rounds ticket none (won_once middle next rounds ticket more (λ r. fresh (suc r)) (falls_behind round rounds falls) (λ r p s. apart (suc r) p (suc s))
          (free_behind (purged round.moment past) middle round.rows ticket settled free_here none)) r place row stands uses
    ]

-- ---- all tickets

-- calls that don't pass are answered so in each round
refused_all : (past next : Held) (rounds : List Round) → Rounds past rounds next → (r place : ℕ) (row : Row) → StandsIn rounds r place row
    → row.passes ≡ false → row.answer ≡ neither
refused_all past next [] runs r place row stands = absurd (none-some row stands)
refused_all past next (round ∷ rounds) (middle, settled, more) zero place row stands = settled.refused place row stands
refused_all past next (round ∷ rounds) (middle, settled, more) (suc r) place row stands = refused_all middle next rounds more r place row stands

pub legal_together : LegalTogether
legal_together rounds next runs fresh falls apart = record {
  refused = refused_all nothing next rounds runs;
  once = λ r place row stands passes. won_once nothing next rounds row.ticket runs fresh falls apart refl r place row stands (record { passes = passes; same = refl });
}
