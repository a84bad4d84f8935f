-- Calls that are answered in turn settle a round, and the first that passes with a ticket is the valid one.
use Rattle.std.proofs.Common.{◌≡◌, ◌≢◌, ℕ, zero, suc, ◌≤◌, Bool, true, false, List, [], ◌∷◌, Option, Some, None, inl, inr, refl, sym, ◌∙◌, ap, subst, arith}
use Rattle.std.proofs.lemmas.Option.{none-some, same_Some}
use Rattle.replay_law.specs.Row.{valid, replay, neither, Row, Uses, Stands}
use Rattle.replay_law.specs.Held.{Kept, Held, Same, kept_of}
use Rattle.replay_law.specs.Round.{Winner, Settled}
use Rattle.replay_law.specs.Turn.{Adds, Turn, FirstWins}
use Rattle.replay_law.specs.Law.{OneByOne, SameIsOne}
use Rattle.replay_law.proofs.Users.{one_ticket, valid_passes}

pub same_is_one : SameIsOne
same_is_one held next same = λ i ticket. same ticket i

-- what is held isn't free
held_free : (o : Option Kept) (kept : Kept) → o ≡ Some kept → o ≡ None → ⊥
held_free o kept held free = none-some kept (sym free ∙ held)

-- ---- the winner of a ticket, with one call more before the others

behind_another : (row : Row) (rows : List Row) (ticket : List ℕ) → (Uses ticket row → ⊥) → Winner rows ticket → Winner (row ∷ rows) ticket
behind_another row rows ticket apart w = record {
  place = suc w.place;
  winner = w.winner;
  stands = w.stands;
  uses = w.uses;
  wins = w.wins;
  others = others;
} where
  others : (other : ℕ) (r : Row) → Stands (row ∷ rows) other r → Uses ticket r → other ≢ suc w.place → r.answer ≡ replay w.winner.number
  others zero r stands uses elsewhere = absurd (apart (subst (Uses ticket) (sym (same_Some row r stands)) uses))
  others (suc other) r stands uses elsewhere = w.others other r stands uses (λ e. elsewhere (ap suc e))

-- ---- one call that is not valid

module _ (held next : Held) (row : Row) (rows : List Row) (s : Settled held rows next)
    (refused : row.passes ≡ false → row.answer ≡ neither)
    (replays : (kept : Kept) → row.passes ≡ true → held row.ticket ≡ Some kept → row.answer ≡ replay kept.call)
    (not_free : row.passes ≡ true → held row.ticket ≡ None → ⊥)
    (loses : row.answer ≢ valid) where
  refused_here : (place : ℕ) (r : Row) → Stands (row ∷ rows) place r → r.passes ≡ false → r.answer ≡ neither
  refused_here zero r stands = subst (λ r. r.passes ≡ false → r.answer ≡ neither) (same_Some row r stands) refused
  refused_here (suc place) r stands = s.refused place r stands

  replays_here : (place : ℕ) (r : Row) (kept : Kept) → Stands (row ∷ rows) place r → r.passes ≡ true → held r.ticket ≡ Some kept → r.answer ≡ replay kept.call
  replays_here zero r kept stands =
      subst (λ r. r.passes ≡ true → held r.ticket ≡ Some kept → r.answer ≡ replay kept.call) (same_Some row r stands) (replays kept)
  replays_here (suc place) r kept stands = s.replays place r kept stands

  winners_here : (place : ℕ) (r : Row) → Stands (row ∷ rows) place r → r.passes ≡ true → held r.ticket ≡ None → Winner (row ∷ rows) r.ticket
  winners_here zero r stands passes free =
      absurd (subst (λ r. r.passes ≡ true → held r.ticket ≡ None → ⊥) (same_Some row r stands) not_free passes free)
  winners_here (suc place) r stands passes free =
      behind_another row rows r.ticket (λ u. not_free u.passes (ap held u.same ∙ free)) (s.winners place r stands passes free)

  gains_here : (place : ℕ) (r : Row) → Stands (row ∷ rows) place r → r.answer ≡ valid → next r.ticket ≡ Some (kept_of r)
  gains_here zero r stands wins = absurd (loses (ap (λ (r : Row). r.answer) (same_Some row r stands) ∙ wins))
  gains_here (suc place) r stands wins = s.gains place r stands wins

  skipped : Settled held (row ∷ rows) next
  skipped = record {
    refused = refused_here;
    replays = replays_here;
    winners = winners_here;
    stays = s.stays;
    gains = gains_here;
    no_more = λ ticket free none. s.no_more ticket free (λ place r stands. none (suc place) r stands);
  }

-- ---- one call that is valid

module _ (held middle next : Held) (row : Row) (rows : List Row) (s : Settled middle rows next)
    (passes : row.passes ≡ true) (free : held row.ticket ≡ None) (wins : row.answer ≡ valid) (adds : Adds held row middle) where
  -- another ticket
  another : (ticket : List ℕ) (kept : Kept) → held ticket ≡ Some kept → ticket ≢ row.ticket
  another ticket kept is same = held_free (held row.ticket) kept (ap held (sym same) ∙ is) free

  refused_there : (place : ℕ) (r : Row) → Stands (row ∷ rows) place r → r.passes ≡ false → r.answer ≡ neither
  refused_there zero r stands fails =
      let both : true ≡ false = sym passes ∙ (ap (λ (r : Row). r.passes) (same_Some row r stands) ∙ fails) in absurd (cc)
  refused_there (suc place) r stands fails = s.refused place r stands fails

  replays_there : (place : ℕ) (r : Row) (kept : Kept) → Stands (row ∷ rows) place r → r.passes ≡ true → held r.ticket ≡ Some kept → r.answer ≡ replay kept.call
  replays_there zero r kept stands _ is =
      absurd (held_free (held row.ticket) kept (ap (λ (r : Row). held r.ticket) (same_Some row r stands) ∙ is) free)
  replays_there (suc place) r kept stands p is = s.replays place r kept stands p (sym (adds.rest r.ticket (another r.ticket kept is)) ∙ is)

  -- this call wins
  won : Winner (row ∷ rows) row.ticket
  won = record {
    place = 0;
    winner = row;
    stands = refl;
    uses = record { passes = passes; same = refl };
    wins = wins;
    others = others;
  } where
    others : (other : ℕ) (r : Row) → Stands (row ∷ rows) other r → Uses row.ticket r → other ≢ 0 → r.answer ≡ replay row.number
    others zero r stands uses elsewhere = absurd (elsewhere refl)
    others (suc other) r stands uses elsewhere = s.replays other r (kept_of row) stands uses.passes (ap middle uses.same ∙ adds.gained)

  winners_there : (place : ℕ) (r : Row) → Stands (row ∷ rows) place r → r.passes ≡ true → held r.ticket ≡ None → Winner (row ∷ rows) r.ticket
  winners_there zero r stands p none = subst (λ (r : Row). Winner (row ∷ rows) r.ticket) (same_Some row r stands) won
  winners_there (suc place) r stands p none =
      elim (one_ticket r.ticket row.ticket) [
        | inl same ↦ subst (Winner (row ∷ rows)) (sym same) won
        | inr other ↦ behind_another row rows r.ticket (λ u. other (sym u.same)) (s.winners place r stands p (sym (adds.rest r.ticket other) ∙ none))
      ]

  gains_there : (place : ℕ) (r : Row) → Stands (row ∷ rows) place r → r.answer ≡ valid → next r.ticket ≡ Some (kept_of r)
  gains_there zero r stands _ =
      subst (λ (r : Row). next r.ticket ≡ Some (kept_of r)) (same_Some row r stands) (s.stays row.ticket (kept_of row) adds.gained)
  gains_there (suc place) r stands wins = s.gains place r stands wins

  no_more_there : (ticket : List ℕ) → held ticket ≡ None
      → ((place : ℕ) (r : Row) → Stands (row ∷ rows) place r → r.ticket ≡ ticket → r.answer ≢ valid) → next ticket ≡ None
  no_more_there ticket none lacks =
      let other : ticket ≢ row.ticket = λ same. lacks 0 row refl (sym same) wins in
      s.no_more ticket (sym (adds.rest ticket other) ∙ none) (λ place r stands. lacks (suc place) r stands)

  entered : Settled held (row ∷ rows) next
  entered = record {
    refused = refused_there;
    replays = replays_there;
    winners = winners_there;
    stays = λ ticket kept is. s.stays ticket kept (sym (adds.rest ticket (another ticket kept is)) ∙ is);
    gains = gains_there;
    no_more = no_more_there;
  }

-- ---- a call before others

module _ (held middle next : Held) (row : Row) (rows : List Row) (turn : Turn held row middle) (s : Settled middle rows next) where
  -- over what was held, if the call changes nothing
  as_before : Same held middle → Settled held rows next
  as_before same = subst (λ h. Settled h rows next) (sym (same_is_one held middle same)) s

  by_held : row.passes ≡ true → (o : Option Kept) → held row.ticket ≡ o → Settled held (row ∷ rows) next
  by_held passes (Some kept) is =
      let (answer, same) = turn.replays kept passes is in
      skipped held next row rows (as_before same)
      (λ fails. let both : true ≡ false = sym passes ∙ fails in absurd (cc))
      (λ kept p is. (turn.replays kept p is).0)
      (λ p free. held_free (held row.ticket) kept is free)
      (λ wins. let both : valid ≡ replay kept.call = sym wins ∙ answer in absurd (cc))
  by_held passes None is =
      let (answer, adds) = turn.wins passes is in
      entered held middle next row rows s passes is answer adds

  by_passes : (t : Bool) → row.passes ≡ t → Settled held (row ∷ rows) next
  by_passes true is = by_held is (held row.ticket) refl
  by_passes false is =
      let (answer, same) = turn.refused is in
      let fails : row.passes ≡ true → ⊥ = λ passes. let both : true ≡ false = sym passes ∙ is in absurd (cc) in
      skipped held next row rows (as_before same)
      (λ _. answer)
      (λ kept passes _. absurd (fails passes))
      (λ passes _. fails passes)
      (λ wins. let both : valid ≡ neither = sym wins ∙ answer in absurd (cc))

  -- its ticket is held from then on, if it passes
  held_then : row.passes ≡ true → (o : Option Kept) → held row.ticket ≡ o → (kept : Kept) × (middle row.ticket ≡ Some kept)
  held_then passes (Some kept) is = (kept, sym ((turn.replays kept passes is).1 row.ticket) ∙ is)
  held_then passes None is = (kept_of row, (turn.wins passes is).1.gained)

  -- and no later call is valid with it
  first_here : FirstWins rows → FirstWins (row ∷ rows)
  first_here first zero other winner r stands wins others uses = omega arith
  first_here first (suc place) zero winner r stands wins others uses =
      let same = same_Some row r others in
      let passes : row.passes ≡ true = ap (λ (r : Row). r.passes) same ∙ uses.passes in
      let (kept, then) = held_then passes (held row.ticket) refl in
      let is : middle winner.ticket ≡ Some kept = ap middle (sym uses.same ∙ sym (ap (λ (r : Row). r.ticket) same)) ∙ then in
      let replayed = s.replays place winner kept stands (valid_passes winner (s.refused place winner stands) wins) is in
      let both : valid ≡ replay kept.call = sym wins ∙ replayed in
      absurd (cc)
  first_here first (suc place) (suc other) winner r stands wins others uses =
      let below : place ≤ other = first place other winner r stands wins others uses in omega arith

-- ---- all calls

pub settled_alone : (held next : Held) → Same held next → Settled held [] next
settled_alone held next same = record {
  refused = λ place row stands. absurd (none-some row stands);
  replays = λ place row kept stands. absurd (none-some row stands);
  winners = λ place row stands. absurd (none-some row stands);
  stays = λ ticket kept is. sym (same ticket) ∙ is;
  gains = λ place row stands. absurd (none-some row stands);
  no_more = λ ticket free none. sym (same ticket) ∙ free;
}

pub one_by_one : OneByOne
one_by_one held next [] same = (settled_alone held next same, λ place other winner row stands. absurd (none-some winner stands))
one_by_one held next (row ∷ rows) (middle, turn, more) =
    let (s, first) = one_by_one middle next rows more in
    (by_passes held middle next row rows turn s row.passes refl, first_here held middle next row rows turn s first)
