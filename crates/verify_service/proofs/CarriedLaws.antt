-- The calls of a round that claimed on one desk are settled over the past.
use Rattle.std.proofs.Common.{◌≡◌, ◌≢◌, ℕ, ◌≤◌, ◌⊎◌, inl, inr, true, false, List, length, Some, None, refl, sym, ap, ◌∙◌, subst, arith}
use Rattle.std.proofs.lemmas.Option.{same_Some}
use Rattle.std.specs.List.{slice_get}
use Rattle.std.specs.Option.{option_map}
use Rattle.call_log.specs.Entry.{Entry}
use Rattle.replay_desk.specs.Holder.{Holder, Settled as SeatSettled}
use Rattle.live_desk.specs.Lists.{In, whole}
use Rattle.replay_desk.specs.Past.{PastView, found}
use Rattle.replay_law.specs.Held.{Kept, kept_of}
use Rattle.replay_law.specs.Round.{Settled, Winner}
use Rattle.replay_law.specs.Row.{Row, Stands, Uses, neither, replay, valid}
use Rattle.replay_law.specs.Turn.{FirstWins}
use Rattle.verify_rules.specs.declared.settings.Settings.{Settings}
use Rattle.verify_service.specs.Adding.{IsAdded, IsOnceValid, kept_as}
use Rattle.verify_service.specs.Carrying.{HasClaims, IsWin, Placed, out_at}
use Rattle.verify_service.specs.Claiming.{ReplaysKept, loss_of, pair_of}
use Rattle.verify_service.specs.Judging.{EachPair, call_in}
use Rattle.verify_service.specs.Ready.{AreClassed, AreNumbered, class_in, is_passed, ticket_in}
use Rattle.verify_service.specs.Rows.{answer_of, held, kept_of_past, passes, row_of, rows_of}
use Rattle.verify_service.specs.Screening.{IsReady, last_in}
use Rattle.verify_service.specs.declared.outcome.Outcome.{Outcome}
use Rattle.verify_service.specs.declared.outcome.Outcome.TheVariants as outcomes
use Rattle.verify_service.specs.declared.screening.ReadyCall.{ReadyCall}
use Rattle.verify_service.proofs.CallRowLaws.{CallAt, PassOutcome, RowAt, ScreenedLaws, answer_neither, answer_valid, apart_kept, apart_passed, call_at, held_some, is_replay, is_valid, last_is, none_held, pass_outcome, row_at, same_kept, ticket_is}

-- What is known of a round that was carried out.
pub record IsCarried (settings : Settings) (entries : List Entry) (calls : List ReadyCall) (outs : List Outcome) (past next : PastView) (all : Holder) : Type 0 where
  pub laws : ScreenedLaws
  pub ready : EachPair (IsReady settings) entries calls
  pub counted : length outs ≡ length entries
  pub claims : HasClaims past calls outs all
  pub seat : SeatSettled all
  pub share : all.share ≡ whole
  pub classed : AreClassed calls
  pub numbered : AreNumbered calls
  pub passed : (at : ℕ) (call : ReadyCall) → slice_get calls at ≡ Some call → passes (out_at outs at) ≡ true → is_passed call.screening ≡ true
  pub added : IsAdded past next calls outs

module _ (settings : Settings) (entries : List Entry) (calls : List ReadyCall) (outs : List Outcome) (past next : PastView) (all : Holder)
    (k : IsCarried settings entries calls outs past next all) where
  abbrev rows : List Row
  rows = rows_of settings entries outs

  at_row : (at : ℕ) (row : Row) → Stands rows at row → RowAt settings entries calls outs at row
  at_row at row stands = row_at settings entries calls outs at row k.ready stands

  -- a row that passes, with its call
  record Passing (at : ℕ) (row : Row) : Type 0 where
    call : ReadyCall
    stands : slice_get calls at ≡ Some call
    screened : is_passed call.screening ≡ true
    ticket : ticket_in call.screening ≡ row.ticket
    number : call.number ≡ row.number
    last : last_in call.screening ≡ row.last
    answer : row.answer ≡ answer_of (out_at outs at)
    outcome : PassOutcome (out_at outs at)
    placed : Placed past call all (out_at outs at)

  passing : (at : ℕ) (row : Row) → Stands rows at row → row.passes ≡ true → Passing at row
  passing at row stands pass =
      let r = at_row at row stands in
      let own : passes (out_at outs at) ≡ true = sym (ap (λ (x : Row). x.passes) r.is) ∙ pass in
      let through : is_passed r.call.screening ≡ true = k.passed at r.call r.stands own in
      record {
        call = r.call;
        stands = r.stands;
        screened = through;
        ticket = ticket_is k.laws (call_in settings r.entry) r.call.screening through r.ready.screening ∙ sym (ap (λ (x : Row). x.ticket) r.is);
        number = r.ready.number ∙ sym (ap (λ (x : Row). x.number) r.is);
        last = last_is k.laws (call_in settings r.entry) r.call.screening through r.ready.screening ∙ sym (ap (λ (x : Row). x.last) r.is);
        answer = ap (λ (x : Row). x.answer) r.is;
        outcome = pass_outcome (out_at outs at) own;
        placed = k.claims.each at r.call r.stands;
      }

  -- the pair of a valid call is a win, and its ticket isn't held
  valid_placed : (at : ℕ) (row : Row) (p : Passing at row) → out_at outs at ≡ outcomes.Valid → (found past (ticket_in p.call.screening) ≡ None) × In (pair_of p.call) all.wins
  valid_placed at row p is = subst (λ (o : Outcome). Placed past p.call all o) is p.placed

  replay_placed : (at : ℕ) (row : Row) (p : Passing at row) (winner : ℕ) → out_at outs at ≡ outcomes.Replay winner
      → ReplaysKept past (ticket_in p.call.screening) winner ⊎ ((found past (ticket_in p.call.screening) ≡ None) × In (loss_of p.call winner) all.losses)
  replay_placed at row p winner is = subst (λ (o : Outcome). Placed past p.call all o) is p.placed

  -- a win is that of one call
  one_winner : (at other : ℕ) (call second : ReadyCall) → slice_get calls at ≡ Some call → slice_get calls other ≡ Some second → class_in call ≡ class_in second
      → In (pair_of call) all.wins → In (pair_of second) all.wins → at ≡ other
  one_winner at other call second here there same one two =
      let mine : In (class_in second, call.number) all.wins = subst (λ k. In (k, call.number) all.wins) same one in
      k.numbered at other call second here there (k.seat.agree (class_in second) call.number second.number (inl mine) (inl two))

  -- ---- what is refused, and what is replayed

  refused : (place : ℕ) (row : Row) → Stands rows place row → row.passes ≡ false → row.answer ≡ neither
  refused place row stands fails =
      let r = at_row place row stands in
      ap (λ (x : Row). x.answer) r.is ∙ answer_neither (out_at outs place) (sym (ap (λ (x : Row). x.passes) r.is) ∙ fails)

  replays : (place : ℕ) (row : Row) (kept : Kept) → Stands rows place row → row.passes ≡ true → held past row.ticket ≡ Some kept → row.answer ≡ replay kept.call
  replays place row kept stands pass at = by (passing place row stands pass)
    where
      by : Passing place row → row.answer ≡ replay kept.call
      by p = by_outcome p.outcome
        where
          here : held past (ticket_in p.call.screening) ≡ Some kept
          here = ap (held past) p.ticket ∙ at

          by_placed : (winner : ℕ) → out_at outs place ≡ outcomes.Replay winner
              → ReplaysKept past (ticket_in p.call.screening) winner ⊎ ((found past (ticket_in p.call.screening) ≡ None) × In (loss_of p.call winner) all.losses) → row.answer ≡ replay kept.call
          by_placed winner is (inl k) =
              let same : kept_of_past k.kept ≡ kept = same_kept (kept_of_past k.kept) kept (sym (held_some past (ticket_in p.call.screening) k.kept k.stands) ∙ here) in
              p.answer ∙ ap answer_of is ∙ ap replay (k.names ∙ ap (λ (x : Kept). x.call) same)
          by_placed winner is (inr lost) = absurd (apart_kept (held past (ticket_in p.call.screening)) kept here (none_held past (ticket_in p.call.screening) lost.0))

          by_outcome : PassOutcome (out_at outs place) → row.answer ≡ replay kept.call
          by_outcome (is_valid is) =
              absurd (apart_kept (held past (ticket_in p.call.screening)) kept here (none_held past (ticket_in p.call.screening) (valid_placed place row p is).0))
          by_outcome (is_replay winner is) = by_placed winner is (replay_placed place row p winner is)

  -- ---- the winner of a ticket

  module _ (at : ℕ) (call : ReadyCall) (stands : slice_get calls at ≡ Some call) (wins : out_at outs at ≡ outcomes.Valid) where
    mine : CallAt settings entries outs at call
    mine = call_at settings entries calls outs at call k.counted k.ready stands

    abbrev own_row : Row
    own_row = row_of settings mine.entry (out_at outs at)

    own_pass : own_row.passes ≡ true
    own_pass = ap passes wins

    own : Passing at own_row
    own = passing at own_row mine.stands own_pass

    same_own : own.call ≡ call
    same_own = same_Some own.call call (sym own.stands ∙ stands)

    own_placed : (found past (ticket_in own.call.screening) ≡ None) × In (pair_of own.call) all.wins
    own_placed = valid_placed at own_row own wins

    module _ (other : ℕ) (row : Row) (there : Stands rows other row) (uses : Uses own_row.ticket row) where
      second : Passing other row
      second = passing other row there uses.passes

      one_ticket : ticket_in own.call.screening ≡ ticket_in second.call.screening
      one_ticket = own.ticket ∙ sym uses.same ∙ sym second.ticket

      one_class : class_in own.call ≡ class_in second.call
      one_class = k.classed.one_class at other own.call second.call own.stands second.stands own.screened second.screened one_ticket

      second_free : found past (ticket_in second.call.screening) ≡ None
      second_free = ap (found past) (sym one_ticket) ∙ own_placed.0

      loses_by : (winner : ℕ) → ReplaysKept past (ticket_in second.call.screening) winner ⊎ ((found past (ticket_in second.call.screening) ≡ None) × In (loss_of second.call winner) all.losses)
          → winner ≡ own.call.number
      loses_by winner (inl k) = absurd (apart_passed (found past (ticket_in second.call.screening)) k.kept k.stands second_free)
      loses_by winner (inr lost) =
          let theirs : In (class_in own.call, winner) all.losses = subst (λ k. In (k, winner) all.losses) (sym one_class) lost.1 in
          k.seat.agree (class_in own.call) winner own.call.number (inr theirs) (inl own_placed.1)

      loses : other ≢ at → PassOutcome (out_at outs other) → row.answer ≡ replay own_row.number
      loses apart (is_valid is) =
          absurd (apart (sym (one_winner at other own.call second.call own.stands second.stands one_class own_placed.1 (valid_placed other row second is).1)))
      loses apart (is_replay winner is) =
          second.answer ∙ ap answer_of is ∙ ap replay (loses_by winner (replay_placed other row second winner is) ∙ own.number)

    winner_here : Winner rows own_row.ticket
    winner_here = record {
      place = at;
      winner = own_row;
      stands = mine.stands;
      uses = record { passes = own_pass; same = refl };
      wins = ap answer_of wins;
      others = λ other row there uses apart. loses other row there uses apart (second other row there uses).outcome;
    }

    own_ticket : ticket_in call.screening ≡ own_row.ticket
    own_ticket = ap (λ (c : ReadyCall). ticket_in c.screening) (sym same_own) ∙ own.ticket

    own_screened : is_passed call.screening ≡ true
    own_screened = ap (λ (c : ReadyCall). is_passed c.screening) (sym same_own) ∙ own.screened

  winners : (place : ℕ) (row : Row) → Stands rows place row → row.passes ≡ true → held past row.ticket ≡ None → Winner rows row.ticket
  winners place row stands pass free = by (passing place row stands pass)
    where
      by : Passing place row → Winner rows row.ticket
      by p = by_outcome p.outcome
        where
          by_win : (winner : ℕ) → IsWin calls outs (length calls) (loss_of p.call winner) → Winner rows row.ticket
          by_win winner w =
              let same_class : class_in w.call ≡ class_in p.call = sym (ap (λ (q : ℕ × ℕ). q.0) w.pair) in
              let same : ticket_in w.call.screening ≡ ticket_in p.call.screening =
              k.classed.one_ticket w.at place w.call p.call w.stands p.stands (own_screened w.at w.call w.stands w.valid) p.screened same_class in
              subst (λ (t : List ℕ). Winner rows t) (sym (own_ticket w.at w.call w.stands w.valid) ∙ same ∙ p.ticket) (winner_here w.at w.call w.stands w.valid)

          by_placed : (winner : ℕ) → ReplaysKept past (ticket_in p.call.screening) winner ⊎ ((found past (ticket_in p.call.screening) ≡ None) × In (loss_of p.call winner) all.losses) → Winner rows row.ticket
          by_placed winner (inl k) = absurd (apart_kept (held past row.ticket) (kept_of_past k.kept) (ap (held past) (sym p.ticket) ∙ held_some past (ticket_in p.call.screening) k.kept k.stands) free)
          by_placed winner (inr lost) = by_win winner (k.claims.wins (loss_of p.call winner) (k.seat.named k.share (loss_of p.call winner) lost.1))

          by_outcome : PassOutcome (out_at outs place) → Winner rows row.ticket
          by_outcome (is_valid is) = subst (λ (t : List ℕ). Winner rows t) (sym (own_ticket place p.call p.stands is) ∙ p.ticket) (winner_here place p.call p.stands is)
          by_outcome (is_replay winner is) = by_placed winner (replay_placed place row p winner is)

  -- ---- what is held then

  stays : (ticket : List ℕ) (kept : Kept) → held past ticket ≡ Some kept → held next ticket ≡ Some kept
  stays ticket kept at =
      ap (option_map kept_of_past) (k.added.others ticket (λ place call stands wins same.
      apart_kept (held past ticket) kept at (none_held past ticket (ap (found past) (sym same) ∙ valid_free place call stands wins)))) ∙ at
    where
      valid_free : (place : ℕ) (call : ReadyCall) → slice_get calls place ≡ Some call → out_at outs place ≡ outcomes.Valid → found past (ticket_in call.screening) ≡ None
      valid_free place call stands wins = (subst (λ (o : Outcome). Placed past call all o) wins (k.claims.each place call stands)).0

  gains : (place : ℕ) (row : Row) → Stands rows place row → row.answer ≡ valid → held next row.ticket ≡ Some (kept_of row)
  gains place row stands wins =
      let r = at_row place row stands in
      let is : out_at outs place ≡ outcomes.Valid = answer_valid (out_at outs place) (sym (ap (λ (x : Row). x.answer) r.is) ∙ wins) in
      let p = passing place row stands (ap (λ (x : Row). x.passes) r.is ∙ ap passes is) in
      ap (held next) (sym p.ticket) ∙ held_some next (ticket_in p.call.screening) (kept_as p.call) (k.added.valid place p.call p.stands is)
      ∙ ap Some (same_parts p.call.number row.number (last_in p.call.screening) row.last p.number p.last)
    where
      same_parts : (a b m n : ℕ) → a ≡ b → m ≡ n → ◌≡◌ {A = Kept} (record { call = a; last = m }) (record { call = b; last = n })
      same_parts a b m n e f = cc

  no_more : (ticket : List ℕ) → held past ticket ≡ None → ((place : ℕ) (row : Row) → Stands rows place row → row.ticket ≡ ticket → row.answer ≢ valid) → held next ticket ≡ None
  no_more ticket none lacks =
      ap (option_map kept_of_past) (k.added.others ticket (λ place call stands wins same.
      lacks place (own_row place call stands wins) (mine place call stands wins).stands (sym (own_ticket place call stands wins) ∙ same) (ap answer_of wins))) ∙ none

  pub carried_settled : Settled (held past) rows (held next)
  carried_settled = record { refused = refused; replays = replays; winners = winners; stays = stays; gains = gains; no_more = no_more }

  -- ---- one worker takes the calls in their order

  pub first_wins : ((at : ℕ) (call : ReadyCall) (winner : ℕ) → slice_get calls at ≡ Some call → out_at outs at ≡ outcomes.Replay winner → found past (ticket_in call.screening) ≡ None
      → IsWin calls outs at (loss_of call winner)) → FirstWins rows
  first_wins in_turn place other winner row stands wins there uses =
      let r = at_row place winner stands in
      let is : out_at outs place ≡ outcomes.Valid = answer_valid (out_at outs place) (sym (ap (λ (x : Row). x.answer) r.is) ∙ wins) in
      by r is
    where
      by : RowAt settings entries calls outs place winner → out_at outs place ≡ outcomes.Valid → place ≤ other
      by r is = later (second place r.call r.stands is other row there using).outcome
        where
          own_is : own_row place r.call r.stands is ≡ winner
          own_is = same_Some (own_row place r.call r.stands is) winner (sym (mine place r.call r.stands is).stands ∙ stands)

          using : Uses (own_row place r.call r.stands is).ticket row
          using = subst (λ (x : Row). Uses x.ticket row) (sym own_is) uses

          p : Passing other row
          p = second place r.call r.stands is other row there using

          later : PassOutcome (out_at outs other) → place ≤ other
          later (is_valid valid_there) =
              let same = one_winner place other (own place r.call r.stands is).call p.call (own place r.call r.stands is).stands p.stands
              (one_class place r.call r.stands is other row there using) (own_placed place r.call r.stands is).1 (valid_placed other row p valid_there).1 in
              omega arith
          later (is_replay number lost) =
              let w = in_turn other p.call number p.stands lost (second_free place r.call r.stands is other row there using) in
              let same_class : class_in (own place r.call r.stands is).call ≡ class_in w.call =
              one_class place r.call r.stands is other row there using ∙ ap (λ (q : ℕ × ℕ). q.0) w.pair in
              let win : In (pair_of w.call) all.wins = (subst (λ (o : Outcome). Placed past w.call all o) w.valid (k.claims.each w.at w.call w.stands)).1 in
              let same = one_winner place w.at (own place r.call r.stands is).call w.call (own place r.call r.stands is).stands w.stands same_class (own_placed place r.call r.stands is).1 win in
              let below = w.below in
              omega arith

-- the rules of the call refuse no valid call, its ticket isn't held, and no two valid calls have one
pub once_valid : (past : PastView) (calls : List ReadyCall) (outs : List Outcome) (all : Holder) → HasClaims past calls outs all → SeatSettled all → AreClassed calls → AreNumbered calls
    → ((at : ℕ) (call : ReadyCall) → slice_get calls at ≡ Some call → passes (out_at outs at) ≡ true → is_passed call.screening ≡ true) → IsOnceValid past calls outs
once_valid past calls outs all claims seat classed numbered passed = record {
  passed = λ at call stands is. passed at call stands (ap passes is);
  free = λ at call stands is. (placed at call stands is).0;
  once = λ at other call second here there one two same.
      let class = classed.one_class at other call second here there (passed at call here (ap passes one)) (passed other second there (ap passes two)) same in
      let mine : In (class_in second, call.number) all.wins = subst (λ k. In (k, call.number) all.wins) class (placed at call here one).1 in
      numbered at other call second here there (seat.agree (class_in second) call.number second.number (inl mine) (inl (placed other second there two).1));
} where
  placed : (at : ℕ) (call : ReadyCall) → slice_get calls at ≡ Some call → out_at outs at ≡ outcomes.Valid → (found past (ticket_in call.screening) ≡ None) × In (pair_of call) all.wins
  placed at call stands is = subst (λ (o : Outcome). Placed past call all o) is (claims.each at call stands)
