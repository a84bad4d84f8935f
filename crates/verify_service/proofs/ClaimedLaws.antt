-- A worker goes on by one call, its own or another's: what its seat has.
use Rattle.std.proofs.Common.{◌≡◌, ◌≢◌, ℕ, suc, ◌+◌, ◌<◌, ◌≤◌, ◌%◌, ◌⊎◌, inl, inr, List, set, length, Some, None, refl, sym, ap, ◌∙◌, subst, arith}
use Rattle.std.proofs.lemmas.Option.{same_Some}
use Rattle.std.specs.List.{slice_get}
use Rattle.replay_desk.specs.Holder.{DeskId, Holder, Settled}
use Rattle.live_desk.specs.Lists.{In, whole}
use Rattle.replay_desk.specs.Past.{PastView, found}
use Rattle.verify_service.specs.Carrying.{Claimed, IsLoss, IsWin, OwnLoss, OwnWin, Placed, out_at}
use Rattle.verify_service.specs.Claiming.{Claims, ReplaysKept, loss_of, pair_of}
use Rattle.verify_service.specs.Ready.{IsFresh, ticket_in}
use Rattle.verify_service.specs.declared.outcome.Outcome.{Outcome}
use Rattle.verify_service.specs.declared.outcome.Outcome.TheVariants as outcomes
use Rattle.verify_service.specs.declared.screening.ReadyCall.{ReadyCall}
use Rattle.verify_service.proofs.GainLaws.{Gained, gained_of, placed_on}
use Rattle.verify_service.proofs.OutLaws.{below_more, next, same_elsewhere, same_here}

-- the win of a call below an index stays what it is
win_on : (calls : List ReadyCall) (outs : List Outcome) (upto : ℕ) (outcome : Outcome) (most : ℕ) (p : ℕ × ℕ) → most ≤ upto → IsWin calls outs most p
    → IsWin calls (set outs upto outcome) most p
win_on calls outs upto outcome most p within win = record {
  at = win.at;
  call = win.call;
  below = win.below;
  stands = win.stands;
  pair = win.pair;
  valid = same_elsewhere outs upto win.at outcome (λ e. let b = win.below in absurd (omega arith)) ∙ win.valid;
}

win_more : (calls : List ReadyCall) (outs : List Outcome) (most : ℕ) (p : ℕ × ℕ) → IsWin calls outs most p → IsWin calls outs (suc most) p
win_more calls outs most p win = record { at = win.at; call = win.call; below = (let b = win.below in omega arith); stands = win.stands; pair = win.pair; valid = win.valid }

loss_more : (past : PastView) (calls : List ReadyCall) (outs : List Outcome) (most : ℕ) (p : ℕ × ℕ) → IsLoss past calls outs most p → IsLoss past calls outs (suc most) p
loss_more past calls outs most p l =
    record { at = l.at; call = l.call; below = (let b = l.below in omega arith); stands = l.stands; class = l.class; replay = l.replay; free = l.free }

loss_on : (past : PastView) (calls : List ReadyCall) (outs : List Outcome) (upto : ℕ) (outcome : Outcome) (p : ℕ × ℕ) → IsLoss past calls outs upto p
    → IsLoss past calls (set outs upto outcome) (suc upto) p
loss_on past calls outs upto outcome p loss = record {
  at = loss.at;
  call = loss.call;
  below = (let b = loss.below in omega arith);
  stands = loss.stands;
  class = loss.class;
  replay = same_elsewhere outs upto loss.at outcome (λ e. let b = loss.below in absurd (omega arith)) ∙ loss.replay;
  free = loss.free;
}

module _ (past : PastView) (calls : List ReadyCall) (count worker : ℕ) where
  -- nothing yet
  pub claimed_none : (desk : DeskId) (old : Holder) (outs : List Outcome) → IsFresh desk old → Claimed past calls count worker 0 old old outs
  claimed_none desk old outs fresh = record {
    desk = refl;
    share = refl;
    each = λ at call stands below own. absurd (omega arith);
    wins = λ p at. absurd (subst (In p) fresh.no_wins at);
    losses = λ p at. absurd (subst (In p) fresh.no_losses at);
    in_turn = λ share at call winner stands below own replay free. absurd (omega arith);
  }

  -- the call of another
  pub claimed_skip : (upto : ℕ) (old new : Holder) (outs : List Outcome) → upto % count ≢ worker → Claimed past calls count worker upto old new outs
      → Claimed past calls count worker (suc upto) old new outs
  unfolding win_more loss_more
  claimed_skip upto old new outs other w = record {
    desk = w.desk;
    share = w.share;
    each = λ at call stands below own. elim (below_more at upto below) [
      | inl less ↦ w.each at call stands less own
      | inr same ↦ absurd (other (sym (ap (λ k. k % count) same) ∙ own))
    ];
    wins = λ p at. (let o = w.wins p at in record { win = win_more calls outs upto p o.win; own = o.own });
    losses = λ p at. (let o = w.losses p at in record { loss = loss_more past calls outs upto p o.loss; own = o.own });
    in_turn = λ share at call winner stands below own replay free. elim (below_more at upto below) [
      | inl less ↦ w.in_turn share at call winner stands less own replay free
      | inr same ↦ absurd (other (sym (ap (λ k. k % count) same) ∙ own))
    ];
  }

  -- an own call
  module _ (upto : ℕ) (old mid new : Holder) (outs : List Outcome) (call : ReadyCall) (outcome : Outcome) (stands : slice_get calls upto ≡ Some call) (within : upto < length outs) (mine : upto % count ≡ worker)
      (w : Claimed past calls count worker upto old mid outs) (claims : Claims past call mid new outcome)
      (settled : Settled new) where
    g : Gained past call mid new outcome
    g = gained_of past call mid new outcome claims

    abbrev outs_now : List Outcome
    outs_now = set outs upto outcome

    same_call : (at : ℕ) (other : ReadyCall) → at ≡ upto → slice_get calls at ≡ Some other → call ≡ other
    same_call at other same is = same_Some call other (sym stands ∙ ap (slice_get calls) (sym same) ∙ is)

    each_by : (at : ℕ) (other : ReadyCall) → slice_get calls at ≡ Some other → at % count ≡ worker → (at < upto) ⊎ (at ≡ upto) → Placed past other new (out_at outs_now at)
    each_by at other is own (inl less) =
        subst (λ (o : Outcome). Placed past other new o) (sym (same_elsewhere outs upto at outcome (λ e. absurd (omega arith))))
        (placed_on past other mid new (out_at outs at) g.kept_wins g.kept_losses (w.each at other is less own))
    each_by at other is own (inr same) =
        subst (λ (o : Outcome). Placed past other new o) (sym (ap (out_at outs_now) same ∙ same_here outs upto outcome within))
        (subst (λ (c : ReadyCall). Placed past c new outcome) (same_call at other same is) g.placed)

    win_by : (p : ℕ × ℕ) → In p mid.wins ⊎ ((p ≡ pair_of call) × (outcome ≡ outcomes.Valid)) → OwnWin calls outs_now count worker (suc upto) p
    unfolding win_more win_on
    win_by p (inl before) =
        let o = w.wins p before in record { win = win_more calls outs_now upto p (win_on calls outs upto outcome upto p (omega arith) o.win); own = o.own }
    win_by p (inr here) = record {
      win = record { at = upto; call = call; below = omega arith; stands = stands; pair = here.0; valid = same_here outs upto outcome within ∙ here.1 };
      own = mine;
    }

    loss_by : (p : ℕ × ℕ) → In p mid.losses ⊎ ((p ≡ loss_of call p.1) × (outcome ≡ outcomes.Replay p.1) × (found past (ticket_in call.screening) ≡ None))
        → OwnLoss past calls outs_now count worker (suc upto) p
    unfolding loss_on
    loss_by p (inl before) = let o = w.losses p before in record { loss = loss_on past calls outs upto outcome p o.loss; own = o.own }
    loss_by p (inr here) = record {
      loss = record {
        at = upto;
        call = call;
        below = omega arith;
        stands = stands;
        class = ap (λ (q : ℕ × ℕ). q.0) here.0;
        replay = same_here outs upto outcome within ∙ here.1;
        free = here.2;
      };
      own = mine;
    }

    -- with the whole share the loss names a win of a call before
    lost_before : new.share ≡ whole → (winner : ℕ) → outcome ≡ outcomes.Replay winner → found past (ticket_in call.screening) ≡ None → IsWin calls outs_now upto (loss_of call winner)
    lost_before share winner is free =
        let placed : Placed past call new (outcomes.Replay winner) = subst (λ (o : Outcome). Placed past call new o) is g.placed in
        win_on calls outs upto outcome upto (loss_of call winner) (omega arith) (w.wins (loss_of call winner) (named (in_losses placed))).win
      where
        none_is_some : (k : _) → found past (ticket_in call.screening) ≡ Some k → ⊥
        none_is_some k e = absurd cc

        in_losses : ReplaysKept past (ticket_in call.screening) winner ⊎ ((found past (ticket_in call.screening) ≡ None) × In (loss_of call winner) new.losses)
            → In (loss_of call winner) new.losses
        in_losses (inl kept) = absurd (none_is_some kept.kept kept.stands)
        in_losses (inr lost) = lost.1

        not_here : In (loss_of call winner) mid.wins ⊎ ((loss_of call winner ≡ pair_of call) × (outcome ≡ outcomes.Valid)) → In (loss_of call winner) mid.wins
        not_here (inl before) = before
        not_here (inr here) = absurd (let e = here.1 in cc)

        named : In (loss_of call winner) new.losses → In (loss_of call winner) mid.wins
        named lost = not_here (g.wins (loss_of call winner) (settled.named share (loss_of call winner) lost))

    turn_by : new.share ≡ whole → (at : ℕ) (other : ReadyCall) (winner : ℕ) → slice_get calls at ≡ Some other → at % count ≡ worker → out_at outs_now at ≡ outcomes.Replay winner
        → found past (ticket_in other.screening) ≡ None → mid.share ≡ whole → (at < upto) ⊎ (at ≡ upto) → IsWin calls outs_now at (loss_of other winner)
    turn_by share at other winner is own replay free before (inl less) =
        win_on calls outs upto outcome at (loss_of other winner) (omega arith)
        (w.in_turn (sym w.share ∙ before) at other winner is less own (sym (same_elsewhere outs upto at outcome (λ e. absurd (omega arith))) ∙ replay) free)
    turn_by share at other winner is own replay free before (inr same) =
        let here : outcome ≡ outcomes.Replay winner = sym (same_here outs upto outcome within) ∙ ap (out_at outs_now) (sym same) ∙ replay in
        let one : call ≡ other = same_call at other same is in
        subst (λ k. IsWin calls outs_now k (loss_of other winner)) (sym same)
        (subst (λ (c : ReadyCall). IsWin calls outs_now upto (loss_of c winner)) one
        (lost_before share winner here (subst (λ (c : ReadyCall). found past (ticket_in c.screening) ≡ None) (sym one) free)))

    pub claimed_own : Claimed past calls count worker (suc upto) old new outs_now
    claimed_own = record {
      desk = g.desk ∙ w.desk;
      share = g.share ∙ w.share;
      each = λ at other is below own. each_by at other is own (below_more at upto below);
      wins = λ p at. win_by p (g.wins p at);
      losses = λ p at. loss_by p (g.losses p at);
      in_turn = λ share at other winner is below own replay free.
          turn_by (g.share ∙ w.share ∙ share) at other winner is own replay free (w.share ∙ share) (below_more at upto below);
    }

-- the same, as a loop counts
pub skip_next : (past : PastView) (calls : List ReadyCall) (count worker upto : ℕ) (old new : Holder) (outs : List Outcome) → upto % count ≢ worker
    → Claimed past calls count worker upto old new outs → Claimed past calls count worker (upto + 1) old new outs
skip_next past calls count worker upto old new outs other w =
    subst (λ n. Claimed past calls count worker n old new outs) (next upto) (claimed_skip past calls count worker upto old new outs other w)

pub own_next : (past : PastView) (calls : List ReadyCall) (count worker upto : ℕ) (old mid new : Holder) (outs : List Outcome) (call : ReadyCall) (outcome : Outcome)
    → slice_get calls upto ≡ Some call → upto < length outs → upto % count ≡ worker → Claimed past calls count worker upto old mid outs → Claims past call mid new outcome → Settled new
    → Claimed past calls count worker (upto + 1) old new (set outs upto outcome)
own_next past calls count worker upto old mid new outs call outcome stands within mine w claims settled =
    subst (λ n. Claimed past calls count worker n old new (set outs upto outcome)) (next upto)
    (claimed_own past calls count worker upto old mid new outs call outcome stands within mine w claims settled)
