-- What the seat gained by a call.
use Rattle.std.proofs.Common.{◌≡◌, ℕ, ◌⊎◌, inl, inr, List, ◌∷◌, None, refl, sym, subst}
use Rattle.replay_desk.specs.Holder.{Holder, gained, lost_to}
use Rattle.live_desk.specs.Lists.{In}
use Rattle.replay_desk.specs.Past.{PastView, found}
use Rattle.verify_service.specs.Carrying.{Placed}
use Rattle.verify_service.specs.Claiming.{Claims, loss_of, pair_of}
use Rattle.verify_service.specs.Ready.{class_in, ticket_in}
use Rattle.verify_service.specs.declared.outcome.Outcome.{Outcome}
use Rattle.verify_service.specs.declared.outcome.Outcome.TheVariants as outcomes
use Rattle.verify_service.specs.declared.screening.ReadyCall.{ReadyCall}

-- What the seat gained by a call, as facts on its wins and losses.
pub record Gained (past : PastView) (call : ReadyCall) (old new : Holder) (outcome : Outcome) : Type 0 where
  pub desk : new.desk ≡ old.desk
  pub share : new.share ≡ old.share
  pub kept_wins : (p : ℕ × ℕ) → In p old.wins → In p new.wins
  pub kept_losses : (p : ℕ × ℕ) → In p old.losses → In p new.losses
  pub placed : Placed past call new outcome
  pub wins : (p : ℕ × ℕ) → In p new.wins → In p old.wins ⊎ ((p ≡ pair_of call) × (outcome ≡ outcomes.Valid))
  pub losses : (p : ℕ × ℕ) → In p new.losses → In p old.losses ⊎ ((p ≡ loss_of call p.1) × (outcome ≡ outcomes.Replay p.1) × (found past (ticket_in call.screening) ≡ None))

-- nothing
gained_none : (past : PastView) (call : ReadyCall) (old new : Holder) (outcome : Outcome) → Placed past call old outcome → new ≡ old → Gained past call old new outcome
gained_none past call old new outcome placed same =
    subst (λ (h : Holder). Gained past call old h outcome) (sym same)
    (record {
      desk = refl;
      share = refl;
      kept_wins = λ p at. at;
      kept_losses = λ p at. at;
      placed = placed;
      wins = λ p at. inl at;
      losses = λ p at. inl at;
    })

in_front : (p q : ℕ × ℕ) (qs : List (ℕ × ℕ)) → In p (q ∷ qs) → In p qs ⊎ (p ≡ q)
in_front p q qs (inl same) = inr same
in_front p q qs (inr behind) = inl behind

gained_win : (past : PastView) (call : ReadyCall) (old : Holder) → found past (ticket_in call.screening) ≡ None
    → Gained past call old (gained (class_in call) call.number old) outcomes.Valid
gained_win past call old free = record {
  desk = refl;
  share = refl;
  kept_wins = λ p at. inr at;
  kept_losses = λ p at. at;
  placed = (free, inl refl);
  wins = λ p at. by (in_front p (pair_of call) old.wins at);
  losses = λ p at. inl at;
} where
  by : {p : ℕ × ℕ} → In p old.wins ⊎ (p ≡ pair_of call) → In p old.wins ⊎ ((p ≡ pair_of call) × (outcomes.Valid ≡ outcomes.Valid))
  by (inl before) = inl before
  by (inr here) = inr (here, refl)

gained_loss : (past : PastView) (call : ReadyCall) (winner : ℕ) (old : Holder) → found past (ticket_in call.screening) ≡ None
    → Gained past call old (lost_to (class_in call) winner old) (outcomes.Replay winner)
gained_loss past call winner old free = record {
  desk = refl;
  share = refl;
  kept_wins = λ p at. at;
  kept_losses = λ p at. inr at;
  placed = inr (free, inl refl);
  wins = λ p at. inl at;
  losses = λ p at. by p (in_front p (loss_of call winner) old.losses at);
} where
  by : (p : ℕ × ℕ) → In p old.losses ⊎ (p ≡ loss_of call winner)
      → In p old.losses ⊎ ((p ≡ loss_of call p.1) × (outcomes.Replay winner ≡ outcomes.Replay p.1) × (found past (ticket_in call.screening) ≡ None))
  by p (inl before) = inl before
  by p (inr here) = inr (subst (λ (q : ℕ × ℕ). (q ≡ loss_of call q.1) × (outcomes.Replay winner ≡ outcomes.Replay q.1) × (found past (ticket_in call.screening) ≡ None)) (sym here) (refl, refl, free))

pub gained_of : (past : PastView) (call : ReadyCall) (old new : Holder) (outcome : Outcome) → Claims past call old new outcome → Gained past call old new outcome
gained_of past call old new outcomes.Valid h = subst (λ (x : Holder). Gained past call old x outcomes.Valid) (sym h.1) (gained_win past call old h.0)
gained_of past call old new (outcomes.Refused refused) h = gained_none past call old new (outcomes.Refused refused) tt h
gained_of past call old new (outcomes.Replay winner) (inl h) = gained_none past call old new (outcomes.Replay winner) (inl h.0) h.1
gained_of past call old new (outcomes.Replay winner) (inr h) =
    subst (λ (x : Holder). Gained past call old x (outcomes.Replay winner)) (sym h.1) (gained_loss past call winner old h.0)
gained_of past call old new (outcomes.Unread bad) h = gained_none past call old new (outcomes.Unread bad) tt h
gained_of past call old new (outcomes.Unasked bad) h = gained_none past call old new (outcomes.Unasked bad) tt h

-- what is placed stays placed
pub placed_on : (past : PastView) (call : ReadyCall) (old new : Holder) (outcome : Outcome) → ((p : ℕ × ℕ) → In p old.wins → In p new.wins)
    → ((p : ℕ × ℕ) → In p old.losses → In p new.losses) → Placed past call old outcome → Placed past call new outcome
placed_on past call old new outcomes.Valid wins losses h = (h.0, wins (pair_of call) h.1)
placed_on past call old new (outcomes.Refused refused) wins losses h = tt
placed_on past call old new (outcomes.Replay winner) wins losses (inl h) = inl h
placed_on past call old new (outcomes.Replay winner) wins losses (inr h) = inr (h.0, losses (loss_of call winner) h.1)
placed_on past call old new (outcomes.Unread bad) wins losses h = tt
placed_on past call old new (outcomes.Unasked bad) wins losses h = tt
