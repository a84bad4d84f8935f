use Rattle.std.proofs.Common.{◌≡◌, ℕ, subst}
use Rattle.replay_desk.specs.Holder.{Holder}
use Rattle.live_desk.specs.Lists.{In, whole}
use Rattle.replay_desk.proofs.desk.Desk.close.Goals as goal

pub returns : goal.returns
returns c = subst (λ (h : Holder). h.share ≡ whole → (p : ℕ × ℕ) → In p h.losses → In p h.wins) c.seat.view_is c.seat.invariant.1.named c.requires.share
