use Rattle.std.proofs.Common.{◌≡◌, ◌≤◌, [], sym, subst, ap, ◌∙◌, arith}
use Rattle.atomic_table.specs.Table.{Me}
use Rattle.replay_desk.specs.Holder.{Holder}
use Rattle.replay_desk.specs.Steps.{Known}
use Rattle.replay_desk.specs.declared.view.View.{View}
use Rattle.replay_desk.proofs.Keeping.{left_known, split_allowed}
use Rattle.replay_desk.proofs.desk.Desk.split.Goals as goal

pub split_seat-token-requires : goal.split_seat-token-requires
split_seat-token-requires c =
    let two : 2 ≤ c.seat.inside.token.me.0.share = omega (arith, ap (λ (h : Holder). h.share) c.seat.view_is, c.requires.share) in (
      ap (λ (h : Holder). h.desk) c.seat.view_is ∙ (c.requires.desk ∙ sym c.self.view_is),
      c.self.invariant.0,
      split_allowed c.self.inside.table.shared.key c.seat.inside.token.id c.seat.inside.token.me.0 two,
    )

pub invariant_of-seat : goal.invariant_of-seat
invariant_of-seat c =
    let two : 2 ≤ c.seat.inside.token.me.0.share = omega (arith, ap (λ (h : Holder). h.share) c.seat.view_is, c.requires.share) in
    subst (λ (me : Me (Unit {0}) View). (me.1 ≡ []) × Known me.0.wins me.0.losses me.0.share) (sym c.split_seat-token.ensures.2)
    (c.seat.invariant.0, left_known c.seat.inside.token.me.0 two c.seat.invariant.1)
