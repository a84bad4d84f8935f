use Rattle.std.proofs.Common.{◌<◌, sym, ap, ◌∙◌, arith}
use Rattle.atomic_table.specs.Table.{Me}
use Rattle.replay_desk.specs.Holder.{Holder}
use Rattle.replay_desk.specs.declared.view.View.{View}
use Rattle.replay_desk.proofs.Keeping.{join_allowed, look_allowed}
use Rattle.replay_desk.proofs.desk.Desk.join.Goals as goal

pub join_seat-requires : goal.join_seat-requires
join_seat-requires c =
    let here = c.self.view_is in (
      ap (λ (h : Holder). h.desk) c.seat.view_is ∙ (c.requires.desk ∙ sym here),
      ap (λ (h : Holder). h.desk) c.other.view_is ∙ (c.requires.other ∙ sym here),
      c.other.invariant.0,
      c.self.invariant.0,
      join_allowed c.self.inside.table.shared.key c.seat.inside.token.id c.seat.inside.token.me.0 c.other.inside.token.id c.other.inside.token.me.0 c.seat.invariant.1.above,
    )

pub load-requires : goal.load-requires
load-requires c =
    let joined = ap (λ (me : Me (Unit {0}) View). me.0.share) c.join_seat.ensures.2 in
    let above : 0 < c.join_seat.new.seat.me.0.share = omega (arith, joined, c.seat.invariant.1.above) in (
      c.join_seat.ensures.0 ∙ (ap (λ (h : Holder). h.desk) c.seat.view_is ∙ (c.requires.desk ∙ sym c.self.view_is)),
      c.self.invariant.0,
      look_allowed c.self.inside.table.shared.key c.self.inside.table.shared.table_id.slots c.join_seat.new.seat.id c.join_seat.new.seat.me above,
    )
