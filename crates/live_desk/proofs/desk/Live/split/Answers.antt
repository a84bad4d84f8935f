use Rattle.std.proofs.Common.{◌≡◌, ◌≤◌, ℕ, List, [], sym, subst, ap, ◌∙◌, arith}
use Rattle.atomic_table.specs.Table.{Me}
use Rattle.live_desk.specs.Steps.{KnownOf}
use Rattle.live_desk.specs.Holder.{Holder, LiveDesk}
use Rattle.live_desk.specs.declared.view.View.{View}
use Rattle.live_desk.proofs.Keeping.{left_known, split_allowed}
use Rattle.live_desk.proofs.desk.Live.split.Goals as goal

pub split_seat-token-requires : goal.split_seat-token-requires
split_seat-token-requires c =
    let two : 2 ≤ c.seat.inside.token.me.0.share = omega (arith, ap (λ (h : Holder). h.share) c.seat.view_is, c.requires.share) in (
      ap (λ (h : Holder). h.desk.table) c.seat.view_is ∙ (ap (λ (d : LiveDesk). d.table) c.requires.desk ∙ sym (ap (λ (d : LiveDesk). d.table) c.self.view_is)),
      omega (arith, c.self.invariant.1, c.self.invariant.2),
      split_allowed c.self.inside.table.shared.key c.seat.inside.token.id c.seat.inside.token.me.0 two,
    )

pub invariant_of-seat : goal.invariant_of-seat
invariant_of-seat c =
    let two : 2 ≤ c.seat.inside.token.me.0.share = omega (arith, ap (λ (h : Holder). h.share) c.seat.view_is, c.requires.share) in
    subst (λ (me : Me (List ℕ) View). (me.1 ≡ []) × KnownOf me.0) (sym c.split_seat-token.ensures.2)
    (c.seat.invariant.0, left_known c.seat.inside.token.me.0 two c.seat.invariant.1)
