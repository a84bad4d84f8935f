use Rattle.std.proofs.Common.{◌<◌, sym, ap, ◌∙◌, arith}
use Rattle.replay_desk.specs.Holder.{DeskId, Holder}
use Rattle.replay_desk.proofs.Keeping.{claim_allowed}
use Rattle.replay_desk.proofs.desk.Desk.claim.Goals as goal

pub compare_exchange-found-requires : goal.compare_exchange-found-requires
compare_exchange-found-requires c =
    let words = ap (λ (desk : DeskId). desk.words) c.self.view_is in
    let class : c.args.class < c.self.inside.table.shared.table_id.words = omega (arith, words, c.requires.class) in
    let key : c.args.class < c.self.inside.table.shared.key = omega (arith, class, c.self.invariant.2) in
    let call : c.from-mine.result < 4294967295 = omega (arith, c.from-mine.ensures, c.requires.call) in (
      ap (λ (h : Holder). h.desk) c.seat.view_is ∙ (c.requires.desk ∙ sym c.self.view_is),
      class,
      claim_allowed c.self.inside.table.shared.key c.self.inside.table.shared.table_id.slots c.seat.inside.token.id c.seat.inside.token.me c.args.class c.from-mine.result c.seat.invariant.1.above key call,
    )
