use Rattle.std.proofs.Common.{length, arith}
use Rattle.tn_values.proofs.RankLaws.{begins, same_power}
use Rattle.tn_values.proofs.spans.Span.rank_behind.Goals as goal

pub returns-clause-above : goal.returns-clause-above
returns-clause-above c =
    let some = begins c.args.self.now c.is_span.ensures in
    let same = same_power c.digits.result (length c.args.self.now.start) c.digits.ensures.value in
    omega (arith, some, same, c.numbers_of.ensures.value, c.end.ensures.value)
