use Rattle.tn_values.proofs.NumberFacts.{number_utf8}
use Rattle.tn_values.proofs.numbers.Number.as_str.Goals as goal

-- a number is text, so the other arm isn't reached
pub unreachable-requires : goal.unreachable-requires
unreachable-requires c =
    let utf8 = number_utf8 c.args.self.now c.bytes.ensures.number in
    c.in-Err.ensures.cases.0 (rw c.bytes.ensures.value utf8)
