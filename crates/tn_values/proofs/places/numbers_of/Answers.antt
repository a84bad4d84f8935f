use Rattle.std.proofs.Common.{◌≤◌, ◌^◌, arith}
use Rattle.std.proofs.Math.Nat.{pow-le-pow_right}
use Rattle.tn_values.proofs.places.numbers_of.Goals as goal

-- no number has more than 15 digits
pub returns-clause-short : goal.returns-clause-short
returns-clause-short c =
    let short : c.args.digits ≤ 15 = c.requires in
    let most : 10 ^ c.args.digits ≤ 10 ^ 15 = pow-le-pow_right (omega arith) short in
    omega (arith, most, c.pow.ensures)
