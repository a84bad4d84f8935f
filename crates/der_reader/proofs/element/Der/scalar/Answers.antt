-- A number whose digits are more than 32 isn't below 2 ^ 256.
use Rattle.std.proofs.Common.{◌<◌, length, ap, arith}
use Rattle.der_reader.specs.Integer.{magnitude}
use Rattle.der_reader.proofs.IntegerLaws.{long_magnitude}
use Rattle.der_reader.proofs.element.Der.scalar.Goals as goal

pub returns-then-digits-gt32-clause-only : goal.returns-then-digits-gt32-clause-only
returns-then-digits-gt32-clause-only c = λ number _ text small.
    let long : 32 < length (magnitude c.args.self.now.content.now) =
    omega (arith, ap length c.without_sign-digits.ensures) in
    long_magnitude c.args.self.now.content.now number text long small
