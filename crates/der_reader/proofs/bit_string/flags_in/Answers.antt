-- The content 00 has no bits.
use Rattle.std.proofs.Common.{sym, arith, rules}
use Rattle.der_reader.proofs.FlagLaws.{no_flags}
use Rattle.der_reader.proofs.bit_string.flags_in.Goals as goal

pub returns-in-0-clause-exact : goal.returns-in-0-clause-exact
returns-in-0-clause-exact c = sym (no_flags c.args.content.now (omega arith) (search rules))
