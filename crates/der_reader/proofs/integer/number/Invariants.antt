use Rattle.std.proofs.Common.{◌≡◌, take}
use Rattle.der_reader.specs.Integer.{big_endian}
use Rattle.der_reader.proofs.integer.number.Given as goal

abbrev pub invariant-loop-byte : goal.invariant-loop-byte
invariant-loop-byte l = l.number ≡ big_endian (take l.byte-index l.bytes)
