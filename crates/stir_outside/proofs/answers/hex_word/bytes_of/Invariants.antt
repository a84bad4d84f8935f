-- The bytes up to the place are those of the pairs before it.
use Rattle.stir_outside.proofs.HexWords.{Decoded}
use Rattle.stir_outside.proofs.answers.hex_word.bytes_of.Given as goal

abbrev pub invariant-bytes : goal.invariant-bytes
invariant-bytes g l = Decoded g.row.N l.word l.i l.bytes
