-- A byte more is decoded, and in the end all are.
use Rattle.std.proofs.Common.{sym}
use Rattle.stir_outside.proofs.HexWords.{pair_step, pairs_done}
use Rattle.stir_outside.proofs.answers.hex_word.bytes_of.Goals as goal

pub bytes-preserved : goal.bytes-preserved
bytes-preserved g c =
    pair_step g.row.N c.args.word.now c.bytes.bytes c.bytes.i c.in-Some.byte c.if-word-ne0.false c.if-word.false c.bytes-test.true (sym c.in-Some.ensures) c.bytes.invariant

pub returns : goal.returns
returns g c = pairs_done g.row.N c.args.word.now c.bytes.bytes c.bytes.i c.if-word-ne0.false c.if-word.false c.bytes-test.false c.bytes.invariant
