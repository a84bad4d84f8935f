-- What is left after a byte that was given; one byte is not none.
use Rattle.std.proofs.Common.{◌∙◌, ap, sym, arith}
use Rattle.stir_outside.proofs.Transfers.{one_given}
use Rattle.stir_outside.proofs.memory.slow.SlowMemSource.read.Goals as goal

pub returns-clause-bytes : goal.returns-clause-bytes
returns-clause-bytes c = (
  ap (λ s. s.left) (sym c.self.view_is) ∙ one_given c.self.inside.bytes.items c.args.buf.now c.self.inside.taken c.index.result.now (omega (arith, c.self.invariant, c.if-self-len.false, c.len.ensures)) c.index.ensures c.requires,
  λ zero some. absurd (omega arith),
)
