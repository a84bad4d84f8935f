-- The zeros after the text are what is left of all.
use Rattle.short_text.proofs.Zeros.{zeros_behind}
use Rattle.short_text.proofs.text.filled.Goals as goal

pub returns : goal.returns
returns g c = zeros_behind g.row.N c.args.text.now c.copy_from_slice.new.self c.copy_from_slice.ensures.after
