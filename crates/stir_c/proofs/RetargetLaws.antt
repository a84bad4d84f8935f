-- What is told of a call that is to go on, from why it doesn't.
use Rattle.std.proofs.Common.{◌≡◌}
use Rattle.open_calls.specs.declared.unmoved.Unmoved.{Unmoved}
use Rattle.stir_c.specs.Retarget.{ToldUnmoved, said_of_unmoved}
use Rattle.stir_c.specs.declared.said.Said.{Said}

pub told_unmoved : (Why : Unmoved → Type 0) (came : Unmoved) (said : Said) → said ≡ said_of_unmoved came → Why came → ToldUnmoved Why said
told_unmoved Why came said is why = record { came = came; why = why; told_is = is }
