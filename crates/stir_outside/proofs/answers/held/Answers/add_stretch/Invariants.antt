-- What comes of the lines that are left comes of all.
use Rattle.stir_outside.proofs.StretchLaws.{Leads}
use Rattle.stir_outside.proofs.answers.held.Answers.add_stretch.Given as goal

abbrev pub invariant-lines : goal.invariant-lines
invariant-lines l = Leads l.initial.self l.self l.stretch l.at
