-- At the end all lines were read; before it the first bad one.
use Rattle.std.proofs.Common.{sym, ◌∙◌}
use Rattle.std.proofs.lemmas.Bool.{eqb-true}
use Rattle.std.proofs.lemmas.List.{nil_from_length}
use Rattle.stir_outside.proofs.StretchLaws.{no_more, taken_bad}
use Rattle.stir_outside.proofs.answers.held.Answers.read_stretches.Goals as goal

pub returns-then-is_empty-clause-answers : goal.returns-then-is_empty-clause-answers
returns-then-is_empty-clause-answers g c =
    no_more _ _ _ _ _ (sym c.as_slice-taken.ensures.value ∙ nil_from_length _ (eqb-true _ _ (sym c.is_empty.ensures ∙ c.if-is_empty.true))) c.in_ok-next_stretch.ensures.next c.stretches.invariant

pub returns-in-Some-clause-fault : goal.returns-in-Some-clause-fault
returns-in-Some-clause-fault g c =
    taken_bad _ _ _ _ _ _ _ _ _ c.as_slice-taken.ensures.value c.in-Some.is c.in_ok-next_stretch.ensures.next c.stretches.invariant c.in_ok-line.ensures
