-- What was asked is told.
use Rattle.stir_c.specs.Owned.{view_of_call}
use Rattle.stir_c.proofs.JudgedLaws.{asked_told}
use Rattle.stir_c.proofs.judging.told_questions.Goals as goal

pub returns-in-Ok-clause-told : goal.returns-in-Ok-clause-told
returns-in-Ok-clause-told c =
    λ _. asked_told (view_of_call c.args.held.now) _ c.in-Ok.beside.found c.args.room.now c.told_beside.new.room c.told_beside.result c.in-Ok.ensures.over c.in-Ok.ensures.text
    c.told_beside.ensures.told
