-- One call more was explained.
use Rattle.std.proofs.Common.{◌≡◌, [], ◌∷◌, refl, rules}
use Rattle.std.proofs.lemmas.Grind.{common_steps}
use Rattle.single_calls.proofs.ExplainerLaws.{explained_more}
use Rattle.single_calls.proofs.SinglyLaws.{short}
use Rattle.single_calls.proofs.explainer.ExplainerLogCommand.answer.Goals as goal

pub returns-in-Ok-clause-adds : goal.returns-in-Ok-clause-adds
returns-in-Ok-clause-adds g c =
    let one : c.args.calls.now ≡ c.call-item.result ∷ [] = search (rules, common_steps) in
    λ first before batches known. rw one (explained_more _ _ _ _ _ _ _ batches c.call-item.result c.in-Ok.answer c.explain.ensures.shelf.counts.faults.never_falls refl c.in-Ok.ensures.explained known)

pub returns-in-Err-clause-stopped : goal.returns-in-Err-clause-stopped
returns-in-Err-clause-stopped g c = λ first before batches known. short _ _ _ _ _ batches _ _ c.explain.ensures.shelf.counts.faults.never_falls refl known.so
