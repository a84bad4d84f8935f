-- What the run came to, in words.
use Rattle.std.proofs.Common.{refl}
use Rattle.log_run.proofs.WordsLaws.{first_says}
use Rattle.single_calls.specs.Explainer.{ExplainedBatches}
use Rattle.single_calls.specs.Singly.{singly_words}
use Rattle.single_calls.proofs.SinglyLaws.{none_answered, speaks}
use Rattle.single_calls.proofs.run.explain_log.Goals as goal

pub run_log-requires-clause-first : goal.run_log-requires-clause-first
run_log-requires-clause-first g c κs within = record { so = none_answered _ _; same = refl }

pub returns-clause-says : goal.returns-clause-says
returns-clause-says g c =
    first_says c.one_log.ensures (singly_words _ _ _ _) _ _ _ c.new-reader.result _ _ _ _ _ _ c.new-reader.ensures (speaks _ _ _ _ _ (ExplainedBatches _ _ _ _ _) (λ batches known. known.so)) c.run_log.ensures.ran
