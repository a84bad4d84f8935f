-- The batches and what came then are the whole run.
use Rattle.std.proofs.Common.{refl}
use Rattle.log_run.proofs.EndLaws.{all_at_end, log_closed, log_halted, log_used}
use Rattle.log_run.proofs.run.run_log.Goals as goal

pub returns-in-Ok-clause-ran : goal.returns-in-Ok-clause-ran
returns-in-Ok-clause-ran g c =
    log_used _ _ _ _ _ _ _ _ _ _ (all_at_end c.run_batches.new.reader _ (c.in-Ok.ensures.ends c.requires.ends))
    (log_closed _ _ _ _ _ _ _ _ _ _ _ _ _ _ _ _ (λ batches text known closes. closes _ _ _ _ _ known) (λ batches known short. short _ _ _ _ _ known) refl refl c.in-Ok.ensures.ran c.close.ensures)

pub returns-in-Err-clause-ran : goal.returns-in-Err-clause-ran
returns-in-Err-clause-ran g c = log_used _ _ _ _ _ _ _ _ _ _ (all_at_end c.run_batches.new.reader _ (c.in-Err.ensures.ends c.requires.ends)) (log_halted _ _ _ _ _ _ _ _ _ _ _ refl c.in-Err.ensures.ran c.end_halted.ensures)
