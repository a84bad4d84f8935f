-- There was no memory for the summary.
use Rattle.std.proofs.Common.{[], refl, arith}
use Rattle.log_run.specs.declared.stop.AnswerError.TheVariants.{Memory}
use Rattle.drill.proofs.CommandLaws.{always_err, counting_stopped}
use Rattle.drill.proofs.command.DrillCommandLogCommand.closing.Goals as goal

pub returns-then-calls-self-clause-short : goal.returns-then-calls-self-clause-short
returns-then-calls-self-clause-short c =
    always_err _ c.summary.result
    (λ first before counts files batches known. counting_stopped first c.args.self.now before counts counts files batches [] Memory refl (omega arith) (omega arith) known)
