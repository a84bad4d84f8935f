-- A restored service judges the log, or memory runs out for it.
use Rattle.std.proofs.Common.{inr, refl}
use Rattle.log_rounds.proofs.NewLaws.{trusts_none}
use Rattle.stir_cmd.specs.Verifying.{start_at}
use Rattle.stir_cmd.proofs.FewReadsLaws.{reads_none, reads_restored}
use Rattle.stir_cmd.proofs.GoingSteps.{goes_on_from, log_on}
use Rattle.stir_cmd.proofs.verify.go_on_by.Goals as goal

pub returns-in-Err-clause-ran : goal.returns-in-Err-clause-ran
returns-in-Err-clause-ran g c = inr (record { stays = record { left = refl; read_faults = refl }; ends = rw c.memory_line.ensures at c.end_with.ensures })

pub judge_log_on-requires-clause-from : goal.judge_log_on-requires-clause-from
judge_log_on-requires-clause-from g c κs within = goes_on_from _ _ c.args.materials.state _ (g.S.Shelf.counts c.args.shelf.now) _ _ c.in-Ok.ensures c.call-call.ensures c.moment-moment.ensures

pub judge_log_on-requires-clause-trusts : goal.judge_log_on-requires-clause-trusts
judge_log_on-requires-clause-trusts g c κs within = trusts_none c.in-Ok.service _ _ c.in-Ok.ensures.no_chain

pub returns-clause-ran : goal.returns-clause-ran
returns-clause-ran g c = log_on c.args.settings c.args.workers c.args.materials c.in-Ok.service _ _ _ _ _ c.in-Ok.ensures c.call-call.ensures c.moment-moment.ensures c.judge_log_on.ensures.says

pub returns-in-Err-clause-reads : goal.returns-in-Err-clause-reads
returns-in-Err-clause-reads g c = reads_none c.args.settings c.args.materials.judging.world.chains (start_at c.args.materials.state) _ _

pub returns-clause-reads : goal.returns-clause-reads
returns-clause-reads g c = reads_restored c.args.settings c.args.materials c.in-Ok.service _ _ _ _ _ c.in-Ok.ensures c.call-call.ensures c.moment-moment.ensures c.judge_log_on.ensures.reads
