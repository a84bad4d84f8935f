-- The one loop, from a reader at the beginning of the log; and what it came to, in words.
use Rattle.call_log.specs.Log.{start}
use Rattle.log_run.proofs.WordsLaws.{first_says}
use Rattle.log_rounds.specs.Batches.{words_by}
use Rattle.log_rounds.specs.Verifier.{basis_of}
use Rattle.log_rounds.proofs.BatchesLaws.{behind_none}
use Rattle.log_rounds.proofs.FirstLaws.{reads_first}
use Rattle.log_rounds.proofs.WordsLaws.{speaks}
use Rattle.log_rounds.proofs.run.judge_log.Goals as goal

pub run_log-requires-clause-first : goal.run_log-requires-clause-first
run_log-requires-clause-first g c κs within = behind_none _ _ _

pub returns-clause-says : goal.returns-clause-says
returns-clause-says g c =
    first_says c.one_log.ensures (words_by (basis_of c.args.verifier.now) (g.S.Shelf.files c.args.shelf.now) (start 0 0) (g.S.Shelf.counts c.args.shelf.now) (g.S.Shelf.counts c.run_log.new.shelf))
    _ _ _ c.new-reader.result _ _ _ _ _ _ c.new-reader.ensures
    (speaks c.legal_together.ensures c.first_of_all.ensures c.args.verifier.now c.run_log.new.command (g.S.Shelf.files c.args.shelf.now) (start 0 0) (g.S.Shelf.counts c.args.shelf.now) (g.S.Shelf.counts c.run_log.new.shelf)
    c.requires.first) c.run_log.ensures.ran

pub returns-clause-reads : goal.returns-clause-reads
returns-clause-reads g c =
    reads_first c.args.verifier.now c.run_log.new.command (g.S.Shelf.files c.args.shelf.now) (g.S.Shelf.counts c.args.shelf.now) (g.S.Shelf.counts c.run_log.new.shelf) c.new-reader.result _ _ _ _ _ _
    c.requires.first.held c.new-reader.ensures c.run_log.ensures.ran
