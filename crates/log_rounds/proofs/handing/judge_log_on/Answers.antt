-- The one loop, from a reader at the beginning of a log that goes on from a state; and what it came to, in words.
use Rattle.call_log.specs.Log.{start}
use Rattle.log_run.proofs.WordsLaws.{begun_says}
use Rattle.log_rounds.specs.Handed.{words_on}
use Rattle.log_rounds.specs.Verifier.{basis_of, state_of}
use Rattle.log_rounds.proofs.FirstLaws.{reads_on}
use Rattle.log_rounds.proofs.HandedLaws.{hands_none, speaks_on}
use Rattle.log_rounds.proofs.handing.judge_log_on.Goals as goal

pub run_log-requires-clause-first : goal.run_log-requires-clause-first
run_log-requires-clause-first g c κs within = hands_none _ _ _

pub returns-clause-says : goal.returns-clause-says
returns-clause-says g c =
    begun_says c.one_log.ensures c.args.call c.args.moment
    (words_on (basis_of c.args.handing.now.verifier) (g.S.Shelf.files c.args.shelf.now) (state_of c.args.handing.now.verifier (g.S.Shelf.counts c.args.shelf.now)).past (start c.args.call c.args.moment)
    (g.S.Shelf.counts c.args.shelf.now) (g.S.Shelf.counts c.run_log.new.shelf))
    _ _ _ c.after-reader.result _ _ _ _ _ _ c.after-reader.ensures
    (speaks_on c.args.handing.now.verifier c.run_log.new.command.verifier (g.S.Shelf.files c.args.shelf.now) c.args.call c.args.moment (g.S.Shelf.counts c.args.shelf.now)
    (g.S.Shelf.counts c.run_log.new.shelf) c.requires.from) c.run_log.ensures.ran

pub returns-clause-reads : goal.returns-clause-reads
returns-clause-reads g c =
    reads_on c.args.handing.now.verifier c.run_log.new.command.verifier (g.S.Shelf.files c.args.shelf.now) c.args.call c.args.moment (g.S.Shelf.counts c.args.shelf.now) (g.S.Shelf.counts c.run_log.new.shelf)
    c.after-reader.result _ _ _ _ _ _ c.requires.from.held c.after-reader.ensures c.run_log.ensures.ran
