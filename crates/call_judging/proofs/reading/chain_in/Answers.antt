-- What is known of the chain is right, by what was read of it.
use Rattle.call_judging.specs.Fetched.{is_unread_file}
use Rattle.call_judging.proofs.FetchedLaws.{unread_if}
use Rattle.call_judging.proofs.reading.chain_in.Goals as goal

pub returns-clause-right : goal.returns-clause-right
returns-clause-right g c = λ x5u is. c.judge_fetched.ensures.right (g.S.Shelf.files c.args.shelf.now) x5u (c.in_ok-file.ensures.fetched x5u is)

pub returns-clause-unread : goal.returns-clause-unread
returns-clause-unread g c = unread_if c.judge_fetched.result (is_unread_file c.in_ok-file.file) (g.S.Shelf.counts c.args.shelf.now).faults (g.S.Shelf.counts c.fetch_file.new.shelf).faults
    c.judge_fetched.ensures.unread c.in_ok-file.ensures.unread
