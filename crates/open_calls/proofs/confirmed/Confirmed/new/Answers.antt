-- It says yes to what was confirmed, and to nothing else.
use Rattle.std.proofs.Common.{map}
use Rattle.cert_store.specs.Questions.{seen}
use Rattle.open_calls.proofs.ConfirmedLaws.{alone, yes}
use Rattle.open_calls.proofs.confirmed.Confirmed.new.Goals as goal

pub returns-clause-yes : goal.returns-clause-yes
returns-clause-yes c = yes (map seen c.args.questions.now) c.args.good.now

pub returns-clause-alone : goal.returns-clause-alone
returns-clause-alone c = alone (map seen c.args.questions.now) c.args.good.now
