-- The link at this index says what stands there in the list.
use Rattle.verify_rules.proofs.ReadingLaws.{links_at, links_within}
use Rattle.verify_rules.proofs.readings.LinksPassports.passport.Goals as goal

pub returns : goal.returns
returns c = links_at c.args.self.now.kept.now c.args.i c.index-self-i.result (links_within c.args.self.now.kept.now c.args.i c.requires)
