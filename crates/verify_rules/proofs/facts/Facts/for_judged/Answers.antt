-- What is read serves the judged fields.
use Rattle.std.proofs.Common.{◌∷◌, map}
use Rattle.verify_rules.specs.Call.{facts_of, links}
use Rattle.verify_rules.specs.Seen.{field_seen}
use Rattle.verify_rules.proofs.FactLaws.{serves}
use Rattle.verify_rules.proofs.facts.Facts.for_judged.Goals as goal

pub returns : goal.returns
returns c =
    serves (facts_of c.args.local.now c.args.message.now) c.read.result (field_seen c.args.origin.now ∷ links (map field_seen c.args.fields.now)) c.asks_date.result c.asks_date.ensures c.read.ensures
