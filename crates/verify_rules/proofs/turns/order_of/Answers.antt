-- The link of the fault is the one that is named.
use Rattle.std.proofs.Common.{sym, subst}
use Rattle.std.specs.List.{All}
use Rattle.passport_claims.specs.Links.{IsLink}
use Rattle.verify_rules.proofs.TurnSteps.{rest_links}
use Rattle.verify_rules.proofs.turns.order_of.Goals as goal

pub chain_of-requires : goal.chain_of-requires
chain_of-requires c = record { links = subst (All IsLink) (sym c.links-links.ensures) (rest_links c.args.readings.now c.requires.kept) }
