-- Each rule in its own words, by the laws of the crates below.
use Rattle.verify_rules.proofs.AllPlaces.{all_places}
use Rattle.verify_rules.proofs.AllWords.{all_words}
use Rattle.verify_rules.proofs.early.screen.Goals as goal

pub returns-clause-words : goal.returns-clause-words
returns-clause-words c =
    all_words c.args.settings.now c.args.moment c.args.bytes.now c.screen_exactly.result c.head_law.ensures c.field_law.ensures c.token_law.ensures c.token_found_law.ensures c.claims_law.ensures
    c.order_law.ensures c.screen_exactly.ensures

pub returns-clause-places : goal.returns-clause-places
returns-clause-places c =
    all_places c.args.settings.now c.args.moment c.args.bytes.now c.screen_exactly.result c.head_law.ensures c.field_law.ensures c.token_law.ensures c.token_found_law.ensures c.claims_law.ensures
    c.screen_exactly.ensures
