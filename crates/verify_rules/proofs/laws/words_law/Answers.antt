-- The words of all rules, by the laws of the crates below.
use Rattle.verify_rules.proofs.AllRules.{all_rules}
use Rattle.verify_rules.proofs.laws.words_law.Goals as goal

pub returns : goal.returns
returns c = all_rules c.head_law.ensures c.field_law.ensures c.token_law.ensures c.token_found_law.ensures c.claims_law.ensures c.order_law.ensures c.late_words_law.ensures c.late_places_law.ensures
