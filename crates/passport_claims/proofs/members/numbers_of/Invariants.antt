-- What the values left give after the numbers so far is what all values give.
use Rattle.std.proofs.Common.{◌≡◌, [], drop}
use Rattle.serde_json.specs.View.{items_view}
use Rattle.passport_claims.specs.Members.{numbers_after}
use Rattle.passport_claims.proofs.members.numbers_of.Given as goal

abbrev pub invariant-numbers : goal.invariant-numbers
invariant-numbers l =
    numbers_after l.numbers.items (items_view (drop l.item-index l.items)) ≡ numbers_after [] (items_view l.items)
