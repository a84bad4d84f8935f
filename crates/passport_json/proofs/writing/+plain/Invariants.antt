use Rattle.std.proofs.Common.{◌≡◌, drop}
use Rattle.serde_json.specs.View.{items_view, members_view}
use Rattle.passport_json.specs.Deterministic.{are_plain_items, are_plain_members}
use Rattle.passport_json.proofs.writing.+plain.Given as goal

abbrev pub invariant-are_plain_items-loop-item : goal.invariant-are_plain_items-loop-item
invariant-are_plain_items-loop-item l =
    are_plain_items l.most (items_view (drop l.item-index l.item-items)) ≡ are_plain_items l.most (items_view l.item-items)

abbrev pub invariant-are_plain_members-loop-value : goal.invariant-are_plain_members-loop-value
invariant-are_plain_members-loop-value l =
    are_plain_members l.most (members_view l.value-iterator) ≡ are_plain_members l.most (members_view l.members.entries)
