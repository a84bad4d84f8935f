-- Which options a table accepts.
use Rattle.std.proofs.Common.{◌≡◌, Bool, true, false, not, ◌&&◌, ◌||◌, List, [], ◌∷◌, refl, ◌∙◌, sym, ◌↔◌}
use Rattle.lists.proofs.Tests.{not_true}
use Rattle.std.proofs.lemmas.Bool.{and_parts}
use Rattle.stir_words.specs.Options.{Pair}
use Rattle.stir_words.specs.Table.{Accepted, HoldsRequired, Known, KnownOnce, accepts, are_known, has, has_required, is_known}
use Rattle.stir_words.proofs.TableLaws.{known_first, known_once}

once : (table : List Known) (pairs : List Pair) → known_once table pairs ≡ true → KnownOnce table pairs
once table [] h = tt
once table (pair ∷ pairs) h =
    let first = and_parts (is_known table pair.name) (not (has pair.name pairs) && known_once table pairs) h in
    let more = and_parts (not (has pair.name pairs)) (known_once table pairs) first.1 in
    (first.0, not_true (has pair.name pairs) more.0, once table pairs more.1)

once_again : (table : List Known) (pairs : List Pair) → KnownOnce table pairs → known_once table pairs ≡ true
once_again table [] h = refl
once_again table (pair ∷ pairs) h = let known = h.0 in let alone = h.1 in let others = once_again table pairs h.2 in rw (known, alone, others) refl

stands : (required has : Bool) → (not required || has) ≡ true → required ≡ true → has ≡ true
stands true has h r = h
stands false has h r = absurd cc

stands_again : (required has : Bool) → (required ≡ true → has ≡ true) → (not required || has) ≡ true
stands_again true has h = h refl
stands_again false has h = refl

required : (table : List Known) (pairs : List Pair) → has_required table pairs ≡ true → HoldsRequired table pairs
required [] pairs h = tt
required (known ∷ table) pairs h =
    let parts = and_parts (not known.required || has known.name pairs) (has_required table pairs) h in
    (stands known.required (has known.name pairs) parts.0, required table pairs parts.1)

required_again : (table : List Known) (pairs : List Pair) → HoldsRequired table pairs → has_required table pairs ≡ true
required_again [] pairs h = refl
required_again (known ∷ table) pairs h =
    let here = stands_again known.required (has known.name pairs) h.0 in let others = required_again table pairs h.1 in rw (here, others) refl

accepted : (table : List Known) (pairs : List Pair) → accepts table pairs ≡ true → Accepted table pairs
accepted table pairs h =
    let parts = and_parts (are_known table [] pairs) (has_required table pairs) h in
    record { once = once table pairs (sym (known_first table pairs) ∙ parts.0); required = required table pairs parts.1 }

accepted_again : (table : List Known) (pairs : List Pair) → Accepted table pairs → accepts table pairs ≡ true
accepted_again table pairs a =
    let each = known_first table pairs ∙ once_again table pairs a.once in let all = required_again table pairs a.required in rw (each, all) refl

-- a table accepts exactly the options that are known, come once and are all that it requires
pub accepted_are : (table : List Known) (pairs : List Pair) → (accepts table pairs ≡ true) ↔ Accepted table pairs
accepted_are table pairs = (accepted table pairs, accepted_again table pairs)
