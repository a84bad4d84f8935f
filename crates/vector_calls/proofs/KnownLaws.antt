-- What is known of the chains one by one.
use Rattle.std.proofs.Common.{◌≡◌, ℕ, ◌<◌, List, length, map, get_or, Some, sym, ◌∙◌, ap, arith}
use Rattle.std.specs.List.{slice_get}
use Rattle.std.specs.Option.{option_map}
use Rattle.std.proofs.lemmas.List.{length-map}
use Rattle.std.proofs.lemmas.Option.{slice_get-get_or, slice_get-map}
use Rattle.verify_rules.specs.States.{State}
use Rattle.vector_calls.specs.Known.{known_seen}
use Rattle.vector_calls.specs.declared.verdicts.Known.{Known}

pub known_count : (known : List Known) → length known ≡ length (map known_seen known)
known_count known = sym (length-map known known_seen)

pub known_within : (known : List Known) (i : ℕ) → i < length (map known_seen known) → i < length known
known_within known i within = let count = length-map known known_seen in omega (arith, count, within)

pub known_at : (known : List Known) (i : ℕ) (one d : Known) (state : State) → i < length known → one ≡ get_or known i d → state ≡ known_seen one → slice_get (map known_seen known) i ≡ Some state
known_at known i one d state within is shown =
    slice_get-map known_seen known i ∙ ap (option_map known_seen) (slice_get-get_or known i d within)
    ∙ ap (λ (x : Known). Some (known_seen x)) (sym is) ∙ ap (λ x. Some x) (sym shown)
