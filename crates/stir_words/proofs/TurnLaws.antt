-- Words that begin with an option are this option and those of the words after it.
use Rattle.std.proofs.Common.{◌≡◌, ℕ, Bool, true, false, List, [], ◌∷◌, Option, Some, None, refl, ap}
use Rattle.std.specs.Option.{option_map}
use Rattle.stir_words.specs.Options.{First, Named, Pair, at_name, at_word, first_at, first_if, first_named, first_of, long_of, pairs_from, with_more}

-- the first option, and after it the options of the other words
abbrev after : First → Option (List Pair)
after first = option_map (λ (pairs : List Pair). first.pair ∷ pairs) (pairs_from None first.rest)

chosen : (t : Bool) (found first : First) → first_if t found ≡ Some first → with_more t found.pair (pairs_from None found.rest) ≡ after first
chosen true found first h = let e : found ≡ first = cc in ap after e
chosen false found first h = absurd cc

not_chosen : (t : Bool) (found : First) → first_if t found ≡ None → with_more t found.pair (pairs_from None found.rest) ≡ None
not_chosen true found h = absurd cc
not_chosen false found h = refl

by_name : (name : List ℕ) (value : Option (List ℕ)) (words : List (List ℕ)) (first : First) → first_named name value words ≡ Some first
    → at_name name value (λ n. pairs_from (Some n) words) (pairs_from None words) ≡ after first
by_name name (Some value) words first h = chosen _ (record { pair = record { name = name; value = value }; rest = words }) first h
by_name name None [] first h = absurd cc
by_name name None (value ∷ words) first h = chosen _ (record { pair = record { name = name; value = value }; rest = words }) first h

by_word : (word : Option Named) (words : List (List ℕ)) (first : First) → first_at word words ≡ Some first
    → at_word word (λ n. pairs_from (Some n) words) (pairs_from None words) ≡ after first
by_word None words first h = absurd cc
by_word (Some word) words first h = by_name word.name word.value words first h

pub stepped : (words : List (List ℕ)) (first : First) → first_of words ≡ Some first → pairs_from None words ≡ after first
stepped [] first h = absurd cc
stepped (word ∷ words) first h = by_word (long_of word) words first h

none_by_name : (name : List ℕ) (value : Option (List ℕ)) (words : List (List ℕ)) → first_named name value words ≡ None
    → at_name name value (λ n. pairs_from (Some n) words) (pairs_from None words) ≡ None
none_by_name name (Some value) words h = not_chosen _ (record { pair = record { name = name; value = value }; rest = words }) h
none_by_name name None [] h = refl
none_by_name name None (value ∷ words) h = not_chosen _ (record { pair = record { name = name; value = value }; rest = words }) h

none_by_word : (word : Option Named) (words : List (List ℕ)) → first_at word words ≡ None
    → at_word word (λ n. pairs_from (Some n) words) (pairs_from None words) ≡ None
none_by_word None words h = refl
none_by_word (Some word) words h = none_by_name word.name word.value words h

-- words that don't begin with an option, and are some, fall into none
pub not_stepped : (word : List ℕ) (words : List (List ℕ)) → first_of (word ∷ words) ≡ None → pairs_from None (word ∷ words) ≡ None
not_stepped word words h = none_by_word (long_of word) words h
