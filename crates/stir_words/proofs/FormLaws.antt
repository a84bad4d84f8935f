-- Words that are options and values in turn fall into options.
use Rattle.std.proofs.Common.{◌≡◌, ℕ, Bool, true, false, cond, List, [], ◌∷◌, Option, Some, None, is_some, option_and_then, refl, sym, ◌∙◌}
use Rattle.std.specs.Option.{option_map, option_map_or}
use Rattle.stir_words.specs.Options.{Named, Pair, are_formed, are_options, at_name, at_word, is_filled, is_value, long_of, pairs_from, pairs_of, step_named, step_with, with_more}

some_more : (pair : Pair) (more : Option (List Pair)) → is_some (option_map (λ (pairs : List Pair). pair ∷ pairs) more) ≡ is_some more
some_more pair None = refl
some_more pair (Some pairs) = refl

-- an option before others, if it fits
more_if : (fits : Bool) (pair : Pair) (more : Option (List Pair)) (words : List (List ℕ)) → is_some more ≡ are_formed false words
    → is_some (with_more fits pair more) ≡ option_map_or (λ now. are_formed now words) (cond fits (Some false) None) false
more_if true pair more words m = some_more pair more ∙ m
more_if false pair more words m = refl

by_name : (name : List ℕ) (value : Option (List ℕ)) (waits : List ℕ → Option (List Pair)) (more : Option (List Pair)) (words : List (List ℕ))
    → is_some (waits name) ≡ are_formed true words → is_some more ≡ are_formed false words
    → is_some (at_name name value waits more) ≡ option_map_or (λ now. are_formed now words) (step_with value) false
by_name name None waits more words w m = w
by_name name (Some value) waits more words w m = more_if (is_filled value) (record { name = name; value = value }) more words m

by_word : (word : Option Named) (waits : List ℕ → Option (List Pair)) (more : Option (List Pair)) (words : List (List ℕ))
    → ((name : List ℕ) → is_some (waits name) ≡ are_formed true words) → is_some more ≡ are_formed false words
    → is_some (at_word word waits more) ≡ option_map_or (λ now. are_formed now words) (option_and_then step_named word) false
by_word None waits more words w m = refl
by_word (Some word) waits more words w m = by_name word.name word.value waits more words (w word.name) m

both : (words : List (List ℕ))
    → (is_some (pairs_from None words) ≡ are_formed false words) × ((name : List ℕ) → is_some (pairs_from (Some name) words) ≡ are_formed true words)
both [] = (refl, λ name. refl)
both (word ∷ words) =
    let more = both words in (
      by_word (long_of word) (λ name. pairs_from (Some name) words) (pairs_from None words) words more.1 more.0,
      λ name. more_if (is_value word) (record { name = name; value = word }) (pairs_from None words) words more.0,
    )

pub formed_are : (words : List (List ℕ)) → are_formed false words ≡ are_options words
unfolding pairs_of
formed_are words = sym ((both words).0)
