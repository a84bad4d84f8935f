-- How the words of a command line fall into options (this project's own rule). An option is one word `--name=value`, or
-- a word `--name` and a next word that is the value.
use Rattle.std.specs.Prelude.{unwrap_or, ◌≡◌, ℕ, ◌⊎◌, Bool, true, false, not, ◌==◌, List, [], ◌∷◌, ◌++◌, codes, is_some}
use Rattle.std.specs.Prelude.{Option, Some, None, option_and_then, if◌then◌else◌}
use Rattle.std.specs.Option.{option_map, option_map_or}
use Rattle.text_grammar.specs.Cut.{behind, cut, lacks}

-- ---- a word

-- what a word says: a name, and the value after its first `=` if it has one
pub record Named : Type 0 where
  pub name : List ℕ
  pub value : Option (List ℕ)

abbrev pub is_filled : List ℕ → Bool
is_filled [] = false
is_filled (first ∷ more) = true

-- the byte `=`
abbrev pub equals_sign : ℕ
equals_sign = 61

abbrev pub with_value : List ℕ → Option (List ℕ × List ℕ) → Named
with_value text None = record { name = text; value = None }
with_value text (Some parts) = record { name = parts.0; value = Some parts.1 }

-- what comes after the dashes, cut at the first `=`
abbrev pub named : List ℕ → Option Named
named text = if is_filled text then Some (with_value text (cut equals_sign text)) else None

-- `--name` or `--name=value`; `--` alone is neither
unfoldable pub long_of : List ℕ → Option Named
long_of word = option_and_then named (behind (codes "--") word)

-- a value in a word of its own: it isn't empty and doesn't begin with `-`
abbrev pub is_value : List ℕ → Bool
is_value [] = false
is_value (first ∷ more) = not (first == 45)

-- ---- the options of a list of words

-- the name of an option, without its dashes, and its value
pub record Pair : Type 0 where
  pub name : List ℕ
  pub value : List ℕ

-- an option before others
abbrev pub with_more : Bool → Pair → Option (List Pair) → Option (List Pair)
with_more fits pair more = if fits then option_map (λ pairs. pair ∷ pairs) more else None

-- a value after `=` may be any text that isn't empty; without `=` the name waits for the next word
abbrev pub at_name : List ℕ → Option (List ℕ) → (List ℕ → Option (List Pair)) → Option (List Pair) → Option (List Pair)
at_name name None waits more = waits name
at_name name (Some value) waits more = with_more (is_filled value) (record { name = name; value = value }) more

abbrev pub at_word : Option Named → (List ℕ → Option (List Pair)) → Option (List Pair) → Option (List Pair)
at_word None waits more = None
at_word (Some word) waits more = at_name word.name word.value waits more

-- the options that the words are, after a name that waits for its value if there is one
abbrev pub pairs_from : Option (List ℕ) → List (List ℕ) → Option (List Pair)
pairs_from None [] = Some []
pairs_from (Some name) [] = None
pairs_from None (word ∷ words) = at_word (long_of word) (λ name. pairs_from (Some name) words) (pairs_from None words)
pairs_from (Some name) (word ∷ words) =
    with_more (is_value word) (record { name = name; value = word }) (pairs_from None words)

-- the options that the words are, if they fall into options
unfoldable pub pairs_of : List (List ℕ) → Option (List Pair)
pairs_of words = pairs_from None words

-- the words fall into options
abbrev pub are_options : List (List ℕ) → Bool
are_options words = is_some (pairs_of words)

-- the options of words that fall into options
abbrev pub options_in : List (List ℕ) → List Pair
options_in words = unwrap_or (pairs_of words) []

-- ---- word by word

-- after a name, with its value if that comes after `=`: whether the value has still to come; none if it can't
abbrev pub step_with : Option (List ℕ) → Option Bool
step_with None = Some true
step_with (Some value) = if is_filled value then Some false else None

abbrev pub step_named : Named → Option Bool
step_named word = step_with word.value

-- after a word, given whether it has to be a value: whether the next one has to be a value
abbrev pub step : Bool → List ℕ → Option Bool
step true word = if is_value word then Some false else None
step false word = option_and_then step_named (long_of word)

-- each word is an option or the value of one, given whether a value has to come first
abbrev pub are_formed : Bool → List (List ℕ) → Bool
are_formed waits [] = not waits
are_formed waits (word ∷ words) = option_map_or (λ now. are_formed now words) (step waits word) false

-- ---- the first option

-- an option, and the words after it
pub record First : Type 0 where
  pub pair : Pair
  pub rest : List (List ℕ)

abbrev pub first_if : Bool → First → Option First
first_if fits first = if fits then Some first else None

-- the value is the next word
abbrev pub parted : List ℕ → List (List ℕ) → Option First
parted name [] = None
parted name (value ∷ words) =
    first_if (is_value value) (record { pair = record { name = name; value = value }; rest = words })

-- the value comes after `=`
abbrev pub joined : List ℕ → List ℕ → List (List ℕ) → Option First
joined name value words =
    first_if (is_filled value) (record { pair = record { name = name; value = value }; rest = words })

abbrev pub first_named : List ℕ → Option (List ℕ) → List (List ℕ) → Option First
first_named name None words = parted name words
first_named name (Some value) words = joined name value words

abbrev pub first_at : Option Named → List (List ℕ) → Option First
first_at None words = None
first_at (Some word) words = first_named word.name word.value words

-- the option with which the words begin
abbrev pub first_of : List (List ℕ) → Option First
first_of [] = None
first_of (word ∷ words) = first_at (long_of word) words

-- ---- the same, said of the words

-- the first word is `--name=value`
pub record Joined (words : List (List ℕ)) (pair : Pair) (rest : List (List ℕ)) : Type 0 where
  pub name : lacks equals_sign pair.name ≡ true
  pub value : is_filled pair.value ≡ true
  pub words_are : words ≡ (codes "--" ++ (pair.name ++ equals_sign ∷ pair.value)) ∷ rest

-- the first two words are `--name` and the value
pub record Parted (words : List (List ℕ)) (pair : Pair) (rest : List (List ℕ)) : Type 0 where
  pub some : is_filled pair.name ≡ true
  pub name : lacks equals_sign pair.name ≡ true
  pub value : is_value pair.value ≡ true
  pub words_are : words ≡ (codes "--" ++ pair.name) ∷ pair.value ∷ rest

-- the words are these options, one after the other
abbrev pub Options : List (List ℕ) → List Pair → Type 0
Options words [] = words ≡ []
Options words (pair ∷ pairs) =
    (rest : List (List ℕ)) × (Joined words pair rest ⊎ Parted words pair rest) × Options rest pairs
