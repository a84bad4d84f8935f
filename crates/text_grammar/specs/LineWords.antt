-- The words of a line (this project's own rule).
use Rattle.std.specs.Prelude.{◌≡◌, ⊤, ℕ, ◌≤◌, Bool, true, not, ◌&&◌, ◌==◌, nat_le, List, [], ◌∷◌, length, Option, Some}
use Rattle.std.specs.Prelude.{None, if◌then◌else◌}
use Rattle.std.specs.List.{slice_split, list_all, join_with_byte}
use Rattle.text_grammar.specs.Cut.{lacks}
use Rattle.text_grammar.specs.declared.words.Words.{Words}
use Rattle.text_grammar.specs.declared.words.Words.TheVariants.{Two, Three, Four}

-- what is between the spaces of the line: parts that may be empty, one more than it has spaces
abbrev pub parts : List ℕ → List (List ℕ)
parts line = slice_split (λ byte. byte == 32) line

abbrev pub is_word : List ℕ → Bool
is_word part = not (length part == 0)

-- the parts, if none of them is empty
abbrev pub none_empty : List (List ℕ) → Option (List (List ℕ))
none_empty parts = if list_all is_word parts then Some parts else None

-- the words of a line that has two to four, with exactly one space between each two
unfoldable pub line_words : List ℕ → Option (List (List ℕ))
line_words line =
    if nat_le 2 (length (parts line)) && nat_le (length (parts line)) 4 then none_empty (parts line) else None

-- ---- the same in other words

-- it has a byte, and no space
pub record IsWord (word : List ℕ) : Type 0 where
  pub some : 1 ≤ length word
  pub spaceless : lacks 32 word ≡ true

abbrev pub EachIsWord : List (List ℕ) → Type 0
EachIsWord [] = ⊤
EachIsWord (word ∷ words) = IsWord word × EachIsWord words

-- the line is these two to four words, with one space between each two
pub record IsLineOf (line : List ℕ) (words : List (List ℕ)) : Type 0 where
  pub some : 2 ≤ length words
  pub few : length words ≤ 4
  pub each : EachIsWord words
  pub joined : line ≡ join_with_byte 32 words

-- ---- as they are handed out

abbrev pub word_list : Words → List (List ℕ)
word_list (Two a b) = a.now ∷ b.now ∷ []
word_list (Three a b c) = a.now ∷ b.now ∷ c.now ∷ []
word_list (Four a b c d) = a.now ∷ b.now ∷ c.now ∷ d.now ∷ []
