-- Readers on lists of bytes: each gives what it read, or the rest of the text from where it can't go on.
use Rattle.std.specs.Prelude.{ℕ, Bool, List, [], ◌∷◌, take, drop, Result, Ok, Err, ◌==◌, if◌then◌else◌}
use Rattle.std.specs.List.{prefix_len}
use Rattle.text_grammar.specs.Bytes.{lower}
use Rattle.lists.specs.Steps.{◌>>=◌}

abbrev pub Read : Type 0 → Type 0
Read X = Result X (List ℕ)

-- one byte of this class: what comes after it
abbrev pub one_at : (ℕ → Bool) → List ℕ → Read (List ℕ)
one_at p [] = Err []
one_at p (b ∷ rest) = if p b then Ok rest else Err (b ∷ rest)

abbrev pub byte_at : ℕ → List ℕ → Read (List ℕ)
byte_at c text = one_at (λ b. b == c) text

-- this letter, in either case
abbrev pub letter_at : ℕ → List ℕ → Read (List ℕ)
letter_at c text = one_at (λ b. lower b == c) text

-- this word, in letters of either case
abbrev pub word_at : List ℕ → List ℕ → Read (List ℕ)
word_at [] text = Ok text
word_at (c ∷ word) text = letter_at c text >>= word_at word

-- what comes after the bytes of this class
abbrev pub skip : (ℕ → Bool) → List ℕ → List ℕ
skip p text = drop (prefix_len p text) text

-- the first bytes, if there are some, and what comes after them
abbrev pub some_at : ℕ → List ℕ → Read (List ℕ × List ℕ)
some_at count text = if count == 0 then Err text else Ok (take count text, drop count text)

-- one or more bytes of this class, all that come here
abbrev pub many_at : (ℕ → Bool) → List ℕ → Read (List ℕ × List ℕ)
many_at p text = some_at (prefix_len p text) text

-- one or more bytes of this class, all that come here up to a limit
abbrev pub run_at : (ℕ → Bool) → ℕ → List ℕ → Read (List ℕ × List ℕ)
run_at p most text = some_at (prefix_len p (take most text)) text

-- the end of the text, at which x was read
abbrev pub end_at : {A : Type 0} → A → List ℕ → Read A
end_at x [] = Ok x
end_at x (b ∷ rest) = Err (b ∷ rest)

-- one reader if the first byte is of this class, and else the other one
abbrev pub either_at : {A : Type 0} → (ℕ → Bool) → (List ℕ → Read A) → (List ℕ → Read A) → List ℕ → Read A
either_at p r s [] = s []
either_at p r s (b ∷ rest) = if p b then r (b ∷ rest) else s (b ∷ rest)
