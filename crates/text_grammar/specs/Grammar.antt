-- The pieces that the grammar of a text format is put together from. A piece says which texts may come in its place,
-- and `A ▹ N` says of a text that it is a piece A followed by a text of N.
use Rattle.std.specs.Prelude.{◌≡◌, ℕ, ◌≤◌, Bool, List, [], ◌∷◌, ◌++◌, length, map, IsTrue}
use Rattle.std.specs.List.{list_all}
use Rattle.text_grammar.specs.Bytes.{is_blank, lower}

-- a piece, and then a text of a grammar that may depend on it
pub record Taking (A : List ℕ → Type 0) (N : List ℕ → List ℕ → Type 0) (text : List ℕ) : Type 0 where
  pub piece : List ℕ
  pub rest : List ℕ
  pub split : text ≡ piece ++ rest
  pub is_piece : A piece
  pub goes_on : N piece rest

infixr 5 ◌▹◌
abbrev pub ◌▹◌ : (List ℕ → Type 0) → (List ℕ → Type 0) → List ℕ → Type 0
A ▹ N = Taking A (λ _. N)

-- this one byte
abbrev pub Byte : ℕ → List ℕ → Type 0
Byte c text = text ≡ c ∷ []

-- this word, which is written in small letters here, in letters of either case
abbrev pub Word : List ℕ → List ℕ → Type 0
Word word text = map lower text ≡ word

-- bytes of this class, any number of them, also none
abbrev pub Any : (ℕ → Bool) → List ℕ → Type 0
Any p text = IsTrue (list_all p text)

-- any number of spaces and tabs, also none
abbrev pub Blanks : List ℕ → Type 0
Blanks = Any is_blank

-- one or more bytes of this class
pub record Many (p : ℕ → Bool) (text : List ℕ) : Type 0 where
  pub each : Any p text
  pub some : 1 ≤ length text

-- one or more bytes of this class, at most so many
pub record Run (p : ℕ → Bool) (most : ℕ) (text : List ℕ) : Type 0 where
  pub each : Any p text
  pub some : 1 ≤ length text
  pub within : length text ≤ most

-- the end of the text, at which x was read
pub record End (F : Type 0) (x f : F) (text : List ℕ) : Type 0 where
  pub empty : text ≡ []
  pub same : x ≡ f
