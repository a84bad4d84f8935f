-- The rule of a live desk over its words alone, and its two laws (this project's own rule). A desk has six levels of
-- `size` words, one after the other. Levels are counted from 0 here, as slots are. A word is 0, or the code of a
-- ticket's piece at its level.
use Rattle.std.specs.Prelude.{◌≡◌, ◌≢◌, ℕ, zero, suc, ◌+◌, ◌-◌, ◌*◌, ◌/◌, ◌%◌, ◌<◌, List, [], ◌∷◌, ◌++◌, slice_index}

-- The code of a piece, of at most 43 bits, under the slot `parent` of the level before. 8796093022208 is 2^43
unfoldable pub code_of : ℕ → ℕ → ℕ
code_of parent piece = parent * 8796093022208 + piece + 1

-- the slot of the level before that a code is under
unfoldable pub parent_of : ℕ → ℕ
parent_of code = (code - 1) / 8796093022208

-- the piece of a code
unfoldable pub piece_of : ℕ → ℕ
piece_of code = (code - 1) % 8796093022208

-- the word of a slot
abbrev pub word_at : ℕ → List ℕ → ℕ → ℕ → ℕ
word_at size words level slot = slice_index words (level * size + slot)

-- the slot at which the search for a code looks after so many others: it goes round from the slot that the code names
abbrev pub turn : ℕ → ℕ → ℕ → ℕ
turn size code tries = (code % size + tries) % size

-- the pieces that the word of a slot stands for: those of the slot that it is under, and its own
abbrev pub reads : ℕ → List ℕ → ℕ → ℕ → List ℕ
reads size words zero slot = piece_of (word_at size words 0 slot) ∷ []
reads size words (suc level) slot = reads size words level (parent_of (word_at size words (suc level) slot))
    ++ piece_of (word_at size words (suc level) slot) ∷ []

-- The words meet the rule
pub record Sound (size : ℕ) (words : List ℕ) : Type 0 where
  -- a code of the first level is under no slot
  pub first : (slot : ℕ) → slot < size → word_at size words 0 slot ≢ 0 → parent_of (word_at size words 0 slot) ≡ 0
  -- a code of a later level is under a slot of the level before whose word isn't 0
  pub parent : (level slot : ℕ) → suc level < 6 → slot < size → word_at size words (suc level) slot ≢ 0
      → (parent_of (word_at size words (suc level) slot) < size)
      × (word_at size words level (parent_of (word_at size words (suc level) slot)) ≢ 0)
  -- the slots at which the search for a code looks before it comes to the code have other codes
  pub path : (level code tries before : ℕ) → level < 6 → tries < size → before < tries → code ≢ 0
      → word_at size words level (turn size code tries) ≡ code → (word_at size words level (turn size code before) ≢ 0)
      × (word_at size words level (turn size code before) ≢ code)

-- Two slots of one level never hold the same nonzero word
abbrev pub OneSlotAWord : Type 0
OneSlotAWord = (size : ℕ) (words : List ℕ) → Sound size words → (level one two : ℕ) → level < 6 → one < size
    → two < size → word_at size words level one ≢ 0
    → word_at size words level one ≡ word_at size words level two → one ≡ two

-- Two slots of one level with nonzero words never stand for the same pieces
abbrev pub OneSlotAReading : Type 0
OneSlotAReading = (size : ℕ) (words : List ℕ) → Sound size words → (level one two : ℕ) → level < 6 → one < size
    → two < size → word_at size words level one ≢ 0 → word_at size words level two ≢ 0
    → reads size words level one ≡ reads size words level two → one ≡ two

-- The search for a code begins at the slot that is the code's remainder by the size, and goes on to the next slot, and
-- after the last to slot 0
abbrev pub SearchGoesRound : Type 0
SearchGoesRound = (size code tries : ℕ) → 0 < size
    → (turn size code 0 ≡ code % size)
    × (turn size code tries + 1 < size → turn size code (tries + 1) ≡ turn size code tries + 1)
    × (turn size code tries + 1 ≡ size → turn size code (tries + 1) ≡ 0)
