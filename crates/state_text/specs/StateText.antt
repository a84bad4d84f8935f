-- The text of a state, and the files that hold one (this project's own format).
use Rattle.std.specs.Prelude.{◌≡◌, ◌≢◌, ⊤, ◌⊎◌, ℕ, ◌≤◌, true, List, [], ◌∷◌, ◌++◌, length, codes}
use Rattle.std.specs.Fmt.{decimal}
use Rattle.hex.specs.Hex.{encode_lower}
use Rattle.text_grammar.specs.Cut.{lacks}
use Rattle.state_text.specs.State.{Entry, IsState, StateView, none_kept}

-- ---- its lines, each with its LF

abbrev pub head_line : List ℕ
head_line = codes "past 1\n"

-- a name with its space, a number, and the LF
abbrev pub number_line : List ℕ → ℕ → List ℕ
number_line name number = name ++ (decimal number ++ 10 ∷ [])

-- the ticket in lower-case hex digits, the call's number and the last second at which its PASSporT is fresh
abbrev pub kept_line : Entry → List ℕ
kept_line entry =
    codes "kept " ++ (encode_lower entry.0 ++ 32 ∷ (decimal entry.1.call ++ 32 ∷ (decimal entry.1.last ++ 10 ∷ [])))

abbrev pub kept_lines : List Entry → List (List ℕ)
kept_lines [] = []
kept_lines (entry ∷ others) = kept_line entry ∷ kept_lines others

-- the lines after the first
abbrev pub lines_behind : StateView → List (List ℕ)
lines_behind s = number_line (codes "window ") s.window ∷ number_line (codes "call ") s.call
    ∷ number_line (codes "moment ") s.moment ∷ (kept_lines s.kept ++ number_line (codes "end ") (length s.kept) ∷ [])

-- lines one after another
abbrev pub text_of : List (List ℕ) → List ℕ
text_of [] = []
text_of (line ∷ others) = line ++ text_of others

-- the lines before the entries, as one text
abbrev pub head_text : ℕ → ℕ → ℕ → List ℕ
head_text window call moment = head_line ++ (number_line (codes "window ") window
    ++ (number_line (codes "call ") call ++ number_line (codes "moment ") moment))

-- the text of the state
unfoldable pub state_text : StateView → List ℕ
state_text s = head_line ++ text_of (lines_behind s)

-- the text is that of the state, and the state may be handed on
pub record StateText (text : List ℕ) (s : StateView) : Type 0 where
  pub rules : IsState s
  pub call : s.call ≤ 4000000000
  pub is : text ≡ state_text s

-- ---- files that hold one

-- a line, without its LF, that may come before the state
pub record IsOther (line : List ℕ) : Type 0 where
  pub one : lacks 10 line ≡ true
  pub other : line ≢ codes "past 1"

abbrev pub AreOthers : List (List ℕ) → Type 0
AreOthers [] = ⊤
AreOthers (line ∷ others) = IsOther line × AreOthers others

-- these lines with their LFs
abbrev pub with_ends : List (List ℕ) → List ℕ
with_ends [] = []
with_ends (line ∷ others) = line ++ 10 ∷ with_ends others

-- lines other than `past 1`, the text of a state, and anything after it
pub record HoldsState (bytes : List ℕ) (s : StateView) : Type 0 where
  pub before : List (List ℕ)
  pub others : AreOthers before
  pub text : List ℕ
  pub state : StateText text s
  pub behind : List ℕ
  pub split : bytes ≡ with_ends before ++ (text ++ behind)

-- the file is empty, which means a state with this window in which nothing is kept; or it holds a state
abbrev pub StateFile : ℕ → List ℕ → StateView → Type 0
StateFile window bytes s = ((bytes ≡ []) × (s ≡ none_kept window)) ⊎ HoldsState bytes s
