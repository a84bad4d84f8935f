-- An entry of a call log: `@MOMENT LENGTH`, one LF, and LENGTH bytes of a message (this project's own format).
use Rattle.std.specs.Prelude.{ℕ, List, ◌∷◌, ◌++◌, length}
use Rattle.std.specs.Fmt.{decimal}

abbrev pub most_message_length : ℕ
most_message_length = 131072

abbrev pub most_entries : ℕ
most_entries = 1000000

-- a call of the log: its number, the moment at which it came, in Unix seconds, and its message
pub record Entry : Type 0 where
  pub number : ℕ
  pub moment : ℕ
  pub message : List ℕ

-- the header `@MOMENT LENGTH` with its LF, and what comes after it
unfoldable pub headed : ℕ → ℕ → List ℕ → List ℕ
headed moment said behind = 64 ∷ (decimal moment ++ 32 ∷ (decimal said ++ 10 ∷ behind))

-- the bytes of the entry
abbrev pub entry_text : Entry → List ℕ
entry_text call = headed call.moment (length call.message) call.message
