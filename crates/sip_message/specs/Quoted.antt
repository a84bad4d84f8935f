-- A value with quoted strings in pieces (RFC 3261, section 25.1, `quoted-string`; that any byte may be in one is this
-- project's own leniency), and the address in it.
use Rattle.std.specs.Prelude.{◌≡◌, ℕ, Bool, true, not, ◌==◌, ◌||◌, List, [], ◌∷◌, ◌++◌}
use Rattle.std.specs.List.{list_all}
use Rattle.sip_message.specs.UpTo.{UpTo}

-- what is in a quoted string: a byte, or a backslash and any byte
pub data Quote : Type 0 where
  bare : ℕ → Quote
  escaped : ℕ → Quote

-- a bare byte is neither `"` nor a backslash
abbrev pub is_quote : Quote → Bool
is_quote (bare byte) = not (byte == 34 || byte == 92)
is_quote (escaped byte) = true

abbrev pub quotes_text : List Quote → List ℕ
quotes_text [] = []
quotes_text (bare byte ∷ others) = byte ∷ quotes_text others
quotes_text (escaped byte ∷ others) = 92 ∷ byte ∷ quotes_text others

-- a piece of a value: a byte outside of quoted strings, or a whole quoted string
pub data Piece : Type 0 where
  plain : ℕ → Piece
  quoted : List Quote → Piece

-- a plain byte is neither `"` nor `<`
abbrev pub is_piece : Piece → Bool
is_piece (plain byte) = not (byte == 34 || byte == 60)
is_piece (quoted quotes) = list_all is_quote quotes

abbrev pub pieces_text : List Piece → List ℕ
pieces_text [] = []
pieces_text (plain byte ∷ others) = byte ∷ pieces_text others
pieces_text (quoted quotes ∷ others) = 34 ∷ (quotes_text quotes ++ 34 ∷ pieces_text others)

-- the value is such pieces, a `<` and the rest: that `<` is the first outside of quoted strings
pub record IsBracketed (value rest : List ℕ) : Type 0 where
  pub pieces : List Piece
  pub pieces_ok : list_all is_piece pieces ≡ true
  pub text : value ≡ pieces_text pieces ++ 60 ∷ rest

-- `;`, `,`, space or tab
abbrev pub ends_address : ℕ → Bool
ends_address byte = byte == 59 || byte == 44 || byte == 32 || byte == 9

-- `>`
abbrev pub closes_bracket : ℕ → Bool
closes_bracket byte = byte == 62

-- the URI of the first address of a value: in brackets up to the next `>`; without them up to the first `;`, `,`, space
-- or tab
pub data IsAddress (value uri : List ℕ) : Type 0 where
  in_brackets : (rest : List ℕ) → IsBracketed value rest → UpTo closes_bracket rest uri → IsAddress value uri
  without : ((rest : List ℕ) → IsBracketed value rest → ⊥) → UpTo ends_address value uri → IsAddress value uri
