-- Which header field has which compact form: row by row, in the order of the letters (RFC 3261, sections 7.3.3 and 20;
-- RFC 8224, section 4, for Identity).
use Rattle.std.specs.Prelude.{ℕ, Bool, false, ◌||◌, List, [], ◌∷◌, codes}
use Rattle.sip_message.specs.FieldValue.{is_pair}

-- a letter, and the name of the field whose compact form it is
pub record CompactRow : Type 0 where
  pub letter : List ℕ
  pub name : List ℕ

abbrev pub row : List ℕ → List ℕ → CompactRow
row letter name = record { letter = letter; name = name }

abbrev pub compact_rows : List CompactRow
compact_rows =
    row (codes "c") (codes "Content-Type")
    ∷ row (codes "e") (codes "Content-Encoding")
    ∷ row (codes "f") (codes "From")
    ∷ row (codes "i") (codes "Call-ID")
    ∷ row (codes "k") (codes "Supported")
    ∷ row (codes "l") (codes "Content-Length")
    ∷ row (codes "m") (codes "Contact")
    ∷ row (codes "s") (codes "Subject")
    ∷ row (codes "t") (codes "To")
    ∷ row (codes "v") (codes "Via")
    ∷ row (codes "y") (codes "Identity")
    ∷ []

-- one of these rows has this letter and this name, in letters of either case
abbrev pub is_in_row : List ℕ → List ℕ → List CompactRow → Bool
is_in_row letter name [] = false
is_in_row letter name (one ∷ []) = is_pair letter name one.letter one.name
is_in_row letter name (one ∷ next ∷ others) =
    is_pair letter name one.letter one.name || is_in_row letter name (next ∷ others)
