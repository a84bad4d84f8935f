-- A ticket of 256 bits, and its pieces (this project's own rule).
use Rattle.std.specs.Prelude.{◌≡◌, ℕ, ◌+◌, ◌*◌, ◌/◌, ◌%◌, ◌<◌, List, [], ◌∷◌, length, slice_index}
use Rattle.live_desk.specs.Rule.{code_of}

-- 32 bytes
pub record IsTicket (ticket : List ℕ) : Type 0 where
  pub bytes : length ticket ≡ 32
  pub small : (i : ℕ) → slice_index ticket i < 256

-- the bytes as one number, most significant first, after the number of the bytes before
abbrev pub number_after : ℕ → List ℕ → ℕ
number_after n [] = n
number_after n (byte ∷ bytes) = number_after (n * 256 + byte) bytes

-- A number of 256 bits in five pieces of 43 bits and a last one of 41, most significant first. 8796093022208 is 2^43,
-- and 2199023255552 is 2^41
abbrev pub cut : ℕ → List ℕ
cut n =
    n / 2199023255552 / 8796093022208 / 8796093022208 / 8796093022208 / 8796093022208
    ∷ n / 2199023255552 / 8796093022208 / 8796093022208 / 8796093022208 % 8796093022208
    ∷ n / 2199023255552 / 8796093022208 / 8796093022208 % 8796093022208
    ∷ n / 2199023255552 / 8796093022208 % 8796093022208
    ∷ n / 2199023255552 % 8796093022208
    ∷ n % 2199023255552
    ∷ []

-- the pieces of a ticket, one a level
unfoldable pub pieces : List ℕ → List ℕ
pieces ticket = cut (number_after 0 ticket)

-- These pieces, one after the other, are the number: five of 43 bits and a last one of 41, most significant first
pub record AreCut (n : ℕ) (ps : List ℕ) : Type 0 where
  pub six : length ps ≡ 6
  pub small : (level : ℕ) → slice_index ps level < 8796093022208
  pub last : slice_index ps 5 < 2199023255552
  pub sum : n ≡ ((((slice_index ps 0 * 8796093022208 + slice_index ps 1) * 8796093022208 + slice_index ps 2)
      * 8796093022208 + slice_index ps 3) * 8796093022208 + slice_index ps 4) * 2199023255552 + slice_index ps 5

-- The pieces of a ticket, one after the other, are the ticket
abbrev pub PiecesAreTheTicket : Type 0
PiecesAreTheTicket = (ticket : List ℕ) → IsTicket ticket → AreCut (number_after 0 ticket) (pieces ticket)

-- the ticket's code at a level, under this slot of the level before
abbrev pub code_at : ℕ → List ℕ → ℕ → ℕ
code_at parent ticket level = code_of parent (slice_index (pieces ticket) level)
