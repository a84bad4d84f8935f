-- The prefix of a text up to a byte of a kind.
use Rattle.std.specs.Prelude.{◌≡◌, ℕ, Bool, true, not, List, ◌∷◌, ◌++◌}
use Rattle.std.specs.List.{list_all}

-- no byte of the text is of the kind
abbrev pub has_none : (ℕ → Bool) → List ℕ → Bool
has_none test text = list_all (λ byte. not (test byte)) text

-- the prefix of a text up to its first byte of a kind, or all of it if it has none
pub data UpTo (test : ℕ → Bool) (text front : List ℕ) : Type 0 where
  stops : (byte : ℕ) (rest : List ℕ) → has_none test front ≡ true → test byte ≡ true
      → text ≡ front ++ byte ∷ rest → UpTo test text front
  whole : has_none test text ≡ true → front ≡ text → UpTo test text front
