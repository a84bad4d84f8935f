-- Every telephone number, as a list: a number has at most 15 bytes, so there are finitely many. With it a definition
-- that speaks of every number is still a test. Nothing computes the list.
use Rattle.std.specs.Prelude.{ℕ, zero, suc, List, [], ◌∷◌, ◌++◌, map}
use Rattle.std.specs.List.{flat_map}

-- the bytes of numbers: the ten digits, `*` and `#`
abbrev pub number_bytes : List ℕ
number_bytes = 48 ∷ 49 ∷ 50 ∷ 51 ∷ 52 ∷ 53 ∷ 54 ∷ 55 ∷ 56 ∷ 57 ∷ 42 ∷ 35 ∷ []

-- all texts of so many of these bytes
unfoldable pub texts_of : ℕ → List (List ℕ)
texts_of zero = [] ∷ []
texts_of (suc n) = flat_map (λ byte. map (λ text. byte ∷ text) (texts_of n)) number_bytes

-- all texts of 1 to so many of them
unfoldable pub texts_up_to : ℕ → List (List ℕ)
texts_up_to zero = []
texts_up_to (suc n) = texts_up_to n ++ texts_of (suc n)

-- every number: 1 to 15 of these bytes
unfoldable pub every_number : List (List ℕ)
every_number = texts_up_to 15
