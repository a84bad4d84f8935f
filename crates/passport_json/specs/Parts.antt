-- The three texts of a token around exactly two dots (compact serialization, RFC 7515, section 7.1).
use Rattle.std.specs.Prelude.{◌≡◌, ℕ, Bool, true, false, List, [], ◌∷◌, ◌++◌, Option, Some, None, option_and_then}
use Rattle.std.specs.Prelude.{if◌then◌else◌}
use Rattle.text_grammar.specs.Cut.{cut, lacks}

-- `.`
abbrev pub dot : ℕ
dot = 46

pub record PartTexts : Type 0 where
  pub header : List ℕ
  pub payload : List ℕ
  pub signature : List ℕ

-- the text is these three with one dot between each two, and no other dot
pub record AreParts (text : List ℕ) (parts : PartTexts) : Type 0 where
  pub joined : text ≡ parts.header ++ dot ∷ (parts.payload ++ dot ∷ parts.signature)
  pub header : lacks dot parts.header ≡ true
  pub payload : lacks dot parts.payload ≡ true
  pub signature : lacks dot parts.signature ≡ true

-- the three texts, if the text has exactly two dots
abbrev pub parts_of : List ℕ → Option PartTexts
parts_of text =
    option_and_then (λ first. option_and_then (λ second.
    if lacks dot second.1 then Some (record { header = first.0; payload = second.0; signature = second.1 }) else None)
    (cut dot first.1)) (cut dot text)

-- exactly one of two texts is empty
abbrev pub one_is_empty : List ℕ → List ℕ → Bool
one_is_empty [] [] = false
one_is_empty [] (b ∷ bs) = true
one_is_empty (a ∷ more) [] = true
one_is_empty (a ∷ more) (b ∷ bs) = false

-- what is signed: the first two texts with their dot, as they are (JWS Signing Input, RFC 7515, section 2)
abbrev pub signing_of : PartTexts → List ℕ
signing_of parts = parts.header ++ dot ∷ parts.payload
