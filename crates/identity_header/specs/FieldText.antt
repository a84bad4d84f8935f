-- The grammar of an Identity value (RFC 8224, section 4.1, with this project's own limits), as a relation between the
-- value and its four parts:
--     value = digest W ";" W "info" W "=" W "<" uri ">" *( W ";" W param )
--     param = name [ W "=" W ( bare / quoted ) ]
-- W is any spaces and tabs. Names are compared without case. A parameter alg or ppt has a value and comes at most once,
-- info doesn't come again, and other parameters are passed over.
use Rattle.std.specs.Prelude.{◌≡◌, ℕ, ◌⊎◌, List, [], ◌∷◌, ◌++◌, Option, Some, None, if◌then◌else◌, codes}
use Rattle.text_grammar.specs.Bytes.{is_name_byte, is_word}
use Rattle.text_grammar.specs.Grammar.{Taking, ◌▹◌, Byte, Word, Blanks, Any, Many, Run}
use Rattle.text_grammar.specs.Place.{IsPlace}
use Rattle.text_grammar.specs.Bytes.{is_uri_byte}
use Rattle.identity_header.specs.Parts.{Parts, is_digest_byte, is_bare_byte, is_quoted_byte}

-- a parameter: its name as it is written, and its value if it has one
pub record Param : Type 0 where
  pub name : List ℕ
  pub value : Option (List ℕ)

-- The text is the value itself, one or more bare bytes, or the value between quotes.
abbrev pub ValueText : List ℕ → List ℕ → Type 0
ValueText value text =
    ((text ≡ value) × Many is_bare_byte value) ⊎ ((text ≡ 34 ∷ (value ++ 34 ∷ [])) × Any is_quoted_byte value)

-- the value of a parameter, if it has one, and then a text of N
abbrev pub Valued : Option (List ℕ) → (List ℕ → Type 0) → List ℕ → Type 0
Valued None N = N
Valued (Some value) N = Blanks ▹ Byte 61 ▹ Blanks ▹ ValueText value ▹ N

-- this name
pub record IsName (name text : List ℕ) : Type 0 where
  pub same : text ≡ name
  pub bytes : Many is_name_byte text

-- the text of these parameters, each after its semicolon
abbrev pub ParamsText : List Param → List ℕ → Type 0
ParamsText [] text = text ≡ []
ParamsText (p ∷ ps) text = (Blanks ▹ Byte 59 ▹ Blanks ▹ IsName p.name ▹ Valued p.value (ParamsText ps)) text

-- the values of the parameters with this name, in letters of either case
abbrev pub values_of : List ℕ → List Param → List (Option (List ℕ))
values_of word [] = []
values_of word (p ∷ ps) = if is_word word p.name then p.value ∷ values_of word ps else values_of word ps

-- no parameter, or one with this value
abbrev pub at_most_one : Option (List ℕ) → List (Option (List ℕ))
at_most_one None = []
at_most_one (Some value) = Some value ∷ []

-- The text is one of parameters, and the parts are the digest, the uri and what the parameters say.
pub record Params (digest uri : List ℕ) (f : Parts) (text : List ℕ) : Type 0 where
  pub params : List Param
  pub is_text : ParamsText params text
  pub token : digest ≡ f.token
  pub info : uri ≡ f.info
  pub alg : values_of (codes "alg") params ≡ at_most_one f.alg
  pub ppt : values_of (codes "ppt") params ≡ at_most_one f.ppt
  pub no_more : values_of (codes "info") params ≡ []

-- after the digest: W ";" W "info" W "=" W "<" uri ">", and the parameters
abbrev pub InfoText : List ℕ → Parts → List ℕ → Type 0
InfoText digest f =
    Blanks ▹ Byte 59 ▹ Blanks ▹ Word (codes "info") ▹ Blanks ▹ Byte 61 ▹ Blanks ▹ Byte 60
    ▹ Taking (Run is_uri_byte 2048) (λ uri. Byte 62 ▹ Params digest uri f)

-- The value has these parts.
unfoldable pub FieldText : Parts → List ℕ → Type 0
FieldText f = Taking (Run is_digest_byte 8192) (λ digest. InfoText digest f)

-- The place is the length of the longest prefix of the value with which some value of the grammar begins.
abbrev pub FieldPlace : List ℕ → ℕ → Type 0
FieldPlace value place = IsPlace Parts FieldText value place
