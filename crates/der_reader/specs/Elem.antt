-- A DER element, in the profile of this project: X.690, sections 8.1.2, 8.1.3 and 10.1.
use Rattle.std.specs.Prelude.{◌≡◌, ◌≢◌, ◌⊎◌, ℕ, ◌/◌, ◌%◌, ◌<◌, List, [], ◌∷◌, ◌++◌, length, slice_index, nat_lt}
use Rattle.std.specs.Prelude.{bit_and, Option, Some, None, if◌then◌else◌}
use Rattle.der_reader.specs.declared.element.Der.{Der}
use Rattle.der_reader.specs.Tags.{sequence_tag}

-- each of them is a byte
abbrev pub AllBytes : List ℕ → Type 0
AllBytes bytes = (i : ℕ) → slice_index bytes i < 0x100

-- The one minimal length of so many bytes (X.690, sections 8.1.3.3 to 8.1.3.5 and 10.1): one byte below 0x80,
-- or 81 and a byte, or 82 and two bytes, the higher first.
unfoldable pub length_text : ℕ → List ℕ
length_text size =
    if nat_lt size 0x80 then size ∷ []
    else (if nat_lt size 0x100 then 0x81 ∷ size ∷ []
    else 0x82 ∷ size / 0x100 ∷ size % 0x100 ∷ [])

-- the one text of an element: tag, length and content
abbrev pub element_text : ℕ → List ℕ → List ℕ
element_text tag content = tag ∷ (length_text (length content) ++ content)

-- The bytes are the element of this tag and content: the tag byte, whose low five bits aren't all set
-- (X.690, section 8.1.2.2), the one minimal length of the content, and the content, at most 65,535 bytes.
pub record Elem (bytes : List ℕ) (tag : ℕ) (content : List ℕ) : Type 0 where
  pub low_tag : bit_and tag 0x1F ≢ 0x1F
  pub size : length content < 0x10000
  pub text : bytes ≡ element_text tag content

-- an element as plain data: its tag byte, all its bytes, and its content
pub record Element : Type 0 where
  pub tag : ℕ
  pub whole : List ℕ
  pub content : List ℕ

-- what a view shows
abbrev pub element_of : Der → Element
element_of der = record { tag = der.tag; whole = der.whole.now; content = der.content.now }

-- the bytes begin with this element, and the rest follows it
pub record BeginsWith (bytes : List ℕ) (element : Element) (rest : List ℕ) : Type 0 where
  pub elem : Elem element.whole element.tag element.content
  pub split : bytes ≡ element.whole ++ rest

-- the bytes begin with an element of another tag
pub record BeginsWithOther (tag : ℕ) (bytes : List ℕ) : Type 0 where
  pub element : Element
  pub rest : List ℕ
  pub begins : BeginsWith bytes element rest
  pub other : element.tag ≢ tag

-- an element of this tag that may be absent, and what comes after it; if it is absent, that is all bytes: none, or an
-- element of another tag first
abbrev pub MayBeginWith : ℕ → List ℕ → Option Element → List ℕ → Type 0
MayBeginWith tag bytes (Some element) rest = BeginsWith bytes element rest × (element.tag ≡ tag)
MayBeginWith tag bytes None rest = (rest ≡ bytes) × ((bytes ≡ []) ⊎ BeginsWithOther tag bytes)

-- the bytes are a SEQUENCE of these two elements
pub record IsPair (bytes : List ℕ) (first second : Element) : Type 0 where
  pub elem : Elem bytes sequence_tag (first.whole ++ second.whole)
  pub is_first : Elem first.whole first.tag first.content
  pub is_second : Elem second.whole second.tag second.content
