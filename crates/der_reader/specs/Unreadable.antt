-- Why bytes begin with no DER element: the tests in their order, each in the words of X.690, sections 8.1.2, 8.1.3 and
-- 10.1. The kinds and places of the faults, and their order, are this project's own.
use Rattle.std.specs.Prelude.{◌≡◌, ◌⊎◌, ℕ, ◌+◌, ◌*◌, ◌<◌, List, [], ◌∷◌, ◌++◌, length, bit_and}
use Rattle.der_reader.specs.declared.fault.DerFault.{DerFault}
use Rattle.der_reader.specs.Elem.{length_text}
use Rattle.der_reader.specs.Fault.{fault_at}

-- the low five bits of a tag byte are all set: the tag's number would follow in further bytes (section 8.1.2.4)
abbrev pub IsHighTag : ℕ → Type 0
IsHighTag tag = bit_and tag 0x1F ≡ 0x1F

-- a first length byte of the long form, after which so many bytes say the length (section 8.1.3.5); here one or two
abbrev pub IsLongForm : ℕ → ℕ → Type 0
IsLongForm first count = ((first ≡ 0x81) × (count ≡ 1)) ⊎ ((first ≡ 0x82) × (count ≡ 2))

-- length bytes of the long form that say a length for which fewer would do (section 10.1): one byte for a length below
-- 0x80, or two, the higher first, for one below 0x0100
pub data IsNotShortest (size : List ℕ) : Type 0 where
  by_one : (value : ℕ) → size ≡ 0x81 ∷ value ∷ [] → value < 0x80 → IsNotShortest size
  by_two : (high low : ℕ) → size ≡ 0x82 ∷ high ∷ low ∷ [] → high * 0x100 + low < 0x0100 → IsNotShortest size

-- Kinds are 1 for bytes that end too soon, 2 for the tag and 3 for the length; a place counts from the first byte, and
-- is the number of bytes where these end.
pub data Unreadable (bytes : List ℕ) (fault : DerFault) : Type 0 where
  -- no byte
  no_tag : bytes ≡ [] → fault ≡ fault_at 1 0 → Unreadable bytes fault
  -- a high tag
  high_tag : (tag : ℕ) (behind : List ℕ) → bytes ≡ tag ∷ behind → IsHighTag tag → fault ≡ fault_at 2 0
      → Unreadable bytes fault
  -- no length byte
  no_length : (tag : ℕ) → bytes ≡ tag ∷ [] → (IsHighTag tag → ⊥) → fault ≡ fault_at 1 1 → Unreadable bytes fault
  -- an indefinite length (section 8.1.3.6), or one that more than two bytes would say
  no_form : (tag first : ℕ) (behind : List ℕ) → bytes ≡ tag ∷ first ∷ behind → (IsHighTag tag → ⊥)
      → (first ≡ 0x80) ⊎ (0x82 < first) → fault ≡ fault_at 3 1 → Unreadable bytes fault
  -- the bytes end within the length
  length_cut : (tag first count : ℕ) (behind : List ℕ) → bytes ≡ tag ∷ first ∷ behind → (IsHighTag tag → ⊥)
      → IsLongForm first count → length behind < count → fault ≡ fault_at 1 (length bytes) → Unreadable bytes fault
  -- a length that isn't the shortest
  not_shortest : (tag : ℕ) (size behind : List ℕ) → bytes ≡ tag ∷ (size ++ behind) → (IsHighTag tag → ⊥)
      → IsNotShortest size → fault ≡ fault_at 3 1 → Unreadable bytes fault
  -- the bytes end within the content
  content_cut : (tag size : ℕ) (content : List ℕ) → bytes ≡ tag ∷ (length_text size ++ content) → (IsHighTag tag → ⊥)
      → size < 0x10000 → length content < size → fault ≡ fault_at 1 (length bytes) → Unreadable bytes fault
