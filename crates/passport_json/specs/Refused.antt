-- Why a text is no token for a call: the checks in their order, each in the words of the serialization (RFC 7515,
-- section 7.1), of base64url (RFC 4648, section 5) and of the compact form (RFC 8225, section 7). The faults and their
-- order are this project's own.
use Rattle.std.specs.Prelude.{◌≡◌, ◌≢◌, ◌⊎◌, ℕ, List, [], length, Some, None}
use Rattle.serde_json.specs.Data.{Data}
use Rattle.passport_json.specs.declared.fault.TokenFault.{TokenFault}
use Rattle.passport_json.specs.declared.fault.TokenFault.TheVariants as faults
use Rattle.passport_json.specs.Base64.{IsBase64}
use Rattle.passport_json.specs.Compact.{CallView}
use Rattle.passport_json.specs.Object.{IsObjectText}
use Rattle.passport_json.specs.Parts.{AreParts, PartTexts}

-- ---- what may be wrong

-- exactly one of two texts is empty
abbrev pub IsOneEmpty : List ℕ → List ℕ → Type 0
IsOneEmpty header payload = ((header ≡ []) × (payload ≢ [])) ⊎ ((header ≢ []) × (payload ≡ []))

-- the text is the base64url of no bytes
abbrev pub IsNoBase64 : List ℕ → Type 0
IsNoBase64 text = (bytes : List ℕ) → IsBase64 text bytes → ⊥

-- the bytes are no JSON object
abbrev pub IsNoObject : List ℕ → Type 0
IsNoObject bytes = (value : Data) → IsObjectText bytes value → ⊥

-- a call lacks what the compact form leaves out: a Date or one of the numbers; or its PASSporT has a type, which that
-- form has no place for
pub data Lacks (call : CallView) : Type 0 where
  date : call.iat ≡ None → Lacks call
  calling : call.orig ≡ None → Lacks call
  called : call.dest ≡ None → Lacks call
  has_type : (ppt : List ℕ) → call.ppt ≡ Some ppt → Lacks call

-- ---- what is right before it

-- header and payload are both there (the full form), or both left out (the compact form)
abbrev pub HasBoth : PartTexts → Type 0
HasBoth parts = (parts.header ≢ []) × (parts.payload ≢ [])

abbrev pub HasNeither : PartTexts → Type 0
HasNeither parts = (parts.header ≡ []) × (parts.payload ≡ [])

-- the text is these three with a dot between each two, and not exactly one of header and payload is empty
pub record IsSerialized (text : List ℕ) (parts : PartTexts) : Type 0 where
  pub are : AreParts text parts
  pub both : IsOneEmpty parts.header parts.payload → ⊥

-- and each of the three is the base64url of these bytes
pub record IsDecoded (text : List ℕ) (parts bytes : PartTexts) : Type 0 where
  pub serialized : IsSerialized text parts
  pub header : IsBase64 parts.header bytes.header
  pub payload : IsBase64 parts.payload bytes.payload
  pub signature : IsBase64 parts.signature bytes.signature

-- and the signature has 64 bytes (RFC 7518, section 3.4)
pub record IsSized (text : List ℕ) (parts bytes : PartTexts) : Type 0 where
  pub decoded : IsDecoded text parts bytes
  pub size : length bytes.signature ≡ 64

-- ---- the first that is wrong

-- the first check that the text breaks; parts count from 1
pub data Refused (text : List ℕ) (call : CallView) (fault : TokenFault) : Type 0 where
  -- Parts: not three texts with a dot between each two, or one of the first two empty and the other not
  dots : ((parts : PartTexts) → AreParts text parts → ⊥) → fault ≡ faults.Parts → Refused text call fault
  one_empty : (parts : PartTexts) → AreParts text parts → IsOneEmpty parts.header parts.payload → fault ≡ faults.Parts
      → Refused text call fault
  -- Base64: the first of the three that is no base64url
  header_base64 : (parts : PartTexts) → IsSerialized text parts → IsNoBase64 parts.header → fault ≡ faults.Base64 1
      → Refused text call fault
  payload_base64 : (parts : PartTexts) (header : List ℕ) → IsSerialized text parts → IsBase64 parts.header header
      → IsNoBase64 parts.payload → fault ≡ faults.Base64 2 → Refused text call fault
  signature_base64 : (parts : PartTexts) (header payload : List ℕ) → IsSerialized text parts
      → IsBase64 parts.header header → IsBase64 parts.payload payload → IsNoBase64 parts.signature
      → fault ≡ faults.Base64 3 → Refused text call fault
  -- SignatureLength: all three are, and the signature isn't 64 bytes
  signature_length : (parts bytes : PartTexts) → IsDecoded text parts bytes → length bytes.signature ≢ 64
      → fault ≡ faults.SignatureLength → Refused text call fault
  -- Json: in the full form, the first of header and payload that is no object
  header_object : (parts bytes : PartTexts) → IsSized text parts bytes → HasBoth parts → IsNoObject bytes.header
      → fault ≡ faults.Json 1 → Refused text call fault
  payload_object : (parts bytes : PartTexts) (header : Data) → IsSized text parts bytes → HasBoth parts
      → IsObjectText bytes.header header → IsNoObject bytes.payload → fault ≡ faults.Json 2 → Refused text call fault
  -- Compact: in the compact form, the call doesn't give what this leaves out
  compact : (parts bytes : PartTexts) → IsSized text parts bytes → HasNeither parts → Lacks call
      → fault ≡ faults.Compact → Refused text call fault
