-- Bytes that are no authority list, and their first fault: what is wrong with the first of their elements with which
-- anything is, of a kind of `ListFault`. This is this project's own rule.
use Rattle.std.specs.Prelude.{◌≡◌, ◌≢◌, ◌⊎◌, ℕ, zero, suc, ◌+◌, ◌≤◌, ◌<◌, ◌^◌, true, List, [], ◌++◌, length, Result, Ok}
use Rattle.std.specs.Prelude.{Err, ⊤}
use Rattle.std.specs.List.{list_all, flat_map}
use Rattle.der_reader.specs.Broken.{Behind, First, IsTagged, LeftOver, Unless, Within}
use Rattle.der_reader.specs.Elem.{element_text}
use Rattle.der_reader.specs.Integer.{IntegerText}
use Rattle.der_reader.specs.Part.{ItemView, PartView, at_kind, whole_text}
use Rattle.der_reader.specs.declared.part.Fault.{Fault}
use Rattle.der_reader.specs.Tags.{integer_tag, ia5_string_tag, sequence_tag}
use Rattle.tn_values.specs.Digit.{are_digits}
use Rattle.tn_values.specs.Number.{is_number}
use Rattle.tn_values.specs.Span.{SpanView}
use Rattle.tn_auth_list.specs.declared.entries.Entry.{Entry}
use Rattle.tn_auth_list.specs.declared.entries.Entry.TheVariants.{Range}
use Rattle.tn_auth_list.specs.declared.faults.ListFault.{ListFault}
use Rattle.tn_auth_list.specs.declared.faults.ListFault.TheVariants.{At, Memory}
use Rattle.tn_auth_list.specs.Code.{is_code}
use Rattle.tn_auth_list.specs.Entry.{is_entry}
use Rattle.tn_auth_list.specs.ListText.{ListText, code_tag, entry_content, entry_tag, entry_text, range_tag, single_tag}
use Rattle.tn_auth_list.specs.ListText.{span_text}

-- ---- what elements have to be

-- the IA5String of a code, of a number, and of a range's start
abbrev pub IsCode : ItemView → Type 0
IsCode string = is_code string.content.left ≡ true

abbrev pub IsNumber : ItemView → Type 0
IsNumber string = is_number string.content.left ≡ true

abbrev pub IsStart : ItemView → Type 0
IsStart string = (is_number string.content.left ≡ true) × (are_digits string.content.left ≡ true)

-- the INTEGER of a range's count: from 2 to 2^64 - 1, in its fewest bytes
abbrev pub IsCount : ItemView → Type 0
IsCount integer = (number : ℕ) × IntegerText integer.content.left number × (2 ≤ number) × (number < 2 ^ 64)

-- the content of the SEQUENCE of this range
abbrev pub IsSpanOf : List ℕ → SpanView → Type 0
IsSpanOf text span = (text ≡ span_text span) × (is_entry (Range span) ≡ true)

-- an element that is this entry
abbrev pub IsItemOf : ItemView → Entry → Type 0
IsItemOf item entry = (item.tag ≡ entry_tag entry) × (item.content.left ≡ entry_content entry) × (is_entry entry ≡ true)

-- the content of the SEQUENCE of a list of these entries
abbrev pub IsContentOf : List ℕ → List Entry → Type 0
IsContentOf text entries = (text ≡ flat_map entry_text entries) × (1 ≤ length entries) × (length entries ≤ 1000)
    × (list_all is_entry entries ≡ true)

-- ---- what is wrong with them

-- in an entry [0] and [2]: an IA5String, and nothing more
abbrev pub WrongString : (ItemView → Type 0) → ℕ → PartView → Fault → Type 0
WrongString Good kind = First (Unless (IsTagged ia5_string_tag) 1 (Unless Good kind (Behind LeftOver)))

-- in the SEQUENCE of a range: an IA5String and an INTEGER, and nothing more
abbrev pub WrongCount : PartView → Fault → Type 0
WrongCount = First (Unless (IsTagged integer_tag) 1 (Unless IsCount 5 (Behind LeftOver)))

abbrev pub WrongSpan : PartView → Fault → Type 0
WrongSpan = First (Unless (IsTagged ia5_string_tag) 1 (Unless IsStart 4 (Behind WrongCount)))

-- in an entry [1]: a SEQUENCE, and nothing more
abbrev pub WrongRange : PartView → Fault → Type 0
WrongRange = First (Unless (IsTagged sequence_tag) 1
    (Within WrongSpan (λ text. (span : SpanView) × IsSpanOf text span) (Behind LeftOver)))

-- an element of this tag, by its content; or of another
abbrev pub ByTag : ℕ → (PartView → Fault → Type 0) → (ItemView → Fault → Type 0) → ItemView → Fault → Type 0
ByTag tag Wrong Other item fault = ((item.tag ≡ tag) × Wrong item.content fault) ⊎ ((item.tag ≢ tag) × Other item fault)

-- an entry, by its tag; any tag but [0], [1] and [2] is a fault
abbrev pub WrongEntry : ItemView → Fault → Type 0
WrongEntry =
    ByTag code_tag (WrongString IsCode 3) (ByTag range_tag WrongRange (ByTag single_tag (WrongString IsNumber 4)
    (λ item fault. fault ≡ at_kind 1 item.place)))

-- entries in order, with room for so many: bytes are left and there is room for none; or the first entry is wrong; or
-- it is an entry and those after it are wrong, with room for one less
unfoldable pub WrongEntries : ℕ → PartView → Fault → Type 0
WrongEntries zero part fault = (1 ≤ length part.left) × (fault ≡ at_kind 6 part.place)
WrongEntries (suc room) part fault = (1 ≤ length part.left) × First (λ item fault. WrongEntry item fault
    ⊎ (((entry : Entry) × IsItemOf item entry) × WrongEntries room item.behind fault)) part fault

-- in the SEQUENCE of a list: 1 to 1,000 entries
abbrev pub WrongContent : PartView → Fault → Type 0
WrongContent part fault =
    ((part.left ≡ []) × (fault ≡ at_kind 2 0)) ⊎ ((1 ≤ length part.left) × WrongEntries 1000 part fault)

-- the bytes are no list, which is one SEQUENCE and nothing after it, and this is their first fault
abbrev pub Refused : List ℕ → Fault → Type 0
Refused bytes = First (Unless (IsTagged sequence_tag) 1 (Within WrongContent
    (λ text. (entries : List Entry) × IsContentOf text entries) (Behind LeftOver))) (whole_text bytes)

-- an answer other than a list and `Memory` is the first fault of the bytes
abbrev pub IsRefused : {A : Type 0} → List ℕ → Result A ListFault → Type 0
IsRefused bytes (Ok list) = ⊤
IsRefused bytes (Err (At kind place)) = Refused bytes (at_kind kind place)
IsRefused bytes (Err Memory) = ⊤

-- ---- faults of a list as a whole

-- bytes are left over after a list's text, and the first of them is at the place
pub record IsLeftOver (bytes : List ℕ) (place : ℕ) : Type 0 where
  pub list : List ℕ
  pub entries : List Entry
  pub rest : List ℕ
  pub text : bytes ≡ list ++ rest
  pub is : ListText list entries
  pub some : 0 < length rest
  pub at : place ≡ length list

-- after 1,000 entries there are more bytes in the list's SEQUENCE, and the first of them is at the place
pub record IsPastLimit (bytes : List ℕ) (place : ℕ) : Type 0 where
  pub entries : List Entry
  pub more : List ℕ
  pub rest : List ℕ
  pub text : bytes ≡ element_text sequence_tag (flat_map entry_text entries ++ more) ++ rest
  pub size : length (flat_map entry_text entries ++ more) < 0x10000
  pub all : length entries ≡ 1000
  pub each : list_all is_entry entries ≡ true
  pub some : 0 < length more
  pub at : place + (length more + length rest) ≡ length bytes
