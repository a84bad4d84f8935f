-- The DER text of an authority list: `TNAuthorizationList` of RFC 8226, section 9, in the encoding of X.690, section
-- 10.
use Rattle.std.specs.Prelude.{◌≡◌, ℕ, ◌≤◌, true, List, ◌++◌, length}
use Rattle.std.specs.List.{list_all, flat_map}
use Rattle.der_reader.specs.Elem.{element_text}
use Rattle.der_reader.specs.Integer.{integer_content}
use Rattle.der_reader.specs.Tags.{integer_tag, ia5_string_tag, sequence_tag}
use Rattle.tn_values.specs.Span.{SpanView}
use Rattle.tn_auth_list.specs.declared.entries.Entry.{Entry}
use Rattle.tn_auth_list.specs.declared.entries.Entry.TheVariants.{Code, Range, Single}
use Rattle.tn_auth_list.specs.Entry.{is_entry}

-- an IA5String (X.690, section 8.23) and an INTEGER (section 8.3)
abbrev pub string_text : List ℕ → List ℕ
string_text text = element_text ia5_string_tag text

abbrev pub integer_text : ℕ → List ℕ
integer_text number = element_text integer_tag (integer_content number)

-- the start and the count of a range
abbrev pub span_text : SpanView → List ℕ
span_text span = string_text span.start ++ integer_text span.size

-- the tags [0], [1] and [2] of the entries
abbrev pub code_tag : ℕ
code_tag = 0xA0

abbrev pub range_tag : ℕ
range_tag = 0xA1

abbrev pub single_tag : ℕ
single_tag = 0xA2

-- one entry: what it is comes after its tag as an element of its own
abbrev pub entry_tag : Entry → ℕ
entry_tag (Code text) = code_tag
entry_tag (Range span) = range_tag
entry_tag (Single number) = single_tag

abbrev pub entry_content : Entry → List ℕ
entry_content (Code text) = string_text text
entry_content (Range span) = element_text sequence_tag (span_text span)
entry_content (Single number) = string_text number

abbrev pub entry_text : Entry → List ℕ
entry_text entry = element_text (entry_tag entry) (entry_content entry)

-- the SEQUENCE of the entries
abbrev pub list_text : List Entry → List ℕ
list_text entries = element_text sequence_tag (flat_map entry_text entries)

-- The bytes are the one DER text of the entries, of which there are 1 to 1,000.
pub record ListText (bytes : List ℕ) (entries : List Entry) : Type 0 where
  pub text : bytes ≡ list_text entries
  pub some : 1 ≤ length entries
  pub most : length entries ≤ 1000
  pub each : list_all is_entry entries ≡ true
