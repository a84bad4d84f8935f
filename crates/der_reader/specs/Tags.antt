-- Tag bytes of one byte (X.690, section 8.1.2).
use Rattle.std.specs.Prelude.{ℕ}

abbrev pub boolean_tag : ℕ
boolean_tag = 0x01

abbrev pub integer_tag : ℕ
integer_tag = 0x02

abbrev pub bit_string_tag : ℕ
bit_string_tag = 0x03

abbrev pub octet_string_tag : ℕ
octet_string_tag = 0x04

abbrev pub object_identifier_tag : ℕ
object_identifier_tag = 0x06

abbrev pub ia5_string_tag : ℕ
ia5_string_tag = 0x16

abbrev pub utc_time_tag : ℕ
utc_time_tag = 0x17

abbrev pub generalized_time_tag : ℕ
generalized_time_tag = 0x18

abbrev pub sequence_tag : ℕ
sequence_tag = 0x30
