-- What is within a part of a certificate, as it is read: a content that isn't of its form is the part's own fault,
-- whatever is wrong in it.
use Rattle.std.specs.Prelude.{ℕ, ◌==◌, List, ◌++◌, length, Bool, Option, Result, Ok, Err, if◌then◌else◌}
use Rattle.std.specs.Option.{option_map}
use Rattle.lists.specs.Steps.{◌>>=◌}
use Rattle.der_reader.specs.declared.fault.DerFault.{DerFault}
use Rattle.der_reader.specs.BitString.{bits_of, flags_of}
use Rattle.der_reader.specs.Elem.{Element, element_of}
use Rattle.der_reader.specs.Fault.{bad_value}
use Rattle.der_reader.specs.Integer.{scalar_of}
use Rattle.der_reader.specs.Optional.{flag_of, limit_of}
use Rattle.der_reader.specs.Next.{next_at, optional_at, pair_at, sole_at}
use Rattle.der_reader.specs.Time.{time_of}
use Rattle.der_reader.specs.Tags.{boolean_tag, integer_tag, bit_string_tag, octet_string_tag, object_identifier_tag}
use Rattle.der_reader.specs.Tags.{sequence_tag}
use Rattle.x509_profile.specs.declared.contents.Extension.{Extension}
use Rattle.x509_profile.specs.View.{BasicView, ExtensionView, ValidityView}
use Rattle.x509_profile.specs.Extended.{key_identifier_tag}

-- basicConstraints: a SEQUENCE of cA and the path length, either of which may be absent (RFC 5280, section 4.2.1.9)
unfoldable pub basic_of : List ℕ → Result BasicView DerFault
basic_of value = do
  sequence ← sole_at sequence_tag value
  flag ← optional_at boolean_tag sequence.content
  limit ← optional_at integer_tag flag.1
  is_ca ← flag_of flag.0
  path_length ← limit_of limit.0
  if length limit.1 == 0 then Ok (record { is_ca = is_ca; path_length = path_length }) else Err bad_value

-- keyUsage: a BIT STRING of at most 16 bits (section 4.2.1.3)
unfoldable pub usage_of : List ℕ → Result ℕ DerFault
usage_of value = do
  string ← sole_at bit_string_tag value
  flags_of string.tag string.content

-- subjectKeyIdentifier: an OCTET STRING (section 4.2.1.2)
unfoldable pub subject_key_of : List ℕ → Result (List ℕ) DerFault
subject_key_of value = do
  string ← sole_at octet_string_tag value
  Ok string.content

-- authorityKeyIdentifier: a SEQUENCE, whose first element is the key identifier if it has the tag [0]; what follows is
-- passed over (section 4.2.1.1)
unfoldable pub authority_of : List ℕ → Result (Option (List ℕ)) DerFault
authority_of value = do
  sequence ← sole_at sequence_tag value
  first ← optional_at key_identifier_tag sequence.content
  Ok (option_map (λ identifier. identifier.content) first.0)

-- an extension: a SEQUENCE of its OID, whether it is critical, and the OCTET STRING of its content (section 4.1)
pub record ExtensionRead : Type 0 where
  pub oid : List ℕ
  pub critical : Bool
  pub octets : Element

unfoldable pub extension_of : List ℕ → Result ExtensionRead DerFault
extension_of text = do
  sequence ← sole_at sequence_tag text
  oid ← next_at sequence.content
  flag ← optional_at boolean_tag oid.1
  critical ← flag_of flag.0
  octets ← sole_at octet_string_tag flag.1
  if oid.0.tag == object_identifier_tag
      then Ok (record { oid = oid.0.content; critical = critical; octets = octets }) else Err bad_value

-- without the place of its content
abbrev pub extension_view : ExtensionRead → ExtensionView
extension_view read = record { oid = read.oid; critical = read.critical; value = read.octets.content }

-- how clauses see an extension that was read
abbrev pub extension_read : Extension → ExtensionRead
extension_read extension =
    record { oid = extension.oid.now; critical = extension.critical; octets = element_of extension.octets }

-- a validity: a SEQUENCE of two times (section 4.1.2.5)
unfoldable pub validity_of : List ℕ → Result ValidityView DerFault
validity_of text = do
  times ← pair_at text
  not_before ← time_of times.0.tag times.0.content
  not_after ← time_of times.1.tag times.1.content
  Ok (record { not_before = not_before; not_after = not_after })

-- the two numbers of a signature, 32 bytes each: the BIT STRING of a SEQUENCE of two INTEGERs (section 4.1.1.3, RFC
-- 5480 appendix A)
unfoldable pub signature_of : List ℕ → Result (List ℕ) DerFault
signature_of text = do
  string ← sole_at bit_string_tag text
  bits ← bits_of string.tag string.content
  numbers ← pair_at bits
  r ← scalar_of numbers.0.tag numbers.0.content
  s ← scalar_of numbers.1.tag numbers.1.content
  Ok (r ++ s)
