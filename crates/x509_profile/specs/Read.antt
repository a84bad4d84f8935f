-- What reading a certificate gives: its values, or the first broken part in byte order, with its kind and its
-- offset (RFC 5280, section 4.1).
use Rattle.std.specs.Prelude.{ℕ, List, length, drop, nat_lt, Result, Ok, Err, if◌then◌else◌}
use Rattle.std.specs.Str.{bytes_eq}
use Rattle.sha2.specs.Sha256.{sha256}
use Rattle.lists.specs.Steps.{◌>>=◌}
use Rattle.der_reader.specs.declared.part.Fault.{Fault}
use Rattle.der_reader.specs.Part.{ItemView, PartView, element_at, end_at, item_at, or_broken, whole_text}
use Rattle.der_reader.specs.Tags.{integer_tag, sequence_tag}
use Rattle.x509_profile.specs.Contents.{signature_of, validity_of}
use Rattle.x509_profile.specs.Extensions.{ended_at, optional_in}
use Rattle.x509_profile.specs.Fault.{fault_at}
use Rattle.x509_profile.specs.Text.{algorithm_text, is_key, version_text}
use Rattle.x509_profile.specs.View.{CertView, TbsView, tbs_with, view_of}

-- what comes after the first element, if it is this text
unfoldable pub behind_text : List ℕ → ℕ → PartView → Result PartView Fault
behind_text text kind part = do
  item ← item_at part
  if bytes_eq item.whole text then Ok item.behind else Err (fault_at kind item.place)

-- the point of a key, from the byte that says that it isn't compressed on (section 4.1.2.7, RFC 5480, section 2)
abbrev pub point_in : ItemView → Result (List ℕ) Fault
point_in key = if is_key key.whole then Ok (drop 26 key.whole) else Err (fault_at 4 key.place)

-- The signed part: version, serial number, algorithm, issuer, validity, subject, key and extensions.
unfoldable pub tbs_in : PartView → Result TbsView Fault
tbs_in part = do
  serial_at ← behind_text version_text 2 part
  serial ← element_at integer_tag serial_at
  issuer_at ← behind_text algorithm_text 3 serial.behind
  issuer ← element_at sequence_tag issuer_at
  validity ← item_at issuer.behind
  times ← or_broken (validity_of validity.whole) (fault_at 5 validity.place)
  subject ← element_at sequence_tag validity.behind
  key ← item_at subject.behind
  point ← point_in key
  values ← optional_in key.behind
  Ok (tbs_with issuer.whole times subject.whole point values)

-- the signature, which is the last part: another element is SIGNATURE where it begins
unfoldable pub signature_in : PartView → Result (List ℕ) Fault
signature_in part = do
  item ← item_at part
  numbers ← or_broken (signature_of item.whole) (fault_at 9 item.place)
  end_at item.behind numbers

-- the certificate's SEQUENCE and what comes after it; bytes past the 8,192nd are DER there
unfoldable pub outer_in : List ℕ → Result ItemView Fault
outer_in all = if nat_lt 8192 (length all) then Err (fault_at 1 8192) else element_at sequence_tag (whole_text all)

-- the values of a certificate's parts: the signed part, the algorithm and the signature, and nothing after them
abbrev pub parts_in : List ℕ → ItemView → Result CertView Fault
parts_in all certificate = do
  signed ← element_at sequence_tag certificate.content
  tbs ← tbs_in signed.content
  signature_at ← behind_text algorithm_text 3 signed.behind
  signature ← signature_in signature_at
  _ended ← ended_at certificate.behind
  Ok (view_of all tbs (sha256 signed.whole) signature)

-- The values of the certificate that the bytes are, or the first fault.
unfoldable pub read_certificate : List ℕ → Result CertView Fault
read_certificate all = outer_in all >>= parts_in all
