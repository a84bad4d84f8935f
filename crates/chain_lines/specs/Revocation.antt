-- Where it is told which certificates are revoked: the CRL distribution points of a certificate (RFC 5280, section
-- 4.2.1.13).
use Rattle.std.specs.Prelude.{ℕ, ◌==◌, Bool, List, [], ◌∷◌, ◌++◌, length, Option, Some, None, Result, Ok, Err}
use Rattle.std.specs.Prelude.{if◌then◌else◌}
use Rattle.std.specs.Borrow.{Bor}
use Rattle.std.specs.Str.{bytes_eq}
use Rattle.lists.specs.Steps.{◌>>=◌}
use Rattle.der_reader.specs.Elem.{Element}
use Rattle.der_reader.specs.Next.{next_at}
use Rattle.der_reader.specs.declared.fault.DerFault.{DerFault}
use Rattle.text_grammar.specs.Uri.{is_uri}
use Rattle.chain_lines.specs.Elements.{along, within}
use Rattle.chain_lines.specs.declared.made.Make.{Make}
use Rattle.chain_lines.specs.declared.made.Make.TheVariants as make

-- cRLDistributionPoints, 2.5.29.31
abbrev pub points_oid : List ℕ
points_oid = 0x55 ∷ 0x1D ∷ 0x1F ∷ []

-- what comes after the OID of an extension; a BOOLEAN may come before it (section 4.1)
unfoldable pub value_at : Element × List ℕ → Result Element DerFault
value_at second = if second.0.tag == 1 then (next_at second.1 >>= λ third. Ok third.0) else Ok second.0

-- the content of the OCTET STRING of an extension with this OID
unfoldable pub points_read : List ℕ → Result (List ℕ) DerFault
points_read extension = do
  oid ← next_at extension
  second ← next_at oid.1
  value ← value_at second
  Ok (if bytes_eq oid.0.content points_oid then value.content else [])

-- the answer of a reader as plain data
abbrev pub bytes_view : Result (Bor (List ℕ)) DerFault → Result (List ℕ) DerFault
bytes_view (Ok bytes) = Ok bytes.now
bytes_view (Err fault) = Err fault

abbrev pub or_nothing : Result (List ℕ) DerFault → List ℕ
or_nothing (Ok bytes) = bytes
or_nothing (Err fault) = []

-- nothing of another extension
abbrev pub points_of : List ℕ → List ℕ
points_of extension = or_nothing (points_read extension)

-- a URI on a line of its own; nothing of what is none
abbrev pub uri_line : List ℕ → List ℕ
uri_line uri = if is_uri uri then uri ++ 10 ∷ [] else []

-- what is made of a content
abbrev pub made_by : Make → List ℕ → List ℕ
made_by make.Same = λ content. content
made_by make.Points = points_of
made_by make.Line = uri_line

-- the content of the extension: the certificate and its signed part are SEQUENCEs, and in it [3] holds the SEQUENCE of
-- extensions
abbrev pub points_in : List ℕ → List ℕ
points_in whole = within 0x30 points_of (along (0x30 ∷ 0x30 ∷ 0xA3 ∷ 0x30 ∷ []) whole)

-- the URIs in it: a SEQUENCE of distribution points, each a SEQUENCE that may have a name [0]; that may be a full one
-- [0], of general names, and a URI is one of those, [6] (section 4.2.1.6)
abbrev pub uris_in : List ℕ → List ℕ
uris_in points = within 0x86 uri_line (along (0x30 ∷ 0x30 ∷ 0xA0 ∷ 0xA0 ∷ []) points)

abbrev pub uris_if : Bool → List ℕ → Option (List ℕ)
uris_if absent points = if absent then None else Some (uris_in points)

-- If there is the extension: its URIs, each with an LF.
abbrev pub revocation_of : List ℕ → Option (List ℕ)
revocation_of whole = uris_if (length (points_in whole) == 0) (points_in whole)
