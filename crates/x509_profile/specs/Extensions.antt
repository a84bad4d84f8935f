-- The extensions of a certificate, as they are read one after another (RFC 5280, section 4.2).
use Rattle.std.specs.Prelude.{ℕ, ◌+◌, ◌-◌, ◌==◌, length, Option, Some, None, Result, Ok, Err, if◌then◌else◌}
use Rattle.lists.specs.Steps.{◌>>=◌}
use Rattle.der_reader.specs.declared.part.Fault.{Fault}
use Rattle.der_reader.specs.Each.{each_in}
use Rattle.der_reader.specs.Part.{ItemView, PartView, element_at, end_at, or_broken}
use Rattle.der_reader.specs.Tags.{sequence_tag}
use Rattle.claim_constraints.specs.Read.{read_constraints}
use Rattle.tn_auth_list.specs.Read.{read_list}
use Rattle.x509_profile.specs.Contents.{ExtensionRead, authority_of, basic_of, extension_of, subject_key_of, usage_of}
use Rattle.x509_profile.specs.ExtensionId.{ExtensionName, BasicConstraints, KeyUsage, SubjectKey, AuthorityKey}
use Rattle.x509_profile.specs.ExtensionId.{AuthorityList, ClaimConstraints, EnhancedConstraints, Unknown, name_of}
use Rattle.x509_profile.specs.Fault.{fault_at}
use Rattle.x509_profile.specs.View.{Values, no_values}
use Rattle.x509_profile.specs.Extended.{extensions_tag}

-- What a place for one extension holds when one more of its name was read: it may not have held one before.
abbrev pub filled : {A : Type 0} → Option A → Result A Fault → Fault → Result (Option A) Fault
filled None said twice = said >>= λ value. Ok (Some value)
filled (Some before) said twice = Err twice

-- What the extensions say with one more of this name, which begins at the first place, and the OCTET STRING of its
-- content at the second.
abbrev pub values_by : ExtensionName → Values → ExtensionRead → ℕ → ℕ → Result Values Fault
values_by BasicConstraints values read place inner =
    filled values.basic (or_broken (basic_of read.octets.content) (fault_at 1 place)) (fault_at 1 place) >>= λ basic.
    Ok (record values { basic = basic })
values_by KeyUsage values read place inner =
    filled values.usage (or_broken (usage_of read.octets.content) (fault_at 1 place)) (fault_at 1 place) >>= λ usage.
    Ok (record values { usage = usage })
values_by SubjectKey values read place inner =
    filled values.subject_key (or_broken (subject_key_of read.octets.content) (fault_at 1 place)) (fault_at 1 place) >>=
    λ key. Ok (record values { subject_key = key })
values_by AuthorityKey values read place inner =
    filled values.authority (or_broken (authority_of read.octets.content) (fault_at 1 place)) (fault_at 1 place) >>=
    λ key. Ok (record values { authority = key })
values_by AuthorityList values read place inner =
    filled values.list (or_broken (read_list read.octets.content) (fault_at 8 inner)) (fault_at 1 place) >>= λ list.
    Ok (record values { list = list })
values_by ClaimConstraints values read place inner =
    filled values.constraints (or_broken (read_constraints read.octets.content) (fault_at 7 inner)) (fault_at 1 place)
    >>= λ constraints. Ok (record values { constraints = constraints })
values_by EnhancedConstraints values read place inner = Err (fault_at 7 place)
values_by Unknown values read place inner = if read.critical then Err (fault_at 6 place) else Ok values

-- with the extension that an element is
unfoldable pub values_with : Values → ItemView → Result Values Fault
values_with values item = do
  read ← or_broken (extension_of item.whole) (fault_at 1 item.place)
  values_by (name_of read.oid) values read item.place (item.place + (length item.whole - length read.octets.whole))

-- nothing is left over
abbrev pub ended_at : PartView → Result (Unit {0}) Fault
ended_at part = end_at part tt

-- the extensions by the explicit tag [3], one SEQUENCE and nothing after it
unfoldable pub marked_in : PartView → Result Values Fault
marked_in part = do
  marked ← element_at extensions_tag part
  sequence ← element_at sequence_tag marked.content
  values ← each_in values_with no_values sequence.content
  _inner ← ended_at sequence.behind
  _outer ← ended_at marked.behind
  Ok values

-- the extensions, which may be absent
unfoldable pub optional_in : PartView → Result Values Fault
optional_in part = if length part.left == 0 then Ok no_values else marked_in part
