-- The types of a PASSporT that are judged and signed here: without a type (RFC 8225), `shaken` (RFC 8588) and `div`
-- (RFC 8946).
use Rattle.std.specs.Prelude.{◌≡◌, ◌⊎◌, ℕ, List, Option, Some, None, codes, if◌then◌else◌}
use Rattle.std.specs.Str.{bytes_eq}
use Rattle.text_grammar.specs.Bytes.{is_letter}
use Rattle.text_grammar.specs.Grammar.{Run}
use Rattle.passport_claims.specs.declared.kind.Attest.{Attest}
use Rattle.passport_claims.specs.declared.kind.Attest.TheVariants as levels
use Rattle.passport_claims.specs.declared.kind.Kind.{Kind}
use Rattle.passport_claims.specs.declared.kind.Kind.TheVariants as kinds

-- the attestation as it is written (RFC 8588, section 4)
abbrev pub attest_text : Attest → List ℕ
attest_text levels.A = codes "A"
attest_text levels.B = codes "B"
attest_text levels.C = codes "C"

-- the attestation that a text is
abbrev pub attest_of : List ℕ → Option Attest
attest_of text =
    if bytes_eq text (codes "A") then Some levels.A
    else if bytes_eq text (codes "B") then Some levels.B
    else if bytes_eq text (codes "C") then Some levels.C
    else None

-- the type as an Identity field and a header have it (RFC 8225, section 8.1)
abbrev pub ppt_of : Kind → Option (List ℕ)
ppt_of kinds.Base = None
ppt_of (kinds.Shaken level origid) = Some (codes "shaken")
ppt_of (kinds.Div number) = Some (codes "div")

-- its text is one to six letters (this project's own limit)
abbrev pub IsTypeText : List ℕ → Type 0
IsTypeText text = Run is_letter 6 text

-- the claims that a type adds: the attestation and the identifier of the call of `shaken` (RFC 8588, section 4), and
-- the number of `div` that was called before the diversion (RFC 8946, section 4.1)
abbrev pub level_in : Kind → Option Attest
level_in kinds.Base = None
level_in (kinds.Shaken level origid) = Some level
level_in (kinds.Div number) = None

abbrev pub origid_in : Kind → Option (List ℕ)
origid_in kinds.Base = None
origid_in (kinds.Shaken level origid) = Some origid
origid_in (kinds.Div number) = None

abbrev pub div_in : Kind → Option (List ℕ)
div_in kinds.Base = None
div_in (kinds.Shaken level origid) = None
div_in (kinds.Div number) = Some number

-- the field's type is one of the three
abbrev pub IsKnown : Option (List ℕ) → Type 0
IsKnown ppt = (ppt ≡ None) ⊎ ((ppt ≡ Some (codes "shaken")) ⊎ (ppt ≡ Some (codes "div")))
