-- The parts of the certificates of a chain, and how they are told.
use Rattle.std.specs.Prelude.{◌≡◌, ℕ, ◌-◌, ◌≤◌, ◌==◌, List, Option, Some, None, Result, Ok, Err, if◌then◌else◌}
use Rattle.std.specs.List.{slice_get}
use Rattle.chain_lines.specs.Parts.{PartIs}
use Rattle.chain_lines.specs.declared.parts.Part.{Part}
use Rattle.chain_lines.specs.declared.parts.Part.TheVariants as parts
use Rattle.x509_profile.specs.Chain.{Chain}
use Rattle.x509_profile.specs.View.{CertView}
use Rattle.stir_c.specs.Saying.{ToldMaybe}
use Rattle.stir_c.specs.Told.{plain}
use Rattle.stir_c.specs.WrittenText.{ToldText}
use Rattle.stir_c.specs.declared.said.Said.{Said}
use Rattle.stir_c.specs.declared.writing.Text.{Text}

-- the part of this number
abbrev pub part_of : ℕ → Option Part
part_of number = if number == 1 then Some parts.Serial else if number == 2 then Some parts.Subject
    else if number == 3 then Some parts.Issuer else if number == 4 then Some parts.Codes
    else if number == 5 then Some parts.Digest else if number == 6 then Some parts.NotBefore
    else if number == 7 then Some parts.NotAfter else if number == 8 then Some parts.Revocation else None

-- the bytes are certificates one after another, and this is the one of this number, counted from 1
pub record HasCertificate (bytes : List ℕ) (number : ℕ) (certificate : CertView) : Type 0 where
  pub chain : List CertView
  pub text : Chain bytes chain
  pub some : 1 ≤ number
  pub at : slice_get chain (number - 1) ≡ Some certificate

-- there is such a certificate, and these are the bytes of such a part of it
pub record IsPartOf (bytes : List ℕ) (number part : ℕ) (out : List ℕ) : Type 0 where
  pub certificate : CertView
  pub has : HasCertificate bytes number certificate
  pub kind : Part
  pub kind_is : part_of part ≡ Some kind
  pub is : PartIs certificate kind (Some out)

-- so it is; or there is no such certificate, no such part, or nothing of it in the certificate
abbrev pub ChainPartIs : List ℕ → ℕ → ℕ → Option (List ℕ) → Type 0
ChainPartIs bytes number part (Some out) = IsPartOf bytes number part out
ChainPartIs bytes number part None = (certificate : CertView) (kind : Part) → HasCertificate bytes number certificate
    → part_of part ≡ Some kind → PartIs certificate kind None

-- such a part, written and told; or kind 6
pub record ToldPart (bytes : List ℕ) (number part : ℕ) (before now : List ℕ) (said : Said) : Type 0 where
  pub found : Option (List ℕ)
  pub is : ChainPartIs bytes number part found
  pub told : ToldMaybe found before now said

-- it is told so, and nothing else is written; or memory ran out
pub record ToldNothingOf (kind : ℕ) (before now : List ℕ) (said : Said) : Type 0 where
  pub told_is : said ≡ plain kind 0
  pub as_was : now ≡ before

abbrev pub ToldFound : {E : Type 0} → Result (Option Text) E → List ℕ → List ℕ → Said → Type 0
ToldFound (Ok (Some text)) before now said = ToldText text.bytes.items before now said
ToldFound (Ok None) before now said = ToldNothingOf 6 before now said
ToldFound (Err refused) before now said = ToldNothingOf 3 before now said
