-- The rules of the chains in their own words: what holds, in a world, of the certificates of a PASSporT if a rule
-- holds, and which rule is the first that doesn't.
use Rattle.std.specs.Prelude.{◌≡◌, ⊤, ◌⊎◌, ℕ, ◌<◌, ◌≤◌, true, List, length, Option, Some, None}
use Rattle.std.specs.List.{slice_get}
use Rattle.stir_outside.specs.Files.{file}
use Rattle.tn_auth_list.specs.declared.entries.Entry.{Entry}
use Rattle.claim_constraints.specs.Constraints.{ConstraintsView}
use Rattle.claim_constraints.specs.Meets.{Meets}
use Rattle.serde_json.specs.Data.{Data}
use Rattle.x509_profile.specs.Chain.{Chain}
use Rattle.x509_profile.specs.View.{CertView}
use Rattle.delegation.specs.Coverage.{Covers, NamesCode, Table}
use Rattle.delegation.specs.Path.{Path}
use Rattle.cert_store.specs.ChainMap.{listed}
use Rattle.cert_store.specs.Words.{IsAuthorized, IsNumbered, IsSigned, IsValid}
use Rattle.passport_claims.specs.Kind.{div_in, level_in}
use Rattle.passport_claims.specs.declared.kind.Attest.{Attest}
use Rattle.passport_claims.specs.declared.kind.Attest.TheVariants as levels
use Rattle.passport_claims.specs.declared.kind.Kind.{Kind}
use Rattle.verify_rules.specs.Call.{Call, Reading, in_call_order, payload_of}
use Rattle.verify_rules.specs.Words.{Each}
use Rattle.verify_rules.specs.World.{World}
use Rattle.verify_rules.specs.declared.verdict.Verdict.{Verdict}
use Rattle.verify_rules.specs.declared.verdict.Verdict.TheVariants.{Passed, Refused, Unread, Unasked}

-- ---- what is there for a PASSporT

-- the file that is listed for its x5u is there, with these bytes
pub record HasFile (world : World) (one : Reading) (bytes : List ℕ) : Type 0 where
  pub name : List ℕ
  pub named : listed world.chains one.passport.x5u ≡ Some name
  pub there : file name world.files ≡ Some bytes

-- they are these certificates of the profile one after another, the leaf's first, and at most six
pub record HasChain (world : World) (one : Reading) (chain : List CertView) : Type 0 where
  pub bytes : List ℕ
  pub has_file : HasFile world one bytes
  pub is : Chain bytes chain

-- these are a path up to an anchor (RFC 5280, section 6.1)
pub record HasPath (world : World) (one : Reading) (chain : List CertView) (anchor : Option ℕ) : Type 0 where
  pub has_chain : HasChain world one chain
  pub is : Path chain world.anchors anchor

-- the first of them, which vouches for the PASSporT
pub record HasLeaf (world : World) (one : Reading) (leaf : CertView) : Type 0 where
  pub chain : List CertView
  pub has_chain : HasChain world one chain
  pub first : slice_get chain 0 ≡ Some leaf

-- it holds of each certificate of a chain, by its number, which is 1 for the leaf
abbrev pub OfEach : List CertView → (ℕ → Type 0) → Type 0
OfEach chain Holds = (number : ℕ) → 1 ≤ number → number ≤ length chain → Holds number

-- its certificates are a path up to an anchor, and this holds of each of them
abbrev pub OnPath : World → Reading → (List CertView → Option ℕ → ℕ → Type 0) → Type 0
OnPath world one Holds =
    (chain : List CertView) × (anchor : Option ℕ) × HasPath world one chain anchor × OfEach chain (Holds chain anchor)

-- ---- what each rule says of a PASSporT

-- 10: a file is listed for its x5u, and is there
abbrev pub IsListed : World → Reading → Type 0
IsListed world one = (bytes : List ℕ) × HasFile world one bytes

-- 11: its bytes are a chain of certificates of the profile
abbrev pub IsInProfile : World → Reading → Type 0
IsInProfile world one = (chain : List CertView) × HasChain world one chain

-- 12: these are a path up to an anchor
abbrev pub IsAnchored : World → Reading → Type 0
IsAnchored world one = (chain : List CertView) × (anchor : Option ℕ) × HasPath world one chain anchor

-- 13: each that isn't itself an anchor is valid at the moment (RFC 5280, section 6.1.3)
abbrev pub IsInDate : World → ℕ → Reading → Type 0
IsInDate world moment one = OnPath world one (λ chain anchor. IsValid world.anchors moment chain)

-- 14: the leaf has an authority list, and the authority of each lies within its issuer's (RFC 9060)
abbrev pub HasAuthority : World → Reading → Type 0
HasAuthority world one = OnPath world one (λ chain anchor. IsAuthorized world.table world.anchors anchor chain)

-- 15: the signature of each that isn't itself an anchor is good under its issuer's key (RFC 5280, section 6.1.3)
abbrev pub IsCertified : World → Reading → Type 0
IsCertified world one = OnPath world one (λ chain anchor. IsSigned world.says world.anchors anchor chain)

-- 16: the signature of the PASSporT is good under the leaf's key, over the digest of what was signed (RFC 8224, section
-- 6.2)
abbrev pub IsGenuine : World → Reading → Type 0
IsGenuine world one =
    (leaf : CertView) × HasLeaf world one leaf × (world.says leaf.key one.mark.digest one.mark.signature ≡ true)

-- entries cover the calling number, or that which was diverted if the PASSporT is of a diversion; they needn't if they
-- name some code, at partial and gateway attestation (RFC 8226, section 9; RFC 8588, section 4; RFC 8946, section 4.2;
-- which attestation asks for which coverage is this project's own rule)
abbrev pub CoversVouched : Table → List Entry → List ℕ → Option (List ℕ) → Type 0
CoversVouched table entries orig None = Covers entries table orig
CoversVouched table entries orig (Some diverted) = Covers entries table diverted

abbrev pub AllowsCode : Option Attest → Type 0
AllowsCode None = ⊥
AllowsCode (Some levels.A) = ⊥
AllowsCode (Some levels.B) = ⊤
AllowsCode (Some levels.C) = ⊤

abbrev pub CoversKind : Table → List Entry → List ℕ → Kind → Type 0
CoversKind table entries orig kind = CoversVouched table entries orig (div_in kind)
    ⊎ (AllowsCode (level_in kind) × ((code : List ℕ) × NamesCode entries code))

-- 17: the leaf's authority list covers what the PASSporT speaks for
pub record IsCovered (world : World) (one : Reading) : Type 0 where
  pub leaf : CertView
  pub has_leaf : HasLeaf world one leaf
  pub entries : List Entry
  pub has_list : leaf.list ≡ Some entries
  pub covers : CoversKind world.table entries one.passport.orig one.passport.kind

-- 19: for each certificate of its chain that has constraints, they are met by the PASSporT's payload, which is the one
-- that was signed (after RFC 8226, section 8; form and meaning are this project's own)
pub record PayloadMeets (one : Reading) (c : ConstraintsView) : Type 0 where
  pub payload : Data
  pub signed : payload_of one ≡ Some payload
  pub meets : Meets c payload

abbrev pub MeetsAt : Reading → List CertView → ℕ → Type 0
MeetsAt one chain number = (certificate : CertView) (c : ConstraintsView) → IsNumbered chain number certificate
    → certificate.constraints ≡ Some c → PayloadMeets one c

abbrev pub IsAllowed : World → Reading → Type 0
IsAllowed world one = (chain : List CertView) × HasChain world one chain × OfEach chain (MeetsAt one chain)

-- ---- what a verdict says of a rule

-- a call that passed meets it; one that this rule refuses doesn't; one that a later rule refuses does, and so does one
-- that is set aside for an unanswered question, if the rule is before the first that asks
abbrev pub MeansLate : ℕ → Type 0 → Verdict → Type 0
MeansLate number P Passed = P
MeansLate number P (Refused refused) = (refused.rule ≡ number → P → ⊥) × (number < refused.rule → P)
MeansLate number P (Unread bad) = ⊤
MeansLate number P (Unasked bad) = number < 15 → P

-- each of the rules of the chains, of each PASSporT in the order in which the call went
pub record SaysLateWords (world : World) (call : Call) (verdict : Verdict) : Type 0 where
  pub files : MeansLate 10 (Each (IsListed world) (in_call_order call)) verdict
  pub profile : MeansLate 11 (Each (IsInProfile world) (in_call_order call)) verdict
  pub paths : MeansLate 12 (Each (IsAnchored world) (in_call_order call)) verdict
  pub dates : MeansLate 13 (Each (IsInDate world call.moment) (in_call_order call)) verdict
  pub authority : MeansLate 14 (Each (HasAuthority world) (in_call_order call)) verdict
  pub certificates : MeansLate 15 (Each (IsCertified world) (in_call_order call)) verdict
  pub signatures : MeansLate 16 (Each (IsGenuine world) (in_call_order call)) verdict
  pub coverage : MeansLate 17 (Each (IsCovered world) (in_call_order call)) verdict
  pub constraints : MeansLate 19 (Each (IsAllowed world) (in_call_order call)) verdict
