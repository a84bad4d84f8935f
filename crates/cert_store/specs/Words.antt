-- The rules on one chain in their own words: what holds of each certificate, and which is the first of which it
-- doesn't.
use Rattle.std.specs.Prelude.{◌≡◌, ◌↔◌, ℕ, pos, ◌≤ℤ◌, ◌-◌, ◌<◌, ◌≤◌, ◌⊎◌, true, false, List, [], length, Option, Some}
use Rattle.std.specs.Prelude.{None, IsSome}
use Rattle.std.specs.List.{slice_get}
use Rattle.x509_profile.specs.View.{CertView}
use Rattle.x509_profile.specs.Chain.{Chain, Whole}
use Rattle.delegation.specs.Coverage.{Table, Within}
use Rattle.delegation.specs.Path.{Path, is_listed, issuer_of}
use Rattle.delegation.specs.PathFaults.{IsFirstFault}
use Rattle.cert_store.specs.declared.judged.Asked.{Asked}
use Rattle.cert_store.specs.declared.judged.Asked.TheVariants.{NotAsked, Yes, No, Failed}
use Rattle.cert_store.specs.Judged.{JudgedView, out_of_date}
use Rattle.cert_store.specs.Rules.{Says, key_under}

-- it holds of each of so many certificates, counted from 1; or this is the first of which it doesn't
abbrev pub IsFirstBroken : (ℕ → Type 0) → ℕ → Option ℕ → Type 0
IsFirstBroken Holds count None = (number : ℕ) → 1 ≤ number → number ≤ count → Holds number
IsFirstBroken Holds count (Some broken) =
    (1 ≤ broken) × (broken ≤ count) × (Holds broken → ⊥) × ((number : ℕ) → 1 ≤ number → number < broken → Holds number)

-- the certificate of this number, counted from 1
abbrev pub IsNumbered : List CertView → ℕ → CertView → Type 0
IsNumbered chain number c = slice_get chain (number - 1) ≡ Some c

-- ---- rule 11

-- there are more bytes than 49,152; or the certificate of this number is the first that is none of the profile, or the
-- seventh
abbrev pub IsBrokenAt : List ℕ → ℕ → Type 0
IsBrokenAt bytes place =
    ((49152 < length bytes) × (place ≡ 0)) ⊎ ((length bytes ≤ 49152) × (1 ≤ place) × Whole bytes (place - 1))

-- the bytes are a chain of these certificates; or the rule is broken at this place, and they are no chain
abbrev pub ProfileOf : List ℕ → List CertView → Option ℕ → Type 0
ProfileOf bytes chain None = Chain bytes chain
ProfileOf bytes chain (Some place) =
    IsBrokenAt bytes place × ((any : List CertView) → Chain bytes any → ⊥) × (chain ≡ [])

abbrev pub ProfileIs : List ℕ → JudgedView → Type 0
ProfileIs bytes judged = ProfileOf bytes judged.certificates judged.profile

-- ---- rule 12

-- they are a path up to some anchor; or up to none, and what is wrong with them first is at this place
abbrev pub PathOf : List CertView → List CertView → Option ℕ → Type 0
PathOf chain anchors None = (anchor : Option ℕ) × Path chain anchors anchor
PathOf chain anchors (Some place) =
    ((anchor : Option ℕ) → Path chain anchors anchor → ⊥) × (kind : ℕ) × IsFirstFault chain anchors kind place

abbrev pub PathIs : List CertView → JudgedView → Type 0
PathIs anchors judged = judged.profile ≡ None → PathOf judged.certificates anchors judged.shape

-- ---- rule 13

-- a certificate that isn't itself an anchor is valid at the moment
abbrev pub IsValid : List CertView → ℕ → List CertView → ℕ → Type 0
IsValid anchors moment chain number = (c : CertView) → IsNumbered chain number c → is_listed c anchors ≡ false
    → (c.not_before ≤ℤ pos moment) × (pos moment ≤ℤ c.not_after)

abbrev pub DatesAre : List CertView → JudgedView → Type 0
DatesAre anchors judged = (anchor : Option ℕ) (moment : ℕ) → Path judged.certificates anchors anchor → IsFirstBroken
    (IsValid anchors moment judged.certificates) (length judged.certificates) (out_of_date judged moment)

-- ---- rule 14

-- the leaf has an authority list, and a certificate's authority lies within its issuer's
pub record IsAuthorized (table : Table) (anchors : List CertView) (anchor : Option ℕ) (chain : List CertView)
    (number : ℕ) : Type 0 where
  pub listed : (c : CertView) → IsNumbered chain number c → number ≡ 1 → IsSome c.list
  pub within : (c issuer : CertView) → IsNumbered chain number c → issuer_of chain anchors anchor number ≡ Some issuer
      → Within c.list issuer.list table

abbrev pub AuthorityIs : List CertView → Table → JudgedView → Type 0
AuthorityIs anchors table judged = (anchor : Option ℕ) → Path judged.certificates anchors anchor → IsFirstBroken
    (IsAuthorized table anchors anchor judged.certificates) (length judged.certificates) judged.authority

-- ---- rule 15

-- the signature of a certificate that isn't itself an anchor is good under its issuer's key
abbrev pub IsSigned : Says → List CertView → Option ℕ → List CertView → ℕ → Type 0
IsSigned says anchors anchor chain number = (c issuer : CertView) → IsNumbered chain number c
    → issuer_of chain anchors anchor number ≡ Some issuer → is_listed c anchors ≡ false
    → says issuer.key c.digest c.signature ≡ true

-- all are good; or this is the first that isn't; or the question of this one failed, and those before it are good
abbrev pub SignedAs : (ℕ → Type 0) → ℕ → Asked → Type 0
SignedAs Holds count NotAsked = ⊥
SignedAs Holds count Yes = IsFirstBroken Holds count None
SignedAs Holds count (No part) = IsFirstBroken Holds count (Some part)
SignedAs Holds count (Failed part) = (number : ℕ) → 1 ≤ number → number < part → number ≤ count → Holds number

abbrev pub SignaturesAre : List CertView → Says → JudgedView → Type 0
SignaturesAre anchors says judged = (anchor : Option ℕ) → Path judged.certificates anchors anchor → judged.authority
    ≡ None → SignedAs (IsSigned says anchors anchor judged.certificates) (length judged.certificates) judged.asked

-- of each certificate of a path the key of its issuer is kept, and none of one that is itself an anchor
pub record HasKeys (anchors : List CertView) (anchor : Option ℕ) (judged : JudgedView) : Type 0 where
  pub count : length judged.keys ≡ length judged.certificates
  pub each : (number : ℕ) (c issuer : CertView) → 1 ≤ number → IsNumbered judged.certificates number c
      → issuer_of judged.certificates anchors anchor number ≡ Some issuer
      → slice_get judged.keys (number - 1) ≡ Some (key_under anchors c issuer)

abbrev pub KeysAre : List CertView → JudgedView → Type 0
KeysAre anchors judged = (anchor : Option ℕ) → Path judged.certificates anchors anchor → HasKeys anchors anchor judged

-- no signature was asked for exactly if rule 11, 12 or 14 is broken
abbrev pub UnaskedIs : JudgedView → Type 0
UnaskedIs judged =
    (judged.asked ≡ NotAsked) ↔ ((judged.profile ≡ None) × (judged.shape ≡ None) × (judged.authority ≡ None) → ⊥)

-- ---- all of it

-- what is known of a chain with these bytes, each rule in its own words
pub record InWords (anchors : List CertView) (table : Table) (says : Says) (bytes : List ℕ)
    (judged : JudgedView) : Type 0 where
  pub profile : ProfileIs bytes judged
  pub path : PathIs anchors judged
  pub dates : DatesAre anchors judged
  pub authority : AuthorityIs anchors table judged
  pub signatures : SignaturesAre anchors says judged
