-- Why the extensions of a certificate are refused (RFC 5280, section 4.2): the first of them, in the order in which
-- they come, that is no extension, or that is refused after those before it. The kinds are this project's own.
use Rattle.std.specs.Prelude.{◌≡◌, ◌⊎◌, ℕ, ◌+◌, ◌-◌, ◌≤◌, true, List, length, Option, None, IsSome}
use Rattle.der_reader.specs.declared.part.Fault.{Fault}
use Rattle.der_reader.specs.Broken.{AtEnd, First, IsTagged, LeftOver, Through, Unless}
use Rattle.der_reader.specs.Each.{WrongBehind}
use Rattle.der_reader.specs.Part.{ItemView, PartView, at_kind}
use Rattle.der_reader.specs.Tags.{sequence_tag}
use Rattle.claim_constraints.specs.ConstraintsText.{ConstraintsText}
use Rattle.tn_auth_list.specs.ListText.{ListText}
use Rattle.x509_profile.specs.Extended.{Adds, AuthorityText, BasicText, ExtensionText, ExtensionTexts, SubjectKeyText}
use Rattle.x509_profile.specs.Extended.{UsageText, extensions_tag}
use Rattle.x509_profile.specs.ExtensionId.{ExtensionName, BasicConstraints, KeyUsage, SubjectKey, AuthorityKey}
use Rattle.x509_profile.specs.ExtensionId.{AuthorityList, ClaimConstraints, EnhancedConstraints, Unknown, IsNamed}
use Rattle.x509_profile.specs.View.{ExtensionView, Values, no_values}

-- one of its name came before it, which said this, or else its content says nothing
abbrev pub IsSecondOr : {A : Type 0} → (A → Type 0) → Fault → Option A → Fault → Fault → Type 0
IsSecondOr Says broken before second fault =
    (IsSome before × (fault ≡ second)) ⊎ ((before ≡ None) × ((said : _) → Says said → ⊥) × (fault ≡ broken))

-- Why an extension of this name is refused after extensions that say these values together. It begins at `place`, and
-- the OCTET STRING of its content at `inner`. A second of a name and a content that isn't of its form are kind 1 where
-- it begins. But an authorization list outside its grammar is kind 8 at the OCTET STRING (RFC 8226, section 9), and
-- constraints on claims outside theirs are kind 7 there (RFC 8226, section 8). Enhanced constraints on claims are kind
-- 7 where they begin (RFC 9118, section 4), and an extension outside the profile that is critical is kind 6.
abbrev pub IsRefusedBehind : ExtensionName → Values → ExtensionView → ℕ → ℕ → Fault → Type 0
IsRefusedBehind BasicConstraints values view place inner =
    IsSecondOr (BasicText view.value) (at_kind 1 place) values.basic (at_kind 1 place)
IsRefusedBehind KeyUsage values view place inner =
    IsSecondOr (UsageText view.value) (at_kind 1 place) values.usage (at_kind 1 place)
IsRefusedBehind SubjectKey values view place inner =
    IsSecondOr (SubjectKeyText view.value) (at_kind 1 place) values.subject_key (at_kind 1 place)
IsRefusedBehind AuthorityKey values view place inner =
    IsSecondOr (AuthorityText view.value) (at_kind 1 place) values.authority (at_kind 1 place)
IsRefusedBehind AuthorityList values view place inner =
    IsSecondOr (ListText view.value) (at_kind 8 inner) values.list (at_kind 1 place)
IsRefusedBehind ClaimConstraints values view place inner =
    IsSecondOr (ConstraintsText view.value) (at_kind 7 inner) values.constraints (at_kind 1 place)
IsRefusedBehind EnhancedConstraints values view place inner = λ fault. fault ≡ at_kind 7 place
IsRefusedBehind Unknown values view place inner = λ fault. (view.critical ≡ true) × (fault ≡ at_kind 6 place)

-- the element is an extension
abbrev pub IsExtension : ItemView → Type 0
IsExtension item = (view : ExtensionView) × ExtensionText item.whole view

-- it is refused after these; its OCTET STRING is its last part
pub record IsRefusedThere (values : Values) (item : ItemView) (fault : Fault) : Type 0 where
  pub view : ExtensionView
  pub text : ExtensionText item.whole view
  pub name : ExtensionName
  pub named : IsNamed view.oid name
  pub refused : IsRefusedBehind name values view item.place (item.place + (length item.whole - length text.value)) fault

-- an element that is no extension is kind 1 where it begins
abbrev pub WrongExtension : Values → ItemView → Fault → Type 0
WrongExtension values = Unless IsExtension 1 (IsRefusedThere values)

-- extensions that say something together
abbrev pub AreExtensions : List ℕ → Type 0
AreExtensions content = (values : Values) × ExtensionTexts content values

-- the extensions by their explicit tag [3]: one SEQUENCE and nothing after it, if anything is there
abbrev pub WrongExtensions : PartView → Fault → Type 0
WrongExtensions part fault = (1 ≤ length part.left) × First (Unless (IsTagged extensions_tag) 1 (λ marked. First
    (Unless (IsTagged sequence_tag) 1 (λ sequence. Through (WrongBehind ExtensionText Adds WrongExtension no_values)
    AreExtensions (AtEnd (LeftOver marked.behind) sequence.behind) sequence.content)) marked.content)) part fault
