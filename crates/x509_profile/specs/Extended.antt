-- The extensions of a certificate of the profile, as texts, and what they say (RFC 5280, section 4.2).
use Rattle.std.specs.Prelude.{◌≡◌, ◌⊎◌, ℕ, false, List, [], ◌++◌, Option, Some, None, Ok}
use Rattle.std.specs.Option.{option_map}
use Rattle.claim_constraints.specs.Constraints.{ConstraintsView}
use Rattle.claim_constraints.specs.ConstraintsText.{ConstraintsText}
use Rattle.der_reader.specs.BitString.{flags_of}
use Rattle.der_reader.specs.Each.{ComeTo, OneAfterAnother}
use Rattle.der_reader.specs.Elem.{Elem, Element, MayBeginWith}
use Rattle.der_reader.specs.Optional.{IsFlag, IsLimit}
use Rattle.der_reader.specs.Tags.{boolean_tag, integer_tag, bit_string_tag, octet_string_tag, object_identifier_tag}
use Rattle.der_reader.specs.Tags.{sequence_tag}
use Rattle.tn_auth_list.specs.declared.entries.Entry.{Entry}
use Rattle.tn_auth_list.specs.ListText.{ListText}
use Rattle.x509_profile.specs.ExtensionId.{ExtensionName, BasicConstraints, KeyUsage, SubjectKey, AuthorityKey}
use Rattle.x509_profile.specs.ExtensionId.{AuthorityList, ClaimConstraints, EnhancedConstraints, Unknown, IsNamed}
use Rattle.x509_profile.specs.View.{BasicView, ExtensionView, Values, no_values}

-- basicConstraints: a SEQUENCE of cA and the path length, either of which may be absent (section 4.2.1.9)
pub record BasicText (value : List ℕ) (basic : BasicView) : Type 0 where
  pub content : List ℕ
  pub flag : Option Element
  pub behind : List ℕ
  pub limit : Option Element
  pub elem : Elem value sequence_tag content
  pub first : MayBeginWith boolean_tag content flag behind
  pub second : MayBeginWith integer_tag behind limit []
  pub is_ca : IsFlag flag basic.is_ca
  pub path_length : IsLimit limit basic.path_length

-- keyUsage: a BIT STRING of at most 16 bits (section 4.2.1.3)
pub record UsageText (value : List ℕ) (usage : ℕ) : Type 0 where
  pub content : List ℕ
  pub elem : Elem value bit_string_tag content
  pub flags : flags_of bit_string_tag content ≡ Ok usage

-- the tag [0] of the key identifier in an authority key identifier
abbrev pub key_identifier_tag : ℕ
key_identifier_tag = 0x80

-- authorityKeyIdentifier: a SEQUENCE, which may begin with the key identifier; what follows is passed over (section
-- 4.2.1.1)
pub record AuthorityText (value : List ℕ) (key : Option (List ℕ)) : Type 0 where
  pub content : List ℕ
  pub identifier : Option Element
  pub passed_over : List ℕ
  pub elem : Elem value sequence_tag content
  pub first : MayBeginWith key_identifier_tag content identifier passed_over
  pub says : key ≡ option_map (λ identifier. identifier.content) identifier

-- an extension: a SEQUENCE of its OID, whether it is critical, and the OCTET STRING of its content (section 4.1)
pub record ExtensionText (text : List ℕ) (extension : ExtensionView) : Type 0 where
  pub oid : List ℕ
  pub behind : List ℕ
  pub flag : Option Element
  pub value : List ℕ
  pub elem : Elem text sequence_tag (oid ++ behind)
  pub named : Elem oid object_identifier_tag extension.oid
  pub second : MayBeginWith boolean_tag behind flag value
  pub critical : IsFlag flag extension.critical
  pub content : Elem value octet_string_tag extension.value

-- subjectKeyIdentifier: an OCTET STRING (section 4.2.1.2)
pub record SubjectKeyText (value : List ℕ) (key : List ℕ) : Type 0 where
  pub elem : Elem value octet_string_tag key

-- What one more extension adds to what those before it say, by its name. An extension of the profile comes once, and
-- its content says something. The enhanced constraints on claims may not come (RFC 9118, section 4), and another
-- extension is passed over, if it isn't critical.
abbrev pub AddsAs : ExtensionName → Values → ExtensionView → Values → Type 0
AddsAs BasicConstraints before view values = (before.basic ≡ None) × (basic : BasicView) × BasicText view.value basic
    × (values ≡ record before { basic = Some basic })
AddsAs KeyUsage before view values =
    (before.usage ≡ None) × (usage : ℕ) × UsageText view.value usage × (values ≡ record before { usage = Some usage })
AddsAs SubjectKey before view values = (before.subject_key ≡ None) × (key : List ℕ) × SubjectKeyText view.value key
    × (values ≡ record before { subject_key = Some key })
AddsAs AuthorityKey before view values = (before.authority ≡ None) × (key : Option (List ℕ))
    × AuthorityText view.value key × (values ≡ record before { authority = Some key })
-- the telephone number authorization list (RFC 8226, section 9)
AddsAs AuthorityList before view values = (before.list ≡ None) × (list : List Entry) × ListText view.value list
    × (values ≡ record before { list = Some list })
-- the constraints on claims (RFC 8226, section 8), in this project's own form
AddsAs ClaimConstraints before view values = (before.constraints ≡ None) × (constraints : ConstraintsView)
    × ConstraintsText view.value constraints × (values ≡ record before { constraints = Some constraints })
AddsAs EnhancedConstraints before view values = ⊥
AddsAs Unknown before view values = (view.critical ≡ false) × (values ≡ before)

abbrev pub Adds : Values → ExtensionView → Values → Type 0
Adds before view values = (name : ExtensionName) × IsNamed view.oid name × AddsAs name before view values

-- the extensions come one after another, and say this together
pub record ExtensionTexts (text : List ℕ) (values : Values) : Type 0 where
  pub extensions : List ExtensionView
  pub each : OneAfterAnother ExtensionText extensions text
  pub say : ComeTo Adds no_values extensions values

-- the explicit tag [3] of the extensions
abbrev pub extensions_tag : ℕ
extensions_tag = 0xA3

-- the extensions by their tag: a SEQUENCE of extensions
pub record MarkedText (text : List ℕ) (values : Values) : Type 0 where
  pub inner : List ℕ
  pub content : List ℕ
  pub marked : Elem text extensions_tag inner
  pub sequence : Elem inner sequence_tag content
  pub each : ExtensionTexts content values

-- the extensions, which may be absent
abbrev pub ExtensionsText : List ℕ → Values → Type 0
ExtensionsText text values = ((text ≡ []) × (values ≡ no_values)) ⊎ MarkedText text values
