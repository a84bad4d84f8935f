-- The telephone numbers of a message's header fields (RFC 3261, sections 20.20 and 20.39; RFC 3325, section 9.1; that
-- the asserted number goes before From's is this project's own rule).
use Rattle.std.specs.Prelude.{◌≡◌, ℕ, Bool, true, not, List, [], ◌∷◌, ◌++◌}
use Rattle.std.specs.List.{list_all}
use Rattle.tn_values.specs.Local.{LocalView}
use Rattle.sip_message.specs.Message.{FieldView, MessageView}
use Rattle.sip_message.specs.Names.{is_asserted, is_from}
use Rattle.sip_message.specs.Quoted.{IsAddress}
use Rattle.sip_message.specs.UriNumber.{GivesNumber}

-- the first field with such a name has this value
pub record IsFirst (test : List ℕ → Bool) (fields : List FieldView) (value : List ℕ) : Type 0 where
  pub earlier : List FieldView
  pub own : FieldView
  pub later : List FieldView
  pub parts : fields ≡ earlier ++ own ∷ later
  pub named : test own.name ≡ true
  pub none_before : list_all (λ (field : FieldView). not (test field.name)) earlier ≡ true
  pub value_is : value ≡ own.value

-- the URI of the value's first address gives this number
pub record AddressGives (value : List ℕ) (local : LocalView) (number : List ℕ) : Type 0 where
  pub uri : List ℕ
  pub address : IsAddress value uri
  pub gives : GivesNumber uri local number

-- the first field with such a name gives this number
pub record IsNumberOf (test : List ℕ → Bool) (fields : List FieldView) (local : LocalView)
    (number : List ℕ) : Type 0 where
  pub value : List ℕ
  pub first : IsFirst test fields value
  pub gives : AddressGives value local number

-- no field with such a name gives a number
abbrev pub NoneGives : (List ℕ → Bool) → LocalView → List FieldView → Type 0
NoneGives test local [] = Unit {0}
NoneGives test local (field ∷ others) = (test field.name ≡ true → (number : List ℕ)
    → AddressGives field.value local number → ⊥) × NoneGives test local others

-- the first field with such a name that gives a number gives this one
pub record IsFirstNumber (test : List ℕ → Bool) (fields : List FieldView) (local : LocalView)
    (number : List ℕ) : Type 0 where
  pub earlier : List FieldView
  pub own : FieldView
  pub later : List FieldView
  pub parts : fields ≡ earlier ++ own ∷ later
  pub none_before : NoneGives test local earlier
  pub named : test own.name ≡ true
  pub gives : AddressGives own.value local number

-- the calling number: the asserted one; if none is asserted, From's
pub data IsCalling (message : MessageView) (local : LocalView) (number : List ℕ) : Type 0 where
  asserted : IsFirstNumber is_asserted message.fields local number → IsCalling message local number
  from : ((other : List ℕ) → IsFirstNumber is_asserted message.fields local other → ⊥)
      → IsNumberOf is_from message.fields local number → IsCalling message local number
