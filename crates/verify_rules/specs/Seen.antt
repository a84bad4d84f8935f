-- The code's views, as the definitions speak of them, and what each step of the rules gives.
use Rattle.std.specs.Prelude.{Bool, nat_eq, codes, if◌then◌else◌, ◌≡◌, ⊤, ℕ, ◌+◌, ◌≤◌, List, [], ◌∷◌, ◌++◌, length, map}
use Rattle.std.specs.Prelude.{take, drop, Some, None, Result, Ok, Err}
use Rattle.std.specs.List.{starts_with}
use Rattle.identity_header.specs.Parts.{Parts}
use Rattle.identity_header.specs.declared.field.FieldFault.{FieldFault}
use Rattle.passport_claims.specs.Links.{IsLink}
use Rattle.passport_claims.specs.declared.order.Order.{Order}
use Rattle.verify_rules.specs.Call.{IdentityField, Reading, links, numbered, readings_of, turn_of}
use Rattle.verify_rules.specs.Rules.{bad_field, each, no_order, place, unreadable}
use Rattle.verify_rules.specs.Screened.{IsTurned, judged_seen}
use Rattle.verify_rules.specs.declared.facts.Facts.{Facts}
use Rattle.verify_rules.specs.declared.identity_field.NumberedField.{NumberedField}
use Rattle.verify_rules.specs.declared.judged_passport.JudgedPassport.{JudgedPassport}
use Rattle.verify_rules.specs.declared.refusal.Place.{Place}
use Rattle.verify_rules.specs.declared.refusal.Stop.{Stop}
use Rattle.verify_rules.specs.declared.refusal.Stop.TheVariants.{Broken, Memory}

abbrev pub field_seen : NumberedField → IdentityField
field_seen field = record { number = field.number; parts = field.parts }

-- ---- the Identity fields

-- the field with this number; or where its value stops being one
abbrev pub GivesField : ℕ → Result NumberedField Place → Result Parts FieldFault → Type 0
GivesField number (Ok field) read = (read ≡ Ok field.parts) × (field.number ≡ number)
GivesField number (Err bad) read = (stop : FieldFault) × (read ≡ Err stop) × (bad ≡ place number stop.place)

-- these are the numbered fields of all values, none of which is bad; or this is the first that is
abbrev pub AreFields : {X : Type 0} → (X → List IdentityField) → List (List ℕ) → Result X Stop → Type 0
AreFields seen values (Ok fields) = (bad_field 1 values ≡ None) × (seen fields ≡ numbered 1 values)
AreFields seen values (Err (Broken bad)) = bad_field 1 values ≡ Some bad
AreFields seen values (Err Memory) = ⊤

-- of the values up to here none is bad, and these are their fields
pub record SoFar (values : List (List ℕ)) (i : ℕ) (fields : List IdentityField) : Type 0 where
  pub good : bad_field (i + 1) (drop i values) ≡ bad_field 1 values
  pub all : fields ++ numbered (i + 1) (drop i values) ≡ numbered 1 values

-- ---- what the message says

-- the field's text is a token in its compact form, which leaves its Date to the message (RFC 8225, section 7)
abbrev pub is_compact : IdentityField → Bool
is_compact field = starts_with nat_eq field.parts.token (codes "..")

-- what a message says, its Date only if it is asked for
abbrev pub facts_asked : Bool → Facts → Facts
facts_asked asked full =
    record { date = if asked then full.date else None; calling = full.calling; to = full.to; target = full.target }

-- these facts serve these fields as well as those do
pub record Serves (said full : Facts) (fields : List IdentityField) : Type 0 where
  pub calling : said.calling ≡ full.calling
  pub to : said.to ≡ full.to
  pub target : said.target ≡ full.target
  pub unreadable : each (unreadable said) fields ≡ each (unreadable full) fields
  pub readings : readings_of said fields ≡ readings_of full fields

-- ---- the PASSporTs

-- the PASSporT of the field with this number is read; or it is broken there
abbrev pub GivesReading : ℕ → Result JudgedPassport Stop → Result Reading ℕ → Type 0
GivesReading number (Ok one) read = read ≡ Ok (judged_seen one)
GivesReading number (Err (Broken bad)) read = (part : ℕ) × (read ≡ Err part) × (bad ≡ place number part)
GivesReading number (Err Memory) read = ⊤

-- all are links
abbrev pub AreLinks : List Reading → Type 0
AreLinks [] = ⊤
AreLinks (one ∷ others) = IsLink one.passport × AreLinks others

-- all after the first are links
abbrev pub IsChainable : List Reading → Type 0
IsChainable [] = ⊤
IsChainable (origin ∷ others) = AreLinks others

-- these are the PASSporTs of the fields, all of which can be read; or this is the first that can't
abbrev pub AreReadings : Facts → List IdentityField → Result (List Reading) Stop → Type 0
AreReadings said fields (Ok readings) = (each (unreadable said) fields ≡ None) × (readings ≡ readings_of said fields)
AreReadings said fields (Err (Broken bad)) = each (unreadable said) fields ≡ Some bad
AreReadings said fields (Err Memory) = ⊤

-- the originating field and the links up to here can be read, and these are their PASSporTs
pub record ReadSoFar (said : Facts) (origin : IdentityField) (fields : List NumberedField) (i : ℕ)
    (so_far : List Reading) : Type 0 where
  pub first : unreadable said origin ≡ None
  pub good : each (unreadable said) (links (map field_seen (drop i fields)))
      ≡ each (unreadable said) (links (map field_seen fields))
  pub all : so_far ++ readings_of said (links (map field_seen (drop i fields)))
      ≡ readings_of said (origin ∷ links (map field_seen fields))
  pub kept : IsChainable so_far
  pub some : 1 ≤ length so_far

-- ---- the order

-- the order of the PASSporTs; or where they have none
abbrev pub GivesOrder : Facts → List Reading → Result Order Place → Type 0
GivesOrder said readings (Ok order) =
    (turn_of said readings ≡ Ok (take order.length order.turn)) × IsTurned readings order.length order.turn
GivesOrder said readings (Err bad) = no_order readings (turn_of said readings) ≡ Some bad
