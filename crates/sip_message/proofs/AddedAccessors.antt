-- What is asked of a message with one more field after its own.
use Rattle.std.proofs.Common.{◌≡◌, ℕ, Bool, true, false, List, [], ◌∷◌, ◌++◌, refl, ap, ◌∙◌}
use Rattle.std.specs.List.{filter_map}
use Rattle.std.specs.Prelude.{option_and_then}
use Rattle.httpdate.specs.Date.{parse_secs}
use Rattle.tn_values.specs.Local.{LocalView}
use Rattle.sip_message.specs.Accessors.{asserted_number, calling_number, date, first, from_number, identities, number_in, number_of, to_number, values}
use Rattle.sip_message.specs.Added.{with_last}
use Rattle.sip_message.specs.Address.{or_else}
use Rattle.sip_message.specs.Message.{FieldView, MessageView}
use Rattle.sip_message.specs.Names.{is_asserted, is_date, is_from, is_identity, is_to}

abbrev named : List ℕ → List ℕ → FieldView
named name value = record { name = name; value = value }

more_by : (test : List ℕ → Bool) (field : FieldView) (others : List FieldView) (name value : List ℕ) (t : Bool) → test field.name ≡ t
    → values test (others ++ named name value ∷ []) ≡ values test others ++ value ∷ []
    → values test (field ∷ (others ++ named name value ∷ [])) ≡ values test (field ∷ others) ++ value ∷ []
more_by test field others name value true e below = rw e (ap (λ (x : List (List ℕ)). field.value ∷ x) below)
more_by test field others name value false e below = rw e below

-- a field of such a name has its value after those of the others
pub values_more : (test : List ℕ → Bool) (fields : List FieldView) (name value : List ℕ) → test name ≡ true
    → values test (fields ++ named name value ∷ []) ≡ values test fields ++ value ∷ []
values_more test [] name value e = rw e refl
values_more test (field ∷ others) name value e = more_by test field others name value (test field.name) refl (values_more test others name value e)

same_by : (test : List ℕ → Bool) (field : FieldView) (others : List FieldView) (name value : List ℕ) (t : Bool) → test field.name ≡ t
    → values test (others ++ named name value ∷ []) ≡ values test others → values test (field ∷ (others ++ named name value ∷ [])) ≡ values test (field ∷ others)
same_by test field others name value true e below = rw e (ap (λ (x : List (List ℕ)). field.value ∷ x) below)
same_by test field others name value false e below = rw e below

-- a field of another name changes none of them
pub values_same : (test : List ℕ → Bool) (fields : List FieldView) (name value : List ℕ) → test name ≡ false → values test (fields ++ named name value ∷ []) ≡ values test fields
values_same test [] name value e = rw e refl
values_same test (field ∷ others) name value e = same_by test field others name value (test field.name) refl (values_same test others name value e)

number_same : (test : List ℕ → Bool) (fields : List FieldView) (name value : List ℕ) (local : LocalView) → test name ≡ false
    → number_of test (fields ++ named name value ∷ []) local ≡ number_of test fields local
number_same test fields name value local e = ap (λ (x : List (List ℕ)). option_and_then (number_in local) (first x)) (values_same test fields name value e)

pub identities_more : (message : MessageView) (name value : List ℕ) → is_identity name ≡ true → identities (with_last message name value) ≡ identities message ++ value ∷ []
identities_more message name value e = values_more is_identity message.fields name value e

pub date_same : (message : MessageView) (name value : List ℕ) → is_date name ≡ false → date (with_last message name value) ≡ date message
date_same message name value e = ap (λ (x : List (List ℕ)). option_and_then parse_secs (first x)) (values_same is_date message.fields name value e)

asserted_same : (message : MessageView) (name value : List ℕ) (local : LocalView) → is_asserted name ≡ false → asserted_number (with_last message name value) local ≡ asserted_number message local
asserted_same message name value local e = ap (λ (x : List (List ℕ)). first (filter_map (number_in local) x)) (values_same is_asserted message.fields name value e)

pub calling_same : (message : MessageView) (name value : List ℕ) (local : LocalView) → is_asserted name ≡ false → is_from name ≡ false
    → calling_number (with_last message name value) local ≡ calling_number message local
calling_same message name value local a f =
    ap (λ x. or_else x (from_number (with_last message name value) local)) (asserted_same message name value local a)
    ∙ ap (λ x. or_else (asserted_number message local) x) (number_same is_from message.fields name value local f)

pub to_same : (message : MessageView) (name value : List ℕ) (local : LocalView) → is_to name ≡ false → to_number (with_last message name value) local ≡ to_number message local
to_same message name value local e = number_same is_to message.fields name value local e
