-- What is asked of a message: its method, its Identity values and its telephone numbers.
use Rattle.std.specs.Prelude.{ℕ, Bool, List, [], ◌∷◌, map, filter, Option, Some, None, codes, option_and_then}
use Rattle.std.specs.List.{filter_map}
use Rattle.std.specs.Str.{bytes_eq}
use Rattle.httpdate.specs.Date.{parse_secs}
use Rattle.tn_values.specs.Local.{LocalView}
use Rattle.sip_message.specs.Address.{address_number, or_else, uri_number}
use Rattle.sip_message.specs.Message.{FieldView, MessageView}
use Rattle.sip_message.specs.Names.{is_asserted, is_date, is_from, is_identity, is_to}

abbrev pub first : {X : Type 0} → List X → Option X
first [] = None
first (x ∷ others) = Some x

-- the values of the fields whose name passes, in message order
abbrev pub values : (List ℕ → Bool) → List FieldView → List (List ℕ)
values test fields = map (λ (field : FieldView). field.value) (filter (λ (field : FieldView). test field.name) fields)

-- the method is INVITE, byte for byte
abbrev pub is_invite : MessageView → Bool
is_invite message = bytes_eq message.method (codes "INVITE")

-- the values of the Identity fields, in message order
abbrev pub identities : MessageView → List (List ℕ)
identities message = values is_identity message.fields

abbrev pub number_in : LocalView → List ℕ → Option (List ℕ)
number_in local value = address_number value local

-- the number of the first field whose name passes
abbrev pub number_of : (List ℕ → Bool) → List FieldView → LocalView → Option (List ℕ)
number_of test fields local = option_and_then (number_in local) (first (values test fields))

abbrev pub from_number : MessageView → LocalView → Option (List ℕ)
from_number message local = number_of is_from message.fields local

abbrev pub to_number : MessageView → LocalView → Option (List ℕ)
to_number message local = number_of is_to message.fields local

-- the number of the request URI
abbrev pub target_number : MessageView → LocalView → Option (List ℕ)
target_number message local = uri_number message.uri local

-- the number of the first P-Asserted-Identity field that gives one
abbrev pub asserted_number : MessageView → LocalView → Option (List ℕ)
asserted_number message local = first (filter_map (number_in local) (values is_asserted message.fields))

-- the calling number: the asserted one, or else that of From
abbrev pub calling_number : MessageView → LocalView → Option (List ℕ)
calling_number message local = or_else (asserted_number message local) (from_number message local)

-- the time of the first field whose name passes
abbrev pub time_of : (List ℕ → Bool) → List FieldView → Option ℕ
time_of test fields = option_and_then parse_secs (first (values test fields))

-- the time of the first Date field, in Unix seconds (RFC 3261, section 20.17; the forms of RFC 9110, section 5.6.7)
abbrev pub date : MessageView → Option ℕ
date message = time_of is_date message.fields
