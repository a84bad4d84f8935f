-- The two numbers that a call is judged by (RFC 8224, section 4.1; RFC 8946, section 4.2; ATIS-1000074, section 5.3.1).
use Rattle.std.specs.Prelude.{◌≡◌, ℕ, List, ◌∷◌, [], Option, Some, None}
use Rattle.sip_message.specs.Accessors.{asserted_number, from_number, target_number, to_number}
use Rattle.sip_message.specs.Message.{MessageView}
use Rattle.tn_values.specs.Local.{LocalView}
use Rattle.verify_rules.specs.Call.{Reading, called_by}
use Rattle.verify_rules.specs.declared.facts.Facts.{Facts}

-- rule 7 compares with the asserted number; if none is asserted, with From's
pub record IsCallingOf (message : MessageView) (local : LocalView) (calling : Option (List ℕ)) : Type 0 where
  pub asserted : (number : List ℕ) → asserted_number message local ≡ Some number → calling ≡ Some number
  pub from : ◌≡◌ {A = Option (List ℕ)} (asserted_number message local) None → calling ≡ from_number message local

-- by rule 8 a call without links goes to To's number, and one that was diverted to that of the request URI
pub record IsCalledOf (message : MessageView) (local : LocalView) (said : Facts) : Type 0 where
  pub without : called_by said [] ≡ to_number message local
  pub diverted : (link : Reading) (others : List Reading) → called_by said (link ∷ others) ≡ target_number message local
