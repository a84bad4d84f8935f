-- The numbers that a call is judged by are those of its message.
use Rattle.std.proofs.Common.{◌≡◌, ℕ, List, Option, Result, Ok, refl, sym, ap, subst}
use Rattle.sip_message.specs.Accessors.{from_number}
use Rattle.sip_message.specs.Address.{or_else}
use Rattle.sip_message.specs.Message.{MessageView}
use Rattle.sip_message.specs.declared.fault.FormFault.{FormFault}
use Rattle.tn_values.specs.Local.{LocalView}
use Rattle.verify_rules.specs.Call.{facts_in, facts_of}
use Rattle.verify_rules.specs.Numbers.{IsCalledOf, IsCallingOf}

calling_of : (local : LocalView) (message : MessageView) → IsCallingOf message local (facts_of local message).calling
calling_of local message = record {
  asserted = λ number is. ap (λ (x : Option (List ℕ)). or_else x (from_number message local)) is;
  from = λ none. ap (λ (x : Option (List ℕ)). or_else x (from_number message local)) none;
}

called_of : (local : LocalView) (message : MessageView) → IsCalledOf message local (facts_of local message)
called_of local message = record { without = refl; diverted = λ link others. refl }

pub calling_in : (local : LocalView) (result : Result MessageView FormFault) (message : MessageView) → result ≡ Ok message → IsCallingOf message local (facts_in local result).calling
calling_in local result message is = subst (λ (r : Result MessageView FormFault). IsCallingOf message local (facts_in local r).calling) (sym is) (calling_of local message)

pub called_in : (local : LocalView) (result : Result MessageView FormFault) (message : MessageView) → result ≡ Ok message → IsCalledOf message local (facts_in local result)
called_in local result message is = subst (λ (r : Result MessageView FormFault). IsCalledOf message local (facts_in local r)) (sym is) (called_of local message)
