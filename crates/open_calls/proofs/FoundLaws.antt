-- What is explained of what comes of a call.
use Rattle.std.proofs.Common.{◌≡◌, ℕ, List, Some, None, sym, ◌∙◌}
use Rattle.verify_rules.specs.Call.{Call}
use Rattle.verify_rules.specs.World.{First, World}
use Rattle.verify_rules.specs.declared.refusal.Refusal.{Refusal}
use Rattle.call_judging.specs.Explain.{Explain, broken_text, explained, met_text}
use Rattle.open_calls.specs.Founds.{IsFound, finding_of}
use Rattle.open_calls.specs.declared.found.Found.{Found}
use Rattle.open_calls.specs.declared.found.Found.TheVariants.{Refused, Passes}

pub explains : ((world : World) (number : ℕ) (call : Call) → First world call ≡ None → Explain world number call ≡ met_text number)
    → ((world : World) (number : ℕ) (call : Call) (refused : Refusal) → First world call ≡ Some refused → Explain world number call ≡ broken_text number refused)
    → (found : Found) (number : ℕ) (text : List ℕ) (world : World) (call : Call) → text ≡ explained number (finding_of found) → IsFound world call found → text ≡ Explain world number call
explains met broken (Refused refused) number text world call is so = is ∙ sym (broken world number call refused so)
explains met broken (Passes pass) number text world call is so = is ∙ sym (met world number call so.0)
