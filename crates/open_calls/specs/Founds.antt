-- What comes of a call by all rules but the one on replay, if nothing is left open.
use Rattle.std.specs.Prelude.{◌≡◌, ⊤, ◌⊎◌, nat_lt, Bool, true, List, Some, None}
use Rattle.cert_store.specs.Rules.{Says}
use Rattle.delegation.specs.Coverage.{Table}
use Rattle.verify_rules.specs.Call.{Call, in_call_order}
use Rattle.verify_rules.specs.Rules.{early_rules, first}
use Rattle.verify_rules.specs.States.{State}
use Rattle.verify_rules.specs.Verdict.{IsVerdict}
use Rattle.verify_rules.specs.World.{First, World}
use Rattle.verify_rules.specs.declared.verdict.Verdict.{Verdict}
use Rattle.verify_rules.specs.declared.verdict.Verdict.TheVariants as verdicts
use Rattle.call_judging.specs.Judging.{IsKnownBy}
use Rattle.call_judging.specs.declared.finding.Finding.{Finding}
use Rattle.call_judging.specs.declared.finding.Finding.TheVariants as findings
use Rattle.open_calls.specs.declared.found.Found.{Found}
use Rattle.open_calls.specs.declared.found.Found.TheVariants.{Refused, Passes}

-- In a world it breaks this rule first; or none, and is known again by this ticket up to this second.
abbrev pub IsFound : World → Call → Found → Type 0
IsFound world call (Refused refused) = First world call ≡ Some refused
IsFound world call (Passes pass) = (First world call ≡ None) × IsKnownBy call pass.ticket pass.last

-- by the rules of the call alone
abbrev pub IsFoundEarly : Call → Found → Type 0
IsFoundEarly call (Refused refused) = first early_rules call ≡ Some refused
IsFoundEarly call (Passes pass) = (first early_rules call ≡ None) × IsKnownBy call pass.ticket pass.last

-- by a provider, over what is known of the chains of its PASSporTs: refused by the rules of the call, or else by the
-- rules of the chains (RFC 8224, section 6.2)
abbrev pub IsFoundOver : Says → Table → List State → Call → Found → Type 0
IsFoundOver says table states call (Refused refused) =
    (first early_rules call ≡ Some refused) ⊎ ((first early_rules call ≡ None)
    × IsVerdict says table call.moment (in_call_order call) states 0 0 (verdicts.Refused refused))
IsFoundOver says table states call (Passes pass) = (first early_rules call ≡ None) × IsVerdict says table call.moment
    (in_call_order call) states 0 0 verdicts.Passed × IsKnownBy call pass.ticket pass.last

-- what was found of a call, for whoever explains it
abbrev pub finding_of : Found → Finding
finding_of (Refused refused) = findings.Refused refused
finding_of (Passes pass) = findings.Passes pass

-- ---- from a verdict

-- nothing is left open
abbrev pub IsDecided : Verdict → Type 0
IsDecided verdicts.Passed = ⊤
IsDecided (verdicts.Refused refused) = ⊤
IsDecided (verdicts.Unread bad) = ⊥
IsDecided (verdicts.Unasked bad) = ⊥

-- ---- what is asked

-- it passes, or a rule after the 15th refuses it: rule 16 asks for the PASSporTs' own signatures
abbrev pub asks_by : Found → Bool
asks_by (Refused refused) = nat_lt 15 refused.rule
asks_by (Passes pass) = true
