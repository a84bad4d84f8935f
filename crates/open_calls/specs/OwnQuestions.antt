-- What is asked for the PASSporTs of a call by themselves, over what is known of their chains.
use Rattle.std.specs.Prelude.{◌≡◌, ⊤, nat_lt, Bool, true, false, ◌&&◌, List, [], ◌∷◌, ◌++◌, is_none, Option, Some, None}
use Rattle.std.specs.Prelude.{if◌then◌else◌}
use Rattle.std.specs.Option.{option_map}
use Rattle.cert_store.specs.Rules.{QuestionView, Says, is_good}
use Rattle.call_judging.specs.AlwaysYes.{always_yes}
use Rattle.call_judging.specs.CallQuestions.{chains_questions, own_questions}
use Rattle.delegation.specs.Coverage.{Table}
use Rattle.verify_rules.specs.Call.{Call, in_call_order}
use Rattle.verify_rules.specs.Late.{first_event}
use Rattle.verify_rules.specs.Rules.{early_rules, first}
use Rattle.verify_rules.specs.States.{State}
use Rattle.verify_rules.specs.Verdict.{verdict_of}
use Rattle.verify_rules.specs.declared.verdict.Verdict.{Verdict}
use Rattle.verify_rules.specs.declared.verdict.Verdict.TheVariants as verdicts

-- nothing comes first, or a rule after the 15th does: rule 16 asks for the PASSporTs' own signatures
abbrev pub is_late : Option Verdict → Bool
is_late None = true
is_late (Some verdicts.Passed) = true
is_late (Some (verdicts.Refused refused)) = nat_lt 15 refused.rule
is_late (Some (verdicts.Unread bad)) = false
is_late (Some (verdicts.Unasked bad)) = false

-- none of rules 1 to 15 is broken
abbrev pub asks_own : Table → List State → Call → Bool
asks_own table states call = is_none (first early_rules call)
    && is_late (option_map verdict_of (first_event always_yes table call.moment (in_call_order call) states))

-- the questions for these signatures under the keys of the leaves, in the order in which the call went; none if an
-- earlier rule refuses
abbrev pub own_asked : Table → List State → Call → List QuestionView
own_asked table states call = if asks_own table states call then own_questions (in_call_order call) states else []

-- all that is asked: for the chains, and for the PASSporTs by themselves
abbrev pub all_asked : Table → List State → Call → List QuestionView
all_asked table states call = chains_questions states ++ own_asked table states call

-- a provider confirms each of these
abbrev pub Confirms : Says → List QuestionView → Type 0
Confirms says [] = ⊤
Confirms says (asked ∷ others) = (is_good says asked ≡ true) × Confirms says others
