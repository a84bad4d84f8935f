-- What a provider answers for the signatures of a call's PASSporTs, as far as it answers.
use Rattle.std.specs.Prelude.{◌≡◌, ℕ, List, Option, Result, Ok, Err}
use Rattle.stir_outside.specs.Count.{Rose}
use Rattle.cert_store.specs.Rules.{Says}
use Rattle.verify_rules.specs.Call.{Reading}
use Rattle.verify_rules.specs.Late.{asking}
use Rattle.verify_rules.specs.States.{State}
use Rattle.verify_rules.specs.Verdict.{IsOpenAt}
use Rattle.verify_rules.specs.declared.late.Event.{Event}
use Rattle.verify_rules.specs.declared.refusal.Place.{Place}

-- what rule 16 makes of them; or a question failed
abbrev pub IsAsked : Says → List Reading → List State → ℕ → ℕ → Result (Option Event) Place → Type 0
IsAsked says readings states faults faults_now (Ok event) = event ≡ asking says readings states
IsAsked says readings states faults faults_now (Err bad) = Rose faults faults_now × IsOpenAt says readings states bad
