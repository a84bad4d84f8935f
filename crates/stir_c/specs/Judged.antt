-- What is said of a call.
use Rattle.std.specs.Prelude.{◌≡◌, ◌⊎◌, ℕ, ◌<◌, ◌≤◌, List, length, Option, Some, None}
use Rattle.cert_store.specs.Rules.{QuestionView, Says}
use Rattle.open_calls.specs.Confirmed.{confirmed, says_by}
use Rattle.call_judging.specs.Explain.{explained}
use Rattle.open_calls.specs.Claims.{claims_lines}
use Rattle.open_calls.specs.Founds.{IsFoundEarly, IsFoundOver, finding_of}
use Rattle.open_calls.specs.OpenCalls.{CallView, call_in, judged_in}
use Rattle.open_calls.specs.OpenChains.{AreGiven, ChainView, GivenChain, states_of}
use Rattle.open_calls.specs.OwnQuestions.{Confirms, own_asked}
use Rattle.open_calls.specs.Rightness.{IsWorldFor}
use Rattle.open_calls.specs.declared.found.Found.{Found}
use Rattle.stir_c.specs.Handles.{with_chain}
use Rattle.stir_c.specs.Holding.{HeldCallView}
use Rattle.stir_c.specs.QuestionBytes.{questions_bytes}
use Rattle.stir_c.specs.Saying.{ToldBeside, said_found}
use Rattle.stir_c.specs.Told.{plain}
use Rattle.stir_c.specs.declared.said.Said.{Said}

-- ---- by the rules of the call

-- What is found of it by these rules is said, and how many PASSporTs are judged.
pub record IsEarlyTold (call : CallView) (said : Said) : Type 0 where
  pub found : Found
  pub early : IsFoundEarly (call_in call) found
  pub told_is : said ≡ said_found found (length (judged_in call))

-- the same, and what its PASSporTs say is written beside it
pub record AreClaimsTold (call : CallView) (before now : List ℕ) (said : Said) : Type 0 where
  pub found : Found
  pub early : IsFoundEarly (call_in call) found
  pub told_is : ToldBeside (claims_lines (judged_in call)) found before now said

-- ---- by all rules, over its chains

-- what is asked for its PASSporTs by themselves
abbrev pub own_of : HeldCallView → List QuestionView
own_of held = own_asked held.world.table (states_of held.chains) (call_in held.call)

-- by a provider this is found of it
abbrev pub IsFoundOf : Says → HeldCallView → Found → Type 0
IsFoundOf says held found = IsFoundOver says held.world.table (states_of held.chains) (call_in held.call) found

-- who confirms those of its own questions that were confirmed, and nothing else
abbrev pub says_of : HeldCallView → List ℕ → Says
says_of held good = says_by (confirmed (own_of held) good)

-- What is found of it if these of its own questions are confirmed is said.
pub record IsJudged (held : HeldCallView) (good : List ℕ) (said : Said) : Type 0 where
  pub found : Found
  pub over : IsFoundOf (says_of held good) held found
  pub told_is : said ≡ said_found found 0

-- the same, and the lines that explain it under this number are written beside it
pub record IsExplained (held : HeldCallView) (number : ℕ) (good before now : List ℕ) (said : Said) : Type 0 where
  pub found : Found
  pub over : IsFoundOf (says_of held good) held found
  pub told_is : ToldBeside (explained number (finding_of found)) found before now said

-- Its own questions are written, and what is found of it by whoever confirms all of them is said.
pub record IsAsked (held : HeldCallView) (before now : List ℕ) (said : Said) : Type 0 where
  pub found : Found
  pub over : (says : Says) → Confirms says (own_of held) → IsFoundOf says held found
  pub told_is : ToldBeside (questions_bytes (own_of held)) found before now said

-- ---- its chains

-- The chain is in its place; or there is no such place, and nothing changes.
abbrev pub IsPut : ℕ → Option ChainView → Option HeldCallView → Option HeldCallView → Said → Type 0
IsPut index given None now said = ⊥
IsPut index given (Some held) now said =
    ((index < length (judged_in held.call)) × (now ≡ Some (with_chain index given held)) × (said ≡ plain 0 0))
    ⊎ ((length (judged_in held.call) ≤ index) × (now ≡ Some held) × (said ≡ plain 6 0))
