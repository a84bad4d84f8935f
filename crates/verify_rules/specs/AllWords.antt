-- All rules but the one on replay in their own words: what a verdict over a world says of each.
use Rattle.std.specs.Prelude.{◌≡◌, ℕ, List, None, Result, Ok, Err}
use Rattle.verify_rules.specs.Call.{Call}
use Rattle.verify_rules.specs.LatePlaces.{SpeaksOfLatePlace}
use Rattle.verify_rules.specs.LateWords.{SaysLateWords}
use Rattle.verify_rules.specs.Places.{SpeaksOfPlace}
use Rattle.verify_rules.specs.Rules.{early_rules, first}
use Rattle.verify_rules.specs.Screened.{ScreenedView, screened_of}
use Rattle.verify_rules.specs.Words.{SaysWords}
use Rattle.verify_rules.specs.World.{World}
use Rattle.verify_rules.specs.declared.refusal.ScreenFault.{ScreenFault}
use Rattle.verify_rules.specs.declared.refusal.ScreenFault.TheVariants as answers
use Rattle.verify_rules.specs.declared.verdict.Verdict.{Verdict}
use Rattle.verify_rules.specs.declared.verdict.Verdict.TheVariants.{Passed, Refused, Unread, Unasked}

-- what a verdict tells of the rules of the call: a call that it refuses is refused, by whichever rule, and any other is
-- screened
abbrev pub early_answer : Call → Verdict → Result ScreenedView ScreenFault
early_answer call Passed = Ok (screened_of call)
early_answer call (Refused refused) = Err (answers.Refused refused)
early_answer call (Unread bad) = Ok (screened_of call)
early_answer call (Unasked bad) = Ok (screened_of call)

-- each of the rules of the call; and each of the rules of the chains, of a call that breaks none of those
pub record SaysRules (world : World) (bytes : List ℕ) (call : Call) (verdict : Verdict) : Type 0 where
  pub early : SaysWords bytes call (early_answer call verdict)
  pub late : first early_rules call ≡ None → SaysLateWords world call verdict
  -- and where the one is broken that refuses the call
  pub early_place : SpeaksOfPlace bytes call (early_answer call verdict)
  pub late_place : first early_rules call ≡ None → SpeaksOfLatePlace world call verdict
