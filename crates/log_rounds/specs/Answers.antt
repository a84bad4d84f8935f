-- What may be answered to a call of a log.
use Rattle.call_log.specs.Entry.{Entry}
use Rattle.verify_rules.specs.AllWords.{SaysRules}
use Rattle.verify_rules.specs.World.{World}
use Rattle.verify_rules.specs.declared.settings.Settings.{Settings}
use Rattle.verify_rules.specs.declared.verdict.Verdict.{Verdict}
use Rattle.verify_rules.specs.declared.verdict.Verdict.TheVariants as verdicts
use Rattle.verify_service.specs.Judging.{IsJudged, call_in}
use Rattle.verify_service.specs.declared.outcome.Outcome.{Outcome}
use Rattle.verify_service.specs.declared.outcome.Outcome.TheVariants.{Valid, Refused, Replay, Unread, Unasked}

-- as the rules of a call say of it: a call that is a replay breaks none of them
abbrev pub verdict_of : Outcome → Verdict
verdict_of Valid = verdicts.Passed
verdict_of (Refused refused) = verdicts.Refused refused
verdict_of (Replay winner) = verdicts.Passed
verdict_of (Unread bad) = verdicts.Unread bad
verdict_of (Unasked bad) = verdicts.Unasked bad

-- What is answered to a call is the first rule that it breaks in this world, if it breaks one, and it is set aside only
-- if it may be; and of each rule this says, in the rule's own words, whether it holds.
pub record Answers (world : World) (settings : Settings) (entry : Entry) (outcome : Outcome) : Type 0 where
  pub judged : IsJudged world (call_in settings entry) outcome
  pub words : SaysRules world entry.message (call_in settings entry) (verdict_of outcome)
