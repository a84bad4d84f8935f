-- What a verdict says of the rules before the first that asks for a signature.
use Rattle.std.specs.Prelude.{Bool, true, false, nat_lt}
use Rattle.verify_rules.specs.declared.verdict.Verdict.{Verdict}
use Rattle.verify_rules.specs.declared.verdict.Verdict.TheVariants.{Passed, Refused, Unread, Unasked}

-- none of rules 1 to 14 is broken, nor left open
abbrev pub asks_own : Verdict → Bool
asks_own Passed = true
asks_own (Refused refused) = nat_lt 14 refused.rule
asks_own (Unread bad) = false
asks_own (Unasked bad) = true
