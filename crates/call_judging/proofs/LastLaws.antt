-- How long a call is known again.
use Rattle.std.proofs.Common.{◌≡◌, None}
use Rattle.verify_rules.specs.Call.{Call}
use Rattle.verify_rules.specs.LastSecond.{IsLastSecond}
use Rattle.verify_rules.specs.Rules.{early_rules, first}
use Rattle.verify_rules.specs.Screened.{last_of_call}
use Rattle.call_judging.specs.Judging.{last_second}

pub known_until : ((call : Call) → first early_rules call ≡ None → IsLastSecond call (last_of_call call)) → (call : Call) → first early_rules call ≡ None
    → IsLastSecond call (last_second call)
unfolding last_second
known_until fresh = fresh
