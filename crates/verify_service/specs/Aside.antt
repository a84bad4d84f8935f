-- What a call of a round is set aside for, by what is known of its chains.
use Rattle.std.specs.Prelude.{◌≡◌, ⊤, ◌⊎◌, List}
use Rattle.cert_store.specs.Holding.{Chains}
use Rattle.verify_rules.specs.Call.{Reading}
use Rattle.verify_rules.specs.Causes.{IsUnknownAt}
use Rattle.verify_rules.specs.Verdict.{IsLeftOpen}
use Rattle.verify_service.specs.Kept.{Kept, states_for}
use Rattle.verify_service.specs.declared.outcome.Outcome.{Outcome}
use Rattle.verify_service.specs.declared.outcome.Outcome.TheVariants.{Valid, Refused, Replay, Unread, Unasked}

-- for a chain that isn't known; for a chain with a question that failed; or for the signature of a PASSporT of its own,
-- whose part is 0
abbrev pub IsAsideFor : List Reading → Kept → Chains → Outcome → Type 0
IsAsideFor readings kept held Valid = ⊤
IsAsideFor readings kept held (Refused refused) = ⊤
IsAsideFor readings kept held (Replay winner) = ⊤
IsAsideFor readings kept held (Unread bad) = IsUnknownAt readings (states_for kept held readings) bad
IsAsideFor readings kept held (Unasked bad) = IsLeftOpen readings (states_for kept held readings) bad ⊎ (bad.part ≡ 0)
