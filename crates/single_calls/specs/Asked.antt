-- Which questions are asked for the calls of a log, each in words (this project's own rule): whether one is asked,
-- whatever its place.
use Rattle.std.specs.Prelude.{⊤, List, [], ◌∷◌}
use Rattle.call_log.specs.Entry.{Entry}
use Rattle.cert_store.specs.Rules.{QuestionView}
use Rattle.call_judging.specs.AskedFor.{IsAmong, IsAskedFor, SomeOf}
use Rattle.verify_rules.specs.World.{World}
use Rattle.verify_rules.specs.declared.settings.Settings.{Settings}
use Rattle.verify_service.specs.Judging.{call_in}

-- no question is in the list twice
abbrev pub IsOnce : List QuestionView → Type 0
IsOnce [] = ⊤
IsOnce (asked ∷ others) = (IsAmong asked others → ⊥) × IsOnce others

-- some call of the log asks it
abbrev pub IsAskedOf : World → Settings → List Entry → QuestionView → Type 0
IsAskedOf world settings entries asked = SomeOf (λ entry. IsAskedFor world (call_in settings entry) asked) entries
