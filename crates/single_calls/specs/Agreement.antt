-- Two providers that agree on what is asked for calls judge each of them alike.
use Rattle.std.specs.Prelude.{◌≡◌, ⊤, List, [], ◌∷◌}
use Rattle.call_log.specs.Entry.{Entry}
use Rattle.cert_store.specs.Rules.{Says}
use Rattle.verify_rules.specs.World.{First, World, with_says}
use Rattle.verify_rules.specs.declared.settings.Settings.{Settings}
use Rattle.verify_service.specs.Judging.{call_in}

-- by both providers each of these calls breaks the same rule first, at the same place, or none
abbrev pub JudgedAlike : World → Settings → Says → Says → List Entry → Type 0
JudgedAlike world settings says other [] = ⊤
JudgedAlike world settings says other (entry ∷ entries) =
    (First (with_says world says) (call_in settings entry) ≡ First (with_says world other) (call_in settings entry))
    × JudgedAlike world settings says other entries
