-- What comes of a call: by itself, and with the calls around it.
use Rattle.std.specs.Prelude.{◌≡◌, ⊤, List, [], ◌∷◌, Option, Some, None}
use Rattle.call_log.specs.Entry.{Entry}
use Rattle.cert_store.specs.Rules.{Says}
use Rattle.stir_outside.specs.Files.{Files}
use Rattle.verify_rules.specs.Call.{Call, call_of}
use Rattle.verify_rules.specs.World.{World, First, MayBeUnread, MayBeUnasked}
use Rattle.verify_rules.specs.declared.settings.Settings.{Settings}
use Rattle.call_judging.specs.Chains.{world_by}
use Rattle.call_judging.specs.declared.finding.Finding.{Finding}
use Rattle.call_judging.specs.declared.finding.Finding.TheVariants as found
use Rattle.cert_store.specs.declared.world.World.{World as Materials}
use Rattle.verify_service.specs.declared.outcome.Outcome.{Outcome}
use Rattle.verify_service.specs.declared.outcome.Outcome.TheVariants.{Valid, Refused, Replay, Unread, Unasked}

-- a call of the log as the rules see it
unfoldable pub call_in : Settings → Entry → Call
call_in settings entry = call_of settings entry.moment entry.message

-- ---- what the rules but the one on replay say of a call, in a world

-- a call that isn't set aside is refused by the first rule that it breaks, and else valid or a replay; and it is set
-- aside only if it may be
abbrev pub IsJudged : World → Call → Outcome → Type 0
IsJudged world call Valid = First world call ≡ None
IsJudged world call (Refused refused) = First world call ≡ Some refused
IsJudged world call (Replay winner) = First world call ≡ None
IsJudged world call (Unread bad) = MayBeUnread world call bad
IsJudged world call (Unasked bad) = MayBeUnasked world call bad

-- the same over the files that a shelf tells
abbrev pub IsJudgedWhere : Option Files → Materials → Says → Call → Outcome → Type 0
IsJudgedWhere None materials says call outcome = ⊤
IsJudgedWhere (Some files) materials says call outcome = IsJudged (world_by materials files says) call outcome

-- ---- with the calls around it

abbrev pub IsPassing : Outcome → Type 0
IsPassing Valid = ⊤
IsPassing (Refused refused) = ⊥
IsPassing (Replay winner) = ⊤
IsPassing (Unread bad) = ⊥
IsPassing (Unasked bad) = ⊥

-- a call that passes is valid or a replay, and any other stays what it is
abbrev pub ComesOf : Finding → Outcome → Type 0
ComesOf (found.Refused refused) outcome = outcome ≡ Refused refused
ComesOf (found.Unread bad) outcome = outcome ≡ Unread bad
ComesOf (found.Unasked bad) outcome = outcome ≡ Unasked bad
ComesOf (found.Passes pass) outcome = IsPassing outcome

-- ---- of several calls

-- it holds of the first of both, of the second, and so on, and one list has as many as the other
abbrev pub EachPair : {A B : Type 0} → (A → B → Type 0) → List A → List B → Type 0
EachPair R [] [] = ⊤
EachPair R [] (b ∷ bs) = ⊥
EachPair R (a ∷ others) [] = ⊥
EachPair R (a ∷ others) (b ∷ bs) = R a b × EachPair R others bs

-- each call of a round is judged so
abbrev pub EachJudged : Settings → World → List Entry → List Outcome → Type 0
EachJudged settings world entries outcomes =
    EachPair (λ entry outcome. IsJudged world (call_in settings entry) outcome) entries outcomes
