-- The report (this project's own format): a line for each call, with its number and four words after it: what came of
-- it, the response code, the rule, and the place or the call that is replayed.
use Rattle.std.specs.Prelude.{ℕ, suc, ◌==◌, List, [], ◌∷◌, ◌++◌, codes, if◌then◌else◌}
use Rattle.std.specs.Fmt.{decimal}
use Rattle.verify_rules.specs.Code.{code_of}
use Rattle.verify_rules.specs.declared.refusal.Place.{Place}
use Rattle.verify_rules.specs.declared.refusal.Refusal.{Refusal}
use Rattle.call_judging.specs.PlaceText.{place_text}
use Rattle.verify_service.specs.declared.outcome.Outcome.{Outcome}
use Rattle.verify_service.specs.declared.outcome.Outcome.TheVariants.{Valid, Refused, Replay, Unread, Unasked}

abbrev pub refused_text : Refusal → List ℕ
refused_text refused = codes "refused " ++ (decimal (code_of refused.rule)
    ++ (codes " " ++ (decimal refused.rule ++ (codes " " ++ place_text refused.place))))

-- the rule that isn't decided if the provider failed: 16 at the signature of the PASSporT, whose part is 0, and 15 at
-- that of a certificate
abbrev pub unasked_rule : ℕ → ℕ
unasked_rule part = if part == 0 then 16 else 15

abbrev pub unasked_text : Place → List ℕ
unasked_text bad = codes "unasked - " ++ (decimal (unasked_rule bad.part) ++ (codes " " ++ place_text bad))

-- what came of the call
abbrev pub said_text : Outcome → List ℕ
said_text Valid = codes "valid - - -"
said_text (Refused refused) = refused_text refused
said_text (Replay winner) = codes "replay 438 18 " ++ decimal winner
said_text (Unread bad) = codes "unread - 10 " ++ place_text bad
said_text (Unasked bad) = unasked_text bad

-- the line of the call of this number
unfoldable pub report_text : ℕ → Outcome → List ℕ
report_text number outcome = decimal number ++ (codes " " ++ (said_text outcome ++ codes "\n"))

-- the report of calls whose numbers go on from this one
abbrev pub report : ℕ → List Outcome → List ℕ
report number [] = []
report number (outcome ∷ others) = report_text number outcome ++ report (suc number) others
