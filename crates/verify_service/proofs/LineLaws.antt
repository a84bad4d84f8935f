-- A line of the report is its row.
use Rattle.std.proofs.Common.{◌≡◌, inl, inr, if◌then◌else◌, ℕ, ◌==◌, Bool, true, false, [], ◌∷◌, ◌++◌, codes, append_assoc, refl, sym, arith}
use Rattle.std.specs.Fmt.{decimal}
use Rattle.std.proofs.lemmas.Bool.Decides.{nat_tests}
use Rattle.verify_rules.specs.Code.{HasCode, code_of}
use Rattle.call_judging.specs.PlaceText.{place_text}
use Rattle.verify_service.specs.Report.{report_text, said_text, unasked_rule}
use Rattle.verify_service.specs.ReportLine.{IsLine, IsOpenRule}
use Rattle.verify_service.specs.declared.outcome.Outcome.{Outcome}
use Rattle.verify_service.specs.declared.outcome.Outcome.TheVariants.{Valid, Refused, Replay, Unread, Unasked}

open_by : (part : ℕ) (t : Bool) → (part == 0) ≡ t → IsOpenRule part (if t then 16 else 15)
open_by part true e = inl (grind (arith, nat_tests), refl)
open_by part false e = inr (grind (arith, nat_tests), refl)

open_rule : (part : ℕ) → IsOpenRule part (unasked_rule part)
open_rule part = open_by part (part == 0) refl

-- given that the codes are those of their rows
pub line_is : ((rule : ℕ) → HasCode rule (code_of rule)) → (number : ℕ) (outcome : Outcome) → IsLine number outcome (report_text number outcome)
unfolding report_text
line_is coded number Valid = record {
  words = codes "valid" ∷ codes "-" ∷ codes "-" ∷ codes "-" ∷ [];
  row = refl;
  line_is = sym (append_assoc (decimal number) (codes " " ++ said_text Valid) (codes "\n"));
}
line_is coded number (Refused refused) = record {
  words = codes "refused" ∷ decimal (code_of refused.rule) ∷ decimal refused.rule ∷ place_text refused.place ∷ [];
  row = record { code = code_of refused.rule; place = place_text refused.place; has_code = coded refused.rule; at = refl; words_are = refl };
  line_is = sym (append_assoc (decimal number) (codes " " ++ said_text (Refused refused)) (codes "\n"));
}
line_is coded number (Replay winner) = record {
  words = codes "replay" ∷ codes "438" ∷ codes "18" ∷ decimal winner ∷ [];
  row = refl;
  line_is = sym (append_assoc (decimal number) (codes " " ++ said_text (Replay winner)) (codes "\n"));
}
line_is coded number (Unread bad) = record {
  words = codes "unread" ∷ codes "-" ∷ codes "10" ∷ place_text bad ∷ [];
  row = record { place = place_text bad; at = refl; words_are = refl };
  line_is = sym (append_assoc (decimal number) (codes " " ++ said_text (Unread bad)) (codes "\n"));
}
line_is coded number (Unasked bad) = record {
  words = codes "unasked" ∷ codes "-" ∷ decimal (unasked_rule bad.part) ∷ place_text bad ∷ [];
  row = record { rule = unasked_rule bad.part; place = place_text bad; open_rule = open_rule bad.part; at = refl; words_are = refl };
  line_is = sym (append_assoc (decimal number) (codes " " ++ said_text (Unasked bad)) (codes "\n"));
}
