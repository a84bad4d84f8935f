-- A line of the report can be read back: its number and its outcome.
use Rattle.std.proofs.Common.{◌≡◌, ℕ, suc, ◌==◌, not, ◌+◌, ◌<◌, ◌^◌, Bool, true, false, ◌&&◌, cond, List, [], ◌∷◌, ◌++◌, length, get_or, codes, append_assoc, refl, sym, ◌∙◌, ap, arith}
use Rattle.std.specs.Fmt.{decimal}
use Rattle.std.proofs.lemmas.List.{append_cancel_left}
use Rattle.std.proofs.lemmas.List.Folds.{list_all-append}
use Rattle.text_grammar.specs.Cut.{lacks}
use Rattle.text_grammar.proofs.DecimalLaws.{decimal_lacks}
use Rattle.verify_rules.specs.Code.{code_of}
use Rattle.verify_rules.specs.declared.refusal.Place.{Place}
use Rattle.verify_rules.specs.declared.refusal.Refusal.{Refusal}
use Rattle.call_judging.proofs.TextBack.{code_fits, halves, no_text, refusal_is, same_number, same_place, same_then}
use Rattle.call_judging.specs.PlaceText.{PlaceFits, place_text}
use Rattle.verify_service.specs.Report.{refused_text, report, report_text, said_text, unasked_rule, unasked_text}
use Rattle.verify_service.specs.ReportLine.{AllFit, Fits}
use Rattle.verify_service.specs.declared.outcome.Outcome.{Outcome}
use Rattle.verify_service.specs.declared.outcome.Outcome.TheVariants.{Valid, Refused, Replay, Unread, Unasked}

-- ---- the rule that is left open

of_two : (t : Bool) → cond t 16 15 < 2 ^ 64
of_two true = omega arith
of_two false = omega arith

rule_fits : (part : ℕ) → unasked_rule part < 2 ^ 64
rule_fits part = of_two (part == 0)

-- ---- what came of a call

same_refused : (a b : Refusal) → a.rule < 256 → b.rule < 256 → PlaceFits a.place → PlaceFits b.place → refused_text a ≡ refused_text b → a ≡ b
same_refused a b low high left right same =
    let code = same_then 32 (code_of a.rule) (code_of b.rule) (decimal a.rule ++ (codes " " ++ place_text a.place)) (decimal b.rule ++ (codes " " ++ place_text b.place)) refl
    (code_fits a.rule) (code_fits b.rule) (append_cancel_left (codes "refused ") _ _ same) in
    let rule = same_then 32 a.rule b.rule (place_text a.place) (place_text b.place) refl (omega arith) (omega arith) code.behind in
    refusal_is a b rule.number (same_place a.place b.place left right rule.behind)

same_winner : (m n : ℕ) → m < 4294967296 → n < 4294967296 → said_text (Replay m) ≡ said_text (Replay n) → m ≡ n
same_winner m n low high same = same_number m n (omega arith) (omega arith) (append_cancel_left (codes "replay 438 18 ") _ _ same)

same_unread : (a b : Place) → PlaceFits a → PlaceFits b → said_text (Unread a) ≡ said_text (Unread b) → a ≡ b
same_unread a b left right same = same_place a b left right (append_cancel_left (codes "unread - 10 ") _ _ same)

same_unasked : (a b : Place) → PlaceFits a → PlaceFits b → unasked_text a ≡ unasked_text b → a ≡ b
same_unasked a b left right same =
    let rule = same_then 32 (unasked_rule a.part) (unasked_rule b.part) (place_text a) (place_text b) refl (rule_fits a.part) (rule_fits b.part)
    (append_cancel_left (codes "unasked - ") _ _ same) in
    same_place a b left right rule.behind

-- the third byte tells which it is
abbrev third : Outcome → ℕ
third Valid = 108
third (Refused refused) = 102
third (Replay winner) = 112
third (Unread bad) = 114
third (Unasked bad) = 97

third_is : (outcome : Outcome) → get_or (said_text outcome) 2 0 ≡ third outcome
third_is Valid = refl
third_is (Refused refused) = refl
third_is (Replay winner) = refl
third_is (Unread bad) = refl
third_is (Unasked bad) = refl

same_third : (a b : Outcome) → said_text a ≡ said_text b → third a ≡ third b
same_third a b same = sym (third_is a) ∙ ap (λ (x : List ℕ). get_or x 2 0) same ∙ third_is b

said_by : (a b : Outcome) → Fits a → Fits b → third a ≡ third b → said_text a ≡ said_text b → a ≡ b
said_by Valid Valid left right kind same = refl
said_by Valid (Refused b) left right kind same = absurd (omega (arith, kind))
said_by Valid (Replay b) left right kind same = absurd (omega (arith, kind))
said_by Valid (Unread b) left right kind same = absurd (omega (arith, kind))
said_by Valid (Unasked b) left right kind same = absurd (omega (arith, kind))
said_by (Refused a) Valid left right kind same = absurd (omega (arith, kind))
said_by (Refused a) (Refused b) left right kind same = ap Refused (same_refused a b left.0 right.0 left.1 right.1 same)
said_by (Refused a) (Replay b) left right kind same = absurd (omega (arith, kind))
said_by (Refused a) (Unread b) left right kind same = absurd (omega (arith, kind))
said_by (Refused a) (Unasked b) left right kind same = absurd (omega (arith, kind))
said_by (Replay a) Valid left right kind same = absurd (omega (arith, kind))
said_by (Replay a) (Refused b) left right kind same = absurd (omega (arith, kind))
said_by (Replay a) (Replay b) left right kind same = ap (λ n. Replay n) (same_winner a b left right same)
said_by (Replay a) (Unread b) left right kind same = absurd (omega (arith, kind))
said_by (Replay a) (Unasked b) left right kind same = absurd (omega (arith, kind))
said_by (Unread a) Valid left right kind same = absurd (omega (arith, kind))
said_by (Unread a) (Refused b) left right kind same = absurd (omega (arith, kind))
said_by (Unread a) (Replay b) left right kind same = absurd (omega (arith, kind))
said_by (Unread a) (Unread b) left right kind same = ap Unread (same_unread a b left right same)
said_by (Unread a) (Unasked b) left right kind same = absurd (omega (arith, kind))
said_by (Unasked a) Valid left right kind same = absurd (omega (arith, kind))
said_by (Unasked a) (Refused b) left right kind same = absurd (omega (arith, kind))
said_by (Unasked a) (Replay b) left right kind same = absurd (omega (arith, kind))
said_by (Unasked a) (Unread b) left right kind same = absurd (omega (arith, kind))
said_by (Unasked a) (Unasked b) left right kind same = ap Unasked (same_unasked a b left right same)

pub same_said : (a b : Outcome) → Fits a → Fits b → said_text a ≡ said_text b → a ≡ b
same_said a b left right same = said_by a b left right (same_third a b same) same

-- ---- lines

both_true : (s t : Bool) → s ≡ true → t ≡ true → (s && t) ≡ true
both_true true t left right = right
both_true false t left right = left

lacks_both : (byte : ℕ) (a b : List ℕ) → lacks byte a ≡ true → lacks byte b ≡ true → lacks byte (a ++ b) ≡ true
lacks_both byte a b left right = list_all-append (λ c. not (c == byte)) a b ∙ both_true (lacks byte a) (lacks byte b) left right

no_end : (n : ℕ) → n < 2 ^ 64 → lacks 10 (decimal n) ≡ true
no_end n low = decimal_lacks n 10 low refl

place_no_end : (bad : Place) → PlaceFits bad → lacks 10 (place_text bad) ≡ true
place_no_end bad fits =
    lacks_both 10 (decimal bad.field) (codes "." ++ decimal bad.part) (no_end bad.field (omega (arith, fits.field))) (no_end bad.part (omega (arith, fits.part)))

then_place : (n : ℕ) (bad : Place) → n < 2 ^ 64 → PlaceFits bad → lacks 10 (decimal n ++ (codes " " ++ place_text bad)) ≡ true
then_place n bad low fits = lacks_both 10 (decimal n) (codes " " ++ place_text bad) (no_end n low) (place_no_end bad fits)

said_no_end : (outcome : Outcome) → Fits outcome → lacks 10 (said_text outcome) ≡ true
said_no_end Valid fits = refl
said_no_end (Refused refused) fits =
    lacks_both 10 (decimal (code_of refused.rule)) (codes " " ++ (decimal refused.rule ++ (codes " " ++ place_text refused.place))) (no_end (code_of refused.rule) (code_fits refused.rule))
    (then_place refused.rule refused.place (omega (arith, fits.0)) fits.1)
said_no_end (Replay winner) fits = no_end winner (omega (arith, fits))
said_no_end (Unread bad) fits = place_no_end bad fits
said_no_end (Unasked bad) fits = then_place (unasked_rule bad.part) bad (rule_fits bad.part) fits

line_then : (number : ℕ) (outcome : Outcome) (rest : List ℕ) → report_text number outcome ++ rest ≡ decimal number ++ 32 ∷ (said_text outcome ++ 10 ∷ rest)
unfolding report_text
line_then number outcome rest =
    append_assoc (decimal number) (codes " " ++ (said_text outcome ++ codes "\n")) rest
    ∙ ap (λ (x : List ℕ). decimal number ++ 32 ∷ x) (append_assoc (said_text outcome) (codes "\n") rest)

record SameLine (m n : ℕ) (a b : Outcome) (r s : List ℕ) : Type 0 where
  number : m ≡ n
  outcome : a ≡ b
  behind : r ≡ s

lines_apart : (m n : ℕ) (a b : Outcome) (r s : List ℕ) → m < 4294967296 → n < 4294967296 → Fits a → Fits b → report_text m a ++ r ≡ report_text n b ++ s → SameLine m n a b r s
lines_apart m n a b r s low high left right same =
    let number = same_then 32 m n (said_text a ++ 10 ∷ r) (said_text b ++ 10 ∷ s) refl (omega arith) (omega arith) (sym (line_then m a r) ∙ same ∙ line_then n b s) in
    let said = halves 10 (said_text a) (said_text b) r s (said_no_end a left) (said_no_end b right) number.behind in
    record { number = number.number; outcome = same_said a b left right said.before; behind = said.behind }

-- two calls whose lines are the same are one, and so is what came of them
pub same_line : (m n : ℕ) (a b : Outcome) → m < 4294967296 → n < 4294967296 → Fits a → Fits b → report_text m a ≡ report_text n b → (m ≡ n) × (a ≡ b)
same_line m n a b low high left right same =
    let h = lines_apart m n a b [] [] low high left right (ap (λ (x : List ℕ). x ++ []) same) in
    (h.number, h.outcome)

-- ---- reports

some_line : (number : ℕ) (outcome : Outcome) (rest : List ℕ) → [] ≡ report_text number outcome ++ rest → ⊥
some_line number outcome rest same = no_text (decimal number) 32 (said_text outcome ++ 10 ∷ rest) (same ∙ line_then number outcome rest)

pub same_report : (number : ℕ) (xs ys : List Outcome) → number + length xs < 4294967296 → number + length ys < 4294967296 → AllFit xs → AllFit ys
    → report number xs ≡ report number ys → xs ≡ ys
same_report number [] [] low high left right same = refl
same_report number [] (y ∷ ys) low high left right same = absurd (some_line number y (report (suc number) ys) same)
same_report number (x ∷ xs) [] low high left right same = absurd (some_line number x (report (suc number) xs) (sym same))
same_report number (x ∷ xs) (y ∷ ys) low high left right same =
    let h = lines_apart number number x y (report (suc number) xs) (report (suc number) ys) (omega (arith, low)) (omega (arith, low)) left.0 right.0 same in
    ap (λ o. o ∷ xs) h.outcome
    ∙ ap (λ (l : List Outcome). y ∷ l) (same_report (suc number) xs ys (omega (arith, low)) (omega (arith, high)) left.1 right.1 h.behind)
