-- What is explained of a call by itself (this project's own format): in the order of the rules a line for each that the
-- call meets, up to the first that it breaks, and a line for that one. The rule on replay isn't looked at.
use Rattle.std.specs.Prelude.{ℕ, List, [], ◌∷◌, ◌++◌, codes, Option, Some, None}
use Rattle.std.specs.Fmt.{decimal}
use Rattle.verify_rules.specs.Call.{Call}
use Rattle.verify_rules.specs.Code.{code_of}
use Rattle.verify_rules.specs.Rules.{Rule, early_rules, refusal}
use Rattle.verify_rules.specs.World.{World, late_rules}
use Rattle.verify_rules.specs.declared.refusal.Place.{Place}
use Rattle.verify_rules.specs.declared.refusal.Refusal.{Refusal}
use Rattle.call_judging.specs.PlaceText.{place_text}
use Rattle.call_judging.specs.RuleNumbers.{numbers_before}
use Rattle.call_judging.specs.declared.finding.Finding.{Finding}
use Rattle.call_judging.specs.declared.finding.Finding.TheVariants as found
use Rattle.call_judging.specs.declared.rule_numbers.TheConstants.{RULES, FIRST_ON_FILES, FIRST_ON_SIGNATURES}

-- ---- a line

-- the call of this number meets the rule of this number
unfoldable pub ok_line : ℕ → ℕ → List ℕ
ok_line number rule = decimal number ++ (codes " " ++ (decimal rule ++ codes " ok\n"))

-- it breaks the rule, with the response code and the place
unfoldable pub broken_line : ℕ → Refusal → List ℕ
broken_line number refused = decimal number ++ (codes " " ++ (decimal refused.rule
    ++ (codes " " ++ (decimal (code_of refused.rule) ++ (codes " " ++ (place_text refused.place ++ codes "\n"))))))

-- rule 10 isn't decided, since the file with the certificates of the PASSporT at this place couldn't be read
unfoldable pub unread_line : ℕ → Place → List ℕ
unread_line number bad = decimal number ++ (codes " 10 unread " ++ (place_text bad ++ codes "\n"))

-- ---- the rules

abbrev pub line_or_more : ℕ → ℕ → Option Place → List ℕ → List ℕ
line_or_more number rule None others = ok_line number rule ++ others
line_or_more number rule (Some bad) others = broken_line number (refusal rule bad)

-- a line for each of these rules, up to the first that is broken
abbrev pub explain_rules : ℕ → List Rule → Call → List ℕ
explain_rules number [] call = []
explain_rules number (rule ∷ others) call =
    line_or_more number rule.number (rule.broken call) (explain_rules number others call)

-- What is explained of the call of this number in this world.
unfoldable pub Explain : World → ℕ → Call → List ℕ
Explain world number call = explain_rules number (early_rules ++ late_rules world) call

-- ---- the same by what is found of the call

-- the lines of rules that are met
unfoldable pub ok_lines : ℕ → List ℕ → List ℕ
ok_lines number [] = []
ok_lines number (rule ∷ others) = ok_line number rule ++ ok_lines number others

-- those before the broken rule are met
abbrev pub broken_text : ℕ → Refusal → List ℕ
broken_text number refused = ok_lines number (numbers_before refused.rule) ++ broken_line number refused

-- those before the first that looks at a file are
abbrev pub unread_text : ℕ → Place → List ℕ
unread_text number bad = ok_lines number (numbers_before FIRST_ON_FILES) ++ unread_line number bad

-- if a signature is left open, those before the first that asks for one
abbrev pub unasked_text : ℕ → List ℕ
unasked_text number = ok_lines number (numbers_before FIRST_ON_SIGNATURES)

-- and all of a call that passes
abbrev pub met_text : ℕ → List ℕ
met_text number = ok_lines number RULES

abbrev pub explained : ℕ → Finding → List ℕ
explained number (found.Refused refused) = broken_text number refused
explained number (found.Unread bad) = unread_text number bad
explained number (found.Unasked bad) = unasked_text number
explained number (found.Passes pass) = met_text number
