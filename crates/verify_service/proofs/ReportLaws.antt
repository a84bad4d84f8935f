-- Lines of a report, one after another.
use Rattle.std.proofs.Common.{◌≡◌, ℕ, suc, ◌+◌, ◌<◌, ◌≤◌, List, ◌++◌, length, get_or, drop, sym, ◌∙◌, ap, arith, append-nil, append_assoc}
use Rattle.std.proofs.lemmas.List.{drop_all, drop_more}
use Rattle.verify_service.specs.Report.{report, report_text}
use Rattle.verify_service.specs.declared.outcome.Outcome.{Outcome}

-- what was written and the lines of what is left are all lines
abbrev pub LinesSoFar : ℕ → List Outcome → ℕ → List ℕ → ℕ → Type 0
LinesSoFar first outcomes place text number = text ++ report number (drop place outcomes) ≡ report first outcomes

-- one line more
pub line_more : (first place number : ℕ) (outcomes : List Outcome) (before after line : List ℕ) (outcome : Outcome) → LinesSoFar first outcomes place before number → place < length outcomes
    → after ≡ before ++ line → line ≡ report_text number (get_or outcomes place outcome) → LinesSoFar first outcomes (place + 1) after (number + 1)
line_more first place number outcomes before after line outcome so_far within grown is =
    let next : number + 1 ≡ suc number = omega arith in
    let behind = report (suc number) (drop (place + 1) outcomes) in
    let here : report number (drop place outcomes) ≡ report_text number (get_or outcomes place outcome) ++ behind = ap (report number) (drop_more outcomes place outcome within) in
    ap (λ n. after ++ report n (drop (place + 1) outcomes)) next ∙ ap (λ t. t ++ behind) grown ∙ append_assoc before line behind
    ∙ ap (λ t. before ++ (t ++ behind)) is ∙ ap (λ t. before ++ t) (sym here) ∙ so_far

pub all_lines : (first place number : ℕ) (outcomes : List Outcome) (text : List ℕ) → LinesSoFar first outcomes place text number → length outcomes ≤ place → text ≡ report first outcomes
all_lines first place number outcomes text so_far over = sym (append-nil text) ∙ ap (λ t. text ++ report number t) (sym (drop_all place outcomes over)) ∙ so_far
