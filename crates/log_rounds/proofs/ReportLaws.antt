-- Lines of a report, one after another.
use Rattle.std.proofs.Common.{◌≡◌, ℕ, suc, ◌+◌, List, [], ◌∷◌, ◌++◌, length, sym, ◌∙◌, ap, arith, append_assoc}
use Rattle.verify_service.specs.Report.{report, report_text}
use Rattle.verify_service.specs.declared.outcome.Outcome.{Outcome}

pub report_append : (number : ℕ) (xs ys : List Outcome) → report number (xs ++ ys) ≡ report number xs ++ report (number + length xs) ys
report_append number [] ys = let e : number + 0 ≡ number = omega arith in ap (λ n. report n ys) (sym e)
report_append number (x ∷ xs) ys =
    let e : suc number + length xs ≡ number + suc (length xs) = omega arith in
    ap (λ t. report_text number x ++ t) (report_append (suc number) xs ys ∙ ap (λ n. report (suc number) xs ++ report n ys) e)
    ∙ sym (append_assoc (report_text number x) (report (suc number) xs) (report (number + suc (length xs)) ys))
