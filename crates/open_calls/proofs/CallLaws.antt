-- A call that was opened, by how it was screened.
use Rattle.std.proofs.Common.{◌≡◌, List, length, Option, Result, Ok, sym, ◌∙◌, ap, subst}
use Rattle.verify_rules.specs.Call.{in_call_order}
use Rattle.verify_rules.specs.Screened.{ScreenedView}
use Rattle.verify_rules.specs.declared.refusal.Refusal.{Refusal}
use Rattle.open_calls.proofs.JudgingLaws.{readings_are}
use Rattle.open_calls.specs.OpenCalls.{CallView, IsEarly, call_in, judged_in, unless_refused}

-- ---- what is known of how it was screened

pub judged_screened : (call : CallView) (screened : ScreenedView) → IsEarly (call_in call) (Ok screened) → judged_in call ≡ screened.readings
judged_screened call screened early =
    ap (λ (e : Option Refusal). unless_refused e (in_call_order (call_in call))) early.0 ∙ sym (readings_are (call_in call) screened early.1)

-- ---- there is one chain for each PASSporT

pub one_each : {X : Type 0} (call : CallView) (screened : ScreenedView) (chains : List X) → IsEarly (call_in call) (Ok screened) → length chains ≡ length (judged_in call)
    → length chains ≡ length screened.readings
one_each call screened chains early is = is ∙ ap length (judged_screened call screened early)

-- ---- by its fields

pub screened_in : (fields call : CallView) (kept : Result ScreenedView Refusal) (screened : ScreenedView) → IsEarly (call_in fields) kept → kept ≡ Ok screened → fields ≡ call
    → IsEarly (call_in call) (Ok screened)
screened_in fields call kept screened early is same = subst (λ (v : CallView). IsEarly (call_in v) (Ok screened)) same (subst (IsEarly (call_in fields)) is early)
