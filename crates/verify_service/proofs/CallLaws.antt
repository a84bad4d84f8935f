-- A call of the log, from its parts.
use Rattle.std.proofs.Common.{◌≡◌, ℕ, List, Result, ap, ◌∙◌, subst}
use Rattle.call_log.specs.Entry.{Entry}
use Rattle.verify_rules.specs.Call.{Call, call_of}
use Rattle.verify_rules.specs.Rules.{early_rules}
use Rattle.verify_rules.specs.Screened.{IsScreenedBy, ScreenedView}
use Rattle.verify_rules.specs.declared.refusal.ScreenFault.{ScreenFault}
use Rattle.verify_rules.specs.declared.settings.Settings.{Settings}
use Rattle.verify_service.specs.Judging.{call_in}

pub same_call : (settings : Settings) (entry : Entry) (moment : ℕ) (message : List ℕ) → message ≡ entry.message → moment ≡ entry.moment
    → call_of settings moment message ≡ call_in settings entry
unfolding call_in
same_call settings entry moment message message_is moment_is =
    ap (λ (m : List ℕ). call_of settings moment m) message_is ∙ ap (λ t. call_of settings t entry.message) moment_is

pub screened_call : (settings : Settings) (entry : Entry) (moment : ℕ) (message : List ℕ) (result : Result ScreenedView ScreenFault) → message ≡ entry.message → moment ≡ entry.moment
    → IsScreenedBy early_rules (call_of settings moment message) result → IsScreenedBy early_rules (call_in settings entry) result
screened_call settings entry moment message result message_is moment_is screened =
    subst (λ (call : Call). IsScreenedBy early_rules call result) (same_call settings entry moment message message_is moment_is) screened

pub moment_in : (settings : Settings) (entry : Entry) (moment : ℕ) → moment ≡ entry.moment → moment ≡ (call_in settings entry).moment
unfolding call_in
moment_in settings entry moment is = is
