-- The PASSporTs that are judged are those of the screened call.
use Rattle.std.proofs.Common.{◌≡◌, List, IfOk, subst, sym}
use Rattle.verify_rules.specs.Call.{Reading}
use Rattle.open_calls.proofs.CallLaws.{judged_screened, screened_in}
use Rattle.open_calls.specs.Claims.{claims_lines}
use Rattle.open_calls.proofs.call.OpenCall.claims.Goals as goal

pub returns-in-Ok : goal.returns-in-Ok
returns-in-Ok c =
    subst (λ (r : List Reading). IfOk c.claims_of.result (λ lines. lines.items ≡ claims_lines r))
    (sym (judged_screened c.args.self.now c.in-Ok.screened (screened_in _ c.args.self.now c.self.inside.screened c.in-Ok.screened c.self.invariant c.in-Ok.is c.self.view_is)))
    c.claims_of.ensures
