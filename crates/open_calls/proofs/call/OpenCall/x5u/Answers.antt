-- The PASSporTs that are judged are those of the screened call.
use Rattle.std.proofs.Common.{◌≡◌, List, subst, sym}
use Rattle.std.specs.List.{slice_get}
use Rattle.std.specs.Option.{option_copied, option_map}
use Rattle.verify_rules.specs.Call.{Reading}
use Rattle.open_calls.proofs.CallLaws.{judged_screened, screened_in}
use Rattle.open_calls.specs.OpenCalls.{x5u_in}
use Rattle.open_calls.proofs.call.OpenCall.x5u.Goals as goal

pub returns-in-Ok : goal.returns-in-Ok
returns-in-Ok c =
    subst (λ (r : List Reading). option_copied c.x5u_at.result ≡ option_map x5u_in (slice_get r c.args.i))
    (sym (judged_screened c.args.self.now c.in-Ok.screened (screened_in _ c.args.self.now c.self.inside.screened c.in-Ok.screened c.self.invariant c.in-Ok.is c.self.view_is)))
    c.x5u_at.ensures
