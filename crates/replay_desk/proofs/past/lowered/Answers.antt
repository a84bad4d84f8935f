use Rattle.std.proofs.Common.{◌∙◌, List, ap, arith}
use Rattle.replay_desk.specs.Past.{kept_from}
use Rattle.state_text.specs.State.{Entry}
use Rattle.replay_desk.proofs.PastLaws.{kept_still}
use Rattle.replay_desk.proofs.past.lowered.Goals as goal

pub returns-clause-same : goal.returns-clause-same
returns-clause-same c =
    let low = c.if-moment-last.false in
    ap (λ (es : List Entry). kept_from c.args.last es) c.take_out.ensures.left ∙ kept_still c.args.last c.args.moment c.args.calls.now.entries (omega arith)
