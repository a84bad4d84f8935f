use Rattle.std.proofs.Common.{◌∙◌, ℕ, max, Option, sym, ap}
use Rattle.std.specs.Map.{lookup}
use Rattle.std.specs.Str.{bytes_eq}
use Rattle.replay_desk.specs.Past.{PastView, found, kept_from, unless_below}
use Rattle.state_text.specs.declared.kept.Kept.{Kept}
use Rattle.replay_desk.proofs.PastLaws.{below_later, found_from}
use Rattle.replay_desk.proofs.past.Past.purge.Goals as goal

pub returns-clause-calls : goal.returns-clause-calls
returns-clause-calls c = λ ticket.
    let before = c.self.inside.calls.entries in
    let unique = c.len-one_each.ensures.unique in
    ap (λ (m : ℕ). lookup (bytes_eq ticket) (kept_from m before)) c.max-self-inside.ensures
    ∙ found_from (max c.self.inside.moment c.args.moment) ticket before unique
    ∙ below_later c.self.inside.moment c.args.moment (lookup (bytes_eq ticket) before)
    ∙ ap (λ (call : Option Kept). unless_below c.args.moment call) (sym (found_from c.self.inside.moment ticket before unique))
    ∙ ap (λ (past : PastView). unless_below c.args.moment (found past ticket)) c.self.view_is
