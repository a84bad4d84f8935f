use Rattle.std.proofs.Common.{◌∙◌, ℕ, List, Option, sym, ap}
use Rattle.std.specs.Map.{lookup}
use Rattle.std.specs.Str.{bytes_eq}
use Rattle.replay_desk.specs.Past.{PastView, found, unless_below}
use Rattle.state_text.specs.declared.kept.Kept.{Kept}
use Rattle.replay_desk.proofs.PastLaws.{found_from}
use Rattle.replay_desk.proofs.past.Past.find.Goals as goal

pub returns : goal.returns
returns c =
    let value = c.copied.ensures ∙ c.get.ensures.value ∙ ap (λ (key : List ℕ). lookup (bytes_eq key) c.self.inside.calls.entries) c.new.ensures in
    c.unless_below.ensures ∙ ap (λ (call : Option Kept). unless_below c.self.inside.moment call) value
    ∙ sym (found_from c.self.inside.moment c.args.ticket.now c.self.inside.calls.entries c.len-one_each.ensures.unique)
    ∙ ap (λ (past : PastView). found past c.args.ticket.now) c.self.view_is
