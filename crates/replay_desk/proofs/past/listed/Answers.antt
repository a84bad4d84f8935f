use Rattle.std.proofs.Common.{◌≡◌, List, sym, subst, rules}
use Rattle.std.specs.List.{IsDistinct}
use Rattle.std.specs.Map.{keys_of}
use Rattle.std.specs.Str.{bytes_eq}
use Rattle.replay_desk.specs.Past.{kept_from}
use Rattle.state_text.specs.State.{Entry}
use Rattle.replay_desk.proofs.PastLaws.{distinct_left}
use Rattle.replay_desk.proofs.past.listed.Goals as goal

pub returns-clause-unique : goal.returns-clause-unique
returns-clause-unique c =
    let items : c.loop-ticket.list.items ≡ kept_from c.args.moment c.args.calls.now.entries = search rules in
    subst (λ (es : List Entry). IsDistinct bytes_eq (keys_of es)) (sym items) (distinct_left c.args.moment c.args.calls.now.entries c.iter-ticket-items.ensures.unique)
