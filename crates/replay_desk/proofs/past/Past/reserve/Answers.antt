use Rattle.std.proofs.Common.{◌∙◌, List, Option, Result, Ok, Err, OnErr, sym, ap, arith}
use Rattle.std.specs.Map.{lookup}
use Rattle.std.specs.Str.{bytes_eq}
use Rattle.replay_desk.specs.Past.{PastView, found, kept_from, unless_below}
use Rattle.state_text.specs.State.{Entry}
use Rattle.state_text.specs.declared.kept.Kept.{Kept}
use Rattle.replay_desk.proofs.PastLaws.{found_from, kept_still}
use Rattle.replay_desk.proofs.past.Past.reserve.Goals as goal

on_err : {X E : Type 0} (r : Result X E) (P : Type 0) → P → OnErr r P
on_err (Ok x) P h = tt
on_err (Err e) P h = h

pub returns-in_err-reserve-clause-same : goal.returns-in_err-reserve-clause-same
returns-in_err-reserve-clause-same c = λ ticket.
    let moment = c.self.inside.moment in
    ap (λ (past : PastView). found past ticket)
    (ap (λ (es : List Entry). record { entries = kept_from moment es; spare = c.self.inside.spare }) (c.in_err-reserve.ensures.err ∙ c.take_out.ensures.left)
    ∙ ap (λ (es : List Entry). record { entries = es; spare = c.self.inside.spare }) (kept_still moment moment c.self.inside.calls.entries (omega arith))
    ∙ c.self.view_is)

pub returns-clause-same : goal.returns-clause-same
returns-clause-same c = λ ticket.
    let moment = c.self.inside.moment in
    found_from moment ticket c.reserve.new.self.entries c.reserve.ensures.unique
    ∙ ap (λ (call : Option Kept). unless_below moment call) (c.reserve.ensures.entries.2 ticket)
    ∙ sym (found_from moment ticket c.take_out.new.calls.entries c.len.ensures.unique)
    ∙ ap (λ (es : List Entry). lookup (bytes_eq ticket) (kept_from moment es)) c.take_out.ensures.left
    ∙ ap (λ (es : List Entry). lookup (bytes_eq ticket) es) (kept_still moment moment c.self.inside.calls.entries (omega arith))
    ∙ ap (λ (past : PastView). found past ticket) c.self.view_is

pub returns-in_err-reserve-clause-refused : goal.returns-in_err-reserve-clause-refused
returns-in_err-reserve-clause-refused c =
    let moment = c.self.inside.moment in
    on_err c.from_residual.result _ (ap (λ (es : List Entry). record { entries = kept_from moment es; spare = c.self.inside.spare }) (c.in_err-reserve.ensures.err ∙ c.take_out.ensures.left)
    ∙ ap (λ (es : List Entry). record { entries = es; spare = c.self.inside.spare }) (kept_still moment moment c.self.inside.calls.entries (omega arith))
    ∙ c.self.view_is)
