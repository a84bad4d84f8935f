-- The lines were made, or memory ran out for them.
use Rattle.std.proofs.Common.{◌≡◌, ◌++◌, inl, inr, subst, rules}
use Rattle.log_run.specs.Ending.{unread_line}
use Rattle.stir_outside.specs.Ending.{EndsAs}
use Rattle.log_run.proofs.run.end_unread.Goals as goal

pub returns-in-Ok : goal.returns-in-Ok
unfolding unread_line
returns-in-Ok g c =
    let line : c.as_str.result.now ≡ c.args.text.now ++ unread_line c.args.name.now = search rules in
    inl (subst (λ text. EndsAs (g.O.Sink.written c.args.sink.now) (g.O.Sink.written c.end_with.new.sink) (g.O.Sink.faults c.args.sink.now) (g.O.Sink.faults c.end_with.new.sink) c.end_with.result text 3) line c.end_with.ensures)

pub returns-in-Err : goal.returns-in-Err
returns-in-Err g c = inr (rw c.memory_line.ensures at c.end_with-in-Err.ensures)
