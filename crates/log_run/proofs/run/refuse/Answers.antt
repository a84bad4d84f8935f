-- The line of the place was made, or memory ran out for it.
use Rattle.std.proofs.Common.{◌≡◌, inl, inr, subst, rules}
use Rattle.log_run.specs.Ending.{refused_line}
use Rattle.stir_outside.specs.Ending.{EndsAs}
use Rattle.log_run.proofs.run.refuse.Goals as goal

pub returns-in-Ok : goal.returns-in-Ok
unfolding refused_line
returns-in-Ok g c =
    let line : c.as_str.result.now ≡ refused_line c.args.place = search rules in
    inl (subst (λ text. EndsAs (g.O.Sink.written c.args.sink.now) (g.O.Sink.written c.end_with.new.sink) (g.O.Sink.faults c.args.sink.now) (g.O.Sink.faults c.end_with.new.sink) c.end_with.result text 5) line c.end_with.ensures)

pub returns-in-Err : goal.returns-in-Err
returns-in-Err g c = inr (rw c.memory_line.ensures at c.end_with-in-Err.ensures)
