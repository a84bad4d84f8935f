use Rattle.std.proofs.Common.{◌%◌, refl, ap, ◌∙◌}
use Rattle.stir_drill.specs.Draw.{next}
use Rattle.stir_drill.proofs.CallLaws.{drawn_is, one_more}
use Rattle.stir_drill.proofs.calls.put_call.Goals as goal

pub returns : goal.returns
returns c = λ seed before n holds.
    one_more seed before
    (record { number = c.args.number; change = c.of_call-change.result; line = c.draw-line.result % 10000 })
    c.args.calls.now c.put_drawn.new.calls holds
    (drawn_is seed before c.args.number c.draw-kind.new.state c.draw-line.new.state (c.draw-kind.result % 8) (c.draw-line.result % 10000) c.of_call-change.result
    n (c.draw-kind.ensures.state ∙ ap next holds.state_is) c.draw-line.ensures.state (ap (λ x. x % 8) c.draw-kind.ensures.drawn)
    (ap (λ x. x % 10000) c.draw-line.ensures.drawn) c.of_call-change.ensures)
    (record c.args.calls.now { state = c.draw-line.new.state })
    (c.draw-line.ensures.state ∙ ap next c.draw-kind.ensures.state) refl refl refl c.in_ok-put_drawn.ensures
