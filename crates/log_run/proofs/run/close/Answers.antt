-- The text was written, and then the end came; or the sink failed in it.
use Rattle.std.proofs.Common.{List, ℕ, inr, refl, subst}
use Rattle.stir_outside.specs.Told.{AppendsFront}
use Rattle.log_run.proofs.EndLaws.{whole_text}
use Rattle.log_run.proofs.run.close.Goals as goal

pub returns-in-Err-write_whole : goal.returns-in-Err-write_whole
returns-in-Err-write_whole g c = inr (record {
  text = c.in-Ok.text.items;
  closed = c.in-Ok.ensures.closed;
  wrote = inr (record {
    answered = c.number.ensures.exact;
    rose = c.in-Err-write_whole.ensures.cause.rose;
    front = subst (λ (x : List ℕ). AppendsFront (g.O.Sink.written c.args.sink.now) (g.O.Sink.written c.write_whole.new.sink) x) c.deref.ensures.value c.in-Err-write_whole.ensures.front;
  });
})

pub returns-in-None : goal.returns-in-None
returns-in-None g c = rw c.in-None.is
    (whole_text _ _ _ _ _ _ _ _ _ _ _ c.in-Ok.text.items _ c.deref.ensures.value c.in-Ok.ensures.closed c.in-Ok-write_whole.ensures.whole c.in-Ok-write_whole.ensures.cause.never_falls
    (record { answered = c.report_status.ensures; same_written = refl; same_writes = refl }))

pub returns : goal.returns
returns g c = rw c.in-Some.is
    (whole_text _ _ _ _ _ _ _ _ _ _ _ c.in-Ok.text.items _ c.deref.ensures.value c.in-Ok.ensures.closed c.in-Ok-write_whole.ensures.whole c.in-Ok-write_whole.ensures.cause.never_falls c.end_at.ensures)
