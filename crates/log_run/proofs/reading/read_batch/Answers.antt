-- One call more.
use Rattle.std.proofs.Common.{◌≡◌, ◌∷◌, ◌++◌, [], length, ap, arith, rules, length-append}
use Rattle.call_log.specs.Log.{Passed}
use Rattle.log_run.proofs.ReadLaws.{read_more}
use Rattle.log_run.proofs.reading.read_batch.Goals as goal

pub loop-preserved : goal.loop-preserved
loop-preserved g c =
    let behind = rw c.in-Ok-Some.field-0-is at c.in-Ok-Some.ensures.behind in
    let moves = rw c.in-Ok-Some.field-0-is at c.in-Ok-Some.ensures.moves in
    let grown : c.push.new.self.items ≡ c.loop.calls.items ++ c.in-Ok-Some.call ∷ [] = search rules in
    record {
      read = read_more _ _ _ _ _ _ _ _ _ c.loop.invariant.read behind.reads moves.0 grown;
      size = omega (arith, ap length grown, length-append c.loop.calls.items (c.in-Ok-Some.call ∷ []), c.loop.invariant.size);
      reads_on = record {
        good = moves.1;
        bounded = c.in-Ok-Some.ensures.bounded;
        room = omega (arith, ap (λ (p : Passed). p.number) moves.0, ap (λ (p : Passed). p.count) moves.0, behind.reads.next.numbered, c.loop.invariant.reads_on.room);
      };
      ends = λ right. c.in-Ok-Some.ensures.ends (c.loop.invariant.ends right);
      never_falls = omega (arith, c.loop.invariant.never_falls, c.in-Ok-Some.ensures.never_falls);
    }
