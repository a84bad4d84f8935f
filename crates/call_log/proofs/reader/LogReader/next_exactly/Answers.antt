-- What was read keeps the reader within its bounds.
use Rattle.std.proofs.Common.{◌≡◌, IfNone, Option, None, Result, Err, ap, subst}
use Rattle.call_log.specs.declared.call.Call.{Call}
use Rattle.call_log.specs.declared.fault.LogFault.{LogFault}
use Rattle.call_log.specs.declared.fault.LogFault.TheVariants.{Source}
use Rattle.call_log.specs.Reads.{LogState, ReadsFault, left_to}
use Rattle.call_log.proofs.LogLaws.{bounds, size_short, where_none}
use Rattle.call_log.proofs.reader.LogReader.next_exactly.Goals as goal

pub after-self-inside-requires-clause-short : goal.after-self-inside-requires-clause-short
after-self-inside-requires-clause-short g c =
    let found = rw c.in-Ok-Some.field-0-is at c.in-Ok-Some.ensures.found in
    size_short _ _ _ _ found.next c.found.view_is c.found.invariant

pub invariant_of-self : goal.invariant_of-self
invariant_of-self g c =
    let found = rw c.in-Ok-Some.field-0-is at c.in-Ok-Some.ensures.found in
    let b = bounds _ _ _ _ c.after-self-inside.ensures found.next c.found.view_is c.self.invariant.number c.self.invariant.place in
    record { count = b.0; number = b.1; place = b.2 }

pub returns-in-Err-clause-reads : goal.returns-in-Err-clause-reads
returns-in-Err-clause-reads g c =
    let found = c.in-Err.ensures.found in
    let inside : LogState = record { passed = c.self.inside.passed; ahead = c.self.inside.ahead.bytes; ended = c.self.inside.ahead.ended; fault = c.self.inside.fault } in
    let now : LogState = record { passed = c.self.inside.passed; ahead = c.next_entry.new.ahead.bytes; ended = c.next_entry.new.ahead.ended; fault = None } in
    let here : ReadsFault inside.passed (left_to inside (g.I.Source.left c.args.source.now)) (left_to now (g.I.Source.left c.next_entry.new.source)) c.in-Err.fault =
    record { taken = found.taken; consumed = found.consumed; known = found.known } in
    subst (λ (s : LogState). IfNone s.fault (ReadsFault s.passed (left_to s (g.I.Source.left c.args.source.now)) (left_to now (g.I.Source.left c.next_entry.new.source)) c.in-Err.fault))
    c.self.view_is (where_none inside.fault here)

pub returns-in-Err-clause-drained : goal.returns-in-Err-clause-drained
returns-in-Err-clause-drained g c =
    let now : LogState = record { passed = c.self.inside.passed; ahead = c.next_entry.new.ahead.bytes; ended = c.next_entry.new.ahead.ended; fault = None } in
    let here : ◌≡◌ {A = Result (Option Call) LogFault} (Err c.in-Err.fault) (Err Source) → left_to now (g.I.Source.left c.next_entry.new.source) ≡ g.I.Source.left c.next_entry.new.source =
    λ source. let same : c.in-Err.fault ≡ Source = cc in c.in-Err.ensures.asks.drained (ap Err same) in
    where_none _ here
