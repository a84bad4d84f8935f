use Rattle.std.proofs.Common.{◌≡◌, ◌<◌, ◌+◌, ◌%◌, refl, ap, ◌∙◌, arith}
use Rattle.std.proofs.Math.Nat.{mod-lt}
use Rattle.live_desk.specs.Holder.{LiveDesk}
use Rattle.live_desk.proofs.Searches.{passes_more, ready_of, searched_full, searched_found, searched_set}
use Rattle.live_desk.proofs.desk.Live.settle.Goals as goal

pub exchange-found-requires-clause-ready : goal.exchange-found-requires-clause-ready
exchange-found-requires-clause-ready c =
    let size : c.from-size.result ≡ c.args.self.now.size = c.from-size.ensures ∙ ap (λ (d : LiveDesk). d.size) c.self.view_is in
    ready_of c.args.self.now.size c.from-size.result c.args.level c.args.code c.loop-tries.tries _ c.args.ticket.now c.args.seat.now c.loop-tries.seat size c.requires.begins c.loop-tries.invariant (omega (arith, size, c.loop-tries-test.true)) refl

pub returns-then-found-eq0 : goal.returns-then-found-eq0
returns-then-found-eq0 c =
    let size : c.from-size.result ≡ c.args.self.now.size = c.from-size.ensures ∙ ap (λ (d : LiveDesk). d.size) c.self.view_is in
    let some : 0 < c.from-size.result = omega arith in
    let within : (c.args.code % c.from-size.result + c.loop-tries.tries) % c.from-size.result < c.from-size.result = mod-lt _ some in
    searched_set c.args.self.now.size c.args.level c.args.code c.loop-tries.tries _ c.exchange-found.result c.args.ticket.now c.args.seat.now c.loop-tries.seat c.exchange-found.new.seat c.loop-tries.invariant c.exchange-found.ensures c.if-found-eq0.true (omega (arith, size, c.loop-tries-test.true)) (omega (arith, size, within))

pub returns-then-found-code : goal.returns-then-found-code
returns-then-found-code c =
    let size : c.from-size.result ≡ c.args.self.now.size = c.from-size.ensures ∙ ap (λ (d : LiveDesk). d.size) c.self.view_is in
    let some : 0 < c.from-size.result = omega arith in
    let within : (c.args.code % c.from-size.result + c.loop-tries.tries) % c.from-size.result < c.from-size.result = mod-lt _ some in
    searched_found c.args.self.now.size c.args.level c.args.code c.loop-tries.tries _ c.exchange-found.result c.args.ticket.now c.args.seat.now c.loop-tries.seat c.exchange-found.new.seat c.loop-tries.invariant c.exchange-found.ensures c.if-found-eq0.false c.if-found-code.true (omega (arith, size, c.loop-tries-test.true)) (omega (arith, size, within))

pub loop-tries-preserved : goal.loop-tries-preserved
loop-tries-preserved c =
    let size : c.from-size.result ≡ c.args.self.now.size = c.from-size.ensures ∙ ap (λ (d : LiveDesk). d.size) c.self.view_is in
    passes_more c.args.self.now.size c.from-size.result c.args.level c.args.code c.loop-tries.tries _ c.exchange-found.result c.args.ticket.now c.args.seat.now c.loop-tries.seat c.exchange-found.new.seat size c.loop-tries.invariant c.exchange-found.ensures c.if-found-eq0.false c.if-found-code.false refl

pub returns : goal.returns
returns c =
    let size : c.from-size.result ≡ c.args.self.now.size = c.from-size.ensures ∙ ap (λ (d : LiveDesk). d.size) c.self.view_is in
    searched_full c.args.self.now.size c.args.level c.args.code c.loop-tries.tries c.args.ticket.now c.args.seat.now c.loop-tries.seat (omega (arith, size, c.loop-tries-test.false, c.loop-tries.auto.tries-end)) c.loop-tries.invariant
