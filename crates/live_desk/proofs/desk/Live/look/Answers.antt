use Rattle.std.proofs.Common.{◌≡◌, ◌<◌, ◌+◌, ◌%◌, refl, ap, ◌∙◌, arith}
use Rattle.std.proofs.Math.Nat.{mod-lt}
use Rattle.live_desk.specs.Holder.{LiveDesk}
use Rattle.live_desk.proofs.Sights.{looked_blank, looked_found, looked_missing, sees_more}
use Rattle.live_desk.proofs.desk.Live.look.Goals as goal

pub returns-then-found-eq0 : goal.returns-then-found-eq0
returns-then-found-eq0 c =
    let size : c.from-size.result ≡ c.args.self.now.size = c.from-size.ensures ∙ ap (λ (d : LiveDesk). d.size) c.self.view_is in
    looked_blank c.args.self.now.size c.from-size.result c.args.level c.args.code c.loop-tries.tries _ c.load-found.result c.args.seat.now c.loop-tries.seat c.load-found.new.seat size c.loop-tries.invariant c.load-found.ensures c.if-found-eq0.true (omega (arith, size, c.loop-tries-test.true)) refl

pub returns-then-found-code : goal.returns-then-found-code
returns-then-found-code c =
    let size : c.from-size.result ≡ c.args.self.now.size = c.from-size.ensures ∙ ap (λ (d : LiveDesk). d.size) c.self.view_is in
    let some : 0 < c.from-size.result = omega arith in
    let within : (c.args.code % c.from-size.result + c.loop-tries.tries) % c.from-size.result < c.from-size.result = mod-lt _ some in
    looked_found c.args.self.now.size c.args.level c.args.code c.loop-tries.tries _ c.load-found.result c.args.seat.now c.loop-tries.seat c.load-found.new.seat c.loop-tries.invariant c.load-found.ensures c.if-found-eq0.false c.if-found-code.true (omega (arith, size, c.loop-tries-test.true)) (omega (arith, size, within))

pub loop-tries-preserved : goal.loop-tries-preserved
loop-tries-preserved c =
    let size : c.from-size.result ≡ c.args.self.now.size = c.from-size.ensures ∙ ap (λ (d : LiveDesk). d.size) c.self.view_is in
    sees_more c.args.self.now.size c.from-size.result c.args.level c.args.code c.loop-tries.tries _ c.load-found.result c.args.seat.now c.loop-tries.seat c.load-found.new.seat size c.loop-tries.invariant c.load-found.ensures c.if-found-eq0.false c.if-found-code.false refl

pub returns : goal.returns
returns c =
    let size : c.from-size.result ≡ c.args.self.now.size = c.from-size.ensures ∙ ap (λ (d : LiveDesk). d.size) c.self.view_is in
    looked_missing c.args.self.now.size c.args.level c.args.code c.loop-tries.tries c.args.seat.now c.loop-tries.seat (omega (arith, size, c.loop-tries-test.false, c.loop-tries.auto.tries-end)) c.loop-tries.invariant
