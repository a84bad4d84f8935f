use Rattle.std.proofs.Common.{◌≡◌, ◌≤◌, ◌+◌, ◌-◌, ◌/◌, ◌^◌, ◌++◌, ◌∷◌, [], ℕ, length, ap, ◌∙◌, arith}
use Rattle.std.proofs.lemmas.List.{length_push}
use Rattle.live_desk.specs.Holder.{Holder}
use Rattle.live_desk.specs.Lists.{total, whole}
use Rattle.once_run.specs.Work.{Seated, share_of}
use Rattle.once_run.proofs.Seats.{each_push, half_enough, shares_push}
use Rattle.once_run.proofs.seating.seat_all.Goals as goal

pub seat_one-requires-clause-share : goal.seat_one-requires-clause-share
seat_one-requires-clause-share c = (half_enough c.loop.counter (omega (arith, c.loop-test.true, c.requires.count)) c.loop.seat.share c.loop.invariant.enough).0

pub loop-preserved : goal.loop-preserved
loop-preserved c =
    let half = half_enough c.loop.counter (omega (arith, c.loop-test.true, c.requires.count)) c.loop.seat.share c.loop.invariant.enough in
    let left : c.seat_one.new.seat.share ≡ c.loop.seat.share - c.loop.seat.share / 2 = ap (λ (h : Holder). h.share) c.seat_one.ensures.left in
    let pushed : c.push.new.self.items ≡ c.loop.workers.items ++ c.in_ok-worker.worker ∷ [] = c.in_ok-push.ensures.items in
    let shares : total share_of c.push.new.self.items ≡ total share_of c.loop.workers.items + share_of c.in_ok-worker.worker = ap (total share_of) pushed ∙ shares_push c.loop.workers.items c.in_ok-worker.worker in
    let before : c.loop.seat.share + total share_of c.loop.workers.items ≡ whole = c.loop.invariant.shares in
    let mine : share_of c.in_ok-worker.worker ≡ c.loop.seat.share / 2 = c.in_ok-worker.ensures.share in
    let enough : 2 ^ (32 - (c.loop.counter + 1)) ≤ c.loop.seat.share - c.loop.seat.share / 2 = half.1 in
    record {
      desk = ap (λ (h : Holder). h.desk) c.seat_one.ensures.left ∙ c.loop.invariant.desk;
      sets = ap (λ (h : Holder). h.sets) c.seat_one.ensures.left ∙ c.loop.invariant.sets;
      counted = ap length pushed ∙ (length_push c.loop.workers.items c.in_ok-worker.worker ∙ ap (λ (n : ℕ). n + 1) c.loop.invariant.counted);
      seated = each_push (Seated c.args.desk.now c.args.tickets) c.loop.workers.items c.push.new.self.items c.in_ok-worker.worker pushed c.loop.invariant.seated c.in_ok-worker.ensures.seated;
      shares = omega arith;
      enough = omega arith;
    }
