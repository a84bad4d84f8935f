use Rattle.std.proofs.Common.{◌≡◌, ◌<◌, ◌%◌, ℕ, List, length, get_or, None, ap, subst, ◌∙◌, arith}
use Rattle.live_desk.specs.Holder.{Holder}
use Rattle.live_desk.specs.Closing.{Closing}
use Rattle.live_desk.specs.Lists.{whole}
use Rattle.once_run.specs.Claims.{AreClaims}
use Rattle.once_run.specs.Work.{claim_at}
use Rattle.once_run.specs.declared.worker.Worker.{Worker}
use Rattle.once_run.proofs.Gathered.{claims_of_all, whole_again}
use Rattle.once_run.proofs.Seats.{joined_desk}
use Rattle.once_run.proofs.claiming.claim_tickets.Goals as goal

pub close-requires-clause-desk : goal.close-requires-clause-desk
close-requires-clause-desk g c = ap (λ (h : Holder). h.desk) c.unseat_all.ensures ∙ (joined_desk c.seat_all.new.seat c.work_all.new.workers.items ∙ c.in_ok-workers.ensures.desk)

pub close-requires-clause-share : goal.close-requires-clause-share
close-requires-clause-share g c =
    let none : Worker = record { seat = None; claims = c.in_ok-claims.claims } in
    let some : 0 < length c.in_ok-workers.workers.items = omega (arith, c.in_ok-workers.ensures.counted, c.requires.some_workers) in
    ap (λ (h : Holder). h.share) c.unseat_all.ensures
    ∙ whole_again c.in_ok-desk.desk c.args.tickets.now c.seat_all.new.seat c.in_ok-workers.workers.items c.work_all.new.workers.items none c.in_ok-claims.claims.items some c.work_all.ensures.same c.work_all.ensures.carried
    (c.in_ok-workers.ensures.sets ∙ ap (λ (h : Holder). h.sets) c.in_ok-desk.ensures.1) c.in_ok-workers.ensures.desk whole c.in_ok-workers.ensures.shares

pub returns : goal.returns
returns g c =
    let none : Worker = record { seat = None; claims = c.in_ok-claims.claims } in
    let some : 0 < length c.in_ok-workers.workers.items = omega (arith, c.in_ok-workers.ensures.counted, c.requires.some_workers) in
    let room : length c.in_ok-claims.claims.items ≡ length c.args.tickets.now = omega (arith, c.in_ok-claims.ensures.len, c.in_ok-claims.claims.ok.0) in
    subst (λ (n : ℕ). AreClaims n c.args.tickets.now c.gather-claims.result.items) c.in_ok-desk.ensures.0
    (claims_of_all c.in_ok-desk.desk c.args.tickets.now c.seat_all.new.seat c.in_ok-workers.workers.items c.work_all.new.workers.items none c.gather-claims.result.items some c.work_all.ensures.same c.work_all.ensures.carried
    (c.in_ok-workers.ensures.sets ∙ ap (λ (h : Holder). h.sets) c.in_ok-desk.ensures.1) c.in_ok-workers.ensures.desk
    (c.gather-claims.ensures.same ∙ room)
    (λ i less. subst (λ (ws : List Worker). claim_at c.gather-claims.result.items i ≡ claim_at (get_or ws (i % length ws) none).claims.items i) c.deref.ensures.value (c.gather-claims.ensures.each i none (omega (arith, room, less))))
    (subst Closing c.unseat_all.ensures c.close.ensures))
