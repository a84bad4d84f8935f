-- The seats that are left join to what all join to.
use Rattle.std.proofs.Common.{◌≡◌, ◌<◌, ℕ, None, length, drop, map, slice_index_or}
use Rattle.verify_service.specs.Carrying.{IsOfDesk, joined_from}
use Rattle.verify_service.proofs.round_end.join_all.Given as goal

abbrev pub invariant-workers : goal.invariant-workers
invariant-workers g l = record {
  end : l.w-end ≡ length l.workers;
  counted : length l.workers ≡ length l.fn.workers;
  rest : drop l.w l.workers ≡ drop l.w l.fn.workers;
  desk : IsOfDesk l.desk l.seat;
  joined : joined_from l.seat (map (λ worker. worker.seat) (drop l.w l.fn.workers)) ≡ joined_from None (map (λ worker. worker.seat) l.fn.workers);
  outcomes : (w : ℕ) (d : _) → w < length l.fn.workers → (slice_index_or l.workers w d).outcomes ≡ (slice_index_or l.fn.workers w d).outcomes;
  providers : (w : ℕ) (d : _) → w < length l.fn.workers → (slice_index_or l.workers w d).provider ≡ (slice_index_or l.fn.workers w d).provider;
}
