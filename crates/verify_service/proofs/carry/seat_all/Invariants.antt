-- The seats that were given.
use Rattle.std.proofs.Common.{◌≡◌, ◌<◌, ◌+◌, ℕ, drop, length, vec_len, slice_index_or}
use Rattle.std.specs.List.{slice_get}
use Rattle.verify_service.proofs.carry.seat_all.Given as goal

abbrev pub invariant-workers : goal.invariant-workers
invariant-workers g l = record {
  end : l.w-end ≡ length l.workers;
  counted : length l.workers ≡ length l.fn.workers;
  many : vec_len l.seats + l.w ≡ length l.fn.workers;
  left : l.seats.items ≡ drop l.w l.fn.seats.items;
  given : (k : ℕ) (d : _) → k < l.w → (slice_index_or l.workers k d).seat ≡ slice_get l.fn.seats.items k;
  providers : (k : ℕ) (d : _) → k < length l.fn.workers → (slice_index_or l.workers k d).provider ≡ (slice_index_or l.fn.workers k d).provider;
}
