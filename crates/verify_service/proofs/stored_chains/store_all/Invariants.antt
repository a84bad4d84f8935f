-- The chains so far were stored; the places of the others have what was judged. Worker w has place k * W + w as its k-th, if there are W workers.
use Rattle.std.proofs.Common.{◌≡◌, ◌+◌, ◌*◌, ◌<◌, ◌≤◌, ℕ, None, length, get_or, slice_index_or, take}
use Rattle.verify_service.specs.RoundRead.{StoresAll, states_from}
use Rattle.verify_service.specs.WorkerChains.{chain_at}
use Rattle.verify_service.proofs.stored_chains.store_all.Given as goal

abbrev pub invariant-files : goal.invariant-files
invariant-files g l = record {
  counted : length l.workers ≡ length l.fn.workers;
  stored : (d : _) → StoresAll (take l.place l.texts)
      (take l.place (states_from 0 (chain_at (λ w. (slice_index_or l.fn.workers w d).judged.items) (length l.fn.workers)) l.files)) l.fn.cache l.cache l.fn.kept l.kept;
  capacity : l.cache.capacity ≡ l.fn.cache.capacity;
  others : (d : _) (w : ℕ) → w < length l.workers → (k : ℕ) → l.place ≤ k * length l.fn.workers + w
      → get_or (slice_index_or l.workers w d).judged.items k None ≡ get_or (slice_index_or l.fn.workers w d).judged.items k None;
  same : (d : _) (w : ℕ) → w < length l.workers → (slice_index_or l.workers w d).provider ≡ (slice_index_or l.fn.workers w d).provider;
}
