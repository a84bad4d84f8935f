-- What is said of several workers.
use Rattle.std.specs.Prelude.{◌≡◌, ℕ, ◌<◌, List, length, slice_index_or}
use Rattle.stir_outside.specs.declared.provider.Provider.{Ghosts as ProviderOf}
use Rattle.verify_service.specs.declared.worker.Worker.{Worker}

-- this is said of each, by its index and by what it was before and is now
abbrev pub EachWorker : {P G : Type 0} → List (Worker P G) → List (Worker P G)
    → (ℕ → Worker P G → Worker P G → Type 0) → Type 0
EachWorker workers workers_now said = (w : ℕ) (d : _) → w < length workers
    → said w (slice_index_or workers w d) (slice_index_or workers_now w d)

-- the providers of all say the same
abbrev pub SayTheSame : {P G : Type 0} → ProviderOf P → List (Worker P G) → Type 0
SayTheSame provider workers = (w : ℕ) (d : _) → w < length workers
    → provider.says (slice_index_or workers w d).provider ≡ provider.says (slice_index_or workers 0 d).provider
