-- Workers whose providers say the same.
use Rattle.std.specs.Prelude.{◌≡◌, ◌<◌, ℕ, List, length, slice_index_or}
use Rattle.stir_outside.specs.Held.{held_says}
use Rattle.stir_outside.specs.Provided.{ProviderState}
use Rattle.verify_service.specs.declared.worker.Worker.{Worker}

abbrev pub SaySame : {G : Type 0} → List (Worker ProviderState G) → Type 0
SaySame workers = (w : ℕ) (d : _) → w < length workers
    → held_says (slice_index_or workers w d).provider.held ≡ held_says (slice_index_or workers 0 d).provider.held
