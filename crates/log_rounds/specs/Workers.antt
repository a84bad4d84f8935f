-- The workers of a round, each with a provider of signatures over one answers file.
use Rattle.std.specs.Prelude.{◌≡◌, ◌<◌, ℕ, List, length, slice_index_or}
use Rattle.stir_outside.specs.Held.{Held}
use Rattle.stir_outside.specs.Provided.{SteadyState}
use Rattle.verify_service.specs.declared.worker.Worker.{Worker}

abbrev pub AnswerBy : {G : Type 0} → Held → List (Worker SteadyState G) → Type 0
AnswerBy answers workers = (w : ℕ) (d : _) → w < length workers → (slice_index_or workers w d).provider.held ≡ answers
