-- A batch joins those before it, whatever state the command came from.
use Rattle.std.proofs.Common.{◌≡◌, ℕ, ◌≤◌, ◌++◌, Option, subst}
use Rattle.log_run.specs.Streams.{Streams}
use Rattle.stir_outside.specs.Files.{Counts, Files}
use Rattle.log_run.specs.Commands.{Behind, From, Stopping}
use Rattle.log_run.specs.Running.{At, RunEnd, RunsOn, RunsOut}
use Rattle.log_run.proofs.RunLaws.{on_both, out_behind}

-- one batch more, with that of which nothing else is said
abbrev pub OnFrom : {X : Type 0} → Behind X → ℕ → X → X → Counts → Counts → Option Files → At → At → Streams → Streams → Type 0
OnFrom {X} behind most one other c d files b e t u = From behind one c files (λ first before batches. RunsOn most (λ more. behind first before other d files (batches ++ more)) b e t u)

abbrev pub OutFrom : {X : Type 0} → Behind X → Stopping X → ℕ → X → X → Counts → Counts → Option Files → At → At → Streams → Streams → RunEnd → Type 0
OutFrom {X} behind stopped most one other c d files b e t u ended = From behind one c files (λ first before batches.
    RunsOut most (λ more. behind first before other d files (batches ++ more)) (λ more. stopped first before other d files (batches ++ more)) b e t u ended)

pub on_joined : {X : Type 0} (behind : Behind X) (most most_now : ℕ) (first one other : X) (before c d : Counts) (files files_now : Option Files) (a b e : At) (s t u : Streams) → most_now ≡ most → files_now ≡ files
    → RunsOn most (behind first before one c files) a b s t → OnFrom behind most_now one other c d files_now b e t u → RunsOn most (behind first before other d files) a e s u
on_joined {X} behind most most_now first one other before c d files files_now a b e s t u same told f later =
    let by_most = subst (λ (m : ℕ). OnFrom behind m one other c d files_now b e t u) same later in
    let by_files = subst (λ (x : Option Files). OnFrom behind most one other c d x b e t u) told by_most in
    on_both most (behind first before one c files) (behind first before other d files) a b e s t u f (by_files first before f.batches f.known)

pub out_joined : {X : Type 0} (behind : Behind X) (stopped : Stopping X) (most most_now : ℕ) (first one other : X) (before c d : Counts) (files files_now : Option Files) (a b e : At) (s t u : Streams) (ended : RunEnd)
    → 1 ≤ most_now → most_now ≡ most → files_now ≡ files → RunsOn most (behind first before one c files) a b s t → OutFrom behind stopped most_now one other c d files_now b e t u ended
    → RunsOut most (behind first before other d files) (stopped first before other d files) a e s u ended
out_joined {X} behind stopped most most_now first one other before c d files files_now a b e s t u ended some same told f later =
    let by_most = subst (λ (m : ℕ). OutFrom behind stopped m one other c d files_now b e t u ended) same later in
    let by_files = subst (λ (x : Option Files). OutFrom behind stopped most one other c d x b e t u ended) told by_most in
    out_behind most (behind first before one c files) (behind first before other d files) (stopped first before other d files) a b e s t u ended (subst (λ (m : ℕ). 1 ≤ m) same some) f
    (by_files first before f.batches f.known)
