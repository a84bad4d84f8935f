-- What is known of an answer, once it is known what the definition gives.
use Rattle.std.proofs.Common.{◌≡◌, Option, Some, None, Result, Ok, Err, sym, ◌∙◌}
use Rattle.lists.proofs.StepLaws.{inside}
use Rattle.lists.specs.Given.{Gives, IsFaultOf, IsMemory, IsOkUnlessMemory}

no_fault : {Y F : Type 0} (named : Option F) (read : Result Y F) (y : Y) → IsFaultOf named read → read ≡ Ok y → IsMemory named
no_fault None read y gives ok = tt
no_fault {Y} {F} (Some fault) read y gives ok = let e : ◌≡◌ {A = Result Y F} (Ok y) (Err fault) = sym ok ∙ gives in absurd cc

-- if the definition gives a value, the answer is this one
pub only_given : {X Y E F : Type 0} (fault_seen : E → Option F) (seen : X → Y) (result : Result X E) (read : Result Y F) (y : Y) → Gives fault_seen seen result read → read ≡ Ok y
    → IsOkUnlessMemory fault_seen result (λ x. seen x ≡ y)
only_given fault_seen seen (Ok x) read y gives ok = inside (seen x) y (sym gives ∙ ok)
only_given fault_seen seen (Err fault) read y gives ok = no_fault (fault_seen fault) read y gives ok
