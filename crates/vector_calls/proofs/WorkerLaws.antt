-- Workers whose providers say the same.
use Rattle.std.proofs.Common.{◌≡◌, ℕ, zero, suc, ◌<◌, List, [], ◌∷◌, ◌++◌, length, get_or, refl, sym, ◌∙◌, arith}
use Rattle.cert_store.specs.Rules.{Says}
use Rattle.stir_outside.specs.Held.{held_says}
use Rattle.stir_outside.specs.Provided.{ProviderState}
use Rattle.vector_calls.specs.Workers.{SaySame}
use Rattle.verify_service.specs.declared.worker.Worker.{Worker}

-- each says this
abbrev pub SayThis : {G : Type 0} → Says → List (Worker ProviderState G) → Type 0
SayThis says workers = (w : ℕ) (d : _) → w < length workers → held_says (get_or workers w d).provider.held ≡ says

pub say_none : {G : Type 0} (says : Says) → SayThis {G = G} says []
say_none says w d less = absurd (omega arith)

pub say_more : {G : Type 0} (says : Says) (workers : List (Worker ProviderState G)) (one : Worker ProviderState G) → SayThis says workers → held_says one.provider.held ≡ says
    → SayThis says (workers ++ one ∷ [])
say_more says [] one each is zero d less = is
say_more says [] one each is (suc w) d less = absurd (omega arith)
say_more says (x ∷ xs) one each is zero d less = each 0 d (omega arith)
say_more says (x ∷ xs) one each is (suc w) d less = say_more says xs one (λ k e under. each (suc k) e (omega arith)) is w d (omega arith)

pub say_same : {G : Type 0} (says : Says) (workers : List (Worker ProviderState G)) → SayThis says workers → SaySame workers
say_same says workers each w d less = each w d less ∙ sym (each 0 d (omega arith))

-- what each says stays, so they say the same still
pub say_still : {G : Type 0} (before now : List (Worker ProviderState G)) → length now ≡ length before → SaySame before
    → ((w : ℕ) (d : Worker ProviderState G) → w < length before → held_says (get_or now w d).provider.held ≡ held_says (get_or before w d).provider.held) → SaySame now
say_still before now counted same stays w d less = stays w d (omega (arith, counted, less)) ∙ same w d (omega (arith, counted, less)) ∙ sym (stays 0 d (omega (arith, counted, less)))

pub say_two : {G : Type 0} (says : Says) (one two : Worker ProviderState G) → held_says one.provider.held ≡ says → held_says two.provider.held ≡ says → SaySame (one ∷ two ∷ [])
say_two says one two is are = say_same says (one ∷ two ∷ []) (say_more says (one ∷ []) two (say_more says [] one (say_none says) is) are)

pub say_one : {G : Type 0} (one : Worker ProviderState G) → SaySame (one ∷ [])
say_one one zero d less = refl
say_one one (suc w) d less = absurd (omega arith)
