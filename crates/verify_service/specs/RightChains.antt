-- The chains that are held or kept are right, and those that a round needs are there.
use Rattle.std.specs.Prelude.{◌≡◌, ℕ, true, ◌||◌, ◌⊎◌, List, length, filter, is_some, Option, Some}
use Rattle.cert_store.specs.Asking.{FailedAt}
use Rattle.cert_store.specs.ChainMap.{listed}
use Rattle.cert_store.specs.Files.{Files as ChainFiles}
use Rattle.cert_store.specs.Holding.{Chains, chain_of}
use Rattle.cert_store.specs.Judged.{JudgedView}
use Rattle.cert_store.specs.Rules.{Says}
use Rattle.cert_store.specs.Using.{HeldUnless, has}
use Rattle.cert_store.specs.declared.world.World.{World as Materials}
use Rattle.stir_outside.specs.Files.{Files}
use Rattle.verify_rules.specs.States.{State, have}
use Rattle.call_judging.specs.Chains.{IsRightWhere}
use Rattle.verify_service.specs.Kept.{Kept, kept_state}

-- Each chain that is held or kept is what the rules say of it, over the files that a shelf tells, as far as its
-- questions were answered.
pub record AreRightHeld (told : Option Files) (materials : Materials) (says : Says) (held : Chains)
    (kept : Kept) : Type 0 where
  pub cached : (x5u : List ℕ) (judged : JudgedView) → chain_of x5u held ≡ Some judged
      → IsRightWhere told materials says x5u (have judged)
  pub others : (x5u : List ℕ) (state : State) → kept_state x5u kept ≡ Some state
      → IsRightWhere told materials says x5u state

-- its chain is kept or held, if a file is listed for it
abbrev pub IsThere : ChainFiles → Chains → Kept → List ℕ → Type 0
IsThere files held kept x5u = is_some (listed files x5u) ≡ true
    → (is_some (kept_state x5u kept) || is_some (chain_of x5u held)) ≡ true

-- the same of each of these
abbrev pub AreThere : ChainFiles → Chains → Kept → List (List ℕ) → Type 0
AreThere files held kept texts = (x5u : List ℕ) → has x5u texts ≡ true → IsThere files held kept x5u

-- if a question of a chain that is kept failed, it is the question of a certificate
abbrev pub FailAtQuestions : Kept → Type 0
FailAtQuestions kept = (x5u : List ℕ) (judged : JudgedView) → kept_state x5u kept ≡ Some (have judged)
    → FailedAt judged.keys judged.asked

-- its chain is kept; or it is held, unless as many others were used since as there may be chains
abbrev pub IsThereUnless : ℕ → List (List ℕ) → Chains → Kept → List ℕ → Type 0
IsThereUnless capacity used held kept x5u = (is_some (kept_state x5u kept) ≡ true) ⊎ HeldUnless capacity used x5u held

-- how many of these are held
abbrev pub held_count : Chains → List (List ℕ) → ℕ
held_count held texts = length (filter (λ x5u. is_some (chain_of x5u held)) texts)
