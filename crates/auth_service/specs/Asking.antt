-- What a call did to the provider that it asked.
use Rattle.std.specs.Prelude.{◌≡◌, ℕ, ◌+◌, ◌≤◌, true, false, Result}
use Rattle.stir_outside.specs.Count.{Rose}
use Rattle.stir_outside.specs.declared.provider.Provider.{Ghosts as ProviderOf}
use Rattle.auth_service.specs.Answer.{names_provider}
use Rattle.auth_service.specs.declared.fault.SignFault.{SignFault}

-- it was asked at most once, and if its failure is answered, it has counted one, at signing
pub record IsAskedOnce {P X : Type 0} (provider : ProviderOf P) (before now : P)
    (result : Result X SignFault) : Type 0 where
  pub failed : names_provider result ≡ true → Rose (provider.faults before) (provider.faults now)
  pub failed_signing : names_provider result ≡ true → Rose (provider.sign_faults before) (provider.sign_faults now)
  pub asks : provider.asks now ≤ provider.asks before + 1
  pub asks_stay : provider.asks before ≤ provider.asks now

-- it wasn't asked, and no failure of it is answered
pub record IsLeftAlone {X : Type 0} (before now : ℕ) (result : Result X SignFault) : Type 0 where
  pub asks : now ≡ before
  pub unnamed : names_provider result ≡ false
