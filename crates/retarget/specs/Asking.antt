-- What signing did to the provider.
use Rattle.std.specs.Prelude.{◌≡◌, ⊤, ℕ, ◌+◌, ◌≤◌, false, true, Result}
use Rattle.stir_outside.specs.Count.{Rose}
use Rattle.stir_outside.specs.declared.provider.Provider.{Ghosts as ProviderOf}
use Rattle.retarget.specs.Answer.{names_provider}
use Rattle.retarget.specs.declared.fault.HopFault.{HopFault}
use Rattle.retarget.specs.declared.fault.HopFault.TheVariants as faults

-- it was asked at most once, and counted the failure that is answered, at signing
pub record IsAskedOnce {P X : Type 0} (provider : ProviderOf P) (before now : P)
    (result : Result X HopFault) : Type 0 where
  pub failed : names_provider result ≡ true → Rose (provider.faults before) (provider.faults now)
  pub failed_signing : names_provider result ≡ true → Rose (provider.sign_faults before) (provider.sign_faults now)
  pub asks : provider.asks now ≤ provider.asks before + 1
  pub asks_stay : provider.asks before ≤ provider.asks now

-- it wasn't asked, and no failure of it is answered
pub record IsLeftAlone {X : Type 0} (before now : ℕ) (result : Result X HopFault) : Type 0 where
  pub asks : now ≡ before
  pub unnamed : names_provider result ≡ false

-- it was asked about this many PASSporTs at most, and not to sign; and no failure at that is answered
pub record IsUnasked {X : Type 0} (judged before now : ℕ) (result : Result X HopFault) : Type 0 where
  pub asks : now ≤ before + judged
  pub unnamed : names_provider result ≡ false

-- of a call that doesn't pass it was asked about this many PASSporTs at most, and not to sign: questions of both kinds
-- have one count
abbrev pub AsksNoMore : ℕ → ℕ → ℕ → HopFault → Type 0
AsksNoMore judged before now (faults.Verdict verdict) = now ≤ before + judged
AsksNoMore judged before now faults.Target = ⊤
AsksNoMore judged before now faults.Loop = ⊤
AsksNoMore judged before now faults.Full = ⊤
AsksNoMore judged before now faults.Size = ⊤
AsksNoMore judged before now faults.Authority = ⊤
AsksNoMore judged before now (faults.NoSignature digest) = ⊤
AsksNoMore judged before now faults.Provider = ⊤
AsksNoMore judged before now faults.Memory = ⊤
