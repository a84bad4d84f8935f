-- What a provider over an answers file is seen as.
use Rattle.std.specs.Prelude.{◌≡◌, ℕ, ◌≤◌, List, Result, is_err}
use Rattle.stir_outside.specs.Count.{HasCause, faults_after, one_more}
use Rattle.stir_outside.specs.Held.{Held}
use Rattle.stir_outside.specs.Memory.{is_failing}

-- what it answers, the calls that are to fail, and the counts of calls, of faults, and of faults at signing
pub record ProviderState : Type 0 where
  pub held : Held
  pub failing : List ℕ
  pub asks : ℕ
  pub faults : ℕ
  pub sign_faults : ℕ

-- what a provider that never fails answers, and the count of calls
pub record SteadyState : Type 0 where
  pub held : Held
  pub asks : ℕ

-- a call was counted, and failed if it is listed
pub record Asked {T E : Type 0} (before now : ProviderState) (result : Result T E) : Type 0 where
  pub held : now.held ≡ before.held
  pub failing : now.failing ≡ before.failing
  pub asks : now.asks ≡ one_more before.asks
  pub asks_stay : before.asks ≤ now.asks
  pub cause : HasCause before.faults now.faults result
  pub fails : is_err result ≡ is_failing before.asks before.failing
  pub faults : now.faults ≡ faults_after before.faults result
