-- Counts of what went wrong outside. A count is kept in 64 bits, never falls, and stays at its last value.
use Rattle.std.specs.Prelude.{◌≡◌, ◌≢◌, ℕ, ◌+◌, ◌-◌, ◌^◌, ◌<◌, ◌≤◌, ◌⊎◌, min, max, Result, OnErr, is_err, if◌then◌else◌}

-- the last value of a count
abbrev pub last_count : ℕ
last_count = 2 ^ 64 - 1

-- the count after one more event
abbrev pub one_more : ℕ → ℕ
one_more count = min (count + 1) last_count

-- the count after a call: one more if the call failed, and else as it was
abbrev pub faults_after : {T E : Type 0} → ℕ → Result T E → ℕ
faults_after count result = if is_err result then one_more count else count

-- the count of calls that succeeded: one more after one that did, and else as it was
abbrev pub reads_after : {T E : Type 0} → ℕ → Result T E → ℕ
reads_after count result = if is_err result then count else one_more count

-- a count that rose, or that is at its last value
abbrev pub Rose : ℕ → ℕ → Type 0
Rose before now = now ≢ last_count → before < now

-- a count that stayed as it was, below its last value
pub record NotRisen (before now : ℕ) : Type 0 where
  pub same : now ≡ before
  pub below_last : before ≢ last_count

-- at most as many events as the count rose by, unless it is at its last value
abbrev pub AtMost : ℕ → ℕ → ℕ → Type 0
AtMost events before now = (events + before ≤ now) ⊎ (last_count ≤ now)

-- a count that neither fell nor passed its last value
pub record GoesOn (before now : ℕ) : Type 0 where
  pub never_falls : before ≤ now
  pub within : now ≤ max before last_count

-- a call kept the count from falling and from passing its last value, and answered a fault only if it rose
pub record HasCause {T E : Type 0} (before now : ℕ) (result : Result T E) : Type 0 where
  pub never_falls : before ≤ now
  pub within : now ≤ max before last_count
  pub rose : OnErr result (Rose before now)
