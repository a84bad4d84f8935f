-- What a provider's answers for a chain's signatures come to, as far as it answers, and what was asked of it.
use Rattle.std.specs.Prelude.{◌≡◌, ◌≢◌, ⊤, ℕ, suc, ◌+◌, ◌-◌, ◌≤◌, Bool, true, false, List, [], ◌∷◌, take, count_by}
use Rattle.std.specs.Prelude.{is_some, Option, Some, None, if◌then◌else◌}
use Rattle.std.specs.List.{slice_get}
use Rattle.stir_outside.specs.Count.{Rose, last_count}
use Rattle.x509_profile.specs.View.{CertView}
use Rattle.cert_store.specs.declared.judged.Asked.{Asked}
use Rattle.cert_store.specs.declared.judged.Asked.TheVariants.{NotAsked, Yes, No, Failed}
use Rattle.cert_store.specs.Rules.{Says}

-- the keys under which the signatures of certificates are asked for, in their order; none for one that isn't asked for
abbrev pub Keys : Type 0
Keys = List (Option (List ℕ))

-- ---- what is answered

-- the number of the first certificate whose signature isn't good under its key, if the first of all has this number
abbrev pub first_refused : Says → ℕ → List CertView → Keys → Option ℕ
first_refused says number [] keys = None
first_refused says number (c ∷ above) [] = None
first_refused says number (c ∷ above) (None ∷ keys) = first_refused says (suc number) above keys
first_refused says number (c ∷ above) (Some key ∷ keys) =
    if says key c.digest c.signature then first_refused says (suc number) above keys else Some number

-- the answer if no question fails, by the first certificate whose signature isn't good
abbrev pub asked_by : Option ℕ → Asked
asked_by None = Yes
asked_by (Some part) = No part

-- no signature before this one's is known not to be good
abbrev pub IsOpen : ℕ → Asked → Type 0
IsOpen part NotAsked = ⊥
IsOpen part Yes = ⊤
IsOpen part (No first) = part ≤ first
IsOpen part (Failed other) = ⊥

-- the answer is this one; or a question failed, and nothing was answered otherwise before
abbrev pub SoFar : Asked → Asked → Type 0
SoFar truth NotAsked = truth ≡ NotAsked
SoFar truth Yes = truth ≡ Yes
SoFar truth (No part) = truth ≡ No part
SoFar truth (Failed part) = IsOpen part truth

abbrev pub Answers : Says → List CertView → Keys → Asked → Type 0
Answers says chain keys asked = SoFar (asked_by (first_refused says 1 chain keys)) asked

-- ---- what is asked

-- the signature of the certificate of this number, counted from 1, is asked for: there is a key for it
pub record IsQuestion (keys : Keys) (part : ℕ) : Type 0 where
  pub key : List ℕ
  pub some : 1 ≤ part
  pub stands : slice_get keys (part - 1) ≡ Some (Some key)

-- what failed is a question
abbrev pub FailedAt : Keys → Asked → Type 0
FailedAt keys NotAsked = ⊤
FailedAt keys Yes = ⊤
FailedAt keys (No part) = ⊤
FailedAt keys (Failed part) = IsQuestion keys part

-- how many questions there are up to the certificate at which asking stopped
abbrev pub questions : Keys → Asked → ℕ
questions keys NotAsked = 0
questions keys Yes = count_by is_some keys
questions keys (No part) = count_by is_some (take part keys)
questions keys (Failed part) = count_by is_some (take part keys)

-- a count rose by exactly so many, or is at its last value
pub record RoseBy (times before now : ℕ) : Type 0 where
  pub never_falls : before ≤ now
  pub most : now ≤ before + times
  pub exact : now ≢ last_count → now ≡ before + times

-- the provider failed at a question
abbrev pub is_failed : Asked → Bool
is_failed NotAsked = false
is_failed Yes = false
is_failed (No part) = false
is_failed (Failed part) = true

-- a question failed only if the provider's count of faults rose
abbrev pub FailedWithCause : ℕ → ℕ → Asked → Type 0
FailedWithCause faults faults_now NotAsked = faults ≤ faults_now
FailedWithCause faults faults_now Yes = faults ≤ faults_now
FailedWithCause faults faults_now (No part) = faults ≤ faults_now
FailedWithCause faults faults_now (Failed part) = (faults ≤ faults_now) × Rose faults faults_now
