-- What comes of an open call that is to go on, by a signature that is handed in, or by none.
use Rattle.std.specs.Prelude.{◌≡◌, ◌≢◌, ⊤, ◌⊎◌, ℕ, ◌≤◌, false, List, length, Option, Some}
use Rattle.auth_service.specs.Order.{HolderView}
use Rattle.open_calls.specs.OpenCalls.{refused_early}
use Rattle.open_calls.specs.Key.{HasNoHolder, IsHolderOf}
use Rattle.open_calls.specs.Signing.{signs_of}
use Rattle.open_calls.specs.declared.unsigned.Unread.{Unread}
use Rattle.open_calls.specs.declared.unsigned.Unread.TheVariants as unread
use Rattle.retarget.specs.Answer.{number_of}
use Rattle.retarget.specs.Hop.{HopView, is_hop}
use Rattle.retarget.specs.declared.fault.HopFault.{HopFault}
use Rattle.retarget.specs.declared.fault.HopFault.TheVariants as faults
use Rattle.verify_rules.specs.declared.refusal.Refusal.{Refusal}
use Rattle.verify_rules.specs.declared.verdict.Verdict.{Verdict}
use Rattle.verify_rules.specs.declared.verdict.Verdict.TheVariants as verdicts
use Rattle.open_calls.specs.Going.{Given, Going, IsGoing, IsHopOf, hop_in, key_in}
use Rattle.open_calls.specs.Onward.{IsHeld, IsOnward}
use Rattle.open_calls.specs.declared.unmoved.Unmoved.{Unmoved}
use Rattle.open_calls.specs.declared.unmoved.Unmoved.TheVariants as unmoved

-- ---- by the gateway's answer

-- nothing is left open, and no failure of the provider is named
abbrev pub IsVerdictNamed : Verdict → Type 0
IsVerdictNamed verdicts.Passed = ⊥
IsVerdictNamed (verdicts.Refused refused) = ⊤
IsVerdictNamed (verdicts.Unread bad) = ⊥
IsVerdictNamed (verdicts.Unasked bad) = ⊥

abbrev pub IsNamed : HopFault → Type 0
IsNamed (faults.Verdict verdict) = IsVerdictNamed verdict
IsNamed faults.Target = ⊤
IsNamed faults.Loop = ⊤
IsNamed faults.Full = ⊤
IsNamed faults.Size = ⊤
IsNamed faults.Authority = ⊤
IsNamed (faults.NoSignature digest) = ⊤
IsNamed faults.Provider = ⊥
IsNamed faults.Memory = ⊤

abbrev pub unmoved_by_verdict : Verdict → Unmoved
unmoved_by_verdict verdicts.Passed = unmoved.Input unread.Memory
unmoved_by_verdict (verdicts.Refused refused) = unmoved.Refused refused
unmoved_by_verdict (verdicts.Unread bad) = unmoved.Input unread.Memory
unmoved_by_verdict (verdicts.Unasked bad) = unmoved.Input unread.Memory

abbrev pub unmoved_of : HopFault → Unmoved
unmoved_of (faults.Verdict verdict) = unmoved_by_verdict verdict
unmoved_of faults.Target = unmoved.Held 21
unmoved_of faults.Loop = unmoved.Held 22
unmoved_of faults.Full = unmoved.Held 23
unmoved_of faults.Size = unmoved.Held 24
unmoved_of faults.Authority = unmoved.Held 25
unmoved_of (faults.NoSignature digest) = unmoved.Digest digest
unmoved_of faults.Provider = unmoved.Input unread.Memory
unmoved_of faults.Memory = unmoved.Input unread.Memory

-- ---- what comes of what is handed in

-- the gateway goes by what was handed in, and this goes on
pub record IsMovedBy (given : Given) (made : Option (List ℕ)) (out : List ℕ) : Type 0 where
  pub going : Going
  pub going_is : IsGoing given going
  pub onward : IsOnward going (signs_of made) out

-- it goes by it, and this fault comes
pub record IsHeldBy (given : Given) (made : Option (List ℕ)) (fault : HopFault) : Type 0 where
  pub going : Going
  pub going_is : IsGoing given going
  pub held : IsHeld going (signs_of made) fault

-- the call breaks this rule first: one of the rules of the call, or by the gateway's verdict one of the rules of the
-- chains
pub record IsRefusedEarly (given : Given) (refused : Refusal) : Type 0 where
  pub hop : HopView
  pub holder : HolderView
  pub by : IsHopOf given hop holder
  pub early : refused_early given.call ≡ Some refused

abbrev pub IsRefusedBy : Given → Option (List ℕ) → Refusal → Type 0
IsRefusedBy given made refused =
    IsRefusedEarly given refused ⊎ IsHeldBy given made (faults.Verdict (verdicts.Refused refused))

-- one of the faults 21 to 25 comes, which its number names
pub record IsHeldAs (given : Given) (made : Option (List ℕ)) (number : ℕ) : Type 0 where
  pub fault : HopFault
  pub number_is : number_of fault ≡ Some number
  pub least : 21 ≤ number
  pub most : number ≤ 25
  pub held : IsHeldBy given made fault

-- the certificate has an authority list, and the URI or the second isn't of its form
pub record IsBadTarget (given : Given) : Type 0 where
  pub holder : HolderView
  pub holder_is : IsHolderOf (key_in given) holder
  pub wrong : is_hop (hop_in given) ≡ false

-- Which input is at fault; memory may always run out.
abbrev pub IsUnread : Given → Unread → Type 0
IsUnread given unread.Certificate = HasNoHolder (key_in given)
IsUnread given unread.Order = IsBadTarget given
IsUnread given unread.Signature = ⊥
IsUnread given unread.Memory = ⊤

abbrev pub IsUnmovedFor : Given → Option (List ℕ) → Unmoved → Type 0
IsUnmovedFor given made (unmoved.Input fault) = IsUnread given fault
IsUnmovedFor given made (unmoved.Refused refused) = IsRefusedBy given made refused
IsUnmovedFor given made (unmoved.Held number) = IsHeldAs given made number
IsUnmovedFor given made (unmoved.Digest digest) = IsHeldBy given made (faults.NoSignature digest)

-- ---- with the bytes of a signature

-- these aren't as many bytes as a signature has; or they are, and another input is at fault; or memory ran out
abbrev pub IsUnreadWith : Given → List ℕ → Unread → Type 0
IsUnreadWith given signature fault = ((fault ≡ unread.Signature) × (length signature ≢ 64))
    ⊎ ((length signature ≡ 64) × IsUnread given fault) ⊎ (fault ≡ unread.Memory)

abbrev pub IsUnmovedWith : Given → List ℕ → Unmoved → Type 0
IsUnmovedWith given signature (unmoved.Input fault) = IsUnreadWith given signature fault
IsUnmovedWith given signature (unmoved.Refused refused) = IsRefusedBy given (Some signature) refused
IsUnmovedWith given signature (unmoved.Held number) = IsHeldAs given (Some signature) number
IsUnmovedWith given signature (unmoved.Digest digest) = ⊥
