-- Where the rules of the chains are broken, in words: at the first PASSporT, in the order in which the call went, of
-- which the rule doesn't hold; and in it at the first certificate, if the rule speaks of certificates. And at what a
-- call is set aside.
use Rattle.std.specs.Prelude.{◌≡◌, ⊤, ◌⊎◌, ℕ, ◌<◌, ◌≤◌, List, length, take, Option, Some}
use Rattle.std.specs.List.{slice_get}
use Rattle.x509_profile.specs.View.{CertView}
use Rattle.delegation.specs.PathFaults.{IsFirstFault}
use Rattle.cert_store.specs.ChainMap.{listed}
use Rattle.cert_store.specs.Words.{IsAuthorized, IsBrokenAt, IsFirstBroken, IsSigned, IsValid}
use Rattle.verify_rules.specs.Call.{Call, Reading, in_call_order}
use Rattle.verify_rules.specs.LateWords.{HasAuthority, HasChain, HasFile, HasPath, IsAllowed, IsAnchored, IsCertified}
use Rattle.verify_rules.specs.LateWords.{IsCovered, IsGenuine, IsInDate, IsInProfile, IsListed, MeetsAt}
use Rattle.verify_rules.specs.Places.{AtFirst, NoPart}
use Rattle.verify_rules.specs.Rules.{place}
use Rattle.verify_rules.specs.Words.{Each}
use Rattle.verify_rules.specs.World.{World}
use Rattle.verify_rules.specs.declared.refusal.Place.{Place}
use Rattle.verify_rules.specs.declared.refusal.Refusal.{Refusal}
use Rattle.verify_rules.specs.declared.verdict.Verdict.{Verdict}
use Rattle.verify_rules.specs.declared.verdict.Verdict.TheVariants.{Passed, Refused, Unread, Unasked}

-- 11: the file is too long, and the part is 0; else it is the number of the first certificate that is none of the
-- profile, or is a seventh one
pub record IsOutsideAt (world : World) (one : Reading) (part : ℕ) : Type 0 where
  pub bytes : List ℕ
  pub has_file : HasFile world one bytes
  pub broken : IsBrokenAt bytes part

-- 12: where what is wrong first with a path is wrong
pub record IsUnanchoredAt (world : World) (one : Reading) (part : ℕ) : Type 0 where
  pub chain : List CertView
  pub has_chain : HasChain world one chain
  pub kind : ℕ
  pub fault : IsFirstFault chain world.anchors kind part

-- 13 to 15: the first certificate of the path of which it doesn't hold
pub record IsFirstOnPath (world : World) (Holds : List CertView → Option ℕ → ℕ → Type 0)
    (one : Reading) (part : ℕ) : Type 0 where
  pub chain : List CertView
  pub anchor : Option ℕ
  pub path : HasPath world one chain anchor
  pub first : IsFirstBroken (Holds chain anchor) (length chain) (Some part)

-- 19: the first certificate of the chain that has constraints which the payload doesn't meet
pub record IsFirstUnmet (world : World) (one : Reading) (part : ℕ) : Type 0 where
  pub chain : List CertView
  pub has_chain : HasChain world one chain
  pub first : IsFirstBroken (MeetsAt one chain) (length chain) (Some part)

-- where each rule is broken, if it is the one that refuses the call
pub record IsPlacedLate (world : World) (call : Call) (refused : Refusal) : Type 0 where
  pub files : refused.rule ≡ 10 → AtFirst (IsListed world) NoPart (in_call_order call) refused.place
  pub profile : refused.rule ≡ 11 → AtFirst (IsInProfile world) (IsOutsideAt world) (in_call_order call) refused.place
  pub paths : refused.rule ≡ 12 → AtFirst (IsAnchored world) (IsUnanchoredAt world) (in_call_order call) refused.place
  pub dates : refused.rule ≡ 13 → AtFirst (IsInDate world call.moment)
      (IsFirstOnPath world (λ chain anchor. IsValid world.anchors call.moment chain)) (in_call_order call) refused.place
  pub authority : refused.rule ≡ 14 → AtFirst (HasAuthority world) (IsFirstOnPath world
      (λ chain anchor. IsAuthorized world.table world.anchors anchor chain)) (in_call_order call) refused.place
  pub certificates : refused.rule ≡ 15 → AtFirst (IsCertified world) (IsFirstOnPath world
      (λ chain anchor. IsSigned world.says world.anchors anchor chain)) (in_call_order call) refused.place
  pub signatures : refused.rule ≡ 16 → AtFirst (IsGenuine world) NoPart (in_call_order call) refused.place
  pub coverage : refused.rule ≡ 17 → AtFirst (IsCovered world) NoPart (in_call_order call) refused.place
  pub constraints : refused.rule ≡ 19
      → AtFirst (IsAllowed world) (IsFirstUnmet world) (in_call_order call) refused.place

-- ---- what sets a call aside, in words

-- a file is listed for the x5u of the PASSporT there, and for that of each before it one is listed and is there
pub record UnreadAt (world : World) (call : Call) (bad : Place) : Type 0 where
  pub at : ℕ
  pub here : Reading
  pub is : slice_get (in_call_order call) at ≡ Some here
  pub stands : bad ≡ place here.mark.field 0
  pub name : List ℕ
  pub named : listed world.chains here.passport.x5u ≡ Some name
  pub before : Each (IsListed world) (take at (in_call_order call))

-- rule 15 holds for each PASSporT before the one there, and for each certificate of its path before the one there
pub record UnaskedAtChain (world : World) (call : Call) (bad : Place) : Type 0 where
  pub at : ℕ
  pub here : Reading
  pub is : slice_get (in_call_order call) at ≡ Some here
  pub part : ℕ
  pub some : 1 ≤ part
  pub stands : bad ≡ place here.mark.field part
  pub before : Each (IsCertified world) (take at (in_call_order call))
  pub chain : List CertView
  pub anchor : Option ℕ
  pub path : HasPath world here chain anchor
  pub certificates : (number : ℕ) → 1 ≤ number → number < part → number ≤ length chain
      → IsSigned world.says world.anchors anchor chain number

-- rule 15 holds, and rule 16 for each PASSporT before the one there
pub record UnaskedAtPassport (world : World) (call : Call) (bad : Place) : Type 0 where
  pub at : ℕ
  pub here : Reading
  pub is : slice_get (in_call_order call) at ≡ Some here
  pub stands : bad ≡ place here.mark.field 0
  pub certified : Each (IsCertified world) (in_call_order call)
  pub before : Each (IsGenuine world) (take at (in_call_order call))

-- where the rule is broken that refuses the call, and at what a call is set aside
abbrev pub SpeaksOfLatePlace : World → Call → Verdict → Type 0
SpeaksOfLatePlace world call Passed = ⊤
SpeaksOfLatePlace world call (Refused refused) = IsPlacedLate world call refused
SpeaksOfLatePlace world call (Unread bad) = UnreadAt world call bad
SpeaksOfLatePlace world call (Unasked bad) = UnaskedAtChain world call bad ⊎ UnaskedAtPassport world call bad
