-- What comes of an open call, from what the gateway answers.
use Rattle.std.proofs.Common.{◌≡◌, ℕ, List, length, map, Option, Some, None, Ok, inl, inr, refl, sym, ◌∙◌, ap, subst, arith}
use Rattle.std.specs.Prelude.{⊤, IsTrue}
use Rattle.std.proofs.lemmas.List.{length-map}
use Rattle.open_calls.specs.OpenCalls.{CallView, IsEarly, call_in, judged_in, unless_refused}
use Rattle.open_calls.specs.OpenChains.{ChainView, state_or_none, states_of}
use Rattle.open_calls.specs.Confirmed.{ConfirmedView, confirmed, says_by}
use Rattle.open_calls.specs.OwnQuestions.{own_asked}
use Rattle.cert_store.specs.Questions.{seen}
use Rattle.cert_store.specs.Rules.{QuestionView}
use Rattle.cert_store.specs.declared.judged.Question.{Question}
use Rattle.delegation.specs.Coverage.{Table}
use Rattle.tn_values.specs.Local.{LocalView}
use Rattle.x509_profile.specs.View.{CertView}
use Rattle.open_calls.specs.Key.{HasNoHolder, IsHolderOf}
use Rattle.open_calls.specs.Signing.{signature_in, signs_of}
use Rattle.open_calls.specs.declared.unsigned.Unread.TheVariants as unread
use Rattle.auth_service.specs.Order.{HolderView}
use Rattle.retarget.specs.Hop.{HopView, is_hop}
use Rattle.retarget.specs.declared.fault.HopFault.{HopFault}
use Rattle.retarget.specs.declared.fault.HopFault.TheVariants as faults
use Rattle.verify_rules.specs.Call.{in_call_order}
use Rattle.verify_rules.specs.Screened.{ScreenedView, screened_by}
use Rattle.verify_rules.specs.declared.refusal.Refusal.{Refusal}
use Rattle.verify_rules.specs.declared.verdict.Verdict.{Verdict}
use Rattle.verify_rules.specs.declared.verdict.Verdict.TheVariants as verdicts
use Rattle.open_calls.proofs.SigningLaws.{is_made, not_sized}
use Rattle.open_calls.specs.Going.{Given, Going, IsGoing, going_by, hop_by}
use Rattle.open_calls.specs.Onward.{IsHeld, IsOnward}
use Rattle.open_calls.specs.Unmoved.{IsHeldBy, IsMovedBy, IsNamed, IsUnmovedFor, IsUnmovedWith, unmoved_of}
use Rattle.open_calls.specs.declared.unmoved.Unmoved.{Unmoved}
use Rattle.open_calls.specs.declared.unmoved.Unmoved.TheVariants as unmoved

-- ---- a screened call

pub readings_are : (call : CallView) (screened : ScreenedView) → IsEarly (call_in call) (Ok screened) → screened.readings ≡ in_call_order (call_in call)
unfolding screened_by
readings_are call screened early = ap (λ (s : ScreenedView). s.readings) early.1

pub one_each : (call : CallView) (screened : ScreenedView) (chains : List (Option ChainView)) → IsEarly (call_in call) (Ok screened) → length chains ≡ length (judged_in call)
    → length (states_of chains) ≡ length screened.readings
one_each call screened chains early is =
    length-map chains state_or_none ∙ is ∙ ap (λ (e : Option Refusal). length (unless_refused e (in_call_order (call_in call)))) early.0
    ∙ ap length (sym (readings_are call screened early))

-- ---- what is handed in

pub no_holder_as : (leaf : Option CertView) (table other : Table) (local numbering : LocalView) → table ≡ other → local ≡ numbering
    → HasNoHolder (record { leaf = leaf; table = table; local = local }) → HasNoHolder (record { leaf = leaf; table = other; local = numbering })
no_holder_as leaf table other local numbering same_table same_local none =
    subst (λ (l : LocalView). HasNoHolder (record { leaf = leaf; table = other; local = l })) same_local
    (subst (λ (t : Table). HasNoHolder (record { leaf = leaf; table = t; local = local })) same_table none)

pub holder_as : (leaf : Option CertView) (table other : Table) (local numbering : LocalView) (holder : HolderView) → table ≡ other → local ≡ numbering
    → IsHolderOf (record { leaf = leaf; table = table; local = local }) holder → IsHolderOf (record { leaf = leaf; table = other; local = numbering }) holder
holder_as leaf table other local numbering holder same_table same_local is =
    subst (λ (l : LocalView). IsHolderOf (record { leaf = leaf; table = other; local = l }) holder) same_local
    (subst (λ (t : Table). IsHolderOf (record { leaf = leaf; table = t; local = local }) holder) same_table is)

-- the gateway goes by what was handed in
pub is_going : (given : Given) (screened : ScreenedView) (bytes : List ℕ) (moment : ℕ) (host : ConfirmedView) (questions asked : List Question) (made : Option (List ℕ)) (table : Table)
    (local : LocalView) (hop : HopView) (holder : HolderView) → IsEarly (call_in given.call) (Ok screened) → bytes ≡ given.call.message → moment ≡ given.call.moment
    → host ≡ record { good = confirmed (map seen questions) given.good; made = made; asks = 0 } → questions ≡ asked
    → map seen asked ≡ own_asked given.world.table (states_of given.chains) (call_in given.call) → table ≡ given.world.table → local ≡ given.call.settings.local
    → hop ≡ hop_by given.target local → IsTrue (is_hop hop) → IsHolderOf (record { leaf = given.target.leaf; table = table; local = local }) holder
    → IsGoing given (going_by bytes moment screened.readings (states_of given.chains) host.good hop holder)
is_going given screened bytes moment host questions asked made table local hop holder early bytes_are moment_is host_is questions_are asked_are table_is local_is hop_is valid holder_is =
    record {
      early = early.0;
      bytes_are = bytes_are;
      moment_is = moment_is;
      readings_are = readings_are given.call screened early;
      states_are = refl;
      says_is = ap says_by (ap (λ (v : ConfirmedView). v.good) host_is ∙ ap (λ (q : List Question). confirmed (map seen q) given.good) questions_are
          ∙ ap (λ (q : List QuestionView). confirmed q given.good) asked_are);
      by = record {
        hop_is = hop_is ∙ ap (hop_by given.target) local_is;
        valid = valid;
        holder_is = holder_as given.target.leaf table given.world.table local given.call.settings.local holder table_is local_is holder_is;
      };
    }

-- who has this signature or none has the one that was handed in

pub onward_as : (going : Going) (made other : Option (List ℕ)) (out : List ℕ) → made ≡ other → IsOnward going (signs_of made) out → IsOnward going (signs_of other) out
onward_as going made other out same is = subst (λ (m : Option (List ℕ)). IsOnward going (signs_of m) out) same is

pub held_as : (going : Going) (made other : Option (List ℕ)) (fault : HopFault) → made ≡ other → IsHeld going (signs_of made) fault → IsHeld going (signs_of other) fault
held_as going made other fault same is = subst (λ (m : Option (List ℕ)). IsHeld going (signs_of m) fault) same is

-- ---- without a signature nothing goes on

pub not_moved : (given : Given) (out : List ℕ) → IsMovedBy given None out → ⊥
not_moved given out is = let none : ◌≡◌ {A = Option (List ℕ)} None (Some is.onward.written.written.is_signed.signature) = is.onward.written.written.is_signed.made in cc

-- ---- why nothing goes on

held_by : (given : Given) (going : Going) (made : Option (List ℕ)) (fault : HopFault) → IsGoing given going → IsHeld going (signs_of made) fault → IsHeldBy given made fault
held_by given going made fault is held = record { going = going; going_is = is; held = held }

by_verdict : (given : Given) (going : Going) (made : Option (List ℕ)) (verdict : Verdict) → IsGoing given going → IsHeld going (signs_of made) (faults.Verdict verdict)
    → IsNamed (faults.Verdict verdict) → IsUnmovedFor given made (unmoved_of (faults.Verdict verdict))
by_verdict given going made verdicts.Passed is held named = absurd named
by_verdict given going made (verdicts.Refused refused) is held named = inr (held_by given going made (faults.Verdict (verdicts.Refused refused)) is held)
by_verdict given going made (verdicts.Unread bad) is held named = absurd named
by_verdict given going made (verdicts.Unasked bad) is held named = absurd named

pub unmoved_by : (given : Given) (going : Going) (made : Option (List ℕ)) (fault : HopFault) → IsGoing given going → IsHeld going (signs_of made) fault → IsNamed fault
    → IsUnmovedFor given made (unmoved_of fault)
unmoved_by given going made (faults.Verdict verdict) is held named = by_verdict given going made verdict is held named
unmoved_by given going made faults.Target is held named =
    record { fault = faults.Target; number_is = refl; least = omega arith; most = omega arith; held = held_by given going made faults.Target is held }
unmoved_by given going made faults.Loop is held named =
    record { fault = faults.Loop; number_is = refl; least = omega arith; most = omega arith; held = held_by given going made faults.Loop is held }
unmoved_by given going made faults.Full is held named =
    record { fault = faults.Full; number_is = refl; least = omega arith; most = omega arith; held = held_by given going made faults.Full is held }
unmoved_by given going made faults.Size is held named =
    record { fault = faults.Size; number_is = refl; least = omega arith; most = omega arith; held = held_by given going made faults.Size is held }
unmoved_by given going made faults.Authority is held named =
    record { fault = faults.Authority; number_is = refl; least = omega arith; most = omega arith; held = held_by given going made faults.Authority is held }
unmoved_by given going made (faults.NoSignature digest) is held named = held_by given going made (faults.NoSignature digest) is held
unmoved_by given going made faults.Provider is held named = absurd named
unmoved_by given going made faults.Memory is held named = tt

-- ---- with the bytes of a signature

pub moved_with : (given : Given) (signature made out : List ℕ) → Some made ≡ signature_in signature → IsMovedBy given (Some made) out → IsMovedBy given (Some signature) out
moved_with given signature made out is by = subst (λ (m : List ℕ). IsMovedBy given (Some m) out) (is_made signature made is).0 by

-- all but a digest
abbrev pub IsNoDigest : Unmoved → Type 0
IsNoDigest (unmoved.Input fault) = ⊤
IsNoDigest (unmoved.Refused refused) = ⊤
IsNoDigest (unmoved.Held number) = ⊤
IsNoDigest (unmoved.Digest digest) = ⊥

with_made : (given : Given) (made : List ℕ) (came : Unmoved) → length made ≡ 64 → IsNoDigest came → IsUnmovedFor given (Some made) came → IsUnmovedWith given made came
with_made given made (unmoved.Input fault) long other is = inr (inl (long, is))
with_made given made (unmoved.Refused refused) long other is = is
with_made given made (unmoved.Held number) long other is = is
with_made given made (unmoved.Digest digest) long other is = absurd other

pub unmoved_with : (given : Given) (signature made : List ℕ) (came : Unmoved) → Some made ≡ signature_in signature → IsNoDigest came → IsUnmovedFor given (Some made) came
    → IsUnmovedWith given signature came
unmoved_with given signature made came is digest by =
    let both = is_made signature made is in
    with_made given signature came both.1 digest (subst (λ (m : List ℕ). IsUnmovedFor given (Some m) came) both.0 by)

pub no_memory_with : (given : Given) (signature : List ℕ) → IsUnmovedWith given signature (unmoved.Input unread.Memory)
no_memory_with given signature = inr (inr refl)

pub no_signature : (given : Given) (signature : List ℕ) → None ≡ signature_in signature → IsUnmovedWith given signature (unmoved.Input unread.Signature)
no_signature given signature is = inl (refl, not_sized signature is)
