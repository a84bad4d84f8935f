-- Each of the rules of the chains is broken where its words say.
use Rattle.std.proofs.Common.{◌≡◌, ◌↔◌, ℕ, ◌<◌, ◌≤◌, nat_lt, Bool, true, false, cond, List, [], ◌∷◌, length, take, zero, suc, Option, Some, None, refl, sym, ◌∙◌, subst, ◌⊎◌, inl, inr, arith}
use Rattle.std.specs.List.{slice_get}
use Rattle.std.proofs.lemmas.Bool.Decides.{nat_tests}
use Rattle.x509_profile.specs.View.{CertView}
use Rattle.delegation.specs.Coverage.{Table}
use Rattle.delegation.specs.PathFaults.{IsFirstFault}
use Rattle.cert_store.specs.Asking.{IsOpen}
use Rattle.cert_store.specs.Judged.{JudgedView, judged_of, out_of_date}
use Rattle.cert_store.specs.Words.{IsAuthorized, IsBrokenAt, IsFirstBroken, IsSigned, IsValid, PathOf, ProfileOf, SignedAs}
use Rattle.cert_store.specs.declared.judged.Asked.{Asked}
use Rattle.cert_store.specs.declared.judged.Asked.TheVariants.{NotAsked, Yes, No, Failed}
use Rattle.verify_rules.specs.Call.{Call, Reading, in_call_order, payload_of}
use Rattle.verify_rules.specs.Late.{by_answer, by_part, covers_leaf, is_signed_by, or_broken, tell}
use Rattle.verify_rules.specs.LatePlaces.{IsFirstOnPath, IsFirstUnmet, IsOutsideAt, IsPlacedLate, IsUnanchoredAt, SpeaksOfLatePlace, UnaskedAtChain, UnaskedAtPassport, UnreadAt}
use Rattle.verify_rules.specs.LateWords.{HasAuthority, HasFile, IsAllowed, IsAnchored, IsCertified, IsCovered, IsGenuine, IsInDate, IsInProfile, IsListed, MeetsAt}
use Rattle.verify_rules.specs.Places.{AtFirst, NoPart}
use Rattle.verify_rules.specs.Rules.{Rule, each, early_rules, first, place}
use Rattle.verify_rules.specs.States.{State, have, long, no_chain, unread}
use Rattle.verify_rules.specs.Unmet.{first_unmet}
use Rattle.verify_rules.specs.Words.{Each}
use Rattle.verify_rules.specs.World.{HoldsBytes, IsOpenAtChain, IsOpenAtPassport, MayBeUnasked, MayBeUnread, VerdictOf, World, asking_rule, broken_by, forged, forged_by, late_rule, late_rules, part_at, truth_by, truth_for, unless_good}
use Rattle.verify_rules.specs.declared.late.LateRule.TheVariants as late
use Rattle.verify_rules.specs.declared.refusal.Place.{Place}
use Rattle.verify_rules.specs.declared.refusal.Refusal.{Refusal}
use Rattle.verify_rules.specs.declared.verdict.Verdict.{Verdict}
use Rattle.verify_rules.specs.declared.verdict.Verdict.TheVariants.{Passed, Refused, Unread, Unasked}
use Rattle.verify_rules.proofs.AllLateWords.{Meanings, anchored_of, listed_of, meanings, profile_of}
use Rattle.verify_rules.proofs.ChainMeans.{ChainLaws, WordsLaw, IsBytes, authority_means, authority_of, dates_mean, dates_of, inside_of, judged_says, known, listed_means, path_means, profile_means, said_of, signatures_mean, signatures_of, truth_of_file}
use Rattle.verify_rules.proofs.LeafMeans.{CoversLaw, coverage_means, genuine_means}
use Rattle.verify_rules.proofs.PlaceLaws.{each_wrong, each_wrong_of, broken_at}
use Rattle.verify_rules.proofs.UnmetLaws.{allowed_means, unmet_says, unmet_worded}
use Rattle.verify_rules.proofs.WordLaws.{each_means, each_means_of}
use Rattle.verify_rules.proofs.WorldVerdict.{first_late}

-- a place of a PASSporT, with its part
abbrev InPart : (Reading → ℕ → Type 0) → Reading → Place → Type 0
InPart Part one bad = (part : ℕ) × Part one part × (bad ≡ place one.mark.field part)

part_some : (field : ℕ) (part : Option ℕ) (bad : Place) → part_at field (by_part part) ≡ Some bad → (number : ℕ) × (part ≡ Some number) × (bad ≡ place field number)
part_some field None bad h = absurd cc
part_some field (Some number) bad h = (number, refl, cc)

-- ---- rule 10

listed_by : (table : Table) (moment : ℕ) (one : Reading) (bad : Place) (state : State) → part_at one.mark.field (tell late.Listed table moment one state) ≡ Some bad → InPart NoPart one bad
listed_by table moment one bad (have judged) h = absurd cc
listed_by table moment one bad no_chain h = (0, refl, cc)
listed_by table moment one bad long h = absurd cc
listed_by table moment one bad unread h = absurd cc

listed_at : (world : World) (moment : ℕ) (one : Reading) (bad : Place) → broken_by world late.Listed moment one ≡ Some bad → InPart NoPart one bad
unfolding broken_by
listed_at world moment one bad h = listed_by world.table moment one bad (truth_for world one) h

-- ---- rule 11

outside_part : (bytes : List ℕ) (certificates : List CertView) (part : ℕ) → ProfileOf bytes certificates (Some part) → IsBrokenAt bytes part
outside_part bytes certificates part p = p.0

outside_by : WordsLaw → (world : World) (moment : ℕ) (one : Reading) (bytes : List ℕ) (bad : Place) (t : Bool) → IsBytes bytes → HasFile world one bytes → nat_lt 49152 (length bytes) ≡ t
    → part_at one.mark.field (tell late.Profile world.table moment one (cond t long (have (judged_of world.anchors world.table world.says bytes)))) ≡ Some bad → InPart (IsOutsideAt world) one bad
outside_by law world moment one bytes bad true typed f e h =
    let more : 49152 < length bytes = grind (arith, nat_tests) in (0, record { bytes = bytes; has_file = f; broken = inl (more, refl) }, cc)
outside_by law world moment one bytes bad false typed f e h =
    let judged : JudgedView = judged_of world.anchors world.table world.says bytes in
    let p = part_some one.mark.field judged.profile bad h in
    let words = law world.anchors world.table world.says bytes typed in
    (p.0, record { bytes = bytes; has_file = f; broken = outside_part bytes judged.certificates p.0 (subst (ProfileOf bytes judged.certificates) p.1 words.profile) }, p.2)

outside_at : ChainLaws → (world : World) → HoldsBytes world → (moment : ℕ) (one : Reading) (bad : Place) → IsListed world one → broken_by world late.Profile moment one ≡ Some bad
    → InPart (IsOutsideAt world) one bad
outside_at laws world typed moment one bad (bytes, f) h =
    let here = sym (said_of world late.Profile moment one (truth_by world (Some bytes)) (truth_of_file world one bytes f)) ∙ h in
    outside_by laws.words world moment one bytes bad (nat_lt 49152 (length bytes)) (typed f.name bytes f.there) f refl here

-- ---- rule 12

path_part : (chain anchors : List CertView) (part : ℕ) → PathOf chain anchors (Some part) → (kind : ℕ) × IsFirstFault chain anchors kind part
path_part chain anchors part p = (p.1, p.2)

path_at : ChainLaws → (world : World) → HoldsBytes world → (moment : ℕ) (one : Reading) (bad : Place) → IsInProfile world one → broken_by world late.Shape moment one ≡ Some bad
    → InPart (IsUnanchoredAt world) one bad
path_at laws world typed moment one bad (chain, c) h =
    let k = known laws world typed one chain c in
    let p = part_some one.mark.field k.judged.shape bad (sym (judged_says world late.Shape moment one chain k) ∙ h) in
    let fault : PathOf k.judged.certificates world.anchors (Some p.0) = subst (PathOf k.judged.certificates world.anchors) p.1 (k.in_words.path k.profile) in
    let here : PathOf chain world.anchors (Some p.0) = subst (λ (x : List CertView). PathOf x world.anchors (Some p.0)) k.certificates fault in
    let f = path_part chain world.anchors p.0 here in
    (p.0, record { chain = chain; has_chain = c; kind = f.0; fault = f.1 }, p.2)

-- ---- rules 13 to 15

dates_at : ChainLaws → (world : World) → HoldsBytes world → (moment : ℕ) (one : Reading) (bad : Place) → IsAnchored world one → broken_by world late.Dates moment one ≡ Some bad
    → InPart (IsFirstOnPath world (λ chain anchor. IsValid world.anchors moment chain)) one bad
dates_at laws world typed moment one bad (chain, anchor, a) h =
    let k = known laws world typed one chain a.has_chain in
    let p = part_some one.mark.field (out_of_date k.judged moment) bad (sym (judged_says world late.Dates moment one chain k) ∙ h) in
    (p.0, record { chain = chain; anchor = anchor; path = a; first = subst (IsFirstBroken (IsValid world.anchors moment chain) (length chain)) p.1 (dates_of world moment one chain anchor k a.is) }, p.2)

authority_at : ChainLaws → (world : World) → HoldsBytes world → (moment : ℕ) (one : Reading) (bad : Place) → IsAnchored world one → broken_by world late.Authority moment one ≡ Some bad
    → InPart (IsFirstOnPath world (λ chain anchor. IsAuthorized world.table world.anchors anchor chain)) one bad
authority_at laws world typed moment one bad (chain, anchor, a) h =
    let k = known laws world typed one chain a.has_chain in
    let p = part_some one.mark.field k.judged.authority bad (sym (judged_says world late.Authority moment one chain k) ∙ h) in
    (p.0, record { chain = chain; anchor = anchor; path = a; first = subst (IsFirstBroken (IsAuthorized world.table world.anchors anchor chain) (length chain)) p.1 (authority_of world one chain anchor k a.is) }, p.2)

signed_part : (Holds : ℕ → Type 0) (count field : ℕ) (asked : Asked) (bad : Place) → SignedAs Holds count asked → part_at field (by_answer asked) ≡ Some bad
    → (part : ℕ) × IsFirstBroken Holds count (Some part) × (bad ≡ place field part)
signed_part Holds count field NotAsked bad s h = absurd s
signed_part Holds count field Yes bad s h = absurd cc
signed_part Holds count field (No part) bad s h = (part, s, cc)
signed_part Holds count field (Failed part) bad s h = absurd cc

signed_at : ChainLaws → (world : World) → HoldsBytes world → (moment : ℕ) (one : Reading) (bad : Place) → HasAuthority world one → broken_by world late.Asked moment one ≡ Some bad
    → InPart (IsFirstOnPath world (λ chain anchor. IsSigned world.says world.anchors anchor chain)) one bad
signed_at laws world typed moment one bad q h =
    let k = known laws world typed one q.0 q.2.has_chain in
    let signed = signatures_of world one q.0 q.1 k q.2.is (inside_of laws world typed one q.0 k q) in
    let p = signed_part (IsSigned world.says world.anchors q.1 q.0) (length q.0) one.mark.field k.judged.asked bad signed (sym (judged_says world late.Asked moment one q.0 k) ∙ h) in
    (p.0, record { chain = q.0; anchor = q.1; path = q.2; first = p.1 }, p.2)

-- ---- rule 16

good_by : (one : Reading) (bad : Place) (t : Bool) → unless_good one.mark.field t ≡ Some bad → InPart NoPart one bad
good_by one bad true h = absurd cc
good_by one bad false h = (0, refl, cc)

forged_state : (world : World) (one : Reading) (bad : Place) (state : State) → forged_by world one state ≡ Some bad → InPart NoPart one bad
forged_state world one bad (have judged) h = good_by one bad (is_signed_by world.says one (slice_get judged.certificates 0)) h
forged_state world one bad no_chain h = absurd cc
forged_state world one bad long h = absurd cc
forged_state world one bad unread h = absurd cc

forged_at : (world : World) (one : Reading) (bad : Place) → forged world one ≡ Some bad → InPart NoPart one bad
unfolding forged
forged_at world one bad h = forged_state world one bad (truth_for world one) h

-- ---- rule 17

broken_part : (one : Reading) (bad : Place) (t : Bool) → part_at one.mark.field (or_broken t) ≡ Some bad → InPart NoPart one bad
broken_part one bad true h = absurd cc
broken_part one bad false h = (0, refl, cc)

covers_state : (table : Table) (moment : ℕ) (one : Reading) (bad : Place) (state : State) → part_at one.mark.field (tell late.Covers table moment one state) ≡ Some bad → InPart NoPart one bad
covers_state table moment one bad (have judged) h = broken_part one bad (covers_leaf table one.passport (slice_get judged.certificates 0)) h
covers_state table moment one bad no_chain h = absurd cc
covers_state table moment one bad long h = absurd cc
covers_state table moment one bad unread h = absurd cc

covers_at : (world : World) (moment : ℕ) (one : Reading) (bad : Place) → broken_by world late.Covers moment one ≡ Some bad → InPart NoPart one bad
unfolding broken_by
covers_at world moment one bad h = covers_state world.table moment one bad (truth_for world one) h

-- ---- rule 19

unmet_at : ChainLaws → (world : World) → HoldsBytes world → (moment : ℕ) (one : Reading) (bad : Place) → IsInProfile world one → broken_by world late.Constraints moment one ≡ Some bad
    → InPart (IsFirstUnmet world) one bad
unmet_at laws world typed moment one bad (chain, c) h =
    let k = known laws world typed one chain c in
    let p = part_some one.mark.field (first_unmet (payload_of one) 1 chain) bad (sym (unmet_says world moment one chain k) ∙ h) in
    (p.0, record { chain = chain; has_chain = c; first = subst (IsFirstBroken (MeetsAt one chain) (length chain)) p.1 (unmet_worded laws.met one chain) }, p.2)

-- ---- all of them

first_of : (broken : Reading → Option Place) (Q P : Reading → Type 0) (Part : Reading → ℕ → Type 0) → ((one : Reading) → Q one → (broken one ≡ None) ↔ P one)
    → ((one : Reading) (bad : Place) → Q one → broken one ≡ Some bad → InPart Part one bad) → (readings : List Reading) (bad : Place) → Each Q readings → each broken readings ≡ Some bad
    → AtFirst P Part readings bad
first_of broken Q P Part iff part readings bad met h = let w = each_wrong_of broken Q P iff readings bad met h in let p = part w.wrong bad w.met w.at in record { one = w.wrong; first = w.is; part = p.0; is_part = p.1; stands = p.2 }

first_any : (broken : Reading → Option Place) (P : Reading → Type 0) (Part : Reading → ℕ → Type 0) → ((one : Reading) → (broken one ≡ None) ↔ P one)
    → ((one : Reading) (bad : Place) → broken one ≡ Some bad → InPart Part one bad) → (readings : List Reading) (bad : Place) → each broken readings ≡ Some bad → AtFirst P Part readings bad
first_any broken P Part iff part readings bad h = let w = each_wrong broken P iff readings bad h in let p = part w.wrong bad w.at in record { one = w.wrong; first = w.is; part = p.0; is_part = p.1; stands = p.2 }

placed_late : ChainLaws → CoversLaw → (world : World) → HoldsBytes world → (call : Call) (refused : Refusal) → first (late_rules world) call ≡ Some refused → IsPlacedLate world call refused
placed_late laws law world typed call refused h =
    let m : Meanings world call = meanings laws law world typed call in
    let r10 : Rule = late_rule world late.Listed in
    let r11 : Rule = late_rule world late.Profile in
    let r12 : Rule = late_rule world late.Shape in
    let r13 : Rule = late_rule world late.Dates in
    let r14 : Rule = late_rule world late.Authority in
    let r15 : Rule = late_rule world late.Asked in
    let r16 : Rule = asking_rule world in
    let r17 : Rule = late_rule world late.Covers in
    let r19 : Rule = late_rule world late.Constraints in
    record {
      files = λ is.
          let b = broken_at [] r10 (r11 ∷ r12 ∷ r13 ∷ r14 ∷ r15 ∷ r16 ∷ r17 ∷ r19 ∷ []) call refused tt
          (omega arith, (omega arith, (omega arith, (omega arith, (omega arith, (omega arith, (omega arith, (omega arith, tt)))))))) h is in
          first_any (broken_by world late.Listed call.moment) (IsListed world) NoPart (listed_means world call.moment) (listed_at world call.moment) (in_call_order call) refused.place b.broken;
      profile = λ is.
          let b = broken_at (r10 ∷ []) r11 (r12 ∷ r13 ∷ r14 ∷ r15 ∷ r16 ∷ r17 ∷ r19 ∷ []) call refused (omega arith, tt)
          (omega arith, (omega arith, (omega arith, (omega arith, (omega arith, (omega arith, (omega arith, tt))))))) h is in
          first_of (broken_by world late.Profile call.moment) (IsListed world) (IsInProfile world) (IsOutsideAt world) (profile_means laws world typed call.moment)
          (outside_at laws world typed call.moment) (in_call_order call) refused.place (listed_of world call m b.hold.0) b.broken;
      paths = λ is.
          let b = broken_at (r10 ∷ r11 ∷ []) r12 (r13 ∷ r14 ∷ r15 ∷ r16 ∷ r17 ∷ r19 ∷ []) call refused (omega arith, (omega arith, tt))
          (omega arith, (omega arith, (omega arith, (omega arith, (omega arith, (omega arith, tt)))))) h is in
          first_of (broken_by world late.Shape call.moment) (IsInProfile world) (IsAnchored world) (IsUnanchoredAt world) (path_means laws world typed call.moment)
          (path_at laws world typed call.moment) (in_call_order call) refused.place (profile_of world call m b.hold.0 b.hold.1.0) b.broken;
      dates = λ is.
          let b = broken_at (r10 ∷ r11 ∷ r12 ∷ []) r13 (r14 ∷ r15 ∷ r16 ∷ r17 ∷ r19 ∷ []) call refused (omega arith, (omega arith, (omega arith, tt)))
          (omega arith, (omega arith, (omega arith, (omega arith, (omega arith, tt))))) h is in
          first_of (broken_by world late.Dates call.moment) (IsAnchored world) (IsInDate world call.moment) (IsFirstOnPath world (λ chain anchor. IsValid world.anchors call.moment chain))
          (dates_mean laws world typed call.moment) (dates_at laws world typed call.moment) (in_call_order call) refused.place (anchored_of world call m b.hold.0 b.hold.1.0 b.hold.1.1.0) b.broken;
      authority = λ is.
          let b = broken_at (r10 ∷ r11 ∷ r12 ∷ r13 ∷ []) r14 (r15 ∷ r16 ∷ r17 ∷ r19 ∷ []) call refused (omega arith, (omega arith, (omega arith, (omega arith, tt))))
          (omega arith, (omega arith, (omega arith, (omega arith, tt)))) h is in
          first_of (broken_by world late.Authority call.moment) (IsAnchored world) (HasAuthority world)
          (IsFirstOnPath world (λ chain anchor. IsAuthorized world.table world.anchors anchor chain)) (authority_means laws world typed call.moment) (authority_at laws world typed call.moment)
          (in_call_order call) refused.place (anchored_of world call m b.hold.0 b.hold.1.0 b.hold.1.1.0) b.broken;
      certificates = λ is.
          let b = broken_at (r10 ∷ r11 ∷ r12 ∷ r13 ∷ r14 ∷ []) r15 (r16 ∷ r17 ∷ r19 ∷ []) call refused (omega arith, (omega arith, (omega arith, (omega arith, (omega arith, tt)))))
          (omega arith, (omega arith, (omega arith, tt))) h is in
          first_of (broken_by world late.Asked call.moment) (HasAuthority world) (IsCertified world) (IsFirstOnPath world (λ chain anchor. IsSigned world.says world.anchors anchor chain))
          (signatures_mean laws world typed call.moment) (signed_at laws world typed call.moment) (in_call_order call) refused.place
          ((m.authority (anchored_of world call m b.hold.0 b.hold.1.0 b.hold.1.1.0)).0 b.hold.1.1.1.1.0) b.broken;
      signatures = λ is.
          let b = broken_at (r10 ∷ r11 ∷ r12 ∷ r13 ∷ r14 ∷ r15 ∷ []) r16 (r17 ∷ r19 ∷ []) call refused (omega arith, (omega arith, (omega arith, (omega arith, (omega arith, (omega arith, tt))))))
          (omega arith, (omega arith, tt)) h is in
          first_of (forged world) (IsInProfile world) (IsGenuine world) NoPart (genuine_means laws world typed) (λ one bad met e. forged_at world one bad e)
          (in_call_order call) refused.place (profile_of world call m b.hold.0 b.hold.1.0) b.broken;
      coverage = λ is.
          let b = broken_at (r10 ∷ r11 ∷ r12 ∷ r13 ∷ r14 ∷ r15 ∷ r16 ∷ []) r17 (r19 ∷ []) call refused (omega arith, (omega arith, (omega arith, (omega arith, (omega arith, (omega arith, (omega arith, tt)))))))
          (omega arith, tt) h is in
          first_of (broken_by world late.Covers call.moment) (IsInProfile world) (IsCovered world) NoPart (coverage_means laws law world typed call.moment)
          (λ one bad met e. covers_at world call.moment one bad e) (in_call_order call) refused.place (profile_of world call m b.hold.0 b.hold.1.0) b.broken;
      constraints = λ is.
          let b = broken_at (r10 ∷ r11 ∷ r12 ∷ r13 ∷ r14 ∷ r15 ∷ r16 ∷ r17 ∷ []) r19 [] call refused (omega arith, (omega arith, (omega arith, (omega arith, (omega arith, (omega arith, (omega arith, (omega arith, tt))))))))
          tt h is in
          first_of (broken_by world late.Constraints call.moment) (IsInProfile world) (IsAllowed world) (IsFirstUnmet world) (allowed_means laws world typed call.moment)
          (unmet_at laws world typed call.moment) (in_call_order call) refused.place (profile_of world call m b.hold.0 b.hold.1.0) b.broken;
    }

-- ---- what sets a call aside

each_take : (P : Reading → Type 0) (items : List Reading) (n : ℕ) → Each P items → Each P (take n items)
each_take P [] zero h = tt
each_take P [] (suc n) h = tt
each_take P (item ∷ items) zero h = tt
each_take P (item ∷ items) (suc n) h = (h.0, each_take P items n h.1)

each_get : (P : Reading → Type 0) (items : List Reading) (n : ℕ) (one : Reading) → Each P items → slice_get items n ≡ Some one → P one
each_get P [] zero one h e = absurd cc
each_get P [] (suc n) one h e = absurd cc
each_get P (item ∷ items) zero one h e = let same : item ≡ one = cc in subst P same h.0
each_get P (item ∷ items) (suc n) one h e = each_get P items n one h.1 e

unread_at : (world : World) (call : Call) (bad : Place) → MayBeUnread world call bad → UnreadAt world call bad
unread_at world call bad u = record {
  at = u.at;
  here = u.here;
  is = u.is;
  stands = u.stands;
  name = u.name;
  named = u.named;
  before = (each_means (broken_by world late.Listed call.moment) (IsListed world) (listed_means world call.moment) (take u.at (in_call_order call))).0 u.before;
}

open_signed : (Holds : ℕ → Type 0) (count part : ℕ) (asked : Asked) → SignedAs Holds count asked → IsOpen part asked → (number : ℕ) → 1 ≤ number → number < part → number ≤ count → Holds number
open_signed Holds count part NotAsked s o number some less most = absurd o
open_signed Holds count part Yes s o number some less most = s number some most
open_signed Holds count part (No first) s o number some less most = s.3 number some (omega (arith, less, o))
open_signed Holds count part (Failed other) s o number some less most = absurd o

same_judged : (state : State) (a b : JudgedView) → state ≡ have a → state ≡ have b → a ≡ b
same_judged state a b e f = cc

chain_at : ChainLaws → (world : World) → HoldsBytes world → (call : Call) (bad : Place) → Each (HasAuthority world) (in_call_order call) → IsOpenAtChain world call bad → UnaskedAtChain world call bad
chain_at laws world typed call bad all o =
    let q : HasAuthority world o.here = each_get (HasAuthority world) (in_call_order call) o.at o.here all o.is in
    let k = known laws world typed o.here q.0 q.2.has_chain in
    let signed = signatures_of world o.here q.0 q.1 k q.2.is (inside_of laws world typed o.here q.0 k q) in
    let same : o.truth ≡ k.judged = same_judged (truth_for world o.here) o.truth k.judged o.known k.is in
    let left : IsOpen o.part k.judged.asked = subst (λ (x : JudgedView). IsOpen o.part x.asked) same o.certificates in
    record {
      at = o.at;
      here = o.here;
      is = o.is;
      part = o.part;
      some = o.some;
      stands = o.stands;
      before = (each_means_of (broken_by world late.Asked call.moment) (HasAuthority world) (IsCertified world) (signatures_mean laws world typed call.moment) (take o.at (in_call_order call))
          (each_take (HasAuthority world) (in_call_order call) o.at all)).0 o.before;
      chain = q.0;
      anchor = q.1;
      path = q.2;
      certificates = open_signed (IsSigned world.says world.anchors q.1 q.0) (length q.0) o.part k.judged.asked signed left;
    }

passport_at : ChainLaws → (world : World) → HoldsBytes world → (call : Call) (bad : Place) → Each (IsInProfile world) (in_call_order call) → Each (HasAuthority world) (in_call_order call)
    → IsOpenAtPassport world call bad → UnaskedAtPassport world call bad
passport_at laws world typed call bad kept all o = record {
  at = o.at;
  here = o.here;
  is = o.is;
  stands = o.stands;
  certified = (each_means_of (broken_by world late.Asked call.moment) (HasAuthority world) (IsCertified world) (signatures_mean laws world typed call.moment) (in_call_order call) all).0 o.signed;
  before = (each_means_of (forged world) (IsInProfile world) (IsGenuine world) (genuine_means laws world typed) (take o.at (in_call_order call))
      (each_take (IsInProfile world) (in_call_order call) o.at kept)).0 o.before;
}

unasked_by : ChainLaws → (world : World) → HoldsBytes world → (call : Call) (bad : Place) → Each (IsInProfile world) (in_call_order call) → Each (HasAuthority world) (in_call_order call)
    → IsOpenAtChain world call bad ⊎ IsOpenAtPassport world call bad → UnaskedAtChain world call bad ⊎ UnaskedAtPassport world call bad
unasked_by laws world typed call bad kept all (inl o) = inl (chain_at laws world typed call bad all o)
unasked_by laws world typed call bad kept all (inr o) = inr (passport_at laws world typed call bad kept all o)

unasked_at : ChainLaws → CoversLaw → (world : World) → HoldsBytes world → (call : Call) (bad : Place) → MayBeUnasked world call bad → UnaskedAtChain world call bad ⊎ UnaskedAtPassport world call bad
unasked_at laws law world typed call bad u =
    let m : Meanings world call = meanings laws law world typed call in
    let all = u.chains in
    unasked_by laws world typed call bad (profile_of world call m all.0 all.1.0) ((m.authority (anchored_of world call m all.0 all.1.0 all.1.1.0)).0 all.1.1.1.1.0) u.signatures

-- ---- each verdict

pub late_places : ChainLaws → CoversLaw → (world : World) → HoldsBytes world → (call : Call) (verdict : Verdict) → first early_rules call ≡ None → VerdictOf world call verdict
    → SpeaksOfLatePlace world call verdict
late_places laws law world typed call Passed early h = tt
late_places laws law world typed call (Refused refused) early h = placed_late laws law world typed call refused (sym (first_late world call early) ∙ h)
late_places laws law world typed call (Unread bad) early h = unread_at world call bad h
late_places laws law world typed call (Unasked bad) early h = unasked_at laws law world typed call bad h
