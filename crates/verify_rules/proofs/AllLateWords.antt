-- A verdict of a world says of each of the rules of the chains what it means.
use Rattle.std.proofs.Common.{◌≡◌, ◌↔◌, [], ◌∷◌, None, sym, ◌∙◌, arith}
use Rattle.verify_rules.specs.Call.{Call, in_call_order}
use Rattle.verify_rules.specs.LateWords.{HasAuthority, IsAllowed, IsAnchored, IsCertified, IsCovered, IsGenuine, IsInDate, IsInProfile, IsListed, SaysLateWords}
use Rattle.verify_rules.specs.Rules.{Rule, each, early_rules, first}
use Rattle.verify_rules.specs.Words.{Each}
use Rattle.verify_rules.specs.World.{HoldsBytes, VerdictOf, World, asking_rule, broken_by, forged, late_rule, late_rules}
use Rattle.verify_rules.specs.declared.late.LateRule.{LateRule}
use Rattle.verify_rules.specs.declared.late.LateRule.TheVariants as late
use Rattle.verify_rules.specs.declared.verdict.Verdict.{Verdict}
use Rattle.verify_rules.specs.declared.verdict.Verdict.TheVariants.{Passed, Refused, Unread, Unasked}
use Rattle.verify_rules.proofs.LeafMeans.{CoversLaw, coverage_means, genuine_means}
use Rattle.verify_rules.proofs.LateMeans.{LateOf, late_means}
use Rattle.verify_rules.proofs.ChainMeans.{ChainLaws, authority_means, dates_mean, listed_means, path_means, profile_means, signatures_mean}
use Rattle.verify_rules.proofs.UnmetLaws.{allowed_means}
use Rattle.verify_rules.proofs.WordLaws.{each_means, each_means_of}
use Rattle.verify_rules.proofs.WorldVerdict.{first_late}

-- ---- each rule on all PASSporTs, if those before it hold

-- one of the rules of the chains holds
abbrev pub Keeps : World → Call → LateRule → Type 0
Keeps world call rule = each (broken_by world rule call.moment) (in_call_order call) ≡ None

-- what each rule means of all PASSporTs
pub record Meanings (world : World) (call : Call) : Type 0 where
  pub listing : Keeps world call late.Listed ↔ Each (IsListed world) (in_call_order call)
  pub profile : Each (IsListed world) (in_call_order call) → Keeps world call late.Profile ↔ Each (IsInProfile world) (in_call_order call)
  pub shape : Each (IsInProfile world) (in_call_order call) → Keeps world call late.Shape ↔ Each (IsAnchored world) (in_call_order call)
  pub dates : Each (IsAnchored world) (in_call_order call) → Keeps world call late.Dates ↔ Each (IsInDate world call.moment) (in_call_order call)
  pub authority : Each (IsAnchored world) (in_call_order call) → Keeps world call late.Authority ↔ Each (HasAuthority world) (in_call_order call)
  pub asked : Each (HasAuthority world) (in_call_order call) → Keeps world call late.Asked ↔ Each (IsCertified world) (in_call_order call)
  pub genuine : Each (IsInProfile world) (in_call_order call) → (each (forged world) (in_call_order call) ≡ None) ↔ Each (IsGenuine world) (in_call_order call)
  pub covered : Each (IsInProfile world) (in_call_order call) → Keeps world call late.Covers ↔ Each (IsCovered world) (in_call_order call)
  pub allowed : Each (IsInProfile world) (in_call_order call) → Keeps world call late.Constraints ↔ Each (IsAllowed world) (in_call_order call)

pub meanings : ChainLaws → CoversLaw → (world : World) → HoldsBytes world → (call : Call) → Meanings world call
meanings laws law world typed call = record {
  listing = each_means (broken_by world late.Listed call.moment) (IsListed world) (listed_means world call.moment) (in_call_order call);
  profile = each_means_of (broken_by world late.Profile call.moment) (IsListed world) (IsInProfile world) (profile_means laws world typed call.moment) (in_call_order call);
  shape = each_means_of (broken_by world late.Shape call.moment) (IsInProfile world) (IsAnchored world) (path_means laws world typed call.moment) (in_call_order call);
  dates = each_means_of (broken_by world late.Dates call.moment) (IsAnchored world) (IsInDate world call.moment) (dates_mean laws world typed call.moment) (in_call_order call);
  authority = each_means_of (broken_by world late.Authority call.moment) (IsAnchored world) (HasAuthority world) (authority_means laws world typed call.moment) (in_call_order call);
  asked = each_means_of (broken_by world late.Asked call.moment) (HasAuthority world) (IsCertified world) (signatures_mean laws world typed call.moment) (in_call_order call);
  genuine = each_means_of (forged world) (IsInProfile world) (IsGenuine world) (genuine_means laws world typed) (in_call_order call);
  covered = each_means_of (broken_by world late.Covers call.moment) (IsInProfile world) (IsCovered world) (coverage_means laws law world typed call.moment) (in_call_order call);
  allowed = each_means_of (broken_by world late.Constraints call.moment) (IsInProfile world) (IsAllowed world) (allowed_means laws world typed call.moment) (in_call_order call);
}

-- ---- what holds if so many of them do

-- rules 10 to 14, as far as they hold, in their own words
pub listed_of : (world : World) (call : Call) → Meanings world call → Keeps world call late.Listed → Each (IsListed world) (in_call_order call)
listed_of world call m a = m.listing.0 a

pub profile_of : (world : World) (call : Call) → Meanings world call → Keeps world call late.Listed → Keeps world call late.Profile → Each (IsInProfile world) (in_call_order call)
profile_of world call m a b = (m.profile (listed_of world call m a)).0 b

pub anchored_of : (world : World) (call : Call) → Meanings world call → Keeps world call late.Listed → Keeps world call late.Profile → Keeps world call late.Shape
    → Each (IsAnchored world) (in_call_order call)
anchored_of world call m a b c = (m.shape (profile_of world call m a b)).0 c

-- ---- each rule by a verdict

words_by : (world : World) (call : Call) (verdict : Verdict) → Meanings world call → LateOf (late_rules world) world call verdict → SaysLateWords world call verdict
words_by world call verdict m h =
    let r10 : Rule = late_rule world late.Listed in
    let r11 : Rule = late_rule world late.Profile in
    let r12 : Rule = late_rule world late.Shape in
    let r13 : Rule = late_rule world late.Dates in
    let r14 : Rule = late_rule world late.Authority in
    let r15 : Rule = late_rule world late.Asked in
    let r16 : Rule = asking_rule world in
    let r17 : Rule = late_rule world late.Covers in
    let r19 : Rule = late_rule world late.Constraints in
    record {
      files = late_means (Each (IsListed world) (in_call_order call)) [] r10 (r11 ∷ r12 ∷ r13 ∷ r14 ∷ r15 ∷ r16 ∷ r17 ∷ r19 ∷ []) world call verdict tt
          (omega arith, (omega arith, (omega arith, (omega arith, (omega arith, (omega arith, (omega arith, (omega arith, tt))))))))
          (λ _. m.listing) (λ low all. m.listing.0 all.0) h;
      profile = late_means (Each (IsInProfile world) (in_call_order call)) (r10 ∷ []) r11 (r12 ∷ r13 ∷ r14 ∷ r15 ∷ r16 ∷ r17 ∷ r19 ∷ []) world call verdict (omega arith, tt)
          (omega arith, (omega arith, (omega arith, (omega arith, (omega arith, (omega arith, (omega arith, tt)))))))
          (λ f. m.profile (listed_of world call m f.0)) (λ low all. profile_of world call m all.0 all.1.0) h;
      paths = late_means (Each (IsAnchored world) (in_call_order call)) (r10 ∷ r11 ∷ []) r12 (r13 ∷ r14 ∷ r15 ∷ r16 ∷ r17 ∷ r19 ∷ []) world call verdict (omega arith, (omega arith, tt))
          (omega arith, (omega arith, (omega arith, (omega arith, (omega arith, (omega arith, tt))))))
          (λ f. m.shape (profile_of world call m f.0 f.1.0)) (λ low all. anchored_of world call m all.0 all.1.0 all.1.1.0) h;
      dates = late_means (Each (IsInDate world call.moment) (in_call_order call)) (r10 ∷ r11 ∷ r12 ∷ []) r13 (r14 ∷ r15 ∷ r16 ∷ r17 ∷ r19 ∷ []) world call verdict (omega arith, (omega arith, (omega arith, tt)))
          (omega arith, (omega arith, (omega arith, (omega arith, (omega arith, tt)))))
          (λ f. m.dates (anchored_of world call m f.0 f.1.0 f.1.1.0)) (λ low all. (m.dates (anchored_of world call m all.0 all.1.0 all.1.1.0)).0 all.1.1.1.0) h;
      authority = late_means (Each (HasAuthority world) (in_call_order call)) (r10 ∷ r11 ∷ r12 ∷ r13 ∷ []) r14 (r15 ∷ r16 ∷ r17 ∷ r19 ∷ []) world call verdict (omega arith, (omega arith, (omega arith, (omega arith, tt))))
          (omega arith, (omega arith, (omega arith, (omega arith, tt))))
          (λ f. m.authority (anchored_of world call m f.0 f.1.0 f.1.1.0)) (λ low all. (m.authority (anchored_of world call m all.0 all.1.0 all.1.1.0)).0 all.1.1.1.1.0) h;
      certificates = late_means (Each (IsCertified world) (in_call_order call)) (r10 ∷ r11 ∷ r12 ∷ r13 ∷ r14 ∷ []) r15 (r16 ∷ r17 ∷ r19 ∷ []) world call verdict (omega arith, (omega arith, (omega arith, (omega arith, (omega arith, tt)))))
          (omega arith, (omega arith, (omega arith, tt)))
          (λ f. m.asked ((m.authority (anchored_of world call m f.0 f.1.0 f.1.1.0)).0 f.1.1.1.1.0)) (λ low all. absurd (omega (arith, low))) h;
      signatures = late_means (Each (IsGenuine world) (in_call_order call)) (r10 ∷ r11 ∷ r12 ∷ r13 ∷ r14 ∷ r15 ∷ []) r16 (r17 ∷ r19 ∷ []) world call verdict (omega arith, (omega arith, (omega arith, (omega arith, (omega arith, (omega arith, tt))))))
          (omega arith, (omega arith, tt))
          (λ f. m.genuine (profile_of world call m f.0 f.1.0)) (λ low all. absurd (omega (arith, low))) h;
      coverage = late_means (Each (IsCovered world) (in_call_order call)) (r10 ∷ r11 ∷ r12 ∷ r13 ∷ r14 ∷ r15 ∷ r16 ∷ []) r17 (r19 ∷ []) world call verdict (omega arith, (omega arith, (omega arith, (omega arith, (omega arith, (omega arith, (omega arith, tt)))))))
          (omega arith, tt)
          (λ f. m.covered (profile_of world call m f.0 f.1.0)) (λ low all. absurd (omega (arith, low))) h;
      constraints = late_means (Each (IsAllowed world) (in_call_order call)) (r10 ∷ r11 ∷ r12 ∷ r13 ∷ r14 ∷ r15 ∷ r16 ∷ r17 ∷ []) r19 [] world call verdict (omega arith, (omega arith, (omega arith, (omega arith, (omega arith, (omega arith, (omega arith, (omega arith, tt))))))))
          tt
          (λ f. m.allowed (profile_of world call m f.0 f.1.0)) (λ low all. absurd (omega (arith, low))) h;
    }

late_of : (world : World) (call : Call) (verdict : Verdict) → first early_rules call ≡ None → VerdictOf world call verdict → LateOf (late_rules world) world call verdict
late_of world call Passed early h = sym (first_late world call early) ∙ h
late_of world call (Refused refused) early h = sym (first_late world call early) ∙ h
late_of world call (Unread bad) early h = tt
late_of world call (Unasked bad) early h = h.chains

pub late_words : ChainLaws → CoversLaw → (world : World) → HoldsBytes world → (call : Call) (verdict : Verdict) → first early_rules call ≡ None → VerdictOf world call verdict
    → SaysLateWords world call verdict
late_words laws law world typed call verdict early h = words_by world call verdict (meanings laws law world typed call) (late_of world call verdict early h)
