-- What the holding of each of rules 10 to 15 means, of one PASSporT that meets those before it.
use Rattle.std.proofs.Common.{◌≡◌, ◌≢◌, ◌↔◌, ℕ, ◌<◌, ◌≤◌, nat_lt, Bool, true, false, cond, List, length, Option, Some, None, option_and_then, Result, Ok, refl, sym, ◌∙◌, ap, subst, arith}
use Rattle.std.specs.Prelude.{slice_index}
use Rattle.std.proofs.lemmas.Bool.Decides.{nat_tests}
use Rattle.stir_outside.specs.Files.{file}
use Rattle.claim_constraints.specs.Constraints.{ConstraintsView}
use Rattle.claim_constraints.specs.Meets.{Meets, meets}
use Rattle.serde_json.specs.Data.{Data}
use Rattle.x509_profile.specs.Chain.{Chain, RefusedCertificate, certificates_in}
use Rattle.x509_profile.specs.View.{CertView}
use Rattle.delegation.specs.Coverage.{Table}
use Rattle.delegation.specs.Path.{Path}
use Rattle.cert_store.specs.ChainMap.{listed}
use Rattle.cert_store.specs.Judged.{JudgedView, judged_of, out_of_date}
use Rattle.cert_store.specs.Rules.{Says}
use Rattle.cert_store.specs.Words.{InWords, IsAuthorized, IsFirstBroken, IsSigned, IsValid, PathOf, ProfileOf, SignedAs}
use Rattle.cert_store.specs.declared.judged.Asked.{Asked}
use Rattle.cert_store.specs.declared.judged.Asked.TheVariants.{NotAsked, Yes, No, Failed}
use Rattle.verify_rules.specs.Call.{Reading}
use Rattle.verify_rules.specs.Late.{by_answer, by_part, tell, tell_judged}
use Rattle.verify_rules.specs.LateWords.{HasAuthority, HasChain, HasFile, IsAnchored, IsCertified, IsInDate, IsInProfile, IsListed}
use Rattle.verify_rules.specs.States.{State, have, long}
use Rattle.verify_rules.specs.World.{HoldsBytes, World, broken_by, part_at, truth_by, truth_for, truth_of}
use Rattle.verify_rules.specs.declared.late.LateRule.{LateRule}
use Rattle.verify_rules.specs.declared.late.LateRule.TheVariants as late
use Rattle.verify_rules.proofs.WorldEvents.{AnsweredLaw}

-- ---- the laws of the crates below

abbrev pub IsBytes : List ℕ → Type 0
IsBytes bytes = (i : ℕ) → slice_index bytes i < 256

-- what the rules on a chain say of its bytes, in their own words
abbrev pub WordsLaw : Type 0
WordsLaw = (anchors : List CertView) (table : Table) (says : Says) (bytes : List ℕ) → IsBytes bytes → InWords anchors table says bytes (judged_of anchors table says bytes)

-- a chain has no more bytes than a chain file may have
abbrev pub ShortLaw : Type 0
ShortLaw = (bytes : List ℕ) (chain : List CertView) → Chain bytes chain → length bytes ≤ 49152

-- the certificates of a chain are read of its bytes
abbrev pub ChainLaw : Type 0
ChainLaw = (bytes : List ℕ) (chain : List CertView) → Chain bytes chain → certificates_in bytes ≡ Ok chain

-- the test of a payload passes exactly if it meets the constraints
abbrev pub MeetsLaw : Type 0
MeetsLaw = (c : ConstraintsView) (payload : Data) → (meets c payload ≡ true) ↔ Meets c payload

pub record ChainLaws : Type 0 where
  pub answered : AnsweredLaw
  pub words : WordsLaw
  pub short : ShortLaw
  pub read : ChainLaw
  pub met : MeetsLaw

pub chain_laws : AnsweredLaw → WordsLaw → ShortLaw → ChainLaw → MeetsLaw → ChainLaws
chain_laws answered words short read met = record { answered = answered; words = words; short = short; read = read; met = met }

-- ---- what is said of a part

part_none : (field : ℕ) (part : Option ℕ) → part_at field (by_part part) ≡ None → part ≡ None
part_none field None h = refl
part_none field (Some part) h = absurd cc

-- what a rule says of a PASSporT whose chain is known
pub said_of : (world : World) (rule : LateRule) (moment : ℕ) (one : Reading) (state : State) → truth_for world one ≡ state
    → broken_by world rule moment one ≡ part_at one.mark.field (tell rule world.table moment one state)
unfolding broken_by
said_of world rule moment one state is = ap (λ s. part_at one.mark.field (tell rule world.table moment one s)) is

-- ---- rule 10

pub truth_of_file : (world : World) (one : Reading) (bytes : List ℕ) → HasFile world one bytes → truth_for world one ≡ truth_by world (Some bytes)
unfolding truth_of
truth_of_file world one bytes f = ap (truth_by world) (ap (option_and_then (λ name. file name world.files)) f.named ∙ f.there)

there_by : (world : World) (moment : ℕ) (one : Reading) (name : List ℕ) (content : Option (List ℕ)) → listed world.chains one.passport.x5u ≡ Some name → file name world.files ≡ content
    → part_at one.mark.field (tell late.Listed world.table moment one (truth_by world content)) ≡ None → IsListed world one
there_by world moment one name None named there h = absurd cc
there_by world moment one name (Some bytes) named there h = (bytes, record { name = name; named = named; there = there })

listed_by : (world : World) (moment : ℕ) (one : Reading) (named : Option (List ℕ)) → listed world.chains one.passport.x5u ≡ named
    → part_at one.mark.field (tell late.Listed world.table moment one (truth_by world (option_and_then (λ name. file name world.files) named))) ≡ None → IsListed world one
listed_by world moment one None e h = absurd cc
listed_by world moment one (Some name) e h = there_by world moment one name (file name world.files) e refl h

listed_found : (world : World) (moment : ℕ) (one : Reading) → broken_by world late.Listed moment one ≡ None → IsListed world one
unfolding broken_by truth_of
listed_found world moment one h = listed_by world moment one (listed world.chains one.passport.x5u) refl h

listed_if : (table : Table) (moment : ℕ) (one : Reading) (judged : JudgedView) (t : Bool) → part_at one.mark.field (tell late.Listed table moment one (cond t long (have judged))) ≡ None
listed_if table moment one judged true = refl
listed_if table moment one judged false = refl

pub listed_means : (world : World) (moment : ℕ) (one : Reading) → (broken_by world late.Listed moment one ≡ None) ↔ IsListed world one
listed_means world moment one = (
  listed_found world moment one,
  (λ (p : IsListed world one).
      said_of world late.Listed moment one (truth_by world (Some p.0)) (truth_of_file world one p.0 p.1)
      ∙ listed_if world.table moment one (judged_of world.anchors world.table world.says p.0) (nat_lt 49152 (length p.0))),
)

-- ---- a chain

-- what is known of the chain of a PASSporT
pub record Known (world : World) (one : Reading) (chain : List CertView) : Type 0 where
  pub bytes : List ℕ
  pub judged : JudgedView
  pub is : truth_for world one ≡ have judged
  pub in_words : InWords world.anchors world.table world.says bytes judged
  pub answered : (part : ℕ) → judged.asked ≢ Failed part
  pub profile : judged.profile ≡ None
  pub certificates : judged.certificates ≡ chain

profile_none : (bytes : List ℕ) (chain certificates : List CertView) (profile : Option ℕ) → ProfileOf bytes certificates profile → Chain bytes chain → (profile ≡ None) × Chain bytes certificates
profile_none bytes chain certificates None p c = (refl, p)
profile_none bytes chain certificates (Some place) p c = absurd (p.1 chain c)

same_read : (r : Result (List CertView) RefusedCertificate) (a b : List CertView) → r ≡ Ok a → r ≡ Ok b → a ≡ b
same_read r a b e f = cc

one_chain : ChainLaw → (bytes : List ℕ) (chain other : List CertView) → Chain bytes chain → Chain bytes other → chain ≡ other
one_chain read bytes chain other a b = same_read (certificates_in bytes) chain other (read bytes chain a) (read bytes other b)

pub known : ChainLaws → (world : World) → HoldsBytes world → (one : Reading) (chain : List CertView) → HasChain world one chain → Known world one chain
known laws world typed one chain h =
    let judged : JudgedView = judged_of world.anchors world.table world.says h.bytes in
    let short : length h.bytes ≤ 49152 = laws.short h.bytes chain h.is in
    let low : nat_lt 49152 (length h.bytes) ≡ false = grind (arith, nat_tests) in
    let words = laws.words world.anchors world.table world.says h.bytes (typed h.has_file.name h.bytes h.has_file.there) in
    let p = profile_none h.bytes chain judged.certificates judged.profile words.profile h.is in
    record {
      bytes = h.bytes;
      judged = judged;
      is = truth_of_file world one h.bytes h.has_file ∙ ap (λ t. cond t long (have judged)) low;
      in_words = words;
      answered = laws.answered world.anchors world.table world.says h.bytes;
      profile = p.0;
      certificates = one_chain laws.read h.bytes judged.certificates chain p.1 h.is;
    }

-- what a rule says of it
pub judged_says : (world : World) (rule : LateRule) (moment : ℕ) (one : Reading) (chain : List CertView) (k : Known world one chain)
    → broken_by world rule moment one ≡ part_at one.mark.field (tell_judged rule world.table moment one k.judged)
judged_says world rule moment one chain k = said_of world rule moment one (have k.judged) k.is

-- ---- rule 11

profile_by : WordsLaw → (world : World) (moment : ℕ) (one : Reading) (bytes : List ℕ) (t : Bool) → IsBytes bytes → HasFile world one bytes
    → part_at one.mark.field (tell late.Profile world.table moment one (cond t long (have (judged_of world.anchors world.table world.says bytes)))) ≡ None → IsInProfile world one
profile_by law world moment one bytes true typed f h = absurd cc
profile_by law world moment one bytes false typed f h =
    let judged : JudgedView = judged_of world.anchors world.table world.says bytes in
    let words = law world.anchors world.table world.says bytes typed in
    let none : judged.profile ≡ None = part_none one.mark.field judged.profile h in
    (judged.certificates, record { bytes = bytes; has_file = f; is = subst (ProfileOf bytes judged.certificates) none words.profile })

pub profile_means : ChainLaws → (world : World) → HoldsBytes world → (moment : ℕ) (one : Reading) → IsListed world one
    → (broken_by world late.Profile moment one ≡ None) ↔ IsInProfile world one
profile_means laws world typed moment one (bytes, f) = (
  (λ h.
      let here = sym (said_of world late.Profile moment one (truth_by world (Some bytes)) (truth_of_file world one bytes f)) ∙ h in
      profile_by laws.words world moment one bytes (nat_lt 49152 (length bytes)) (typed f.name bytes f.there) f here),
  (λ (p : IsInProfile world one).
      let k = known laws world typed one p.0 p.1 in
      judged_says world late.Profile moment one p.0 k ∙ ap (λ part. part_at one.mark.field (by_part part)) k.profile),
)

-- ---- rule 12

shape_none : (chain anchors : List CertView) (shape anchor : Option ℕ) → PathOf chain anchors shape → Path chain anchors anchor → shape ≡ None
shape_none chain anchors None anchor p path = refl
shape_none chain anchors (Some place) anchor p path = absurd (p.0 anchor path)

-- of a chain that is known, its path
path_of : (world : World) (one : Reading) (chain : List CertView) (anchor : Option ℕ) (k : Known world one chain) → Path chain world.anchors anchor
    → Path k.judged.certificates world.anchors anchor
path_of world one chain anchor k path = subst (λ (c : List CertView). Path c world.anchors anchor) (sym k.certificates) path

pub path_means : ChainLaws → (world : World) → HoldsBytes world → (moment : ℕ) (one : Reading) → IsInProfile world one
    → (broken_by world late.Shape moment one ≡ None) ↔ IsAnchored world one
path_means laws world typed moment one (chain, h) = (
  (λ none.
      let k = known laws world typed one chain h in
      let whole : k.judged.shape ≡ None = part_none one.mark.field k.judged.shape (sym (judged_says world late.Shape moment one chain k) ∙ none) in
      let found = subst (PathOf k.judged.certificates world.anchors) whole (k.in_words.path k.profile) in
      (chain, found.0, record { has_chain = h; is = subst (λ (c : List CertView). Path c world.anchors found.0) k.certificates found.1 })),
  (λ (p : IsAnchored world one).
      let k = known laws world typed one p.0 p.2.has_chain in
      let whole = shape_none k.judged.certificates world.anchors k.judged.shape p.1 (k.in_words.path k.profile) (path_of world one p.0 p.1 k p.2.is) in
      judged_says world late.Shape moment one p.0 k ∙ ap (λ part. part_at one.mark.field (by_part part)) whole),
)

-- ---- the first certificate of which something doesn't hold

first_none : (Holds : ℕ → Type 0) (count : ℕ) (first : Option ℕ) → IsFirstBroken Holds count first → ((n : ℕ) → 1 ≤ n → n ≤ count → Holds n) → first ≡ None
first_none Holds count None f all = refl
first_none Holds count (Some broken) f all = absurd (f.2 (all broken f.0 f.1))

-- ---- rule 13

pub dates_of : (world : World) (moment : ℕ) (one : Reading) (chain : List CertView) (anchor : Option ℕ) (k : Known world one chain) → Path chain world.anchors anchor
    → IsFirstBroken (IsValid world.anchors moment chain) (length chain) (out_of_date k.judged moment)
dates_of world moment one chain anchor k path =
    subst (λ (c : List CertView). IsFirstBroken (IsValid world.anchors moment c) (length c) (out_of_date k.judged moment)) k.certificates
    (k.in_words.dates anchor moment (path_of world one chain anchor k path))

pub dates_mean : ChainLaws → (world : World) → HoldsBytes world → (moment : ℕ) (one : Reading) → IsAnchored world one
    → (broken_by world late.Dates moment one ≡ None) ↔ IsInDate world moment one
dates_mean laws world typed moment one (chain, anchor, h) = (
  (λ none.
      let k = known laws world typed one chain h.has_chain in
      let valid : out_of_date k.judged moment ≡ None = part_none one.mark.field (out_of_date k.judged moment) (sym (judged_says world late.Dates moment one chain k) ∙ none) in
      (chain, anchor, h, subst (IsFirstBroken (IsValid world.anchors moment chain) (length chain)) valid (dates_of world moment one chain anchor k h.is))),
  (λ (p : IsInDate world moment one).
      let k = known laws world typed one p.0 p.2.has_chain in
      let valid = first_none (IsValid world.anchors moment p.0) (length p.0) (out_of_date k.judged moment) (dates_of world moment one p.0 p.1 k p.2.is) p.3 in
      judged_says world late.Dates moment one p.0 k ∙ ap (λ part. part_at one.mark.field (by_part part)) valid),
)

-- ---- rule 14

pub authority_of : (world : World) (one : Reading) (chain : List CertView) (anchor : Option ℕ) (k : Known world one chain) → Path chain world.anchors anchor
    → IsFirstBroken (IsAuthorized world.table world.anchors anchor chain) (length chain) k.judged.authority
authority_of world one chain anchor k path =
    subst (λ (c : List CertView). IsFirstBroken (IsAuthorized world.table world.anchors anchor c) (length c) k.judged.authority) k.certificates
    (k.in_words.authority anchor (path_of world one chain anchor k path))

pub authority_means : ChainLaws → (world : World) → HoldsBytes world → (moment : ℕ) (one : Reading) → IsAnchored world one
    → (broken_by world late.Authority moment one ≡ None) ↔ HasAuthority world one
authority_means laws world typed moment one (chain, anchor, h) = (
  (λ none.
      let k = known laws world typed one chain h.has_chain in
      let inside : k.judged.authority ≡ None = part_none one.mark.field k.judged.authority (sym (judged_says world late.Authority moment one chain k) ∙ none) in
      (chain, anchor, h, subst (IsFirstBroken (IsAuthorized world.table world.anchors anchor chain) (length chain)) inside (authority_of world one chain anchor k h.is))),
  (λ (p : HasAuthority world one).
      let k = known laws world typed one p.0 p.2.has_chain in
      let inside = first_none (IsAuthorized world.table world.anchors p.1 p.0) (length p.0) k.judged.authority (authority_of world one p.0 p.1 k p.2.is) p.3 in
      judged_says world late.Authority moment one p.0 k ∙ ap (λ part. part_at one.mark.field (by_part part)) inside),
)

-- ---- rule 15

signed_all : (Holds : ℕ → Type 0) (count field : ℕ) (asked : Asked) → SignedAs Holds count asked → ((part : ℕ) → asked ≢ Failed part) → part_at field (by_answer asked) ≡ None
    → (n : ℕ) → 1 ≤ n → n ≤ count → Holds n
signed_all Holds count field NotAsked s answered h = absurd s
signed_all Holds count field Yes s answered h = s
signed_all Holds count field (No part) s answered h = absurd cc
signed_all Holds count field (Failed part) s answered h = absurd (answered part refl)

signed_none : (Holds : ℕ → Type 0) (count field : ℕ) (asked : Asked) → SignedAs Holds count asked → ((n : ℕ) → 1 ≤ n → n ≤ count → Holds n) → part_at field (by_answer asked) ≡ None
signed_none Holds count field NotAsked s all = absurd s
signed_none Holds count field Yes s all = refl
signed_none Holds count field (No part) s all = absurd (s.2 (all part s.0 s.1))
signed_none Holds count field (Failed part) s all = refl

-- rule 14 holds of what is known
pub inside_of : ChainLaws → (world : World) → HoldsBytes world → (one : Reading) (chain : List CertView) (k : Known world one chain) → HasAuthority world one → k.judged.authority ≡ None
inside_of laws world typed one chain k p =
    part_none one.mark.field k.judged.authority
    (sym (judged_says world late.Authority 0 one chain k) ∙ (authority_means laws world typed 0 one (p.0, p.1, p.2)).1 p)

pub signatures_of : (world : World) (one : Reading) (chain : List CertView) (anchor : Option ℕ) (k : Known world one chain) → Path chain world.anchors anchor → k.judged.authority ≡ None
    → SignedAs (IsSigned world.says world.anchors anchor chain) (length chain) k.judged.asked
signatures_of world one chain anchor k path inside =
    subst (λ (c : List CertView). SignedAs (IsSigned world.says world.anchors anchor c) (length c) k.judged.asked) k.certificates
    (k.in_words.signatures anchor (path_of world one chain anchor k path) inside)

pub signatures_mean : ChainLaws → (world : World) → HoldsBytes world → (moment : ℕ) (one : Reading) → HasAuthority world one
    → (broken_by world late.Asked moment one ≡ None) ↔ IsCertified world one
signatures_mean laws world typed moment one q = (
  (λ none.
      let k = known laws world typed one q.0 q.2.has_chain in
      let signed = signatures_of world one q.0 q.1 k q.2.is (inside_of laws world typed one q.0 k q) in
      (q.0, q.1, q.2, signed_all (IsSigned world.says world.anchors q.1 q.0) (length q.0) one.mark.field k.judged.asked signed k.answered (sym (judged_says world late.Asked moment one q.0 k) ∙ none))),
  (λ (p : IsCertified world one).
      let k = known laws world typed one p.0 p.2.has_chain in
      let signed = signatures_of world one p.0 p.1 k p.2.is (inside_of laws world typed one p.0 k q) in
      judged_says world late.Asked moment one p.0 k ∙ signed_none (IsSigned world.says world.anchors p.1 p.0) (length p.0) one.mark.field k.judged.asked signed p.3),
)
