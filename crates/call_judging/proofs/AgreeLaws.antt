-- Two providers that agree on what is asked for a call judge it alike.
use Rattle.std.proofs.Common.{◌≡◌, ℕ, Bool, true, false, ◌&&◌, cond, nat_lt, List, [], ◌∷◌, ◌++◌, length, is_none, Option, Some, None, refl, sym, ◌∙◌, ap, subst}
use Rattle.std.specs.List.{slice_get}
use Rattle.std.specs.Option.{option_or}
use Rattle.delegation.specs.Coverage.{Table}
use Rattle.lists.proofs.Options.{or_same}
use Rattle.cert_store.proofs.JudgedWords.{answered_apart}
use Rattle.cert_store.specs.Judged.{HasAuthority, JudgedView, judged_of}
use Rattle.cert_store.specs.Questions.{AgreeOn, questions_of}
use Rattle.cert_store.specs.Rules.{QuestionView, Says}
use Rattle.verify_rules.proofs.WorldEvents.{first_append}
use Rattle.verify_rules.specs.Call.{Call, Reading, in_call_order}
use Rattle.verify_rules.specs.Late.{is_signed_by}
use Rattle.verify_rules.specs.Rules.{each, early_rules, first}
use Rattle.verify_rules.specs.States.{State, have, no_chain, long, unread}
use Rattle.verify_rules.specs.World.{First, World, certificate_rules, content_of, forged, forged_by, late_rules, signature_rules, truth_by, truth_for, truth_of, truths, unless_good, with_says}
use Rattle.verify_rules.specs.declared.refusal.Refusal.{Refusal}
use Rattle.x509_profile.specs.View.{CertView}
use Rattle.call_judging.specs.CallQuestions.{call_questions, chain_questions, chains_questions, judged_questions, late_questions, own_question, own_questions, questions_over, under_leaf}
use Rattle.call_judging.proofs.StateLaws.{Alike, AllAlike, chains_same, owns_same}
use Rattle.call_judging.proofs.VerdictLaws.{late_parts}

-- ---- agreement on lists

pub agree_left : (says other : Says) (xs ys : List QuestionView) → AgreeOn says other (xs ++ ys) → AgreeOn says other xs
agree_left says other [] ys agree = tt
agree_left says other (x ∷ xs) ys agree = (agree.0, agree_left says other xs ys agree.1)

pub agree_right : (says other : Says) (xs ys : List QuestionView) → AgreeOn says other (xs ++ ys) → AgreeOn says other ys
agree_right says other [] ys agree = agree
agree_right says other (x ∷ xs) ys agree = agree_right says other xs ys agree.1

-- ---- the chains of a call

-- what is known of the rules on a chain, of two providers
abbrev pub SameJudged : Type 0
SameJudged = (anchors : List CertView) (table : Table) (says other : Says) (bytes : List ℕ)
    → (HasAuthority (judged_of anchors table says bytes) → AgreeOn says other (questions_of (judged_of anchors table says bytes)))
    → judged_of anchors table other bytes ≡ judged_of anchors table says bytes

-- all that the rules on a chain say, if rules 11, 12 and 14 hold
authority_by : (judged : JudgedView) (says other : Says) → AgreeOn says other (judged_questions judged) → HasAuthority judged → AgreeOn says other (questions_of judged)
authority_by judged says other agree has =
    let test : (is_none judged.profile && (is_none judged.shape && is_none judged.authority)) ≡ true = rw (has.path.profile, has.path.shape, has.authority) refl in
    subst (λ t. AgreeOn says other (cond t (questions_of judged) [])) test agree

pub size_agree : SameJudged → (anchors : List CertView) (table : Table) (says other : Says) (bytes : List ℕ) (t : Bool)
    → AgreeOn says other (chain_questions (cond t long (have (judged_of anchors table says bytes))))
    → cond t long (have (judged_of anchors table other bytes)) ≡ cond t long (have (judged_of anchors table says bytes))
size_agree law anchors table says other bytes true agree = refl
size_agree law anchors table says other bytes false agree =
    ap have (law anchors table says other bytes (authority_by (judged_of anchors table says bytes) says other agree))

content_agree : SameJudged → (world : World) (other : Says) (content : Option (List ℕ)) → AgreeOn world.says other (chain_questions (truth_by world content))
    → truth_by (with_says world other) content ≡ truth_by world content
content_agree law world other None agree = refl
content_agree law world other (Some bytes) agree = size_agree law world.anchors world.table world.says other bytes (nat_lt 49152 (length bytes)) agree

truth_agree : SameJudged → (world : World) (other : Says) (one : Reading) → AgreeOn world.says other (chain_questions (truth_for world one))
    → truth_for (with_says world other) one ≡ truth_for world one
unfolding truth_of
truth_agree law world other one agree = content_agree law world other (content_of world one.passport.x5u) agree

truths_agree : SameJudged → (world : World) (other : Says) (readings : List Reading) → AgreeOn world.says other (chains_questions (truths world readings))
    → truths (with_says world other) readings ≡ truths world readings
truths_agree law world other [] agree = refl
truths_agree law world other (one ∷ readings) agree =
    let here = agree_left world.says other (chain_questions (truth_for world one)) (chains_questions (truths world readings)) agree in
    let rest = agree_right world.says other (chain_questions (truth_for world one)) (chains_questions (truths world readings)) agree in
    ap (λ (x : State). x ∷ truths (with_says world other) readings) (truth_agree law world other one here)
    ∙ ap (λ (x : List State). truth_for world one ∷ x) (truths_agree law world other readings rest)

-- ---- the rule on the PASSporTs' own signatures

leaf_same : (says other : Says) (one : Reading) (leaf : Option CertView) → AgreeOn says other (under_leaf one leaf) → is_signed_by other one leaf ≡ is_signed_by says one leaf
leaf_same says other one None agree = refl
leaf_same says other one (Some leaf) agree = sym agree.0

forged_state : (world : World) (other : Says) (one : Reading) (state : State) → AgreeOn world.says other (own_question one state) → forged_by (with_says world other) one state ≡ forged_by world one state
forged_state world other one (have judged) agree = ap (unless_good one.mark.field) (leaf_same world.says other one (slice_get judged.certificates 0) agree)
forged_state world other one no_chain agree = refl
forged_state world other one long agree = refl
forged_state world other one unread agree = refl

forged_same : (world : World) (other : Says) (one : Reading) → truth_for (with_says world other) one ≡ truth_for world one → AgreeOn world.says other (own_question one (truth_for world one))
    → forged (with_says world other) one ≡ forged world one
unfolding forged
forged_same world other one same agree = ap (forged_by (with_says world other) one) same ∙ forged_state world other one (truth_for world one) agree

asking_same : SameJudged → (world : World) (other : Says) (readings : List Reading) → AgreeOn world.says other (chains_questions (truths world readings))
    → AgreeOn world.says other (own_questions readings (truths world readings)) → each (forged (with_says world other)) readings ≡ each (forged world) readings
asking_same law world other [] agree own = refl
asking_same law world other (one ∷ readings) agree own =
    let here = agree_left world.says other (chain_questions (truth_for world one)) (chains_questions (truths world readings)) agree in
    let rest = agree_right world.says other (chain_questions (truth_for world one)) (chains_questions (truths world readings)) agree in
    let own_here = agree_left world.says other (own_question one (truth_for world one)) (own_questions readings (truths world readings)) own in
    let own_rest = agree_right world.says other (own_question one (truth_for world one)) (own_questions readings (truths world readings)) own in
    or_same _ _ _ _ (forged_same world other one (truth_agree law world other one here) own_here) (λ none. asking_same law world other readings rest own_rest)

-- ---- a call

-- the laws of the rules that are needed: those before the signatures depend on no provider, and the others on what it makes of the chains
-- and the PASSporTs
abbrev pub SameCertificates : Type 0
SameCertificates = (world : World) (other : Says) (call : Call) → first (certificate_rules (with_says world other)) call ≡ first (certificate_rules world) call

abbrev pub SameSignatures : Type 0
SameSignatures = (world : World) (other : Says) (call : Call) → truths (with_says world other) (in_call_order call) ≡ truths world (in_call_order call)
    → each (forged (with_says world other)) (in_call_order call) ≡ each (forged world) (in_call_order call)
    → first (signature_rules (with_says world other)) call ≡ first (signature_rules world) call

asked_late : (world : World) (call : Call) → first early_rules call ≡ None → call_questions world call ≡ late_questions world (is_none (first (certificate_rules world) call)) (in_call_order call)
unfolding call_questions
asked_late world call early = ap (λ (x : Option Refusal). cond (is_none x) (late_questions world (is_none (first (certificate_rules world) call)) (in_call_order call)) []) early

late_alike : SameJudged → SameCertificates → SameSignatures → (world : World) (other : Says) (call : Call) → first early_rules call ≡ None
    → AgreeOn world.says other (late_questions world (is_none (first (certificate_rules world) call)) (in_call_order call))
    → First (with_says world other) call ≡ First world call
late_alike law first_ones last_ones world other call early agree =
    let states : List State = truths world (in_call_order call) in
    let own : List QuestionView = cond (is_none (first (certificate_rules world) call)) (own_questions (in_call_order call) states) [] in
    let chains : AgreeOn world.says other (chains_questions states) = agree_left world.says other (chains_questions states) own agree in
    let owns : AgreeOn world.says other own = agree_right world.says other (chains_questions states) own agree in
    late_parts (with_says world other) call early
    ∙ or_same (first (certificate_rules (with_says world other)) call) (first (certificate_rules world) call)
    (first (signature_rules (with_says world other)) call) (first (signature_rules world) call) (first_ones world other call)
    (λ none. last_ones world other call (truths_agree law world other (in_call_order call) chains)
    (asking_same law world other (in_call_order call) chains
    (subst (λ (x : Option Refusal). AgreeOn world.says other (cond (is_none x) (own_questions (in_call_order call) states) [])) none owns)))
    ∙ sym (late_parts world call early)

early_alike : (world : World) (other : Says) (call : Call) (refused : Refusal) → first early_rules call ≡ Some refused → First (with_says world other) call ≡ First world call
early_alike world other call refused is =
    first_append early_rules (late_rules (with_says world other)) call ∙ ap (λ (x : Option Refusal). option_or x (first (late_rules (with_says world other)) call)) is
    ∙ sym (ap (λ (x : Option Refusal). option_or x (first (late_rules world) call)) is) ∙ sym (first_append early_rules (late_rules world) call)

alike_by : SameJudged → SameCertificates → SameSignatures → (world : World) (other : Says) (call : Call) (early : Option Refusal) → first early_rules call ≡ early → AgreeOn world.says other (call_questions world call)
    → First (with_says world other) call ≡ First world call
alike_by law first_ones last_ones world other call None is agree = late_alike law first_ones last_ones world other call is (subst (AgreeOn world.says other) (asked_late world call is) agree)
alike_by law first_ones last_ones world other call (Some refused) is agree = early_alike world other call refused is

-- ---- what is asked depends on no provider

size_alike : (world : World) (other : Says) (bytes : List ℕ) (t : Bool)
    → Alike (cond t long (have (judged_of world.anchors world.table other bytes))) (cond t long (have (judged_of world.anchors world.table world.says bytes)))
size_alike world other bytes true = tt
size_alike world other bytes false = answered_apart world.anchors world.table world.says other bytes

content_alike : (world : World) (other : Says) (content : Option (List ℕ)) → Alike (truth_by (with_says world other) content) (truth_by world content)
content_alike world other None = tt
content_alike world other (Some bytes) = size_alike world other bytes (nat_lt 49152 (length bytes))

truth_alike : (world : World) (other : Says) (one : Reading) → Alike (truth_for (with_says world other) one) (truth_for world one)
unfolding truth_of
truth_alike world other one = content_alike world other (content_of world one.passport.x5u)

truths_alike : (world : World) (other : Says) (readings : List Reading) → AllAlike (truths (with_says world other) readings) (truths world readings)
truths_alike world other [] = tt
truths_alike world other (one ∷ readings) = (truth_alike world other one, truths_alike world other readings)

pub call_same : SameCertificates → (world : World) (other : Says) (call : Call) → call_questions (with_says world other) call ≡ call_questions world call
unfolding call_questions
call_same first_ones world other call =
    let mine : List State = truths (with_says world other) (in_call_order call) in
    let yours : List State = truths world (in_call_order call) in
    let alike : AllAlike mine yours = truths_alike world other (in_call_order call) in
    let own = is_none (first (certificate_rules (with_says world other)) call) in
    let over : questions_over own (in_call_order call) mine ≡ questions_over own (in_call_order call) yours =
    ap (λ (x : List QuestionView). x ++ cond own (own_questions (in_call_order call) mine) []) (chains_same mine yours alike)
    ∙ ap (λ (x : List QuestionView). chains_questions yours ++ cond own x []) (owns_same (in_call_order call) mine yours alike) in
    ap (λ (x : List QuestionView). cond (is_none (first early_rules call)) x [])
    (over ∙ ap (λ (x : Option Refusal). questions_over (is_none x) (in_call_order call) yours) (first_ones world other call))

-- ---- two providers

pub judged_alike : SameJudged → SameCertificates → SameSignatures → (world : World) (other : Says) (call : Call) → AgreeOn world.says other (call_questions world call)
    → First (with_says world other) call ≡ First world call
judged_alike law first_ones last_ones world other call agree = alike_by law first_ones last_ones world other call (first early_rules call) refl agree
