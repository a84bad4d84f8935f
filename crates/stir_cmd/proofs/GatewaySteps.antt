-- The steps of `retarget`: what comes of a message is what is answered to it.
use Rattle.std.proofs.Common.{◌≡◌, ℕ, inl, inr, true, List, Option, Result, Ok, Err, IfOk, refl, ap, ◌∙◌, subst}
use Rattle.retarget.specs.Hop.{HopView}
use Rattle.retarget.specs.declared.fault.HopFault.{HopFault}
use Rattle.retarget.specs.declared.fault.HopFault.TheVariants as faults
use Rattle.stir_cmd.specs.Sending.{IsAnswerOf, IsOverChains, IsSentOn, MayCome, PlaceView}
use Rattle.stir_files.specs.Retargeting.{RetargetingOf}
use Rattle.stir_files.specs.declared.retargeting.RetargetingMaterials.{RetargetingMaterials}
use Rattle.stir_outside.specs.Files.{Files}
use Rattle.stir_outside.specs.Status.{status_number}
use Rattle.stir_words.specs.Order.{RetargetingView}
use Rattle.verify_rules.specs.Call.{Reading}
use Rattle.verify_rules.specs.States.{State}
use Rattle.verify_rules.specs.declared.verdict.Verdict.TheVariants as verdicts
use Rattle.stir_cmd.specs.Answer.{Reply}
use Rattle.stir_cmd.specs.Gateway.{GatewayGives, HeldFor, IsListed, gateway_answering, hop_line, is_wanting}
use Rattle.stir_cmd.specs.Input.{RanInput}
use Rattle.stir_cmd.specs.Outside.{Io}

-- ---- what is answered

-- the same answer, of the bytes that the code's answer is
answer_seen : {V : Type 0} (items : V → List ℕ) (place : PlaceView) (hop : HopView) (bytes : List ℕ) (readings : List Reading) (states : List State) (out : V)
    → IsAnswerOf place hop bytes readings states items (Ok out) → IsAnswerOf place hop bytes readings states (λ (x : List ℕ). x) (Ok (items out))
answer_seen items place hop bytes readings states out a =
    record { finished = a.finished; no_pass = a.no_pass; exact = a.exact; written = a.written; causes = a.causes; next = a.next; link = a.link }

-- whatever is made of the answer, it stands over the same chains
over_as : {V X : Type 0} (items : V → List ℕ) (seen : X → List ℕ) (place : PlaceView) (told : Option Files) (before now : ℕ) (hop : HopView) (bytes : List ℕ)
    (result : Result V HopFault) (made : Result X HopFault)
    → ((readings : List Reading) (states : List State) → IsAnswerOf place hop bytes readings states items result → IsAnswerOf place hop bytes readings states seen made)
    → IsOverChains place told before now hop bytes items result → IsOverChains place told before now hop bytes seen made
over_as items seen place told before now hop bytes result made same over = record {
  early = over.early;
  states = over.states;
  counted = over.counted;
  right = over.right;
  unread = over.unread;
  answered = over.answered;
  answer = same _ over.states over.answer;
}

over_seen : {V : Type 0} (items : V → List ℕ) (place : PlaceView) (told : Option Files) (before now : ℕ) (hop : HopView) (bytes : List ℕ) (out : V)
    → IsOverChains place told before now hop bytes items (Ok out) → IsOverChains place told before now hop bytes (λ (x : List ℕ). x) (Ok (items out))
over_seen items place told before now hop bytes out =
    over_as items (λ (x : List ℕ). x) place told before now hop bytes (Ok out) (Ok (items out)) (λ readings states. answer_seen items place hop bytes readings states out)

fault_seen : {V : Type 0} (items : V → List ℕ) (place : PlaceView) (hop : HopView) (bytes : List ℕ) (readings : List Reading) (states : List State) (fault : HopFault)
    → IsAnswerOf place hop bytes readings states items (Err fault) → IsAnswerOf {X = List ℕ} place hop bytes readings states (λ x. x) (Err fault)
fault_seen items place hop bytes readings states fault a =
    record { finished = a.finished; no_pass = a.no_pass; exact = a.exact; written = a.written; causes = a.causes; next = a.next; link = a.link }

over_fault : {V : Type 0} (items : V → List ℕ) (place : PlaceView) (told : Option Files) (before now : ℕ) (hop : HopView) (bytes : List ℕ) (fault : HopFault)
    → IsOverChains place told before now hop bytes items (Err fault) → IsOverChains {X = List ℕ} place told before now hop bytes (λ x. x) (Err fault)
over_fault items place told before now hop bytes fault =
    over_as items (λ (x : List ℕ). x) place told before now hop bytes (Err fault) (Err fault) (λ readings states. fault_seen items place hop bytes readings states fault)

-- a message that goes on
pub sends : {V : Type 0} (items : V → List ℕ) (place : PlaceView) (hop : HopView) (told : Option Files) (before now : ℕ) (bytes : List ℕ) (out : V)
    → IsSentOn place told before now hop bytes items (Ok out) → GatewayGives place hop told before now bytes (items out) 0
sends {V = V} items place hop told before now bytes out (inl screened) =
    let k : ◌≡◌ {A = Result V HopFault} (Ok out) (Err (faults.Verdict (verdicts.Refused screened.refused))) = screened.answer in absurd cc
sends items place hop told before now bytes out (inr (inl over)) = inr (inl (record { said = refl; over = over_seen items place told before now hop bytes out over }))
sends {V = V} items place hop told before now bytes out (inr (inr e)) = let k : ◌≡◌ {A = Result V HopFault} (Ok out) (Err faults.Memory) = e in absurd cc

err_is : {V : Type 0} (fault other : HopFault) → ◌≡◌ {A = Result V HopFault} (Err fault) (Err other) → fault ≡ other
err_is fault other e = cc

-- one that doesn't
holds_by : {V : Type 0} (items : V → List ℕ) (place : PlaceView) (hop : HopView) (told : Option Files) (before now : ℕ) (bytes : List ℕ) (fault : HopFault) (text : List ℕ) (status : ℕ)
    → IsSentOn place told before now hop bytes items (Err fault) → MayCome before now fault → HeldFor hop.key fault text status
    → GatewayGives place hop told before now bytes text status
holds_by {V = V} items place hop told before now bytes fault text status (inl screened) may held =
    let same : fault ≡ faults.Verdict (verdicts.Refused screened.refused) = err_is {V = V} fault (faults.Verdict (verdicts.Refused screened.refused)) screened.answer in
    inl (record { said = held.said; refused = screened.refused; first = screened.first; line = held.line ∙ ap (hop_line hop.key) same })
holds_by items place hop told before now bytes fault text status (inr (inl over)) may held = inr (inr (record {
  said = held.said;
  fault = fault;
  no_memory = held.no_memory;
  may = may;
  over = over_fault items place told before now hop bytes fault over;
  line = held.line;
}))
holds_by {V = V} items place hop told before now bytes fault text status (inr (inr e)) may held =
    let wanting : is_wanting fault ≡ true = ap is_wanting (err_is {V = V} fault faults.Memory e) in
    let known = held.no_memory in
    absurd cc

pub holds : {V E : Type 0} (items : V → List ℕ) (place : PlaceView) (hop : HopView) (told : Option Files) (before now : ℕ) (bytes : List ℕ) (fault : HopFault)
    (reply : Result Reply E) → IsSentOn place told before now hop bytes items (Err fault) → MayCome before now fault
    → IfOk reply (λ r. HeldFor hop.key fault r.text (status_number r.status)) → IfOk reply (λ r. GatewayGives place hop told before now bytes r.text (status_number r.status))
holds items place hop told before now bytes fault (Ok reply) sent may held = holds_by items place hop told before now bytes fault reply.text (status_number reply.status) sent may held
holds items place hop told before now bytes fault (Err wanting) sent may held = tt

-- the same hop, in other words
pub other_hop : {X : Type 0} (place : PlaceView) (hop other : HopView) (told : Option Files) (before now : ℕ) (bytes : List ℕ) (items : X → List ℕ) (result : Result X HopFault) → hop ≡ other
    → IsSentOn place told before now hop bytes items result → IsSentOn place told before now other bytes items result
other_hop place hop other told before now bytes items result same sent = subst (λ (h : HopView). IsSentOn place told before now h bytes items result) same sent

-- the same place, in other words
pub other_place : (place other : PlaceView) (hop : HopView) (told : Option Files) (faults_before faults_now : ℕ) (before now : Io) (status : ℕ) → place ≡ other
    → RanInput (gateway_answering place hop told faults_before faults_now) before now status → RanInput (gateway_answering other hop told faults_before faults_now) before now status
other_place place other hop told faults_before faults_now before now status same ran =
    subst (λ (p : PlaceView). RanInput (gateway_answering p hop told faults_before faults_now) before now status) same ran

-- ---- the files, and what the words say

pub is_listed : (files : Option Files) (words : RetargetingView) (materials : RetargetingMaterials) → RetargetingOf files words materials → IsListed materials
is_listed files words materials r = r.leaf.holds.listed
