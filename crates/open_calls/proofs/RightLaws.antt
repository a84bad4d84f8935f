-- What comes of a call over chains that were given is what comes of it in a world that leads to them.
use Rattle.std.proofs.Common.{◌≡◌, ◌≢◌, ℕ, nat_lt, Bool, true, false, cond, List, [], ◌∷◌, length, Option, Some, None, inl, inr, refl, sym, ◌∙◌, ap, subst}
use Rattle.cert_store.specs.Asking.{FailedAt, SoFar}
use Rattle.cert_store.specs.Judged.{JudgedAs, JudgedView, judged_of}
use Rattle.cert_store.specs.Questions.{AgreeOn}
use Rattle.cert_store.specs.Rules.{QuestionView, Says}
use Rattle.cert_store.specs.declared.judged.Asked.{Asked}
use Rattle.cert_store.specs.declared.judged.Asked.TheVariants.{NotAsked, Yes, No, Failed}
use Rattle.delegation.specs.Coverage.{Table}
use Rattle.x509_profile.specs.View.{CertView}
use Rattle.call_judging.specs.AlwaysYes.{always_yes}
use Rattle.call_judging.proofs.AgreeLaws.{SameJudged, size_agree}
use Rattle.verify_rules.proofs.WorldVerdict.{first_early, verdict_right}
use Rattle.verify_rules.specs.Call.{Call, Reading, in_call_order}
use Rattle.verify_rules.specs.Rules.{early_rules, first}
use Rattle.verify_rules.specs.States.{State, have, no_chain, long}
use Rattle.verify_rules.specs.World.{AreRight, IsRight, World, content_of, truth_by, truth_of}
use Rattle.verify_rules.specs.declared.refusal.Refusal.{Refusal}
use Rattle.verify_rules.specs.declared.verdict.Verdict.TheVariants as verdicts
use Rattle.open_calls.proofs.ChainLaws.{asked_same}
use Rattle.open_calls.proofs.JudgingLaws.{Unasked, agree_back, same_over}
use Rattle.open_calls.specs.Confirmed.{confirmed, says_by}
use Rattle.open_calls.specs.Founds.{IsFound, IsFoundOver}
use Rattle.open_calls.specs.OpenCalls.{CallView, call_in, unless_refused, x5u_in}
use Rattle.open_calls.specs.OpenChains.{AreGiven, ChainView, GivenChain, IsChainOf, chain_asked, state_by, state_given, states_of}
use Rattle.open_calls.specs.OwnQuestions.{own_asked}
use Rattle.open_calls.specs.Rightness.{AllLead, IsWorldFor, LeadsTo, SaysAsTold}
use Rattle.open_calls.specs.Worlds.{WorldView}
use Rattle.open_calls.specs.declared.found.Found.{Found}
use Rattle.open_calls.specs.declared.found.Found.TheVariants.{Refused, Passes}

-- the law of the rules on a chain that all is answered
abbrev pub Answered : Type 0
Answered = (anchors : List CertView) (table : Table) (says : Says) (bytes : List ℕ) (part : ℕ) → (judged_of anchors table says bytes).asked ≢ Failed part

-- what is known of it is what there is to know by a provider that says what the host said
given_is : SameJudged → (world : WorldView) (says : Says) (bytes good : List ℕ) → SaysAsTold says (chain_asked world bytes) good → state_given world bytes good ≡ state_by world says bytes
given_is law world says bytes good told =
    size_agree law world.anchors world.table says (says_by (confirmed (chain_asked world bytes) good)) bytes (nat_lt 49152 (length bytes))
    (subst (AgreeOn says (says_by (confirmed (chain_asked world bytes) good))) (asked_same world always_yes says bytes) told)

-- ---- it is right

so_far : (asked : Asked) → ((part : ℕ) → asked ≢ Failed part) → SoFar asked asked
so_far NotAsked answered = refl
so_far Yes answered = refl
so_far (No part) answered = refl
so_far (Failed part) answered = absurd (answered part refl)

failed_at : (keys : List (Option (List ℕ))) (asked : Asked) → ((part : ℕ) → asked ≢ Failed part) → FailedAt keys asked
failed_at keys NotAsked answered = tt
failed_at keys Yes answered = tt
failed_at keys (No part) answered = tt
failed_at keys (Failed part) answered = absurd (answered part refl)

judged_as : (judged : JudgedView) → ((part : ℕ) → judged.asked ≢ Failed part) → JudgedAs judged judged
judged_as judged answered = record { same = refl; so_far = so_far judged.asked answered; question = failed_at judged.keys judged.asked answered }

right_by : Answered → (rules : World) (x5u bytes : List ℕ) (says : Says) (anchors : List CertView) (table : Table) (t : Bool)
    → truth_of rules x5u ≡ cond t long (have (judged_of anchors table says bytes)) → IsRight rules x5u (cond t long (have (judged_of anchors table says bytes)))
right_by law rules x5u bytes says anchors table true is = is
right_by law rules x5u bytes says anchors table false is = (judged_of anchors table says bytes, is, judged_as (judged_of anchors table says bytes) (law anchors table says bytes))

truth_is : (rules : World) (world : WorldView) (x5u bytes : List ℕ) → rules.anchors ≡ world.anchors → rules.table ≡ world.table → content_of rules x5u ≡ Some bytes
    → truth_of rules x5u ≡ state_by world rules.says bytes
unfolding truth_of
truth_is rules world x5u bytes anchors table leads =
    ap (truth_by rules) leads
    ∙ ap (λ (a : List CertView). cond (nat_lt 49152 (length bytes)) long (have (judged_of a rules.table rules.says bytes))) anchors
    ∙ ap (λ (t : Table). cond (nat_lt 49152 (length bytes)) long (have (judged_of world.anchors t rules.says bytes))) table

truth_none : (rules : World) (x5u : List ℕ) → content_of rules x5u ≡ None → truth_of rules x5u ≡ no_chain
unfolding truth_of
truth_none rules x5u leads = ap (truth_by rules) leads

some_right : Answered → SameJudged → (rules : World) (world : WorldView) (x5u : List ℕ) (one : GivenChain) (chain : ChainView) → rules.anchors ≡ world.anchors → rules.table ≡ world.table
    → LeadsTo rules world x5u (Some one) → IsChainOf world one.bytes one.good chain → IsRight rules x5u chain.state
some_right answered law rules world x5u one chain anchors table leads opened =
    let is : chain.state ≡ state_by world rules.says one.bytes = opened.state_is ∙ given_is law world rules.says one.bytes one.good leads.1 in
    subst (IsRight rules x5u) (sym is)
    (right_by answered rules x5u one.bytes rules.says world.anchors world.table (nat_lt 49152 (length one.bytes)) (truth_is rules world x5u one.bytes anchors table leads.0))

all_right : Answered → SameJudged → (rules : World) (world : WorldView) (readings : List Reading) (given : List (Option GivenChain)) (chains : List (Option ChainView))
    → rules.anchors ≡ world.anchors → rules.table ≡ world.table → AllLead rules world readings given → AreGiven world given chains → AreRight rules readings (states_of chains)
all_right answered law rules world [] [] [] anchors table leads are = tt
all_right answered law rules world [] [] (chain ∷ chains) anchors table leads are = absurd are
all_right answered law rules world [] (one ∷ given) chains anchors table leads are = absurd leads
all_right answered law rules world (r ∷ readings) [] chains anchors table leads are = absurd leads
all_right answered law rules world (r ∷ readings) (one ∷ given) [] anchors table leads are = absurd are
all_right answered law rules world (r ∷ readings) (None ∷ given) (None ∷ chains) anchors table leads are =
    (truth_none rules (x5u_in r) leads.0, all_right answered law rules world readings given chains anchors table leads.1 are)
all_right answered law rules world (r ∷ readings) (None ∷ given) (Some chain ∷ chains) anchors table leads are = absurd are
all_right answered law rules world (r ∷ readings) (Some one ∷ given) (None ∷ chains) anchors table leads are = absurd are
all_right answered law rules world (r ∷ readings) (Some one ∷ given) (Some chain ∷ chains) anchors table leads are =
    (some_right answered law rules world (x5u_in r) one chain anchors table leads.0 are.0, all_right answered law rules world readings given chains anchors table leads.1 are.1)

-- ---- the verdict

late_right : Answered → (rules : World) (table : Table) (call : Call) (states : List State) (found : Found) → rules.table ≡ table → AreRight rules (in_call_order call) states
    → first early_rules call ≡ None → IsFoundOver rules.says table states call found → IsFound rules call found
late_right answered rules table call states (Refused refused) same right early (inl refused_early) = first_early rules call refused refused_early
late_right answered rules table call states (Refused refused) same right early (inr (none, h)) =
    verdict_right answered rules call table rules.says call.moment (in_call_order call) states 0 0 (verdicts.Refused refused) h
    (record { early = none; in_order = refl; now = refl; grants = sym same; answers = refl }) right
late_right answered rules table call states (Passes pass) same right early (none, h, known) = (
  verdict_right answered rules call table rules.says call.moment (in_call_order call) states 0 0 verdicts.Passed h
      (record { early = none; in_order = refl; now = refl; grants = sym same; answers = refl }) right,
  known,
)

early_right : (rules : World) (says : Says) (table : Table) (call : Call) (states : List State) (refused : Refusal) (found : Found) → first early_rules call ≡ Some refused
    → IsFoundOver says table states call found → IsFound rules call found
early_right rules says table call states refused (Refused r) early (inl e) = first_early rules call r e
early_right rules says table call states refused (Refused r) early (inr (none, h)) = absurd (cc)
early_right rules says table call states refused (Passes pass) early (none, h, known) = absurd (cc)

by_early : Answered → SameJudged → (rules : World) (world : WorldView) (call : CallView) (given : List (Option GivenChain)) (chains : List (Option ChainView)) (found : Found) (early : Option Refusal)
    → first early_rules (call_in call) ≡ early → rules.anchors ≡ world.anchors → rules.table ≡ world.table → AllLead rules world (unless_refused early (in_call_order (call_in call))) given
    → AreGiven world given chains → IsFoundOver rules.says world.table (states_of chains) (call_in call) found → IsFound rules (call_in call) found
by_early answered law rules world call given chains found None early anchors table leads are over =
    late_right answered rules world.table (call_in call) (states_of chains) found table
    (all_right answered law rules world (in_call_order (call_in call)) given chains anchors table leads are) early over
by_early answered law rules world call given chains found (Some refused) early anchors table leads are over =
    early_right rules rules.says world.table (call_in call) (states_of chains) refused found early over

-- In a world that leads to the chains that were given, and whose provider says what the host said, the call breaks the rule that was found.
pub right : Unasked → Answered → SameJudged → (rules : World) (world : WorldView) (call : CallView) (given : List (Option GivenChain)) (chains : List (Option ChainView)) (good : List ℕ) (all found : Found)
    → IsFoundOver always_yes world.table (states_of chains) (call_in call) all
    → IsFoundOver (says_by (confirmed (own_asked world.table (states_of chains) (call_in call)) good)) world.table (states_of chains) (call_in call) found
    → AreGiven world given chains → IsWorldFor rules world call given (own_asked world.table (states_of chains) (call_in call)) good → IsFound rules (call_in call) found
right unasked answered law rules world call given chains good all found over_all over are for_it =
    let own : List QuestionView = own_asked world.table (states_of chains) (call_in call) in
    let says : Says = says_by (confirmed own good) in
    let by_it : IsFoundOver rules.says world.table (states_of chains) (call_in call) found =
    same_over unasked says rules.says world.table (states_of chains) (call_in call) all found over_all (agree_back rules.says says own for_it.own_are) over in
    by_early answered law rules world call given chains found (first early_rules (call_in call)) refl for_it.anchors_are for_it.table_is for_it.chains_are are by_it
