-- What is asked for a call, from what is asked for its chains and its PASSporTs.
use Rattle.std.proofs.Common.{◌≡◌, ℕ, Bool, false, cond, List, [], length, take, Option, Some, None, Ok, refl, sym, ◌∙◌, ap, subst, arith}
use Rattle.std.specs.List.{list_any, slice_get}
use Rattle.std.specs.String.{string_bytes}
use Rattle.std.proofs.lemmas.List.{take_all}
use Rattle.cert_store.specs.ChainMap.{listed}
use Rattle.cert_store.specs.Rules.{Says}
use Rattle.delegation.specs.Coverage.{Table}
use Rattle.stir_outside.specs.Files.{Files}
use Rattle.verify_rules.specs.Call.{Call, Reading, in_call_order}
use Rattle.verify_rules.specs.Causes.{IsCaused}
use Rattle.verify_rules.specs.Rules.{early_rules, first}
use Rattle.verify_rules.specs.Screened.{IsScreenedBy, ScreenedView}
use Rattle.verify_rules.specs.States.{State}
use Rattle.verify_rules.specs.World.{AreRight, IsJudgedBy, VerdictOf, World, truths}
use Rattle.verify_rules.specs.declared.refusal.Refusal.{Refusal}
use Rattle.verify_rules.specs.declared.verdict.Verdict.{Verdict}
use Rattle.cert_store.specs.declared.world.World.{World as Materials}
use Rattle.call_judging.specs.AlwaysYes.{always_yes}
use Rattle.call_judging.specs.CallQuestions.{call_questions, chains_questions, own_questions, questions_over}
use Rattle.call_judging.specs.Chains.{AreRightWhere, is_unread}
use Rattle.call_judging.specs.Verdicts.{asks_own}
use Rattle.single_calls.specs.Asker.{asking_world}
use Rattle.single_calls.specs.Reading.{AreAsked, Lines, Stopped, StopsCall, StopsCallAt, WritesCall}
use Rattle.single_calls.specs.Written.{Writes}
use Rattle.single_calls.specs.declared.reading.ChainError.{ChainError}
use Rattle.single_calls.specs.declared.written.Triple.{Triple}
use Rattle.single_calls.specs.declared.reading.ChainError.TheVariants.{Unread, Memory}
use Rattle.single_calls.proofs.WriteLaws.{writes_both, writes_none}

-- the laws of the rules that are needed: what a screened call is judged by
abbrev pub JudgedOn : Type 0
JudgedOn = (world : World) (call : Call) (table : Table) (says : Says) (moment : ℕ) (screened : ScreenedView) → IsScreenedBy early_rules call (Ok screened)
    → moment ≡ call.moment → table ≡ world.table → says ≡ world.says → IsJudgedBy world call table says moment screened.readings

-- and of what is asked: of a call that the rules of the call refuse, over chains, and over chains by a verdict
abbrev pub RefusedAsks : Type 0
RefusedAsks = (world : World) (call : Call) (refused : Refusal) → first early_rules call ≡ Some refused → call_questions world call ≡ []

abbrev pub ChainsAsk : Type 0
ChainsAsk = (world : World) (readings : List Reading) (states : List State) → AreRight world readings states → list_any is_unread states ≡ false
    → chains_questions states ≡ chains_questions (truths world readings)

abbrev pub WholeAsks : Type 0
WholeAsks = (world : World) (call : Call) (readings : List Reading) (states : List State) (faults faults_now : ℕ) (verdict : Verdict) → first early_rules call ≡ None
    → readings ≡ in_call_order call → AreRight world readings states → list_any is_unread states ≡ false → VerdictOf world call verdict
    → IsCaused readings states faults faults_now verdict → questions_over (asks_own verdict) readings states ≡ call_questions world call

-- ---- a call that the rules of the call refuse

pub writes_refused : RefusedAsks → (told : Option Files) (materials : Materials) (call : Call) (refused : Refusal) (before : Lines) → first early_rules call ≡ Some refused
    → WritesCall told materials call before before
writes_refused refused_asks None materials call refused before is = tt
writes_refused refused_asks (Some files) materials call refused before is =
    subst (Writes before.held before.held before.text before.text) (sym (refused_asks (asking_world materials files) call refused is)) (writes_none before.held before.text)

-- ---- one that they don't

-- the lines of the chains, and if it is so, those of the PASSporTs
over_lines : (held mid now : List Triple) (text text_mid text_now : List ℕ) (readings : List Reading) (states : List State) (own : Bool)
    → Writes held mid text text_mid (chains_questions states) → Writes mid now text_mid text_now (cond own (own_questions readings states) [])
    → Writes held now text text_now (questions_over own readings states)
over_lines held mid now text text_mid text_now readings states own one other = writes_both held mid now text text_mid text_now _ _ one other

whole_right : (told : Option Files) (materials : Materials) (readings : List Reading) (before now : Lines) (states : List State) → length states ≡ length readings
    → AreAsked told materials readings before now states → AreRightWhere told materials always_yes readings states
whole_right told materials readings before now states count asked =
    let all : take (length states) readings ≡ readings = take_all (length states) readings (omega (arith, count)) in
    subst (λ (r : List Reading). AreRightWhere told materials always_yes r states) all asked.right

pub writes_screened : (told : Option Files) (materials : Materials) (call : Call) (screened : ScreenedView) (states : List State) (moment : ℕ) (before mid now : Lines) (verdict : Verdict)
    (faults faults_now : ℕ) (own : Bool) → JudgedOn → WholeAsks → IsScreenedBy early_rules call (Ok screened) → moment ≡ call.moment → length states ≡ length screened.readings
    → AreAsked told materials screened.readings before mid states
    → ((world : World) (call : Call) → IsJudgedBy world call materials.table always_yes moment screened.readings → AreRight world screened.readings states → VerdictOf world call verdict)
    → IsCaused screened.readings states faults faults_now verdict → asks_own verdict ≡ own
    → Writes mid.held now.held mid.text now.text (cond own (own_questions screened.readings states) []) → WritesCall told materials call before now
writes_screened None materials call screened states moment before mid now verdict faults faults_now own law over passed is_now count asked right caused is more = tt
writes_screened (Some files) materials call screened states moment before mid now verdict faults faults_now own law over passed is_now count asked right caused is more =
    let world : World = asking_world materials files in
    let by = law world call materials.table always_yes moment screened passed is_now refl refl in
    let are_right : AreRight world screened.readings states = whole_right (Some files) materials screened.readings before mid states count asked in
    let same : questions_over own screened.readings states ≡ call_questions world call =
    ap (λ t. questions_over t screened.readings states) (sym is)
    ∙ over world call screened.readings states faults faults_now verdict by.early by.in_order are_right asked.known (right world call by are_right) caused in
    subst (Writes before.held now.held before.text now.text) same
    (over_lines before.held mid.held now.held before.text mid.text now.text screened.readings states own asked.writes more)

-- ---- a stop

stops_told : (told : Option Files) (materials : Materials) (call : Call) (screened : ScreenedView) (before now : Lines) (name : List ℕ) (states : List State) (here : Reading) → JudgedOn → ChainsAsk
    → IsScreenedBy early_rules call (Ok screened) → AreAsked told materials screened.readings before now states → slice_get screened.readings (length states) ≡ Some here
    → listed materials.chains here.passport.x5u ≡ Some name → StopsCallAt told materials call before now name
stops_told None materials call screened before now name states here law over passed asked is named = (here.passport.x5u, named)
stops_told (Some files) materials call screened before now name states here law over passed asked is named =
    let world : World = asking_world materials files in
    let by = law world call materials.table always_yes call.moment screened passed refl refl refl in
    let chains : chains_questions states ≡ chains_questions (truths world (take (length states) (in_call_order call))) =
    over world (take (length states) screened.readings) states asked.right asked.known
    ∙ ap (λ (r : List Reading). chains_questions (truths world (take (length states) r))) by.in_order in
    record {
      early = by.early;
      at = length states;
      here = here;
      is = sym (ap (λ (r : List Reading). slice_get r (length states)) by.in_order) ∙ is;
      named = named;
      writes = subst (Writes before.held now.held before.text now.text) chains asked.writes;
    }

pub stops_screened : (told : Option Files) (materials : Materials) (call : Call) (screened : ScreenedView) (before now : Lines) (faults faults_now : ℕ) (stop : ChainError) → JudgedOn → ChainsAsk
    → IsScreenedBy early_rules call (Ok screened) → Stopped told materials screened.readings before now faults faults_now stop → StopsCall told materials call before now faults faults_now stop
stops_screened told materials call screened before now faults faults_now (Unread name) law over passed (stopped, rose) =
    (stops_told told materials call screened before now (string_bytes name) stopped.states stopped.here law over passed stopped.asked stopped.is stopped.named, rose)
stops_screened told materials call screened before now faults faults_now Memory law over passed stopped = tt
