-- A log that goes on from a state, and the state that is handed on after it.
use Rattle.std.proofs.Common.{◌≡◌, ℕ, ◌+◌, ◌≤◌, List, [], ◌∷◌, ◌++◌, length, Option, Result, Ok, Err, IfErr, refl, sym, ◌∙◌, ap, subst, arith, append-nil}
use Rattle.std.proofs.lemmas.List.{append_assoc}
use Rattle.call_log.specs.Entry.{Entry}
use Rattle.call_log.specs.Log.{AreCalls, Passed, start}
use Rattle.cert_store.specs.Files.{Files as ChainFiles}
use Rattle.log_run.specs.Batch.{Batch, BatchAnswerView, batch_of, calls_in}
use Rattle.log_run.specs.Speaks.{AreBatches, Speaks}
use Rattle.log_run.specs.declared.stop.AnswerError.{AnswerError}
use Rattle.log_run.specs.declared.stop.AnswerError.TheVariants.{Memory}
use Rattle.log_rounds.specs.Batches.{JudgedRounds, OneRound, RoundsStopped}
use Rattle.log_rounds.specs.Handed.{ClosesState, GoesOnFrom, HandsBehind, HasJudgedOn, JudgedOn, StateClosed, words_on}
use Rattle.log_rounds.specs.Judge.{JudgeConfig, JudgeState, counts_of}
use Rattle.log_rounds.specs.Reads.{ReadsNamed}
use Rattle.log_rounds.specs.Rounds.{calls_in as calls_of}
use Rattle.log_rounds.specs.Verifier.{AnswersBy, JudgeBasis, basis_of, config_of, state_of}
use Rattle.log_rounds.specs.declared.handing.HandingVerifier.{HandingVerifier}
use Rattle.log_rounds.specs.declared.verifier.LogVerifier.{LogVerifier}
use Rattle.replay_law.specs.Held.{purged}
use Rattle.replay_law.specs.Law.{MoreRounds}
use Rattle.state_text.specs.State.{IsState, StateView}
use Rattle.state_text.specs.StateText.{state_text}
use Rattle.stir_outside.specs.Files.{Counts, Files}
use Rattle.verify_rules.specs.declared.settings.Settings.{Settings}
use Rattle.verify_service.specs.Handing.{IsStateOf}
use Rattle.verify_service.specs.Service.{last_moment_of, last_number, texts_in}
use Rattle.verify_service.specs.declared.outcome.Outcome.{Outcome}
use Rattle.log_rounds.proofs.BatchesLaws.{adds, behind_none, stopped}
use Rattle.log_rounds.proofs.FewLaws.{few_named}
use Rattle.log_rounds.proofs.FollowLaws.{moment_front, number_front}
use Rattle.log_rounds.proofs.RoundLaws.{aside_on}
use Rattle.log_rounds.proofs.WordsLaws.{other_stop, same_calls, same_cut, same_good, same_lines}

-- ---- the last call of batches and one more

last_number_both : (number : ℕ) (xs ys : List Entry) → last_number number (xs ++ ys) ≡ last_number (last_number number xs) ys
last_number_both number [] ys = refl
last_number_both number (x ∷ xs) ys = number_front number x (xs ++ ys) ∙ last_number_both x.number xs ys ∙ ap (λ n. last_number n ys) (sym (number_front number x xs))

last_moment_both : (moment : ℕ) (xs ys : List Entry) → last_moment_of moment (xs ++ ys) ≡ last_moment_of (last_moment_of moment xs) ys
last_moment_both moment [] ys = refl
last_moment_both moment (x ∷ xs) ys = moment_front moment x (xs ++ ys) ∙ last_moment_both x.moment xs ys ∙ ap (λ n. last_moment_of n ys) (sym (moment_front moment x xs))

calls_more : (xs : List Batch) (calls : List Entry) (answer : BatchAnswerView) → calls_in (xs ++ batch_of calls answer ∷ []) ≡ calls_in xs ++ calls
calls_more [] calls answer = append-nil calls
calls_more (x ∷ xs) calls answer = ap (λ l. x.calls ++ l) (calls_more xs calls answer) ∙ sym (append_assoc x.calls (calls_in xs) calls)

pub hands_none : (verifier : LogVerifier) (a : Counts) (told : Option Files) → HandsBehind verifier verifier a a told []
hands_none verifier a told = record { behind = behind_none verifier a told; number = refl; moment = refl }

pub hands_more : MoreRounds → (verifier one now : LogVerifier) (a b c : Counts) (told : Option Files) (xs : List Batch) (calls : List Entry) (answer : BatchAnswerView)
    → OneRound (AnswersBy (basis_of one) told) (config_of (basis_of one)) one.service.chains (state_of one b) (state_of now c) calls answer → basis_of now ≡ basis_of one
    → HandsBehind verifier one a b told xs → HandsBehind verifier now a c told (xs ++ batch_of calls answer ∷ [])
hands_more more verifier one now a b c told xs calls answer o same h = record {
  behind = adds more verifier one now a b c told xs calls answer o same h.behind;
  number = o.moves.number ∙ ap (λ n. last_number n calls) h.number ∙ sym (last_number_both verifier.service.number (calls_in xs) calls)
      ∙ ap (last_number verifier.service.number) (sym (calls_more xs calls answer));
  moment = o.moves.moment ∙ ap (λ n. last_moment_of n calls) h.moment ∙ sym (last_moment_both verifier.service.moment (calls_in xs) calls)
      ∙ ap (last_moment_of verifier.service.moment) (sym (calls_more xs calls answer));
}

pub hands_stopped : (verifier one : LogVerifier) (a b c : Counts) (told : Option Files) (xs : List Batch) (calls : List Entry) (stop : AnswerError) → stop ≡ Memory → b.faults ≤ c.faults
    → c.reads ≤ b.reads + length (texts_in one.service calls) → HandsBehind verifier one a b told xs → RoundsStopped verifier a c told xs calls stop
hands_stopped verifier one a b c told xs calls stop memory stays most h = stopped verifier one a b c told xs calls stop memory stays most h.behind

-- memory ran out for the state, whatever became of the verifier since
pub hands_short : (one : HandingVerifier) (first : HandingVerifier) (before counts : Counts) (told : Option Files) (xs : List Batch) → HandsBehind first.verifier one.verifier before counts told xs
    → RoundsStopped first.verifier before counts told xs [] Memory
hands_short one first before counts told xs h = hands_stopped first.verifier one.verifier before counts counts told xs [] Memory refl (omega arith) (omega arith) h

pub always_err : {T E : Type 0} (Q : Type 0) (result : Result T E) → Q → IfErr result (λ x. Q)
always_err Q (Ok x) q = tt
always_err Q (Err e) q = q

pub hands_closed : (verifier one now : LogVerifier) (a b : Counts) (told : Option Files) (xs : List Batch) (state : StateView) (text : List ℕ) → IsState state → IsStateOf one.service state
    → text ≡ state_text state → HandsBehind verifier one a b told xs → StateClosed verifier now a b told xs text
hands_closed verifier one now a b told xs state text rules is written h = record { mid = one; behind = h; state = state; rules = rules; state_is = is; text_is = written }

-- ---- in words

judged_on : (judged : Entry → Outcome → Type 0) (config : JudgeConfig) (chains : ChainFiles) (passed : Passed) (a mid b : JudgeState) (xs : List Batch) → mid.shelf ≤ b.shelf → mid.provider ≤ b.provider
    → AreBatches 256 passed xs → (j : JudgedRounds judged config chains a mid xs) → JudgedOn judged config a.past passed (counts_of a) (counts_of b) xs j.rounds mid.past
judged_on judged config chains passed a mid b xs shelf provider are j = record {
  calls = same_calls xs j.rounds j.are;
  lines = same_lines judged passed xs j.rounds j.are j.each (subst (AreCalls passed) (same_calls xs j.rounds j.are) are.follow);
  well = same_good xs j.rounds j.are;
  cut = same_cut xs j.rounds j.are are.cut;
  each = j.each;
  owed = j.owed;
  settled = j.settled;
  in_order = j.in_order;
  aside = aside_on config (counts_of a) (counts_of mid) (counts_of b) j.rounds j.shelf_stays shelf j.provider_stays provider j.aside;
  shelf_stays = omega (arith, j.shelf_stays, shelf);
  provider_stays = omega (arith, j.provider_stays, provider);
}

has_judged : (judged : Entry → Outcome → Type 0) (config : JudgeConfig) (chains : ChainFiles) (passed : Passed) (a mid b : JudgeState) (xs : List Batch) → mid.shelf ≤ b.shelf → mid.provider ≤ b.provider
    → AreBatches 256 passed xs → JudgedRounds judged config chains a mid xs → HasJudgedOn judged config a.past passed (counts_of a) (counts_of b) xs
has_judged judged config chains passed a mid b xs shelf provider are j = record { rounds = j.rounds; next = mid.past; on = judged_on judged config chains passed a mid b xs shelf provider are j }

closes_state : (verifier now : LogVerifier) (told : Option Files) (number moment : ℕ) (a b : Counts) (batches : List Batch) (text : List ℕ) → GoesOnFrom number moment (state_of verifier a)
    → StateClosed verifier now a b told batches text
    → ClosesState (AnswersBy (basis_of verifier) told) (config_of (basis_of verifier)) verifier.service.chains (state_of verifier a).past (start number moment)
    (counts_of (state_of verifier a)) (counts_of (state_of now b)) batches text
closes_state verifier now told number moment a b batches text from c =
    let j = c.behind.behind.so in
    let settings : c.mid.service.settings ≡ verifier.service.settings = ap (λ (x : JudgeBasis). x.settings) c.behind.behind.same in
    record {
      rounds = j.rounds;
      next = (state_of c.mid b).past;
      on = λ are. judged_on (AnswersBy (basis_of verifier) told) (config_of (basis_of verifier)) verifier.service.chains (start number moment) (state_of verifier a) (state_of c.mid b) (state_of now b) batches
          (omega arith) (omega arith) are j;
      state = c.state;
      handed = record {
        rules = c.rules;
        window = c.state_is.window ∙ ap (λ (s : Settings). s.past) settings;
        call = c.state_is.call ∙ c.behind.number ∙ ap (λ n. last_number n (calls_in batches)) from.number_is;
        moment = c.state_is.moment ∙ c.behind.moment ∙ ap (λ n. last_moment_of n (calls_in batches)) from.moment_is;
        kept = λ ticket. ap (λ n. purged n (state_of c.mid b).past ticket) c.state_is.moment ∙ c.state_is.kept ticket;
      };
      text_is = c.text_is;
      few_reads = λ quiet. subst (λ calls. ReadsNamed verifier.service.settings verifier.service.chains calls a.reads b.reads) (sym (same_calls batches j.rounds j.are))
          (few_named (config_of (basis_of verifier)) verifier.service.chains (state_of verifier a) (state_of c.mid b) (calls_of j.rounds) from.held (j.few_reads quiet));
    }

pub speaks_on : (verifier now : LogVerifier) (told : Option Files) (number moment : ℕ) (a b : Counts) → GoesOnFrom number moment (state_of verifier a)
    → Speaks (words_on (basis_of verifier) told (state_of verifier a).past (start number moment) a b) (start number moment) (HandsBehind verifier now a b told)
    (λ batches calls stop. RoundsStopped verifier a b told batches calls stop) (λ batches text. StateClosed verifier now a b told batches text)
speaks_on verifier now told number moment a b from =
    let judged : Entry → Outcome → Type 0 = AnswersBy (basis_of verifier) told in
    let config : JudgeConfig = config_of (basis_of verifier) in
    record {
      known = λ batches are k.
          has_judged judged config verifier.service.chains (start number moment) (state_of verifier a) (state_of now b) (state_of now b) batches (omega arith) (omega arith) are k.behind.so;
      stopped = λ batches calls stop are h.
          has_judged judged config verifier.service.chains (start number moment) (state_of verifier a) (state_of h.mid h.counted) (state_of now b) batches h.shelf_stays (omega arith) are h.so;
      stops = λ batches calls text name h. other_stop text name h.memory;
      closed = λ batches text are c.
          has_judged judged config verifier.service.chains (start number moment) (state_of verifier a) (state_of c.mid b) (state_of now b) batches (omega arith) (omega arith) are c.behind.behind.so;
      closes = λ batches text c. closes_state verifier now told number moment a b batches text from c;
    }
