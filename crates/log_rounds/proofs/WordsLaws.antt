-- What a run over rounds says of the batches of a log.
use Rattle.std.proofs.Common.{◌≡◌, ℕ, ◌+◌, ◌≤◌, ◌&&◌, List, [], ◌∷◌, ◌++◌, length, Option, refl, sym, ◌∙◌, ap, subst, arith}
use Rattle.call_log.specs.Entry.{Entry}
use Rattle.call_log.specs.Log.{AreCalls, Passed, after, after_all}
use Rattle.log_run.specs.Batch.{Batch, IsCut, all_well, calls_in, texts_in}
use Rattle.cert_store.specs.Files.{Files as ChainFiles}
use Rattle.log_rounds.proofs.FewLaws.{few_named}
use Rattle.log_rounds.proofs.FollowLaws.{counted_on}
use Rattle.log_rounds.proofs.ReportLaws.{report_append}
use Rattle.log_rounds.proofs.RoundLaws.{aside_on, one_for_each, valid_both}
use Rattle.log_rounds.specs.AllValid.{all_valid}
use Rattle.log_rounds.specs.Judge.{JudgeConfig, JudgeState, counts_of}
use Rattle.log_rounds.specs.Judged.{AreJudged, ClosesRounds, JudgedBatches, StandsAtFirst}
use Rattle.log_rounds.specs.Reads.{ReadsNamed}
use Rattle.log_rounds.specs.Rounds.{InEach, IsCut as IsCutInRounds, Round, calls_in as calls_of, outcomes_in, row_rounds}
use Rattle.log_run.specs.Speaks.{AreBatches, Speaks}
use Rattle.log_run.specs.declared.stop.AnswerError.{AnswerError}
use Rattle.log_run.specs.declared.stop.AnswerError.TheVariants.{Unread, Memory}
use Rattle.log_rounds.proofs.LegalLaws.{first_of, legal_of}
use Rattle.replay_law.specs.Held.{Held, nothing}
use Rattle.replay_law.specs.Round.{Rounds}
use Rattle.replay_law.specs.Law.{FirstOfAll, LegalTogether}
use Rattle.std.specs.declared.alloc.Global.{Global}
use Rattle.std.specs.declared.string.String.{String}
use Rattle.verify_service.specs.Report.{report}
use Rattle.verify_service.specs.declared.outcome.Outcome.{Outcome}
use Rattle.log_rounds.specs.Batches.{AreRounds, JudgedFrom, JudgedRounds, RoundsBehind, RoundsClosed, RoundsStopped, first_number, words_by}
use Rattle.log_rounds.specs.Verifier.{AnswersBy, basis_of, config_of, state_of}
use Rattle.log_rounds.specs.declared.verifier.LogVerifier.{LogVerifier}
use Rattle.stir_outside.specs.Files.{Counts, Files}

pub same_calls : (xs : List Batch) (ys : List Round) → AreRounds xs ys → calls_in xs ≡ calls_of ys
same_calls [] [] a = refl
same_calls [] (y ∷ ys) a = absurd a
same_calls (x ∷ xs) [] a = absurd a
same_calls (x ∷ xs) (y ∷ ys) a = ap (λ t. t ++ calls_in xs) a.0 ∙ ap (λ t. y.calls ++ t) (same_calls xs ys a.3)

pub same_good : (xs : List Batch) (ys : List Round) → AreRounds xs ys → all_well xs ≡ all_valid (outcomes_in ys)
same_good [] [] a = refl
same_good [] (y ∷ ys) a = absurd a
same_good (x ∷ xs) [] a = absurd a
same_good (x ∷ xs) (y ∷ ys) a = ap (λ t. t && all_well xs) a.2 ∙ ap (λ t. all_valid y.outcomes && t) (same_good xs ys a.3) ∙ sym (valid_both y.outcomes (outcomes_in ys))

-- the cut into rounds of 256
pub same_cut : (xs : List Batch) (ys : List Round) → AreRounds xs ys → IsCut 256 xs → IsCutInRounds ys
same_cut [] [] a c = tt
same_cut [] (y ∷ ys) a c = absurd a
same_cut (x ∷ xs) [] a c = absurd a
same_cut (x ∷ []) (y ∷ []) a c = (omega (arith, c.0, ap length a.0), omega (arith, c.1, ap length a.0))
same_cut (x ∷ []) (y ∷ z ∷ ys) a c = absurd a.3
same_cut (x ∷ w ∷ xs) (y ∷ []) a c = absurd a.3
same_cut (x ∷ w ∷ xs) (y ∷ z ∷ ys) a c = (sym (ap length a.0) ∙ c.0, same_cut (w ∷ xs) (z ∷ ys) a.3 c.1)

first_lines : (passed : Passed) (calls : List Entry) (outcomes : List Outcome) → AreCalls passed calls → length outcomes ≡ length calls → report (first_number calls) outcomes ≡ report (passed.number + 1) outcomes
first_lines passed [] [] a e = refl
first_lines passed [] (o ∷ os) a e = absurd (omega (arith, e))
first_lines passed (c ∷ cs) outcomes a e = ap (λ n. report n outcomes) a.0.numbered

front : (passed : Passed) (xs ys : List Entry) → AreCalls passed (xs ++ ys) → AreCalls passed xs
front passed [] ys a = tt
front passed (x ∷ xs) ys a = (a.0, front (after passed x) xs ys a.1)

rest : (passed : Passed) (xs ys : List Entry) → AreCalls passed (xs ++ ys) → AreCalls (after_all passed xs) ys
rest passed [] ys a = a
rest passed (x ∷ xs) ys a = rest (after passed x) xs ys a.1

-- the lines of the batches are the report of the rounds, whatever the number from which they go on
pub same_lines : (judged : Entry → Outcome → Type 0) (passed : Passed) (xs : List Batch) (ys : List Round) → AreRounds xs ys → InEach judged ys → AreCalls passed (calls_of ys) → texts_in xs ≡ report (passed.number + 1) (outcomes_in ys)
same_lines judged passed [] [] a each follow = refl
same_lines judged passed [] (y ∷ ys) a each follow = absurd a
same_lines judged passed (x ∷ xs) [] a each follow = absurd a
same_lines judged passed (x ∷ xs) (y ∷ ys) a each follow =
    let as_many = one_for_each judged y.calls y.outcomes each.0 in
    let mine = front passed y.calls (calls_of ys) follow in
    let next : (after_all passed y.calls).number + 1 ≡ passed.number + 1 + length y.outcomes = omega (arith, counted_on passed y.calls mine, as_many) in
    ap (λ t. t ++ texts_in xs) (a.1 ∙ first_lines passed y.calls y.outcomes mine as_many)
    ∙ ap (λ t. report (passed.number + 1) y.outcomes ++ t) (same_lines judged (after_all passed y.calls) xs ys a.3 each.1 (rest passed y.calls (calls_of ys) follow) ∙ ap (λ n. report n (outcomes_in ys)) next)
    ∙ sym (report_append (passed.number + 1) y.outcomes (outcomes_in ys))

-- ---- in words

-- the rounds that were judged, with what was counted since
pub are_judged : LegalTogether → FirstOfAll → (judged : Entry → Outcome → Type 0) (config : JudgeConfig) (chains : ChainFiles) (passed : Passed) (a mid b : JudgeState) (xs : List Batch) → a.past ≡ nothing → mid.shelf ≤ b.shelf → mid.provider ≤ b.provider
    → AreBatches 256 passed xs → (j : JudgedRounds judged config chains a mid xs) → AreJudged judged config (counts_of a) (counts_of b) j.rounds
are_judged legal first judged config chains passed a mid b xs empty shelf provider are j =
    let follow = subst (AreCalls passed) (same_calls xs j.rounds j.are) are.follow in
    record {
      cut = same_cut xs j.rounds j.are are.cut;
      each = j.each;
      legal = λ apart. legal_of legal judged config passed a.past mid.past j.rounds empty j.settled j.each j.owed follow apart;
      first_wins = λ one apart. first_of first judged config j.rounds (legal_of legal judged config passed a.past mid.past j.rounds empty j.settled j.each j.owed follow apart) (j.in_order one);
      aside = aside_on config (counts_of a) (counts_of mid) (counts_of b) j.rounds j.shelf_stays shelf j.provider_stays provider j.aside;
    }

judged_batches : LegalTogether → FirstOfAll → (judged : Entry → Outcome → Type 0) (config : JudgeConfig) (chains : ChainFiles) (passed : Passed) (a mid b : JudgeState) (xs : List Batch) → a.past ≡ nothing → mid.shelf ≤ b.shelf → mid.provider ≤ b.provider
    → AreBatches 256 passed xs → JudgedRounds judged config chains a mid xs → JudgedBatches judged config passed (counts_of a) (counts_of b) xs
judged_batches legal first judged config chains passed a mid b xs empty shelf provider are j = record {
  rounds = j.rounds;
  calls = same_calls xs j.rounds j.are;
  lines = same_lines judged passed xs j.rounds j.are j.each (subst (AreCalls passed) (same_calls xs j.rounds j.are) are.follow);
  well = same_good xs j.rounds j.are;
  are_judged = are_judged legal first judged config chains passed a mid b xs empty shelf provider are j;
  are_settled = record { owed = j.owed; past = mid.past; settled = subst (λ (h : Held). Rounds h (row_rounds config j.rounds) mid.past) empty j.settled; in_order = j.in_order };
  shelf_stays = omega (arith, j.shelf_stays, shelf);
  provider_stays = omega (arith, j.provider_stays, provider);
}

pub other_stop : {X : Type 0} (text name : String Global) → ◌≡◌ {A = AnswerError} (Unread text name) Memory → X
other_stop text name e = absurd (cc)

closes : (judged : Entry → Outcome → Type 0) (config : JudgeConfig) (chains : ChainFiles) (a b : JudgeState) (batches : List Batch) (text : List ℕ) → a.held ≡ [] → text ≡ [] → JudgedRounds judged config chains a b batches
    → ClosesRounds config chains (counts_of a) (counts_of b) batches text
closes judged config chains a b batches text none no_text j = record {
  none = no_text;
  few_reads = λ quiet. subst (λ calls. ReadsNamed config.settings chains calls a.reads b.reads) (sym (same_calls batches j.rounds j.are))
      (few_named config chains a b (calls_of j.rounds) none (j.few_reads quiet));
}

pub speaks : LegalTogether → FirstOfAll → (verifier now : LogVerifier) (told : Option Files) (passed : Passed) (a b : Counts) → StandsAtFirst (state_of verifier a)
    → Speaks (words_by (basis_of verifier) told passed a b) passed (RoundsBehind verifier now a b told) (λ batches calls stop. RoundsStopped verifier a b told batches calls stop)
    (λ batches text. RoundsClosed verifier now a b told batches text)
speaks legal first verifier now told passed a b at_first =
    let judged : Entry → Outcome → Type 0 = AnswersBy (basis_of verifier) told in
    let config : JudgeConfig = config_of (basis_of verifier) in
    let from : JudgeState = state_of verifier a in
    let known : (batches : List Batch) → AreBatches 256 passed batches → JudgedFrom verifier now a b told batches → JudgedBatches judged config passed (counts_of from) (counts_of (state_of now b)) batches =
    λ batches are j. judged_batches legal first judged config verifier.service.chains passed from (state_of now b) (state_of now b) batches at_first.past (omega arith) (omega arith) are j in
    record {
      known = λ batches are k. known batches are k.so;
      stopped = λ batches calls stop are h.
          judged_batches legal first judged config verifier.service.chains passed from (state_of h.mid h.counted) (state_of now b) batches at_first.past h.shelf_stays (omega arith) are h.so;
      stops = λ batches calls text name h. other_stop text name h.memory;
      closed = λ batches text are c. known batches are c.so;
      closes = λ batches text c. closes judged config verifier.service.chains from (state_of now b) batches text at_first.held c.none c.so;
    }
