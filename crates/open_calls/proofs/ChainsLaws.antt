-- One chain more of those whose questions are written.
use Rattle.std.proofs.Common.{◌≡◌, ℕ, zero, suc, ◌+◌, ◌≤◌, List, [], ◌∷◌, ◌++◌, length, drop, Some, refl, ◌∙◌, ap, arith}
use Rattle.std.specs.List.{slice_get}
use Rattle.std.proofs.lemmas.List.{drop_all}
use Rattle.std.proofs.lemmas.Option.{same_Some}
use Rattle.call_judging.specs.AskLines.{ask_lines}
use Rattle.call_judging.specs.CallQuestions.{chain_questions, chains_questions}
use Rattle.verify_rules.specs.States.{State}
use Rattle.open_calls.specs.Steps.{ChainsUpTo}
use Rattle.open_calls.proofs.LineLaws.{more_lines, no_more}

step : (states : List State) (i : ℕ) (state : State) → slice_get states i ≡ Some state → chains_questions (drop i states) ≡ chain_questions state ++ chains_questions (drop (suc i) states)
step [] i state is = absurd (cc)
step (s ∷ states) zero state is = ap (λ (x : State). chain_questions x ++ chains_questions states) (same_Some s state is)
step (s ∷ states) (suc i) state is = step states i state is

pub none_yet : (states : List State) (text : List ℕ) → ChainsUpTo states text text 0
none_yet states text = record { left = refl }

pub one_more : (states : List State) (before mid now : List ℕ) (i : ℕ) (state : State) → ChainsUpTo states before mid i → slice_get states i ≡ Some state
    → now ≡ mid ++ ask_lines (chain_questions state) → ChainsUpTo states before now (i + 1)
one_more states before mid now i state so is pushed =
    let next : suc i ≡ i + 1 = omega arith in
    let split : chains_questions (drop i states) ≡ chain_questions state ++ chains_questions (drop (i + 1) states) =
    step states i state is ∙ ap (λ n. chain_questions state ++ chains_questions (drop n states)) next in
    record { left = more_lines mid now _ (chain_questions state) _ _ split so.left pushed }

pub all_written : (states : List State) (before now : List ℕ) (i : ℕ) → ChainsUpTo states before now i → length states ≤ i → now ≡ before ++ ask_lines (chains_questions states)
all_written states before now i so past = no_more now _ (chains_questions (drop i states)) (ap chains_questions (drop_all i states past)) so.left
