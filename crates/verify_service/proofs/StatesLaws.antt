-- What is known by files, one file more.
use Rattle.std.proofs.Common.{◌≡◌, ℕ, zero, suc, ◌+◌, ◌<◌, List, [], ◌∷◌, ◌++◌, length, get_or, take, Option, refl, sym, ap, ◌∙◌, arith, zero-add}
use Rattle.cert_store.specs.Judged.{JudgedView}
use Rattle.verify_rules.specs.States.{State}
use Rattle.call_judging.specs.Fetched.{file_state}
use Rattle.verify_service.specs.RoundRead.{states_from}
use Rattle.verify_service.specs.WorkerChains.{chain_at}
use Rattle.call_judging.specs.declared.fetching.Fetched.{Fetched}

pub states_count : (place : ℕ) (judged : ℕ → Option JudgedView) (files : List Fetched) → length (states_from place judged files) ≡ length files
states_count place judged [] = refl
states_count place judged (file ∷ files) = ap suc (states_count (suc place) judged files)

state_more : (place : ℕ) (judged : ℕ → Option JudgedView) (files : List Fetched) (i : ℕ) (file d : Fetched) → i < length files → file ≡ get_or files i d
    → take (i + 1) (states_from place judged files) ≡ take i (states_from place judged files) ++ file_state file (judged (place + i)) ∷ []
state_more place judged [] i file d within is = absurd (omega arith)
state_more place judged (f ∷ files) zero file d within is =
    let same : place ≡ place + 0 = omega arith in
    ap (λ (g : Fetched). file_state g (judged place) ∷ []) (sym is) ∙ ap (λ n. file_state file (judged n) ∷ []) same
state_more place judged (f ∷ files) (suc i) file d within is =
    let next : suc i + 1 ≡ suc (i + 1) = omega arith in
    let same : suc place + i ≡ place + suc i = omega arith in
    ap (λ n. take n (states_from place judged (f ∷ files))) next
    ∙ ap (λ (ss : List State). file_state f (judged place) ∷ ss) (state_more (suc place) judged files i file d (omega arith) is)
    ∙ ap (λ n. file_state f (judged place) ∷ (take i (states_from (suc place) judged files) ++ file_state file (judged n) ∷ [])) same

pub state_next : (judged : ℕ → Option JudgedView) (files : List Fetched) (i : ℕ) (file d : Fetched) → i < length files → file ≡ get_or files i d
    → take (i + 1) (states_from 0 judged files) ≡ take i (states_from 0 judged files) ++ file_state file (judged i) ∷ []
state_next judged files i file d within is =
    state_more 0 judged files i file d within is
    ∙ ap (λ n. take i (states_from 0 judged files) ++ file_state file (judged n) ∷ []) (zero-add i)

-- the same of the same number of workers and the same files
pub states_same : (slots : ℕ → List (Option JudgedView)) (count many : ℕ) (files read : List Fetched) → many ≡ count → read ≡ files
    → states_from 0 (chain_at slots many) read ≡ states_from 0 (chain_at slots count) files
states_same slots count many files read same are = ap (λ n. states_from 0 (chain_at slots n) read) same ∙ ap (states_from 0 (chain_at slots count)) are
