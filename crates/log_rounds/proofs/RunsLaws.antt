-- Runs that hand their state on are legal together.
use Rattle.std.proofs.Common.{◌≡◌, ℕ, zero, suc, ◌+◌, ◌≤◌, ◌⊎◌, inl, inr, true, List, [], ◌∷◌, ◌++◌, Some, unwrap_or, refl, sym, ◌∙◌, ap, subst, arith}
use Rattle.std.proofs.lemmas.Option.{none-some, same_Some}
use Rattle.std.specs.List.{slice_get}
use Rattle.std.specs.Option.{option_and_then}
use Rattle.call_log.specs.Entry.{Entry}
use Rattle.call_log.specs.Log.{AreCalls, Passed, after, after_all}
use Rattle.log_rounds.specs.Judge.{IsIn, JudgeConfig}
use Rattle.log_rounds.specs.Rounds.{Round, calls_in, row_round, row_rounds}
use Rattle.log_rounds.specs.Runs.{AreApart, AreRunsAfter, Run, RunsLegal, last_moment_in, row_runs}
use Rattle.passport_json.specs.IssuedAt.{issued_at}
use Rattle.passport_json.specs.Signed.{payload_in}
use Rattle.replay_law.specs.Law.{IsFresh, NeverFalls, IsApart as RowsApart}
use Rattle.replay_law.specs.Log.{StandsIn}
use Rattle.replay_law.specs.Round.{Round as RowRound, first_moment, purge_at}
use Rattle.replay_law.specs.Row.{Row}
use Rattle.replay_law.specs.Runs.{LegalInRuns, rounds_in}
use Rattle.verify_rules.specs.Signed.{IsKnownAgain, last_by}
use Rattle.verify_rules.specs.declared.settings.Settings.{Settings}
use Rattle.call_judging.specs.Judging.{last_second, ticket_or_none}
use Rattle.verify_service.specs.Judging.{call_in}
use Rattle.verify_service.specs.Rows.{IsOwed, rows_of}
use Rattle.verify_service.specs.declared.outcome.Outcome.{Outcome}
use Rattle.log_rounds.proofs.FollowLaws.{moment_same}
use Rattle.log_rounds.proofs.LegalLaws.{OfCall, behind_calls, falls, known_fresh, known_last, known_ticket, not_below, of_call}

-- ---- a row of all runs is that of a call of one

stands_in_both : (xs ys : List RowRound) (round place : ℕ) (row : Row) → StandsIn (xs ++ ys) round place row → StandsIn xs round place row ⊎ ((later : ℕ) × StandsIn ys later place row)
stands_in_both [] ys round place row s = inr (round, s)
stands_in_both (x ∷ xs) ys zero place row s = inl s
stands_in_both (x ∷ xs) ys (suc round) place row s = stands_in_both xs ys round place row s

-- a purge has no calls
behind_purge : (moment : ℕ) (ys : List RowRound) (round place : ℕ) (row : Row) → StandsIn (purge_at moment ∷ ys) round place row → (later : ℕ) × StandsIn ys later place row
behind_purge moment ys zero place row s = absurd (none-some row s)
behind_purge moment ys (suc round) place row s = (round, s)

record OfRun (past : ℕ) (runs : List Run) (row : Row) : Type 0 where
  run : Run
  run_in : IsIn run runs
  window : run.config.settings.past ≡ past
  of : OfCall run.config (IsOwed run.config.settings) (calls_in run.rounds) row

later_run : (past : ℕ) (run : Run) (runs : List Run) (row : Row) → OfRun past runs row → OfRun past (run ∷ runs) row
later_run past run runs row o = record { run = o.run; run_in = inr o.run_in; window = o.window; of = o.of }

of_run : (past moment : ℕ) (runs : List Run) (round place : ℕ) (row : Row) → AreRunsAfter past moment runs → StandsIn (rounds_in (row_runs runs)) round place row → OfRun past runs row
of_run past moment [] round place row are s = absurd (none-some row s)
of_run past moment (run ∷ runs) round place row are s =
    elim (stands_in_both (row_rounds run.config run.rounds) (purge_at (last_moment_in run) ∷ rounds_in (row_runs runs)) round place row s) [
      | inl here ↦ record { run = run; run_in = inl refl; window = are.0.window; of = of_call run.config (IsOwed run.config.settings) run.rounds round place row are.0.owed here }
      | inr (later, there) ↦ (let next = behind_purge (last_moment_in run) (rounds_in (row_runs runs)) later place row there in
          later_run past run runs row (of_run past (last_moment_in run) runs next.0 place row are.1 next.1))
    ]

passing : (past : ℕ) (runs : List Run) (row : Row) → row.passes ≡ true → (o : OfRun past runs row) → IsKnownAgain (call_in o.run.config.settings o.of.call)
passing past runs row p o = o.of.holds (sym (ap (λ (r : Row). r.passes) o.of.is) ∙ p)

-- ---- calls that pass are fresh, and have one last second if their ticket is one

fresh : (past : ℕ) (runs : List Run) → AreRunsAfter past 0 runs → IsFresh (rounds_in (row_runs runs))
fresh past runs are round place row s p =
    let o = of_run past 0 runs round place row are s in
    let moment : row.moment ≡ o.of.call.moment = ap (λ (r : Row). r.moment) o.of.is in
    let last : row.last ≡ last_second (call_in o.run.config.settings o.of.call) = ap (λ (r : Row). r.last) o.of.is in
    omega (arith, moment, last, known_fresh o.run.config.settings o.of.call (passing past runs row p o))

pub last_alike : (one two : Settings) (signing : List ℕ) → one.past ≡ two.past → last_by one signing ≡ last_by two signing
unfolding last_by
last_alike one two signing same = ap (λ n. unwrap_or (option_and_then issued_at (payload_in signing)) 0 + n) same

apart : (past : ℕ) (runs : List Run) → AreRunsAfter past 0 runs → AreApart runs → RowsApart (rounds_in (row_runs runs))
apart past runs are one round place other_round other row same s p t uses =
    let f = of_run past 0 runs round place row are s in
    let g = of_run past 0 runs other_round other same are t in
    let a = passing past runs row p f in
    let b = passing past runs same uses.passes g in
    let mine : Settings = f.run.config.settings in
    let yours : Settings = g.run.config.settings in
    let tickets : ticket_or_none (call_in mine f.of.call) ≡ ticket_or_none (call_in yours g.of.call) = sym (ap (λ (r : Row). r.ticket) f.of.is) ∙ sym uses.same ∙ ap (λ (r : Row). r.ticket) g.of.is in
    let inputs : a.signing ≡ b.signing = one f.run g.run f.of.call g.of.call a.signing b.signing f.run_in g.run_in f.of.inside g.of.inside a.signed b.signed
    (sym (known_ticket mine f.of.call a) ∙ tickets ∙ known_ticket yours g.of.call b) in
    ap (λ (r : Row). r.last) f.of.is ∙ known_last mine f.of.call a ∙ ap (last_by mine) inputs ∙ last_alike mine yours b.signing (f.window ∙ sym g.window) ∙ sym (known_last yours g.of.call b)
    ∙ sym (ap (λ (r : Row). r.last) g.of.is)

-- ---- moments don't fall from run to run

-- no call of these rounds comes before this moment
abbrev Lower : ℕ → List RowRound → Type 0
Lower moment rounds = (round place : ℕ) (row : Row) → StandsIn rounds round place row → moment ≤ row.moment

-- no round of these is purged after it
abbrev Upper : List RowRound → ℕ → Type 0
Upper rounds moment = (place : ℕ) (round : RowRound) → slice_get rounds place ≡ Some round → round.moment ≤ moment

falls_both : (xs ys : List RowRound) (moment : ℕ) → NeverFalls xs → Upper xs moment → NeverFalls ys → Lower moment ys → NeverFalls (xs ++ ys)
falls_both [] ys moment mine upper yours lower earlier later place round row here order s = yours earlier later place round row here order s
falls_both (x ∷ xs) ys moment mine upper yours lower zero later place round row here order s =
    elim (stands_in_both (x ∷ xs) ys later place row s) [
      | inl stands ↦ mine zero later place round row here order stands
      | inr (behind, stands) ↦ (let most : round.moment ≤ moment = upper zero round here in let least : moment ≤ row.moment = lower behind place row stands in omega arith)
    ]
falls_both (x ∷ xs) ys moment mine upper yours lower (suc earlier) zero place round row here order s = absurd (omega (arith, order))
falls_both (x ∷ xs) ys moment mine upper yours lower (suc earlier) (suc later) place round row here order s =
    falls_both xs ys moment (λ e l p r w g o t. mine (suc e) (suc l) p r w g (omega (arith, o)) t) (λ p r g. upper (suc p) r g) yours lower earlier later place round row here (omega (arith, order)) s

lower_purge : (moment : ℕ) (rounds : List RowRound) → Lower moment rounds → Lower moment (purge_at moment ∷ rounds)
lower_purge moment rounds lower round place row s = let next = behind_purge moment rounds round place row s in lower next.0 place row next.1

falls_purge : (moment : ℕ) (rounds : List RowRound) → NeverFalls rounds → Lower moment rounds → NeverFalls (purge_at moment ∷ rounds)
falls_purge moment rounds mine lower zero later place round row here order s =
    let next = behind_purge moment rounds later place row s in
    let same : round.moment ≡ moment = ap (λ (r : RowRound). r.moment) (sym (same_Some (purge_at moment) round here)) in
    let least : moment ≤ row.moment = lower next.0 place row next.1 in
    omega arith
falls_purge moment rounds mine lower (suc earlier) zero place round row here order s = absurd (omega (arith, order))
falls_purge moment rounds mine lower (suc earlier) (suc later) place round row here order s = mine earlier later place round row here (omega (arith, order)) s

-- the moment of the last call isn't before that of any
rises_to : (passed : Passed) (calls : List Entry) → AreCalls passed calls → passed.moment ≤ (after_all passed calls).moment
rises_to passed [] follow = omega arith
rises_to passed (c ∷ cs) follow = omega (arith, follow.0.not_backward, rises_to (after passed c) cs follow.1)

after_both : (passed : Passed) (xs ys : List Entry) → after_all passed (xs ++ ys) ≡ after_all (after_all passed xs) ys
after_both passed [] ys = refl
after_both passed (x ∷ xs) ys = after_both (after passed x) xs ys

first_upto : (config : JudgeConfig) (passed : Passed) (calls others : List Entry) (outcomes : List Outcome) → AreCalls passed (calls ++ others)
    → first_moment (rows_of config.settings calls outcomes) ≤ (after_all passed (calls ++ others)).moment
first_upto config passed [] others outcomes follow = omega arith
first_upto config passed (c ∷ cs) others [] follow = omega arith
first_upto config passed (c ∷ cs) others (o ∷ os) follow = rises_to (after passed c) (cs ++ others) follow.1

upper_rounds : (config : JudgeConfig) (passed : Passed) (rounds : List Round) → AreCalls passed (calls_in rounds) → Upper (row_rounds config rounds) (after_all passed (calls_in rounds)).moment
upper_rounds config passed [] follow place round here = absurd (none-some round here)
upper_rounds config passed (r ∷ rs) follow zero round here =
    let first : round.moment ≡ first_moment (rows_of config.settings r.calls r.outcomes) = ap (λ (x : RowRound). x.moment) (sym (same_Some (row_round config r) round here)) in
    omega (arith, first, first_upto config passed r.calls (calls_in rs) r.outcomes follow)
upper_rounds config passed (r ∷ rs) follow (suc place) round here =
    subst (λ (x : Passed). round.moment ≤ x.moment) (sym (after_both passed r.calls (calls_in rs)))
    (upper_rounds config (after_all passed r.calls) rs (behind_calls passed r.calls (calls_in rs) follow) place round here)

last_is : (run : Run) → (after_all run.passed (calls_in run.rounds)).moment ≡ last_moment_in run
last_is run = sym (moment_same run.passed (calls_in run.rounds))

lower_runs : (past moment : ℕ) (runs : List Run) → AreRunsAfter past moment runs → Lower moment (rounds_in (row_runs runs))
lower_runs past moment [] are round place row s = absurd (none-some row s)
lower_runs past moment (run ∷ runs) are round place row s =
    elim (stands_in_both (row_rounds run.config run.rounds) (purge_at (last_moment_in run) ∷ rounds_in (row_runs runs)) round place row s) [
      | inl here ↦ (let f = of_call run.config (IsOwed run.config.settings) run.rounds round place row are.0.owed here in
          let least : run.passed.moment ≤ f.call.moment = not_below run.passed (calls_in run.rounds) f.call are.0.follow f.inside in
          let same : row.moment ≡ f.call.moment = ap (λ (r : Row). r.moment) f.is in
          omega (arith, are.0.from, least, same))
      | inr (later, there) ↦ (let next = behind_purge (last_moment_in run) (rounds_in (row_runs runs)) later place row there in
          let rest : last_moment_in run ≤ row.moment = lower_runs past (last_moment_in run) runs are.1 next.0 place row next.1 in
          omega (arith, are.0.from, rises_to run.passed (calls_in run.rounds) are.0.follow, last_is run, rest))
    ]

falls_runs : (past moment : ℕ) (runs : List Run) → AreRunsAfter past moment runs → NeverFalls (rounds_in (row_runs runs))
falls_runs past moment [] are earlier later place round row here order s = absurd (none-some round here)
falls_runs past moment (run ∷ runs) are earlier later place round row here order s =
    falls_both (row_rounds run.config run.rounds) (purge_at (last_moment_in run) ∷ rounds_in (row_runs runs)) (last_moment_in run)
    (falls run.config (IsOwed run.config.settings) run.passed run.rounds are.0.owed are.0.follow)
    (subst (Upper (row_rounds run.config run.rounds)) (last_is run) (upper_rounds run.config run.passed run.rounds are.0.follow))
    (falls_purge (last_moment_in run) (rounds_in (row_runs runs)) (falls_runs past (last_moment_in run) runs are.1) (lower_runs past (last_moment_in run) runs are.1))
    (lower_purge (last_moment_in run) (rounds_in (row_runs runs)) (lower_runs past (last_moment_in run) runs are.1)) earlier later place round row here order s

-- ---- the whole

pub runs_legal : LegalInRuns → RunsLegal
runs_legal law past runs next are on one = law (row_runs runs) next on (fresh past runs are) (falls_runs past 0 runs are) (apart past runs are one)
