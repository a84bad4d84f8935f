-- Rounds that were judged one by one are legal together.
use Rattle.std.proofs.Common.{◌≡◌, ℕ, zero, suc, ◌≤◌, inl, inr, true, List, [], ◌∷◌, ◌++◌, unwrap_or, refl, sym, ◌∙◌, ap, subst, arith}
use Rattle.std.proofs.lemmas.Option.{none-some, same_Some}
use Rattle.call_log.specs.Entry.{Entry}
use Rattle.call_log.specs.Log.{AreCalls, Passed, after, after_all}
use Rattle.log_rounds.specs.Judge.{JudgeConfig, IsIn}
use Rattle.log_rounds.specs.Rounds.{AllInOrder, FirstWinsIn, InEach, IsApart, Legal, Round, calls_in, row_round, row_rounds}
use Rattle.passport_json.specs.Signing.{Ticket}
use Rattle.replay_law.specs.Held.{Held, nothing}
use Rattle.replay_law.specs.Law.{FirstOfAll, IsFresh, LegalTogether, NeverFalls, IsApart as RowsApart}
use Rattle.replay_law.specs.Log.{StandsIn}
use Rattle.replay_law.specs.Round.{Rounds, first_moment, Round as RowRound}
use Rattle.replay_law.specs.Row.{Row, Stands}
use Rattle.replay_law.specs.Turn.{EachFirstWins, FirstWins}
use Rattle.verify_rules.specs.Signed.{IsKnownAgain, last_by}
use Rattle.verify_rules.specs.declared.settings.Settings.{Settings}
use Rattle.call_judging.specs.Judging.{last_second, ticket_or_none}
use Rattle.verify_service.specs.Judging.{EachPair, call_in}
use Rattle.verify_service.specs.Rows.{IsOwed, row_of, rows_of}
use Rattle.verify_service.specs.declared.outcome.Outcome.{Outcome}

-- ---- the call of a row

pub record OfCall (config : JudgeConfig) (P : Entry → Outcome → Type 0) (calls : List Entry) (row : Row) : Type 0 where
  pub call : Entry
  pub outcome : Outcome
  pub is : row ≡ row_of config.settings call outcome
  pub holds : P call outcome
  pub inside : IsIn call calls

in_front : (call : Entry) (xs ys : List Entry) → IsIn call xs → IsIn call (xs ++ ys)
in_front call [] ys i = absurd i
in_front call (x ∷ xs) ys (inl e) = inl e
in_front call (x ∷ xs) ys (inr i) = inr (in_front call xs ys i)

in_behind : (call : Entry) (xs ys : List Entry) → IsIn call ys → IsIn call (xs ++ ys)
in_behind call [] ys i = i
in_behind call (x ∷ xs) ys i = inr (in_behind call xs ys i)

pub in_round : (config : JudgeConfig) (P : Entry → Outcome → Type 0) (calls : List Entry) (outcomes : List Outcome) (place : ℕ) (row : Row) → EachPair P calls outcomes → Stands (rows_of config.settings calls outcomes) place row → OfCall config P calls row
in_round config P [] outcomes place row p s = absurd (none-some row s)
in_round config P (c ∷ cs) [] place row p s = absurd p
in_round config P (c ∷ cs) (o ∷ os) zero row p s = record { call = c; outcome = o; is = sym (same_Some (row_of config.settings c o) row s); holds = p.0; inside = inl refl }
in_round config P (c ∷ cs) (o ∷ os) (suc place) row p s =
    let f = in_round config P cs os place row p.1 s in
    record { call = f.call; outcome = f.outcome; is = f.is; holds = f.holds; inside = inr f.inside }

pub of_call : (config : JudgeConfig) (P : Entry → Outcome → Type 0) (rounds : List Round) (round place : ℕ) (row : Row) → InEach P rounds → StandsIn (row_rounds config rounds) round place row → OfCall config P (calls_in rounds) row
of_call config P [] round place row a s = absurd (none-some row s)
of_call config P (r ∷ rs) zero place row a s =
    let f = in_round config P r.calls r.outcomes place row a.0 s in
    record { call = f.call; outcome = f.outcome; is = f.is; holds = f.holds; inside = in_front f.call r.calls (calls_in rs) f.inside }
of_call config P (r ∷ rs) (suc round) place row a s =
    let f = of_call config P rs round place row a.1 s in
    record { call = f.call; outcome = f.outcome; is = f.is; holds = f.holds; inside = in_behind f.call r.calls (calls_in rs) f.inside }

-- ---- a call that passes, by what was signed as its last PASSporT

pub known_fresh : (settings : Settings) (call : Entry) → IsKnownAgain (call_in settings call) → call.moment ≤ last_second (call_in settings call)
unfolding call_in last_second
known_fresh settings call known = known.fresh

pub known_ticket : (settings : Settings) (call : Entry) → (known : IsKnownAgain (call_in settings call)) → ticket_or_none (call_in settings call) ≡ Ticket known.signing
unfolding ticket_or_none
known_ticket settings call known = ap (λ ticket. unwrap_or ticket []) known.ticket

pub known_last : (settings : Settings) (call : Entry) → (known : IsKnownAgain (call_in settings call)) → last_second (call_in settings call) ≡ last_by settings known.signing
unfolding call_in last_second
known_last settings call known = known.last

-- ---- calls that pass are fresh, and have one last second if their ticket is one

passing : (config : JudgeConfig) (calls : List Entry) (row : Row) → row.passes ≡ true → (f : OfCall config (IsOwed config.settings) calls row) → IsKnownAgain (call_in config.settings f.call)
passing config calls row p f = f.holds (sym (ap (λ (r : Row). r.passes) f.is) ∙ p)

fresh : (config : JudgeConfig) (rounds : List Round) → InEach (IsOwed config.settings) rounds → IsFresh (row_rounds config rounds)
fresh config rounds owed round place row s p =
    let f = of_call config (IsOwed config.settings) rounds round place row owed s in
    let moment : row.moment ≡ f.call.moment = ap (λ (r : Row). r.moment) f.is in
    let last : row.last ≡ last_second (call_in config.settings f.call) = ap (λ (r : Row). r.last) f.is in
    omega (arith, moment, last, known_fresh config.settings f.call (passing config (calls_in rounds) row p f))

apart : (config : JudgeConfig) (rounds : List Round) → InEach (IsOwed config.settings) rounds → IsApart config (calls_in rounds) → RowsApart (row_rounds config rounds)
apart config rounds owed one round place other_round other row same s p t uses =
    let f = of_call config (IsOwed config.settings) rounds round place row owed s in
    let g = of_call config (IsOwed config.settings) rounds other_round other same owed t in
    let a = passing config (calls_in rounds) row p f in
    let b = passing config (calls_in rounds) same uses.passes g in
    let tickets : ticket_or_none (call_in config.settings f.call) ≡ ticket_or_none (call_in config.settings g.call) = sym (ap (λ (r : Row). r.ticket) f.is) ∙ sym uses.same ∙ ap (λ (r : Row). r.ticket) g.is in
    let inputs : a.signing ≡ b.signing = one f.call g.call a.signing b.signing f.inside g.inside a.signed b.signed (sym (known_ticket config.settings f.call a) ∙ tickets ∙ known_ticket config.settings g.call b) in
    ap (λ (r : Row). r.last) f.is ∙ known_last config.settings f.call a ∙ ap (last_by config.settings) inputs ∙ sym (known_last config.settings g.call b) ∙ sym (ap (λ (r : Row). r.last) g.is)

-- ---- moments don't fall

pub behind_calls : (passed : Passed) (xs ys : List Entry) → AreCalls passed (xs ++ ys) → AreCalls (after_all passed xs) ys
behind_calls passed [] ys a = a
behind_calls passed (x ∷ xs) ys a = behind_calls (after passed x) xs ys a.1

pub not_below : (passed : Passed) (calls : List Entry) (call : Entry) → AreCalls passed calls → IsIn call calls → passed.moment ≤ call.moment
not_below passed [] call a i = absurd i
not_below passed (c ∷ cs) call a (inl e) = omega (arith, a.0.not_backward, ap (λ (x : Entry). x.moment) e)
not_below passed (c ∷ cs) call a (inr i) = omega (arith, a.0.not_backward, not_below (after passed c) cs call a.1 i)

-- of a round and those after it, no call comes before its first one
first_below : (config : JudgeConfig) (passed : Passed) (calls others : List Entry) (outcomes : List Outcome) (call : Entry) → AreCalls passed (calls ++ others) → IsIn call (calls ++ others) → first_moment (rows_of config.settings calls outcomes) ≤ call.moment
first_below config passed [] others outcomes call a i = omega arith
first_below config passed (c ∷ cs) others [] call a i = omega arith
first_below config passed (c ∷ cs) others (o ∷ os) call a (inl e) = omega (arith, ap (λ (x : Entry). x.moment) e)
first_below config passed (c ∷ cs) others (o ∷ os) call a (inr i) = not_below (after passed c) (cs ++ others) call a.1 i

pub falls : (config : JudgeConfig) (P : Entry → Outcome → Type 0) (passed : Passed) (rounds : List Round) → InEach P rounds → AreCalls passed (calls_in rounds) → NeverFalls (row_rounds config rounds)
falls config P passed [] each follow earlier later place round row here order s = absurd (none-some round here)
falls config P passed (r ∷ rs) each follow zero later place round row here order s =
    let f = of_call config P (r ∷ rs) later place row each s in
    let first : round.moment ≡ first_moment (rows_of config.settings r.calls r.outcomes) = ap (λ (x : RowRound). x.moment) (sym (same_Some (row_round config r) round here)) in
    let moment : row.moment ≡ f.call.moment = ap (λ (x : Row). x.moment) f.is in
    omega (arith, first, moment, first_below config passed r.calls (calls_in rs) r.outcomes f.call follow f.inside)
falls config P passed (r ∷ rs) each follow (suc earlier) zero place round row here order s = absurd (omega (arith, order))
falls config P passed (r ∷ rs) each follow (suc earlier) (suc later) place round row here order s =
    falls config P (after_all passed r.calls) rs each.1 (behind_calls passed r.calls (calls_in rs) follow) earlier later place round row here (omega (arith, order)) s

-- ---- the whole

pub legal_of : LegalTogether → (judged : Entry → Outcome → Type 0) (config : JudgeConfig) (passed : Passed) (before now : Held) (rounds : List Round) → before ≡ nothing → Rounds before (row_rounds config rounds) now → InEach judged rounds
    → InEach (IsOwed config.settings) rounds → AreCalls passed (calls_in rounds) → IsApart config (calls_in rounds) → Legal judged config rounds
legal_of law judged config passed before now rounds empty settled each owed follow one =
    let runs : Rounds nothing (row_rounds config rounds) now = subst (λ h. Rounds h (row_rounds config rounds) now) empty settled in
    record { each = each; once = law (row_rounds config rounds) now runs (fresh config rounds owed) (falls config judged passed rounds each follow) (apart config rounds owed one) }

each_first : (config : JudgeConfig) (rounds : List Round) → AllInOrder config rounds → EachFirstWins (row_rounds config rounds)
each_first config [] a place round here = absurd (none-some round here)
each_first config (r ∷ rs) a zero round here = subst (λ (x : RowRound). FirstWins x.rows) (same_Some (row_round config r) round here) a.0
each_first config (r ∷ rs) a (suc place) round here = each_first config rs a.1 place round here

pub first_of : FirstOfAll → (judged : Entry → Outcome → Type 0) (config : JudgeConfig) (rounds : List Round) → Legal judged config rounds → AllInOrder config rounds → FirstWinsIn config rounds
first_of law judged config rounds legal a = law (row_rounds config rounds) legal.once (each_first config rounds a)
