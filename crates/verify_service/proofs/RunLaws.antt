-- Runs of a service, each from the state of the one before it, are legal together.
use Rattle.std.proofs.Common.{◌≡◌, ℕ, zero, suc, ◌+◌, ◌≤◌, ◌⊎◌, inl, inr, true, List, [], ◌∷◌, ◌++◌, Option, unwrap_or, refl, sym, ◌∙◌, ap, subst, arith}
use Rattle.std.proofs.lemmas.Option.{none-some, same_Some}
use Rattle.std.specs.Option.{option_and_then}
use Rattle.call_log.specs.Entry.{Entry}
use Rattle.passport_json.specs.IssuedAt.{issued_at}
use Rattle.passport_json.specs.Signed.{payload_in}
use Rattle.replay_law.specs.Held.{Held, nothing, purged}
use Rattle.replay_law.specs.Law.{IsApart, IsFresh, LegalPassesOnce, PurgedAlone, ReplayNamesOne}
use Rattle.replay_law.specs.Log.{StandsIn}
use Rattle.replay_law.specs.Round.{Round as RowRound, RoundSettled, Rounds, purge_at}
use Rattle.replay_law.specs.Row.{Row, Stands}
use Rattle.replay_law.specs.Runs.{HandOn, LegalInRuns, rounds_in}
use Rattle.call_judging.specs.Judging.{last_second, ticket_or_none}
use Rattle.passport_json.specs.Signing.{Ticket}
use Rattle.verify_rules.specs.Signed.{IsKnownAgain, last_by}
use Rattle.verify_rules.specs.World.{World}
use Rattle.verify_rules.specs.declared.settings.Settings.{Settings}
use Rattle.verify_service.specs.Handing.{kept_by}
use Rattle.verify_service.specs.Judging.{call_in}
use Rattle.verify_service.specs.Rows.{EachOwed, IsOwed, held, row_of, rows_of}
use Rattle.verify_service.specs.Service.{first_moment_of}
use Rattle.verify_service.specs.declared.outcome.Outcome.{Outcome}
use Rattle.verify_service.specs.declared.outcome.Outcome.TheVariants.{Valid, Refused, Replay, Unread, Unasked}
use Rattle.verify_service.specs.Runs.{AreApart, AreRounds, AreRuns, IsCallOf, IsIn, IsRound, JudgedIn, JudgedSaysFirst, LegalNamesOne, LegalPassOnce, Round, Run, RunsAreLegal, StatesHandOn, all_handed_in, all_rounds, answered, handed_in, last_in, row_round, row_rounds, row_runs, unanswered}
use Rattle.verify_service.proofs.RunTimeLaws.{runs_in_time, runs_numbered}

-- ---- the rounds are settled in turn

settled_round : PurgedAlone → (settings : Settings) (world : Option World) (past : Held) (round : Round) (next : Held) → IsRound settings world past round next
    → RoundSettled past (row_round settings round) next
settled_round law settings world past (answered calls outcomes) next is = is.settled
settled_round law settings world past (unanswered calls) next is = law past next (first_moment_of calls) is

settled_rounds : PurgedAlone → (settings : Settings) (world : Option World) (past : Held) (rounds : List Round) (next : Held) → AreRounds settings world past rounds next
    → Rounds past (row_rounds settings rounds) next
settled_rounds law settings world past [] next same = same
settled_rounds law settings world past (round ∷ rounds) next (middle, is, more) =
    (middle, settled_round law settings world past round middle is, settled_rounds law settings world middle rounds next more)

hand_on : PurgedAlone → (window moment : ℕ) (past : Held) (runs : List Run) (next : Held) → AreRuns window moment past runs next → HandOn past (row_runs moment runs) next
hand_on law window moment past [] next same = same
hand_on law window moment past (run ∷ runs) next (handed, is, more) =
    (is.left, handed, settled_rounds law run.settings run.world past run.rounds is.left is.rounds, is.handed, hand_on law window (last_in moment run.rounds) handed runs next more)

-- ---- what a service hands on is what the next one keeps

pub states_hand_on : StatesHandOn
states_hand_on window moment past run service next state settings materials window_is rounds same is restored = record {
  window_is = window_is;
  left = held service.past;
  rounds = rounds;
  handed = λ ticket. subst (λ m. purged m (held service.past) ticket ≡ kept_by state.kept ticket) same (is.kept ticket) ∙ restored.past ticket;
}

-- ---- the call of a row

record OfCall (settings : Settings) (calls : List Entry) (row : Row) : Type 0 where
  call : Entry
  outcome : Outcome
  is : row ≡ row_of settings call outcome
  owed : IsOwed settings call outcome
  inside : IsIn call calls

in_front : (call : Entry) (xs ys : List Entry) → IsIn call xs → IsIn call (xs ++ ys)
in_front call [] ys is = absurd is
in_front call (x ∷ xs) ys (inl e) = inl e
in_front call (x ∷ xs) ys (inr is) = inr (in_front call xs ys is)

in_behind : (call : Entry) (xs ys : List Entry) → IsIn call ys → IsIn call (xs ++ ys)
in_behind call [] ys is = is
in_behind call (x ∷ xs) ys is = inr (in_behind call xs ys is)

of_rows : (settings : Settings) (calls : List Entry) (outcomes : List Outcome) (place : ℕ) (row : Row) → EachOwed settings calls outcomes
    → Stands (rows_of settings calls outcomes) place row → OfCall settings calls row
of_rows settings [] outcomes place row owed stands = absurd (none-some row stands)
of_rows settings (c ∷ cs) [] place row owed stands = absurd owed
of_rows settings (c ∷ cs) (o ∷ os) zero row owed stands =
    record { call = c; outcome = o; is = sym (same_Some (row_of settings c o) row stands); owed = owed.0; inside = inl refl }
of_rows settings (c ∷ cs) (o ∷ os) (suc place) row owed stands =
    let f = of_rows settings cs os place row owed.1 stands in
    record { call = f.call; outcome = f.outcome; is = f.is; owed = f.owed; inside = inr f.inside }

of_round : (settings : Settings) (world : Option World) (past : Held) (round : Round) (next : Held) → IsRound settings world past round next → (place : ℕ) (row : Row)
    → Stands (row_round settings round).rows place row → OfCall settings (handed_in round) row
of_round settings world past (answered calls outcomes) next is place row stands = of_rows settings calls outcomes place row is.owed stands
of_round settings world past (unanswered calls) next is place row stands = absurd (none-some row stands)

of_rounds : (settings : Settings) (world : Option World) (past : Held) (rounds : List Round) (next : Held) → AreRounds settings world past rounds next
    → (round place : ℕ) (row : Row) → StandsIn (row_rounds settings rounds) round place row → OfCall settings (all_handed_in rounds) row
of_rounds settings world past [] next are round place row stands = absurd (none-some row stands)
of_rounds settings world past (r ∷ rs) next (middle, is, more) zero place row stands =
    let f = of_round settings world past r middle is place row stands in
    record { call = f.call; outcome = f.outcome; is = f.is; owed = f.owed; inside = in_front f.call (handed_in r) (all_handed_in rs) f.inside }
of_rounds settings world past (r ∷ rs) next (middle, is, more) (suc round) place row stands =
    let f = of_rounds settings world middle rs next more round place row stands in
    record { call = f.call; outcome = f.outcome; is = f.is; owed = f.owed; inside = in_behind f.call (handed_in r) (all_handed_in rs) f.inside }

in_both : (xs ys : List RowRound) (round place : ℕ) (row : Row) → StandsIn (xs ++ ys) round place row → StandsIn xs round place row ⊎ ((later : ℕ) × StandsIn ys later place row)
in_both [] ys round place row stands = inr (round, stands)
in_both (x ∷ xs) ys zero place row stands = inl stands
in_both (x ∷ xs) ys (suc round) place row stands = in_both xs ys round place row stands

-- a purge has no calls
behind_purge : (moment : ℕ) (ys : List RowRound) (round place : ℕ) (row : Row) → StandsIn (purge_at moment ∷ ys) round place row → (later : ℕ) × StandsIn ys later place row
behind_purge moment ys zero place row stands = absurd (none-some row stands)
behind_purge moment ys (suc round) place row stands = (round, stands)

record OfRuns (window : ℕ) (runs : List Run) (row : Row) : Type 0 where
  settings : Settings
  calls : List Entry
  of : OfCall settings calls row
  among : IsCallOf runs settings of.call
  window_is : settings.past ≡ window

later_run : (window : ℕ) (run : Run) (runs : List Run) (row : Row) → OfRuns window runs row → OfRuns window (run ∷ runs) row
later_run window run runs row o = record {
  settings = o.settings;
  calls = o.calls;
  of = o.of;
  among = record { run = o.among.run; among = inr o.among.among; by = o.among.by; handed = o.among.handed };
  window_is = o.window_is;
}

of_runs : (window moment : ℕ) (past : Held) (runs : List Run) (next : Held) → AreRuns window moment past runs next → (round place : ℕ) (row : Row)
    → StandsIn (rounds_in (row_runs moment runs)) round place row → OfRuns window runs row
of_runs window moment past [] next are round place row stands = absurd (none-some row stands)
of_runs window moment past (run ∷ runs) next (handed, is, more) round place row stands =
    elim (in_both (row_rounds run.settings run.rounds) (purge_at (last_in moment run.rounds) ∷ rounds_in (row_runs (last_in moment run.rounds) runs)) round place row stands) [
      | inl here ↦ (let f = of_rounds run.settings run.world past run.rounds is.left is.rounds round place row here in
          record {
            settings = run.settings;
            calls = all_handed_in run.rounds;
            of = f;
            among = record { run = run; among = inl refl; by = refl; handed = f.inside };
            window_is = is.window_is;
          })
      | inr (later, there) ↦ (let rest = behind_purge (last_in moment run.rounds) (rounds_in (row_runs (last_in moment run.rounds) runs)) later place row there in
          later_run window run runs row (of_runs window (last_in moment run.rounds) handed runs next more rest.0 place row rest.1))
    ]

-- ---- calls that pass are fresh, and have one last second if their ticket is one

known_fresh : (settings : Settings) (call : Entry) → IsKnownAgain (call_in settings call) → call.moment ≤ last_second (call_in settings call)
unfolding call_in last_second
known_fresh settings call known = known.fresh

known_ticket : (settings : Settings) (call : Entry) → (known : IsKnownAgain (call_in settings call)) → ticket_or_none (call_in settings call) ≡ Ticket known.signing
unfolding ticket_or_none
known_ticket settings call known = ap (λ ticket. unwrap_or ticket []) known.ticket

known_last : (settings : Settings) (call : Entry) → (known : IsKnownAgain (call_in settings call)) → last_second (call_in settings call) ≡ last_by settings known.signing
unfolding call_in last_second
known_last settings call known = known.last

last_alike : (one two : Settings) (signing : List ℕ) → one.past ≡ two.past → last_by one signing ≡ last_by two signing
unfolding last_by
last_alike one two signing same = ap (λ n. unwrap_or (option_and_then issued_at (payload_in signing)) 0 + n) same

passing : (window : ℕ) (runs : List Run) (row : Row) → row.passes ≡ true → (o : OfRuns window runs row) → IsKnownAgain (call_in o.settings o.of.call)
passing window runs row passes o = o.of.owed (sym (ap (λ (r : Row). r.passes) o.of.is) ∙ passes)

fresh : (window : ℕ) (runs : List Run) (next : Held) → AreRuns window 0 nothing runs next → IsFresh (all_rounds runs)
fresh window runs next are round place row stands passes =
    let o = of_runs window 0 nothing runs next are round place row stands in
    let moment : row.moment ≡ o.of.call.moment = ap (λ (r : Row). r.moment) o.of.is in
    let last : row.last ≡ last_second (call_in o.settings o.of.call) = ap (λ (r : Row). r.last) o.of.is in
    omega (arith, moment, last, known_fresh o.settings o.of.call (passing window runs row passes o))

apart : (window : ℕ) (runs : List Run) (next : Held) → AreRuns window 0 nothing runs next → AreApart runs → IsApart (all_rounds runs)
apart window runs next are one round place other_round other row same stands passes there uses =
    let f = of_runs window 0 nothing runs next are round place row stands in
    let g = of_runs window 0 nothing runs next are other_round other same there in
    let a = passing window runs row passes f in
    let b = passing window runs same uses.passes g in
    let tickets : ticket_or_none (call_in f.settings f.of.call) ≡ ticket_or_none (call_in g.settings g.of.call) =
    sym (ap (λ (r : Row). r.ticket) f.of.is) ∙ sym uses.same ∙ ap (λ (r : Row). r.ticket) g.of.is in
    let inputs : a.signing ≡ b.signing = one f.settings g.settings f.of.call g.of.call a.signing b.signing f.among g.among a.signed b.signed
    (sym (known_ticket f.settings f.of.call a) ∙ tickets ∙ known_ticket g.settings g.of.call b) in
    ap (λ (r : Row). r.last) f.of.is ∙ known_last f.settings f.of.call a ∙ ap (last_by f.settings) inputs
    ∙ last_alike f.settings g.settings b.signing (f.window_is ∙ sym g.window_is) ∙ sym (known_last g.settings g.of.call b)
    ∙ sym (ap (λ (r : Row). r.last) g.of.is)

-- ---- each is judged

judged_rounds : (settings : Settings) (world : Option World) (past : Held) (rounds : List Round) (next : Held) → AreRounds settings world past rounds next
    → (calls : List Entry) (outcomes : List Outcome) → IsIn (answered calls outcomes) rounds → JudgedIn world settings calls outcomes
judged_rounds settings world past [] next are calls outcomes is = absurd is
judged_rounds settings world past (r ∷ rs) next (middle, one, more) calls outcomes (inl same) =
    let it : IsRound settings world past (answered calls outcomes) middle = subst (λ r. IsRound settings world past r middle) (sym same) one in
    it.judged
judged_rounds settings world past (r ∷ rs) next (middle, one, more) calls outcomes (inr is) = judged_rounds settings world middle rs next more calls outcomes is

judged_runs : (window moment : ℕ) (past : Held) (runs : List Run) (next : Held) → AreRuns window moment past runs next → (run : Run) (calls : List Entry)
    (outcomes : List Outcome) → IsIn run runs → IsIn (answered calls outcomes) run.rounds → JudgedIn run.world run.settings calls outcomes
judged_runs window moment past [] next are run calls outcomes among is = absurd among
judged_runs window moment past (r ∷ rs) next (handed, one, more) run calls outcomes (inl same) is =
    subst (λ (x : Run). IsIn (answered calls outcomes) x.rounds → JudgedIn x.world x.settings calls outcomes) (sym same)
    (judged_rounds r.settings r.world past r.rounds one.left one.rounds calls outcomes) is
judged_runs window moment past (r ∷ rs) next (handed, one, more) run calls outcomes (inr among) is =
    judged_runs window (last_in moment r.rounds) handed rs next more run calls outcomes among is

-- ---- the whole

pub runs_are_legal : LegalInRuns → PurgedAlone → RunsAreLegal
runs_are_legal law purged window runs next are falls one = record {
  each = judged_runs window 0 nothing runs next are;
  once = law (row_runs 0 runs) next (hand_on purged window 0 nothing runs next are) (fresh window runs next are) (runs_in_time 0 runs falls).falls
      (apart window runs next are one);
}

pub legal_pass_once : LegalPassesOnce → LegalPassOnce
legal_pass_once law runs legal = law (all_rounds runs) legal.once

pub legal_names_one : ReplayNamesOne → LegalNamesOne
legal_names_one law runs legal rise = law (all_rounds runs) legal.once (runs_numbered 0 0 runs rise).rise

-- ---- the first rule

pub judged_says_first : JudgedSaysFirst
judged_says_first world settings call Valid is = record {
  broken = λ refused e. absurd (none-some refused (sym is ∙ e));
  none = λ e. inr (inl refl);
}
judged_says_first world settings call (Refused refusal) is = record {
  broken = λ refused e. inr (ap Refused (same_Some refusal refused (sym is ∙ e)));
  none = λ e. absurd (none-some refusal (sym e ∙ is));
}
judged_says_first world settings call (Replay winner) is = record {
  broken = λ refused e. absurd (none-some refused (sym is ∙ e));
  none = λ e. inr (inr (winner, refl));
}
judged_says_first world settings call (Unread bad) is = record { broken = λ refused e. inl tt; none = λ e. inl tt }
judged_says_first world settings call (Unasked bad) is = record { broken = λ refused e. inl tt; none = λ e. inl tt }
