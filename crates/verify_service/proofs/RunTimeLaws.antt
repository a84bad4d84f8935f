-- Moments never fall, and numbers rise, over all rounds of runs that go on from one another.
use Rattle.std.proofs.Common.{◌≡◌, ℕ, zero, suc, ◌-◌, ◌<◌, ◌≤◌, inl, inr, List, [], ◌∷◌, ◌++◌, length, Some, refl, sym, ◌∙◌, ap, subst, arith, append_assoc}
use Rattle.std.proofs.lemmas.Option.{none-some, same_Some}
use Rattle.std.specs.List.{slice_get}
use Rattle.call_log.specs.Entry.{Entry}
use Rattle.replay_law.specs.Law.{NeverFalls, NumbersRise}
use Rattle.replay_law.specs.Log.{IsBefore, StandsIn}
use Rattle.replay_law.specs.Round.{Round as RowRound, first_moment, purge_at, round_of}
use Rattle.replay_law.specs.Row.{Row, Stands}
use Rattle.replay_law.specs.Runs.{rounds_in}
use Rattle.verify_rules.specs.declared.settings.Settings.{Settings}
use Rattle.verify_service.specs.Rows.{row_of, rows_of}
use Rattle.verify_service.specs.Service.{first_moment_of, last_entry, last_moment_of, last_number, moment_or, number_or}
use Rattle.verify_service.specs.declared.outcome.Outcome.{Outcome}
use Rattle.verify_service.specs.Runs.{NeverFall, Rise, Round, RoundsRise, Run, all_handed_in, answered, calls_in, handed_in, last_in, row_round, row_rounds, row_runs, unanswered}

-- ---- the calls of a round

-- the last call is that of those after the first, if there are any
last_behind : (x y : Entry) (ys : List Entry) → last_entry (x ∷ y ∷ ys) ≡ last_entry (y ∷ ys)
last_behind x y ys = let e : length (x ∷ y ∷ ys) - 1 ≡ suc (length (y ∷ ys) - 1) = omega arith in ap (slice_get (x ∷ y ∷ ys)) e

number_front : (number : ℕ) (x : Entry) (xs : List Entry) → last_number number (x ∷ xs) ≡ last_number x.number xs
number_front number x [] = refl
number_front number x (y ∷ ys) = ap (number_or number) (last_behind x y ys) ∙ number_front number y ys ∙ sym (number_front x.number y ys)

moment_front : (moment : ℕ) (x : Entry) (xs : List Entry) → last_moment_of moment (x ∷ xs) ≡ last_moment_of x.moment xs
moment_front moment x [] = refl
moment_front moment x (y ∷ ys) = ap (moment_or moment) (last_behind x y ys) ∙ moment_front moment y ys ∙ sym (moment_front x.moment y ys)

pub rounds_rise : RoundsRise
rounds_rise number moment [] follows = (tt, tt)
rounds_rise number moment (x ∷ xs) follows =
    let rest = rounds_rise x.number x.moment xs follows.1 in
    ((follows.0.not_before, rest.0), (follows.0.above, rest.1))

-- what holds of calls and those after them holds of both
falls_cut : (moment : ℕ) (xs ys : List Entry) → NeverFall moment (xs ++ ys) → NeverFall moment xs × NeverFall (last_moment_of moment xs) ys
falls_cut moment [] ys falls = (tt, falls)
falls_cut moment (x ∷ xs) ys falls =
    let rest = falls_cut x.moment xs ys falls.1 in
    ((falls.0, rest.0), subst (λ m. NeverFall m ys) (sym (moment_front moment x xs)) rest.1)

rise_cut : (number : ℕ) (xs ys : List Entry) → Rise number (xs ++ ys) → Rise number xs × Rise (last_number number xs) ys
rise_cut number [] ys rise = (tt, rise)
rise_cut number (x ∷ xs) ys rise =
    let rest = rise_cut x.number xs ys rise.1 in
    ((rise.0, rest.0), subst (λ n. Rise n ys) (sym (number_front number x xs)) rest.1)

-- the last isn't before the first
falls_to : (moment : ℕ) (xs : List Entry) → NeverFall moment xs → moment ≤ last_moment_of moment xs
falls_to moment [] falls = omega arith
falls_to moment (x ∷ xs) falls = omega (arith, falls.0, moment_front moment x xs, falls_to x.moment xs falls.1)

rise_to : (number : ℕ) (xs : List Entry) → Rise number xs → number ≤ last_number number xs
rise_to number [] rise = omega arith
rise_to number (x ∷ xs) rise = omega (arith, rise.0, number_front number x xs, rise_to x.number xs rise.1)

first_within : (moment : ℕ) (calls : List Entry) → NeverFall moment calls → first_moment_of calls ≤ last_moment_of moment calls
first_within moment [] falls = omega arith
first_within moment (x ∷ xs) falls = omega (arith, moment_front moment x xs, falls_to x.moment xs falls.1)

-- ---- the rows of a round

row_moment : (settings : Settings) (call : Entry) (outcome : Outcome) (row : Row) → Some (row_of settings call outcome) ≡ Some row → row.moment ≡ call.moment
row_moment settings call outcome row stands = ap (λ (r : Row). r.moment) (sym (same_Some (row_of settings call outcome) row stands))

row_number : (settings : Settings) (call : Entry) (outcome : Outcome) (row : Row) → Some (row_of settings call outcome) ≡ Some row → row.number ≡ call.number
row_number settings call outcome row stands = ap (λ (r : Row). r.number) (sym (same_Some (row_of settings call outcome) row stands))

rows_from : (settings : Settings) (moment : ℕ) (calls : List Entry) (outcomes : List Outcome) → NeverFall moment calls → (place : ℕ) (row : Row)
    → Stands (rows_of settings calls outcomes) place row → moment ≤ row.moment
rows_from settings moment [] outcomes falls place row stands = absurd (none-some row stands)
rows_from settings moment (c ∷ cs) [] falls place row stands = absurd (none-some row stands)
rows_from settings moment (c ∷ cs) (o ∷ os) falls zero row stands = omega (arith, falls.0, row_moment settings c o row stands)
rows_from settings moment (c ∷ cs) (o ∷ os) falls (suc place) row stands = omega (arith, falls.0, rows_from settings c.moment cs os falls.1 place row stands)

first_lowest : (settings : Settings) (moment : ℕ) (calls : List Entry) (outcomes : List Outcome) → NeverFall moment calls → (place : ℕ) (row : Row)
    → Stands (rows_of settings calls outcomes) place row → first_moment (rows_of settings calls outcomes) ≤ row.moment
first_lowest settings moment [] outcomes falls place row stands = absurd (none-some row stands)
first_lowest settings moment (c ∷ cs) [] falls place row stands = absurd (none-some row stands)
first_lowest settings moment (c ∷ cs) (o ∷ os) falls zero row stands = omega (arith, row_moment settings c o row stands)
first_lowest settings moment (c ∷ cs) (o ∷ os) falls (suc place) row stands = omega (arith, rows_from settings c.moment cs os falls.1 place row stands)

rows_within : (settings : Settings) (moment : ℕ) (calls : List Entry) (outcomes : List Outcome) → NeverFall moment calls
    → first_moment (rows_of settings calls outcomes) ≤ last_moment_of moment calls
rows_within settings moment [] outcomes falls = omega arith
rows_within settings moment (c ∷ cs) [] falls = omega arith
rows_within settings moment (c ∷ cs) (o ∷ os) falls = omega (arith, moment_front moment c cs, falls_to c.moment cs falls.1)

rows_above : (settings : Settings) (number : ℕ) (calls : List Entry) (outcomes : List Outcome) → Rise number calls → (place : ℕ) (row : Row)
    → Stands (rows_of settings calls outcomes) place row → (number < row.number) × (row.number ≤ last_number number calls)
rows_above settings number [] outcomes rise place row stands = absurd (none-some row stands)
rows_above settings number (c ∷ cs) [] rise place row stands = absurd (none-some row stands)
rows_above settings number (c ∷ cs) (o ∷ os) rise zero row stands =
    let same = row_number settings c o row stands in
    (omega (arith, rise.0, same), omega (arith, same, number_front number c cs, rise_to c.number cs rise.1))
rows_above settings number (c ∷ cs) (o ∷ os) rise (suc place) row stands =
    let rest = rows_above settings c.number cs os rise.1 place row stands in
    (omega (arith, rise.0, rest.0), omega (arith, number_front number c cs, rest.1))

rows_rise : (settings : Settings) (number : ℕ) (calls : List Entry) (outcomes : List Outcome) → Rise number calls → (place other : ℕ) (row later : Row)
    → Stands (rows_of settings calls outcomes) place row → Stands (rows_of settings calls outcomes) other later → place < other → row.number < later.number
rows_rise settings number [] outcomes rise place other row later stands there before = absurd (none-some row stands)
rows_rise settings number (c ∷ cs) [] rise place other row later stands there before = absurd (none-some row stands)
rows_rise settings number (c ∷ cs) (o ∷ os) rise place zero row later stands there before = absurd (omega (arith, before))
rows_rise settings number (c ∷ cs) (o ∷ os) rise zero (suc other) row later stands there before =
    omega (arith, row_number settings c o row stands, (rows_above settings c.number cs os rise.1 other later there).0)
rows_rise settings number (c ∷ cs) (o ∷ os) rise (suc place) (suc other) row later stands there before =
    rows_rise settings c.number cs os rise.1 place other row later stands there (omega (arith, before))

-- ---- moments never fall from round to round

-- no call of these rounds comes before this moment
abbrev pub Lower : ℕ → List RowRound → Type 0
Lower moment rounds = (round place : ℕ) (row : Row) → StandsIn rounds round place row → moment ≤ row.moment

pub record InTime (moment : ℕ) (rounds : List RowRound) : Type 0 where
  pub lower : Lower moment rounds
  pub falls : NeverFalls rounds

-- the same of one round more before them
lower_more : (moment next : ℕ) (r : RowRound) (rs : List RowRound) → ((place : ℕ) (row : Row) → Stands r.rows place row → moment ≤ row.moment) → moment ≤ next
    → Lower next rs → Lower moment (r ∷ rs)
lower_more moment next r rs here upto rest zero place row stands = here place row stands
lower_more moment next r rs here upto rest (suc round) place row stands = let least : next ≤ row.moment = rest round place row stands in omega (arith, least, upto)

falls_more : (next : ℕ) (r : RowRound) (rs : List RowRound) → ((place : ℕ) (row : Row) → Stands r.rows place row → r.moment ≤ row.moment) → r.moment ≤ next
    → Lower next rs → NeverFalls rs → NeverFalls (r ∷ rs)
falls_more next r rs here upto lower falls zero zero place round row there order stands =
    subst (λ (x : RowRound). x.moment ≤ row.moment) (same_Some r round there) (here place row stands)
falls_more next r rs here upto lower falls zero (suc later) place round row there order stands =
    let least : next ≤ row.moment = lower later place row stands in
    subst (λ (x : RowRound). x.moment ≤ row.moment) (same_Some r round there) (omega (arith, upto, least))
falls_more next r rs here upto lower falls (suc earlier) zero place round row there order stands = absurd (omega (arith, order))
falls_more next r rs here upto lower falls (suc earlier) (suc later) place round row there order stands =
    falls earlier later place round row there (omega (arith, order)) stands

round_in_time : (settings : Settings) (moment : ℕ) (round : Round) (rs : List RowRound) → NeverFall moment (handed_in round)
    → InTime (last_moment_of moment (handed_in round)) rs → InTime moment (row_round settings round ∷ rs)
round_in_time settings moment (answered calls outcomes) rs falls rest = record {
  lower = lower_more moment (last_moment_of moment calls) (round_of (rows_of settings calls outcomes)) rs (rows_from settings moment calls outcomes falls)
      (falls_to moment calls falls) rest.lower;
  falls = falls_more (last_moment_of moment calls) (round_of (rows_of settings calls outcomes)) rs (first_lowest settings moment calls outcomes falls)
      (rows_within settings moment calls outcomes falls) rest.lower rest.falls;
}
round_in_time settings moment (unanswered calls) rs falls rest = record {
  lower = lower_more moment (last_moment_of moment calls) (purge_at (first_moment_of calls)) rs (λ place row stands. absurd (none-some row stands))
      (falls_to moment calls falls) rest.lower;
  falls = falls_more (last_moment_of moment calls) (purge_at (first_moment_of calls)) rs (λ place row stands. absurd (none-some row stands))
      (first_within moment calls falls) rest.lower rest.falls;
}

purge_in_time : (moment : ℕ) (rs : List RowRound) → InTime moment rs → InTime moment (purge_at moment ∷ rs)
purge_in_time moment rs rest = record {
  lower = lower_more moment moment (purge_at moment) rs (λ place row stands. absurd (none-some row stands)) (omega arith) rest.lower;
  falls = falls_more moment (purge_at moment) rs (λ place row stands. absurd (none-some row stands)) (omega arith) rest.lower rest.falls;
}

rounds_in_time : (settings : Settings) (moment : ℕ) (rounds : List Round) (others : List Entry) (more : List RowRound) → NeverFall moment (all_handed_in rounds ++ others)
    → (NeverFall (last_in moment rounds) others → InTime (last_in moment rounds) more) → InTime moment (row_rounds settings rounds ++ more)
rounds_in_time settings moment [] others more falls rest = rest falls
rounds_in_time settings moment (r ∷ rs) others more falls rest =
    let cut = falls_cut moment (handed_in r) (all_handed_in rs ++ others) (subst (NeverFall moment) (append_assoc (handed_in r) (all_handed_in rs) others) falls) in
    round_in_time settings moment r (row_rounds settings rs ++ more) cut.0 (rounds_in_time settings (last_moment_of moment (handed_in r)) rs others more cut.1 rest)

pub runs_in_time : (moment : ℕ) (runs : List Run) → NeverFall moment (calls_in runs) → InTime moment (rounds_in (row_runs moment runs))
runs_in_time moment [] falls = record {
  lower = λ round place row stands. absurd (none-some row stands);
  falls = λ earlier later place round row there order stands. absurd (none-some row stands);
}
runs_in_time moment (run ∷ runs) falls =
    rounds_in_time run.settings moment run.rounds (calls_in runs) (purge_at (last_in moment run.rounds) ∷ rounds_in (row_runs (last_in moment run.rounds) runs)) falls
    (λ later. purge_in_time (last_in moment run.rounds) (rounds_in (row_runs (last_in moment run.rounds) runs)) (runs_in_time (last_in moment run.rounds) runs later))

-- ---- numbers rise from round to round

pub record Numbered (number : ℕ) (rounds : List RowRound) : Type 0 where
  pub above : (round place : ℕ) (row : Row) → StandsIn rounds round place row → number < row.number
  pub rise : NumbersRise rounds

before_in : (round place other_round other : ℕ) → IsBefore (suc round) place (suc other_round) other → IsBefore round place other_round other
before_in round place other_round other (inl less) = inl (omega (arith, less))
before_in round place other_round other (inr (same, less)) = inr (omega (arith, same), less)

not_before : (round place other : ℕ) → IsBefore (suc round) place 0 other → ⊥
not_before round place other (inl less) = omega (arith, less)
not_before round place other (inr (same, less)) = omega (arith, same)

before_here : (place other : ℕ) → IsBefore 0 place 0 other → place < other
before_here place other (inl less) = absurd (omega (arith, less))
before_here place other (inr (same, less)) = less

-- each row has a number from above one up to another
abbrev Within : ℕ → ℕ → List Row → Type 0
Within number next rows = (place : ℕ) (row : Row) → Stands rows place row → (number < row.number) × (row.number ≤ next)

abbrev RowsRise : List Row → Type 0
RowsRise rows = (place other : ℕ) (row later : Row) → Stands rows place row → Stands rows other later → place < other → row.number < later.number

above_more : (number next : ℕ) (r : RowRound) (rs : List RowRound) → number ≤ next → Within number next r.rows → Numbered next rs
    → (round place : ℕ) (row : Row) → StandsIn (r ∷ rs) round place row → number < row.number
above_more number next r rs upto here rest zero place row stands = (here place row stands).0
above_more number next r rs upto here rest (suc round) place row stands = let least : next < row.number = rest.above round place row stands in omega (arith, least, upto)

rise_more : (number next : ℕ) (r : RowRound) (rs : List RowRound) → Within number next r.rows → RowsRise r.rows → Numbered next rs → NumbersRise (r ∷ rs)
rise_more number next r rs here rise rest zero place zero other row later stands there before = rise place other row later stands there (before_here place other before)
rise_more number next r rs here rise rest zero place (suc other_round) other row later stands there before =
    let least : next < later.number = rest.above other_round other later there in
    omega (arith, (here place row stands).1, least)
rise_more number next r rs here rise rest (suc round) place zero other row later stands there before = absurd (not_before round place other before)
rise_more number next r rs here rise rest (suc round) place (suc other_round) other row later stands there before =
    rest.rise round place other_round other row later stands there (before_in round place other_round other before)

numbered_more : (number next : ℕ) (r : RowRound) (rs : List RowRound) → number ≤ next → Within number next r.rows → RowsRise r.rows → Numbered next rs
    → Numbered number (r ∷ rs)
numbered_more number next r rs upto here rise rest =
    record { above = above_more number next r rs upto here rest; rise = rise_more number next r rs here rise rest }

-- a purge has no calls
purge_numbered : (number next moment : ℕ) (rs : List RowRound) → number ≤ next → Numbered next rs → Numbered number (purge_at moment ∷ rs)
purge_numbered number next moment rs upto rest = numbered_more number next (purge_at moment) rs upto (λ place row stands. absurd (none-some row stands))
    (λ place other row later stands. absurd (none-some row stands)) rest

round_numbered : (settings : Settings) (number : ℕ) (round : Round) (rs : List RowRound) → Rise number (handed_in round)
    → Numbered (last_number number (handed_in round)) rs → Numbered number (row_round settings round ∷ rs)
round_numbered settings number (answered calls outcomes) rs rise rest =
    numbered_more number (last_number number calls) (round_of (rows_of settings calls outcomes)) rs (rise_to number calls rise)
    (rows_above settings number calls outcomes rise) (rows_rise settings number calls outcomes rise) rest
round_numbered settings number (unanswered calls) rs rise rest =
    purge_numbered number (last_number number calls) (first_moment_of calls) rs (rise_to number calls rise) rest

-- the number of the last call, or this one if there is none
abbrev last_numbered : ℕ → List Round → ℕ
last_numbered number [] = number
last_numbered number (round ∷ rounds) = last_numbered (last_number number (handed_in round)) rounds

rounds_numbered : (settings : Settings) (number : ℕ) (rounds : List Round) (others : List Entry) (more : List RowRound) → Rise number (all_handed_in rounds ++ others)
    → (Rise (last_numbered number rounds) others → Numbered (last_numbered number rounds) more) → Numbered number (row_rounds settings rounds ++ more)
rounds_numbered settings number [] others more rise rest = rest rise
rounds_numbered settings number (r ∷ rs) others more rise rest =
    let cut = rise_cut number (handed_in r) (all_handed_in rs ++ others) (subst (Rise number) (append_assoc (handed_in r) (all_handed_in rs) others) rise) in
    round_numbered settings number r (row_rounds settings rs ++ more) cut.0 (rounds_numbered settings (last_number number (handed_in r)) rs others more cut.1 rest)

pub runs_numbered : (number moment : ℕ) (runs : List Run) → Rise number (calls_in runs) → Numbered number (rounds_in (row_runs moment runs))
runs_numbered number moment [] rise = record {
  above = λ round place row stands. absurd (none-some row stands);
  rise = λ round place other_round other row later stands. absurd (none-some row stands);
}
runs_numbered number moment (run ∷ runs) rise =
    rounds_numbered run.settings number run.rounds (calls_in runs) (purge_at (last_in moment run.rounds) ∷ rounds_in (row_runs (last_in moment run.rounds) runs)) rise
    (λ later. purge_numbered (last_numbered number run.rounds) (last_numbered number run.rounds) (last_in moment run.rounds)
    (rounds_in (row_runs (last_in moment run.rounds) runs)) (omega arith) (runs_numbered (last_numbered number run.rounds) (last_in moment run.rounds) runs later))
