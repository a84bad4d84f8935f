-- Days that are settled one after another, each over what is kept of those before it.
use Rattle.std.proofs.Common.{◌≡◌, ℕ, zero, suc, ◌≤◌, inl, inr, true, List, [], ◌∷◌, ◌++◌, Option, Some, None, refl, sym, ◌∙◌, ap, subst, arith, append_assoc, append-nil}
use Rattle.std.specs.Option.{option_or}
use Rattle.std.proofs.lemmas.Option.{none-some}
use Rattle.call_log.specs.Entry.{Entry}
use Rattle.log_rounds.specs.Day.{IsByItself, JudgedIn}
use Rattle.log_rounds.specs.Days.{AreApart, AreDaysAfter, Day, DaysAreLegal, DaysAreOne, IsSettledDay, day_rows, days_rows}
use Rattle.log_rounds.specs.Judge.{IsIn, JudgeConfig}
use Rattle.replay_law.specs.ByFirst.{AnsweredByFirst, AreFreshFrom, DayAfterDay, FirstIsLegal, HaveOneLast}
use Rattle.replay_law.specs.Row.{Row, Stands, Uses}
use Rattle.verify_rules.specs.Call.{Call}
use Rattle.verify_rules.specs.Rules.{Rule, early_rules, first}
use Rattle.verify_rules.specs.Signed.{IsKnownAgain, last_by}
use Rattle.verify_rules.specs.World.{First, World, late_rules}
use Rattle.verify_rules.specs.declared.refusal.Refusal.{Refusal}
use Rattle.verify_rules.specs.declared.settings.Settings.{Settings}
use Rattle.call_judging.specs.Judging.{last_second, ticket_or_none}
use Rattle.verify_service.specs.Judging.{EachPair, call_in}
use Rattle.verify_service.specs.Rows.{IsOwed, passes}
use Rattle.verify_service.specs.declared.outcome.Outcome.{Outcome}
use Rattle.verify_service.specs.declared.outcome.Outcome.TheVariants.{Valid, Refused, Replay, Unread, Unasked}
use Rattle.log_rounds.proofs.DayLaws.{judged_by}
use Rattle.log_rounds.proofs.LegalLaws.{OfCall, in_round, known_fresh, known_last, known_ticket}
use Rattle.log_rounds.proofs.RoundLaws.{point_as}
use Rattle.log_rounds.proofs.RunsLaws.{last_alike}

-- ---- a call that passes is known again

-- a call that breaks none of the first rules is known again,
abbrev pub KnownLaw : Type 0
KnownLaw = (call : Call) → first early_rules call ≡ None → IsKnownAgain call

-- and if none of all rules is broken, none of the first is
abbrev pub FirstLaw : Type 0
FirstLaw = (xs ys : List Rule) (call : Call) → first (xs ++ ys) call ≡ option_or (first xs call) (first ys call)

none_before : (here later : Option Refusal) → option_or here later ≡ None → here ≡ None
none_before None later e = refl
none_before (Some refused) later e = absurd (none-some refused (sym e))

none_early : FirstLaw → (world : World) (call : Call) → First world call ≡ None → first early_rules call ≡ None
none_early law world call none = none_before (first early_rules call) (first (late_rules world) call) (sym (law early_rules (late_rules world) call) ∙ none)

none_broken : (world : World) (settings : Settings) (entry : Entry) (outcome : Outcome) → JudgedIn world settings entry outcome → passes outcome ≡ true
    → First world (call_in settings entry) ≡ None
none_broken world settings entry Valid is p = is
none_broken world settings entry (Refused refused) is p = absurd (cc)
none_broken world settings entry (Replay winner) is p = is
none_broken world settings entry (Unread bad) is p = absurd (cc)
none_broken world settings entry (Unasked bad) is p = absurd (cc)

owed_by : KnownLaw → FirstLaw → (world : World) (settings : Settings) (entry : Entry) (outcome : Outcome) → IsByItself world settings entry outcome
    → IsOwed settings entry outcome
owed_by known law world settings entry outcome one p = known (call_in settings entry)
    (none_early law world (call_in settings entry) (none_broken world settings entry outcome (judged_by world settings entry outcome one.finding one.found one.comes) p))

-- ---- the call of a row

abbrev config_on : Day → JudgeConfig
config_on day = record { settings = day.settings; workers = 1 }

-- the row is that of a call of the day
abbrev OfCallOn : Day → Row → Type 0
OfCallOn day row = OfCall (config_on day) (IsOwed day.settings) day.calls row

pub all_owed : KnownLaw → FirstLaw → (window : ℕ) (day : Day) → IsSettledDay window day → EachPair (IsOwed day.settings) day.calls day.outcomes
all_owed known law window day is =
    point_as (IsByItself day.world day.settings) (IsOwed day.settings) day.calls day.outcomes (owed_by known law day.world day.settings) is.each

of_row : (day : Day) (place : ℕ) (row : Row) → EachPair (IsOwed day.settings) day.calls day.outcomes → Stands (day_rows day) place row → OfCallOn day row
of_row day place row owed stands = in_round (config_on day) (IsOwed day.settings) day.calls day.outcomes place row owed stands

known_row : (day : Day) (row : Row) → row.passes ≡ true → (f : OfCallOn day row) → IsKnownAgain (call_in day.settings f.call)
known_row day row p f = f.holds (sym (ap (λ (r : Row). r.passes) f.is) ∙ p)

-- ---- calls that pass are fresh, and none comes before the day

fresh_row : (day : Day) (row : Row) → row.passes ≡ true → OfCallOn day row → row.moment ≤ row.last
fresh_row day row p f =
    let moment : row.moment ≡ f.call.moment = ap (λ (r : Row). r.moment) f.is in
    let last : row.last ≡ last_second (call_in day.settings f.call) = ap (λ (r : Row). r.last) f.is in
    omega (arith, moment, last, known_fresh day.settings f.call (known_row day row p f))

from_row : (day : Day) (row : Row) → ((call : Entry) → IsIn call day.calls → day.moment ≤ call.moment) → OfCallOn day row → day.moment ≤ row.moment
from_row day row from f =
    let moment : row.moment ≡ f.call.moment = ap (λ (r : Row). r.moment) f.is in
    let least : day.moment ≤ f.call.moment = from f.call f.inside in
    omega (arith, moment, least)

pub fresh_from : (day : Day) → EachPair (IsOwed day.settings) day.calls day.outcomes → ((call : Entry) → IsIn call day.calls → day.moment ≤ call.moment)
    → AreFreshFrom day.moment (day_rows day)
fresh_from day owed from = record {
  fresh = λ place row stands p. fresh_row day row p (of_row day place row owed stands);
  from = λ place row stands. from_row day row from (of_row day place row owed stands);
}

-- ---- calls that pass with one ticket have one last second

pub record OfDay (seconds : ℕ) (days : List Day) (row : Row) : Type 0 where
  pub day : Day
  pub day_in : IsIn day days
  pub window : day.settings.past ≡ seconds
  pub of : OfCallOn day row

pub one_last : (window : ℕ) (days : List Day) → AreApart days → (row same : Row) → OfDay window days row → row.passes ≡ true → OfDay window days same → Uses row.ticket same
    → row.last ≡ same.last
one_last window days one row same f p g uses =
    let a = known_row f.day row p f.of in
    let b = known_row g.day same uses.passes g.of in
    let mine : Settings = f.day.settings in
    let yours : Settings = g.day.settings in
    let tickets : ticket_or_none (call_in mine f.of.call) ≡ ticket_or_none (call_in yours g.of.call) =
    sym (ap (λ (r : Row). r.ticket) f.of.is) ∙ sym uses.same ∙ ap (λ (r : Row). r.ticket) g.of.is in
    let inputs : a.signing ≡ b.signing = one f.day g.day f.of.call g.of.call a.signing b.signing f.day_in g.day_in f.of.inside g.of.inside a.signed b.signed
    (sym (known_ticket mine f.of.call a) ∙ tickets ∙ known_ticket yours g.of.call b) in
    ap (λ (r : Row). r.last) f.of.is ∙ known_last mine f.of.call a ∙ ap (last_by mine) inputs ∙ last_alike mine yours b.signing (f.window ∙ sym g.window)
    ∙ sym (known_last yours g.of.call b) ∙ sym (ap (λ (r : Row). r.last) g.of.is)

-- each of these rows is that of a call of one of the days
abbrev pub AreOfDays : ℕ → List Day → List Row → Type 0
AreOfDays window days rows = (place : ℕ) (row : Row) → Stands rows place row → OfDay window days row

pub are_of_day : (window : ℕ) (days : List Day) (day : Day) → IsSettledDay window day → IsIn day days → EachPair (IsOwed day.settings) day.calls day.outcomes
    → AreOfDays window days (day_rows day)
are_of_day window days day is inside owed place row stands = record { day = day; day_in = inside; window = is.window; of = of_row day place row owed stands }

have_one : (window : ℕ) (days : List Day) → AreApart days → (rows : List Row) → AreOfDays window days rows → HaveOneLast rows
have_one window days one rows are place other row same stands p there uses =
    one_last window days one row same (are place row stands) p (are other same there) uses

pub are_both : (window : ℕ) (days : List Day) (xs ys : List Row) → AreOfDays window days xs → AreOfDays window days ys → AreOfDays window days (xs ++ ys)
are_both window days [] ys mine theirs place row stands = theirs place row stands
are_both window days (x ∷ xs) ys mine theirs zero row stands = mine zero row stands
are_both window days (x ∷ xs) ys mine theirs (suc place) row stands = are_both window days xs ys (λ p r s. mine (suc p) r s) theirs place row stands

-- ---- one day more

none_answered : AnsweredByFirst []
none_answered = record {
  refused = λ place row stands p. absurd (none-some row stands);
  first = λ place row is. absurd (none-some row is.stands);
  later = λ place other winner row is stands p less. absurd (none-some row stands);
}

days_on : DayAfterDay → KnownLaw → FirstLaw → (window : ℕ) (days : List Day) → AreApart days → (before : List Row) (others : List Day)
    → ((day : Day) → IsIn day others → IsIn day days) → AreOfDays window days before → AnsweredByFirst before → AreDaysAfter window before others
    → AnsweredByFirst (before ++ days_rows others)
days_on law known early window days one before [] inside of by are = subst AnsweredByFirst (sym (append-nil before)) by
days_on law known early window days one before (day ∷ others) inside of by (is, are) =
    let owed = all_owed known early window day is.settled in
    let today = are_of_day window days day is.settled (inside day (inl refl)) owed in
    let both = are_both window days before (day_rows day) of today in
    let now : AnsweredByFirst (before ++ day_rows day) = law day.moment day.held before (day_rows day) by is.kept is.settled.after
    (fresh_from day owed is.settled.from) (have_one window days one (before ++ day_rows day) both) in
    subst AnsweredByFirst (append_assoc before (day_rows day) (days_rows others))
    (days_on law known early window days one (before ++ day_rows day) others (λ other i. inside other (inr i)) both now are)

pub days_are_one : DayAfterDay → KnownLaw → FirstLaw → DaysAreOne
days_are_one law known early window days are one =
    days_on law known early window days one [] days (λ day i. i) (λ place row stands. absurd (none-some row stands)) none_answered are

pub days_are_legal : FirstIsLegal → DayAfterDay → KnownLaw → FirstLaw → DaysAreLegal
days_are_legal legal law known early window days rounds are one cut =
    legal rounds (subst AnsweredByFirst (sym cut) (days_are_one law known early window days are one))
