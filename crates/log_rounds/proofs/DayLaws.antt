-- A log that is judged call by call and settled by its tickets alone.
use Rattle.std.proofs.Common.{◌≡◌, ◌||◌, Bool, true, false, List, [], ◌∷◌, ◌++◌, Some, None, ◌⊎◌, inl, inr, refl, sym, ◌∙◌, ap, subst}
use Rattle.std.specs.Bool.{⊤}
use Rattle.std.specs.List.{list_any}
use Rattle.std.proofs.lemmas.Option.{none-some, same_Some}
use Rattle.call_log.specs.Entry.{Entry}
use Rattle.log_rounds.specs.Day.{AreCounted, DayIsLegal, DayIsReport, IsByItself, JudgedIn}
use Rattle.log_rounds.specs.Judge.{JudgeConfig}
use Rattle.log_rounds.specs.Rounds.{InEach, Round, calls_in, outcomes_in, row_rounds}
use Rattle.replay_law.specs.ByFirst.{AnsweredByFirst, AreAnsweredAlike, AreSameCalls, FirstIsLegal, LegalIsFirst, OneByFirst, rows_in}
use Rattle.verify_rules.specs.World.{World, First}
use Rattle.verify_rules.specs.declared.refusal.Refusal.{Refusal}
use Rattle.verify_rules.specs.declared.settings.Settings.{Settings}
use Rattle.verify_service.specs.Causes.{NoneUnasked, NoneUnread, is_unasked, is_unread}
use Rattle.call_judging.specs.Judging.{IsFound}
use Rattle.verify_service.specs.Judging.{ComesOf, EachPair, call_in}
use Rattle.verify_service.specs.Rows.{answer_of, passes, row_of, rows_of}
use Rattle.call_judging.specs.declared.finding.Finding.{Finding}
use Rattle.call_judging.specs.declared.finding.Finding.TheVariants as found
use Rattle.verify_service.specs.declared.outcome.Outcome.{Outcome}
use Rattle.verify_service.specs.declared.outcome.Outcome.TheVariants.{Valid, Refused, Replay, Unread, Unasked}

-- ---- a call by itself, and as it is judged among others

pub judged_by : (world : World) (settings : Settings) (entry : Entry) (outcome : Outcome) (finding : Finding) → IsFound world (call_in settings entry) finding
    → ComesOf finding outcome → JudgedIn world settings entry outcome
judged_by world settings entry outcome (found.Refused refused) is comes = subst (JudgedIn world settings entry) (sym comes) is
judged_by world settings entry outcome (found.Unread bad) is comes = subst (JudgedIn world settings entry) (sym comes) is
judged_by world settings entry outcome (found.Unasked bad) is comes = subst (JudgedIn world settings entry) (sym comes) is
judged_by world settings entry Valid (found.Passes pass) is comes = is
judged_by world settings entry (Refused refused) (found.Passes pass) is comes = absurd comes
judged_by world settings entry (Replay winner) (found.Passes pass) is comes = is
judged_by world settings entry (Unread bad) (found.Passes pass) is comes = absurd comes
judged_by world settings entry (Unasked bad) (found.Passes pass) is comes = absurd comes

all_judged : (world : World) (settings : Settings) (calls : List Entry) (outcomes : List Outcome) → EachPair (IsByItself world settings) calls outcomes
    → EachPair (JudgedIn world settings) calls outcomes
all_judged world settings [] [] each = each
all_judged world settings [] (o ∷ outcomes) each = absurd each
all_judged world settings (c ∷ calls) [] each = absurd each
all_judged world settings (c ∷ calls) (o ∷ outcomes) (one, others) =
    (judged_by world settings c o one.finding one.found one.comes, all_judged world settings calls outcomes others)

-- ---- the cut into rounds

-- what holds of each of all calls holds of those of the first round, and of those after it
of_first : (P : Entry → Outcome → Type 0) (calls more : List Entry) (outcomes later : List Outcome) → EachPair (λ entry outcome. ⊤) calls outcomes
    → EachPair P (calls ++ more) (outcomes ++ later) → EachPair P calls outcomes × EachPair P more later
of_first P [] more [] later counted each = (counted, each)
of_first P [] more (o ∷ outcomes) later counted each = absurd counted
of_first P (c ∷ calls) more [] later counted each = absurd counted
of_first P (c ∷ calls) more (o ∷ outcomes) later (one, counted) (here, each) =
    let (first, rest) = of_first P calls more outcomes later counted each in
    ((here, first), rest)

in_rounds : (P : Entry → Outcome → Type 0) (rounds : List Round) → AreCounted rounds → EachPair P (calls_in rounds) (outcomes_in rounds) → InEach P rounds
in_rounds P [] counted each = counted
in_rounds P (r ∷ rounds) (one, counted) each =
    let (first, rest) = of_first P r.calls (calls_in rounds) r.outcomes (outcomes_in rounds) one each in
    (first, in_rounds P rounds counted rest)

counted_by : (P : Entry → Outcome → Type 0) (calls : List Entry) (outcomes : List Outcome) → EachPair P calls outcomes → EachPair (λ entry outcome. ⊤) calls outcomes
counted_by P [] [] each = each
counted_by P [] (o ∷ outcomes) each = absurd each
counted_by P (c ∷ calls) [] each = absurd each
counted_by P (c ∷ calls) (o ∷ outcomes) each = (tt, counted_by P calls outcomes each.1)

all_counted : (P : Entry → Outcome → Type 0) (rounds : List Round) → InEach P rounds → AreCounted rounds
all_counted P [] each = each
all_counted P (r ∷ rounds) each = (counted_by P r.calls r.outcomes each.0, all_counted P rounds each.1)

-- the rows of all rounds are those of all calls
rows_join : (settings : Settings) (calls more : List Entry) (outcomes later : List Outcome) → EachPair (λ entry outcome. ⊤) calls outcomes
    → rows_of settings calls outcomes ++ rows_of settings more later ≡ rows_of settings (calls ++ more) (outcomes ++ later)
rows_join settings [] more [] later counted = refl
rows_join settings [] more (o ∷ outcomes) later counted = absurd counted
rows_join settings (c ∷ calls) more [] later counted = absurd counted
rows_join settings (c ∷ calls) more (o ∷ outcomes) later counted =
    ap (λ rows. row_of settings c o ∷ rows) (rows_join settings calls more outcomes later counted.1)

all_rows : (config : JudgeConfig) (rounds : List Round) → AreCounted rounds
    → rows_in (row_rounds config rounds) ≡ rows_of config.settings (calls_in rounds) (outcomes_in rounds)
all_rows config [] counted = refl
all_rows config (r ∷ rounds) counted =
    ap (λ rows. rows_of config.settings r.calls r.outcomes ++ rows) (all_rows config rounds counted.1)
    ∙ rows_join config.settings r.calls (calls_in rounds) r.outcomes (outcomes_in rounds) counted.0

pub day_is_legal : FirstIsLegal → DayIsLegal
day_is_legal law world config rounds counted day =
    let (legal, first) = law (row_rounds config rounds) (subst AnsweredByFirst (sym (all_rows config rounds counted)) day.first) in
    let judged = all_judged world config.settings (calls_in rounds) (outcomes_in rounds) day.each in
    (record { each = in_rounds (JudgedIn world config.settings) rounds counted judged; once = legal }, first)

-- ---- the same calls, judged in rounds and as a day

-- what a call that isn't set aside has: no rule is broken and it passes, or it is refused by the first that it breaks
abbrev Settles : World → Settings → Entry → Outcome → Type 0
Settles world settings entry outcome =
    ((First world (call_in settings entry) ≡ None) × (passes outcome ≡ true))
    ⊎ ((refused : Refusal) × (First world (call_in settings entry) ≡ Some refused) × (outcome ≡ Refused refused))

settles : (world : World) (settings : Settings) (entry : Entry) (outcome : Outcome) → JudgedIn world settings entry outcome → is_unread outcome ≡ false
    → is_unasked outcome ≡ false → Settles world settings entry outcome
settles world settings entry Valid is read asked = inl (is, refl)
settles world settings entry (Refused refused) is read asked = inr (refused, is, refl)
settles world settings entry (Replay winner) is read asked = inl (is, refl)
settles world settings entry (Unread bad) is read asked = absurd (cc)
settles world settings entry (Unasked bad) is read asked = absurd (cc)

-- so it passes in both or in neither,
same_passes : (world : World) (settings : Settings) (entry : Entry) (outcome other : Outcome) → Settles world settings entry outcome → Settles world settings entry other
    → passes outcome ≡ passes other
same_passes world settings entry outcome other (inl (none, mine)) (inl (also, theirs)) = mine ∙ sym theirs
same_passes world settings entry outcome other (inl (none, mine)) (inr (refused, is, e)) = absurd (none-some refused (sym none ∙ is))
same_passes world settings entry outcome other (inr (refused, is, e)) (inl (none, theirs)) = absurd (none-some refused (sym none ∙ is))
same_passes world settings entry outcome other (inr (refused, is, e)) (inr (also, there, f)) = ap passes e ∙ sym (ap passes f)

-- and if it is answered alike, its outcomes are one
alike_passing : (outcome other : Outcome) → passes outcome ≡ true → passes other ≡ true → answer_of outcome ≡ answer_of other → outcome ≡ other
alike_passing Valid Valid mine theirs alike = refl
alike_passing Valid (Replay winner) mine theirs alike = absurd (cc)
alike_passing (Replay winner) Valid mine theirs alike = absurd (cc)
alike_passing (Replay winner) (Replay same) mine theirs alike = let e : winner ≡ same = cc in ap Replay e
alike_passing (Refused refused) other mine theirs alike = absurd (cc)
alike_passing (Unread bad) other mine theirs alike = absurd (cc)
alike_passing (Unasked bad) other mine theirs alike = absurd (cc)
alike_passing Valid (Refused refused) mine theirs alike = absurd (cc)
alike_passing Valid (Unread bad) mine theirs alike = absurd (cc)
alike_passing Valid (Unasked bad) mine theirs alike = absurd (cc)
alike_passing (Replay winner) (Refused refused) mine theirs alike = absurd (cc)
alike_passing (Replay winner) (Unread bad) mine theirs alike = absurd (cc)
alike_passing (Replay winner) (Unasked bad) mine theirs alike = absurd (cc)

one_outcome : (world : World) (settings : Settings) (entry : Entry) (outcome other : Outcome) → Settles world settings entry outcome → Settles world settings entry other
    → answer_of outcome ≡ answer_of other → outcome ≡ other
one_outcome world settings entry outcome other (inl (none, mine)) (inl (also, theirs)) alike = alike_passing outcome other mine theirs alike
one_outcome world settings entry outcome other (inl (none, mine)) (inr (refused, is, e)) alike = absurd (none-some refused (sym none ∙ is))
one_outcome world settings entry outcome other (inr (refused, is, e)) (inl (none, theirs)) alike = absurd (none-some refused (sym none ∙ is))
one_outcome world settings entry outcome other (inr (refused, is, e)) (inr (also, there, f)) alike =
    let same : refused ≡ also = same_Some refused also (sym is ∙ there) in
    e ∙ (ap Refused same ∙ sym f)

-- none of several is set aside
neither_of : (a b : Bool) → (a || b) ≡ false → (a ≡ false) × (b ≡ false)
neither_of false b e = (refl, e)
neither_of true b e = absurd (cc)

all_settle : (world : World) (settings : Settings) (calls : List Entry) (outcomes : List Outcome) → EachPair (JudgedIn world settings) calls outcomes
    → NoneUnread outcomes → NoneUnasked outcomes → EachPair (Settles world settings) calls outcomes
all_settle world settings [] [] each read asked = each
all_settle world settings [] (o ∷ outcomes) each read asked = absurd each
all_settle world settings (c ∷ calls) [] each read asked = absurd each
all_settle world settings (c ∷ calls) (o ∷ outcomes) each read asked =
    let (is_read, read_on) = neither_of (is_unread o) (list_any is_unread outcomes) read in
    let (is_asked, asked_on) = neither_of (is_unasked o) (list_any is_unasked outcomes) asked in
    (settles world settings c o each.0 is_read is_asked, all_settle world settings calls outcomes each.1 read_on asked_on)

same_calls : (world : World) (settings : Settings) (calls : List Entry) (outcomes others : List Outcome) → EachPair (Settles world settings) calls outcomes
    → EachPair (Settles world settings) calls others → AreSameCalls (rows_of settings calls outcomes) (rows_of settings calls others)
same_calls world settings [] [] [] mine theirs = mine
same_calls world settings [] (o ∷ outcomes) others mine theirs = absurd mine
same_calls world settings [] [] (p ∷ others) mine theirs = absurd theirs
same_calls world settings (c ∷ calls) [] others mine theirs = absurd mine
same_calls world settings (c ∷ calls) (o ∷ outcomes) [] mine theirs = absurd theirs
same_calls world settings (c ∷ calls) (o ∷ outcomes) (p ∷ others) mine theirs =
    (record { number = refl; ticket = refl; passes = same_passes world settings c o p mine.0 theirs.0 }, same_calls world settings calls outcomes others mine.1 theirs.1)

one_list : (world : World) (settings : Settings) (calls : List Entry) (outcomes others : List Outcome) → EachPair (Settles world settings) calls outcomes
    → EachPair (Settles world settings) calls others → AreAnsweredAlike (rows_of settings calls outcomes) (rows_of settings calls others) → outcomes ≡ others
one_list world settings [] [] [] mine theirs alike = refl
one_list world settings [] (o ∷ outcomes) others mine theirs alike = absurd mine
one_list world settings [] [] (p ∷ others) mine theirs alike = absurd theirs
one_list world settings (c ∷ calls) [] others mine theirs alike = absurd mine
one_list world settings (c ∷ calls) (o ∷ outcomes) [] mine theirs alike = absurd theirs
one_list world settings (c ∷ calls) (o ∷ outcomes) (p ∷ others) mine theirs alike =
    ap (λ one. one ∷ outcomes) (one_outcome world settings c o p mine.0 theirs.0 alike.0)
    ∙ ap (λ more. p ∷ more) (one_list world settings calls outcomes others mine.1 theirs.1 alike.1)

-- what holds in each round holds of all calls
of_all : (P : Entry → Outcome → Type 0) (rounds : List Round) → InEach P rounds → EachPair P (calls_in rounds) (outcomes_in rounds)
of_all P [] each = tt
of_all P (r ∷ rounds) each = joined P r.calls (calls_in rounds) r.outcomes (outcomes_in rounds) each.0 (of_all P rounds each.1) where
  joined : (P : Entry → Outcome → Type 0) (calls more : List Entry) (outcomes later : List Outcome) → EachPair P calls outcomes → EachPair P more later
      → EachPair P (calls ++ more) (outcomes ++ later)
  joined P [] more [] later here rest = rest
  joined P [] more (o ∷ outcomes) later here rest = absurd here
  joined P (c ∷ calls) more [] later here rest = absurd here
  joined P (c ∷ calls) more (o ∷ outcomes) later here rest = (here.0, joined P calls more outcomes later here.1 rest)

pub day_is_report : LegalIsFirst → OneByFirst → DayIsReport
day_is_report law one world config rounds outcomes legal first read asked read_day asked_day day =
    let settings = config.settings in
    let calls = calls_in rounds in
    let rounds_first : AnsweredByFirst (rows_of settings calls (outcomes_in rounds)) =
    subst AnsweredByFirst (all_rows config rounds (all_counted (JudgedIn world settings) rounds legal.each)) (law (row_rounds config rounds) legal.once first) in
    let mine = all_settle world settings calls outcomes (all_judged world settings calls outcomes day.each) read_day asked_day in
    let theirs = all_settle world settings calls (outcomes_in rounds) (of_all (JudgedIn world settings) rounds legal.each) read asked in
    one_list world settings calls outcomes (outcomes_in rounds) mine theirs
    (one (rows_of settings calls outcomes) (rows_of settings calls (outcomes_in rounds)) (same_calls world settings calls outcomes (outcomes_in rounds) mine theirs) day.first rounds_first)
