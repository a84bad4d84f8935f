-- Two lists of outcomes of the same calls, by worlds in which each call breaks the same rule first, are one list.
use Rattle.std.proofs.Common.{◌≡◌, ℕ, zero, suc, ◌+◌, ◌≤◌, Bool, false, ◌||◌, List, [], ◌∷◌, ◌++◌, length, Some, None, refl, sym, ◌∙◌, ap, arith, subst}
use Rattle.std.specs.Prelude.{⊤}
use Rattle.std.specs.List.{list_any}
use Rattle.std.proofs.lemmas.Bool.{or_parts}
use Rattle.std.proofs.lemmas.List.{append-nil, length-append}
use Rattle.std.proofs.lemmas.Option.{none-some, same_Some}
use Rattle.call_log.specs.Entry.{Entry}
use Rattle.log_rounds.specs.Judge.{JudgeConfig}
use Rattle.log_rounds.specs.Rounds.{InEach, IsCut, Round, calls_in, outcomes_in, row_rounds}
use Rattle.replay_law.specs.Law.{HasEach, IsSameCall}
use Rattle.replay_law.specs.Log.{StandsIn}
use Rattle.replay_law.specs.Row.{Row, Stands}
use Rattle.verify_rules.specs.World.{First, World}
use Rattle.verify_rules.specs.declared.settings.Settings.{Settings}
use Rattle.verify_service.specs.Causes.{NoneUnasked, NoneUnread, is_unasked, is_unread}
use Rattle.verify_service.specs.Judging.{EachPair, call_in}
use Rattle.verify_service.specs.Rows.{answer_of, passes, row_of, rows_of}
use Rattle.verify_service.specs.declared.outcome.Outcome.{Outcome}
use Rattle.verify_service.specs.declared.outcome.Outcome.TheVariants.{Valid, Refused, Replay, Unread, Unasked}
use Rattle.log_rounds.specs.Answers.{Answers}

-- ---- the cut

-- the calls of the one are those of the other, round by round
abbrev pub SameCalls : List Round → List Round → Type 0
SameCalls [] [] = ⊤
SameCalls [] (other ∷ others) = ⊥
SameCalls (round ∷ rounds) [] = ⊥
SameCalls (round ∷ rounds) (other ∷ others) = (round.calls ≡ other.calls) × SameCalls rounds others

pub some_calls : (round : Round) (rounds : List Round) → IsCut (round ∷ rounds) → 1 ≤ length round.calls
some_calls round [] cut = cut.0
some_calls round (next ∷ rounds) cut = let full = cut.0 in omega (arith, full)

no_calls : (round : Round) (rounds : List Round) → IsCut (round ∷ rounds) → [] ≡ calls_in (round ∷ rounds) → ⊥
no_calls round rounds cut none =
    let some = some_calls round rounds cut in
    let count : 0 ≡ length round.calls + length (calls_in rounds) = ap length none ∙ length-append round.calls (calls_in rounds) in
    omega (arith, some, count)

-- two lists that go on from parts of one length are the same in both parts
pub same_parts : {X : Type 0} (xs ys more others : List X) → length xs ≡ length ys → xs ++ more ≡ ys ++ others → (xs ≡ ys) × (more ≡ others)
same_parts [] [] more others lengths same = (refl, same)
same_parts [] (y ∷ ys) more others lengths same = absurd (cc)
same_parts (x ∷ xs) [] more others lengths same = absurd (cc)
same_parts (x ∷ xs) (y ∷ ys) more others lengths same =
    let first : x ≡ y = cc in
    let rest : xs ++ more ≡ ys ++ others = cc in
    let shorter : length xs ≡ length ys = omega (arith, lengths) in
    let parts = same_parts xs ys more others shorter rest in
    (ap (λ z. z ∷ xs) first ∙ ap (λ zs. y ∷ zs) parts.0, parts.1)

-- a round that is the last has too few calls for two
too_few : (round other next : Round) (others : List Round) → length round.calls ≤ 256 → IsCut (other ∷ next ∷ others)
    → calls_in (round ∷ []) ≡ calls_in (other ∷ next ∷ others) → ⊥
too_few round other next others few cut same =
    let some = some_calls next others cut.1 in
    let full = cut.0 in
    let mine : length (calls_in (round ∷ [])) ≡ length round.calls = ap length (append-nil round.calls) in
    let yours : length (calls_in (other ∷ next ∷ others)) ≡ length other.calls + length (calls_in (next ∷ others)) = length-append other.calls (calls_in (next ∷ others)) in
    let later : length (calls_in (next ∷ others)) ≡ length next.calls + length (calls_in others) = length-append next.calls (calls_in others) in
    let both : length (calls_in (round ∷ [])) ≡ length (calls_in (other ∷ next ∷ others)) = ap length same in
    omega (arith, some, full, few, mine, yours, later, both)

pub same_cut : (rounds others : List Round) → IsCut rounds → IsCut others → calls_in rounds ≡ calls_in others → SameCalls rounds others
same_cut [] [] cut cut_other same = tt
same_cut [] (other ∷ others) cut cut_other same = no_calls other others cut_other same
same_cut (round ∷ rounds) [] cut cut_other same = no_calls round rounds cut (sym same)
same_cut (round ∷ []) (other ∷ []) cut cut_other same = (sym (append-nil round.calls) ∙ same ∙ append-nil other.calls, tt)
same_cut (round ∷ []) (other ∷ next ∷ others) cut cut_other same = absurd (too_few round other next others cut.1 cut_other same)
same_cut (round ∷ next ∷ rounds) (other ∷ []) cut cut_other same = absurd (too_few other round next rounds cut_other.1 cut (sym same))
same_cut (round ∷ next ∷ rounds) (other ∷ more ∷ others) cut cut_other same =
    let parts = same_parts round.calls other.calls (calls_in (next ∷ rounds)) (calls_in (more ∷ others)) (cut.0 ∙ sym cut_other.0) same in
    (parts.0, same_cut (next ∷ rounds) (more ∷ others) cut.1 cut_other.1 parts.1)

-- ---- the outcomes of a call

-- both pass, or neither; and they are one if the replay rule answers the same
pub record AreAlike (outcome other : Outcome) : Type 0 where
  pub same_passes : passes outcome ≡ passes other
  pub decided : answer_of outcome ≡ answer_of other → outcome ≡ other

turned : (outcome other : Outcome) → AreAlike outcome other → AreAlike other outcome
turned outcome other alike = record { same_passes = sym alike.same_passes; decided = λ same. sym (alike.decided (sym same)) }

-- what the rules say of the call decides, if it isn't set aside
pub outcomes_of : (world other : World) (settings : Settings) (entry : Entry) (mine yours : Outcome) → First world (call_in settings entry) ≡ First other (call_in settings entry)
    → Answers world settings entry mine → Answers other settings entry yours → is_unread mine ≡ false → is_unasked mine ≡ false → is_unread yours ≡ false
    → is_unasked yours ≡ false → AreAlike mine yours
outcomes_of world other settings entry Valid Valid same a b u v x y = record { same_passes = refl; decided = λ e. refl }
outcomes_of world other settings entry Valid (Refused refused) same a b u v x y =
    let mine = a.judged in let yours = b.judged in let both : None ≡ Some refused = sym mine ∙ same ∙ yours in absurd (cc)
outcomes_of world other settings entry Valid (Replay winner) same a b u v x y = record { same_passes = refl; decided = λ e. absurd (cc) }
outcomes_of world other settings entry (Refused refused) Valid same a b u v x y =
    let mine = a.judged in let yours = b.judged in let both : Some refused ≡ None = sym mine ∙ same ∙ yours in absurd (cc)
outcomes_of world other settings entry (Refused refused) (Refused bad) same a b u v x y =
    let mine = a.judged in let yours = b.judged in
    record { same_passes = refl; decided = λ e. ap Refused (same_Some refused bad (sym mine ∙ same ∙ yours)) }
outcomes_of world other settings entry (Refused refused) (Replay winner) same a b u v x y =
    let mine = a.judged in let yours = b.judged in let both : Some refused ≡ None = sym mine ∙ same ∙ yours in absurd (cc)
outcomes_of world other settings entry (Replay winner) Valid same a b u v x y = record { same_passes = refl; decided = λ e. absurd (cc) }
outcomes_of world other settings entry (Replay winner) (Refused refused) same a b u v x y =
    let mine = a.judged in let yours = b.judged in let both : None ≡ Some refused = sym mine ∙ same ∙ yours in absurd (cc)
outcomes_of world other settings entry (Replay winner) (Replay first) same a b u v x y =
    record { same_passes = refl; decided = λ e. let numbers : winner ≡ first = cc in ap Replay numbers }
outcomes_of world other settings entry (Unread bad) yours same a b u v x y = absurd (cc)
outcomes_of world other settings entry (Unasked bad) yours same a b u v x y = absurd (cc)
outcomes_of world other settings entry Valid (Unread bad) same a b u v x y = absurd (cc)
outcomes_of world other settings entry (Refused refused) (Unread bad) same a b u v x y = absurd (cc)
outcomes_of world other settings entry (Replay winner) (Unread bad) same a b u v x y = absurd (cc)
outcomes_of world other settings entry Valid (Unasked bad) same a b u v x y = absurd (cc)
outcomes_of world other settings entry (Refused refused) (Unasked bad) same a b u v x y = absurd (cc)
outcomes_of world other settings entry (Replay winner) (Unasked bad) same a b u v x y = absurd (cc)

-- ---- the outcomes of a round

-- none of them is set aside
pub record NoneAside (outcomes : List Outcome) : Type 0 where
  pub read : NoneUnread outcomes
  pub asked : NoneUnasked outcomes

abbrev pub AllAlike : List Outcome → List Outcome → Type 0
AllAlike [] [] = ⊤
AllAlike [] (other ∷ others) = ⊥
AllAlike (outcome ∷ outcomes) [] = ⊥
AllAlike (outcome ∷ outcomes) (other ∷ others) = AreAlike outcome other × AllAlike outcomes others

all_turned : (outcomes others : List Outcome) → AllAlike outcomes others → AllAlike others outcomes
all_turned [] [] alike = tt
all_turned [] (other ∷ others) alike = alike
all_turned (outcome ∷ outcomes) [] alike = alike
all_turned (outcome ∷ outcomes) (other ∷ others) (here, more) = (turned outcome other here, all_turned outcomes others more)

-- of the first of them, and of the others
pub first_aside : (outcome : Outcome) (outcomes : List Outcome) → NoneAside (outcome ∷ outcomes) → (is_unread outcome ≡ false) × (is_unasked outcome ≡ false) × NoneAside outcomes
first_aside outcome outcomes none =
    let read = or_parts (is_unread outcome) (list_any is_unread outcomes) none.read in
    let asked = or_parts (is_unasked outcome) (list_any is_unasked outcomes) none.asked in
    (read.0, asked.0, record { read = read.1; asked = asked.1 })

pub all_alike : (world other : World) (settings : Settings) → ((entry : Entry) → First world (call_in settings entry) ≡ First other (call_in settings entry))
    → (calls : List Entry) (mine yours : List Outcome) → EachPair (Answers world settings) calls mine → EachPair (Answers other settings) calls yours
    → NoneAside mine → NoneAside yours → AllAlike mine yours
all_alike world other settings same [] [] [] a b none none_other = tt
all_alike world other settings same [] (mine ∷ more) yours a b none none_other = absurd a
all_alike world other settings same [] [] (yours ∷ others) a b none none_other = absurd b
all_alike world other settings same (call ∷ calls) [] yours a b none none_other = absurd a
all_alike world other settings same (call ∷ calls) (mine ∷ more) [] a b none none_other = absurd b
all_alike world other settings same (call ∷ calls) (mine ∷ more) (yours ∷ others) a b none none_other =
    let (read, asked, rest) = first_aside mine more none in
    let (read_other, asked_other, rest_other) = first_aside yours others none_other in (
      outcomes_of world other settings call mine yours (same call) a.0 b.0 read asked read_other asked_other,
      all_alike world other settings same calls more others a.1 b.1 rest rest_other,
    )

-- each row of the one has the row of the same call in the other
rows_alike : (settings : Settings) (calls : List Entry) (mine yours : List Outcome) → AllAlike mine yours → (place : ℕ) (row : Row)
    → Stands (rows_of settings calls mine) place row → (other : Row) × Stands (rows_of settings calls yours) place other × IsSameCall row other
rows_alike settings [] mine yours alike place row stands = absurd (none-some row stands)
rows_alike settings (call ∷ calls) [] [] alike place row stands = absurd (none-some row stands)
rows_alike settings (call ∷ calls) [] (yours ∷ others) alike place row stands = absurd alike
rows_alike settings (call ∷ calls) (mine ∷ more) [] alike place row stands = absurd alike
rows_alike settings (call ∷ calls) (mine ∷ more) (yours ∷ others) (here, later) zero row stands =
    let is : row_of settings call mine ≡ row = same_Some (row_of settings call mine) row stands in
    (row_of settings call yours, refl, subst (λ (r : Row). IsSameCall r (row_of settings call yours)) is (record { number = refl; ticket = refl; passes = here.same_passes }))
rows_alike settings (call ∷ calls) (mine ∷ more) (yours ∷ others) (here, later) (suc place) row stands = rows_alike settings calls more others later place row stands

-- if each call has one answer of the replay rule, it has one outcome
abbrev pub OneEach : Settings → List Entry → List Outcome → List Outcome → Type 0
OneEach settings calls mine yours = (place : ℕ) (row other : Row) → Stands (rows_of settings calls mine) place row → Stands (rows_of settings calls yours) place other
    → row.answer ≡ other.answer

pub same_outcomes : (world other : World) (settings : Settings) (calls : List Entry) (mine yours : List Outcome) → EachPair (Answers world settings) calls mine
    → EachPair (Answers other settings) calls yours → AllAlike mine yours → OneEach settings calls mine yours → mine ≡ yours
same_outcomes world other settings [] [] [] a b alike one = refl
same_outcomes world other settings [] (mine ∷ more) yours a b alike one = absurd a
same_outcomes world other settings [] [] (yours ∷ others) a b alike one = absurd b
same_outcomes world other settings (call ∷ calls) [] yours a b alike one = absurd a
same_outcomes world other settings (call ∷ calls) (mine ∷ more) [] a b alike one = absurd b
same_outcomes world other settings (call ∷ calls) (mine ∷ more) (yours ∷ others) a b (here, later) one =
    let first : mine ≡ yours = here.decided (one 0 (row_of settings call mine) (row_of settings call yours) refl refl) in
    let rest : more ≡ others = same_outcomes world other settings calls more others a.1 b.1 later (λ place. one (suc place)) in
    ap (λ outcome. outcome ∷ more) first ∙ ap (λ outcomes. yours ∷ outcomes) rest

-- ---- the outcomes of all rounds

abbrev pub RoundsAlike : List Round → List Round → Type 0
RoundsAlike [] [] = ⊤
RoundsAlike [] (other ∷ others) = ⊥
RoundsAlike (round ∷ rounds) [] = ⊥
RoundsAlike (round ∷ rounds) (other ∷ others) = (round.calls ≡ other.calls) × AllAlike round.outcomes other.outcomes × RoundsAlike rounds others

pub rounds_turned : (rounds others : List Round) → RoundsAlike rounds others → RoundsAlike others rounds
rounds_turned [] [] alike = tt
rounds_turned [] (other ∷ others) alike = alike
rounds_turned (round ∷ rounds) [] alike = alike
rounds_turned (round ∷ rounds) (other ∷ others) (calls, here, more) = (sym calls, all_turned round.outcomes other.outcomes here, rounds_turned rounds others more)

-- of a list and another after it
any_left : (test : Outcome → Bool) (xs ys : List Outcome) → list_any test (xs ++ ys) ≡ false → (list_any test xs ≡ false) × (list_any test ys ≡ false)
any_left test [] ys none = (refl, none)
any_left test (x ∷ xs) ys none =
    let here = or_parts (test x) (list_any test (xs ++ ys)) none in
    let more = any_left test xs ys here.1 in
    (ap (λ t. t || list_any test xs) here.0 ∙ more.0, more.1)

pub parts_aside : (xs ys : List Outcome) → NoneAside (xs ++ ys) → NoneAside xs × NoneAside ys
parts_aside xs ys none =
    let read = any_left is_unread xs ys none.read in
    let asked = any_left is_unasked xs ys none.asked in
    (record { read = read.0; asked = asked.0 }, record { read = read.1; asked = asked.1 })

pub rounds_alike : (world other : World) (settings : Settings) → ((entry : Entry) → First world (call_in settings entry) ≡ First other (call_in settings entry))
    → (rounds others : List Round) → SameCalls rounds others → InEach (Answers world settings) rounds → InEach (Answers other settings) others
    → NoneAside (outcomes_in rounds) → NoneAside (outcomes_in others) → RoundsAlike rounds others
rounds_alike world other settings same [] [] calls a b none none_other = tt
rounds_alike world other settings same [] (next ∷ others) calls a b none none_other = calls
rounds_alike world other settings same (round ∷ rounds) [] calls a b none none_other = calls
rounds_alike world other settings same (round ∷ rounds) (next ∷ others) (here, later) a b none none_other =
    let parts = parts_aside round.outcomes (outcomes_in rounds) none in
    let parts_other = parts_aside next.outcomes (outcomes_in others) none_other in (
      here,
      all_alike world other settings same round.calls round.outcomes next.outcomes a.0 (subst (λ calls. EachPair (Answers other settings) calls next.outcomes) (sym here) b.0) parts.0 parts_other.0,
      rounds_alike world other settings same rounds others later a.1 b.1 parts.1 parts_other.1,
    )

-- the same calls are in both
pub has_each : (config : JudgeConfig) (rounds others : List Round) → RoundsAlike rounds others → HasEach (row_rounds config rounds) (row_rounds config others)
has_each config [] [] alike round place row stands = absurd (none-some row stands)
has_each config [] (next ∷ others) alike round place row stands = absurd alike
has_each config (here ∷ rounds) [] alike round place row stands = absurd alike
has_each config (here ∷ rounds) (next ∷ others) (calls, alike, more) zero place row stands =
    let (other, there, same) = rows_alike config.settings here.calls here.outcomes next.outcomes alike place row stands in
    (other, subst (λ calls. Stands (rows_of config.settings calls next.outcomes) place other) calls there, same)
has_each config (here ∷ rounds) (next ∷ others) (calls, alike, more) (suc round) place row stands = has_each config rounds others more round place row stands

abbrev pub OneAnswerEach : JudgeConfig → List Round → List Round → Type 0
OneAnswerEach config rounds others = (round place : ℕ) (row other : Row) → StandsIn (row_rounds config rounds) round place row
    → StandsIn (row_rounds config others) round place other → row.answer ≡ other.answer

pub all_same : (world other : World) (config : JudgeConfig) (rounds others : List Round) → RoundsAlike rounds others → InEach (Answers world config.settings) rounds
    → InEach (Answers other config.settings) others → OneAnswerEach config rounds others → outcomes_in rounds ≡ outcomes_in others
all_same world other config [] [] alike a b one = refl
all_same world other config [] (next ∷ others) alike a b one = absurd alike
all_same world other config (here ∷ rounds) [] alike a b one = absurd alike
all_same world other config (here ∷ rounds) (next ∷ others) (calls, alike, more) a b one =
    let first : here.outcomes ≡ next.outcomes =
    same_outcomes world other config.settings here.calls here.outcomes next.outcomes a.0 (subst (λ c. EachPair (Answers other config.settings) c next.outcomes) (sym calls) b.0) alike
    (λ place row row_other stands there. one 0 place row row_other stands (subst (λ c. Stands (rows_of config.settings c next.outcomes) place row_other) calls there)) in
    let rest = all_same world other config rounds others more a.1 b.1 (λ round. one (suc round)) in
    ap (λ outcomes. outcomes ++ outcomes_in rounds) first ∙ ap (λ outcomes. next.outcomes ++ outcomes) rest
