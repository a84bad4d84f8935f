-- Calls that were answered in rounds on one worker, and again with more calls after them, by worlds in which each call breaks the same rule first and over one
-- past: their outcomes come first among those of all.
use Rattle.std.proofs.Common.{◌≡◌, ℕ, suc, ◌+◌, ◌≤◌, List, [], ◌∷◌, ◌++◌, length, refl, sym, ◌∙◌, ap, arith, subst, append-nil, append_assoc}
use Rattle.std.specs.Prelude.{⊤}
use Rattle.std.proofs.lemmas.List.{length-append}
use Rattle.call_log.specs.Entry.{Entry}
use Rattle.log_rounds.specs.Answers.{Answers}
use Rattle.log_rounds.specs.Judge.{JudgeConfig}
use Rattle.log_rounds.specs.Rounds.{AllInOrder, InEach, IsCut, Round, calls_in, outcomes_in, row_rounds}
use Rattle.replay_law.specs.Held.{Held, Same, purged}
use Rattle.replay_law.specs.Round.{Rounds, Settled, first_moment}
use Rattle.replay_law.specs.Row.{Row, Stands}
use Rattle.replay_law.specs.Turn.{FirstWins}
use Rattle.verify_rules.specs.World.{First, World}
use Rattle.verify_rules.specs.declared.settings.Settings.{Settings}
use Rattle.verify_service.specs.Judging.{EachPair, call_in}
use Rattle.verify_service.specs.Rows.{row_of, rows_of}
use Rattle.verify_service.specs.declared.outcome.Outcome.{Outcome}
use Rattle.stir_cmd.proofs.AnswersAlike.{AreAlike, NoneAside, all_alike, first_aside, outcomes_of, parts_aside, same_outcomes, same_parts, some_calls}
use Rattle.stir_cmd.proofs.OneGoingLaws.{one_in_round, same_left}
use Rattle.stir_cmd.proofs.OneReportOnLaws.{one_moment, one_rows}
use Rattle.stir_cmd.proofs.PrefixRowsLaws.{BeginCalls, one_answer}

-- ---- a round

-- the first outcomes of the other are these, but for what the replay rule answers
abbrev BeginAlike : List Outcome → List Outcome → Type 0
BeginAlike [] others = ⊤
BeginAlike (outcome ∷ outcomes) [] = ⊥
BeginAlike (outcome ∷ outcomes) (other ∷ others) = AreAlike outcome other × BeginAlike outcomes others

begin_alike : (world other : World) (settings : Settings) → ((entry : Entry) → First world (call_in settings entry) ≡ First other (call_in settings entry))
    → (calls extra : List Entry) (mine yours : List Outcome) → EachPair (Answers world settings) calls mine → EachPair (Answers other settings) (calls ++ extra) yours
    → NoneAside mine → NoneAside yours → BeginAlike mine yours
begin_alike world other settings same [] extra [] yours a b none none_other = tt
begin_alike world other settings same [] extra (mine ∷ more) yours a b none none_other = absurd a
begin_alike world other settings same (call ∷ calls) extra [] yours a b none none_other = absurd a
begin_alike world other settings same (call ∷ calls) extra (mine ∷ more) [] a b none none_other = absurd b
begin_alike world other settings same (call ∷ calls) extra (mine ∷ more) (yours ∷ others) a b none none_other =
    let (read, asked, rest) = first_aside mine more none in
    let (read_other, asked_other, rest_other) = first_aside yours others none_other in (
      outcomes_of world other settings call mine yours (same call) a.0 b.0 read asked read_other asked_other,
      begin_alike world other settings same calls extra more others a.1 b.1 rest rest_other,
    )

begin_rows : (settings : Settings) (calls extra : List Entry) (mine yours : List Outcome) → BeginAlike mine yours → BeginCalls (rows_of settings calls mine) (rows_of settings (calls ++ extra) yours)
begin_rows settings [] extra mine yours alike = tt
begin_rows settings (call ∷ calls) extra [] yours alike = tt
begin_rows settings (call ∷ calls) extra (mine ∷ more) [] alike = absurd alike
begin_rows settings (call ∷ calls) extra (mine ∷ more) (yours ∷ others) (here, later) =
    (record { number = refl; moment = refl; ticket = refl; last = refl; passes = here.same_passes }, begin_rows settings calls extra more others later)

-- these outcomes come first among all
abbrev pub ComeFirst : List Outcome → List Outcome → Type 0
ComeFirst outcomes all = (behind : List Outcome) × (all ≡ outcomes ++ behind)

begin_same : (world : World) (settings : Settings) (calls extra : List Entry) (mine yours : List Outcome) → EachPair (Answers world settings) calls mine → BeginAlike mine yours
    → ((place : ℕ) (row other : Row) → Stands (rows_of settings calls mine) place row → Stands (rows_of settings (calls ++ extra) yours) place other → row.answer ≡ other.answer)
    → ComeFirst mine yours
begin_same world settings [] extra [] yours a alike one = (yours, refl)
begin_same world settings [] extra (mine ∷ more) yours a alike one = absurd a
begin_same world settings (call ∷ calls) extra [] yours a alike one = absurd a
begin_same world settings (call ∷ calls) extra (mine ∷ more) [] a alike one = absurd alike
begin_same world settings (call ∷ calls) extra (mine ∷ more) (yours ∷ others) a (here, later) one =
    let first : mine ≡ yours = here.decided (one 0 (row_of settings call mine) (row_of settings call yours) refl refl) in
    let rest = begin_same world settings calls extra more others a.1 later (λ place. one (suc place)) in
    (rest.0, ap (λ outcome. outcome ∷ others) (sym first) ∙ ap (λ outcomes. mine ∷ outcomes) rest.1)

-- ---- the cut

-- the shorter of two beginnings begins the longer
shorter_begins : {X : Type 0} (xs ys more rest : List X) → length xs ≤ length ys → ys ++ rest ≡ xs ++ more → (extra : List X) × (ys ≡ xs ++ extra)
shorter_begins [] ys more rest short same = (ys, refl)
shorter_begins (x ∷ xs) [] more rest short same = absurd (omega (arith, short))
shorter_begins (x ∷ xs) (y ∷ ys) more rest short same =
    let first : y ≡ x = cc in
    let later : ys ++ rest ≡ xs ++ more = cc in
    let found = shorter_begins xs ys more rest (omega (arith, short)) later in
    (found.0, ap (λ z. z ∷ ys) first ∙ ap (λ zs. x ∷ zs) found.1)

-- the last round begins the round at its place
last_begins : (round other : Round) (others : List Round) (more : List Entry) → length round.calls ≤ 256 → IsCut (other ∷ others) → calls_in (other ∷ others) ≡ calls_in (round ∷ []) ++ more
    → (extra : List Entry) × (other.calls ≡ round.calls ++ extra)
last_begins round other [] more few cut same = (more, sym (append-nil other.calls) ∙ same ∙ ap (λ c. c ++ more) (append-nil round.calls))
last_begins round other (next ∷ others) more few cut same =
    let full = cut.0 in
    shorter_begins round.calls other.calls more (calls_in (next ∷ others)) (omega (arith, few, full)) (same ∙ ap (λ c. c ++ more) (append-nil round.calls))

-- there are no calls for a round
none_left : (round : Round) (rounds : List Round) (more : List Entry) → IsCut (round ∷ rounds) → [] ≡ calls_in (round ∷ rounds) ++ more → ⊥
none_left round rounds more cut none =
    let some = some_calls round rounds cut in
    let count : 0 ≡ length (calls_in (round ∷ rounds)) + length more = ap length none ∙ length-append (calls_in (round ∷ rounds)) more in
    let first : length (calls_in (round ∷ rounds)) ≡ length round.calls + length (calls_in rounds) = length-append round.calls (calls_in rounds) in
    omega (arith, some, count, first)

-- nor are there in a last round for two
too_many : (round next other : Round) (rounds : List Round) (more : List Entry) → IsCut (round ∷ next ∷ rounds) → length other.calls ≤ 256
    → calls_in (other ∷ []) ≡ calls_in (round ∷ next ∷ rounds) ++ more → ⊥
too_many round next other rounds more cut few same =
    let some = some_calls next rounds cut.1 in
    let full = cut.0 in
    let yours : length (calls_in (other ∷ [])) ≡ length other.calls = ap length (append-nil other.calls) in
    let both : length (calls_in (other ∷ [])) ≡ length (calls_in (round ∷ next ∷ rounds)) + length more = ap length same ∙ length-append (calls_in (round ∷ next ∷ rounds)) more in
    let mine : length (calls_in (round ∷ next ∷ rounds)) ≡ length round.calls + length (calls_in (next ∷ rounds)) = length-append round.calls (calls_in (next ∷ rounds)) in
    let later : length (calls_in (next ∷ rounds)) ≡ length next.calls + length (calls_in rounds) = length-append next.calls (calls_in rounds) in
    omega (arith, some, full, few, yours, both, mine, later)

-- ---- rounds

-- rounds of 256 calls, but the last, answered by the first rule that a call breaks in the world, in turn over a past, in the order of the calls
pub record InTurn (world : World) (config : JudgeConfig) (past : Held) (rounds : List Round) (next : Held) : Type 0 where
  pub cut : IsCut rounds
  pub each : InEach (Answers world config.settings) rounds
  pub settled : Rounds past (row_rounds config rounds) next
  pub in_order : AllInOrder config rounds
  pub aside : NoneAside (outcomes_in rounds)

-- the rounds after a full one
later_turns : (world : World) (config : JudgeConfig) (past next : Held) (round other : Round) (rounds : List Round) (turn : InTurn world config past (round ∷ other ∷ rounds) next)
    → InTurn world config turn.settled.0 (other ∷ rounds) next
later_turns world config past next round other rounds turn = record {
  cut = turn.cut.1;
  each = turn.each.1;
  settled = turn.settled.2;
  in_order = turn.in_order.1;
  aside = (parts_aside round.outcomes (outcomes_in (other ∷ rounds)) turn.aside).1;
}

-- the outcomes of a full round are the same, and the same is left
pub record SameRound (round other : Round) (middle other_middle : Held) : Type 0 where
  pub outcomes : round.outcomes ≡ other.outcomes
  pub left : Same middle other_middle

same_round : (world also : World) (config : JudgeConfig) → ((entry : Entry) → First world (call_in config.settings entry) ≡ First also (call_in config.settings entry))
    → (past middle other_middle : Held) (round other : Round) → round.calls ≡ other.calls → EachPair (Answers world config.settings) round.calls round.outcomes
    → EachPair (Answers also config.settings) other.calls other.outcomes → NoneAside round.outcomes → NoneAside other.outcomes
    → Settled (purged (first_moment (rows_of config.settings round.calls round.outcomes)) past) (rows_of config.settings round.calls round.outcomes) middle
    → Settled (purged (first_moment (rows_of config.settings other.calls other.outcomes)) past) (rows_of config.settings other.calls other.outcomes) other_middle
    → FirstWins (rows_of config.settings round.calls round.outcomes) → FirstWins (rows_of config.settings other.calls other.outcomes) → SameRound round other middle other_middle
same_round world also config same past middle other_middle round other calls a b none none_other mine yours first first_other =
    let rows = rows_of config.settings round.calls round.outcomes in
    let yours_rows = rows_of config.settings round.calls other.outcomes in
    let b_here : EachPair (Answers also config.settings) round.calls other.outcomes = subst (λ c. EachPair (Answers also config.settings) c other.outcomes) (sym calls) b in
    let alike = all_alike world also config.settings same round.calls round.outcomes other.outcomes a b_here none none_other in
    let one = one_rows config.settings round.calls round.outcomes other.outcomes alike in
    let there : Settled (purged (first_moment rows) past) yours_rows other_middle =
    subst (λ (m : ℕ). Settled (purged m past) yours_rows other_middle) (sym (one_moment rows yours_rows one))
    (subst (λ c. Settled (purged (first_moment (rows_of config.settings c other.outcomes)) past) (rows_of config.settings c other.outcomes) other_middle) (sym calls) yours) in
    let first_there : FirstWins yours_rows = subst (λ c. FirstWins (rows_of config.settings c other.outcomes)) (sym calls) first_other in
    record {
      outcomes = same_outcomes world also config.settings round.calls round.outcomes other.outcomes a b_here alike
          (one_in_round (purged (first_moment rows) past) middle other_middle rows yours_rows one mine there first first_there);
      left = same_left (purged (first_moment rows) past) middle other_middle rows yours_rows one mine there first first_there;
    }

-- the outcomes of the last round come first in the round at its place
last_round : (world also : World) (config : JudgeConfig) → ((entry : Entry) → First world (call_in config.settings entry) ≡ First also (call_in config.settings entry))
    → (past middle other_middle : Held) (round other : Round) (extra : List Entry) → other.calls ≡ round.calls ++ extra → EachPair (Answers world config.settings) round.calls round.outcomes
    → EachPair (Answers also config.settings) other.calls other.outcomes → NoneAside round.outcomes → NoneAside other.outcomes
    → Settled (purged (first_moment (rows_of config.settings round.calls round.outcomes)) past) (rows_of config.settings round.calls round.outcomes) middle
    → Settled (purged (first_moment (rows_of config.settings other.calls other.outcomes)) past) (rows_of config.settings other.calls other.outcomes) other_middle
    → FirstWins (rows_of config.settings round.calls round.outcomes) → FirstWins (rows_of config.settings other.calls other.outcomes) → ComeFirst round.outcomes other.outcomes
last_round world also config same past middle other_middle round other extra calls a b none none_other mine yours first first_other =
    let rows = rows_of config.settings round.calls round.outcomes in
    let all = rows_of config.settings (round.calls ++ extra) other.outcomes in
    let b_here : EachPair (Answers also config.settings) (round.calls ++ extra) other.outcomes = subst (λ c. EachPair (Answers also config.settings) c other.outcomes) calls b in
    let alike = begin_alike world also config.settings same round.calls extra round.outcomes other.outcomes a b_here none none_other in
    let begins = begin_rows config.settings round.calls extra round.outcomes other.outcomes alike in
    let there : Settled (purged (first_moment all) past) all other_middle =
    subst (λ c. Settled (purged (first_moment (rows_of config.settings c other.outcomes)) past) (rows_of config.settings c other.outcomes) other_middle) calls yours in
    let first_there : FirstWins all = subst (λ c. FirstWins (rows_of config.settings c other.outcomes)) calls first_other in
    begin_same world config.settings round.calls extra round.outcomes other.outcomes a alike (one_answer past middle other_middle rows all begins mine there first first_there)

-- put together
after_last : (xs : List Outcome) (ys others : List Outcome) → ComeFirst xs ys → ComeFirst (xs ++ []) (ys ++ others)
after_last xs ys others (behind, is) =
    (behind ++ others, ap (λ y. y ++ others) is ∙ append_assoc xs behind others ∙ ap (λ x. x ++ (behind ++ others)) (sym (append-nil xs)))

after_full : (xs ys more others : List Outcome) → xs ≡ ys → ComeFirst more others → ComeFirst (xs ++ more) (ys ++ others)
after_full xs ys more others same (behind, is) =
    (behind, ap (λ y. y ++ others) (sym same) ∙ ap (λ o. xs ++ o) is ∙ sym (append_assoc xs more behind))

pub first_of : (world also : World) (config : JudgeConfig) → ((entry : Entry) → First world (call_in config.settings entry) ≡ First also (call_in config.settings entry))
    → (past next other_next : Held) (rounds others : List Round) (more : List Entry) → InTurn world config past rounds next → InTurn also config past others other_next
    → calls_in others ≡ calls_in rounds ++ more → ComeFirst (outcomes_in rounds) (outcomes_in others)
first_of world also config same past next other_next [] others more mine yours calls = (outcomes_in others, refl)
first_of world also config same past next other_next (round ∷ rounds) [] more mine yours calls = absurd (none_left round rounds more mine.cut calls)
first_of world also config same past next other_next (round ∷ []) (other ∷ others) more mine yours calls =
    let found = last_begins round other others more mine.cut.1 yours.cut calls in
    after_last round.outcomes other.outcomes (outcomes_in others)
    (last_round world also config same past mine.settled.0 yours.settled.0 round other found.0 found.1 mine.each.0 yours.each.0 (parts_aside round.outcomes [] mine.aside).0
    (parts_aside other.outcomes (outcomes_in others) yours.aside).0 mine.settled.1 yours.settled.1 mine.in_order.0 yours.in_order.0)
first_of world also config same past next other_next (round ∷ after ∷ rounds) (other ∷ []) more mine yours calls = absurd (too_many round after other rounds more mine.cut yours.cut.1 calls)
first_of world also config same past next other_next (round ∷ after ∷ rounds) (other ∷ later ∷ others) more mine yours calls =
    let parts = same_parts other.calls round.calls (calls_in (later ∷ others)) (calls_in (after ∷ rounds) ++ more) (yours.cut.0 ∙ sym mine.cut.0)
    (calls ∙ append_assoc round.calls (calls_in (after ∷ rounds)) more) in
    let one = same_round world also config same past mine.settled.0 yours.settled.0 round other (sym parts.0) mine.each.0 yours.each.0
    (parts_aside round.outcomes (outcomes_in (after ∷ rounds)) mine.aside).0 (parts_aside other.outcomes (outcomes_in (later ∷ others)) yours.aside).0 mine.settled.1 yours.settled.1
    mine.in_order.0 yours.in_order.0 in
    let middle : yours.settled.0 ≡ mine.settled.0 = λ i ticket. sym (one.left ticket) i in
    after_full round.outcomes other.outcomes (outcomes_in (after ∷ rounds)) (outcomes_in (later ∷ others)) one.outcomes
    (first_of world also config same mine.settled.0 next other_next (after ∷ rounds) (later ∷ others) more (later_turns world config past next round after rounds mine)
    (subst (λ (h : Held). InTurn also config h (later ∷ others) other_next) middle (later_turns also config past other_next other later others yours)) parts.1)
