-- Rounds of the same calls have one summary.
use Rattle.std.proofs.Common.{◌≡◌, false, List, [], ◌∷◌, ◌++◌, refl, sym, ap, subst, ◌∙◌}
use Rattle.std.specs.List.{list_any}
use Rattle.std.proofs.lemmas.Bool.{or_parts}
use Rattle.call_log.specs.Entry.{Entry}
use Rattle.drill.specs.Summary.{JudgedWhole, summary}
use Rattle.drill.specs.Winners.{all_rows}
use Rattle.drill.specs.Alike.{LegalWhole, OneSummary}
use Rattle.log_rounds.specs.Answers.{Answers}
use Rattle.log_rounds.specs.Judge.{JudgeConfig}
use Rattle.log_rounds.specs.Rounds.{InEach, Round, calls_in, outcomes_in, row_rounds}
use Rattle.verify_rules.specs.Call.{Call}
use Rattle.verify_rules.specs.SameWorld.{SayTheSame}
use Rattle.verify_rules.specs.World.{First, World}
use Rattle.verify_rules.specs.declared.settings.Settings.{Settings}
use Rattle.verify_service.specs.Causes.{is_unasked, is_unread}
use Rattle.verify_service.specs.Judging.{EachJudged, EachPair, IsJudged, call_in}
use Rattle.verify_service.specs.Rows.{row_of, rows_of}
use Rattle.verify_service.specs.declared.outcome.Outcome.{Outcome}
use Rattle.verify_service.specs.declared.outcome.Outcome.TheVariants.{Valid, Refused, Replay, Unread, Unasked}

abbrev SummaryLaw : Type 0
SummaryLaw = (world : World) (settings : Settings) (calls : List Entry) (outcomes others : List Outcome) → JudgedWhole world settings calls outcomes → JudgedWhole world settings calls others
    → summary outcomes ≡ summary others

judged_both : (world : World) (settings : Settings) (xs ys : List Entry) (os ps : List Outcome) → EachPair (Answers world settings) xs os → EachJudged settings world ys ps
    → EachJudged settings world (xs ++ ys) (os ++ ps)
judged_both world settings [] ys [] ps a b = b
judged_both world settings [] ys (o ∷ os) ps a b = absurd a
judged_both world settings (x ∷ xs) ys [] ps a b = absurd a
judged_both world settings (x ∷ xs) ys (o ∷ os) ps a b = (a.0.judged, judged_both world settings xs ys os ps a.1 b)

all_judged : (world : World) (settings : Settings) (rounds : List Round) → InEach (Answers world settings) rounds → EachJudged settings world (calls_in rounds) (outcomes_in rounds)
all_judged world settings [] each = tt
all_judged world settings (round ∷ rounds) each =
    judged_both world settings round.calls (calls_in rounds) round.outcomes (outcomes_in rounds) each.0 (all_judged world settings rounds each.1)

rows_joined : (P : Entry → Outcome → Type 0) (settings : Settings) (xs ys : List Entry) (os ps : List Outcome) → EachPair P xs os → rows_of settings xs os ++ rows_of settings ys ps ≡ rows_of settings (xs ++ ys) (os ++ ps)
rows_joined P settings [] ys [] ps a = refl
rows_joined P settings [] ys (o ∷ os) ps a = absurd a
rows_joined P settings (x ∷ xs) ys [] ps a = absurd a
rows_joined P settings (x ∷ xs) ys (o ∷ os) ps a = ap (λ rs. row_of settings x o ∷ rs) (rows_joined P settings xs ys os ps a.1)

rows_cut : (P : Entry → Outcome → Type 0) (config : JudgeConfig) (rounds : List Round) → InEach P rounds → all_rows (row_rounds config rounds) ≡ rows_of config.settings (calls_in rounds) (outcomes_in rounds)
rows_cut P config [] each = refl
rows_cut P config (round ∷ rounds) each =
    ap (λ rs. rows_of config.settings round.calls round.outcomes ++ rs) (rows_cut P config rounds each.1)
    ∙ rows_joined P config.settings round.calls (calls_in rounds) round.outcomes (outcomes_in rounds) each.0

judged_whole : (world : World) (config : JudgeConfig) (rounds : List Round) → LegalWhole world config rounds → JudgedWhole world config.settings (calls_in rounds) (outcomes_in rounds)
judged_whole world config rounds whole = record {
  each = all_judged world config.settings rounds whole.legal.each;
  read = whole.read;
  asked = whole.asked;
  rounds = row_rounds config rounds;
  cut = rows_cut (Answers world config.settings) config rounds whole.legal.each;
  legal = whole.legal.once;
}

-- ---- in another world in which the same is said

abbrev pub SameWorldLaw : Type 0
SameWorldLaw = (world other : World) → SayTheSame world other → (call : Call) → First world call ≡ First other call

-- what was answered to a call that isn't set aside is its answer in the other world too
carried : (world other : World) (call : Call) (outcome : Outcome) → First world call ≡ First other call → is_unread outcome ≡ false → is_unasked outcome ≡ false → IsJudged other call outcome
    → IsJudged world call outcome
carried world other call Valid same read asked judged = same ∙ judged
carried world other call (Refused refused) same read asked judged = same ∙ judged
carried world other call (Replay winner) same read asked judged = same ∙ judged
carried world other call (Unread bad) same read asked judged = absurd cc
carried world other call (Unasked bad) same read asked judged = absurd cc

all_carried : (world other : World) (settings : Settings) (calls : List Entry) (outcomes : List Outcome) → ((call : Call) → First world call ≡ First other call)
    → list_any is_unread outcomes ≡ false → list_any is_unasked outcomes ≡ false → EachJudged settings other calls outcomes → EachJudged settings world calls outcomes
all_carried world other settings [] [] same read asked judged = tt
all_carried world other settings [] (o ∷ os) same read asked judged = absurd judged
all_carried world other settings (x ∷ xs) [] same read asked judged = absurd judged
all_carried world other settings (x ∷ xs) (o ∷ os) same read asked judged =
    let reads = or_parts (is_unread o) (list_any is_unread os) read in
    let asks = or_parts (is_unasked o) (list_any is_unasked os) asked in
    (carried world other (call_in settings x) o (same (call_in settings x)) reads.0 asks.0 judged.0, all_carried world other settings xs os same reads.1 asks.1 judged.1)

whole_carried : (world other : World) (settings : Settings) (calls : List Entry) (outcomes : List Outcome) → ((call : Call) → First world call ≡ First other call)
    → JudgedWhole other settings calls outcomes → JudgedWhole world settings calls outcomes
whole_carried world other settings calls outcomes same whole = record {
  each = all_carried world other settings calls outcomes same whole.read whole.asked whole.each;
  read = whole.read;
  asked = whole.asked;
  rounds = whole.rounds;
  cut = whole.cut;
  legal = whole.legal;
}

pub one_summary : SummaryLaw → SameWorldLaw → OneSummary
one_summary law worlds world twin config other rounds others says same calls whole whole_other =
    let carried : JudgedWhole world other.settings (calls_in others) (outcomes_in others) =
    whole_carried world twin other.settings (calls_in others) (outcomes_in others) (worlds world twin says) (judged_whole twin other others whole_other) in
    let there : JudgedWhole world other.settings (calls_in rounds) (outcomes_in others) =
    subst (λ (cs : List Entry). JudgedWhole world other.settings cs (outcomes_in others)) (sym calls) carried in
    law world config.settings (calls_in rounds) (outcomes_in rounds) (outcomes_in others) (judged_whole world config rounds whole)
    (subst (λ (s : Settings). JudgedWhole world s (calls_in rounds) (outcomes_in others)) (sym same) there)
