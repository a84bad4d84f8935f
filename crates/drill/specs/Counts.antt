-- The counts of the summary, as they are kept call by call. A count stays at its last value.
use Rattle.std.specs.Prelude.{ℕ, Bool, true, false, List, [], ◌∷◌, ◌++◌, codes}
use Rattle.stir_outside.specs.Count.{one_more}
use Rattle.verify_service.specs.declared.outcome.Outcome.{Outcome}
use Rattle.drill.specs.Summary.{count_line, is_refused, is_replay}
use Rattle.verify_service.specs.Adding.{is_valid}
use Rattle.drill.specs.declared.counts.Counts.{Counts}

abbrev pub no_counts : Counts
no_counts =
    record { calls = 0; valid = 0; replays = 0; refused_403 = 0; refused_428 = 0; refused_437 = 0; refused_438 = 0 }

-- one more, if this is so
abbrev pub more_if : Bool → ℕ → ℕ
more_if true count = one_more count
more_if false count = count

-- with what came of one more call
abbrev pub with_one : Counts → Outcome → Counts
with_one counts outcome = record {
  calls = one_more counts.calls;
  valid = more_if (is_valid outcome) counts.valid;
  replays = more_if (is_replay outcome) counts.replays;
  refused_403 = more_if (is_refused 403 outcome) counts.refused_403;
  refused_428 = more_if (is_refused 428 outcome) counts.refused_428;
  refused_437 = more_if (is_refused 437 outcome) counts.refused_437;
  refused_438 = more_if (is_refused 438 outcome) counts.refused_438;
}

abbrev pub with_all : Counts → List Outcome → Counts
with_all counts [] = counts
with_all counts (outcome ∷ outcomes) = with_all (with_one counts outcome) outcomes

-- the seven lines
abbrev pub summary_of : Counts → List ℕ
summary_of counts =
    count_line (codes "calls") counts.calls
    ++ (count_line (codes "valid") counts.valid
    ++ (count_line (codes "replay") counts.replays
    ++ (count_line (codes "refused 403") counts.refused_403
    ++ (count_line (codes "refused 428") counts.refused_428
    ++ (count_line (codes "refused 437") counts.refused_437
    ++ count_line (codes "refused 438") counts.refused_438)))))
