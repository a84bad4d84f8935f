use Rattle.tn_values.proofs.WithinLaws.{HasSingles}
use Rattle.tn_values.proofs.sets.NumberSet.has_singles.Given as goal

-- the set has every single that was looked for
abbrev pub invariant-loop-single : goal.invariant-loop-single
invariant-loop-single l = HasSingles l.singles l.self l.single-index
