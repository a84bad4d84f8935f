use Rattle.tn_values.proofs.sets.NumberSet.place_with.Given as goal

abbrev pub ghosts-entry_uncounted : goal.ghosts-entry_uncounted
ghosts-entry_uncounted a = record { name = a.blank.name; parts = a.blank.parts }
