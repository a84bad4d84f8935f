-- So far there are so many.
use Rattle.std.proofs.Common.{◌≡◌, ◌≤◌, None, replicate}
use Rattle.stir_c.proofs.call_chains.nothings.Given as goal

abbrev pub invariant-passports : goal.invariant-passports
invariant-passports l = (l._at ≤ l.count) × (l.chains.items ≡ replicate l._at None)
