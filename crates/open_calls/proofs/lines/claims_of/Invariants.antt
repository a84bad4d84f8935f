-- The lines of the PASSporTs so far are written.
use Rattle.std.proofs.Common.{◌≡◌, length}
use Rattle.open_calls.specs.Steps.{ClaimsUpTo}
use Rattle.open_calls.proofs.lines.claims_of.Given as goal

abbrev pub invariant-passports : goal.invariant-passports
invariant-passports l = record {
  end : l.i-end ≡ length l.screened.readings;
  so : ClaimsUpTo l.screened.readings l.text.items l.i;
}
