use Rattle.std.proofs.Common.{◌≡◌, take}
use Rattle.tn_values.specs.Span.{value_of}
use Rattle.tn_values.proofs.places.value_of.Given as goal

-- the value of the digits that were read
abbrev pub invariant-loop-digit : goal.invariant-loop-digit
invariant-loop-digit l = l.value ≡ value_of (take l.digit-index l.digits)
