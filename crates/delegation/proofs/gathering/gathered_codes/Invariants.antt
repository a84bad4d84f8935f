use Rattle.std.proofs.Common.{◌≡◌, take}
use Rattle.std.specs.List.{fold}
use Rattle.delegation.specs.Gathered.{with_code}
use Rattle.delegation.proofs.gathering.gathered_codes.Given as goal

abbrev pub invariant-loop-code : goal.invariant-loop-code
invariant-loop-code l = l.gathered ≡ fold (with_code l.table) l.fn.own (take l.code-index l.codes)
