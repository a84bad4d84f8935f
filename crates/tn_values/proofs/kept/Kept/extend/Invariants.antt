use Rattle.std.proofs.Common.{◌≡◌, ◌++◌, take}
use Rattle.tn_values.proofs.kept.Kept.extend.Given as goal

-- what was read so far comes after what was there
abbrev pub invariant-loop-byte : goal.invariant-loop-byte
invariant-loop-byte l = l.self ≡ l.fn.self ++ take l.byte-index l.bytes
