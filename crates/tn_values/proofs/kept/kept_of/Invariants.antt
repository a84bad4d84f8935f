use Rattle.std.proofs.Common.{◌≡◌, take}
use Rattle.tn_values.specs.Canon.{without_separators}
use Rattle.tn_values.proofs.kept.kept_of.Given as goal

-- what is kept of the bytes that were read
abbrev pub invariant-loop-byte : goal.invariant-loop-byte
invariant-loop-byte l = l.kept ≡ without_separators (take l.byte-index l.text)
