-- Every byte before the place is that of a token.
use Rattle.std.proofs.Common.{◌≤◌, ◌-◌}
use Rattle.std.specs.List.{prefix_len}
use Rattle.identity_header.specs.Parts.{is_digest_byte}
use Rattle.identity_header.proofs.bytes.digest_len.Given as goal

abbrev pub invariant-whole : goal.invariant-whole
invariant-whole l = record { so_far : l.place ≤ prefix_len is_digest_byte l.text }

abbrev pub decreases-whole : goal.decreases-whole
decreases-whole l = l.last - l.place
