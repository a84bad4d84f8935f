-- Every byte before the place is that of a URI.
use Rattle.std.proofs.Common.{◌≤◌, ◌-◌}
use Rattle.std.specs.List.{prefix_len}
use Rattle.text_grammar.specs.Bytes.{is_uri_byte}
use Rattle.text_grammar.proofs.uri.uri_len.Given as goal

abbrev pub invariant-whole : goal.invariant-whole
invariant-whole l = record { so_far : l.place ≤ prefix_len is_uri_byte l.text }

abbrev pub decreases-whole : goal.decreases-whole
decreases-whole l = l.last - l.place
