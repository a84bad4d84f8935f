-- After the value so far, the continuations left give what all of them give.
use Rattle.std.proofs.Common.{◌≡◌, length}
use Rattle.sip_message.specs.Lines.{behind_continuations, continuations}
use Rattle.sip_message.specs.Seen.{value_seen}
use Rattle.sip_message.specs.Value.{trimmed, value_after}
use Rattle.sip_message.proofs.value.read_value.Given as goal

abbrev pub invariant-parts : goal.invariant-parts
invariant-parts l = record {
  value : value_after (value_seen l.value) (continuations l.lines) ≡ value_after (trimmed l.rest) (continuations l.fn.lines);
  left : behind_continuations l.lines ≡ behind_continuations l.fn.lines;
}

abbrev pub decreases-parts : goal.decreases-parts
decreases-parts l = length l.lines
