-- The lines so far and those of the rules that are left are the lines of all.
use Rattle.std.proofs.Common.{◌≡◌, ◌++◌, drop, string_bytes}
use Rattle.call_judging.specs.Explain.{ok_lines}
use Rattle.call_judging.proofs.explaining.ok_lines.Given as goal

abbrev pub invariant-rules : goal.invariant-rules
invariant-rules l = string_bytes l.text ++ ok_lines l.number (drop l.rule-index l.rules) ≡ ok_lines l.number l.rules
