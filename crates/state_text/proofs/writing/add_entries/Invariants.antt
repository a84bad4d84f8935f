use Rattle.std.proofs.Common.{◌≡◌, ◌++◌, drop}
use Rattle.std.specs.Prelude.{string_bytes}
use Rattle.state_text.specs.StateText.{kept_lines, text_of}
use Rattle.state_text.proofs.writing.add_entries.Given as goal

abbrev pub invariant-entries : goal.invariant-entries
invariant-entries l = string_bytes l.text ++ text_of (kept_lines (drop l.entry-index l.kept)) ≡ string_bytes l.initial.text ++ text_of (kept_lines l.kept)
