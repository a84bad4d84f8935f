use Rattle.std.proofs.Common.{rules, ◌≡◌, ◌++◌, ◌∙◌, ap, codes, length}
use Rattle.std.specs.Prelude.{string_bytes}
use Rattle.state_text.specs.State.{StateView}
use Rattle.state_text.specs.StateText.{head_text, kept_lines, number_line, state_text, text_of}
use Rattle.state_text.proofs.WriteLaws.{written_by}
use Rattle.state_text.proofs.state.State.write_exactly.Goals as goal

pub returns : goal.returns
returns c =
    let s : StateView = record { window = c.self.inside.window; call = c.self.inside.call; moment = c.self.inside.moment; kept = c.self.inside.kept.items } in
    let head : string_bytes c.in_ok-text.text ≡ head_text c.self.inside.window c.self.inside.call c.self.inside.moment = search rules in
    let kept : string_bytes c.add_entries.new.text ≡ string_bytes c.in_ok-text.text ++ text_of (kept_lines c.self.inside.kept.items) = search rules in
    let end : string_bytes c.writeln.new.self ≡ string_bytes c.add_entries.new.text ++ number_line (codes "end ") (length c.self.inside.kept.items) = search rules in
    let all : c.into_bytes.result.items ≡ string_bytes c.writeln.new.self = search rules in
    all ∙ written_by s (string_bytes c.in_ok-text.text) (string_bytes c.add_entries.new.text) (string_bytes c.writeln.new.self) head kept end ∙ ap state_text c.self.view_is
