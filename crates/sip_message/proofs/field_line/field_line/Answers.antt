-- The line is its name, blanks, a colon and the rest.
use Rattle.std.proofs.Common.{◌≡◌, ℕ, ◌==◌, List, length, take, drop, Some, sym, ap, ◌∙◌}
use Rattle.text_grammar.specs.Bytes.{is_blank}
use Rattle.text_grammar.specs.Reading.{byte_at, skip}
use Rattle.sip_message.proofs.FieldNameLaws.{behind_name, name_of, named_line}
use Rattle.sip_message.proofs.field_line.field_line.Goals as goal

pub returns-in-Ok : goal.returns-in-Ok
returns-in-Ok c =
    let line = c.args.line.now in
    let rest = c.in-Ok.rest.now in
    let name : c.split_at.result.0.now ≡ name_of line = c.split_at.ensures.front ∙ ap (λ k. take k line) c.name_len.ensures.count in
    let left : c.skip_blanks.result.now ≡ behind_name line = c.skip_blanks.ensures ∙ ap (skip is_blank) (c.split_at.ensures.back ∙ ap (λ k. drop k line) c.name_len.ensures.count) in
    ap (λ (x : List ℕ). Some (x, rest)) name
    ∙ sym (named_line line rest (ap (λ (x : List ℕ). length x == 0) (sym name) ∙ (sym c.is_empty.ensures ∙ c.if-is_empty.false)) (ap (byte_at 58) (sym left) ∙ c.in-Ok.ensures))
