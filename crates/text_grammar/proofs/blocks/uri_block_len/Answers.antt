-- The marks are those without a URI's bytes.
use Rattle.std.proofs.Common.{not, eqb, ap, ◌∙◌}
use Rattle.std.specs.List.{prefix_len}
use Rattle.std.specs.Simd.Lanes.{zip2, chunk}
use Rattle.std.proofs.lemmas.Simd.{length-chunk}
use Rattle.text_grammar.specs.Bytes.{is_uri_byte}
use Rattle.text_grammar.proofs.BlockLaws.{left, marks_count, uri_in, uri_ranges}
use Rattle.text_grammar.proofs.blocks.uri_block_len.Goals as goal

pub returns : goal.returns
returns c =
    let block = chunk c.args.place 32 c.args.text.now in
    let are = c.outside-marks-5.ensures ∙ ap (zip2 (left 93 126) block) (c.outside-marks-4.ensures ∙ ap (zip2 (left 63 91) block) (c.outside-marks-3.ensures
    ∙ ap (zip2 (left 61 61) block) (c.outside-marks-2.ensures ∙ ap (zip2 (left 35 59) block) c.outside-marks.ensures))) in
    c.first_left.ensures ∙ ap (prefix_len (λ mark. not (eqb mark 255))) are
    ∙ marks_count uri_ranges is_uri_byte uri_in block (length-chunk c.args.place 32 c.args.text.now c.requires)
