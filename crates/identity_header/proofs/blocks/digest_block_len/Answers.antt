-- The marks are those without a token's bytes.
use Rattle.std.proofs.Common.{not, eqb, ap, ◌∙◌}
use Rattle.std.specs.List.{prefix_len}
use Rattle.std.specs.Simd.Lanes.{zip2, chunk}
use Rattle.std.proofs.lemmas.Simd.{length-chunk}
use Rattle.identity_header.specs.Parts.{is_digest_byte}
use Rattle.text_grammar.proofs.BlockLaws.{left, marks_count}
use Rattle.identity_header.proofs.BlockLaws.{digest_in, digest_ranges}
use Rattle.identity_header.proofs.blocks.digest_block_len.Goals as goal

pub returns : goal.returns
returns c =
    let block = chunk c.args.place 32 c.args.text.now in
    let are = c.outside-marks-5.ensures ∙ ap (zip2 (left 65 90) block) (c.outside-marks-4.ensures ∙ ap (zip2 (left 97 122) block) (c.outside-marks-3.ensures
    ∙ ap (zip2 (left 48 57) block) (c.outside-marks-2.ensures ∙ ap (zip2 (left 45 46) block) c.outside-marks.ensures))) in
    c.first_left.ensures ∙ ap (prefix_len (λ mark. not (eqb mark 255))) are
    ∙ marks_count digest_ranges is_digest_byte digest_in block (length-chunk c.args.place 32 c.args.text.now c.requires)
