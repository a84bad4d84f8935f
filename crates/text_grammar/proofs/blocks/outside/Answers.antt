-- What is left of each mark.
use Rattle.std.proofs.Common.{leb, replicate, ◌∙◌, w8}
use Rattle.std.specs.Simd.Lanes.{sel_l}
use Rattle.std.proofs.lemmas.Simd.{tops_compared}
use Rattle.text_grammar.proofs.BlockLaws.{lanes_left}
use Rattle.text_grammar.proofs.blocks.outside.Goals as goal

pub returns : goal.returns
returns c =
    let block = c.args.block in
    let marks = c.args.marks in
    let low = c.args.low in
    let high = c.args.high in
    (λ i. sel_l (tops_compared w8 leb (replicate 32 low) block i) (sel_l (tops_compared w8 leb block (replicate 32 high) i) (replicate 32 0) marks) marks)
    ∙ lanes_left low high 32 block marks c.fits-block.0 c.fits-marks.0
