-- The first mark of 255 is the lowest bit of the mask.
use Rattle.std.proofs.Common.{ℕ, Bool, eqb, sym, ap, ◌∙◌, arith, w8}
use Rattle.std.proofs.lemmas.Bool.{eq-eqb, ne_eqb, cond-true, cond-false}
use Rattle.std.proofs.lemmas.Simd.{bitmask_splat, first_set_mask_l}
use lib.Count.{count_trailing_zeros}
use Rattle.text_grammar.proofs.blocks.first_left.Goals as goal

abbrev is_left : ℕ → Bool
is_left mark = eqb mark 255

pub returns-then-left-eq0 : goal.returns-then-left-eq0
returns-then-left-eq0 c =
    let mask = bitmask_splat w8 eqb c.args.marks 32 255 c.fits-marks.0 (omega arith) in
    sym (cond-true _ _ _ (eq-eqb _ _ (sym mask ∙ c.if-left-eq0.true))) ∙ first_set_mask_l is_left c.args.marks 32 c.fits-marks.0 (omega arith)

pub returns-else-left-eq0 : goal.returns-else-left-eq0
returns-else-left-eq0 c =
    let mask = bitmask_splat w8 eqb c.args.marks 32 255 c.fits-marks.0 (omega arith) in
    ap (count_trailing_zeros 64) mask ∙ sym (cond-false _ _ _ (ne_eqb _ _ (λ none. c.if-left-eq0.false (mask ∙ none))))
    ∙ first_set_mask_l is_left c.args.marks 32 c.fits-marks.0 (omega arith)
