-- What is left gives what all gives, also where the walk ends.
use Rattle.std.proofs.Common.{rules, ◌≡◌, ◌==◌, true, false, length, sym, arith}
use Rattle.der_reader.specs.Part.{item_of, part_of}
use Rattle.der_reader.proofs.EachLaws.{at_end, cut_off, one_more, refused}
use Rattle.claim_constraints.specs.Fault.{fault_seen}
use Rattle.claim_constraints.proofs.FaultLaws.{handed_on}
use Rattle.claim_constraints.specs.declared.fault.ConstraintFault.TheVariants.{At}
use Rattle.claim_constraints.proofs.reading.each_text.Goals as goal

pub returns-in_err-item : goal.returns-in_err-item
returns-in_err-item c =
    let some : length c.texts.rest.left.now == 0 ≡ false = search rules in
    record {
      exact = handed_on (λ x. x) c.from_residual.result (At c.in_err-item.field-0.0.kind c.in_err-item.field-0.0.place) _ c.from_residual.ensures.0 c.from_residual.ensures.1
          (cut_off _ _ c.texts.texts (part_of c.texts.rest) c.in_err-item.field-0.0 c.texts.invariant.0 some (sym c.in_err-item.ensures.exact));
      more = search rules;
    }

pub returns-in_err-add_text : goal.returns-in_err-add_text
returns-in_err-add_text c =
    let some : length c.texts.rest.left.now == 0 ≡ false = search rules in
    record {
      exact = handed_on (λ x. x) c.from_residual-in_err-add_text.result c.in_err-add_text.field-0.0 _ c.from_residual-in_err-add_text.ensures.0 c.from_residual-in_err-add_text.ensures.1
          (refused _ _ c.texts.texts (part_of c.texts.rest) (item_of c.in_ok-item.item) (fault_seen c.in_err-add_text.field-0.0)
          c.texts.invariant.0 some (sym c.in_ok-item.ensures.exact) c.in_err-add_text.ensures.exact);
      more = search rules;
    }

pub texts-preserved : goal.texts-preserved
texts-preserved c =
    let some : length c.texts.rest.left.now == 0 ≡ false = search rules in (
      one_more _ _ c.texts.texts c.add_text.new.texts (part_of c.texts.rest) (item_of c.in_ok-item.item)
          c.texts.invariant.0 some (sym c.in_ok-item.ensures.exact) c.in_ok-item.ensures.shorter c.in_ok-add_text.ensures.exact,
      omega (arith, c.texts.invariant.1, c.in_ok-add_text.ensures.more),
    )

pub returns : goal.returns
returns c =
    let none : length c.texts.rest.left.now == 0 ≡ true = search rules in
    record { exact = at_end _ _ c.texts.texts (part_of c.texts.rest) c.texts.invariant.0 none; more = c.texts.invariant.1 }
