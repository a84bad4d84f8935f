-- What is left gives what all gives, also where the walk ends.
use Rattle.std.proofs.Common.{rules, ◌≡◌, ◌==◌, true, false, length, sym}
use Rattle.der_reader.specs.Part.{item_of, part_of}
use Rattle.der_reader.proofs.EachLaws.{at_end, cut_off, one_more, refused}
use Rattle.claim_constraints.specs.Fault.{fault_seen}
use Rattle.claim_constraints.specs.Read.{permit_with}
use Rattle.claim_constraints.proofs.FaultLaws.{handed_on}
use Rattle.claim_constraints.specs.declared.fault.ConstraintFault.TheVariants.{At}
use Rattle.claim_constraints.proofs.reading.each_permit.Goals as goal

pub returns-in_err-item : goal.returns-in_err-item
returns-in_err-item c =
    let some : length c.permits.rest.left.now == 0 ≡ false = search rules in
    record {
      exact = handed_on (λ x. x) c.from_residual.result (At c.in_err-item.field-0.0.kind c.in_err-item.field-0.0.place) _ c.from_residual.ensures.0 c.from_residual.ensures.1
          (cut_off permit_with _ c.permits.permits (part_of c.permits.rest) c.in_err-item.field-0.0 c.permits.invariant some (sym c.in_err-item.ensures.exact));
    }

pub returns-in_err-add_permit : goal.returns-in_err-add_permit
returns-in_err-add_permit c =
    let some : length c.permits.rest.left.now == 0 ≡ false = search rules in
    record {
      exact = handed_on (λ x. x) c.from_residual-in_err-add_permit.result c.in_err-add_permit.field-0.0 _ c.from_residual-in_err-add_permit.ensures.0 c.from_residual-in_err-add_permit.ensures.1
          (refused permit_with _ c.permits.permits (part_of c.permits.rest) (item_of c.in_ok-item.item) (fault_seen c.in_err-add_permit.field-0.0)
          c.permits.invariant some (sym c.in_ok-item.ensures.exact) c.in_err-add_permit.ensures.exact);
    }

pub permits-preserved : goal.permits-preserved
permits-preserved c =
    let some : length c.permits.rest.left.now == 0 ≡ false = search rules in
    one_more permit_with _ c.permits.permits c.add_permit.new.permits (part_of c.permits.rest) (item_of c.in_ok-item.item)
    c.permits.invariant some (sym c.in_ok-item.ensures.exact) c.in_ok-item.ensures.shorter c.in_ok-add_permit.ensures.exact

pub returns : goal.returns
returns c =
    let none : length c.permits.rest.left.now == 0 ≡ true = search rules in
    record { exact = at_end permit_with _ c.permits.permits (part_of c.permits.rest) c.permits.invariant none }
