-- What is left gives what all gives, also where the walk ends.
use Rattle.std.proofs.Common.{rules, ◌≡◌, ◌==◌, true, false, length, Result, Ok, Err, sym, subst, ◌∙◌}
use Rattle.std.specs.Result.{IsErr, IsErrAnd}
use Rattle.lists.specs.Given.{IsFaultOf}
use Rattle.der_reader.specs.declared.part.Fault.{Fault}
use Rattle.der_reader.specs.Part.{item_of, part_of}
use Rattle.der_reader.proofs.EachLaws.{at_end, cut_off, one_more, refused}
use Rattle.x509_profile.specs.declared.fault.CertFault.{CertFault}
use Rattle.x509_profile.specs.declared.fault.CertFault.TheVariants.{At}
use Rattle.x509_profile.specs.Extensions.{values_with}
use Rattle.x509_profile.specs.Fault.{Gives, fault_seen}
use Rattle.x509_profile.specs.View.{Values}
use Rattle.x509_profile.proofs.extensions.KnownExtensions.read_each.Goals as goal

-- an error that is handed on
handed_on : (r : Result Values CertFault) (fault : CertFault) (read : Result Values Fault) → IsErr r → IsErrAnd r (λ e. e ≡ fault)
    → IsFaultOf (fault_seen fault) read → Gives (λ known. known) r read
handed_on (Ok x) fault read i e g = absurd (let k : false ≡ true = i in cc)
handed_on (Err f) fault read i e g = subst (λ f. Gives (λ known. known) (Err f) read) (sym e) g

pub returns-in_err-item-clause-exact : goal.returns-in_err-item-clause-exact
returns-in_err-item-clause-exact c =
    let some : length c.extensions.rest.left.now == 0 ≡ false = search rules in
    handed_on c.from_residual.result (At c.in_err-item.field-0.0.kind c.in_err-item.field-0.0.place) _ c.from_residual.ensures.0 c.from_residual.ensures.1
    (cut_off values_with _ c.extensions.known (part_of c.extensions.rest) c.in_err-item.field-0.0 c.extensions.invariant.left some (sym c.in_err-item.ensures.exact))

pub returns-in_err-add-clause-exact : goal.returns-in_err-add-clause-exact
returns-in_err-add-clause-exact c =
    let some : length c.extensions.rest.left.now == 0 ≡ false = search rules in
    handed_on c.from_residual-in_err-add.result c.in_err-add.field-0.0 _ c.from_residual-in_err-add.ensures.0 c.from_residual-in_err-add.ensures.1
    (refused values_with _ c.extensions.known (part_of c.extensions.rest) (item_of c.in_ok-item.item) (fault_seen c.in_err-add.field-0.0)
    c.extensions.invariant.left some (sym c.in_ok-item.ensures.exact) c.in_err-add.ensures.exact)

pub extensions-preserved : goal.extensions-preserved
extensions-preserved c =
    let some : length c.extensions.rest.left.now == 0 ≡ false = search rules in
    record {
      left = one_more values_with _ c.extensions.known c.add.new.self (part_of c.extensions.rest) (item_of c.in_ok-item.item)
          c.extensions.invariant.left some (sym c.in_ok-item.ensures.exact) c.in_ok-item.ensures.shorter c.in_ok-add.ensures.exact;
      end = c.in_ok-item.ensures.behind ∙ c.extensions.invariant.end;
    }

pub returns-clause-exact : goal.returns-clause-exact
returns-clause-exact c =
    let none : length c.extensions.rest.left.now == 0 ≡ true = search rules in
    at_end values_with _ c.extensions.known (part_of c.extensions.rest) c.extensions.invariant.left none
