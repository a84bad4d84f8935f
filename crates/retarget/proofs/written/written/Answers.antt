-- The message is too long with the other request URI alone, or the signer refuses it.
use Rattle.std.proofs.Common.{refl}
use Rattle.retarget.specs.Written.{too_long}
use Rattle.retarget.proofs.WrittenLaws.{found_long, refused_so, unnamed_as, withheld_by}
use Rattle.retarget.proofs.written.written.Goals as goal

pub returns-in-Err-Form-clause-causes : goal.returns-in-Err-Form-clause-causes
returns-in-Err-Form-clause-causes g c = too_long c.in-Err-Form.field-0-0 refl (found_long _ c.in-Err-Form.field-0 c.in-Err-Form.field-0-0 c.in-Err-Form.field-0-is c.in-Err-Form.ensures.exact)

pub returns-in-Ok-divert-clause-withheld : goal.returns-in-Ok-divert-clause-withheld
returns-in-Ok-divert-clause-withheld g c = λ h. record {
  asks = (withheld_by _ _ _ _ c.in-Ok.moved.items _ _ _ c.in-Ok.ensures.exact c.deref.ensures.value c.order-order.ensures c.in-Ok-divert.ensures.withheld h).asks;
  unnamed = refl;
}

pub returns-clause-causes : goal.returns-clause-causes
returns-clause-causes g c =
    refused_so _ _ _ _ _ _ c.in-Err.fault c.in-Ok.moved.items _ _ c.of.ensures c.in-Ok.ensures.exact c.in-Ok.ensures.written c.in-Ok.ensures.read_again c.deref.ensures.value c.order-order.ensures
    c.in-Err.ensures.promised.causes

pub returns-clause-withheld : goal.returns-clause-withheld
returns-clause-withheld g c = λ h. record {
  asks = (withheld_by _ _ _ _ c.in-Ok.moved.items _ _ _ c.in-Ok.ensures.exact c.deref.ensures.value c.order-order.ensures c.in-Err.ensures.withheld h).asks;
  unnamed = unnamed_as c.in-Err.fault c.of.result c.of.ensures
      (withheld_by _ _ _ _ c.in-Ok.moved.items _ _ _ c.in-Ok.ensures.exact c.deref.ensures.value c.order-order.ensures c.in-Err.ensures.withheld h).unnamed;
}
