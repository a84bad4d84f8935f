-- One element more, and the end.
use Rattle.std.proofs.Common.{sym}
use Rattle.der_reader.specs.Elem.{element_of}
use Rattle.chain_lines.specs.Elements.{within}
use Rattle.chain_lines.specs.Revocation.{made_by}
use Rattle.chain_lines.proofs.ElementLaws.{at_end, more}
use Rattle.chain_lines.proofs.made.within.Goals as goal

pub elements-preserved : goal.elements-preserved
elements-preserved c =
    more c.args.tag (made_by c.args.make) (within c.args.tag (made_by c.args.make) c.args.bytes.now) c.elements.out.items c.add.new.out.items c.elements.left.now
    (element_of c.in-Ok.element) c.in-Ok.rest.now c.elements.invariant (sym c.in-Ok.ensures.exact) c.in-Ok.ensures.shorter c.in_ok-add.ensures

pub returns : goal.returns
returns c =
    at_end c.args.tag (made_by c.args.make) (within c.args.tag (made_by c.args.make) c.args.bytes.now) c.elements.out.items c.elements.left.now c.in_default.field-0
    c.elements.invariant (sym c.in_default.ensures.exact)
