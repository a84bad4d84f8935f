-- The public clauses are laws of `shape_of`.
use Rattle.delegation.proofs.FaultLaws.{answer_fault, answer_only_fault, path_sound}
use Rattle.delegation.proofs.PathLaws.{answer_found, answer_only, path_again, path_found}
use Rattle.delegation.proofs.path.shape.Goals as goal

pub returns-clause-found : goal.returns-clause-found
returns-clause-found c = answer_found c.args.chain.now c.args.anchors.now c.path_shape.result c.path_shape.ensures.exact

pub returns-clause-only : goal.returns-clause-only
returns-clause-only c = λ anchor. answer_only c.args.chain.now c.args.anchors.now c.path_shape.result anchor c.path_shape.ensures.exact

pub returns-clause-path : goal.returns-clause-path
returns-clause-path c = λ anchor. (path_found c.args.chain.now c.args.anchors.now anchor, path_again c.args.chain.now c.args.anchors.now anchor)

pub returns-clause-fault : goal.returns-clause-fault
returns-clause-fault c = answer_fault c.args.chain.now c.args.anchors.now c.path_shape.result c.path_shape.ensures.exact

pub returns-clause-only_fault : goal.returns-clause-only_fault
returns-clause-only_fault c = λ kind place. answer_only_fault c.args.chain.now c.args.anchors.now c.path_shape.result kind place c.path_shape.ensures.exact

pub returns-clause-no_fault : goal.returns-clause-no_fault
returns-clause-no_fault c = path_sound c.args.chain.now c.args.anchors.now
