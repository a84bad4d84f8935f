-- A chain has at most six certificates.
use Rattle.call_judging.proofs.SizeLaws.{size_most}
use Rattle.call_judging.proofs.laws.chain_size_law.Goals as goal

pub returns : goal.returns
returns c = size_most
