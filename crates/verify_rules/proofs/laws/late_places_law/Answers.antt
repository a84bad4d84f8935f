-- The places of the rules of the chains by the laws of the crates below.
use Rattle.verify_rules.proofs.LatePlaces.{late_places}
use Rattle.verify_rules.proofs.ChainMeans.{chain_laws}
use Rattle.verify_rules.proofs.laws.late_places_law.Goals as goal

pub returns : goal.returns
returns c = λ world call verdict typed early is.
    late_places (chain_laws c.judged_law.ensures.answered c.judged_law.ensures.words c.judged_law.ensures.short c.chain_law.ensures.again c.constraints_law.ensures.meets)
    c.covers_law.ensures world typed call verdict early is
