-- What is looked up is what is held.
use Rattle.std.proofs.Common.{ap, ◌∙◌}
use Rattle.cert_store.specs.Holding.{Holding, chain_of}
use Rattle.cert_store.proofs.cache.Cache.peek.Goals as goal

pub returns : goal.returns
returns c = c.peek.ensures ∙ ap (λ (h : Holding). chain_of c.args.x5u.now h.entries) c.self.view_is
