-- Each x5u has one chain, and there are no more chains than there may be.
use Rattle.std.proofs.Common.{◌≤◌, length, subst}
use Rattle.cert_store.specs.Holding.{Holding}
use Rattle.cert_store.specs.Using.{IsOnce, names}
use Rattle.cert_store.proofs.EntryLaws.{once_held}
use Rattle.cert_store.proofs.cache.Cache.answered.Goals as goal

pub returns-clause-once : goal.returns-clause-once
returns-clause-once c = subst (λ (h : Holding). IsOnce (names h.entries)) c.self.view_is (once_held c.self.inside.held.entries c.len.ensures.valid.0)

pub returns-clause-few : goal.returns-clause-few
returns-clause-few c = subst (λ (h : Holding). length h.entries ≤ h.capacity) c.self.view_is c.len.ensures.valid.1
