-- What is held after a chain was used.
use Rattle.std.proofs.Common.{is_some, sym, ap, ◌∙◌, subst}
use Rattle.lru.specs.LruCache.{LruCache}
use Rattle.cert_store.specs.Holding.{AreAnswered, Chains, Holding, chain_of, touched}
use Rattle.cert_store.proofs.CacheLaws.{touched_answered}
use Rattle.cert_store.proofs.EntryLaws.{promoted_held}
use Rattle.cert_store.proofs.cache.Cache.touch.Goals as goal

pub invariant_of-self : goal.invariant_of-self
invariant_of-self c =
    subst AreAnswered (sym (ap (λ (l : LruCache _ _). l.entries) c.promote.ensures.entries ∙ promoted_held c.args.x5u.now c.self.inside.held.entries))
    (touched_answered c.args.x5u.now c.self.inside.held.entries c.self.invariant)

pub returns-clause-held : goal.returns-clause-held
returns-clause-held c = c.promote.ensures.value ∙ ap is_some (ap (λ (h : Holding). chain_of c.args.x5u.now h.entries) c.self.view_is)

pub returns-clause-order : goal.returns-clause-order
returns-clause-order c =
    ap (λ (l : LruCache _ _). record { entries = l.entries; capacity = l.cap }) c.promote.ensures.entries
    ∙ ap (λ (es : Chains). record { entries = es; capacity = c.self.inside.held.cap }) (promoted_held c.args.x5u.now c.self.inside.held.entries)
    ∙ ap (λ (h : Holding). record { entries = touched c.args.x5u.now h.entries; capacity = h.capacity }) c.self.view_is
