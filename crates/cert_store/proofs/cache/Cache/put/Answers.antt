-- What is held after a chain was put.
use Rattle.std.proofs.Common.{ℕ, List, IsSome, Option, sym, ap, ◌∙◌, subst}
use Rattle.std.specs.Map.{lookup}
use Rattle.std.specs.Str.{bytes_eq}
use Rattle.lru.specs.LruCache.{LruCache, put_entries}
use Rattle.cert_store.specs.Judged.{JudgedView}
use Rattle.cert_store.specs.Holding.{AreAnswered, Chains, Holding, chain_of, put_in}
use Rattle.cert_store.proofs.CacheLaws.{put_answered}
use Rattle.cert_store.proofs.EntryLaws.{put_held}
use Rattle.cert_store.proofs.cache.Cache.put.Goals as goal

pub invariant_of-self : goal.invariant_of-self
invariant_of-self c =
    subst AreAnswered (sym (ap (λ (l : LruCache _ _). l.entries) c.in-Ok.ensures.entries
    ∙ ap (λ (key : List ℕ). put_entries bytes_eq c.self.inside.held key c.args.judged) c.new.ensures
    ∙ put_held c.args.x5u.items c.args.judged c.self.inside.held.entries c.self.inside.held.cap))
    (put_answered c.args.x5u.items c.args.judged (record { entries = c.self.inside.held.entries; capacity = c.self.inside.held.cap }) c.self.invariant c.requires.answered)

pub returns-in-Ok-clause-put : goal.returns-in-Ok-clause-put
returns-in-Ok-clause-put c =
    ap (λ (l : LruCache _ _). record { entries = l.entries; capacity = l.cap }) c.in-Ok.ensures.entries
    ∙ ap (λ (key : List ℕ). record { entries = put_entries bytes_eq c.self.inside.held key c.args.judged; capacity = c.self.inside.held.cap }) c.new.ensures
    ∙ ap (λ (es : Chains). record { entries = es; capacity = c.self.inside.held.cap }) (put_held c.args.x5u.items c.args.judged c.self.inside.held.entries c.self.inside.held.cap)
    ∙ ap (λ (h : Holding). record { entries = put_in c.args.x5u.items c.args.judged h; capacity = h.capacity }) c.self.view_is

pub returns-clause-again : goal.returns-clause-again
returns-clause-again c = λ held.
    let same = ap (λ (h : Holding). chain_of c.args.x5u.items h.entries) (sym c.self.view_is)
    ∙ ap (λ (key : List ℕ). lookup (bytes_eq key) c.self.inside.held.entries) (sym c.new.ensures) in
    c.in-Err.ensures.succeeds (subst (λ (o : Option JudgedView). IsSome o) same held)
