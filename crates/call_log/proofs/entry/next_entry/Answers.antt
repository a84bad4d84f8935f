-- The first byte of an entry is `@`, and there is room for one more.
use Rattle.std.proofs.Common.{◌<◌, ap, arith, ◌∙◌, sym}
use Rattle.call_log.proofs.EntrySteps.{first_failed, hands_on, many, not_at}
use Rattle.call_log.proofs.entry.next_entry.Goals as goal

pub returns-in_err-first-clause-found : goal.returns-in_err-first-clause-found
returns-in_err-first-clause-found g c = hands_on _ _ _ _ _ _ c.from_residual.ensures.1 (first_failed _ _ _ c.in_err-first.ensures.byte)

pub returns-then-passed-eq-MOST_ENTRIES-clause-found : goal.returns-then-passed-eq-MOST_ENTRIES-clause-found
returns-then-passed-eq-MOST_ENTRIES-clause-found g c =
    let taken = rw c.in-Some.is at c.in_ok-first.ensures.byte in
    many _ _ _ _ c.in-Some.first (ap (λ p. p.place) c.passed.view_is) taken (sym (ap (λ p. p.count) c.passed.view_is) ∙ c.if-passed-eq-MOST_ENTRIES.true)

pub returns-then-first-ne64-clause-found : goal.returns-then-first-ne64-clause-found
returns-then-first-ne64-clause-found g c =
    let taken = rw c.in-Some.is at c.in_ok-first.ensures.byte in
    let same = ap (λ p. p.count) c.passed.view_is in
    let room : c.args.passed.count < 1000000 = omega (arith, same, c.if-passed-eq-MOST_ENTRIES.false, c.requires.count) in
    not_at _ _ _ _ c.in-Some.first (ap (λ p. p.place) c.passed.view_is) taken room c.if-first-ne64.true
