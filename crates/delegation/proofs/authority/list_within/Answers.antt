use Rattle.std.proofs.Common.{refl, sym, ◌∙◌}
use Rattle.delegation.proofs.AuthorityLaws.{decided, within_all, without_code}
use Rattle.delegation.proofs.authority.list_within.Goals as goal

pub returns-then-not-has_codes_of : goal.returns-then-not-has_codes_of
returns-then-not-has_codes_of c =
    let child = c.args.child.now in
    let parent = c.args.parent.now in
    let lacks = sym c.has_codes_of.ensures ∙ c.if-not-has_codes_of.true in
    (λ h. absurd cc, λ w. absurd (without_code child parent c.args.table.now lacks w))

pub returns-then-some_stands_for_all : goal.returns-then-some_stands_for_all
returns-then-some_stands_for_all c =
    let child = c.args.child.now in
    let parent = c.args.parent.now in
    let had = sym c.has_codes_of.ensures ∙ c.if-not-has_codes_of.false in
    (λ _. within_all child parent c.args.table.now had (sym c.some_stands_for_all.ensures ∙ c.if-some_stands_for_all.true), λ _. refl)

pub returns : goal.returns
returns c =
    let child = c.args.child.now in
    let parent = c.args.parent.now in
    let had = sym c.has_codes_of.ensures ∙ c.if-not-has_codes_of.false in
    decided child parent c.args.table.now c.in_ok-own.own c.in_ok-covered.covered c.within.result had c.in_ok-own.ensures
    (c.in_ok-covered.ensures (sym c.some_stands_for_all.ensures ∙ c.if-some_stands_for_all.false)) c.within.ensures.all c.within.ensures.outside
