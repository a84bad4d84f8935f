-- What a text is, it is read as, and as nothing else: in either form.
use Rattle.std.proofs.Common.{◌≡◌, true, false, codes, sym, arith}
use Rattle.std.specs.Bool.{nat_eq}
use Rattle.std.specs.List.{starts_with}
use Rattle.passport_json.proofs.CompactLaws.{only_dots, only_else, read_again, read_unique}
use Rattle.passport_json.proofs.RefusedLaws.{only_refused_dots, only_refused_else, refused_dots, refused_else}
use Rattle.passport_json.specs.Seen.{call_of}
use Rattle.passport_json.proofs.token.Token.read.Goals as goal

pub returns-then-starts_with-clause-only : goal.returns-then-starts_with-clause-only
returns-then-starts_with-clause-only c =
    let dots : starts_with nat_eq c.args.text.now (codes "..") ≡ true = sym c.if-starts_with.ensures.value in
    only_dots c.args.text.now (call_of c.args.view.now) c.checked_compact.result dots c.checked_compact.ensures.exact

pub returns-then-starts_with-clause-unique : goal.returns-then-starts_with-clause-unique
returns-then-starts_with-clause-unique c = read_unique c.args.text.now (call_of c.args.view.now)

pub returns-else-starts_with-clause-only : goal.returns-else-starts_with-clause-only
returns-else-starts_with-clause-only c =
    let none : starts_with nat_eq c.args.text.now (codes "..") ≡ false = sym c.if-starts_with.ensures.value in
    only_else c.args.text.now (call_of c.args.view.now) c.read_full.result none c.read_full.ensures.exact

pub returns-else-starts_with-clause-unique : goal.returns-else-starts_with-clause-unique
returns-else-starts_with-clause-unique c = read_unique c.args.text.now (call_of c.args.view.now)

pub returns-then-starts_with-clause-read_again : goal.returns-then-starts_with-clause-read_again
returns-then-starts_with-clause-read_again c = read_again c.args.text.now (call_of c.args.view.now)

pub returns-else-starts_with-clause-read_again : goal.returns-else-starts_with-clause-read_again
returns-else-starts_with-clause-read_again c = read_again c.args.text.now (call_of c.args.view.now)

pub returns-then-starts_with-clause-refused : goal.returns-then-starts_with-clause-refused
returns-then-starts_with-clause-refused c =
    refused_dots c.args.text.now (call_of c.args.view.now) c.checked_compact.result (λ i. omega (arith, c.type_inv.text i)) (sym c.if-starts_with.ensures.value)
    c.checked_compact.ensures.exact

pub returns-then-starts_with-clause-only_refused : goal.returns-then-starts_with-clause-only_refused
returns-then-starts_with-clause-only_refused c =
    only_refused_dots c.args.text.now (call_of c.args.view.now) c.checked_compact.result (λ i. omega (arith, c.type_inv.text i)) (sym c.if-starts_with.ensures.value)
    c.checked_compact.ensures.exact

pub returns-else-starts_with-clause-refused : goal.returns-else-starts_with-clause-refused
returns-else-starts_with-clause-refused c =
    refused_else c.args.text.now (call_of c.args.view.now) c.read_full.result (λ i. omega (arith, c.type_inv.text i)) (sym c.if-starts_with.ensures.value)
    c.read_full.ensures.exact

pub returns-else-starts_with-clause-only_refused : goal.returns-else-starts_with-clause-only_refused
returns-else-starts_with-clause-only_refused c =
    only_refused_else c.args.text.now (call_of c.args.view.now) c.read_full.result (λ i. omega (arith, c.type_inv.text i)) (sym c.if-starts_with.ensures.value)
    c.read_full.ensures.exact
