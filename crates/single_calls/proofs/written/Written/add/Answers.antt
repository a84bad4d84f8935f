-- The line of a question that is new is written, and none of one that was asked before.
use Rattle.std.proofs.Common.{◌∙◌, List, [], ◌∷◌, subst, string_bytes}
use Rattle.cert_store.specs.Questions.{seen}
use Rattle.single_calls.specs.Written.{Writes}
use Rattle.single_calls.specs.declared.written.Triple.{Triple}
use Rattle.single_calls.proofs.WriteLaws.{was_held, was_new, writes_new, writes_old}
use Rattle.single_calls.proofs.written.Written.add.Goals as goal

pub returns-then-not-branch : goal.returns-then-not-branch
returns-then-not-branch c =
    let put = c.in_ok-insert.ensures in
    subst (λ (held : List Triple). Writes held c.insert.new.self.keys (string_bytes c.args.text.now) (string_bytes c.args.text.now) (seen c.args.question.now ∷ [])) c.self.view_is
    (writes_old c.self.inside.triples.keys c.insert.new.self.keys (string_bytes c.args.text.now) (seen c.args.question.now) put.updates.0
    (was_held c.in_ok-insert.field-0 _ put.added c.if-not-branch.true))

pub returns : goal.returns
returns c =
    let put = c.in_ok-insert.ensures in
    subst (λ (held : List Triple). Writes held c.insert.new.self.keys (string_bytes c.args.text.now) (string_bytes c.push_str.new.self) (seen c.args.question.now ∷ [])) c.self.view_is
    (writes_new c.self.inside.triples.keys c.insert.new.self.keys (string_bytes c.args.text.now) (string_bytes c.push_str.new.self) c.as_str.result.now (seen c.args.question.now)
    put.updates.0 (was_new c.in_ok-insert.field-0 _ put.added c.if-not-branch.false) (c.as_str.ensures.value ∙ c.in_ok-line.ensures) c.in_ok-push_str.ensures.bytes)
