-- The public clauses are laws of `flags_in`.
use Rattle.der_reader.proofs.FlagLaws.{flags_answer_found, flags_answer_again}
use Rattle.der_reader.proofs.element.Der.flags.Goals as goal

pub returns-then-self-eq-BIT_STRING-clause-found : goal.returns-then-self-eq-BIT_STRING-clause-found
returns-then-self-eq-BIT_STRING-clause-found c = flags_answer_found c.args.self.now.tag c.args.self.now.content.now c.flags_in.result c.flags_in.ensures.octets c.if-self-eq-BIT_STRING.true c.flags_in.ensures.exact

pub returns-then-self-eq-BIT_STRING-clause-only : goal.returns-then-self-eq-BIT_STRING-clause-only
returns-then-self-eq-BIT_STRING-clause-only c = λ flags tag text small. flags_answer_again c.args.self.now.content.now c.flags_in.result c.flags_in.ensures.octets c.flags_in.ensures.exact flags text small
