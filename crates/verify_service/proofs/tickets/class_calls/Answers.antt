-- One call more is given its class.
use Rattle.std.proofs.Common.{◌≡◌, ◌<◌, ℕ, List, Some, get_or, length, sym, ◌∙◌, subst, arith}
use Rattle.std.specs.List.{slice_get}
use Rattle.verify_service.specs.Classes.{IsTicketOf}
use Rattle.verify_service.proofs.ClassLaws.{few_next, given_next, once_next, used_next}
use Rattle.verify_service.proofs.SeatLaws.{rest_next, set_many}
use Rattle.verify_service.proofs.tickets.class_calls.Goals as goal

pub calls-preserved : goal.calls-preserved
calls-preserved c =
    let calls = c.calls.calls in
    let before = c.args.calls.now in
    let at = c.calls.at in
    let seen = c.index-calls-at.result in
    let screening = (get_or calls at seen).screening in
    let tickets = c.calls.tickets in
    let now = c.class_of.new.tickets in
    let test = c.calls-test.true in
    let counted = c.calls.invariant.counted in
    let within : at < length calls = omega arith in
    let said = c.in_ok-class.ensures in
    record {
      end = c.calls.invariant.end ∙ sym (set_many calls at _);
      counted = set_many calls at _ ∙ counted;
      rest = rest_next calls before at _ c.calls.invariant.rest;
      once = once_next tickets screening now said.tickets c.calls.invariant.once;
      few = few_next tickets screening now at said.tickets c.calls.invariant.few;
      used = used_next tickets now calls before at seen within c.calls.invariant.rest said.tickets c.calls.invariant.used;
      given = given_next tickets now calls before at seen c.index-calls-at-in-calls.result c.in_ok-class.class within c.calls.invariant.rest said.tickets said.some said.stands
          c.calls.invariant.given;
    }

pub returns-clause-classes : goal.returns-clause-classes
returns-clause-classes c =
    let end = c.calls.invariant.end in
    let test = c.calls-test.false in
    let counted = c.calls.invariant.counted in
    let all : c.calls.at ≡ length c.args.calls.now = omega (arith, end, test, counted, c.calls.auto.at-end) in
    record {
      tickets = c.calls.tickets;
      once = c.calls.invariant.once;
      counted = (let size = c.count.ensures in let least = c.calls.invariant.few in let most = c.requires.few in omega arith);
      few = (let size = c.count.ensures in let least = c.calls.invariant.few in let most = c.requires.few in omega arith);
      same = counted;
      used = subst (λ n. (i : ℕ) (ticket : List ℕ) → slice_get c.calls.tickets i ≡ Some ticket → IsTicketOf n c.args.calls.now ticket) all c.calls.invariant.used;
      each = λ k d less. c.calls.invariant.given k d (omega (arith, all, less));
    }
