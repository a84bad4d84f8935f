-- Each call before the index has its class; the others are what they were.
use Rattle.std.proofs.Common.{◌≡◌, ◌<◌, ◌≤◌, ℕ, List, drop, length, slice_index_or, Some}
use Rattle.std.specs.List.{slice_get}
use Rattle.cert_store.specs.Using.{IsOnce}
use Rattle.verify_service.specs.Classes.{IsGivenClass, IsTicketOf}
use Rattle.verify_service.proofs.tickets.class_calls.Given as goal

abbrev pub invariant-calls : goal.invariant-calls
invariant-calls l = record {
  end : l.at-end ≡ length l.calls;
  counted : length l.calls ≡ length l.fn.calls;
  rest : drop l.at l.calls ≡ drop l.at l.fn.calls;
  once : IsOnce l.tickets;
  few : length l.tickets ≤ l.at;
  used : (i : ℕ) (ticket : List ℕ) → slice_get l.tickets i ≡ Some ticket → IsTicketOf l.at l.fn.calls ticket;
  given : (k : ℕ) (d : _) → k < l.at → IsGivenClass l.tickets (slice_index_or l.fn.calls k d) (slice_index_or l.calls k d);
}
