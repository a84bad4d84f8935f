-- The classes of a round: one for each ticket, counted from 0 in the order in which the tickets first appear (this
-- project's own rule).
use Rattle.std.specs.Prelude.{◌≡◌, ◌<◌, ◌≤◌, ℕ, true, List, [], ◌∷◌, length, get_or, is_some, Some}
use Rattle.std.specs.List.{slice_get}
use Rattle.cert_store.specs.Using.{IsOnce}
use Rattle.verify_service.specs.Ready.{class_in, is_passed, ticket_by, ticket_in}
use Rattle.verify_service.specs.declared.screening.ReadyCall.{ReadyCall}
use Rattle.verify_service.specs.declared.screening.Screening.{Screening}
use Rattle.verify_service.specs.declared.screening.Screening.TheVariants.{Open, Refused, Passed}

-- its ticket, if the rules of the call don't refuse it
abbrev pub tickets_in : Screening → List (List ℕ)
tickets_in Open = []
tickets_in (Refused refused) = []
tickets_in (Passed screened) = ticket_by screened.readings ∷ []

-- The call is given the class of its ticket, which is the index of this among the tickets, if the rules of the call
-- don't refuse it; all else of it stays.
pub record IsGivenClass (tickets : List (List ℕ)) (old new : ReadyCall) : Type 0 where
  pub number : new.number ≡ old.number
  pub moment : new.moment ≡ old.moment
  pub screening : new.screening ≡ old.screening
  pub some : is_some new.class ≡ is_passed new.screening
  pub ticket : is_passed new.screening ≡ true → slice_get tickets (class_in new) ≡ Some (ticket_in new.screening)

-- the ticket is that of one of the first calls, if the rules of the call don't refuse it
abbrev pub IsTicketOf : ℕ → List ReadyCall → List ℕ → Type 0
IsTicketOf count calls ticket = (at : ℕ) × (at < count) × ((d : ReadyCall)
    → (is_passed (get_or calls at d).screening ≡ true) × (ticket_in (get_or calls at d).screening ≡ ticket))

-- Each call is given its class, of so many, and each of these is given to some call.
pub record AreGivenClasses (count : ℕ) (old new : List ReadyCall) : Type 0 where
  pub tickets : List (List ℕ)
  pub once : IsOnce tickets
  pub counted : length tickets ≡ count
  pub few : count ≤ length old
  pub same : length new ≡ length old
  pub used : (class : ℕ) (ticket : List ℕ) → slice_get tickets class ≡ Some ticket → IsTicketOf (length old) old ticket
  pub each : (at : ℕ) (d : ReadyCall) → at < length old → IsGivenClass tickets (get_or old at d) (get_or new at d)
