-- Why calls are set aside: at which files and which questions, counted once each.
use Rattle.std.specs.Prelude.{◌≡◌, ℕ, ◌+◌, ◌==◌, Bool, true, false, List, [], ◌∷◌, length, filter, if◌then◌else◌}
use Rattle.std.specs.List.{list_any}
use Rattle.cert_store.specs.Using.{has}
use Rattle.std.specs.Str.{bytes_eq}
use Rattle.call_log.specs.Entry.{Entry}
use Rattle.stir_outside.specs.Count.{AtMost}
use Rattle.verify_rules.specs.Call.{Call, Reading, in_call_order}
use Rattle.verify_rules.specs.declared.refusal.Place.{Place}
use Rattle.verify_rules.specs.declared.settings.Settings.{Settings}
use Rattle.verify_service.specs.Judging.{call_in}
use Rattle.call_judging.specs.Causes.{HasCauseIf}
use Rattle.verify_service.specs.declared.outcome.Outcome.{Outcome}
use Rattle.verify_service.specs.declared.outcome.Outcome.TheVariants.{Valid, Refused, Replay, Unread, Unasked}

-- ---- the texts at which calls are set aside

abbrev pub x5u_in : List Reading → Place → List ℕ
x5u_in [] bad = []
x5u_in (one ∷ others) bad = if one.mark.field == bad.field then one.passport.x5u else x5u_in others bad

-- the x5u of the PASSporT at this place
unfoldable pub x5u_at : Call → Place → List ℕ
x5u_at call bad = x5u_in (in_call_order call) bad

-- a text joins others, unless it is one of them
abbrev pub joined : List ℕ → List (List ℕ) → List (List ℕ)
joined text texts = if list_any (bytes_eq text) texts then texts else text ∷ texts

abbrev pub with_unread : Call → Outcome → List (List ℕ) → List (List ℕ)
with_unread call Valid texts = texts
with_unread call (Refused refused) texts = texts
with_unread call (Replay winner) texts = texts
with_unread call (Unread bad) texts = joined (x5u_at call bad) texts
with_unread call (Unasked bad) texts = texts

-- the different x5u texts at which calls are unread
abbrev pub unread_texts : Settings → List Entry → List Outcome → List (List ℕ)
unread_texts settings [] outcomes = []
unread_texts settings (entry ∷ entries) [] = []
unread_texts settings (entry ∷ entries) (outcome ∷ outcomes) =
    with_unread (call_in settings entry) outcome (unread_texts settings entries outcomes)

-- the place is that of a PASSporT's own signature, and not of a certificate's
abbrev pub is_passport : Place → Bool
is_passport bad = bad.part == 0

abbrev pub with_unasked : Call → Outcome → List (List ℕ) → List (List ℕ)
with_unasked call Valid texts = texts
with_unasked call (Refused refused) texts = texts
with_unasked call (Replay winner) texts = texts
with_unasked call (Unread bad) texts = texts
with_unasked call (Unasked bad) texts = if is_passport bad then texts else joined (x5u_at call bad) texts

-- the different x5u texts at which the signature of a certificate is left open
abbrev pub unasked_texts : Settings → List Entry → List Outcome → List (List ℕ)
unasked_texts settings [] outcomes = []
unasked_texts settings (entry ∷ entries) [] = []
unasked_texts settings (entry ∷ entries) (outcome ∷ outcomes) =
    with_unasked (call_in settings entry) outcome (unasked_texts settings entries outcomes)

-- the signature of a PASSporT of the call is left open
abbrev pub is_unasked_passport : Outcome → Bool
is_unasked_passport Valid = false
is_unasked_passport (Refused refused) = false
is_unasked_passport (Replay winner) = false
is_unasked_passport (Unread bad) = false
is_unasked_passport (Unasked bad) = is_passport bad

-- ---- counted

-- the x5u texts at which a call is unread are at most as many as faults of the shelf were counted
abbrev pub UnreadIsCounted : Settings → List Entry → ℕ → ℕ → List Outcome → Type 0
UnreadIsCounted settings entries faults faults_now outcomes =
    AtMost (length (unread_texts settings entries outcomes)) faults faults_now

-- At most as many as faults of a worker's provider were counted, together: its x5u texts at which the signature of a
-- certificate is left open, and its calls in which that of a PASSporT is. `own` is what came of its calls.
abbrev pub UnaskedIsCounted : Settings → List Entry → List (List ℕ) → List Outcome → ℕ → ℕ → List Outcome → Type 0
UnaskedIsCounted settings entries texts own faults faults_now outcomes =
    AtMost (length (filter (λ x5u. has x5u texts) (unasked_texts settings entries outcomes))
    + length (filter is_unasked_passport own)) faults faults_now

-- ---- none

abbrev pub is_unread : Outcome → Bool
is_unread Valid = false
is_unread (Refused refused) = false
is_unread (Replay winner) = false
is_unread (Unread bad) = true
is_unread (Unasked bad) = false

abbrev pub is_unasked : Outcome → Bool
is_unasked Valid = false
is_unasked (Refused refused) = false
is_unasked (Replay winner) = false
is_unasked (Unread bad) = false
is_unasked (Unasked bad) = true

abbrev pub NoneUnread : List Outcome → Type 0
NoneUnread outcomes = list_any is_unread outcomes ≡ false

abbrev pub NoneUnasked : List Outcome → Type 0
NoneUnasked outcomes = list_any is_unasked outcomes ≡ false

-- ---- of calls by themselves, or of files

-- At most as many of these are set aside as faults were counted, and one only if the count rose.
pub record AreCounted {X : Type 0} (set_aside : X → Bool) (xs : List X) (faults faults_now : ℕ) : Type 0 where
  pub most : AtMost (length (filter set_aside xs)) faults faults_now
  pub cause : HasCauseIf (list_any set_aside xs) faults faults_now
