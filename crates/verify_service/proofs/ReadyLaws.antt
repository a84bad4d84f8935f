-- Calls that were screened into their places are ready.
use Rattle.std.proofs.Common.{◌≡◌, ℕ, suc, ◌<◌, ◌||◌, Bool, true, false, List, [], ◌∷◌, ◌++◌, drop, get_or, length, take, refl, ap, ◌∙◌, arith, append-nil}
use Rattle.std.proofs.lemmas.List.{drop_all, take_all}
use Rattle.std.specs.List.{list_any}
use Rattle.call_log.specs.Entry.{Entry}
use Rattle.verify_rules.specs.declared.settings.Settings.{Settings}
use Rattle.verify_service.specs.Judging.{EachPair}
use Rattle.verify_service.specs.Screening.{IsReady, Screens, ScreensAt, is_open}
use Rattle.verify_service.specs.declared.screening.ReadyCall.{ReadyCall}

or_none : (b c : Bool) → (b || c) ≡ false → (b ≡ false) × (c ≡ false)
or_none true c none = absurd cc
or_none false c none = (refl, none)

abbrev pub any_open : List ReadyCall → Bool
any_open calls = list_any (λ (call : ReadyCall). is_open call.screening) calls

ready_one : (settings : Settings) (entry : Entry) (place : ReadyCall) → Screens settings entry place → is_open place.screening ≡ false → IsReady settings entry place
ready_one settings entry place screens known =
    record { number = screens.number; moment = screens.moment; screening = screens.screening; known = known; few = screens.few; last = screens.last }

-- of each, one by one
screens_all : (settings : Settings) (entries : List Entry) (places : List ReadyCall) (d : ReadyCall) (e : Entry) → length places ≡ length entries
    → ((at : ℕ) → at < length entries → Screens settings (get_or entries at e) (get_or places at d)) → any_open places ≡ false → EachPair (IsReady settings) entries places
screens_all settings [] [] d e counted screens none = tt
screens_all settings [] (place ∷ places) d e counted screens none = absurd (omega arith)
screens_all settings (entry ∷ entries) [] d e counted screens none = absurd (omega arith)
screens_all settings (entry ∷ entries) (place ∷ places) d e counted screens none =
    let parts = or_none (is_open place.screening) (any_open places) none in (
      ready_one settings entry place (screens 0 (omega arith)) parts.0,
      screens_all settings entries places d e (omega arith) (λ at less. screens (suc at) (omega arith)) parts.1,
    )

-- what was written to the places is all of them
pub written_back : {X : Type 0} (items new : List X) (n : ℕ) → n ≡ length items → length new ≡ length items → take n (new ++ drop (length new) items) ≡ new
written_back items new n many same =
    ap (λ l. take n (new ++ l)) (drop_all (length new) items (omega arith)) ∙ ap (take n) (append-nil new) ∙ take_all n new (omega arith)

pub all_ready : (settings : Settings) (entries : List Entry) (places : List ReadyCall) → length places ≡ length entries
    → ((at : ℕ) (place : ReadyCall) → at < length entries → ScreensAt settings entries at (get_or places at place)) → any_open places ≡ false
    → EachPair (IsReady settings) entries places
all_ready settings [] [] counted screens none = tt
all_ready settings [] (place ∷ places) counted screens none = absurd (omega arith)
all_ready settings (entry ∷ entries) [] counted screens none = absurd (omega arith)
all_ready settings (entry ∷ entries) (place ∷ places) counted screens none =
    screens_all settings (entry ∷ entries) (place ∷ places) place entry counted (λ at less. (screens at place less).screens entry less) none
