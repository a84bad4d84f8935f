-- The calls of a round beside their rows, as the replay rule sees them.
use Rattle.std.proofs.Common.{◌≡◌, ℕ, zero, suc, true, false, List, [], ◌∷◌, length, unwrap_or, Option, Some, None, Ok, refl, sym, ap, subst, arith}
use Rattle.std.proofs.lemmas.Option.{same_Some}
use Rattle.std.specs.List.{slice_get}
use Rattle.std.specs.Option.{option_map}
use Rattle.call_log.specs.Entry.{Entry}
use Rattle.replay_desk.specs.Past.{PastView, found}
use Rattle.state_text.specs.declared.kept.Kept.{Kept as Passed}
use Rattle.replay_law.specs.Held.{Kept}
use Rattle.replay_law.specs.Row.{Row, Stands, neither, valid}
use Rattle.verify_rules.specs.Call.{Call}
use Rattle.verify_rules.specs.Rules.{early_rules}
use Rattle.verify_rules.specs.Screened.{IsScreenedBy, ScreenedView, digest_in, last_of, last_of_call, ticket_of}
use Rattle.verify_rules.specs.declared.settings.Settings.{Settings}
use Rattle.verify_service.specs.Carrying.{out_at}
use Rattle.call_judging.specs.Judging.{last_second, ticket_or_none}
use Rattle.verify_service.specs.Judging.{EachPair}
use Rattle.verify_service.specs.Ready.{is_passed, ticket_in}
use Rattle.verify_service.specs.Rows.{answer_of, held, kept_of_past, passes, row_of, rows_of}
use Rattle.verify_service.specs.Screening.{IsReady, IsScreening, last_in}
use Rattle.verify_service.specs.declared.outcome.Outcome.{Outcome}
use Rattle.verify_service.specs.declared.outcome.Outcome.TheVariants as outcomes
use Rattle.verify_service.specs.declared.screening.ReadyCall.{ReadyCall}
use Rattle.verify_service.specs.declared.screening.Screening.{Screening}
use Rattle.verify_service.specs.declared.screening.Screening.TheVariants as screenings
use Rattle.verify_service.proofs.TestLaws.{false_is_not_true}

-- what is said of the screened, as the laws of the rules have it
pub record ScreenedLaws : Type 0 where
  pub ticket : (call : Call) (screened : ScreenedView) → IsScreenedBy early_rules call (Ok screened) → option_map digest_in (last_of screened.readings) ≡ ticket_of call
  pub last : (call : Call) (screened : ScreenedView) → IsScreenedBy early_rules call (Ok screened) → screened.last ≡ last_of_call call

pub ticket_is : ScreenedLaws → (call : Call) (one : Screening) → is_passed one ≡ true → IsScreening call one → ticket_in one ≡ ticket_or_none call
unfolding ticket_or_none
ticket_is laws call screenings.Open passed is = absurd (false_is_not_true passed)
ticket_is laws call (screenings.Refused refused) passed is = absurd (false_is_not_true passed)
ticket_is laws call (screenings.Passed screened) passed is = ap (λ (o : Option (List ℕ)). unwrap_or o []) (laws.ticket call screened is)

pub last_is : ScreenedLaws → (call : Call) (one : Screening) → is_passed one ≡ true → IsScreening call one → last_in one ≡ last_second call
unfolding last_second
last_is laws call screenings.Open passed is = absurd (false_is_not_true passed)
last_is laws call (screenings.Refused refused) passed is = absurd (false_is_not_true passed)
last_is laws call (screenings.Passed screened) passed is = laws.last call screened is

-- ---- the rows of a round

-- the call at a place, with its row
pub record RowAt (settings : Settings) (entries : List Entry) (calls : List ReadyCall) (outs : List Outcome) (at : ℕ) (row : Row) : Type 0 where
  pub entry : Entry
  pub call : ReadyCall
  pub stands : slice_get calls at ≡ Some call
  pub ready : IsReady settings entry call
  pub is : row ≡ row_of settings entry (out_at outs at)

pub row_at : (settings : Settings) (entries : List Entry) (calls : List ReadyCall) (outs : List Outcome) (at : ℕ) (row : Row) → EachPair (IsReady settings) entries calls
    → Stands (rows_of settings entries outs) at row → RowAt settings entries calls outs at row
row_at settings [] calls outs at row ready stands = absurd cc
row_at settings (e ∷ entries) [] outs at row ready stands = absurd ready
row_at settings (e ∷ entries) (c ∷ calls) [] at row ready stands = absurd cc
row_at settings (e ∷ entries) (c ∷ calls) (o ∷ outs) zero row ready stands =
    record { entry = e; call = c; stands = refl; ready = ready.0; is = sym (same_Some (row_of settings e o) row stands) }
row_at settings (e ∷ entries) (c ∷ calls) (o ∷ outs) (suc at) row ready stands =
    let further = row_at settings entries calls outs at row ready.1 stands in
    record { entry = further.entry; call = further.call; stands = further.stands; ready = further.ready; is = further.is }

pub record CallAt (settings : Settings) (entries : List Entry) (outs : List Outcome) (at : ℕ) (call : ReadyCall) : Type 0 where
  pub entry : Entry
  pub ready : IsReady settings entry call
  pub stands : Stands (rows_of settings entries outs) at (row_of settings entry (out_at outs at))

pub call_at : (settings : Settings) (entries : List Entry) (calls : List ReadyCall) (outs : List Outcome) (at : ℕ) (call : ReadyCall) → length outs ≡ length entries
    → EachPair (IsReady settings) entries calls → slice_get calls at ≡ Some call → CallAt settings entries outs at call
call_at settings [] [] outs at call counted ready stands = absurd cc
call_at settings [] (c ∷ calls) outs at call counted ready stands = absurd ready
call_at settings (e ∷ entries) [] outs at call counted ready stands = absurd ready
call_at settings (e ∷ entries) (c ∷ calls) [] at call counted ready stands = absurd (omega arith)
call_at settings (e ∷ entries) (c ∷ calls) (o ∷ outs) zero call counted ready stands =
    record { entry = e; ready = subst (IsReady settings e) (same_Some c call stands) ready.0; stands = refl }
call_at settings (e ∷ entries) (c ∷ calls) (o ∷ outs) (suc at) call counted ready stands =
    let further = call_at settings entries calls outs at call (omega arith) ready.1 stands in
    record { entry = further.entry; ready = further.ready; stands = further.stands }

-- ---- answers

pub answer_neither : (o : Outcome) → passes o ≡ false → answer_of o ≡ neither
answer_neither outcomes.Valid fails = absurd (false_is_not_true (sym fails))
answer_neither (outcomes.Refused refused) fails = refl
answer_neither (outcomes.Replay winner) fails = absurd (false_is_not_true (sym fails))
answer_neither (outcomes.Unread bad) fails = refl
answer_neither (outcomes.Unasked bad) fails = refl

pub answer_valid : (o : Outcome) → answer_of o ≡ valid → o ≡ outcomes.Valid
answer_valid outcomes.Valid is = refl
answer_valid (outcomes.Refused refused) is = absurd cc
answer_valid (outcomes.Replay winner) is = absurd cc
answer_valid (outcomes.Unread bad) is = absurd cc
answer_valid (outcomes.Unasked bad) is = absurd cc

-- what a call that passes was answered
pub data PassOutcome (o : Outcome) : Type 0 where
  is_valid : o ≡ outcomes.Valid → PassOutcome o
  is_replay : (winner : ℕ) → o ≡ outcomes.Replay winner → PassOutcome o

pub pass_outcome : (o : Outcome) → passes o ≡ true → PassOutcome o
pass_outcome outcomes.Valid pass = is_valid refl
pass_outcome (outcomes.Refused refused) pass = absurd (false_is_not_true pass)
pass_outcome (outcomes.Replay winner) pass = is_replay winner refl
pass_outcome (outcomes.Unread bad) pass = absurd (false_is_not_true pass)
pass_outcome (outcomes.Unasked bad) pass = absurd (false_is_not_true pass)

-- ---- the past

pub none_held : (past : PastView) (ticket : List ℕ) → found past ticket ≡ None → held past ticket ≡ None
none_held past ticket is = ap (option_map kept_of_past) is

pub held_some : (past : PastView) (ticket : List ℕ) (passed : Passed) → found past ticket ≡ Some passed → held past ticket ≡ Some (kept_of_past passed)
held_some past ticket passed is = ap (option_map kept_of_past) is

pub apart_kept : (o : Option Kept) (kept : Kept) → o ≡ Some kept → o ≡ None → ⊥
apart_kept o kept some none = cc

pub apart_passed : (o : Option Passed) (kept : Passed) → o ≡ Some kept → o ≡ None → ⊥
apart_passed o kept some none = cc

pub same_kept : (a b : Kept) → ◌≡◌ {A = Option Kept} (Some a) (Some b) → a ≡ b
same_kept a b e = same_Some a b e
