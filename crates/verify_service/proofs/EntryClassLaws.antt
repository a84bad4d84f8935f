-- The classes of the calls of a round, as those see them who know the calls of the log.
use Rattle.std.proofs.Common.{◌≡◌, ◌≢◌, ℕ, zero, suc, ◌<◌, true, false, List, [], ◌∷◌, is_some, length, map, unwrap_or, Option, Some, None, refl, sym, ap, ◌∙◌, subst, arith}
use Rattle.std.proofs.lemmas.Option.{same_Some}
use Rattle.std.specs.List.{slice_get}
use Rattle.call_log.specs.Entry.{Entry}
use Rattle.verify_rules.specs.Call.{Call}
use Rattle.verify_rules.specs.Rules.{early_rules, first}
use Rattle.verify_rules.specs.declared.refusal.Refusal.{Refusal}
use Rattle.verify_rules.specs.declared.settings.Settings.{Settings}
use Rattle.verify_service.specs.Carried.{AreClasses}
use Rattle.verify_service.specs.Carrying.{out_at}
use Rattle.call_judging.specs.Judging.{ticket_or_none}
use Rattle.verify_service.specs.Judging.{EachPair, call_in}
use Rattle.verify_service.specs.Ready.{AreClassed, class_in, is_passed, ticket_in}
use Rattle.verify_service.specs.Screening.{IsReady, IsScreening, is_open}
use Rattle.verify_service.specs.declared.outcome.Outcome.{Outcome}
use Rattle.verify_service.specs.declared.screening.ReadyCall.{ReadyCall}
use Rattle.verify_service.specs.declared.screening.Screening.{Screening}
use Rattle.verify_service.specs.declared.screening.Screening.TheVariants as screenings
use Rattle.verify_service.proofs.CallRowLaws.{ScreenedLaws, ticket_is}
use Rattle.verify_service.proofs.TestLaws.{false_is_not_true}

-- ---- what is at an index

pub out_some : (outs : List Outcome) (at : ℕ) (o : Outcome) → slice_get outs at ≡ Some o → out_at outs at ≡ o
out_some [] at o is = absurd cc
out_some (x ∷ outs) zero o is = same_Some x o is
out_some (x ∷ outs) (suc at) o is = out_some outs at o is

pub some_out : (outs : List Outcome) (at : ℕ) → at < length outs → slice_get outs at ≡ Some (out_at outs at)
some_out [] at within = absurd (omega arith)
some_out (x ∷ outs) zero within = refl
some_out (x ∷ outs) (suc at) within = some_out outs at (omega arith)

mapped : {X Y : Type 0} → (f : X → Y) (xs : List X) (at : ℕ) (x : X) → slice_get xs at ≡ Some x → slice_get (map f xs) at ≡ Some (f x)
mapped f [] at x is = absurd cc
mapped f (y ∷ ys) zero x is = ap (λ v. Some (f v)) (same_Some y x is)
mapped f (y ∷ ys) (suc at) x is = mapped f ys at x is

-- a call of the log, beside itself as it was screened
pub record Beside (settings : Settings) (calls : List ReadyCall) (at : ℕ) (entry : Entry) : Type 0 where
  pub call : ReadyCall
  pub stands : slice_get calls at ≡ Some call
  pub ready : IsReady settings entry call

pub beside : (settings : Settings) (entries : List Entry) (calls : List ReadyCall) (at : ℕ) (entry : Entry) → EachPair (IsReady settings) entries calls → slice_get entries at ≡ Some entry
    → Beside settings calls at entry
beside settings [] calls at entry ready is = absurd cc
beside settings (e ∷ entries) [] at entry ready is = absurd ready
beside settings (e ∷ entries) (c ∷ calls) zero entry ready is =
    record { call = c; stands = refl; ready = subst (λ (x : Entry). IsReady settings x c) (same_Some e entry is) ready.0 }
beside settings (e ∷ entries) (c ∷ calls) (suc at) entry ready is =
    let further = beside settings entries calls at entry ready.1 is in
    record { call = further.call; stands = further.stands; ready = further.ready }

pub record OfLog (settings : Settings) (entries : List Entry) (at : ℕ) (call : ReadyCall) : Type 0 where
  pub entry : Entry
  pub stands : slice_get entries at ≡ Some entry
  pub ready : IsReady settings entry call

pub of_log : (settings : Settings) (entries : List Entry) (calls : List ReadyCall) (at : ℕ) (call : ReadyCall) → EachPair (IsReady settings) entries calls → slice_get calls at ≡ Some call
    → OfLog settings entries at call
of_log settings [] [] at call ready is = absurd cc
of_log settings [] (c ∷ calls) at call ready is = absurd ready
of_log settings (e ∷ entries) [] at call ready is = absurd cc
of_log settings (e ∷ entries) (c ∷ calls) zero call ready is = record { entry = e; stands = refl; ready = subst (IsReady settings e) (same_Some c call is) ready.0 }
of_log settings (e ∷ entries) (c ∷ calls) (suc at) call ready is =
    let further = of_log settings entries calls at call ready.1 is in
    record { entry = further.entry; stands = further.stands; ready = further.ready }

-- ---- classes

class_some : (class : Option ℕ) → is_some class ≡ true → class ≡ Some (unwrap_or class 0)
class_some None some = absurd (false_is_not_true some)
class_some (Some k) some = refl

class_none : (class : Option ℕ) → is_some class ≡ false → class ≡ None
class_none None none = refl
class_none (Some k) none = absurd (false_is_not_true (sym none))

none_class : (class : Option ℕ) → class ≡ None → is_some class ≡ false
none_class class is = ap is_some is

abbrev pub ClassedCall : ReadyCall → Type 0
ClassedCall call = is_some call.class ≡ is_passed call.screening

apart_refusal : (o : Option Refusal) (refused : Refusal) → o ≡ Some refused → o ≡ None → ⊥
apart_refusal o refused some none = cc

first_passed : (call : Call) (one : Screening) → is_open one ≡ false → first early_rules call ≡ None → IsScreening call one → is_passed one ≡ true
first_passed call screenings.Open known none is = absurd (false_is_not_true (sym known))
first_passed call (screenings.Refused refused) known none is = absurd (apart_refusal (first early_rules call) refused is none)
first_passed call (screenings.Passed screened) known none is = refl

refused_first : (call : Call) (one : Screening) → is_open one ≡ false → is_passed one ≡ false → IsScreening call one → first early_rules call ≢ None
refused_first call screenings.Open known fails is = absurd (false_is_not_true (sym known))
refused_first call (screenings.Refused refused) known fails is = λ none. apart_refusal (first early_rules call) refused is none
refused_first call (screenings.Passed screened) known fails is = absurd (false_is_not_true (sym fails))

first_refused : (call : Call) (one : Screening) → first early_rules call ≢ None → IsScreening call one → is_passed one ≡ false
first_refused call screenings.Open fails is = refl
first_refused call (screenings.Refused refused) fails is = refl
first_refused call (screenings.Passed screened) fails is = absurd (fails is.0)

module _ (settings : Settings) (entries : List Entry) (calls : List ReadyCall) (laws : ScreenedLaws) (ready : EachPair (IsReady settings) entries calls) (one : AreClassed calls)
    (classed : (at : ℕ) (call : ReadyCall) → slice_get calls at ≡ Some call → ClassedCall call) where
  abbrev classes : List (Option ℕ)
  classes = map (λ (call : ReadyCall). call.class) calls

  pub class_at : (at : ℕ) (call : ReadyCall) → slice_get calls at ≡ Some call → slice_get classes at ≡ Some call.class
  class_at at call stands = mapped (λ (c : ReadyCall). c.class) calls at call stands

  pub some_at : (at : ℕ) (call : ReadyCall) → slice_get calls at ≡ Some call → is_passed call.screening ≡ true → slice_get classes at ≡ Some (Some (class_in call))
  some_at at call stands passed = class_at at call stands ∙ ap Some (class_some call.class (classed at call stands ∙ passed))

  -- ---- which calls have which class

  refused_if : (at : ℕ) (entry : Entry) → Beside settings calls at entry → slice_get classes at ≡ Some None → first early_rules (call_in settings entry) ≢ None
  refused_if at entry b none =
      let same : b.call.class ≡ None = same_Some b.call.class None (sym (class_at at b.call b.stands) ∙ none) in
      refused_first (call_in settings entry) b.call.screening b.ready.known (sym (classed at b.call b.stands) ∙ none_class b.call.class same) b.ready.screening

  none_if : (at : ℕ) (entry : Entry) → Beside settings calls at entry → first early_rules (call_in settings entry) ≢ None → slice_get classes at ≡ Some None
  none_if at entry b fails =
      class_at at b.call b.stands ∙ ap Some (class_none b.call.class (classed at b.call b.stands ∙ first_refused (call_in settings entry) b.call.screening fails b.ready.screening))

  same_number : (a b : ℕ) → ◌≡◌ {A = Option (Option ℕ)} (Some (Some a)) (Some (Some b)) → a ≡ b
  same_number a b e = same_Some a b (same_Some (Some a) (Some b) e)

  module _ (at other : ℕ) (entry second : Entry) (b : Beside settings calls at entry) (d : Beside settings calls other second) (pass : first early_rules (call_in settings entry) ≡ None)
      (pass_too : first early_rules (call_in settings second) ≡ None) where
    through : is_passed b.call.screening ≡ true
    through = first_passed (call_in settings entry) b.call.screening b.ready.known pass b.ready.screening

    through_too : is_passed d.call.screening ≡ true
    through_too = first_passed (call_in settings second) d.call.screening d.ready.known pass_too d.ready.screening

    ticket : ticket_in b.call.screening ≡ ticket_or_none (call_in settings entry)
    ticket = ticket_is laws (call_in settings entry) b.call.screening through b.ready.screening

    ticket_too : ticket_in d.call.screening ≡ ticket_or_none (call_in settings second)
    ticket_too = ticket_is laws (call_in settings second) d.call.screening through_too d.ready.screening

    one_ticket : slice_get classes at ≡ slice_get classes other → ticket_or_none (call_in settings entry) ≡ ticket_or_none (call_in settings second)
    one_ticket same =
        sym ticket
        ∙ one.one_ticket at other b.call d.call b.stands d.stands through through_too
        (same_number (class_in b.call) (class_in d.call) (sym (some_at at b.call b.stands through) ∙ same ∙ some_at other d.call d.stands through_too))
        ∙ ticket_too

    one_class : ticket_or_none (call_in settings entry) ≡ ticket_or_none (call_in settings second) → slice_get classes at ≡ slice_get classes other
    one_class same =
        some_at at b.call b.stands through
        ∙ ap (λ n. Some (Some n)) (one.one_class at other b.call d.call b.stands d.stands through through_too (ticket ∙ same ∙ sym ticket_too))
        ∙ sym (some_at other d.call d.stands through_too)

  pub are_classes : AreClasses settings entries classes
  are_classes = record {
    refused = λ at entry stands. let b = beside settings entries calls at entry ready stands in (refused_if at entry b, none_if at entry b);
    same = λ at other entry second stands there pass pass_too.
        let b = beside settings entries calls at entry ready stands in
        let d = beside settings entries calls other second ready there in
        (one_ticket at other entry second b d pass pass_too, one_class at other entry second b d pass pass_too);
  }
