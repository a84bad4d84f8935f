-- A call by which all rules hold has a last PASSporT, and this is fresh.
use Rattle.std.proofs.Common.{◌≡◌, ℕ, zero, suc, ◌+◌, ◌-◌, ◌≤◌, nat_lt, Bool, true, false, List, [], ◌∷◌, ◌++◌, length, get_or, cond, Option, Some, None, Result, Ok, Err, refl, sym, ◌∙◌, ap, subst, arith, option_to_list}
use Rattle.std.specs.Prelude.{IfOk}
use Rattle.std.specs.List.{slice_get}
use Rattle.std.specs.Option.{option_or}
use Rattle.std.proofs.lemmas.Bool.{or_parts}
use Rattle.std.proofs.lemmas.Bool.Decides.{nat_tests}
use Rattle.std.proofs.lemmas.Option.{slice_get-get_or}
use Rattle.verify_rules.specs.Call.{Call, IdentityField, Reading, facts, fields_of, in_call_order, in_message, in_turn, judged_fields, links, or_none, originating, read_field, readings_of, turn_of}
use Rattle.verify_rules.specs.Rules.{HoldAll, each, early_rules, is_stale, no_originating, place, stale, unreadable, unreadable_at}
use Rattle.verify_rules.specs.Screened.{IsScreenedBy, ScreenedView, iat_or_none, last_of, screened_by, screened_of}
use Rattle.verify_rules.specs.declared.facts.Facts.{Facts}
use Rattle.verify_rules.specs.declared.refusal.Place.{Place}
use Rattle.verify_rules.specs.declared.refusal.ScreenFault.{ScreenFault}
use Rattle.verify_rules.specs.declared.settings.Settings.{Settings}
use Rattle.verify_rules.proofs.FirstLaws.{least}

-- ---- a rule that holds of each

pub here_none : (one later : Option Place) → option_or one later ≡ None → (one ≡ None) × (later ≡ None)
here_none None later e = (refl, e)
here_none (Some bad) later e = absurd cc

pub each_at : {A : Type 0} (broken : A → Option Place) (items : List A) (i : ℕ) (one : A) → each broken items ≡ None → slice_get items i ≡ Some one → broken one ≡ None
each_at broken [] zero one none e = absurd cc
each_at broken [] (suc i) one none e = absurd cc
each_at broken (item ∷ items) zero one none e =
    let same : item ≡ one = cc in ap broken (sym same) ∙ (here_none (broken item) (each broken items) none).0
each_at broken (item ∷ items) (suc i) one none e = each_at broken items i one (here_none (broken item) (each broken items) none).1 e

-- ---- one PASSporT

fresh_by : (settings : Settings) (moment iat : ℕ) (bad : Place) (t : Bool) → is_stale settings moment iat ≡ t → cond t (Some bad) None ≡ None → moment ≤ iat + settings.past
fresh_by settings moment iat bad true e h = absurd cc
fresh_by settings moment iat bad false e h =
    let o = or_parts (nat_lt (iat + settings.past) moment) (nat_lt (moment + settings.future) iat) e in grind (arith, nat_tests, o.0)

fresh_one : (settings : Settings) (moment : ℕ) (one : Reading) → stale settings moment one ≡ None → moment ≤ one.passport.iat + settings.past
unfolding stale
fresh_one settings moment one h = fresh_by settings moment one.passport.iat (place one.mark.field 0) (is_stale settings moment one.passport.iat) refl h

-- ---- there is one

pub some_origin : (o : Option IdentityField) → no_originating o ≡ None → (field : IdentityField) × (o ≡ Some field)
some_origin None e = absurd cc
some_origin (Some field) e = (field, refl)

read_by : (number : ℕ) (r : Result Reading ℕ) → unreadable_at number r ≡ None → (one : Reading) × (r ≡ Ok one)
read_by number (Ok one) e = (one, refl)
read_by number (Err part) e = absurd cc

pub read_there : (said : Facts) (field : IdentityField) → unreadable said field ≡ None → (one : Reading) × (read_field said field ≡ Ok one)
unfolding unreadable
read_there said field e = read_by field.number (read_field said field) e

pub some_message : (call : Call) → HoldAll early_rules call → (one : Reading) × (others : List Reading) × (in_message call ≡ one ∷ others)
some_message call h =
    let o = some_origin (originating (fields_of call)) h.1.1.1.0 in
    let judged : judged_fields (fields_of call) ≡ o.0 ∷ links (fields_of call) = ap (λ x. option_to_list x ++ links (fields_of call)) o.1 in
    let all : each (unreadable (facts call)) (o.0 ∷ links (fields_of call)) ≡ None = ap (each (unreadable (facts call))) (sym judged) ∙ h.1.1.1.1.1.0 in
    let r = read_there (facts call) o.0 (here_none (unreadable (facts call) o.0) (each (unreadable (facts call)) (links (fields_of call))) all).0 in
    let first : readings_of (facts call) (o.0 ∷ links (fields_of call)) ≡ r.0 ∷ readings_of (facts call) (links (fields_of call)) = rw r.1 refl in
    (r.0, readings_of (facts call) (links (fields_of call)), ap (readings_of (facts call)) judged ∙ first)

pub some_chain : (call : Call) → HoldAll early_rules call → 1 ≤ length (in_call_order call)
some_chain call h =
    let m = some_message call h in
    let chain : in_call_order call ≡ in_turn (m.0 ∷ m.1) (or_none (turn_of (facts call) (in_message call))) = ap (λ x. in_turn x (or_none (turn_of (facts call) (in_message call)))) m.2 in
    let count = ap length chain in omega (arith, count)

pub fresh_call : (call : Call) → HoldAll early_rules call → call.moment ≤ iat_or_none (last_of (in_call_order call)) + call.settings.past
fresh_call call h =
    let some = some_chain call h in
    let m = some_message call h in
    let at : slice_get (in_call_order call) (length (in_call_order call) - 1) ≡ Some (get_or (in_call_order call) (length (in_call_order call) - 1) m.0) =
    slice_get-get_or (in_call_order call) (length (in_call_order call) - 1) m.0 (omega (arith, some)) in
    let last : Reading = get_or (in_call_order call) (length (in_call_order call) - 1) m.0 in
    let one = fresh_one call.settings call.moment last (each_at (stale call.settings call.moment) (in_call_order call) (length (in_call_order call) - 1) last h.1.1.1.1.1.1.1.1.0 at) in
    subst (λ x. call.moment ≤ iat_or_none x + call.settings.past) (sym at) one

last_seen : (call : Call) (screened : ScreenedView) → screened ≡ screened_of call → screened.last ≡ iat_or_none (last_of (in_call_order call)) + call.settings.past
unfolding screened_by
last_seen call screened e = ap (λ (x : ScreenedView). x.last) e

pub still_fresh : (call : Call) (result : Result ScreenedView ScreenFault) → IsScreenedBy early_rules call result → IfOk result (λ screened. call.moment ≤ screened.last)
still_fresh call (Ok screened) h =
    let last = last_seen call screened h.1 in let fresh = fresh_call call (least early_rules call (Ok screened) h) in omega (arith, last, fresh)
still_fresh call (Err fault) h = tt
