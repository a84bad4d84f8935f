-- If the links have an order, the PASSporTs in call order are those in the order in which the call went.
use Rattle.std.proofs.Common.{◌≡◌, ℕ, List, [], ◌∷◌, ◌++◌, length, map, slice_index_or, Result, Ok, Err, option_to_list, refl, sym, ap, subst, arith}
use Rattle.std.proofs.lemmas.List.{length-map}
use Rattle.std.proofs.lemmas.Option.{slice_get-get_or}
use Rattle.passport_claims.specs.Links.{AreWithin}
use Rattle.verify_rules.specs.Call.{Call, IdentityField, Reading, called_by, facts, fields_of, in_call_order, in_message, in_turn, judged_fields, links, or_none, originating, passport_in, passports_of, turn_of}
use Rattle.verify_rules.specs.Rules.{early_rules}
use Rattle.verify_rules.specs.Screened.{IsScreenedBy, ScreenedView, screened_by, screened_of}
use Rattle.verify_rules.specs.Went.{AreAt, AreCalled, IsCalledNow, WentSo}
use Rattle.verify_rules.specs.Words.{AreRead, CallHasOrder, HasOrder, MayOriginate, Means, OfOne, SpeaksOfOrder, SpeaksOfRead}
use Rattle.verify_rules.specs.declared.facts.Facts.{Facts}
use Rattle.verify_rules.specs.declared.refusal.ScreenFault.{ScreenFault}
use Rattle.verify_rules.specs.declared.refusal.ScreenFault.TheVariants.{Refused, Memory}
use Rattle.verify_rules.proofs.FreshLaws.{some_origin}
use Rattle.verify_rules.proofs.OrderWords.{OrderLaw}
use Rattle.verify_rules.proofs.WordSteps.{origin_means}

-- ---- of PASSporTs

pub now_of : (said : Facts) (links : List Reading) → IsCalledNow said links (called_by said links)
now_of said [] = record { undiverted = λ e. refl; diverted = λ some. absurd (omega (arith, some)) }
now_of said (link ∷ links) = record { undiverted = λ e. absurd (omega (arith, e)); diverted = λ some. refl }

abbrev pub called_of : (said : Facts) (origin : Reading) (links : List Reading) → AreCalled said (origin ∷ links)
called_of said origin links = record { origin = origin; links = links; are = refl; called = called_by said links; now = now_of said links }

are_at : (origin : Reading) (others : List Reading) (turn : List ℕ) → AreWithin (length others) turn
    → AreAt (origin ∷ others) turn (map (λ link. slice_index_or (origin ∷ others) link origin) turn)
are_at origin others [] w = tt
are_at origin others (link ∷ turn) w =
    let high = w.0.high in (slice_get-get_or (origin ∷ others) link origin (omega (arith, high)), are_at origin others turn w.1)

went_so : OrderLaw → (said : Facts) (origin : Reading) (others : List Reading) → HasOrder said (origin ∷ others)
    → WentSo said (origin ∷ others) (in_turn (origin ∷ others) (or_none (turn_of said (origin ∷ others))))
went_so law said origin others (turn, order) =
    let found : turn_of said (origin ∷ others) ≡ Ok turn = (law origin.passport (passports_of others) (called_by said others) turn).1 order in
    record {
      of = called_of said origin others;
      turn = turn;
      order = order;
      later = map (λ link. slice_index_or (origin ∷ others) link origin) turn;
      first = ap (λ x. in_turn (origin ∷ others) (or_none x)) found;
      each = are_at origin others turn (subst (λ (count : ℕ). AreWithin count turn) (length-map others passport_in) order.once.within);
    }

-- ---- of a call

-- there is an originating one
abbrev Begins : List Reading → Type 0
Begins readings = (origin : Reading) × (others : List Reading) × (readings ≡ origin ∷ others)

first_read : (said : Facts) (field : IdentityField) (fields : List IdentityField) (readings : List Reading) → AreRead said (field ∷ fields) readings → Begins readings
first_read said field fields [] h = absurd h
first_read said field fields (one ∷ readings) h = (one, readings, refl)

some_read : (said : Facts) (fields : List IdentityField) (readings : List Reading) → OfOne MayOriginate fields → AreRead said (judged_fields fields) readings → Begins readings
some_read said fields readings may h =
    let o = some_origin (originating fields) ((origin_means fields).1 may) in
    let judged : judged_fields fields ≡ o.0 ∷ links fields = ap (λ x. option_to_list x ++ links fields) o.1 in
    first_read said o.0 (links fields) readings (subst (λ (x : List IdentityField). AreRead said x readings) judged h)

went_call : OrderLaw → (call : Call) → OfOne MayOriginate (fields_of call) → AreRead (facts call) (judged_fields (fields_of call)) (in_message call) → CallHasOrder call
    → WentSo (facts call) (in_message call) (in_call_order call)
went_call law call may read has =
    let b = some_read (facts call) (fields_of call) (in_message call) may read in
    subst (λ (x : List Reading). WentSo (facts call) x (in_turn x (or_none (turn_of (facts call) x)))) (sym b.2)
    (went_so law (facts call) b.0 b.1 (subst (HasOrder (facts call)) b.2 has))

readings_are : (call : Call) (screened : ScreenedView) → screened ≡ screened_of call → screened.readings ≡ in_call_order call
unfolding screened_by
readings_are call screened e = ap (λ (x : ScreenedView). x.readings) e

pub went_words : OrderLaw → (call : Call) (result : Result ScreenedView ScreenFault) → IsScreenedBy early_rules call result → Means 4 (OfOne MayOriginate (fields_of call)) result
    → SpeaksOfRead call result → Means 8 (CallHasOrder call) result → SpeaksOfOrder call result
went_words law call (Ok screened) h may read has =
    subst (λ (x : List Reading). WentSo (facts call) (in_message call) x) (sym (readings_are call screened h.1)) (went_call law call may read has)
went_words law call (Err (Refused refused)) h may read has = λ later.
    went_call law call (may.1 (omega (arith, later))) (read (omega (arith, later))) (has.1 later)
went_words law call (Err Memory) h may read has = tt
