-- What is known of a call that was screened.
use Rattle.std.proofs.Common.{◌≡◌, ℕ, ◌≤◌, Bool, true, false, List, [], ◌∷◌, length, map, take, drop, Option, Some, None, Result, Ok, Err, refl, sym, ◌∙◌, ap, subst, arith}
use Rattle.std.specs.Prelude.{◌↔◌, slice_index_or, if◌then◌else◌}
use Rattle.std.specs.List.{slice_get}
use Rattle.std.specs.Option.{option_or}
use Rattle.std.proofs.lemmas.List.{length-map}
use Rattle.lists.proofs.Bytes.{bytes_same}
use Rattle.tn_values.specs.Local.{LocalView}
use Rattle.sip_message.specs.Accessors.{calling_number, is_invite}
use Rattle.sip_message.specs.Message.{MessageView}
use Rattle.sip_message.specs.Reading.{read}
use Rattle.sip_message.specs.declared.fault.FormFault.{FormFault}
use Rattle.passport_claims.specs.Order.{IsOrder}
use Rattle.passport_claims.specs.OrderReading.{order_of}
use Rattle.passport_claims.specs.Passport.{ClaimsView, is_text}
use Rattle.passport_claims.specs.declared.order.ChainFault.{ChainFault}
use Rattle.verify_rules.specs.Call.{Call, Reading, call_of, called_by, facts, facts_of, in_call_order, in_message, in_turn, or_none, passport_in, passports_of, read_call, turn_of}
use Rattle.verify_rules.specs.Rules.{HoldAll, Rule, each, early_rules, first, no_order, or_later, other_calling, place}
use Rattle.verify_rules.specs.Screened.{ScreenedView, screened_by, screened_of}
use Rattle.verify_rules.specs.declared.refusal.Place.{Place}
use Rattle.verify_rules.specs.declared.refusal.Refusal.{Refusal}
use Rattle.verify_rules.specs.declared.settings.Settings.{Settings}
use Rattle.retarget.specs.Screened.{IsScreenedFor}
use Rattle.retarget.proofs.OrderLaws.{called_same}

-- ---- rules of which none is broken hold

unbroken_by : (number : ℕ) (o : Option Place) (later : Option Refusal) → or_later number o later ≡ None → (o ≡ None) × (later ≡ None)
unbroken_by number None later e = (refl, e)
unbroken_by number (Some bad) later e = absurd cc

pub unbroken : (rules : List Rule) (call : Call) → first rules call ≡ None → HoldAll rules call
unbroken [] call e = tt
unbroken (rule ∷ rules) call e =
    let u = unbroken_by rule.number (rule.broken call) (first rules call) e in (u.0, unbroken rules call u.1)

pub take_seven : (call : Call) → HoldAll early_rules call → HoldAll (take 7 early_rules) call
take_seven call (one, (two, (three, (four, (five, (six, (seven, later))))))) = (one, (two, (three, (four, (five, (six, (seven, tt)))))))

-- ---- the call

abbrev pub call_with : Settings → ℕ → Result MessageView FormFault → Call
call_with settings moment message = record { settings = settings; moment = moment; message = message }

-- it was judged by settings that number so, at this moment; it breaks none of the rules of the call; and these are its PASSporTs
pub record Stands (message : MessageView) (local : LocalView) (readings : List Reading) (settings : Settings) (moment : ℕ) : Type 0 where
  pub numbering : settings.local ≡ local
  pub hold : HoldAll early_rules (read_call settings moment message)
  pub are : readings ≡ in_call_order (read_call settings moment message)

readings_are : (call : Call) (screened : ScreenedView) → screened ≡ screened_of call → screened.readings ≡ in_call_order call
unfolding screened_by
readings_are call screened e = ap (λ (x : ScreenedView). x.readings) e

pub stands : (bytes : List ℕ) (moment : ℕ) (local : LocalView) (screened : ScreenedView) (s : IsScreenedFor bytes moment local screened) (message : MessageView)
    → read bytes ≡ Ok message → Stands message local screened.readings s.settings moment
stands bytes moment local screened s message e = record {
  numbering = s.numbering;
  hold = subst (λ (m : Result MessageView FormFault). HoldAll early_rules (call_with s.settings moment m)) e (unbroken early_rules (call_of s.settings moment bytes) s.is.0);
  are = subst (λ (m : Result MessageView FormFault). screened.readings ≡ in_call_order (call_with s.settings moment m)) e (readings_are (call_of s.settings moment bytes) screened s.is.1);
}

invite_by : (b : Bool) → (if b then None else Some (place 0 0)) ≡ None → b ≡ true
invite_by true e = refl
invite_by false e = absurd cc

pub is_an_invite : (message : MessageView) (local : LocalView) (readings : List Reading) (settings : Settings) (moment : ℕ) → Stands message local readings settings moment
    → is_invite message ≡ true
is_an_invite message local readings settings moment s = invite_by (is_invite message) s.hold.0

-- ---- its order

-- an originating PASSporT, and links that have an order up to the number that is called
pub record Ordered (message : MessageView) (local : LocalView) (readings : List Reading) (settings : Settings) (moment : ℕ) : Type 0 where
  pub origin : Reading
  pub others : List Reading
  pub begin : in_message (read_call settings moment message) ≡ origin ∷ others
  pub turn : List ℕ
  pub order : IsOrder origin.passport (passports_of others) (called_by (facts_of local message) others) turn
  pub went : readings ≡ in_turn (origin ∷ others) turn

abbrev pub OrderLaw : Type 0
OrderLaw = (origin : ClaimsView) (links : List ClaimsView) (called : Option (List ℕ)) (turn : List ℕ) → (order_of origin links called ≡ Ok turn) ↔ IsOrder origin links called turn

ordered_by : OrderLaw → (message : MessageView) (local : LocalView) (readings : List Reading) (settings : Settings) (moment : ℕ) (origin : Reading) (others : List Reading)
    → Stands message local readings settings moment → in_message (read_call settings moment message) ≡ origin ∷ others
    → (r : Result (List ℕ) ChainFault) → turn_of (facts_of local message) (origin ∷ others) ≡ r → no_order (origin ∷ others) r ≡ None
    → readings ≡ in_turn (origin ∷ others) (or_none r) → Ordered message local readings settings moment
ordered_by law message local readings settings moment origin others s e (Ok turn) t h w = record {
  origin = origin;
  others = others;
  begin = e;
  turn = turn;
  order = (law origin.passport (passports_of others) (called_by (facts_of local message) others) turn).0 t;
  went = w;
}
ordered_by law message local readings settings moment origin others s e (Err fault) t h w = absurd cc

abbrev turn_in : LocalView → MessageView → List Reading → List Reading
turn_in local message ones = in_turn ones (or_none (turn_of (facts_of local message) ones))

ordered_in : OrderLaw → (message : MessageView) (local : LocalView) (readings : List Reading) (settings : Settings) (moment : ℕ) → Stands message local readings settings moment
    → 1 ≤ length readings → (ones : List Reading) → in_message (read_call settings moment message) ≡ ones → no_order ones (turn_of (facts_of local message) ones) ≡ None
    → readings ≡ turn_in local message ones → Ordered message local readings settings moment
ordered_in law message local readings settings moment s some [] e h w = absurd (omega (arith, some, ap {B = ℕ} (λ (rs : List Reading). length rs) w))
ordered_in law message local readings settings moment s some (origin ∷ others) e h w =
    ordered_by law message local readings settings moment origin others s e (turn_of (facts_of local message) (origin ∷ others)) refl h w

pub ordered : OrderLaw → (message : MessageView) (local : LocalView) (readings : List Reading) (settings : Settings) (moment : ℕ) → Stands message local readings settings moment
    → 1 ≤ length readings → Ordered message local readings settings moment
ordered law message local readings settings moment s some =
    let call : Call = read_call settings moment message in
    let ones : List Reading = in_message call in
    let eighth : no_order ones (turn_of (facts call) ones) ≡ None = s.hold.1.1.1.1.1.1.1.0 in
    ordered_in law message local readings settings moment s some ones refl
    (subst (λ (l : LocalView). no_order ones (turn_of (facts_of l message) ones) ≡ None) s.numbering eighth)
    (subst (λ (l : LocalView). readings ≡ turn_in l message ones) s.numbering s.are)

-- the number that is called, by the PASSporTs in the order in which the call went
pub called_in_order : (message : MessageView) (local : LocalView) (readings : List Reading) (settings : Settings) (moment : ℕ) (o : Ordered message local readings settings moment)
    → called_by (facts_of local message) (drop 1 readings) ≡ called_by (facts_of local message) o.others
called_in_order message local readings settings moment o =
    let by : ℕ → Reading = λ k. slice_index_or (o.origin ∷ o.others) k o.origin in
    let many = length-map o.others passport_in in
    let turned = length-map o.turn by in
    ap (λ (rs : List Reading). called_by (facts_of local message) (drop 1 rs)) o.went
    ∙ called_same local message (map by o.turn) o.others (turned ∙ o.order.once.as_many ∙ many)

-- ---- its calling number

calling_by : (field : ℕ) (orig : List ℕ) (calling : Option (List ℕ)) (b : Bool) → is_text orig calling ≡ b → (if b then None else Some (place field 0)) ≡ None → calling ≡ Some orig
calling_by field orig None true e h = absurd cc
calling_by field orig (Some number) true e h = ap (λ n. Some n) (bytes_same number orig e)
calling_by field orig calling false e h = absurd cc

from_by : (calling : Option (List ℕ)) (origin : Reading) (others : List Reading) → each (other_calling calling) (origin ∷ others) ≡ None → calling ≡ Some origin.passport.orig
unfolding other_calling
from_by calling origin others h = of (is_text origin.passport.orig calling) refl h where
  of : (b : Bool) → is_text origin.passport.orig calling ≡ b → option_or (if b then None else Some (place origin.mark.field 0)) (each (other_calling calling) others) ≡ None
      → calling ≡ Some origin.passport.orig
  of true e k = calling_by origin.mark.field origin.passport.orig calling true e refl
  of false e k = absurd cc

-- the one that the originating PASSporT tells of
pub calls_from : (message : MessageView) (local : LocalView) (readings : List Reading) (settings : Settings) (moment : ℕ) → (s : Stands message local readings settings moment)
    → (o : Ordered message local readings settings moment) → calling_number message local ≡ Some o.origin.passport.orig
calls_from message local readings settings moment s o =
    let call : Call = read_call settings moment message in
    let seventh : each (other_calling (facts call).calling) (in_message call) ≡ None = s.hold.1.1.1.1.1.1.0 in
    ap (calling_number message) (sym s.numbering)
    ∙ from_by (facts call).calling o.origin o.others (subst (λ (rs : List Reading). each (other_calling (facts call).calling) rs ≡ None) o.begin seventh)

pub first_is : (message : MessageView) (local : LocalView) (readings : List Reading) (settings : Settings) (moment : ℕ) (o : Ordered message local readings settings moment)
    → slice_get readings 0 ≡ Some o.origin
first_is message local readings settings moment o = ap (λ (rs : List Reading). slice_get rs 0) o.went
