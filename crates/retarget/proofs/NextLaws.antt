-- What goes on: its PASSporTs, and that it breaks none of the rules at its next hop.
use Rattle.std.proofs.Common.{◌≡◌, ℕ, suc, ◌+◌, ◌≤◌, true, List, [], ◌∷◌, ◌++◌, length, map, take, drop, Option, Some, None, Result, Ok, refl, sym, ◌∙◌, ap, subst, arith, inl, inr}
use Rattle.std.specs.Prelude.{slice_index_or}
use Rattle.std.specs.Option.{option_or}
use Rattle.std.proofs.lemmas.List.{length-map}
use Rattle.delegation.specs.Coverage.{Table}
use Rattle.cert_store.specs.Rules.{Says}
use Rattle.sip_message.specs.Accessors.{calling_number, identities}
use Rattle.sip_message.specs.Address.{uri_number}
use Rattle.sip_message.specs.Message.{MessageView}
use Rattle.sip_message.specs.Reading.{read}
use Rattle.sip_message.specs.Target.{to_uri}
use Rattle.sip_message.specs.declared.fault.FormFault.{FormFault}
use Rattle.passport_claims.specs.Links.{AreWithin, dest_of, div_of}
use Rattle.passport_claims.specs.Order.{IsOrder}
use Rattle.passport_claims.specs.Passport.{ClaimsView}
use Rattle.passport_claims.specs.declared.kind.Kind.{Kind}
use Rattle.passport_claims.specs.declared.kind.Kind.TheVariants as kinds
use Rattle.passport_claims.specs.declared.order.ChainFault.{ChainFault}
use Rattle.verify_rules.specs.Call.{Call, Reading, call_of, called_by, facts, facts_of, in_call_order, in_message, in_turn, or_none, passport_in, passports_of, read_call, turn_of, values_of}
use Rattle.verify_rules.specs.Late.{covers_kind}
use Rattle.verify_rules.specs.LateWords.{CoversKind}
use Rattle.verify_rules.specs.More.{HasGoodChain}
use Rattle.verify_rules.specs.Rules.{HoldAll, Holds, early_rules, first, rule_9}
use Rattle.verify_rules.specs.Screened.{last_of}
use Rattle.verify_rules.specs.States.{State}
use Rattle.verify_rules.specs.World.{AreRight, First, IsJudgedBy, World, late_rules}
use Rattle.verify_rules.specs.declared.refusal.Refusal.{Refusal}
use Rattle.verify_rules.specs.declared.settings.Settings.{Settings}
use Rattle.auth_service.specs.Diverted.{GoOn, IsDivertible, judged_last}
use Rattle.auth_service.specs.Order.{HolderView, OrderView, divert_order_of, kind_of}
use Rattle.auth_service.specs.Outcome.{IsSigned}
use Rattle.auth_service.specs.Signed.{claims_by}
use Rattle.auth_service.specs.declared.order.DivertOrder.{DivertOrder}
use Rattle.retarget.specs.Below.{Below}
use Rattle.retarget.specs.Hop.{HopView, diversion}
use Rattle.retarget.specs.NextHop.{BreaksNone}
use Rattle.retarget.specs.Onward.{HasBeenAt, IsFull, links_of}
use Rattle.retarget.specs.Outcome.{AddsDiversion, IsRetargeted}
use Rattle.retarget.specs.Written.{IsWritten}
use Rattle.retarget.proofs.CallLaws.{Ordered, Stands, call_with, called_in_order, calls_from, first_is, ordered, take_seven, unbroken}
use Rattle.retarget.proofs.OrderLaws.{goes_on, last_more, turn_more}

abbrev Signs : Type 0
Signs = List ℕ → List ℕ → Option (List ℕ)

-- ---- what was signed

-- it is what was read of the message with the other request URI
message_is : Below → (bytes : List ℕ) (hop : HopView) (holder : HolderView) (signs : Signs) (out earlier : List ℕ) (message : MessageView) → read bytes ≡ Ok message
    → (w : IsWritten bytes earlier hop holder signs out) → w.is_signed.message ≡ to_uri message hop.target
message_is laws bytes hop holder signs out earlier message e w =
    let one : read w.moved ≡ Ok w.is_signed.message = (laws.head w.moved w.is_signed.message).1 w.is_signed.head in
    let same : ◌≡◌ {A = Result MessageView FormFault} (Ok w.is_signed.message) (Ok (to_uri message hop.target)) = sym one ∙ w.same message e in
    cc

local_is : (order : DivertOrder) (hop : HopView) (earlier : List ℕ) → divert_order_of order ≡ diversion hop earlier → order.local ≡ hop.local
local_is order hop earlier e = ap (λ (o : OrderView). o.local) e

kind_is : (order : DivertOrder) (hop : HopView) (earlier : List ℕ) → divert_order_of order ≡ diversion hop earlier → ◌≡◌ {A = Kind} (kinds.Div order.earlier) (kinds.Div earlier)
kind_is order hop earlier e = ap (λ (o : OrderView). kind_of o.shape) e

-- its dest is the number to which the call goes on
dest_is : Below → (bytes : List ℕ) (hop : HopView) (holder : HolderView) (signs : Signs) (out earlier number : List ℕ) (message : MessageView) → read bytes ≡ Ok message
    → uri_number hop.target hop.local ≡ Some number → (w : IsWritten bytes earlier hop holder signs out) → w.is_signed.dest ≡ number
dest_is laws bytes hop holder signs out earlier number message e gives w =
    let m = message_is laws bytes hop holder signs out earlier message e w in
    let called : uri_number w.is_signed.message.uri w.order.local ≡ Some w.is_signed.dest = w.is_signed.called in
    let same : ◌≡◌ {A = Option (List ℕ)} (Some w.is_signed.dest) (Some number) =
    sym called ∙ ap (λ (x : MessageView). uri_number x.uri w.order.local) m ∙ ap (uri_number hop.target) (local_is w.order hop earlier w.diverts) ∙ gives in
    cc

orig_is : Below → (bytes : List ℕ) (hop : HopView) (holder : HolderView) (signs : Signs) (out earlier orig : List ℕ) (message : MessageView) → read bytes ≡ Ok message
    → calling_number message hop.local ≡ Some orig → (w : IsWritten bytes earlier hop holder signs out) → w.is_signed.orig ≡ orig
orig_is laws bytes hop holder signs out earlier orig message e calls w =
    let m = message_is laws bytes hop holder signs out earlier message e w in
    let calling : calling_number w.is_signed.message w.order.local ≡ Some w.is_signed.orig = w.is_signed.calling in
    let same : ◌≡◌ {A = Option (List ℕ)} (Some w.is_signed.orig) (Some orig) =
    sym calling ∙ ap (λ (x : MessageView). calling_number x w.order.local) m ∙ ap (calling_number message) (local_is w.order hop earlier w.diverts) ∙ calls in
    cc

-- ---- what is known, as one record

-- a call that was screened and goes on, with what is known of it
pub record Goes (laws : Below) (bytes : List ℕ) (hop : HopView) (holder : HolderView) (signs : Signs) (readings : List Reading) (out : List ℕ) (settings : Settings) (moment : ℕ) : Type 0 where
  pub r : IsRetargeted bytes readings hop holder signs out
  pub is_read : read bytes ≡ Ok r.message
  pub s : Stands r.message hop.local readings settings moment
  pub o : Ordered r.message hop.local readings settings moment

pub goes_of : (laws : Below) (bytes : List ℕ) (moment : ℕ) (hop : HopView) (holder : HolderView) (signs : Signs) (readings : List Reading) (out : List ℕ) (settings : Settings)
    → ((message : MessageView) → read bytes ≡ Ok message → Stands message hop.local readings settings moment) → 1 ≤ length readings
    → IsRetargeted bytes readings hop holder signs out → Goes laws bytes hop holder signs readings out settings moment
goes_of laws bytes moment hop holder signs readings out settings stand some r =
    let e : read bytes ≡ Ok r.message = (laws.head bytes r.message).1 r.before.head in
    let s = stand r.message e in
    record { r = r; is_read = e; s = s; o = ordered laws.order r.message hop.local readings settings moment s some }

-- the PASSporT that was signed
abbrev claims_in : (order : DivertOrder) → List ℕ → List ℕ → ClaimsView
claims_in order orig dest = claims_by (divert_order_of order) orig dest

-- ---- with the other request URI

-- there is room for one more
few_of : (message : MessageView) (readings : List Reading) → (IsFull message readings → ⊥) → length (identities message) ≤ 15
few_of message readings room =
    let fields : 16 ≤ length (identities message) → ⊥ = λ h. room (inl h) in omega (arith, fields)

drop_length : (readings : List Reading) → length readings ≤ length (drop 1 readings) + 1
drop_length [] = omega arith
drop_length (origin ∷ links) = omega arith

few_links : (message : MessageView) (readings : List Reading) → (IsFull message readings → ⊥) → length readings ≤ 8
few_links message readings room =
    let all = drop_length readings in
    let links : 8 ≤ length (drop 1 readings) → ⊥ = λ h. room (inr h) in omega (arith, all, links)

-- its PASSporTs say the same
same_readings : (laws : Below) (bytes : List ℕ) (hop : HopView) (holder : HolderView) (signs : Signs) (readings : List Reading) (out : List ℕ) (first_settings settings : Settings) (moment later : ℕ)
    → (g : Goes laws bytes hop holder signs readings out first_settings moment) → settings.local ≡ hop.local
    → in_message (call_of settings later g.r.written.moved) ≡ g.o.origin ∷ g.o.others
same_readings laws bytes hop holder signs readings out first_settings settings moment later g e =
    ap (λ (m : Result MessageView FormFault). in_message (call_with settings later m)) (g.r.written.same g.r.message g.is_read)
    ∙ laws.same first_settings settings moment later g.r.message hop.target (e ∙ sym g.s.numbering) ∙ g.o.begin

-- and it can be diverted
divertible : (laws : Below) (bytes : List ℕ) (hop : HopView) (holder : HolderView) (signs : Signs) (readings : List Reading) (out : List ℕ) (first_settings settings : Settings) (moment later : ℕ)
    → (g : Goes laws bytes hop holder signs readings out first_settings moment) → settings.local ≡ hop.local
    → IsDivertible (call_of settings later g.r.written.moved) g.r.written.order.local (claims_in g.r.written.order g.r.written.is_signed.orig g.r.written.is_signed.dest)
divertible laws bytes hop holder signs readings out first_settings settings moment later g e =
    let w = g.r.written in
    let link : ClaimsView = claims_in w.order w.is_signed.orig w.is_signed.dest in
    let by : ℕ → Reading = λ k. slice_index_or (g.o.origin ∷ g.o.others) k g.o.origin in
    let readings_same = same_readings laws bytes hop holder signs readings out first_settings settings moment later g e in
    let moved_read = w.same g.r.message g.is_read in
    let room = g.r.onward.room in
    let few_fields : length (identities g.r.message) ≤ 15 = few_of g.r.message readings room in
    let held : HoldAll (take 7 early_rules) (read_call settings later (to_uri g.r.message hop.target)) =
    laws.moved first_settings settings moment later g.r.message hop.target (e ∙ sym g.s.numbering) (take_seven (read_call first_settings moment g.r.message) g.s.hold) in
    let earlier_is : w.order.earlier ≡ g.r.earlier = let k = kind_is w.order hop g.r.earlier w.diverts in cc in
    let number_is : w.is_signed.dest ≡ g.r.number = dest_is laws bytes hop holder signs out g.r.earlier g.r.number g.r.message g.is_read g.r.onward.leads.gives w in
    let called : called_by (facts_of hop.local g.r.message) g.o.others ≡ Some w.order.earlier =
    sym (called_in_order g.r.message hop.local readings first_settings moment g.o) ∙ g.r.before.called ∙ ap (λ n. Some n) (sym earlier_is) in
    let order : IsOrder g.o.origin.passport (passports_of g.o.others) (Some (div_of link)) g.o.turn =
    subst (λ (c : Option (List ℕ)). IsOrder g.o.origin.passport (passports_of g.o.others) c g.o.turn) called g.o.order in
    let went : links_of readings ≡ map by g.o.turn = ap (λ (rs : List Reading). drop 1 rs) g.o.went in
    let new : HasBeenAt (div_of link) (dest_of link) (map by g.o.turn) → ⊥ =
    λ been. g.r.onward.new
    (subst (λ (n : List ℕ). HasBeenAt n g.r.number (links_of readings)) earlier_is
    (subst (λ (n : List ℕ). HasBeenAt w.order.earlier n (links_of readings)) number_is
    (subst (λ (rs : List Reading). HasBeenAt w.order.earlier w.is_signed.dest rs) (sym went) been))) in
    let few : length (in_turn (g.o.origin ∷ g.o.others) g.o.turn) ≤ 8 =
    subst (λ (rs : List Reading). length rs ≤ 8) g.o.went (few_links g.r.message readings room) in
    record {
      numbering = e ∙ sym (local_is w.order hop g.r.earlier w.diverts);
      few = subst (λ (m : Result MessageView FormFault). length (values_of (call_with settings later m)) ≤ 15) (sym moved_read) few_fields;
      hold = subst (λ (m : Result MessageView FormFault). HoldAll (take 7 early_rules) (call_with settings later m)) (sym moved_read) held;
      turn = g.o.turn;
      goes_on = subst (λ (rs : List Reading). GoOn rs g.o.turn link) (sym readings_same) (goes_on g.o.origin g.o.others g.o.turn link order few new);
    }

-- ---- what was written

-- the PASSporT that was signed, as it is judged
abbrev link_in : (order : DivertOrder) (holder : Option HolderView) (signs : Signs) (moved out : List ℕ) → IsSigned moved (divert_order_of order) holder signs out → Reading
link_in order holder signs moved out s = judged_last s.message (claims_in order s.orig s.dest) s.token.token

-- its PASSporTs are those of the call, and after them the one that was signed
in_order : (laws : Below) (bytes : List ℕ) (hop : HopView) (holder : HolderView) (signs : Signs) (readings : List Reading) (out : List ℕ) (first_settings settings : Settings) (moment later : ℕ)
    → (g : Goes laws bytes hop holder signs readings out first_settings moment) → settings.local ≡ hop.local
    → in_call_order (call_of settings later out) ≡ readings ++ link_in g.r.written.order (Some holder) signs g.r.written.moved out g.r.written.is_signed ∷ []
unfolding divertible
in_order laws bytes hop holder signs readings out first_settings settings moment later g e =
    let w = g.r.written in
    let link : Reading = link_in w.order (Some holder) signs w.moved out w.is_signed in
    let d = divertible laws bytes hop holder signs readings out first_settings settings moment later g e in
    let same = same_readings laws bytes hop holder signs readings out first_settings settings moment later g e in
    let all : in_message (call_of settings later out) ≡ g.o.origin ∷ (g.o.others ++ link ∷ []) =
    laws.judged w.moved w.order (Some holder) signs out settings later later w.is_signed d.numbering ∙ ap (λ (rs : List Reading). rs ++ link ∷ []) same in
    let turned : turn_of (facts (call_of settings later out)) (in_message (call_of settings later out)) ≡ Ok (g.o.turn ++ suc (length g.o.others) ∷ []) =
    laws.turn w.moved w.order (Some holder) signs out settings later later w.is_signed d
    ∙ ap {B = Result (List ℕ) ChainFault} (λ (rs : List Reading). Ok (g.o.turn ++ length rs ∷ [])) same in
    let within : AreWithin (length g.o.others) g.o.turn =
    subst (λ (count : ℕ). AreWithin count g.o.turn) (length-map g.o.others passport_in) g.o.order.once.within in
    ap (λ (r : Result (List ℕ) ChainFault). in_turn (in_message (call_of settings later out)) (or_none r)) turned
    ∙ ap (λ (rs : List Reading). in_turn rs (g.o.turn ++ suc (length g.o.others) ∷ [])) all
    ∙ turn_more g.o.origin link g.o.others g.o.turn within
    ∙ ap (λ (rs : List Reading). rs ++ link ∷ []) (sym g.o.went)

pub adds_diversion : (laws : Below) (bytes : List ℕ) (hop : HopView) (holder : HolderView) (signs : Signs) (readings : List Reading) (out : List ℕ) (first_settings settings : Settings) (moment later : ℕ)
    → Goes laws bytes hop holder signs readings out first_settings moment → settings.local ≡ hop.local → AddsDiversion bytes readings hop out settings later
adds_diversion laws bytes hop holder signs readings out first_settings settings moment later g e =
    let w = g.r.written in
    let link : Reading = link_in w.order (Some holder) signs w.moved out w.is_signed in
    let all = in_order laws bytes hop holder signs readings out first_settings settings moment later g e in
    record {
      ends = record {
        origin = g.o.origin;
        first = first_is g.r.message hop.local readings first_settings moment g.o;
        message = g.r.message;
        earlier = g.r.earlier;
        before = g.r.before;
        number = g.r.number;
        onward = g.r.onward;
        link = link;
        last = ap last_of all ∙ last_more readings link;
        orig = orig_is laws bytes hop holder signs out g.r.earlier g.o.origin.passport.orig g.r.message g.is_read
            (calls_from g.r.message hop.local readings first_settings moment g.s g.o) w;
        kind = kind_is w.order hop g.r.earlier w.diverts;
        dest = ap (λ n. n ∷ []) (dest_is laws bytes hop holder signs out g.r.earlier g.r.number g.r.message g.is_read g.r.onward.leads.gives w);
      };
      all = all;
    }

-- ---- the rules

nine : (call : Call) → HoldAll (take 8 early_rules) call → Holds rule_9 call → HoldAll early_rules call
nine call (one, (two, (three, (four, (five, (six, (seven, (eight, end)))))))) fresh =
    (one, (two, (three, (four, (five, (six, (seven, (eight, (fresh, tt)))))))))

later_none : (early late : Option Refusal) → early ≡ None → option_or early late ≡ None → late ≡ None
later_none None late e h = h
later_none (Some refused) late e h = absurd cc

-- what is asked of the world at the next hop, and what the verdict said of the call in it
pub breaks_none : (laws : Below) (bytes : List ℕ) (hop : HopView) (holder : HolderView) (signs : Signs) (says : Says) (readings : List Reading) (states : List State) (out : List ℕ) (first_settings : Settings) (moment : ℕ)
    → Goes laws bytes hop holder signs readings out first_settings moment
    → ((world : World) (call : Call) → IsJudgedBy world call holder.table says moment readings → AreRight world readings states → First world call ≡ None)
    → BreaksNone out hop holder says readings states
breaks_none laws bytes hop holder signs says readings states out first_settings moment g passed settings world later n =
    let w = g.r.written in
    let link : Reading = link_in w.order (Some holder) signs w.moved out w.is_signed in
    let call : Call = read_call first_settings moment g.r.message in
    let next : Call = call_of settings later out in
    let d = divertible laws bytes hop holder signs readings out first_settings settings moment later g n.numbering in
    let all = in_order laws bytes hop holder signs readings out first_settings settings moment later g n.numbering in
    let early : first early_rules call ≡ None = laws.none early_rules call g.s.hold in
    let none : First world call ≡ None =
    passed world call (record { early = early; in_order = g.s.are; now = refl; grants = sym n.grants; answers = sym n.answers }) n.chains in
    let late : HoldAll (late_rules world) call =
    unbroken (late_rules world) call (later_none (first early_rules call) (first (late_rules world) call) early (sym (laws.append early_rules (late_rules world) call) ∙ none)) in
    let is : ◌≡◌ {A = Option Reading} (Some n.link) (Some link) = sym n.last ∙ ap last_of all ∙ last_more readings link in
    let same : n.link ≡ link = cc in
    let good : HasGoodChain world later link holder.entries = subst (λ (one : Reading). HasGoodChain world later one holder.entries) same n.good in
    let may : CoversKind world.table holder.entries link.passport.orig link.passport.kind =
    subst (λ (t : Table). CoversKind t holder.entries link.passport.orig link.passport.kind) (sym n.grants) w.is_signed.authority in
    let covered : covers_kind world.table holder.entries link.passport.orig link.passport.kind ≡ true = (laws.covers world.table holder.entries link.passport.orig link.passport.kind).1 may in
    let more : in_call_order next ≡ in_call_order call ++ link ∷ [] = all ∙ ap (λ (rs : List Reading). rs ++ link ∷ []) g.s.are in
    let late_next : HoldAll (late_rules world) next = laws.more world call next link holder.entries more late n.dates good covered in
    let early_next : HoldAll early_rules next = nine next (laws.diverted w.moved w.order (Some holder) signs out settings later later w.is_signed d) n.fresh in
    laws.append early_rules (late_rules world) next
    ∙ ap (λ (o : Option Refusal). option_or o (first (late_rules world) next)) (laws.none early_rules next early_next)
    ∙ laws.none (late_rules world) next late_next
