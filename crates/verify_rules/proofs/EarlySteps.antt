-- The rules one after another: at each exit the rules tried so far.
use Rattle.std.proofs.Common.{◌≡◌, ℕ, true, false, List, [], ◌∷◌, ◌++◌, length, Option, Some, None, Result, Ok, Err, refl, sym, ◌∙◌, ap, subst, arith, option_to_list}
use Rattle.sip_message.specs.Accessors.{identities, is_invite}
use Rattle.sip_message.specs.Message.{MessageView}
use Rattle.sip_message.specs.Reading.{read}
use Rattle.sip_message.specs.declared.fault.FormFault.{FormFault}
use Rattle.verify_rules.specs.Call.{Call, IdentityField, Reading, call_of, facts, fields_of, in_call_order, in_message, in_turn, judged_fields, links, or_none, originating, read_call, readings_of, turn_of}
use Rattle.verify_rules.specs.Rules.{Rule, bad_field, chain_rules, each, early_rules, field_rules, first, foreign_alg, other_calling, no_identity, no_invite, no_order, no_originating, place, refusal, rule_1, rule_2, rule_3, rule_4, rule_5, rule_6, rule_7, rule_8, rule_9, stale, unreadable}
use Rattle.verify_rules.specs.Screened.{IsScreenedBy, ScreenedView, screened_by, screened_of}
use Rattle.verify_rules.specs.declared.facts.Facts.{Facts}
use Rattle.verify_rules.specs.declared.refusal.Place.{Place}
use Rattle.verify_rules.specs.declared.refusal.ScreenFault.{ScreenFault}
use Rattle.verify_rules.specs.declared.refusal.ScreenFault.TheVariants.{Refused, Memory}
use Rattle.verify_rules.specs.declared.settings.Settings.{Settings}
use Rattle.verify_rules.specs.Seen.{Serves}
use Rattle.verify_rules.proofs.FactLaws.{turn_same}
use Rattle.verify_rules.proofs.FirstLaws.{breaks, holds}

-- ---- rules 1 to 3

pub refused_form : (settings : Settings) (moment : ℕ) (bytes : List ℕ) (fault : FormFault) → read bytes ≡ Err fault
    → first early_rules (call_of settings moment bytes) ≡ Some (refusal 1 (place 0 fault.place))
refused_form settings moment bytes fault e = breaks rule_1 (rule_2 ∷ rule_3 ∷ field_rules) (call_of settings moment bytes) (place 0 fault.place) (ap no_invite e)

pub as_read : (settings : Settings) (moment : ℕ) (bytes : List ℕ) (message : MessageView) (result : Result ScreenedView ScreenFault) → read bytes ≡ Ok message
    → IsScreenedBy early_rules (read_call settings moment message) result → IsScreenedBy early_rules (call_of settings moment bytes) result
as_read settings moment bytes message result e h =
    subst (λ x. IsScreenedBy early_rules (record { settings = settings; moment = moment; message = x }) result) (sym e) h

pub refused_method : (settings : Settings) (moment : ℕ) (message : MessageView) → is_invite message ≡ false → first early_rules (read_call settings moment message) ≡ Some (refusal 1 (place 0 0))
refused_method settings moment message e = breaks rule_1 (rule_2 ∷ rule_3 ∷ field_rules) (read_call settings moment message) (place 0 0) (rw e refl)

none_by : (values : List (List ℕ)) → length values ≡ 0 → no_identity values ≡ Some (place 0 0)
none_by [] e = refl
none_by (value ∷ others) e = absurd (omega arith)

some_by : (values : List (List ℕ)) → (length values ≡ 0 → ⊥) → no_identity values ≡ None
some_by [] some = absurd (some refl)
some_by (value ∷ others) some = refl

pub refused_none : (settings : Settings) (moment : ℕ) (message : MessageView) → is_invite message ≡ true → length (identities message) ≡ 0
    → first early_rules (read_call settings moment message) ≡ Some (refusal 2 (place 0 0))
refused_none settings moment message e none =
    let call = read_call settings moment message in
    holds rule_1 (rule_2 ∷ rule_3 ∷ field_rules) call (rw e refl) ∙ breaks rule_2 (rule_3 ∷ field_rules) call (place 0 0) (none_by (identities message) none)

pub refused_value : (settings : Settings) (moment : ℕ) (message : MessageView) (bad : Place) → is_invite message ≡ true → (length (identities message) ≡ 0 → ⊥) → bad_field 1 (identities message) ≡ Some bad
    → first early_rules (read_call settings moment message) ≡ Some (refusal 3 bad)
refused_value settings moment message bad e some h =
    let call = read_call settings moment message in
    holds rule_1 (rule_2 ∷ rule_3 ∷ field_rules) call (rw e refl) ∙ holds rule_2 (rule_3 ∷ field_rules) call (some_by (identities message) some) ∙ breaks rule_3 field_rules call bad h

as_before : (rules others : List Rule) (call : Call) (result : Result ScreenedView ScreenFault) → first rules call ≡ first others call → IsScreenedBy others call result → IsScreenedBy rules call result
as_before rules others call (Ok screened) e h = (e ∙ h.0, h.1)
as_before rules others call (Err (Refused refused)) e h = e ∙ h
as_before rules others call (Err Memory) e h = tt

pub fields_are : (settings : Settings) (moment : ℕ) (message : MessageView) (result : Result ScreenedView ScreenFault) → is_invite message ≡ true → (length (identities message) ≡ 0 → ⊥)
    → bad_field 1 (identities message) ≡ None → IsScreenedBy field_rules (read_call settings moment message) result → IsScreenedBy early_rules (read_call settings moment message) result
fields_are settings moment message result e some good h =
    let call = read_call settings moment message in
    as_before early_rules field_rules call result
    (holds rule_1 (rule_2 ∷ rule_3 ∷ field_rules) call (rw e refl) ∙ holds rule_2 (rule_3 ∷ field_rules) call (some_by (identities message) some) ∙ holds rule_3 field_rules call good) h

-- ---- what rules 4 to 9 see

judged_is : (call : Call) (fields : List IdentityField) (o : IdentityField) → fields ≡ fields_of call → Some o ≡ originating fields → judged_fields (fields_of call) ≡ o ∷ links fields
judged_is call fields o is e = ap judged_fields (sym is) ∙ ap (λ x. option_to_list x ++ links fields) (sym e)

pub message_is : (call : Call) (fields : List IdentityField) (o : IdentityField) (said : Facts) (readings : List Reading) → fields ≡ fields_of call → Some o ≡ originating fields → Serves said (facts call) (o ∷ links fields)
    → readings ≡ readings_of said (o ∷ links fields) → in_message call ≡ readings
message_is call fields o said readings is e s r =
    ap (readings_of (facts call)) (judged_is call fields o is e) ∙ sym s.readings ∙ sym r

chain_is : (call : Call) (said : Facts) (readings : List Reading) (turn : List ℕ) → in_message call ≡ readings → turn_of said readings ≡ turn_of (facts call) readings → turn_of said readings ≡ Ok turn → in_call_order call ≡ in_turn readings turn
chain_is call said readings turn m s t =
    ap (λ x. in_turn x (or_none (turn_of (facts call) x))) m ∙ ap (λ x. in_turn readings (or_none x)) (sym s) ∙ ap (λ x. in_turn readings (or_none x)) t

origin_there : (call : Call) (fields : List IdentityField) (o : IdentityField) → fields ≡ fields_of call → Some o ≡ originating fields → rule_4.broken call ≡ None
origin_there call fields o is e = ap (λ x. no_originating (originating x)) (sym is) ∙ ap no_originating (sym e)

algs_are : (call : Call) (fields : List IdentityField) (o : IdentityField) (k : Option Place) → fields ≡ fields_of call → Some o ≡ originating fields → k ≡ each foreign_alg (o ∷ links fields) → rule_5.broken call ≡ k
algs_are call fields o k is e h = ap (each foreign_alg) (judged_is call fields o is e) ∙ sym h

tokens_are : (call : Call) (fields : List IdentityField) (o : IdentityField) (said : Facts) (k : Option Place) → fields ≡ fields_of call → Some o ≡ originating fields → Serves said (facts call) (o ∷ links fields)
    → each (unreadable said) (o ∷ links fields) ≡ k → rule_6.broken call ≡ k
tokens_are call fields o said k is e s h =
    ap (each (unreadable (facts call))) (judged_is call fields o is e) ∙ sym s.unreadable ∙ h

origs_are : (call : Call) (said : Facts) (readings : List Reading) (k : Option Place) → in_message call ≡ readings → said.calling ≡ (facts call).calling → k ≡ each (other_calling said.calling) readings → rule_7.broken call ≡ k
origs_are call said readings k m s h =
    ap (each (other_calling (facts call).calling)) m ∙ ap (λ x. each (other_calling x) readings) (sym s) ∙ sym h

order_is : (call : Call) (said : Facts) (readings : List Reading) (k : Option Place) → in_message call ≡ readings → turn_of said readings ≡ turn_of (facts call) readings → no_order readings (turn_of said readings) ≡ k → rule_8.broken call ≡ k
order_is call said readings k m s h =
    ap (λ x. no_order x (turn_of (facts call) x)) m ∙ ap (no_order readings) (sym s) ∙ h

seen_in : (settings : Settings) (screened : ScreenedView) (chain : List Reading) → screened ≡ screened_by settings chain → screened.readings ≡ chain
unfolding screened_by
seen_in settings screened chain e = ap (λ (x : ScreenedView). x.readings) e

iats_are : (call : Call) (chain : List Reading) (screened : ScreenedView) (k : Option Place) → in_call_order call ≡ chain → screened ≡ screened_by call.settings chain
    → k ≡ each (stale call.settings call.moment) screened.readings → rule_9.broken call ≡ k
iats_are call chain screened k c s h =
    ap (each (stale call.settings call.moment)) (c ∙ sym (seen_in call.settings screened chain s)) ∙ sym h

-- ---- rules 4 to 6

pub refused_origin : (call : Call) (fields : List IdentityField) → fields ≡ fields_of call → None ≡ originating fields → first field_rules call ≡ Some (refusal 4 (place 0 0))
refused_origin call fields is e = breaks rule_4 (rule_5 ∷ rule_6 ∷ chain_rules) call (place 0 0) (ap (λ x. no_originating (originating x)) (sym is) ∙ ap no_originating (sym e))

pub refused_alg : (call : Call) (fields : List IdentityField) (o : IdentityField) (bad : Place) → fields ≡ fields_of call → Some o ≡ originating fields
    → Some bad ≡ each foreign_alg (o ∷ links fields) → first field_rules call ≡ Some (refusal 5 bad)
refused_alg call fields o bad is e h =
    holds rule_4 (rule_5 ∷ rule_6 ∷ chain_rules) call (origin_there call fields o is e) ∙ breaks rule_5 (rule_6 ∷ chain_rules) call bad (algs_are call fields o (Some bad) is e h)

early_hold : (call : Call) (fields : List IdentityField) (o : IdentityField) → fields ≡ fields_of call → Some o ≡ originating fields → None ≡ each foreign_alg (o ∷ links fields)
    → first field_rules call ≡ first (rule_6 ∷ chain_rules) call
early_hold call fields o is e h =
    holds rule_4 (rule_5 ∷ rule_6 ∷ chain_rules) call (origin_there call fields o is e) ∙ holds rule_5 (rule_6 ∷ chain_rules) call (algs_are call fields o None is e h)

pub refused_token : (call : Call) (fields : List IdentityField) (o : IdentityField) (said : Facts) (bad : Place) → fields ≡ fields_of call → Some o ≡ originating fields
    → None ≡ each foreign_alg (o ∷ links fields) → Serves said (facts call) (o ∷ links fields) → each (unreadable said) (o ∷ links fields) ≡ Some bad → first field_rules call ≡ Some (refusal 6 bad)
refused_token call fields o said bad is e h5 s h6 =
    early_hold call fields o is e h5 ∙ breaks rule_6 chain_rules call bad (tokens_are call fields o said (Some bad) is e s h6)

-- ---- rules 7 to 9

chain_left : (call : Call) (fields : List IdentityField) (o : IdentityField) (said : Facts) → fields ≡ fields_of call → Some o ≡ originating fields
    → None ≡ each foreign_alg (o ∷ links fields) → Serves said (facts call) (o ∷ links fields) → each (unreadable said) (o ∷ links fields) ≡ None → first field_rules call ≡ first chain_rules call
chain_left call fields o said is e h5 s h6 =
    early_hold call fields o is e h5 ∙ holds rule_6 chain_rules call (tokens_are call fields o said None is e s h6)

pub refused_orig : (call : Call) (fields : List IdentityField) (o : IdentityField) (said : Facts) (readings : List Reading) (bad : Place) → fields ≡ fields_of call → Some o ≡ originating fields
    → None ≡ each foreign_alg (o ∷ links fields) → Serves said (facts call) (o ∷ links fields) → each (unreadable said) (o ∷ links fields) ≡ None → readings ≡ readings_of said (o ∷ links fields)
    → Some bad ≡ each (other_calling said.calling) readings → first field_rules call ≡ Some (refusal 7 bad)
refused_orig call fields o said readings bad is e h5 s h6 r h7 =
    chain_left call fields o said is e h5 s h6
    ∙ breaks rule_7 (rule_8 ∷ rule_9 ∷ []) call bad (origs_are call said readings (Some bad) (message_is call fields o said readings is e s r) s.calling h7)

pub refused_order : (call : Call) (fields : List IdentityField) (o : IdentityField) (said : Facts) (readings : List Reading) (bad : Place) → fields ≡ fields_of call → Some o ≡ originating fields
    → None ≡ each foreign_alg (o ∷ links fields) → Serves said (facts call) (o ∷ links fields) → each (unreadable said) (o ∷ links fields) ≡ None → readings ≡ readings_of said (o ∷ links fields)
    → None ≡ each (other_calling said.calling) readings → no_order readings (turn_of said readings) ≡ Some bad → first field_rules call ≡ Some (refusal 8 bad)
refused_order call fields o said readings bad is e h5 s h6 r h7 h8 =
    let m = message_is call fields o said readings is e s r in
    chain_left call fields o said is e h5 s h6
    ∙ holds rule_7 (rule_8 ∷ rule_9 ∷ []) call (origs_are call said readings None m s.calling h7) ∙ breaks rule_8 (rule_9 ∷ []) call bad (order_is call said readings (Some bad) m (turn_same said (facts call) readings s.to s.target) h8)

iats_left : (call : Call) (fields : List IdentityField) (o : IdentityField) (said : Facts) (readings : List Reading) (turn : List ℕ) → fields ≡ fields_of call → Some o ≡ originating fields
    → None ≡ each foreign_alg (o ∷ links fields) → Serves said (facts call) (o ∷ links fields) → each (unreadable said) (o ∷ links fields) ≡ None → readings ≡ readings_of said (o ∷ links fields)
    → None ≡ each (other_calling said.calling) readings → turn_of said readings ≡ Ok turn → first field_rules call ≡ first (rule_9 ∷ []) call
iats_left call fields o said readings turn is e h5 s h6 r h7 t =
    let m = message_is call fields o said readings is e s r in
    chain_left call fields o said is e h5 s h6
    ∙ holds rule_7 (rule_8 ∷ rule_9 ∷ []) call (origs_are call said readings None m s.calling h7) ∙ holds rule_8 (rule_9 ∷ []) call (order_is call said readings None m (turn_same said (facts call) readings s.to s.target) (ap (no_order readings) t))

pub refused_stale : (call : Call) (fields : List IdentityField) (o : IdentityField) (said : Facts) (readings : List Reading) (turn : List ℕ) (screened : ScreenedView) (bad : Place) → fields ≡ fields_of call
    → Some o ≡ originating fields → None ≡ each foreign_alg (o ∷ links fields) → Serves said (facts call) (o ∷ links fields) → each (unreadable said) (o ∷ links fields) ≡ None → readings ≡ readings_of said (o ∷ links fields)
    → None ≡ each (other_calling said.calling) readings → turn_of said readings ≡ Ok turn → screened ≡ screened_by call.settings (in_turn readings turn)
    → Some bad ≡ each (stale call.settings call.moment) screened.readings → first field_rules call ≡ Some (refusal 9 bad)
refused_stale call fields o said readings turn screened bad is e h5 s h6 r h7 t v h9 =
    let c = chain_is call said readings turn (message_is call fields o said readings is e s r) (turn_same said (facts call) readings s.to s.target) t in
    iats_left call fields o said readings turn is e h5 s h6 r h7 t ∙ breaks rule_9 [] call bad (iats_are call (in_turn readings turn) screened (Some bad) c v h9)

pub none_refused : (call : Call) (fields : List IdentityField) (o : IdentityField) (said : Facts) (readings : List Reading) (turn : List ℕ) (screened : ScreenedView) → fields ≡ fields_of call
    → Some o ≡ originating fields → None ≡ each foreign_alg (o ∷ links fields) → Serves said (facts call) (o ∷ links fields) → each (unreadable said) (o ∷ links fields) ≡ None → readings ≡ readings_of said (o ∷ links fields)
    → None ≡ each (other_calling said.calling) readings → turn_of said readings ≡ Ok turn → screened ≡ screened_by call.settings (in_turn readings turn)
    → None ≡ each (stale call.settings call.moment) screened.readings → (first field_rules call ≡ None) × (screened ≡ screened_of call)
none_refused call fields o said readings turn screened is e h5 s h6 r h7 t v h9 =
    let c = chain_is call said readings turn (message_is call fields o said readings is e s r) (turn_same said (facts call) readings s.to s.target) t in (
      iats_left call fields o said readings turn is e h5 s h6 r h7 t ∙ holds rule_9 [] call (iats_are call (in_turn readings turn) screened None c v h9),
      v ∙ ap (screened_by call.settings) (sym c),
    )
