-- Each answer says where its rule is broken.
use Rattle.std.proofs.Common.{◌≡◌, ℕ, List, [], ◌∷◌, Option, Some, None, Result, Ok, Err, arith}
use Rattle.verify_rules.specs.Call.{Call, call_of, facts, fields_of, in_call_order, in_message, judged_fields, originating, values_of}
use Rattle.verify_rules.specs.Places.{IsPlaced, SpeaksOfPlace}
use Rattle.verify_rules.specs.Rules.{early_rules, no_identity, no_originating, place, rule_1, rule_2, rule_3, rule_4, rule_5, rule_6, rule_7, rule_8, rule_9}
use Rattle.verify_rules.specs.Screened.{IsScreenedBy, ScreenedView}
use Rattle.verify_rules.specs.declared.refusal.Place.{Place}
use Rattle.verify_rules.specs.declared.refusal.Refusal.{Refusal}
use Rattle.verify_rules.specs.declared.refusal.ScreenFault.{ScreenFault}
use Rattle.verify_rules.specs.declared.refusal.ScreenFault.TheVariants.{Refused, Memory}
use Rattle.verify_rules.specs.declared.settings.Settings.{Settings}
use Rattle.verify_rules.specs.Call.{IdentityField}
use Rattle.verify_rules.proofs.AllWords.{HeadLaw}
use Rattle.verify_rules.proofs.EarlyPlaces.{alg_place, calling_place, fields_place, fresh_place, invite_place, order_place, tokens_place}
use Rattle.verify_rules.proofs.PlaceLaws.{broken_at}
use Rattle.verify_rules.proofs.TokenWords.{ClaimsLaw, FieldLaw, TokenFoundLaw, TokenLaw}

identity_at : (values : List (List ℕ)) (bad : Place) → no_identity values ≡ Some bad → bad ≡ place 0 0
identity_at [] bad h = cc
identity_at (value ∷ values) bad h = absurd cc

origin_at : (origin : Option IdentityField) (bad : Place) → no_originating origin ≡ Some bad → bad ≡ place 0 0
origin_at None bad h = cc
origin_at (Some field) bad h = absurd cc

placed : (settings : Settings) (moment : ℕ) (bytes : List ℕ) (refused : Refusal) → HeadLaw → FieldLaw → TokenLaw → TokenFoundLaw → ClaimsLaw
    → IsScreenedBy early_rules (call_of settings moment bytes) (Err (Refused refused)) → IsPlaced bytes (call_of settings moment bytes) refused
placed settings moment bytes refused heads fields tokens found claims h =
    let call : Call = call_of settings moment bytes in
    record {
      invite = λ is.
          let b = broken_at [] rule_1 (rule_2 ∷ rule_3 ∷ rule_4 ∷ rule_5 ∷ rule_6 ∷ rule_7 ∷ rule_8 ∷ rule_9 ∷ []) call refused tt
          (omega arith, (omega arith, (omega arith, (omega arith, (omega arith, (omega arith, (omega arith, (omega arith, tt)))))))) h is in
          invite_place bytes heads refused.place b.broken;
      identity = λ is.
          let b = broken_at (rule_1 ∷ []) rule_2 (rule_3 ∷ rule_4 ∷ rule_5 ∷ rule_6 ∷ rule_7 ∷ rule_8 ∷ rule_9 ∷ []) call refused (omega arith, tt)
          (omega arith, (omega arith, (omega arith, (omega arith, (omega arith, (omega arith, (omega arith, tt))))))) h is in
          identity_at (values_of call) refused.place b.broken;
      fields = λ is.
          let b = broken_at (rule_1 ∷ rule_2 ∷ []) rule_3 (rule_4 ∷ rule_5 ∷ rule_6 ∷ rule_7 ∷ rule_8 ∷ rule_9 ∷ []) call refused (omega arith, (omega arith, tt))
          (omega arith, (omega arith, (omega arith, (omega arith, (omega arith, (omega arith, tt)))))) h is in
          fields_place fields (values_of call) refused.place b.broken;
      originating = λ is.
          let b = broken_at (rule_1 ∷ rule_2 ∷ rule_3 ∷ []) rule_4 (rule_5 ∷ rule_6 ∷ rule_7 ∷ rule_8 ∷ rule_9 ∷ []) call refused (omega arith, (omega arith, (omega arith, tt)))
          (omega arith, (omega arith, (omega arith, (omega arith, (omega arith, tt))))) h is in
          origin_at (originating (fields_of call)) refused.place b.broken;
      algorithms = λ is.
          let b = broken_at (rule_1 ∷ rule_2 ∷ rule_3 ∷ rule_4 ∷ []) rule_5 (rule_6 ∷ rule_7 ∷ rule_8 ∷ rule_9 ∷ []) call refused
          (omega arith, (omega arith, (omega arith, (omega arith, tt)))) (omega arith, (omega arith, (omega arith, (omega arith, tt)))) h is in
          alg_place (judged_fields (fields_of call)) refused.place b.broken;
      tokens = λ is.
          let b = broken_at (rule_1 ∷ rule_2 ∷ rule_3 ∷ rule_4 ∷ rule_5 ∷ []) rule_6 (rule_7 ∷ rule_8 ∷ rule_9 ∷ []) call refused
          (omega arith, (omega arith, (omega arith, (omega arith, (omega arith, tt))))) (omega arith, (omega arith, (omega arith, tt))) h is in
          tokens_place fields tokens found claims (facts call) (values_of call) refused.place b.broken;
      calling = λ is.
          let b = broken_at (rule_1 ∷ rule_2 ∷ rule_3 ∷ rule_4 ∷ rule_5 ∷ rule_6 ∷ []) rule_7 (rule_8 ∷ rule_9 ∷ []) call refused
          (omega arith, (omega arith, (omega arith, (omega arith, (omega arith, (omega arith, tt)))))) (omega arith, (omega arith, tt)) h is in
          calling_place (facts call).calling (in_message call) refused.place b.broken;
      order = λ is.
          let b = broken_at (rule_1 ∷ rule_2 ∷ rule_3 ∷ rule_4 ∷ rule_5 ∷ rule_6 ∷ rule_7 ∷ []) rule_8 (rule_9 ∷ []) call refused
          (omega arith, (omega arith, (omega arith, (omega arith, (omega arith, (omega arith, (omega arith, tt))))))) (omega arith, tt) h is in
          order_place (facts call) (in_message call) refused.place b.broken;
      fresh = λ is.
          let b = broken_at (rule_1 ∷ rule_2 ∷ rule_3 ∷ rule_4 ∷ rule_5 ∷ rule_6 ∷ rule_7 ∷ rule_8 ∷ []) rule_9 [] call refused
          (omega arith, (omega arith, (omega arith, (omega arith, (omega arith, (omega arith, (omega arith, (omega arith, tt)))))))) tt h is in
          fresh_place call.settings call.moment (in_call_order call) refused.place b.broken;
    }

pub all_places : (settings : Settings) (moment : ℕ) (bytes : List ℕ) (result : Result ScreenedView ScreenFault) → HeadLaw → FieldLaw → TokenLaw → TokenFoundLaw → ClaimsLaw
    → IsScreenedBy early_rules (call_of settings moment bytes) result → SpeaksOfPlace bytes (call_of settings moment bytes) result
all_places settings moment bytes (Ok screened) heads fields tokens found claims h = tt
all_places settings moment bytes (Err (Refused refused)) heads fields tokens found claims h = placed settings moment bytes refused heads fields tokens found claims h
all_places settings moment bytes (Err Memory) heads fields tokens found claims h = tt
