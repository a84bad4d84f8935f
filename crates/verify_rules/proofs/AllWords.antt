-- Each answer says of each rule what it means.
use Rattle.std.proofs.Common.{◌≡◌, ◌↔◌, ℕ, ◌≤◌, List, [], ◌∷◌, length, Result, Ok, Err, arith}
use Rattle.sip_message.specs.Head.{Head}
use Rattle.sip_message.specs.Message.{MessageView}
use Rattle.sip_message.specs.Reading.{read}
use Rattle.verify_rules.specs.Call.{Call, call_of, facts, fields_of, in_call_order, in_message, judged_fields, values_of}
use Rattle.verify_rules.specs.Rules.{early_rules, foreign_alg, other_calling, rule_1, rule_2, rule_3, rule_4, rule_5, rule_6, rule_7, rule_8, rule_9, stale}
use Rattle.verify_rules.specs.Screened.{IsScreenedBy, ScreenedView}
use Rattle.verify_rules.specs.Words.{AreRead, CallHasOrder, CanBeRead, Each, IsEs256, IsFresh, IsFrom, IsInvite, AreFewFields, MayOriginate, Means, OfOne, SaysWords, SpeaksOfFields, SpeaksOfRead}
use Rattle.verify_rules.specs.declared.refusal.ScreenFault.{ScreenFault}
use Rattle.verify_rules.specs.declared.refusal.ScreenFault.TheVariants.{Refused, Memory}
use Rattle.verify_rules.specs.declared.settings.Settings.{Settings}
use Rattle.verify_rules.proofs.OrderWords.{OrderLaw, order_means}
use Rattle.verify_rules.proofs.TokenWords.{ClaimsLaw, FieldLaw, TokenFoundLaw, TokenLaw, are_numbered, speaks_of_read, tokens_mean}
use Rattle.verify_rules.proofs.WentLaws.{went_words}
use Rattle.verify_rules.proofs.WordLaws.{each_means, means}
use Rattle.verify_rules.proofs.WordSteps.{alg_means, fields_mean, fresh_means, identity_means, invite_means, orig_means, origin_means}

abbrev pub HeadLaw : Type 0
HeadLaw = (bytes : List ℕ) (message : MessageView) → (read bytes ≡ Ok message) ↔ Head bytes message

read_by : (call : Call) (result : Result ScreenedView ScreenFault) → (Each (CanBeRead (facts call)) (judged_fields (fields_of call)) → AreRead (facts call) (judged_fields (fields_of call)) (in_message call))
    → Means 6 (Each (CanBeRead (facts call)) (judged_fields (fields_of call))) result → SpeaksOfRead call result
read_by call (Ok screened) all h = all h
read_by call (Err (Refused refused)) all h = λ later. all (h.1 later)
read_by call (Err Memory) all h = tt

numbers_by : FieldLaw → (call : Call) (result : Result ScreenedView ScreenFault) → Means 3 (AreFewFields (values_of call)) result → SpeaksOfFields call result
numbers_by law call (Ok screened) h = are_numbered law 1 (values_of call) h.texts
numbers_by law call (Err (Refused refused)) h = λ later. are_numbered law 1 (values_of call) (h.1 later).texts
numbers_by law call (Err Memory) h = tt

pub all_words : (settings : Settings) (moment : ℕ) (bytes : List ℕ) (result : Result ScreenedView ScreenFault) → HeadLaw → FieldLaw → TokenLaw → TokenFoundLaw → ClaimsLaw → OrderLaw
    → IsScreenedBy early_rules (call_of settings moment bytes) result → SaysWords bytes (call_of settings moment bytes) result
all_words settings moment bytes result heads fields tokens found claims orders h =
    let call : Call = call_of settings moment bytes in
    let read : Means 6 (Each (CanBeRead (facts call)) (judged_fields (fields_of call))) result =
    means (Each (CanBeRead (facts call)) (judged_fields (fields_of call))) (rule_1 ∷ rule_2 ∷ rule_3 ∷ rule_4 ∷ rule_5 ∷ []) rule_6 (rule_7 ∷ rule_8 ∷ rule_9 ∷ []) call result (omega arith, (omega arith, (omega arith, (omega arith, (omega arith, tt))))) (omega arith, (omega arith, (omega arith, tt))) (tokens_mean fields tokens found claims (facts call) (values_of call)) h in
    let few : Means 3 (AreFewFields (values_of call)) result =
    means (AreFewFields (values_of call)) (rule_1 ∷ rule_2 ∷ []) rule_3 (rule_4 ∷ rule_5 ∷ rule_6 ∷ rule_7 ∷ rule_8 ∷ rule_9 ∷ []) call result (omega arith, (omega arith, tt)) (omega arith, (omega arith, (omega arith, (omega arith, (omega arith, (omega arith, tt)))))) (fields_mean (values_of call) fields) h in
    let may : Means 4 (OfOne MayOriginate (fields_of call)) result =
    means (OfOne MayOriginate (fields_of call)) (rule_1 ∷ rule_2 ∷ rule_3 ∷ []) rule_4 (rule_5 ∷ rule_6 ∷ rule_7 ∷ rule_8 ∷ rule_9 ∷ []) call result (omega arith, (omega arith, (omega arith, tt))) (omega arith, (omega arith, (omega arith, (omega arith, (omega arith, tt))))) (origin_means (fields_of call)) h in
    let were_read : SpeaksOfRead call result = read_by call result (speaks_of_read fields tokens claims (facts call) (values_of call)) read in
    let order : Means 8 (CallHasOrder call) result =
    means (CallHasOrder call) (rule_1 ∷ rule_2 ∷ rule_3 ∷ rule_4 ∷ rule_5 ∷ rule_6 ∷ rule_7 ∷ []) rule_8 (rule_9 ∷ []) call result (omega arith, (omega arith, (omega arith, (omega arith, (omega arith, (omega arith, (omega arith, tt))))))) (omega arith, tt) (order_means orders (facts call) (in_message call)) h in
    record {
      invite = means (IsInvite bytes) [] rule_1 (rule_2 ∷ rule_3 ∷ rule_4 ∷ rule_5 ∷ rule_6 ∷ rule_7 ∷ rule_8 ∷ rule_9 ∷ []) call result tt (omega arith, (omega arith, (omega arith, (omega arith, (omega arith, (omega arith, (omega arith, (omega arith, tt)))))))) (invite_means bytes heads) h;
      identity = means (1 ≤ length (values_of call)) (rule_1 ∷ []) rule_2 (rule_3 ∷ rule_4 ∷ rule_5 ∷ rule_6 ∷ rule_7 ∷ rule_8 ∷ rule_9 ∷ []) call result (omega arith, tt) (omega arith, (omega arith, (omega arith, (omega arith, (omega arith, (omega arith, (omega arith, tt))))))) (identity_means (values_of call)) h;
      fields = few;
      numbers = numbers_by fields call result few;
      originating = may;
      algorithms = means (Each IsEs256 (judged_fields (fields_of call))) (rule_1 ∷ rule_2 ∷ rule_3 ∷ rule_4 ∷ []) rule_5 (rule_6 ∷ rule_7 ∷ rule_8 ∷ rule_9 ∷ []) call result (omega arith, (omega arith, (omega arith, (omega arith, tt)))) (omega arith, (omega arith, (omega arith, (omega arith, tt)))) (each_means foreign_alg IsEs256 alg_means (judged_fields (fields_of call))) h;
      tokens = read;
      read = were_read;
      calling = means (Each (IsFrom (facts call).calling) (in_message call)) (rule_1 ∷ rule_2 ∷ rule_3 ∷ rule_4 ∷ rule_5 ∷ rule_6 ∷ []) rule_7 (rule_8 ∷ rule_9 ∷ []) call result (omega arith, (omega arith, (omega arith, (omega arith, (omega arith, (omega arith, tt)))))) (omega arith, (omega arith, tt))
          (each_means (other_calling (facts call).calling) (IsFrom (facts call).calling) (orig_means (facts call).calling) (in_message call)) h;
      order = order;
      went = went_words orders call result h may were_read order;
      fresh = means (Each (IsFresh call.settings call.moment) (in_call_order call)) (rule_1 ∷ rule_2 ∷ rule_3 ∷ rule_4 ∷ rule_5 ∷ rule_6 ∷ rule_7 ∷ rule_8 ∷ []) rule_9 [] call result (omega arith, (omega arith, (omega arith, (omega arith, (omega arith, (omega arith, (omega arith, (omega arith, tt)))))))) tt
          (each_means (stale call.settings call.moment) (IsFresh call.settings call.moment) (fresh_means call.settings call.moment) (in_call_order call)) h;
    }
