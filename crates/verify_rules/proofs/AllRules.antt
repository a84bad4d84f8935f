-- A verdict over a world says of each rule but the one on replay what it means.
use Rattle.std.proofs.Common.{◌≡◌, ℕ, ◌<◌, ◌≤◌, List, length, Option, Some, None, Result, Ok, Err, refl, sym, ◌∙◌, arith}
use Rattle.verify_rules.specs.AllWords.{SaysRules, early_answer}
use Rattle.verify_rules.specs.Call.{Call, call_of, facts, fields_of, in_call_order, in_message, judged_fields, values_of}
use Rattle.verify_rules.specs.LatePlaces.{SpeaksOfLatePlace}
use Rattle.verify_rules.specs.LateWords.{SaysLateWords}
use Rattle.verify_rules.specs.Places.{IsPlaced, SpeaksOfPlace}
use Rattle.verify_rules.specs.Rules.{early_rules, first}
use Rattle.verify_rules.specs.Screened.{IsScreenedBy, ScreenedView, screened_by, screened_of}
use Rattle.verify_rules.specs.Words.{AreFewFields, CallHasOrder, CanBeRead, Each, IsEs256, IsFresh, IsFrom, IsInvite, MayOriginate, Means, OfOne, SaysWords}
use Rattle.verify_rules.specs.World.{HoldsBytes, VerdictOf, World, late_rules}
use Rattle.verify_rules.specs.declared.refusal.Refusal.{Refusal}
use Rattle.verify_rules.specs.declared.refusal.ScreenFault.{ScreenFault}
use Rattle.verify_rules.specs.declared.refusal.ScreenFault.TheVariants as answers
use Rattle.verify_rules.specs.declared.settings.Settings.{Settings}
use Rattle.verify_rules.specs.declared.verdict.Verdict.{Verdict}
use Rattle.verify_rules.specs.declared.verdict.Verdict.TheVariants.{Passed, Refused, Unread, Unasked}
use Rattle.verify_rules.proofs.AllPlaces.{all_places}
use Rattle.verify_rules.proofs.AllWords.{HeadLaw, all_words}
use Rattle.verify_rules.proofs.FirstLaws.{none_first}
use Rattle.verify_rules.proofs.OrderWords.{OrderLaw}
use Rattle.verify_rules.proofs.TokenWords.{ClaimsLaw, FieldLaw, TokenFoundLaw, TokenLaw}
use Rattle.verify_rules.proofs.WordLaws.{above}
use Rattle.verify_rules.proofs.WorldVerdict.{first_early, first_late}

abbrev pub LateWordsLaw : Type 0
LateWordsLaw = (world : World) (call : Call) (verdict : Verdict) → HoldsBytes world → first early_rules call ≡ None → VerdictOf world call verdict → SaysLateWords world call verdict

abbrev pub LatePlacesLaw : Type 0
LatePlacesLaw = (world : World) (call : Call) (verdict : Verdict) → HoldsBytes world → first early_rules call ≡ None → VerdictOf world call verdict → SpeaksOfLatePlace world call verdict

-- what the rules of the call come to says of each what it means
abbrev WordsLaw : List ℕ → Call → Type 0
WordsLaw bytes call = (result : Result ScreenedView ScreenFault) → IsScreenedBy early_rules call result → SaysWords bytes call result

-- and of where the one is broken that refuses the call
abbrev PlacesLaw : List ℕ → Call → Type 0
PlacesLaw bytes call = (result : Result ScreenedView ScreenFault) → IsScreenedBy early_rules call result → SpeaksOfPlace bytes call result

-- ---- a call that a later rule refuses

refused_behind : (number : ℕ) (P : Type 0) (refused : Refusal) → number < refused.rule → P → Means number P (Err (answers.Refused refused))
refused_behind number P refused high p = ((λ is q. absurd (omega (arith, high, is))), (λ more. p))

refused_late : (bytes : List ℕ) (call : Call) (refused : Refusal) → 9 < refused.rule → SaysWords bytes call (Ok (screened_of call)) → SaysWords bytes call (Err (answers.Refused refused))
unfolding screened_by
refused_late bytes call refused high w = record {
  invite = refused_behind 1 (IsInvite bytes) refused (omega (arith, high)) w.invite;
  identity = refused_behind 2 (1 ≤ length (values_of call)) refused (omega (arith, high)) w.identity;
  fields = refused_behind 3 (AreFewFields (values_of call)) refused (omega (arith, high)) w.fields;
  originating = refused_behind 4 (OfOne MayOriginate (fields_of call)) refused (omega (arith, high)) w.originating;
  algorithms = refused_behind 5 (Each IsEs256 (judged_fields (fields_of call))) refused (omega (arith, high)) w.algorithms;
  tokens = refused_behind 6 (Each (CanBeRead (facts call)) (judged_fields (fields_of call))) refused (omega (arith, high)) w.tokens;
  numbers = λ later. w.numbers;
  read = λ later. w.read;
  calling = refused_behind 7 (Each (IsFrom (facts call).calling) (in_message call)) refused (omega (arith, high)) w.calling;
  order = refused_behind 8 (CallHasOrder call) refused (omega (arith, high)) w.order;
  went = λ later. w.went;
  fresh = refused_behind 9 (Each (IsFresh call.settings call.moment) (in_call_order call)) refused high w.fresh;
}

late_above : (world : World) (call : Call) (refused : Refusal) → first (late_rules world) call ≡ Some refused → 9 < refused.rule
late_above world call refused h =
    above 9 (late_rules world) call refused
    (omega arith, (omega arith, (omega arith, (omega arith, (omega arith, (omega arith, (omega arith, (omega arith, (omega arith, tt))))))))) h

-- its place is none of an earlier rule
placed_behind : (bytes : List ℕ) (call : Call) (refused : Refusal) → 9 < refused.rule → IsPlaced bytes call refused
placed_behind bytes call refused high = record {
  invite = λ is. absurd (omega (arith, high, is));
  identity = λ is. absurd (omega (arith, high, is));
  fields = λ is. absurd (omega (arith, high, is));
  originating = λ is. absurd (omega (arith, high, is));
  algorithms = λ is. absurd (omega (arith, high, is));
  tokens = λ is. absurd (omega (arith, high, is));
  calling = λ is. absurd (omega (arith, high, is));
  order = λ is. absurd (omega (arith, high, is));
  fresh = λ is. absurd (omega (arith, high, is));
}

-- ---- each verdict

place_by : (bytes : List ℕ) (world : World) (call : Call) (verdict : Verdict) (k : Option Refusal) → PlacesLaw bytes call → first early_rules call ≡ k → VerdictOf world call verdict
    → SpeaksOfPlace bytes call (early_answer call verdict)
place_by bytes world call Passed k places e is = tt
place_by bytes world call (Refused refused) None places e is = placed_behind bytes call refused (late_above world call refused (sym (first_late world call e) ∙ is))
place_by bytes world call (Refused refused) (Some other) places e is = places (Err (answers.Refused refused)) (e ∙ (sym (first_early world call other e) ∙ is))
place_by bytes world call (Unread bad) k places e is = tt
place_by bytes world call (Unasked bad) k places e is = tt

early_by : (bytes : List ℕ) (world : World) (call : Call) (verdict : Verdict) (k : Option Refusal) → WordsLaw bytes call → first early_rules call ≡ k → VerdictOf world call verdict
    → SaysWords bytes call (early_answer call verdict)
early_by bytes world call Passed None words e is = words (Ok (screened_of call)) (e, refl)
early_by bytes world call Passed (Some refused) words e is = let no : Some refused ≡ None = sym (first_early world call refused e) ∙ is in absurd cc
early_by bytes world call (Refused refused) None words e is =
    refused_late bytes call refused (late_above world call refused (sym (first_late world call e) ∙ is)) (words (Ok (screened_of call)) (e, refl))
early_by bytes world call (Refused refused) (Some other) words e is = words (Err (answers.Refused refused)) (e ∙ (sym (first_early world call other e) ∙ is))
early_by bytes world call (Unread bad) k words e is = words (Ok (screened_of call)) (none_first early_rules call is.early, refl)
early_by bytes world call (Unasked bad) k words e is = words (Ok (screened_of call)) (none_first early_rules call is.early, refl)

pub all_rules : HeadLaw → FieldLaw → TokenLaw → TokenFoundLaw → ClaimsLaw → OrderLaw → LateWordsLaw → LatePlacesLaw → (world : World) (settings : Settings) (moment : ℕ) (bytes : List ℕ) (verdict : Verdict)
    → HoldsBytes world → VerdictOf world (call_of settings moment bytes) verdict → SaysRules world bytes (call_of settings moment bytes) verdict
all_rules heads fields tokens found claims orders lates places world settings moment bytes verdict typed is =
    let call : Call = call_of settings moment bytes in
    record {
      early = early_by bytes world call verdict (first early_rules call) (λ result h. all_words settings moment bytes result heads fields tokens found claims orders h) refl is;
      late = λ none. lates world call verdict typed none is;
      early_place = place_by bytes world call verdict (first early_rules call) (λ result h. all_places settings moment bytes result heads fields tokens found claims h) refl is;
      late_place = λ none. places world call verdict typed none is;
    }
