-- The lines of faults have the words of their rows.
use Rattle.std.proofs.Common.{◌≡◌, ℕ, suc, ◌==◌, true, cond, length, slice_index, Option, Some, None, option_and_then, arith, List, [], ◌∷◌, ◌++◌, codes, refl, ◌∙◌, ap, append_assoc}
use Rattle.std.specs.Fmt.{decimal}
use Rattle.std.specs.Option.{option_map}
use Rattle.std.specs.Result.{result_ok}
use Rattle.std.specs.Str.{bytes_eq}
use Rattle.std.proofs.lemmas.Bool.Decides.{nat_tests}
use Rattle.std.proofs.lemmas.Slice.Eq.{bytes_eq-Decides}
use Rattle.hex.specs.Hex.{IsBytes, encode_lower}
use Rattle.hex.proofs.HexLemmas.{decode_sized-encode_lower}
use Rattle.cert_store.specs.Rules.{QuestionView}
use Rattle.call_judging.specs.AskLines.{ask_line}
use Rattle.stir_outside.specs.AnswersText.{bytes_of, confirm_of, confirms, key_of}
use Rattle.auth_service.specs.declared.fault.SignFault.{SignFault}
use Rattle.auth_service.specs.declared.fault.SignFault.TheVariants as signing
use Rattle.live_desk.specs.declared.claim.LiveClaim.{LiveClaim}
use Rattle.live_desk.specs.declared.claim.LiveClaim.TheVariants.{Won, Lost, Full}
use Rattle.log_run.specs.Ending.{failed_line, refused_line, unread_line}
use Rattle.once_run.specs.Lines.{claim_line, claim_lines, lines_from}
use Rattle.retarget.specs.declared.fault.HopFault.{HopFault}
use Rattle.retarget.specs.declared.fault.HopFault.TheVariants as faults
use Rattle.stir_files.specs.Rows.{line_by}
use Rattle.verify_rules.specs.Code.{code_of}
use Rattle.verify_rules.specs.declared.verdict.Verdict.{Verdict}
use Rattle.verify_rules.specs.declared.verdict.Verdict.TheVariants as verdicts
use Rattle.stir_cmd.specs.Gateway.{hop_line, verdict_line}
use Rattle.stir_cmd.specs.Rows.{CanBeConfirmed, IsAskLine, IsHopLine, IsSignLine, IsVerdictLine, claim_words, rows_from}
use Rattle.stir_cmd.specs.Signing.{fault_line}

pub sign_lines : (key : List ℕ) (fault : SignFault) → IsSignLine key fault (fault_line key fault)
sign_lines key signing.Form = refl
sign_lines key signing.NoNumber = refl
sign_lines key signing.Authority = refl
sign_lines key (signing.NoSignature digest) = refl
sign_lines key signing.Provider = tt
sign_lines key signing.Memory = tt

-- three words after the first, and the LF
refused_row : (code rule field part : List ℕ) → (codes "refused " ++ (code ++ (codes " " ++ (rule ++ (codes " " ++ (field ++ (codes "." ++ part))))))) ++ codes "\n"
    ≡ line_by (codes "refused" ∷ code ∷ rule ∷ (field ++ (46 ∷ part)) ∷ [])
refused_row code rule field part =
    let tail : List ℕ = field ++ (46 ∷ part) in
    ap (λ (x : List ℕ). codes "refused " ++ x) (append_assoc code (32 ∷ (rule ++ (32 ∷ tail))) (codes "\n")
    ∙ ap (λ (x : List ℕ). code ++ (32 ∷ x)) (append_assoc rule (32 ∷ tail) (codes "\n")))

verdict_lines : (verdict : Verdict) → IsVerdictLine verdict (verdict_line verdict)
verdict_lines verdicts.Passed = tt
verdict_lines (verdicts.Refused refused) =
    refused_row (decimal (code_of refused.rule)) (decimal refused.rule) (decimal refused.place.field) (decimal refused.place.part)
verdict_lines (verdicts.Unread bad) = refl
verdict_lines (verdicts.Unasked bad) = tt

pub hop_lines : (key : List ℕ) (fault : HopFault) → IsHopLine key fault (hop_line key fault)
hop_lines key (faults.Verdict verdict) = verdict_lines verdict
hop_lines key faults.Target = refl
hop_lines key faults.Loop = refl
hop_lines key faults.Full = refl
hop_lines key faults.Size = refl
hop_lines key faults.Authority = refl
hop_lines key (faults.NoSignature digest) = refl
hop_lines key faults.Provider = tt
hop_lines key faults.Memory = tt

claim_row : (number : ℕ) (claim : LiveClaim) → claim_line number claim ≡ line_by (decimal number ∷ claim_words claim)
claim_row number Won = refl
claim_row number Lost = refl
claim_row number (Full level) = refl

rows_are : (number : ℕ) (claims : List LiveClaim) → lines_from number claims ≡ rows_from number claims
rows_are number [] = refl
rows_are number (claim ∷ claims) =
    ap (λ (line : List ℕ). line ++ lines_from (suc number) claims) (claim_row number claim)
    ∙ ap (λ (others : List ℕ). line_by (decimal number ∷ claim_words claim) ++ others) (rows_are (suc number) claims)

pub claims_are : (claims : List LiveClaim) → claim_lines claims ≡ rows_from 1 claims
claims_are claims = rows_are 1 claims

pub refused_are : (place : ℕ) → refused_line place ≡ line_by (codes "refused" ∷ codes "input" ∷ decimal place ∷ [])
unfolding refused_line
refused_are place = refl

pub failed_are : failed_line ≡ line_by (codes "read" ∷ codes "fault" ∷ codes "input" ∷ [])
unfolding failed_line
failed_are = refl

pub unread_are : (name : List ℕ) → unread_line name ≡ line_by (codes "read" ∷ codes "fault" ∷ name ∷ [])
unfolding unread_line
unread_are name = refl

-- ---- a question

first_is : (key : List ℕ) (k : Option (List ℕ)) → k ≡ Some key → slice_index key 0 ≡ 4 → option_and_then (λ own. cond (slice_index own 0 == 4) (Some own) None) k ≡ Some key
first_is key k e first = let t : (slice_index key 0 == 4) ≡ true = grind (arith, nat_tests) in rw (e, t) refl

same_again : (text : List ℕ) → bytes_eq text text ≡ true
same_again text = (bytes_eq-Decides text text).1 refl

confirmed : (key digest signature a b c : List ℕ) → key_of a ≡ Some key → bytes_of 32 b ≡ Some digest → bytes_of 64 c ≡ Some signature
    → option_map (confirms key digest signature) (confirm_of a b c) ≡ Some true
confirmed key digest signature a b c ek ed es =
    let k = same_again key in let d = same_again digest in let s = same_again signature in rw (ek, ed, es, k, d, s) refl

decoded : (count : ℕ) (bytes : List ℕ) → length bytes ≡ count → IsBytes bytes → bytes_of count (encode_lower bytes) ≡ Some bytes
decoded count bytes size are = ap result_ok (decode_sized-encode_lower bytes count size are)

pub ask_row : (asked : QuestionView) → CanBeConfirmed asked → IsAskLine asked (ask_line asked)
unfolding ask_line
ask_row asked can = record {
  words = codes "confirm" ∷ encode_lower asked.key ∷ encode_lower asked.digest ∷ encode_lower asked.signature ∷ [];
  text = refl;
  reads = confirmed asked.key asked.digest asked.signature (encode_lower asked.key) (encode_lower asked.digest) (encode_lower asked.signature)
      (first_is asked.key (bytes_of 65 (encode_lower asked.key)) (decoded 65 asked.key can.key_size can.key) can.uncompressed)
      (decoded 32 asked.digest can.digest_size can.digest) (decoded 64 asked.signature can.signature_size can.signature);
}
