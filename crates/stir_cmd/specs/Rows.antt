-- The lines that the program writes of a fault, row by row: which words each line has, and which number (this project's
-- own format). `hop_line`, `fault_line`, `claim_lines` and their kin say the same as functions.
use Rattle.std.specs.Prelude.{◌≡◌, ⊤, ℕ, suc, List, [], ◌∷◌, ◌++◌, length, slice_index, true, codes, Some}
use Rattle.std.specs.Fmt.{decimal}
use Rattle.std.specs.Option.{option_map}
use Rattle.cert_store.specs.Rules.{QuestionView}
use Rattle.hex.specs.Hex.{IsBytes, encode_lower}
use Rattle.auth_service.specs.declared.fault.SignFault.{SignFault}
use Rattle.auth_service.specs.declared.fault.SignFault.TheVariants as signing
use Rattle.live_desk.specs.declared.claim.LiveClaim.{LiveClaim}
use Rattle.live_desk.specs.declared.claim.LiveClaim.TheVariants.{Won, Lost, Full}
use Rattle.retarget.specs.declared.fault.HopFault.{HopFault}
use Rattle.retarget.specs.declared.fault.HopFault.TheVariants as faults
use Rattle.stir_files.specs.Rows.{line_by}
use Rattle.stir_outside.specs.AnswersText.{confirms, row_of_words}
use Rattle.verify_rules.specs.Code.{code_of}
use Rattle.verify_rules.specs.declared.refusal.Place.{Place}
use Rattle.verify_rules.specs.declared.verdict.Verdict.{Verdict}
use Rattle.verify_rules.specs.declared.verdict.Verdict.TheVariants as verdicts

-- ---- `sign` and `divert`

-- `sign fault K`
abbrev pub sign_words : List ℕ → List (List ℕ)
sign_words number = codes "sign" ∷ codes "fault" ∷ number ∷ []

-- `no signature KEY DIGEST`, the digest in hex
abbrev pub unsigned_words : List ℕ → List ℕ → List (List ℕ)
unsigned_words key digest = codes "no" ∷ codes "signature" ∷ key ∷ encode_lower digest ∷ []

-- the line of each fault that comes
abbrev pub IsSignLine : List ℕ → SignFault → List ℕ → Type 0
IsSignLine key signing.Form line = line ≡ line_by (sign_words (codes "1"))
IsSignLine key signing.NoNumber line = line ≡ line_by (sign_words (codes "2"))
IsSignLine key signing.Authority line = line ≡ line_by (sign_words (codes "3"))
IsSignLine key (signing.NoSignature digest) line = line ≡ line_by (unsigned_words key digest)
IsSignLine key signing.Provider line = ⊤
IsSignLine key signing.Memory line = ⊤

-- ---- `retarget`

-- a field, counted from 1, and a part of it
abbrev pub place_word : Place → List ℕ
place_word bad = decimal bad.field ++ (46 ∷ decimal bad.part)

-- `refused CODE RULE PLACE`, and `unread - 10 PLACE`
abbrev pub IsVerdictLine : Verdict → List ℕ → Type 0
IsVerdictLine verdicts.Passed line = ⊤
IsVerdictLine (verdicts.Refused refused) line = line ≡ line_by (codes "refused" ∷ decimal (code_of refused.rule)
    ∷ decimal refused.rule ∷ place_word refused.place ∷ [])
IsVerdictLine (verdicts.Unread bad) line =
    line ≡ line_by (codes "unread" ∷ codes "-" ∷ codes "10" ∷ place_word bad ∷ [])
IsVerdictLine (verdicts.Unasked bad) line = ⊤

-- `hop fault K`
abbrev pub hop_words : List ℕ → List (List ℕ)
hop_words number = codes "hop" ∷ codes "fault" ∷ number ∷ []

-- the line of each fault that comes: the target gives no number, the call has been there, there is no room for one more
-- diversion, what goes on would be too long, the holder may not speak for the number
abbrev pub IsHopLine : List ℕ → HopFault → List ℕ → Type 0
IsHopLine key (faults.Verdict verdict) line = IsVerdictLine verdict line
IsHopLine key faults.Target line = line ≡ line_by (hop_words (codes "21"))
IsHopLine key faults.Loop line = line ≡ line_by (hop_words (codes "22"))
IsHopLine key faults.Full line = line ≡ line_by (hop_words (codes "23"))
IsHopLine key faults.Size line = line ≡ line_by (hop_words (codes "24"))
IsHopLine key faults.Authority line = line ≡ line_by (hop_words (codes "25"))
IsHopLine key (faults.NoSignature digest) line = line ≡ line_by (unsigned_words key digest)
IsHopLine key faults.Provider line = ⊤
IsHopLine key faults.Memory line = ⊤

-- ---- `once`

-- `won`, `lost` or `full LEVEL`
abbrev pub claim_words : LiveClaim → List (List ℕ)
claim_words Won = codes "won" ∷ []
claim_words Lost = codes "lost" ∷ []
claim_words (Full level) = codes "full" ∷ decimal level ∷ []

-- a line for each, with numbers from this one on
abbrev pub rows_from : ℕ → List LiveClaim → List ℕ
rows_from number [] = []
rows_from number (claim ∷ claims) = line_by (decimal number ∷ claim_words claim) ++ rows_from (suc number) claims

-- ---- `ask`

-- a question that an answers file can confirm: an uncompressed point (SEC 1, section 2.3.3), a SHA-256, and a signature
-- of 64 bytes
pub record CanBeConfirmed (asked : QuestionView) : Type 0 where
  pub key : IsBytes asked.key
  pub key_size : length asked.key ≡ 65
  pub uncompressed : slice_index asked.key 0 ≡ 4
  pub digest : IsBytes asked.digest
  pub digest_size : length asked.digest ≡ 32
  pub signature : IsBytes asked.signature
  pub signature_size : length asked.signature ≡ 64

-- the line of a question: its words, read as those of an answers file, confirm its triple
pub record IsAskLine (asked : QuestionView) (line : List ℕ) : Type 0 where
  pub words : List (List ℕ)
  pub text : line ≡ line_by words
  pub reads : option_map (confirms asked.key asked.digest asked.signature) (row_of_words words) ≡ Some true

-- ---- the input

-- what the program says of an input that it can't take: its text, and the status
pub record IsInputLine (line : List ℕ) (status : ℕ) (words : List (List ℕ)) (number : ℕ) : Type 0 where
  pub text : line ≡ line_by words
  pub ends : status ≡ number
