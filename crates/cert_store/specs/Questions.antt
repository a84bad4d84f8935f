-- The questions for the signatures of a chain that was judged, which are those of rule 15 (RFC 5280, section 6.1.3
-- (a)(1)).
use Rattle.std.specs.Prelude.{◌≡◌, ◌≢◌, ⊤, ℕ, ◌-◌, ◌≤◌, Bool, List, [], ◌∷◌, ◌++◌, Option, Some, None, option_to_list}
use Rattle.std.specs.Prelude.{if◌then◌else◌}
use Rattle.std.specs.List.{slice_get}
use Rattle.x509_profile.specs.View.{CertView}
use Rattle.delegation.specs.Path.{Path, is_listed, issuer_of}
use Rattle.cert_store.specs.declared.judged.Question.{Question}
use Rattle.cert_store.specs.Asking.{Keys}
use Rattle.cert_store.specs.Judged.{JudgedView}
use Rattle.cert_store.specs.Rules.{QuestionView, Says, is_good, question, question_under}
use Rattle.cert_store.specs.Words.{IsNumbered}

-- a question, as it is handed out
abbrev pub seen : Question → QuestionView
seen asked = question asked.key.now asked.digest.now asked.signature.now

-- ---- of a chain that was judged

-- under the key that is kept for a certificate
abbrev pub with_key : CertView → Option (List ℕ) → Option QuestionView
with_key certificate (Some key) = Some (question key certificate.digest certificate.signature)
with_key certificate None = None

abbrev pub kept_question : Option CertView → Option (Option (List ℕ)) → Option QuestionView
kept_question (Some certificate) (Some key) = with_key certificate key
kept_question (Some certificate) None = None
kept_question None key = None

-- that of the certificate of this number, counted from 1
abbrev pub question_at : JudgedView → ℕ → Option QuestionView
question_at judged number =
    kept_question (slice_get judged.certificates (number - 1)) (slice_get judged.keys (number - 1))

abbrev pub questions_from : List CertView → Keys → List QuestionView
questions_from [] keys = []
questions_from (certificate ∷ above) [] = []
questions_from (certificate ∷ above) (key ∷ keys) =
    option_to_list (with_key certificate key) ++ questions_from above keys

-- those of the whole chain, from the leaf on
unfoldable pub questions_of : JudgedView → List QuestionView
questions_of judged = questions_from judged.certificates judged.keys

-- ---- what they are

-- that of a certificate and its issuer; there is none of one that is itself an anchor, byte for byte
abbrev pub question_unless : Bool → CertView → CertView → Option QuestionView
question_unless listed certificate issuer = if listed then None else Some (question_under certificate issuer)

-- If rule 12 is broken there is none. Of a path there is the one that rule 15 asks for each certificate that isn't
-- itself an anchor.
pub record QuestionsAre (anchors : List CertView) (judged : JudgedView) : Type 0 where
  pub none : judged.shape ≢ None → (number : ℕ) → question_at judged number ≡ None
  pub path : (anchor : Option ℕ) (number : ℕ) (c issuer : CertView) → Path judged.certificates anchors anchor
      → 1 ≤ number → IsNumbered judged.certificates number c → issuer_of judged.certificates anchors anchor number
      ≡ Some issuer → question_at judged number ≡ question_unless (is_listed c anchors) c issuer

-- ---- two providers

-- both say the same of each of these questions
abbrev pub AgreeOn : Says → Says → List QuestionView → Type 0
AgreeOn says other [] = ⊤
AgreeOn says other (asked ∷ others) = (is_good says asked ≡ is_good other asked) × AgreeOn says other others
