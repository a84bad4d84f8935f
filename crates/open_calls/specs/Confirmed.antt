-- Which questions for signatures a verifier confirmed, and the provider that says yes to these alone.
use Rattle.std.specs.Prelude.{◌≡◌, ◌≢◌, ℕ, ◌==◌, Bool, false, ◌&&◌, not, List, [], ◌∷◌, Option, Some, None}
use Rattle.std.specs.Prelude.{if◌then◌else◌}
use Rattle.std.specs.List.{list_any, slice_get}
use Rattle.std.specs.Str.{bytes_eq}
use Rattle.cert_store.specs.Questions.{seen}
use Rattle.cert_store.specs.Rules.{QuestionView, Says}
use Rattle.cert_store.specs.declared.judged.Question.{Question}

-- of these questions those that were confirmed: there is a byte for each, 0 if it wasn't; one without a byte wasn't
abbrev pub confirmed : List QuestionView → List ℕ → List QuestionView
confirmed [] good = []
confirmed (asked ∷ others) [] = []
confirmed (asked ∷ others) (byte ∷ bytes) = if byte == 0 then confirmed others bytes else asked ∷ confirmed others bytes

-- the question is this one
abbrev pub is_this : List ℕ → List ℕ → List ℕ → QuestionView → Bool
is_this key digest signature asked =
    bytes_eq key asked.key && (bytes_eq digest asked.digest && bytes_eq signature asked.signature)

-- yes to these questions, and to nothing else
abbrev pub says_by : List QuestionView → Says
says_by good key digest signature = list_any (is_this key digest signature) good

-- ---- in words

-- the question stands at some place, and the byte of that place isn't 0
pub record IsConfirmed (questions : List QuestionView) (good : List ℕ) (asked : QuestionView) : Type 0 where
  pub at : ℕ
  pub byte : ℕ
  pub question_is : slice_get questions at ≡ Some asked
  pub byte_is : slice_get good at ≡ Some byte
  pub some : byte ≢ 0

-- ---- how they are looked through

-- the byte is there, and isn't 0
abbrev pub is_yes : Option ℕ → Bool
is_yes None = false
is_yes (Some byte) = not (byte == 0)

-- the question at a place is there, is this one, and was confirmed
abbrev pub is_this_at : List ℕ → List ℕ → List ℕ → Bool → Option Question → Bool
is_this_at key digest signature good None = false
is_this_at key digest signature good (Some asked) = good && is_this key digest signature (seen asked)

abbrev pub was_confirmed : List Question → List ℕ → ℕ → List ℕ → List ℕ → List ℕ → Bool
was_confirmed questions good at key digest signature =
    is_this_at key digest signature (is_yes (slice_get good at)) (slice_get questions at)

-- what is confirmed, the signature that is made, if there is one, and how often it was asked
pub record ConfirmedView : Type 0 where
  pub good : List QuestionView
  pub made : Option (List ℕ)
  pub asks : ℕ
