-- Which questions are asked for a call, each in words (this project's own rule): whether one is asked, whatever its
-- place.
use Rattle.std.specs.Prelude.{◌≡◌, ◌⊎◌, ℕ, ◌≤◌, List, [], ◌∷◌, Some, None}
use Rattle.std.specs.List.{slice_get}
use Rattle.cert_store.specs.Judged.{JudgedView}
use Rattle.cert_store.specs.Questions.{question_at}
use Rattle.cert_store.specs.Rules.{QuestionView, question}
use Rattle.verify_rules.specs.Call.{Call, Reading, in_call_order}
use Rattle.verify_rules.specs.Rules.{HoldAll, early_rules}
use Rattle.verify_rules.specs.States.{have}
use Rattle.verify_rules.specs.World.{World, certificate_rules, truth_for}
use Rattle.x509_profile.specs.View.{CertView}

-- one of the list is such
abbrev pub SomeOf : {X : Type 0} → (X → Type 0) → List X → Type 0
SomeOf P [] = ⊥
SomeOf P (x ∷ others) = P x ⊎ SomeOf P others

-- the question is in the list
abbrev pub IsAmong : QuestionView → List QuestionView → Type 0
IsAmong asked questions = SomeOf (λ one. asked ≡ one) questions

-- The question for the signature of a certificate in the chain of a PASSporT; the chain is there, and breaks none of
-- rules 11, 12 and 14.
pub record AsksChain (world : World) (asked : QuestionView) (one : Reading) : Type 0 where
  pub judged : JudgedView
  pub known : truth_for world one ≡ have judged
  pub profile : judged.profile ≡ None
  pub shape : judged.shape ≡ None
  pub authority : judged.authority ≡ None
  pub number : ℕ
  pub some : 1 ≤ number
  pub asks : question_at judged number ≡ Some asked

-- The question for the signature of a PASSporT itself, under the key of the leaf of its chain.
pub record AsksOwn (world : World) (asked : QuestionView) (one : Reading) : Type 0 where
  pub judged : JudgedView
  pub known : truth_for world one ≡ have judged
  pub leaf : CertView
  pub first : slice_get judged.certificates 0 ≡ Some leaf
  pub asks : asked ≡ question leaf.key one.mark.digest one.mark.signature

-- of a call that breaks none of the rules of the call the first, and of one that breaks none of rules 1 to 14 the
-- second too
pub data IsAskedFor (world : World) (call : Call) (asked : QuestionView) : Type 0 where
  of_chain : HoldAll early_rules call → SomeOf (AsksChain world asked) (in_call_order call)
      → IsAskedFor world call asked
  of_passport : HoldAll early_rules call → HoldAll (certificate_rules world) call
      → SomeOf (AsksOwn world asked) (in_call_order call) → IsAskedFor world call asked
