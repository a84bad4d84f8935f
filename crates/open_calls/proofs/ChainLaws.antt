-- A chain that is opened, and the same chain with some of its questions confirmed.
use Rattle.std.proofs.Common.{◌≡◌, ℕ, suc, ◌≤◌, nat_lt, Bool, true, false, cond, List, [], ◌∷◌, ◌++◌, length, map, Option, Some, None, refl, sym, ◌∙◌, ap, arith}
use Rattle.std.specs.Option.{option_to_list}
use Rattle.std.proofs.lemmas.List.{length-map}
use Rattle.x509_profile.specs.View.{CertView}
use Rattle.cert_store.proofs.JudgedWords.{answered_apart}
use Rattle.cert_store.specs.Asking.{Keys}
use Rattle.cert_store.specs.Judged.{JudgedView, judged_of}
use Rattle.cert_store.specs.Questions.{questions_from, questions_of, seen, with_key}
use Rattle.cert_store.specs.Rules.{QuestionView, Says}
use Rattle.cert_store.specs.declared.judged.Question.{Question}
use Rattle.call_judging.proofs.StateLaws.{chain_same}
use Rattle.call_judging.specs.AlwaysYes.{always_yes}
use Rattle.call_judging.specs.CallQuestions.{chain_questions, has_authority}
use Rattle.verify_rules.specs.States.{State, have, no_chain, long, unread}
use Rattle.open_calls.proofs.ConfirmedSteps.{none_good}
use Rattle.open_calls.specs.Confirmed.{confirmed, says_by}
use Rattle.open_calls.specs.OpenChains.{ChainView, IsChainOf, certificates_of, chain_asked, state_by, with_confirmed}
use Rattle.open_calls.specs.Worlds.{WorldView}

-- ---- what is asked depends on no answer

size_same : (world : WorldView) (says other : Says) (bytes : List ℕ) (t : Bool)
    → chain_questions (cond t long (have (judged_of world.anchors world.table says bytes))) ≡ chain_questions (cond t long (have (judged_of world.anchors world.table other bytes)))
size_same world says other bytes true = refl
size_same world says other bytes false =
    chain_same (have (judged_of world.anchors world.table says bytes)) (have (judged_of world.anchors world.table other bytes)) (answered_apart world.anchors world.table other says bytes)

pub asked_same : (world : WorldView) (says other : Says) (bytes : List ℕ) → chain_questions (state_by world says bytes) ≡ chain_questions (state_by world other bytes)
asked_same world says other bytes = size_same world says other bytes (nat_lt 49152 (length bytes))

pub asked_of : (world : WorldView) (bytes good : List ℕ) (chain : ChainView) → IsChainOf world bytes good chain → chain_questions chain.state ≡ chain_asked world bytes
asked_of world bytes good chain is =
    ap chain_questions is.state_is ∙ asked_same world (says_by (confirmed (chain_asked world bytes) good)) always_yes bytes

-- ---- opened

pub opened : (world : WorldView) (bytes : List ℕ) (chain : ChainView) (good : List QuestionView) → good ≡ []
    → chain ≡ record { bytes = bytes; state = state_by world (says_by good) bytes } → IsChainOf world bytes [] chain
opened world bytes chain good none is = record {
  bytes_are = ap (λ (c : ChainView). c.bytes) is;
  state_is = ap (λ (c : ChainView). c.state) is ∙ ap (λ (g : List QuestionView). state_by world (says_by g) bytes) (none ∙ sym (none_good (chain_asked world bytes)));
}

pub confirmed_of : (world : WorldView) (chain : ChainView) (now : ChainView) (good bytes before : List ℕ) → now ≡ with_confirmed world chain good → IsChainOf world bytes before chain
    → IsChainOf world bytes good now
confirmed_of world chain now good bytes before is was = record {
  bytes_are = ap (λ (c : ChainView). c.bytes) is ∙ was.bytes_are;
  state_is = ap (λ (c : ChainView). c.state) is
      ∙ ap (λ (b : List ℕ). state_by world (says_by (confirmed (chain_questions chain.state) good)) b) was.bytes_are
      ∙ ap (λ (q : List QuestionView). state_by world (says_by (confirmed q good)) bytes) (asked_of world bytes before chain was);
}

-- ---- there are few questions

one_or_none : (certificate : CertView) (key : Option (List ℕ)) (rest : List QuestionView) → length (option_to_list (with_key certificate key) ++ rest) ≤ suc (length rest)
one_or_none certificate (Some key) rest = omega arith
one_or_none certificate None rest = omega arith

from_few : (certificates : List CertView) (keys : Keys) → length (questions_from certificates keys) ≤ length certificates
from_few [] keys = omega arith
from_few (certificate ∷ above) [] = omega arith
from_few (certificate ∷ above) (key ∷ keys) =
    let one = one_or_none certificate key (questions_from above keys) in
    let others = from_few above keys in
    omega (arith, one, others)

of_few : (judged : JudgedView) → length (questions_of judged) ≤ length judged.certificates
unfolding questions_of
of_few judged = from_few judged.certificates judged.keys

if_few : (judged : JudgedView) (t : Bool) → length (cond t (questions_of judged) []) ≤ length judged.certificates
if_few judged true = of_few judged
if_few judged false = omega arith

state_few : (state : State) → length (chain_questions state) ≤ length (certificates_of state)
state_few (have judged) = if_few judged (has_authority judged)
state_few no_chain = omega arith
state_few long = omega arith
state_few unread = omega arith

pub few : (state : State) (asked : List Question) (count : ℕ) → map seen asked ≡ chain_questions state → count ≡ length (certificates_of state) → count ≤ 6 → length asked ≤ 6
few state asked count is counted most =
    let bound = state_few state in
    let size : length asked ≡ length (chain_questions state) = sym (length-map asked seen) ∙ ap length is in
    omega (arith, bound, size)
