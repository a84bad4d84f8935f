-- The questions that are asked of a provider of signatures for a call by itself: whether the signatures of its
-- certificates and of its PASSporTs are good.
use Rattle.std.specs.Prelude.{Bool, ◌&&◌, List, [], ◌∷◌, ◌++◌, is_none, Option, Some, None, if◌then◌else◌}
use Rattle.std.specs.List.{slice_get}
use Rattle.x509_profile.specs.View.{CertView}
use Rattle.cert_store.specs.Judged.{JudgedView}
use Rattle.cert_store.specs.Questions.{questions_of}
use Rattle.cert_store.specs.Rules.{QuestionView, question}
use Rattle.verify_rules.specs.Call.{Call, Reading, in_call_order}
use Rattle.verify_rules.specs.Rules.{early_rules, first}
use Rattle.verify_rules.specs.States.{State, have, no_chain, long, unread}
use Rattle.verify_rules.specs.World.{World, certificate_rules, truths}

-- ---- of the certificates

-- rules 11, 12 and 14 hold
abbrev pub has_authority : JudgedView → Bool
has_authority judged = is_none judged.profile && (is_none judged.shape && is_none judged.authority)

-- from the leaf on, if they do; and of a chain that by itself breaks none of rules 10, 11, 12 and 14
abbrev pub judged_questions : JudgedView → List QuestionView
judged_questions judged = if has_authority judged then questions_of judged else []

abbrev pub chain_questions : State → List QuestionView
chain_questions (have judged) = judged_questions judged
chain_questions no_chain = []
chain_questions long = []
chain_questions unread = []

abbrev pub chains_questions : List State → List QuestionView
chains_questions [] = []
chains_questions (state ∷ states) = chain_questions state ++ chains_questions states

-- ---- of the PASSporTs

-- under the key of the leaf
abbrev pub under_leaf : Reading → Option CertView → List QuestionView
under_leaf one (Some leaf) = question leaf.key one.mark.digest one.mark.signature ∷ []
under_leaf one None = []

abbrev pub own_question : Reading → State → List QuestionView
own_question one (have judged) = under_leaf one (slice_get judged.certificates 0)
own_question one no_chain = []
own_question one long = []
own_question one unread = []

abbrev pub own_questions : List Reading → List State → List QuestionView
own_questions [] states = []
own_questions (one ∷ others) [] = []
own_questions (one ∷ others) (state ∷ states) = own_question one state ++ own_questions others states

-- ---- of a call

-- those of the chains, and if it is so, those of the PASSporTs
abbrev pub questions_over : Bool → List Reading → List State → List QuestionView
questions_over own readings states = chains_questions states ++ (if own then own_questions readings states else [])

-- of the PASSporTs in call order
abbrev pub late_questions : World → Bool → List Reading → List QuestionView
late_questions world own readings = questions_over own readings (truths world readings)

-- Of a call that breaks none of the rules of the call, those of the chains of its PASSporTs, in call order; and if it
-- breaks none of rules 1 to 14, those of the PASSporTs themselves.
unfoldable pub call_questions : World → Call → List QuestionView
call_questions world call = if is_none (first early_rules call)
    then late_questions world (is_none (first (certificate_rules world) call)) (in_call_order call) else []
