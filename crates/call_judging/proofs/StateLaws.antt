-- What is known of chains and what there is to know of them have the same questions.
use Rattle.std.proofs.Common.{◌≡◌, ℕ, Bool, true, false, ◌||◌, List, [], ◌∷◌, ◌++◌, refl, sym, ◌∙◌, ap, subst}
use Rattle.std.specs.List.{list_any}
use Rattle.cert_store.specs.Judged.{JudgedView}
use Rattle.cert_store.specs.Questions.{questions_of}
use Rattle.cert_store.specs.Rules.{QuestionView}
use Rattle.verify_rules.specs.Call.{Reading}
use Rattle.verify_rules.specs.States.{State, have, no_chain, long, unread}
use Rattle.verify_rules.specs.World.{AreRight, IsRight, World, truth_of, truths}
use Rattle.call_judging.specs.Chains.{is_unread}
use Rattle.call_judging.specs.CallQuestions.{chain_questions, chains_questions, judged_questions, own_question, own_questions}

-- both say the same of a chain, but for how its signatures were answered for
abbrev pub Alike : State → State → Type 0
Alike (have judged) (have other) = judged ≡ record other { asked = judged.asked }
Alike (have judged) no_chain = ⊥
Alike (have judged) long = ⊥
Alike (have judged) unread = ⊥
Alike no_chain (have other) = ⊥
Alike no_chain no_chain = Unit {0}
Alike no_chain long = ⊥
Alike no_chain unread = ⊥
Alike long (have other) = ⊥
Alike long no_chain = ⊥
Alike long long = Unit {0}
Alike long unread = ⊥
Alike unread (have other) = ⊥
Alike unread no_chain = ⊥
Alike unread long = ⊥
Alike unread unread = ⊥

abbrev pub AllAlike : List State → List State → Type 0
AllAlike [] [] = Unit {0}
AllAlike [] (other ∷ others) = ⊥
AllAlike (state ∷ states) [] = ⊥
AllAlike (state ∷ states) (other ∷ others) = Alike state other × AllAlike states others

-- ---- the questions

judged_same : (judged other : JudgedView) → judged ≡ record other { asked = judged.asked } → judged_questions judged ≡ judged_questions other
unfolding questions_of
judged_same judged other e = ap judged_questions e

pub chain_same : (state other : State) → Alike state other → chain_questions state ≡ chain_questions other
chain_same (have judged) (have other) alike = judged_same judged other alike
chain_same (have judged) no_chain alike = absurd alike
chain_same (have judged) long alike = absurd alike
chain_same (have judged) unread alike = absurd alike
chain_same no_chain (have other) alike = absurd alike
chain_same no_chain no_chain alike = refl
chain_same no_chain long alike = absurd alike
chain_same no_chain unread alike = absurd alike
chain_same long (have other) alike = absurd alike
chain_same long no_chain alike = absurd alike
chain_same long long alike = refl
chain_same long unread alike = absurd alike
chain_same unread (have other) alike = absurd alike
chain_same unread no_chain alike = absurd alike
chain_same unread long alike = absurd alike
chain_same unread unread alike = absurd alike

pub own_same : (one : Reading) (state other : State) → Alike state other → own_question one state ≡ own_question one other
own_same one (have judged) (have other) alike = ap (λ (x : JudgedView). own_question one (have x)) alike
own_same one (have judged) no_chain alike = absurd alike
own_same one (have judged) long alike = absurd alike
own_same one (have judged) unread alike = absurd alike
own_same one no_chain (have other) alike = absurd alike
own_same one no_chain no_chain alike = refl
own_same one no_chain long alike = absurd alike
own_same one no_chain unread alike = absurd alike
own_same one long (have other) alike = absurd alike
own_same one long no_chain alike = absurd alike
own_same one long long alike = refl
own_same one long unread alike = absurd alike
own_same one unread (have other) alike = absurd alike
own_same one unread no_chain alike = absurd alike
own_same one unread long alike = absurd alike
own_same one unread unread alike = absurd alike

pub chains_same : (states others : List State) → AllAlike states others → chains_questions states ≡ chains_questions others
chains_same [] [] alike = refl
chains_same [] (other ∷ others) alike = absurd alike
chains_same (state ∷ states) [] alike = absurd alike
chains_same (state ∷ states) (other ∷ others) alike =
    ap (λ (x : List QuestionView). x ++ chains_questions states) (chain_same state other alike.0)
    ∙ ap (λ (x : List QuestionView). chain_questions other ++ x) (chains_same states others alike.1)

pub owns_same : (readings : List Reading) (states others : List State) → AllAlike states others → own_questions readings states ≡ own_questions readings others
owns_same [] states others alike = refl
owns_same (one ∷ readings) [] [] alike = refl
owns_same (one ∷ readings) [] (other ∷ others) alike = absurd alike
owns_same (one ∷ readings) (state ∷ states) [] alike = absurd alike
owns_same (one ∷ readings) (state ∷ states) (other ∷ others) alike =
    ap (λ (x : List QuestionView). x ++ own_questions readings states) (own_same one state other alike.0)
    ∙ ap (λ (x : List QuestionView). own_question one other ++ x) (owns_same readings states others alike.1)

-- ---- what is right

one_alike : (world : World) (x5u : List ℕ) (state : State) → IsRight world x5u state → is_unread state ≡ false → Alike state (truth_of world x5u)
one_alike world x5u (have judged) (truth, is, as_judged) known = subst (Alike (have judged)) (sym is) as_judged.same
one_alike world x5u no_chain right known = subst (Alike no_chain) (sym right) tt
one_alike world x5u long right known = subst (Alike long) (sym right) tt
one_alike world x5u unread right known = absurd (cc)

or_false : (a b : Bool) → (a || b) ≡ false → (a ≡ false) × (b ≡ false)
or_false true b e = absurd (cc)
or_false false b e = (refl, e)

pub all_alike : (world : World) (readings : List Reading) (states : List State) → AreRight world readings states → list_any is_unread states ≡ false
    → AllAlike states (truths world readings)
all_alike world [] [] right known = tt
all_alike world [] (state ∷ states) right known = absurd right
all_alike world (one ∷ readings) [] right known = absurd right
all_alike world (one ∷ readings) (state ∷ states) right known =
    let parts = or_false (is_unread state) (list_any is_unread states) known in
    (one_alike world one.passport.x5u state right.0 parts.0, all_alike world readings states right.1 parts.1)
