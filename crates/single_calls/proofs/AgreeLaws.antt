-- Two providers that agree on what is asked for the calls of a log judge each of them alike.
use Rattle.std.proofs.Common.{◌≡◌, Bool, true, false, ◌&&◌, ◌||◌, List, [], ◌∷◌, ◌++◌, refl, sym, ◌∙◌, ap, subst}
use Rattle.std.specs.Str.{bytes_eq}
use Rattle.std.specs.Cmp.Lexicographic.{bytes_decides}
use Rattle.std.proofs.lemmas.Bool.{and_parts}
use Rattle.call_log.specs.Entry.{Entry}
use Rattle.cert_store.specs.Questions.{AgreeOn}
use Rattle.cert_store.specs.Rules.{QuestionView, Says, is_good}
use Rattle.verify_rules.specs.Call.{Call}
use Rattle.verify_rules.specs.World.{First, World, with_says}
use Rattle.verify_rules.specs.declared.settings.Settings.{Settings}
use Rattle.verify_service.specs.Judging.{call_in}
use Rattle.call_judging.proofs.AgreeLaws.{agree_left, agree_right}
use Rattle.call_judging.specs.CallQuestions.{call_questions}
use Rattle.single_calls.specs.Agreement.{JudgedAlike}
use Rattle.single_calls.specs.Asks.{asked_of, calls_questions, fresh, is_same, unless_asked, was_asked}

-- what is asked for a call depends on no provider, and two that agree on it judge the call alike
abbrev pub SameQuestions : Type 0
SameQuestions = (world : World) (other : Says) (call : Call) → call_questions (with_says world other) call ≡ call_questions world call

abbrev pub AlikeCall : Type 0
AlikeCall = (world : World) (other : Says) (call : Call) → AgreeOn world.says other (call_questions world call) → First (with_says world other) call ≡ First world call

-- ---- agreement on lists

agree_more : (says other : Says) (xs : List QuestionView) (x : QuestionView) → AgreeOn says other xs → is_good says x ≡ is_good other x → AgreeOn says other (xs ++ x ∷ [])
agree_more says other [] x agree one = (one, tt)
agree_more says other (y ∷ xs) x agree one = (agree.0, agree_more says other xs x agree.1 one)

-- two questions that are one
same_good : (says : Says) (one asked : QuestionView) → is_same one asked ≡ true → is_good says one ≡ is_good says asked
same_good says one asked is =
    let parts = and_parts (bytes_eq one.key asked.key) (bytes_eq one.digest asked.digest && bytes_eq one.signature asked.signature) is in
    let others = and_parts (bytes_eq one.digest asked.digest) (bytes_eq one.signature asked.signature) parts.1 in
    let key : one.key ≡ asked.key = (bytes_decides one.key asked.key).0 parts.0 in
    let digest : one.digest ≡ asked.digest = (bytes_decides one.digest asked.digest).0 others.0 in
    let signature : one.signature ≡ asked.signature = (bytes_decides one.signature asked.signature).0 others.1 in
    ap (λ k. says k one.digest one.signature) key ∙ ap (λ d. says asked.key d one.signature) digest ∙ ap (λ s. says asked.key asked.digest s) signature

agree_by : (says other : Says) (one asked : QuestionView) (others t : Bool) → is_same one asked ≡ t → is_good says one ≡ is_good other one → (t || others) ≡ true
    → (others ≡ true → is_good says asked ≡ is_good other asked) → is_good says asked ≡ is_good other asked
agree_by says other one asked others true is here or_later more = sym (same_good says one asked is) ∙ here ∙ same_good other one asked is
agree_by says other one asked others false is here or_later more = more or_later

-- a question that was asked before is agreed on
agree_again : (says other : Says) (before : List QuestionView) (asked : QuestionView) → AgreeOn says other before → was_asked before asked ≡ true → is_good says asked ≡ is_good other asked
agree_again says other [] asked agree was = absurd (cc)
agree_again says other (one ∷ before) asked agree was =
    agree_by says other one asked (was_asked before asked) (is_same one asked) refl agree.0 was (agree_again says other before asked agree.1)

-- the head of what is asked, and what is asked after it
agree_head : (says other : Says) (before : List QuestionView) (asked : QuestionView) (others : List QuestionView) (t : Bool) → was_asked before asked ≡ t → AgreeOn says other before
    → AgreeOn says other (unless_asked t asked others) → (is_good says asked ≡ is_good other asked) × AgreeOn says other others
agree_head says other before asked others true was agree on = (agree_again says other before asked agree was, on)
agree_head says other before asked others false was agree on = (on.0, on.1)

agree_all : (says other : Says) (before questions : List QuestionView) → AgreeOn says other before → AgreeOn says other (fresh before questions) → AgreeOn says other questions
agree_all says other before [] agree on = tt
agree_all says other before (asked ∷ others) agree on =
    let parts = agree_head says other before asked (fresh (before ++ asked ∷ []) others) (was_asked before asked) refl agree on in
    (parts.0, agree_all says other (before ++ asked ∷ []) others (agree_more says other before asked agree parts.0) parts.1)

-- ---- what is asked depends on no provider

pub calls_same : SameQuestions → (world : World) (other : Says) (settings : Settings) (calls : List Entry) → calls_questions (with_says world other) settings calls ≡ calls_questions world settings calls
calls_same same world other settings [] = refl
calls_same same world other settings (call ∷ calls) =
    ap (λ (x : List QuestionView). x ++ calls_questions (with_says world other) settings calls) (same world other (call_in settings call))
    ∙ ap (λ (x : List QuestionView). call_questions world (call_in settings call) ++ x) (calls_same same world other settings calls)

pub asked_same : SameQuestions → (world : World) (other : Says) (settings : Settings) (calls : List Entry) → asked_of (with_says world other) settings calls ≡ asked_of world settings calls
asked_same same world other settings calls = ap (fresh []) (calls_same same world other settings calls)

-- ---- of a log

each_alike : SameQuestions → AlikeCall → (world : World) (settings : Settings) (says other : Says) (calls : List Entry) → AgreeOn says other (calls_questions (with_says world says) settings calls)
    → JudgedAlike world settings says other calls
each_alike same alike world settings says other [] agree = tt
each_alike same alike world settings says other (call ∷ calls) agree =
    let mine : World = with_says world says in
    let here = agree_left says other (call_questions mine (call_in settings call)) (calls_questions mine settings calls) agree in
    let rest = agree_right says other (call_questions mine (call_in settings call)) (calls_questions mine settings calls) agree in
    (sym (alike mine other (call_in settings call) here), each_alike same alike world settings says other calls rest)

pub judged_alike_where : SameQuestions → AlikeCall → (world : World) (settings : Settings) (says other : Says) (calls : List Entry) → AgreeOn says other (asked_of world settings calls)
    → JudgedAlike world settings says other calls
judged_alike_where same alike world settings says other calls agree =
    each_alike same alike world settings says other calls
    (agree_all says other [] (calls_questions (with_says world says) settings calls) tt
    (subst (AgreeOn says other) (sym (asked_same same world says settings calls)) agree))
