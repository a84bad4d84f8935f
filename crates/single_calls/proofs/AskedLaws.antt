-- A question is asked for the calls of a log exactly if one of them asks it, and is then asked once.
use Rattle.std.proofs.Common.{◌≡◌, ◌↔◌, Bool, true, false, ◌&&◌, ◌||◌, List, [], ◌∷◌, ◌++◌, inl, inr, refl, sym, ap, subst, ◌∙◌}
use Rattle.std.specs.Str.{bytes_eq}
use Rattle.std.specs.Cmp.Lexicographic.{bytes_decides}
use Rattle.std.proofs.lemmas.Bool.{and_parts}
use Rattle.call_log.specs.Entry.{Entry}
use Rattle.cert_store.specs.Rules.{QuestionView, question}
use Rattle.verify_rules.specs.Call.{Call}
use Rattle.verify_rules.specs.World.{World}
use Rattle.verify_rules.specs.declared.settings.Settings.{Settings}
use Rattle.verify_service.specs.Judging.{call_in}
use Rattle.call_judging.proofs.AskedForLaws.{among_either, among_left, among_right}
use Rattle.call_judging.specs.AskedFor.{IsAmong, IsAskedFor}
use Rattle.call_judging.specs.CallQuestions.{call_questions}
use Rattle.single_calls.specs.Asked.{IsAskedOf, IsOnce}
use Rattle.single_calls.specs.Asks.{asked_of, calls_questions, fresh, is_same, unless_asked, was_asked}

-- the law of which questions are asked for a call
abbrev pub AskedForCall : Type 0
AskedForCall = (world : World) (call : Call) (asked : QuestionView) → IsAmong asked (call_questions world call) ↔ IsAskedFor world call asked

-- ---- each once

same_one : (one asked : QuestionView) → is_same one asked ≡ true → asked ≡ one
same_one one asked is =
    let parts = and_parts (bytes_eq one.key asked.key) (bytes_eq one.digest asked.digest && bytes_eq one.signature asked.signature) is in
    let others = and_parts (bytes_eq one.digest asked.digest) (bytes_eq one.signature asked.signature) parts.1 in
    let key : one.key ≡ asked.key = (bytes_decides one.key asked.key).0 parts.0 in
    let digest : one.digest ≡ asked.digest = (bytes_decides one.digest asked.digest).0 others.0 in
    let signature : one.signature ≡ asked.signature = (bytes_decides one.signature asked.signature).0 others.1 in
    sym (ap (λ k. question k one.digest one.signature) key ∙ ap (λ d. question asked.key d one.signature) digest ∙ ap (λ s. question asked.key asked.digest s) signature)

one_same : (one asked : QuestionView) → asked ≡ one → is_same one asked ≡ true
one_same one asked e =
    let key : bytes_eq one.key asked.key ≡ true = (bytes_decides one.key asked.key).1 (sym (ap (λ q. q.key) e)) in
    let digest : bytes_eq one.digest asked.digest ≡ true = (bytes_decides one.digest asked.digest).1 (sym (ap (λ q. q.digest) e)) in
    let signature : bytes_eq one.signature asked.signature ≡ true = (bytes_decides one.signature asked.signature).1 (sym (ap (λ q. q.signature) e)) in
    rw (key, digest, signature) refl

was_by : (one asked : QuestionView) (before : List QuestionView) (t : Bool) → is_same one asked ≡ t → (was_asked before asked ≡ true → IsAmong asked before)
    → (t || was_asked before asked) ≡ true → IsAmong asked (one ∷ before)
was_by one asked before true e more h = inl (same_one one asked e)
was_by one asked before false e more h = inr (more h)

was_among : (before : List QuestionView) (asked : QuestionView) → was_asked before asked ≡ true → IsAmong asked before
was_among [] asked h = absurd (cc)
was_among (one ∷ before) asked h = was_by one asked before (is_same one asked) refl (was_among before asked) h

or_later : (t : Bool) → (t || true) ≡ true
or_later true = refl
or_later false = refl

among_was : (before : List QuestionView) (asked : QuestionView) → IsAmong asked before → was_asked before asked ≡ true
among_was [] asked h = absurd h
among_was (one ∷ before) asked (inl e) = rw (one_same one asked e) refl
among_was (one ∷ before) asked (inr h) = rw (among_was before asked h) (or_later (is_same one asked))

fresh_by : (x q : QuestionView) (qs others : List QuestionView) (t : Bool) → (IsAmong x others → IsAmong x qs) → IsAmong x (unless_asked t q others) → IsAmong x (q ∷ qs)
fresh_by x q qs others true more h = inr (more h)
fresh_by x q qs others false more (inl e) = inl e
fresh_by x q qs others false more (inr h) = inr (more h)

fresh_among : (x : QuestionView) (before qs : List QuestionView) → IsAmong x (fresh before qs) → IsAmong x qs
fresh_among x before [] h = h
fresh_among x before (q ∷ qs) h = fresh_by x q qs (fresh (before ++ q ∷ []) qs) (was_asked before q) (fresh_among x (before ++ q ∷ []) qs) h

new_by : (x q : QuestionView) (before others : List QuestionView) (t : Bool) → was_asked before q ≡ t → (IsAmong x others → IsAmong x (before ++ q ∷ []) → ⊥)
    → IsAmong x (unless_asked t q others) → IsAmong x before → ⊥
new_by x q before others true was more h old = more h (among_left x before (q ∷ []) old)
new_by x q before others false was more (inl e) old =
    let k : was_asked before q ≡ true = among_was before q (subst (λ (y : QuestionView). IsAmong y before) e old) in
    absurd (cc)
new_by x q before others false was more (inr h) old = more h (among_left x before (q ∷ []) old)

-- what is asked wasn't asked before
fresh_new : (x : QuestionView) (before qs : List QuestionView) → IsAmong x (fresh before qs) → IsAmong x before → ⊥
fresh_new x before [] h old = h
fresh_new x before (q ∷ qs) h old = new_by x q before (fresh (before ++ q ∷ []) qs) (was_asked before q) refl (fresh_new x (before ++ q ∷ []) qs) h old

head_by : (x q : QuestionView) (before others : List QuestionView) (t : Bool) → was_asked before q ≡ t → x ≡ q → (IsAmong x before → ⊥) → IsAmong x (unless_asked t q others)
head_by x q before others true was e other = absurd (other (subst (λ (y : QuestionView). IsAmong y before) (sym e) (was_among before q was)))
head_by x q before others false was e other = inl e

tail_in : (x q : QuestionView) (others : List QuestionView) (t : Bool) → IsAmong x others → IsAmong x (unless_asked t q others)
tail_in x q others true h = h
tail_in x q others false h = inr h

apart : (x q : QuestionView) (before : List QuestionView) → is_same q x ≡ false → (IsAmong x before → ⊥) → IsAmong x (before ++ q ∷ []) → ⊥
apart x q before no_one other h = elim (among_either x before (q ∷ []) h) [
  | inl old ↦ other old
  | inr here ↦ elim here [
    | inl e ↦ let k : is_same q x ≡ true = one_same q x e in absurd (cc)
    | inr none ↦ none
  ]
]

tail_by : (x q : QuestionView) (before others : List QuestionView) (s : Bool) → is_same q x ≡ s → (IsAmong x before → ⊥) → ((IsAmong x (before ++ q ∷ []) → ⊥) → IsAmong x others)
    → IsAmong x (unless_asked (was_asked before q) q others)
tail_by x q before others true same other more = head_by x q before others (was_asked before q) refl (same_one q x same) other
tail_by x q before others false same other more = tail_in x q others (was_asked before q) (more (apart x q before same other))

-- and what wasn't is
among_fresh : (x : QuestionView) (before qs : List QuestionView) → IsAmong x qs → (IsAmong x before → ⊥) → IsAmong x (fresh before qs)
among_fresh x before [] h other = h
among_fresh x before (q ∷ qs) (inl e) other = head_by x q before (fresh (before ++ q ∷ []) qs) (was_asked before q) refl e other
among_fresh x before (q ∷ qs) (inr h) other =
    tail_by x q before (fresh (before ++ q ∷ []) qs) (is_same q x) refl other (λ new. among_fresh x (before ++ q ∷ []) qs h new)

once_by : (q : QuestionView) (others : List QuestionView) (t : Bool) → (IsAmong q others → ⊥) → IsOnce others → IsOnce (unless_asked t q others)
once_by q others true new once = once
once_by q others false new once = (new, once)

fresh_once : (before qs : List QuestionView) → IsOnce (fresh before qs)
fresh_once before [] = tt
fresh_once before (q ∷ qs) =
    once_by q (fresh (before ++ q ∷ []) qs) (was_asked before q)
    (λ h. fresh_new q (before ++ q ∷ []) qs h (among_right q before (q ∷ []) (inl refl))) (fresh_once (before ++ q ∷ []) qs)

pub asked_once : (world : World) (settings : Settings) (entries : List Entry) → IsOnce (asked_of world settings entries)
asked_once world settings entries = fresh_once [] (calls_questions world settings entries)

-- ---- of a log

log_found : AskedForCall → (world : World) (settings : Settings) (entries : List Entry) (x : QuestionView) → IsAmong x (calls_questions world settings entries) → IsAskedOf world settings entries x
log_found law world settings [] x h = absurd h
log_found law world settings (entry ∷ entries) x h = elim (among_either x (call_questions world (call_in settings entry)) (calls_questions world settings entries) h) [
  | inl here ↦ inl ((law world (call_in settings entry) x).0 here)
  | inr later ↦ inr (log_found law world settings entries x later)
]

log_again : AskedForCall → (world : World) (settings : Settings) (entries : List Entry) (x : QuestionView) → IsAskedOf world settings entries x → IsAmong x (calls_questions world settings entries)
log_again law world settings [] x h = absurd h
log_again law world settings (entry ∷ entries) x (inl is) =
    among_left x (call_questions world (call_in settings entry)) (calls_questions world settings entries) ((law world (call_in settings entry) x).1 is)
log_again law world settings (entry ∷ entries) x (inr later) =
    among_right x (call_questions world (call_in settings entry)) (calls_questions world settings entries) (log_again law world settings entries x later)

pub asked_where : AskedForCall → (world : World) (settings : Settings) (entries : List Entry) (x : QuestionView) → IsAmong x (asked_of world settings entries) ↔ IsAskedOf world settings entries x
asked_where law world settings entries x = (
  λ h. log_found law world settings entries x (fresh_among x [] (calls_questions world settings entries) h),
  λ is. among_fresh x [] (calls_questions world settings entries) (log_again law world settings entries x is) (λ none. none),
)
