-- A provider says yes to a question exactly if it was confirmed: it stands at a place whose byte isn't 0.
use Rattle.std.proofs.Common.{◌≡◌, ◌≢◌, ◌⊎◌, inl, inr, ℕ, zero, suc, ◌==◌, Bool, true, false, not, ◌&&◌, ◌||◌, List, [], ◌∷◌, Some, refl, sym, ◌∙◌, ap, subst, arith}
use Rattle.std.specs.List.{slice_get}
use Rattle.std.specs.Str.{bytes_eq}
use Rattle.std.proofs.lemmas.Bool.Decides.{nat_tests}
use Rattle.std.proofs.lemmas.Option.{none-some, same_Some}
use Rattle.std.proofs.lemmas.Slice.Eq.{bytes_eq-Decides}
use Rattle.cert_store.specs.Rules.{QuestionView, question}
use Rattle.open_calls.specs.Confirmed.{IsConfirmed, confirmed, is_this, says_by}
use Rattle.open_calls.proofs.ConfirmedSteps.{by_byte}

-- ---- tests

either : (x y : Bool) → (x || y) ≡ true → (x ≡ true) ⊎ (y ≡ true)
either true y is = inl refl
either false y is = inr is

or_true : (x y : Bool) → y ≡ true → (x || y) ≡ true
or_true true y is = refl
or_true false y is = is

both : (x y : Bool) → (x && y) ≡ true → (x ≡ true) × (y ≡ true)
both true y is = (refl, is)
both false y is = absurd (cc)

isnt : (x : Bool) → not x ≡ true → x ≡ false
isnt true is = absurd (cc)
isnt false is = refl

not_zero : (b : ℕ) → (b == 0) ≡ false → b ≢ 0
not_zero zero is = absurd (cc)
not_zero (suc b) is = λ e. omega (arith, e)

tests_false : (b : ℕ) → b ≢ 0 → (b == 0) ≡ false
tests_false zero some = absurd (some refl)
tests_false (suc b) some = grind (arith, nat_tests)

-- ---- one question

is_itself : (asked : QuestionView) → is_this asked.key asked.digest asked.signature asked ≡ true
is_itself asked =
    let key : bytes_eq asked.key asked.key ≡ true = (bytes_eq-Decides asked.key asked.key).1 refl in
    let digest : bytes_eq asked.digest asked.digest ≡ true = (bytes_eq-Decides asked.digest asked.digest).1 refl in
    let signature : bytes_eq asked.signature asked.signature ≡ true = (bytes_eq-Decides asked.signature asked.signature).1 refl in
    λ i. key i && (digest i && signature i)

this_alone : (key digest signature : List ℕ) (asked : QuestionView) → is_this key digest signature asked ≡ true → asked ≡ question key digest signature
this_alone key digest signature asked is =
    let first = both (bytes_eq key asked.key) (bytes_eq digest asked.digest && bytes_eq signature asked.signature) is in
    let second = both (bytes_eq digest asked.digest) (bytes_eq signature asked.signature) first.1 in
    let same_key : key ≡ asked.key = (bytes_eq-Decides key asked.key).0 first.0 in
    let same_digest : digest ≡ asked.digest = (bytes_eq-Decides digest asked.digest).0 second.0 in
    let same_signature : signature ≡ asked.signature = (bytes_eq-Decides signature asked.signature).0 second.1 in
    λ i. record { key = sym same_key i; digest = sym same_digest i; signature = sym same_signature i }

-- ---- all of them

yes_at : (questions : List QuestionView) (good : List ℕ) (at byte : ℕ) (asked : QuestionView) → slice_get questions at ≡ Some asked → slice_get good at ≡ Some byte → byte ≢ 0
    → says_by (confirmed questions good) asked.key asked.digest asked.signature ≡ true
yes_at [] good at byte asked stands given some = absurd (none-some asked stands)
yes_at (q ∷ questions) [] at byte asked stands given some = absurd (none-some byte given)
yes_at (q ∷ questions) (b ∷ good) zero byte asked stands given some =
    let test : (b == 0) ≡ false = tests_false b (λ e. some (sym (same_Some b byte given) ∙ e)) in
    let this : is_this asked.key asked.digest asked.signature q ≡ true =
    subst (λ (x : QuestionView). is_this asked.key asked.digest asked.signature x ≡ true) (sym (same_Some q asked stands)) (is_itself asked) in
    by_byte asked.key asked.digest asked.signature q (confirmed questions good) (b == 0)
    ∙ (λ i. (not (test i) && this i) || says_by (confirmed questions good) asked.key asked.digest asked.signature)
yes_at (q ∷ questions) (b ∷ good) (suc at) byte asked stands given some =
    by_byte asked.key asked.digest asked.signature q (confirmed questions good) (b == 0)
    ∙ or_true (not (b == 0) && is_this asked.key asked.digest asked.signature q) (says_by (confirmed questions good) asked.key asked.digest asked.signature)
    (yes_at questions good at byte asked stands given some)

pub yes : (questions : List QuestionView) (good : List ℕ) (asked : QuestionView) → IsConfirmed questions good asked → says_by (confirmed questions good) asked.key asked.digest asked.signature ≡ true
yes questions good asked c = yes_at questions good c.at c.byte asked c.question_is c.byte_is c.some

further : (q : QuestionView) (questions : List QuestionView) (b : ℕ) (good : List ℕ) (asked : QuestionView) → IsConfirmed questions good asked → IsConfirmed (q ∷ questions) (b ∷ good) asked
further q questions b good asked c = record { at = suc c.at; byte = c.byte; question_is = c.question_is; byte_is = c.byte_is; some = c.some }

here : (q : QuestionView) (questions : List QuestionView) (b : ℕ) (good key digest signature : List ℕ) → (not (b == 0) && is_this key digest signature q) ≡ true
    → IsConfirmed (q ∷ questions) (b ∷ good) (question key digest signature)
here q questions b good key digest signature is =
    let parts = both (not (b == 0)) (is_this key digest signature q) is in
    record {
      at = 0;
      byte = b;
      question_is = ap Some (this_alone key digest signature q parts.1);
      byte_is = refl;
      some = not_zero b (isnt (b == 0) parts.0);
    }

pub alone : (questions : List QuestionView) (good key digest signature : List ℕ) → says_by (confirmed questions good) key digest signature ≡ true
    → IsConfirmed questions good (question key digest signature)
alone [] good key digest signature said = absurd (cc)
alone (q ∷ questions) [] key digest signature said = absurd (cc)
alone (q ∷ questions) (b ∷ good) key digest signature said =
    elim (either (not (b == 0) && is_this key digest signature q) (says_by (confirmed questions good) key digest signature)
    (sym (by_byte key digest signature q (confirmed questions good) (b == 0)) ∙ said)) [
      | inl is ↦ here q questions b good key digest signature is
      | inr is ↦ further q questions b good (question key digest signature) (alone questions good key digest signature is)
    ]
