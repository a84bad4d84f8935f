-- One question more that isn't the one that is asked or wasn't confirmed, the one that was, and none.
use Rattle.std.proofs.Common.{◌≡◌, ℕ, zero, suc, ◌+◌, ◌≤◌, ◌==◌, Bool, true, false, cond, not, ◌&&◌, ◌||◌, List, [], ◌∷◌, length, drop, map, refl, sym, ◌∙◌, ap, arith}
use Rattle.std.proofs.lemmas.List.{drop_all}
use Rattle.cert_store.specs.Questions.{seen}
use Rattle.cert_store.specs.Rules.{QuestionView}
use Rattle.cert_store.specs.declared.judged.Question.{Question}
use Rattle.open_calls.specs.Confirmed.{confirmed, is_this, says_by, was_confirmed}

pub record SaysUpTo (questions : List Question) (good key digest signature : List ℕ) (i : ℕ) : Type 0 where
  pub left : says_by (confirmed (map seen (drop i questions)) (drop i good)) key digest signature ≡ says_by (confirmed (map seen questions) good) key digest signature

-- without bytes nothing is confirmed
pub none_good : (questions : List QuestionView) → confirmed questions [] ≡ []
none_good [] = refl
none_good (asked ∷ others) = refl

pub none_yet : (questions : List Question) (good key digest signature : List ℕ) → SaysUpTo questions good key digest signature 0
none_yet questions good key digest signature = record { left = refl }

pub by_byte : (key digest signature : List ℕ) (asked : QuestionView) (others : List QuestionView) (t : Bool)
    → says_by (cond t others (asked ∷ others)) key digest signature ≡ ((not t && is_this key digest signature asked) || says_by others key digest signature)
by_byte key digest signature asked others true = refl
by_byte key digest signature asked others false = refl

step : (questions : List Question) (good key digest signature : List ℕ) (i : ℕ)
    → says_by (confirmed (map seen (drop i questions)) (drop i good)) key digest signature
    ≡ (was_confirmed questions good i key digest signature || says_by (confirmed (map seen (drop (suc i) questions)) (drop (suc i) good)) key digest signature)
step [] good key digest signature zero = refl
step [] good key digest signature (suc i) = refl
step (q ∷ questions) [] key digest signature zero = sym (ap (λ (x : List QuestionView). says_by x key digest signature) (none_good (map seen questions)))
step (q ∷ questions) (byte ∷ good) key digest signature zero = by_byte key digest signature (seen q) (confirmed (map seen questions) good) (byte == 0)
step (q ∷ questions) [] key digest signature (suc i) =
    ap (λ (x : List ℕ). says_by (confirmed (map seen (drop i questions)) x) key digest signature) (sym (drop_all i [] (omega arith))) ∙ step questions [] key digest signature i
step (q ∷ questions) (byte ∷ good) key digest signature (suc i) = step questions good key digest signature i

pub goes_on : (questions : List Question) (good key digest signature : List ℕ) (i : ℕ) (found : Bool) → SaysUpTo questions good key digest signature i
    → found ≡ was_confirmed questions good i key digest signature → found ≡ false → SaysUpTo questions good key digest signature (i + 1)
goes_on questions good key digest signature i found so test other =
    let rest = says_by (confirmed (map seen (drop (suc i) questions)) (drop (suc i) good)) key digest signature in
    let here : says_by (confirmed (map seen (drop i questions)) (drop i good)) key digest signature ≡ rest =
    step questions good key digest signature i ∙ ap (λ (x : Bool). x || rest) (sym test ∙ other) in
    let next : i + 1 ≡ suc i = omega arith in
    record { left = ap (λ k. says_by (confirmed (map seen (drop k questions)) (drop k good)) key digest signature) next ∙ sym here ∙ so.left }

pub is_here : (questions : List Question) (good key digest signature : List ℕ) (i : ℕ) (found : Bool) → SaysUpTo questions good key digest signature i
    → found ≡ was_confirmed questions good i key digest signature → found ≡ true → true ≡ says_by (confirmed (map seen questions) good) key digest signature
is_here questions good key digest signature i found so test this =
    let rest = says_by (confirmed (map seen (drop (suc i) questions)) (drop (suc i) good)) key digest signature in
    sym (ap (λ (x : Bool). x || rest) (sym test ∙ this)) ∙ sym (step questions good key digest signature i) ∙ so.left

pub is_absent : (questions : List Question) (good key digest signature : List ℕ) (i : ℕ) → SaysUpTo questions good key digest signature i → length questions ≤ i
    → false ≡ says_by (confirmed (map seen questions) good) key digest signature
is_absent questions good key digest signature i so past =
    sym (ap (λ (x : List Question). says_by (confirmed (map seen x) (drop i good)) key digest signature) (drop_all i questions past)) ∙ so.left
