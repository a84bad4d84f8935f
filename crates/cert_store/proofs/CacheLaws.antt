-- What is held after a chain was used, and after one was put.
use Rattle.std.proofs.Common.{◌≡◌, ℕ, zero, suc, ◌-◌, ◌⊎◌, inl, inr, Bool, true, false, cond, List, [], ◌∷◌, take, is_some, Option, Some, None, refl, sym, ap, ◌∙◌}
use Rattle.std.specs.Cmp.Lexicographic.{bytes_decides}
use Rattle.std.specs.Map.{remove_entry}
use Rattle.std.specs.Str.{bytes_eq}
use Rattle.std.proofs.lemmas.Option.{same_Some}
use Rattle.cert_store.specs.Asking.{is_failed}
use Rattle.cert_store.specs.Holding.{AreAnswered, Chains, Holding, chain_of, in_front, others_of, put_in, touched}
use Rattle.cert_store.specs.Judged.{JudgedView}

pub false_is_not_true : false ≡ true → ⊥
false_is_not_true e = cc

pub same_text : (a b : List ℕ) → bytes_eq a b ≡ true → a ≡ b
same_text a b e = (bytes_decides a b).0 e

-- a text that isn't this one isn't one that is
pub apart : (x t k : List ℕ) → bytes_eq x t ≡ false → bytes_eq t k ≡ true → bytes_eq x k ≡ false
apart x t k other same = ap (bytes_eq x) (sym (same_text t k same)) ∙ other

-- ---- without one chain the others stay

remove_by : (x t : List ℕ) → bytes_eq x t ≡ false → (e : List ℕ × JudgedView) (es : Chains) (same : Bool) → bytes_eq t e.0 ≡ same
    → chain_of x (remove_entry (bytes_eq t) es) ≡ chain_of x es
    → chain_of x (cond same es (e ∷ remove_entry (bytes_eq t) es)) ≡ cond (bytes_eq x e.0) (Some e.1) (chain_of x es)
remove_by x t other e es true is more = sym (ap (λ b. cond b (Some e.1) (chain_of x es)) (apart x t e.0 other is))
remove_by x t other e es false is more = ap (cond (bytes_eq x e.0) (Some e.1)) more

pub remove_other : (x t : List ℕ) → bytes_eq x t ≡ false → (es : Chains) → chain_of x (remove_entry (bytes_eq t) es) ≡ chain_of x es
remove_other x t other [] = refl
remove_other x t other (e ∷ es) = remove_by x t other e es (bytes_eq t e.0) refl (remove_other x t other es)

-- ---- a use

front_by : (x t : List ℕ) (es : Chains) (o : Option JudgedView) (same : Bool) → chain_of t es ≡ o → bytes_eq x t ≡ same → chain_of x (in_front t es o) ≡ chain_of x es
front_by x t es None same at is = refl
front_by x t es (Some j) true at is =
    ap (λ b. cond b (Some j) (chain_of x (remove_entry (bytes_eq t) es))) is ∙ sym at ∙ ap (λ k. chain_of k es) (sym (same_text x t is))
front_by x t es (Some j) false at is = ap (λ b. cond b (Some j) (chain_of x (remove_entry (bytes_eq t) es))) is ∙ remove_other x t is es

-- a use changes no chain
pub touched_same : (t x : List ℕ) (es : Chains) → chain_of x (touched t es) ≡ chain_of x es
touched_same t x es = front_by x t es (chain_of t es) (bytes_eq x t) refl refl

-- ---- a chain that was put

taken_step : (same : Bool) (j k : JudgedView) (o p : Option JudgedView) → (o ≡ Some k → p ≡ Some k) → cond same (Some j) o ≡ Some k → cond same (Some j) p ≡ Some k
taken_step true j k o p law is = is
taken_step false j k o p law is = law is

none_is_some : (k : JudgedView) → ◌≡◌ {A = Option JudgedView} None (Some k) → ⊥
none_is_some k e = cc

taken : (n : ℕ) (x : List ℕ) (k : JudgedView) (es : Chains) → chain_of x (take n es) ≡ Some k → chain_of x es ≡ Some k
taken zero x k es is = absurd (none_is_some k is)
taken (suc n) x k [] is = absurd (none_is_some k is)
taken (suc n) x k (e ∷ es) is = taken_step (bytes_eq x e.0) e.1 k (chain_of x (take n es)) (chain_of x es) (taken n x k es) is

kept_by : (x t : List ℕ) → bytes_eq x t ≡ false → (es : Chains) (n : ℕ) (k : JudgedView) (held : Bool) → chain_of x (cond held (remove_entry (bytes_eq t) es) (take n es)) ≡ Some k
    → chain_of x es ≡ Some k
kept_by x t other es n k true is = sym (remove_other x t other es) ∙ is
kept_by x t other es n k false is = taken n x k es is

found_by : (x t : List ℕ) (j k : JudgedView) (h : Holding) (same : Bool) → bytes_eq x t ≡ same → cond same (Some j) (chain_of x (others_of t h)) ≡ Some k
    → ((x ≡ t) × (k ≡ j)) ⊎ (chain_of x h.entries ≡ Some k)
found_by x t j k h true is at = inl (same_text x t is, sym (same_Some j k at))
found_by x t j k h false is at = inr (kept_by x t is h.entries (h.capacity - 1) k (is_some (chain_of t h.entries)) at)

pub put_found : (t x : List ℕ) (j k : JudgedView) (h : Holding) → chain_of x (put_in t j h) ≡ Some k → ((x ≡ t) × (k ≡ j)) ⊎ (chain_of x h.entries ≡ Some k)
put_found t x j k h at = found_by x t j k h (bytes_eq x t) refl at

-- ---- what was answered

pub put_answered : (t : List ℕ) (j : JudgedView) (h : Holding) → AreAnswered h.entries → is_failed j.asked ≡ false → AreAnswered (put_in t j h)
put_answered t j h all answered = λ x k at. elim (put_found t x j k h at) [
  | inl same ↦ ap (λ (v : JudgedView). is_failed v.asked) same.1 ∙ answered
  | inr before ↦ all x k before
]

pub touched_answered : (t : List ℕ) (es : Chains) → AreAnswered es → AreAnswered (touched t es)
touched_answered t es all = λ x k at. all x k (sym (touched_same t x es) ∙ at)
