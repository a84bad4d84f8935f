-- Facts about lists that the laws of the pieces rest on.
use Rattle.std.proofs.Common.{◌≡◌, ℕ, zero, suc, ◌+◌, ◌≤◌, Bool, true, false, ◌⊎◌, inl, inr, List, [], ◌∷◌, ◌++◌, length, take, drop, refl, sym, arith}
use Rattle.std.specs.List.{list_all, prefix_len}
use Rattle.std.proofs.lemmas.Bool.{cases_Bool, and_parts, and_from, both_ways}

pub all_of_tail : (p : ℕ → Bool) (x : ℕ) (a : List ℕ) → list_all p (x ∷ a) ≡ true → list_all p a ≡ true
all_of_tail p x a h = (and_parts (p x) (list_all p a) h).1

pub all_of_head : (p : ℕ → Bool) (x : ℕ) (a : List ℕ) → list_all p (x ∷ a) ≡ true → p x ≡ true
all_of_head p x a h = (and_parts (p x) (list_all p a) h).0

pub all_push : (p : ℕ → Bool) (a : List ℕ) (x : ℕ) → list_all p a ≡ true → p x ≡ true → list_all p (a ++ x ∷ []) ≡ true
all_push p [] x h k = and_from (p x) true k refl
all_push p (y ∷ a) x h k = and_from (p y) (list_all p (a ++ x ∷ [])) (all_of_head p y a h) (all_push p a x (all_of_tail p y a h) k)

-- The first bytes of a text that pass, at most as many as a limit allows.
pub record Cut (p : ℕ → Bool) (lim : ℕ → Type 0) (a rest : List ℕ) : Type 0 where
  pub each : list_all p a ≡ true
  pub fits : lim (length a)
  pub stop : (x : ℕ) (u : List ℕ) → rest ≡ x ∷ u → (p x ≡ false) ⊎ (lim (suc (length a)) → ⊥)

-- Two ways to split one text into a run and what comes after it are one.
pub same_run : (p : ℕ → Bool) (lim : ℕ → Type 0) (a s b t : List ℕ)
    → ((j k : ℕ) → j ≤ k → lim k → lim j)
    → a ++ s ≡ b ++ t → Cut p lim a s → list_all p b ≡ true → lim (length b)
    → ((x : ℕ) (u : List ℕ) → t ≡ x ∷ u → p x ≡ false)
    → (a ≡ b) × (s ≡ t)
same_run p lim [] s [] t down e c all fits stop = (refl, e)
same_run p lim [] s (y ∷ b) t down e c all fits stop =
    elim (c.stop y (b ++ t) e) [
      | inl k ↦ absurd (both_ways (p y) k (all_of_head p y b all))
      | inr k ↦ absurd (k (down 1 (suc (length b)) (omega arith) fits))
    ]
same_run p lim (x ∷ a) s [] t down e c all fits stop =
    absurd (both_ways (p x) (stop x (a ++ s) (sym e)) (all_of_head p x a c.each))
same_run p lim (x ∷ a) s (y ∷ b) t down e c all fits stop =
    let r : (a ≡ b) × (s ≡ t) =
    same_run p (λ n. lim (suc n)) a s b t (λ j k h. down (suc j) (suc k) (omega arith)) (cc)
    (record { each = all_of_tail p x a c.each; fits = c.fits; stop = c.stop })
    (all_of_tail p y b all) fits stop in
    let h : x ≡ y = cc in
    let same : a ≡ b = r.0 in
    (cc, r.1)

-- the bytes that pass, without a limit
pub cut-prefix_len : (p : ℕ → Bool) (t : List ℕ) → Cut p (λ n. Unit {0}) (take (prefix_len p t) t) (drop (prefix_len p t) t)
cut-prefix_len p [] = record { each = refl; fits = tt; stop = λ x u e. absurd (cc) }
cut-prefix_len p (y ∷ t) = elim (cases_Bool (p y)) [
  | inl k ↦ rw k (let one : 1 + prefix_len p t ≡ suc (prefix_len p t) = omega arith in rw one
      (record { each = and_from (p y) _ k (cut-prefix_len p t).each; fits = tt; stop = (cut-prefix_len p t).stop }))
  | inr k ↦ rw k (record { each = refl; fits = tt; stop = λ x u e. inl (let same : y ≡ x = cc in cc) })
]

-- and up to a limit
pub cut-limited : (p : ℕ → Bool) (most : ℕ) (t : List ℕ)
    → Cut p (λ n. n ≤ most) (take (prefix_len p (take most t)) t) (drop (prefix_len p (take most t)) t)
cut-limited p zero t = record { each = refl; fits = omega arith; stop = λ x u e. inr (λ h. omega arith) }
cut-limited p (suc most) [] = record { each = refl; fits = omega arith; stop = λ x u e. absurd (cc) }
cut-limited p (suc most) (y ∷ t) = elim (cases_Bool (p y)) [
  | inl k ↦ rw k (let one : 1 + prefix_len p (take most t) ≡ suc (prefix_len p (take most t)) = omega arith in rw one
      (record {
        each = and_from (p y) _ k (cut-limited p most t).each;
        fits = omega (arith, (cut-limited p most t).fits);
        stop = λ x u e. limited_stop p most t x _ ((cut-limited p most t).stop x u e);
      }))
  | inr k ↦ rw k (record { each = refl; fits = omega arith; stop = λ x u e. inl (let same : y ≡ x = cc in cc) })
]
  where
    limited_stop : (p : ℕ → Bool) (most : ℕ) (t : List ℕ) (x n : ℕ) → (p x ≡ false) ⊎ (suc n ≤ most → ⊥) → (p x ≡ false) ⊎ (suc (suc n) ≤ suc most → ⊥)
    limited_stop p most t x n h = elim h [ inl k ↦ inl k | inr k ↦ inr (λ q. k (omega arith)) ]
