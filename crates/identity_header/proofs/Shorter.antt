-- What a reader leaves is no longer than what it was given, and shorter after a parameter.
use Rattle.std.proofs.Common.{◌≡◌, ℕ, suc, ◌≤◌, ◌<◌, Bool, true, false, cond, eqb, ◌⊎◌, inl, inr, List, [], ◌∷◌, length, take, drop, Some, Ok, Err, refl, sym, ◌∙◌, ap, arith, length-drop, codes}
use Rattle.std.specs.Prelude.{◌==◌}
use Rattle.std.specs.List.{prefix_len}
use Rattle.std.specs.Option.{is_some}
use Rattle.text_grammar.specs.Bytes.{is_blank, is_name_byte, is_word}
use Rattle.text_grammar.specs.Reading.{Read, one_at, byte_at, skip, some_at, many_at}
use Rattle.lists.specs.Steps.{◌>>=◌}
use Rattle.identity_header.specs.Parts.{Parts, is_bare_byte, is_quoted_byte}
use Rattle.identity_header.specs.Reading.{quoted_at, value_at, equals_at, alg_at, ppt_at, optional_at, other_at, named_at, param_at}
use Rattle.lists.proofs.StepLaws.{came, inside}

-- which way a test went
pub chosen : {X : Type 0} (b : Bool) (x y z : X) → cond b x y ≡ z → ((b ≡ true) × (x ≡ z)) ⊎ ((b ≡ false) × (y ≡ z))
chosen true x y z e = inl (refl, e)
chosen false x y z e = inr (refl, e)

skip-le : (p : ℕ → Bool) (t : List ℕ) → length (skip p t) ≤ length t
skip-le p t = omega (arith, length-drop (prefix_len p t) t)

one-shorter : (p : ℕ → Bool) (t r : List ℕ) → one_at p t ≡ Ok r → length r < length t
one-shorter p [] r e = absurd (cc)
one-shorter p (b ∷ t) r e = elim (chosen (p b) _ _ _ e) [
  | inl w ↦ (let s : Ok t ≡ Ok r = w.1 in let q : t ≡ r = cc in let len : length t ≡ length r = ap (λ (u : List ℕ). length u) q in omega arith)
  | inr w ↦ (let s : Err (b ∷ t) ≡ Ok r = w.1 in absurd (cc))
]

-- of two pairs that are one, the second parts are as long
pub same-rest : {A : Type 0} (x y : A × List ℕ) → ◌≡◌ {A = Read (A × List ℕ)} (Ok x) (Ok y) → length x.1 ≡ length y.1
same-rest {A = A} x y e = ap (λ (p : A × List ℕ). length p.1) (inside x y e)

some-le : (k : ℕ) (t : List ℕ) (x : List ℕ × List ℕ) → some_at k t ≡ Ok x → length x.1 ≤ length t
some-le k t x e = elim (chosen (eqb k 0) _ _ _ e) [
  | inl w ↦ (let s : ◌≡◌ {A = Read (List ℕ × List ℕ)} (Err t) (Ok x) = w.1 in absurd (cc))
  | inr w ↦ omega (arith, length-drop k t, same-rest (take k t, drop k t) x w.1)
]

quoted-le : (t : List ℕ) (x : List ℕ × List ℕ) → quoted_at t ≡ Ok x → length x.1 ≤ length t
unfolding quoted_at
quoted-le t x e =
    let g : List ℕ → Read (List ℕ × List ℕ) = λ r. Ok (take (prefix_len is_quoted_byte t) t, r) in
    let w : (r : List ℕ) × (byte_at 34 (skip is_quoted_byte t) ≡ Ok r) × (g r ≡ Ok x) = came (byte_at 34 (skip is_quoted_byte t)) g x e in
    omega (
      arith,
      one-shorter (λ b. b == 34) (skip is_quoted_byte t) w.0 w.1,
      skip-le is_quoted_byte t,
      same-rest (take (prefix_len is_quoted_byte t) t, w.0) x w.2,
    )

value-le : (t : List ℕ) (x : List ℕ × List ℕ) → value_at t ≡ Ok x → length x.1 ≤ length t
unfolding value_at
value-le [] x e = absurd (cc)
value-le (b ∷ t) x e = elim (chosen (b == 34) _ _ _ e) [
  | inl w ↦ omega (arith, quoted-le t x w.1)
  | inr w ↦ some-le (prefix_len is_bare_byte (b ∷ t)) (b ∷ t) x w.1
]

equals-le : (t : List ℕ) (x : List ℕ × List ℕ) → equals_at t ≡ Ok x → length x.1 ≤ length t
unfolding equals_at
equals-le t x e =
    let w : (r : List ℕ) × (byte_at 61 (skip is_blank t) ≡ Ok r) × (value_at (skip is_blank r) ≡ Ok x) =
    came (byte_at 61 (skip is_blank t)) (λ r. value_at (skip is_blank r)) x e in
    omega (arith, one-shorter (λ b. b == 61) (skip is_blank t) w.0 w.1, skip-le is_blank t, skip-le is_blank w.0, value-le (skip is_blank w.0) x w.2)

-- what is made of a value
made-le : (t : List ℕ) (o : List ℕ → Parts) (g : List ℕ × List ℕ → Read (Parts × List ℕ)) (x : Parts × List ℕ)
    → ((v : List ℕ × List ℕ) → g v ≡ Ok (o v.0, v.1)) → (equals_at t >>= g) ≡ Ok x → length x.1 ≤ length t
made-le t o g x h e =
    let w : (v : List ℕ × List ℕ) × (equals_at t ≡ Ok v) × (g v ≡ Ok x) = came (equals_at t) g x e in
    omega (arith, equals-le t w.0 w.1, same-rest (o w.0.0, w.0.1) x (sym (h w.0) ∙ w.2))

alg-le : (s : Parts) (t : List ℕ) (x : Parts × List ℕ) → alg_at s t ≡ Ok x → length x.1 ≤ length t
unfolding alg_at
alg-le s t x e = elim (chosen (is_some s.alg) _ _ _ e) [
  | inl w ↦ (let h : ◌≡◌ {A = Read (Parts × List ℕ)} (Err t) (Ok x) = w.1 in absurd (cc))
  | inr w ↦ made-le t (λ v. record s { alg = Some v }) _ x (λ v. refl) w.1
]

ppt-le : (s : Parts) (t : List ℕ) (x : Parts × List ℕ) → ppt_at s t ≡ Ok x → length x.1 ≤ length t
unfolding ppt_at
ppt-le s t x e = elim (chosen (is_some s.ppt) _ _ _ e) [
  | inl w ↦ (let h : ◌≡◌ {A = Read (Parts × List ℕ)} (Err t) (Ok x) = w.1 in absurd (cc))
  | inr w ↦ made-le t (λ v. record s { ppt = Some v }) _ x (λ v. refl) w.1
]

optional-le : (t r : List ℕ) → optional_at t ≡ Ok r → length r ≤ length t
unfolding optional_at
optional-le [] r e = absurd (cc)
optional-le (b ∷ t) r e = elim (chosen (b == 61) _ _ _ e) [
  | inl w ↦ valued w.1
  | inr w ↦ (let len : length (b ∷ t) ≡ length r = ap (λ (u : List ℕ). length u) (inside (b ∷ t) r w.1) in omega arith)
]
  where
    valued : (value_at (skip is_blank t) >>= (λ x. Ok x.1)) ≡ Ok r → length r ≤ suc (length t)
    valued h =
        let w : (v : List ℕ × List ℕ) × (value_at (skip is_blank t) ≡ Ok v) × (◌≡◌ {A = Read (List ℕ)} (Ok v.1) (Ok r)) =
        came (value_at (skip is_blank t)) (λ x. Ok x.1) r h in
        let len : length w.0.1 ≡ length r = ap (λ (u : List ℕ). length u) (inside w.0.1 r w.2) in
        omega (arith, value-le (skip is_blank t) w.0 w.1, skip-le is_blank t)

other-le : (t r : List ℕ) → other_at t ≡ Ok r → length r ≤ length t
unfolding other_at
other-le [] r e = let len : 0 ≡ length r = ap (λ (u : List ℕ). length u) (inside [] r e) in omega arith
other-le (b ∷ t) r e = omega (arith, optional-le (skip is_blank (b ∷ t)) r e, skip-le is_blank (b ∷ t))

named-le : (s : Parts) (name t : List ℕ) (x : Parts × List ℕ) → named_at s name t ≡ Ok x → length x.1 ≤ length t
unfolding named_at
named-le s name t x e = elim (chosen (is_word (codes "info") name) _ _ _ e) [
  | inl w ↦ (let h : ◌≡◌ {A = Read (Parts × List ℕ)} (Err t) (Ok x) = w.1 in absurd (cc))
  | inr w ↦ elim (chosen (is_word (codes "alg") name) _ _ _ w.1) [
    | inl v ↦ alg-le s t x v.1
    | inr v ↦ elim (chosen (is_word (codes "ppt") name) _ _ _ v.1) [
      | inl u ↦ ppt-le s t x u.1
      | inr u ↦ other _ (λ r. refl) u.1
    ]
  ]
]
  where
    other : (g : List ℕ → Read (Parts × List ℕ)) → ((r : List ℕ) → g r ≡ Ok (s, r)) → (other_at t >>= g) ≡ Ok x → length x.1 ≤ length t
    other g k h =
        let w : (r : List ℕ) × (other_at t ≡ Ok r) × (g r ≡ Ok x) = came (other_at t) g x h in
        omega (arith, other-le t w.0 w.1, same-rest (s, w.0) x (sym (k w.0) ∙ w.2))

pub param-shorter : (s : Parts) (t : List ℕ) (x : Parts × List ℕ) → param_at s t ≡ Ok x → length x.1 < length t
unfolding param_at
param-shorter s t x e =
    let w : (a : List ℕ) × (byte_at 59 (skip is_blank t) ≡ Ok a) × ((many_at is_name_byte (skip is_blank a) >>= (λ n. named_at s n.0 n.1)) ≡ Ok x) =
    came (byte_at 59 (skip is_blank t)) (λ a. many_at is_name_byte (skip is_blank a) >>= (λ n. named_at s n.0 n.1)) x e in
    let v : (n : List ℕ × List ℕ) × (many_at is_name_byte (skip is_blank w.0) ≡ Ok n) × (named_at s n.0 n.1 ≡ Ok x) =
    came (many_at is_name_byte (skip is_blank w.0)) (λ n. named_at s n.0 n.1) x w.2 in
    omega (
      arith,
      one-shorter (λ b. b == 59) (skip is_blank t) w.0 w.1,
      skip-le is_blank t,
      skip-le is_blank w.0,
      some-le (prefix_len is_name_byte (skip is_blank w.0)) (skip is_blank w.0) v.0 v.1,
      named-le s v.0.0 v.0.1 x v.2,
    )
