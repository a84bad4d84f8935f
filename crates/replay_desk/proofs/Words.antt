-- The words of a desk after one of them was written.
use Rattle.std.proofs.Common.{◌≡◌, ◌≢◌, ℕ, ◌+◌, ◌<◌, List, ◌∷◌, ◌++◌, length, get_or, set, sym, ap, ◌∙◌, subst, ⊎_elim, arith}
use Rattle.std.proofs.lemmas.List.{get_or-set_same, get_or-set_other}
use mathlib.Core.Logic.{dite}
use native.Mathlib.Decide.{ℕ_discrete}
use Rattle.replay_desk.specs.Rule.{Stand}
use Rattle.live_desk.proofs.Sums.{in_append}

module _ (words : List ℕ) (class x : ℕ) (within : class < length words) where
  -- what holds of the number written, and of each word as it was, holds of each word afterwards
  pub word_after : (P : ℕ → ℕ → Type 0) → ((c : ℕ) → c ≡ class → P c x) → ((c : ℕ) → c ≢ class → P c (get_or words c 0)) → (c : ℕ) → P c (get_or (set words class x) c 0)
  word_after P here others c =
      dite (ℕ_discrete c class)
      (λ same. subst (P c) (sym (ap (λ i. get_or (set words class x) i 0) same ∙ get_or-set_same words class x 0 within)) (here c same))
      (λ apart. subst (P c) (sym (get_or-set_other words class c x 0 apart)) (others c apart))

-- a word that was 0 belongs to no pair, so all pairs still have their words after it is written
pub stand_set : (words : List ℕ) (class x : ℕ) (pairs : List (ℕ × ℕ)) → get_or words class 0 ≡ 0 → Stand words pairs → Stand (set words class x) pairs
stand_set words class x pairs free stand p there =
    let word = stand p there in
    let apart : p.0 ≢ class = λ same. let moved : get_or words p.0 0 ≡ get_or words class 0 = ap (λ i. get_or words i 0) same in omega arith in
    get_or-set_other words class p.0 x 0 apart ∙ word

pub stand_more : (words : List ℕ) (p : ℕ × ℕ) (pairs : List (ℕ × ℕ)) → get_or words p.0 0 ≡ p.1 + 1 → Stand words pairs → Stand words (p ∷ pairs)
stand_more words p pairs stands stand q there = ⊎_elim (λ same. subst (λ (r : ℕ × ℕ). get_or words r.0 0 ≡ r.1 + 1) (sym same) stands) (λ behind. stand q behind) there

pub stand_append : (words : List ℕ) (ps qs : List (ℕ × ℕ)) → Stand words ps → Stand words qs → Stand words (ps ++ qs)
stand_append words ps qs first second p there = ⊎_elim (first p) (second p) (in_append p ps qs there)
