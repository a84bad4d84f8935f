-- The two laws of the words of a desk, and what a set keeps.
use Rattle.std.proofs.Common.{◌≡◌, ◌≢◌, ℕ, zero, suc, ◌+◌, ◌-◌, ◌*◌, ◌%◌, ◌<◌, ◌⊎◌, inl, inr, ⊎_elim, List, [], ◌∷◌, ◌++◌, length, get_or, set, sym, ap, ◌∙◌, subst, arith}
use Rattle.std.proofs.Math.Nat.{add-mod-mod, add-mod_right, mod-eq_of_lt, mod-lt, mod_self}
use Rattle.std.proofs.lemmas.Nat.{same_from_place, mul-add-lt}
use Rattle.std.proofs.lemmas.List.{get_or-set_same, get_or-set_other, same_from_push}
use mathlib.Core.Logic.{dite}
use native.Mathlib.Decide.{dec_lt, ℕ_discrete}
use Rattle.atomic_table.proofs.Lists.{one_turn}
use Rattle.live_desk.specs.Rule.{SearchGoesRound, Sound, code_of, parent_of, piece_of, reads, turn, word_at}

-- ---- codes

pub code_some : (parent piece : ℕ) → code_of parent piece ≢ 0
unfolding code_of
code_some parent piece = λ none. omega arith

pub parent_code : (parent piece : ℕ) → piece < 8796093022208 → parent_of (code_of parent piece) ≡ parent
unfolding code_of parent_of
parent_code parent piece small = omega arith

pub piece_code : (parent piece : ℕ) → piece < 8796093022208 → piece_of (code_of parent piece) ≡ piece
unfolding code_of piece_of
piece_code parent piece small = omega arith

pub code_parts : (code : ℕ) → code ≢ 0 → code_of (parent_of code) (piece_of code) ≡ code
unfolding code_of parent_of piece_of
code_parts code some = omega arith

-- two codes with one parent and one piece are one
pub one_code : (a b : ℕ) → a ≢ 0 → b ≢ 0 → parent_of a ≡ parent_of b → piece_of a ≡ piece_of b → a ≡ b
one_code a b x y p q = sym (code_parts a x) ∙ (ap (λ (n : ℕ). code_of n (piece_of a)) p ∙ (ap (λ (n : ℕ). code_of (parent_of b) n) q ∙ code_parts b y))

-- ---- the ring of a level

pub turn_lt : (size code tries : ℕ) → 0 < size → turn size code tries < size
turn_lt size code tries some = mod-lt (code % size + tries) some

-- the search comes to every slot
pub turn_of : (size code slot : ℕ) → slot < size → (tries : ℕ) × (tries < size) × (turn size code tries ≡ slot)
turn_of size code slot within =
    let start : code % size < size = mod-lt code (omega arith) in
    dite (dec_lt slot (code % size))
    (λ round.
    let sum : code % size + (slot + size - code % size) ≡ slot + size = omega arith in
    (slot + size - code % size, omega arith, ap (λ (n : ℕ). n % size) sum ∙ (add-mod_right slot size ∙ mod-eq_of_lt within)))
    (λ ahead.
    let sum : code % size + (slot - code % size) ≡ slot = omega arith in
    (slot - code % size, omega arith, ap (λ (n : ℕ). n % size) sum ∙ mod-eq_of_lt within))

-- and to none twice
pub turn_one : (size code a b : ℕ) → a < size → b < size → turn size code a ≡ turn size code b → a ≡ b
turn_one size code a b x y same =
    dite (dec_lt a b)
    (λ less. let one = one_turn (code % size + a) (code % size + b) size (omega arith) (omega arith) same in omega arith)
    (λ more. let one = one_turn (code % size + b) (code % size + a) size (omega arith) (omega arith) (sym same) in omega arith)

pub goes_round : SearchGoesRound
goes_round size code tries some =
    let here : ℕ = turn size code tries in
    let more : turn size code (tries + 1) ≡ (here + 1) % size =
    ap (λ (n : ℕ). n % size) (next (code % size) tries) ∙ (sym (add-mod-mod 1 (code % size + tries) size) ∙ ap (λ (n : ℕ). n % size) (swapped here)) in (
      ap (λ (n : ℕ). n % size) (none (code % size)) ∙ mod-eq_of_lt (mod-lt code some),
      (λ within. more ∙ mod-eq_of_lt within),
      (λ last. more ∙ (ap (λ (n : ℕ). n % size) last ∙ mod_self size)),
    ) where
      next : (a b : ℕ) → a + (b + 1) ≡ 1 + (a + b)
      next a b = omega arith

      swapped : (a : ℕ) → 1 + a ≡ a + 1
      swapped a = omega arith

      none : (a : ℕ) → a + 0 ≡ a
      none a = omega arith

-- ---- the laws

module _ (size : ℕ) (words : List ℕ) (sound : Sound size words) where
  -- no code is at two slots of a level
  pub one_slot : (level a b : ℕ) → level < 6 → a < size → b < size → word_at size words level a ≢ 0 → word_at size words level a ≡ word_at size words level b → a ≡ b
  one_slot level a b below x y some same =
      let code : ℕ = word_at size words level a in
      let i = turn_of size code a x in
      let j = turn_of size code b y in
      let at_i : word_at size words level (turn size code i.0) ≡ code = ap (λ (s : ℕ). word_at size words level s) i.2 in
      let at_j : word_at size words level (turn size code j.0) ≡ code = ap (λ (s : ℕ). word_at size words level s) j.2 ∙ sym same in
      dite (dec_lt i.0 j.0)
      (λ less. absurd ((sound.path level code j.0 i.0 below j.1 less some at_j).1 at_i))
      (λ not_less. dite (dec_lt j.0 i.0)
      (λ more. absurd ((sound.path level code i.0 j.0 below i.1 more some at_i).1 at_j))
      (λ not_more. let one : i.0 ≡ j.0 = omega arith in sym i.2 ∙ (ap (λ (n : ℕ). turn size code n) one ∙ j.2)))

  -- no two slots of a level stand for the same pieces
  pub one_reading : (level a b : ℕ) → level < 6 → a < size → b < size → word_at size words level a ≢ 0 → word_at size words level b ≢ 0
      → reads size words level a ≡ reads size words level b → a ≡ b
  one_reading zero a b below x y p q same =
      let pieces = (same_from_push [] [] _ _ same).1 in
      one_slot 0 a b below x y p (one_code _ _ p q (sound.first a x p ∙ sym (sound.first b y q)) pieces)
  one_reading (suc level) a b below x y p q same =
      let parts = same_from_push _ _ _ _ same in
      let u = sound.parent level a below x p in
      let v = sound.parent level b below y q in
      let one = one_reading level _ _ (omega arith) u.0 v.0 u.1 v.1 parts.0 in
      one_slot (suc level) a b below x y p (one_code _ _ p q one parts.1)

-- ---- a set

module _ (size : ℕ) (words : List ℕ) (counts : length words ≡ 6 * size) (level slot code : ℕ) (below : level < 6) (within : slot < size)
    (free : word_at size words level slot ≡ 0) where
  pub place_lt : level * size + slot < length words
  place_lt = let bound = mul-add-lt level size slot 6 below within in omega arith

  -- a word that isn't 0 stays
  pub kept : (l s : ℕ) → s < size → word_at size words l s ≢ 0 → word_at size (set words (level * size + slot) code) l s ≡ word_at size words l s
  kept l s lt some =
      get_or-set_other words (level * size + slot) (l * size + s) code 0
      (λ same. some (ap (λ (i : ℕ). get_or words i 0) same ∙ free))

  -- each word is this one, or as it was
  pub way : (l s : ℕ) → s < size → ((l ≡ level) × (s ≡ slot) × (word_at size (set words (level * size + slot) code) l s ≡ code))
      ⊎ (word_at size (set words (level * size + slot) code) l s ≡ word_at size words l s)
  way l s lt =
      dite (ℕ_discrete (l * size + s) (level * size + slot))
      (λ same.
      let parts = same_from_place l s level slot size lt within same in
      inl (parts.0, parts.1, ap (λ (i : ℕ). get_or (set words (level * size + slot) code) i 0) same ∙ get_or-set_same words (level * size + slot) code 0 place_lt))
      (λ apart. inr (get_or-set_other words (level * size + slot) (l * size + s) code 0 apart))

  pub set_here : word_at size (set words (level * size + slot) code) level slot ≡ code
  set_here = get_or-set_same words (level * size + slot) code 0 place_lt

  module _ (sound : Sound size words) where
    -- what a slot that isn't 0 stands for stays
    pub reads_kept : (l s : ℕ) → l < 6 → s < size → word_at size words l s ≢ 0 → reads size (set words (level * size + slot) code) l s ≡ reads size words l s
    reads_kept zero s lt within some = ap (λ (n : ℕ). piece_of n ∷ []) (kept 0 s within some)
    reads_kept (suc l) s lt within some =
        let u = sound.parent l s lt within some in
        ap (λ (n : ℕ). reads size (set words (level * size + slot) code) l (parent_of n) ++ piece_of n ∷ []) (kept (suc l) s within some)
        ∙ ap (λ (xs : List ℕ). xs ++ piece_of (word_at size words (suc l) s) ∷ []) (reads_kept l _ (omega arith) u.0 u.1)

    -- What a set asks: the code is under the slot of its parent, and each slot on the way has another code
    pub set_sound : (tries : ℕ) → tries < size → slot ≡ turn size code tries
        → ((before : ℕ) → before < tries → (word_at size words level (turn size code before) ≢ 0) × (word_at size words level (turn size code before) ≢ code))
        → (level ≡ 0 → parent_of code ≡ 0)
        → ((l : ℕ) → level ≡ suc l → (parent_of code < size) × (word_at size words l (parent_of code) ≢ 0))
        → Sound size (set words (level * size + slot) code)
    set_sound tries few here way_there first parent = record {
      first = λ s lt some. ⊎_elim
          (λ new. ap parent_of new.2 ∙ first (sym new.0))
          (λ old. ap parent_of old ∙ sound.first s lt (λ none. some (old ∙ none)))
          (way 0 s lt);
      parent = λ l s lt small some. ⊎_elim
          (λ new.
          let u = parent l (sym new.0) in
          let same = ap parent_of new.2 in
          subst (λ (n : ℕ). (n < size) × (word_at size (set words (level * size + slot) code) l n ≢ 0)) (sym same)
          (u.0, λ none. u.1 (sym (kept l _ u.0 u.1) ∙ none)))
          (λ old.
          let u = sound.parent l s lt small (λ none. some (old ∙ none)) in
          let same = ap parent_of old in
          subst (λ (n : ℕ). (n < size) × (word_at size (set words (level * size + slot) code) l n ≢ 0)) (sym same)
          (u.0, λ none. u.1 (sym (kept l _ u.0 u.1) ∙ none)))
          (way (suc l) s small);
      path = λ l c i j lt few' less some at.
          let inside : (n : ℕ) → turn size c n < size = λ n. turn_lt size c n (omega arith) in
          let keep : (word_at size words l (turn size c j) ≢ 0) × (word_at size words l (turn size c j) ≢ c)
          → (word_at size (set words (level * size + slot) code) l (turn size c j) ≢ 0) × (word_at size (set words (level * size + slot) code) l (turn size c j) ≢ c) =
          λ was. let same = kept l (turn size c j) (inside j) was.0 in ((λ none. was.0 (sym same ∙ none)), (λ is. was.1 (sym same ∙ is))) in
          ⊎_elim
          (λ new.
          let code_is : code ≡ c = sym new.2 ∙ at in
          let one : i ≡ tries = turn_one size c i tries few' few (new.1 ∙ (here ∙ ap (λ (n : ℕ). turn size n tries) code_is)) in
          let was = way_there j (omega arith) in
          keep (subst (λ (n : ℕ). (word_at size words l (turn size n j) ≢ 0) × (word_at size words l (turn size n j) ≢ n)) code_is
          (subst (λ (n : ℕ). (word_at size words n (turn size code j) ≢ 0) × (word_at size words n (turn size code j) ≢ code)) (sym new.0) was)))
          (λ old. keep (sound.path l c i j lt few' less some (sym old ∙ at)))
          (way l (turn size c i) (inside i));
    }
