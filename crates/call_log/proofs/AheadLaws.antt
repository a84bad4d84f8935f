-- What the block holds, what a read puts into it, and what is taken out of it.
use Rattle.std.proofs.Common.{◌≡◌, ℕ, ◌+◌, ◌-◌, ◌<◌, ◌≤◌, ◌==◌, Bool, true, false, List, [], ◌∷◌, ◌++◌, length, take, drop, Option, Some, None, Result, Ok, Err, OnErr, refl, sym, ◌∙◌, ap, subst, arith, append_assoc}
use Rattle.std.specs.Io.KnownBytes.{Consumes, IsAtEnd, Keeps, prepend_known}
use Rattle.std.proofs.KnownBytes.{Consumes-trans}
use Rattle.std.proofs.lemmas.List.{drop-drop, drop-take, length-drop, length-take-le, take-append-drop, take-take}
use Rattle.call_log.specs.Supply.{AheadState, available, unless_ended}

-- from this place of the block up to that one
abbrev pub between : List ℕ → ℕ → ℕ → List ℕ
between block start end = take (end - start) (drop start block)

none_between : (block : List ℕ) (start end : ℕ) → end ≤ start → between block start end ≡ []
none_between block start end used = let none : end - start ≡ 0 = omega arith in ap (λ n. take n (drop start block)) none

-- ---- nothing is ahead, and a read failed

failed_by : (ended : Bool) (bytes : List ℕ) (left left_now : Option (List ℕ)) → bytes ≡ [] → (ended ≡ true → ⊥) → Keeps left left_now
    → Consumes (prepend_known bytes (unless_ended ended left)) (prepend_known [] (unless_ended ended left_now)) []
failed_by true bytes left left_now none going keeps = absurd (going refl)
failed_by false bytes None left_now none going keeps = tt
failed_by false bytes (Some xs) None none going keeps = absurd keeps
failed_by false bytes (Some xs) (Some ys) none going keeps = ap (λ b. b ++ xs) none ∙ sym keeps

pub read_failed : (ended : Bool) (block block_now : List ℕ) (start end : ℕ) (left left_now : Option (List ℕ)) → end ≤ start → (ended ≡ true → ⊥) → Keeps left left_now
    → Consumes (available (record { bytes = between block start end; ended = ended }) left) (available (record { bytes = between block_now 0 0; ended = ended }) left_now) []
read_failed ended block block_now start end left left_now used going keeps = failed_by ended (between block start end) left left_now (none_between block start end used) going keeps

-- ---- nothing is ahead, and a read gave some bytes, or none at the end

got_by : (t ended : Bool) (bytes taken : List ℕ) (left left_now : Option (List ℕ)) → bytes ≡ [] → (ended ≡ true → ⊥) → Consumes left left_now taken → (t ≡ true → IsAtEnd left_now)
    → Consumes (prepend_known bytes (unless_ended ended left)) (prepend_known taken (unless_ended t left_now)) []
got_by t true bytes taken left left_now none going consumed ends = absurd (going refl)
got_by t false bytes taken None left_now none going consumed ends = tt
got_by t false bytes taken (Some xs) None none going consumed ends = absurd consumed
got_by true false bytes taken (Some xs) (Some ys) none going consumed ends = ap (λ b. b ++ xs) none ∙ consumed ∙ ap (λ y. taken ++ y) (ends refl)
got_by false false bytes taken (Some xs) (Some ys) none going consumed ends = ap (λ b. b ++ xs) none ∙ consumed

pub read_gave : (ended : Bool) (block block_now : List ℕ) (start end count : ℕ) (left left_now : Option (List ℕ)) → end ≤ start → (ended ≡ true → ⊥)
    → Consumes left left_now (take count block_now) → ((count == 0) ≡ true → IsAtEnd left_now)
    → Consumes (available (record { bytes = between block start end; ended = ended }) left) (available (record { bytes = between block_now 0 count; ended = count == 0 }) left_now) []
read_gave ended block block_now start end count left left_now used going consumed ends =
    let all : take count block_now ≡ between block_now 0 count = let size : count ≡ count - 0 = omega arith in ap (λ n. take n block_now) size in
    got_by (count == 0) ended (between block start end) (between block_now 0 count) left left_now (none_between block start end used) going
    (subst (Consumes left left_now) all consumed) ends

-- ---- bytes that are taken out

taken_off : (ended : Bool) (bytes piece rest : List ℕ) (left left_now mid : Option (List ℕ)) → Consumes left mid [] → mid ≡ prepend_known bytes (unless_ended ended left_now) → bytes ≡ piece ++ rest
    → Consumes left (prepend_known rest (unless_ended ended left_now)) piece
taken_off ended bytes piece rest left left_now mid consumed is split =
    Consumes-trans left mid (prepend_known rest (unless_ended ended left_now)) [] piece consumed
    (subst (λ m. Consumes m (prepend_known rest (unless_ended ended left_now)) piece) (sym is) (off (unless_ended ended left_now)))
  where
    off : (known : Option (List ℕ)) → Consumes (prepend_known bytes known) (prepend_known rest known) piece
    off None = tt
    off (Some xs) = ap (λ b. b ++ xs) split ∙ append_assoc piece rest xs

-- some of the bytes of the block, and those after them
pub cut_off : (block : List ℕ) (start end count : ℕ) → start + count ≤ end → between block start end ≡ between block start (start + count) ++ between block (start + count) end
cut_off block start end count room =
    let size : end - start ≡ count + (end - (start + count)) = omega arith in
    let first : (start + count) - start ≡ count = omega arith in
    sym (take-append-drop count (between block start end))
    ∙ ap (λ n. take count (take n (drop start block)) ++ drop count (take n (drop start block))) size
    ∙ cut (drop start block) count (end - (start + count))
    ∙ ap (λ n. take n (drop start block) ++ take (end - (start + count)) (drop count (drop start block))) (sym first)
    ∙ ap (λ d. between block start (start + count) ++ take (end - (start + count)) d) (drop-drop count start block)
  where
    cut : (xs : List ℕ) (n m : ℕ) → take n (take (n + m) xs) ++ drop n (take (n + m) xs) ≡ take n xs ++ take m (drop n xs)
    cut xs n m = ap (λ t. t ++ drop n (take (n + m) xs)) (take-take n (n + m) xs (omega arith)) ∙ ap (λ d. take n xs ++ d) (drop-take n m xs)

pub piece_off : (ended : Bool) (block : List ℕ) (start end count : ℕ) (left left_now : Option (List ℕ)) → start + count ≤ end
    → Consumes left (available (record { bytes = between block start end; ended = ended }) left_now) []
    → Consumes left (available (record { bytes = between block (start + count) end; ended = ended }) left_now) (between block start (start + count))
piece_off ended block start end count left left_now room consumed =
    taken_off ended (between block start end) (between block start (start + count)) (between block (start + count) end) left left_now
    (available (record { bytes = between block start end; ended = ended }) left_now) consumed refl (cut_off block start end count room)

-- the first byte of those ahead
pub byte_off : (ended : Bool) (block : List ℕ) (start end byte : ℕ) (left left_now : Option (List ℕ)) → start < end → drop start block ≡ byte ∷ drop (start + 1) block
    → Consumes left (available (record { bytes = between block start end; ended = ended }) left_now) []
    → Consumes left (available (record { bytes = between block (start + 1) end; ended = ended }) left_now) (byte ∷ [])
byte_off ended block start end byte left left_now some first consumed =
    let one : (start + 1) - start ≡ 1 = omega arith in
    let here : between block start (start + 1) ≡ byte ∷ [] = ap (λ n. take n (drop start block)) one ∙ ap (take 1) first in
    subst (λ piece. Consumes left (available (record { bytes = between block (start + 1) end; ended = ended }) left_now) piece) here
    (piece_off ended block start end 1 left left_now (omega (arith, some)) consumed)

-- as many bytes as were asked for
pub piece_size : (block : List ℕ) (start count : ℕ) → start + count ≤ length block → length (between block start (start + count)) ≡ count
piece_size block start count room =
    let one : (start + count) - start ≡ count = omega arith in
    let rest : length (drop start block) ≡ length block - start = length-drop start block in
    length-take-le ((start + count) - start) (drop start block) (omega (arith, one, rest, room)) ∙ one

-- nothing was taken out if nothing is ahead
pub none_off : (ahead : AheadState) (ended : Bool) (block : List ℕ) (start end count : ℕ) (left : Option (List ℕ)) → record { bytes = between block start end; ended = ended } ≡ ahead
    → (ahead.bytes ≡ [] → IsAtEnd (available ahead left)) → count ≡ 0 → end ≤ start → IsAtEnd (available (record { bytes = between block (start + count) end; ended = ended }) left)
none_off ahead ended block start end count left is ends none used =
    let here : IsAtEnd (available ahead left) = ends (ap (λ (a : AheadState). a.bytes) (sym is) ∙ none_between block start end used) in
    let same : start ≡ start + count = omega (arith, none) in
    subst (λ s. IsAtEnd (available (record { bytes = between block s end; ended = ended }) left)) same (subst (λ a. IsAtEnd (available a left)) (sym is) here)

-- if nothing is ahead, what is left to take is what the source has left
pub all_left : (ended : Bool) (block : List ℕ) (left : Option (List ℕ)) → (ended ≡ true → ⊥) → available (record { bytes = between block 0 0; ended = ended }) left ≡ left
all_left true block left going = absurd (going refl)
all_left false block None going = refl
all_left false block (Some xs) going = refl

pub on_err : {T E P : Type 0} (result : Result T E) → P → OnErr result P
on_err (Ok value) p = tt
on_err (Err fault) p = p
