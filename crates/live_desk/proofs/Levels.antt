-- How many steps a search takes, level after level.
use Rattle.std.proofs.Common.{ℕ, ◌+◌, ◌*◌, ◌<◌, ◌≤◌, List, ◌++◌, length, arith}
use Rattle.std.proofs.Math.Nat.{add-mul, mul-le-mul_right}
use Rattle.std.proofs.lemmas.List.{length-append}

-- a level more
pub level_more : (size level used here : ℕ) → used ≤ level * size → here ≤ size → used + here ≤ (level + 1) * size
level_more size level used here before now = omega (arith, add-mul level 1 size)

pub levels_more : {A B : Type 0} (size level : ℕ) (sets more : List A) (seen further : List B) → length sets + length seen ≤ level * size → length more + length further ≤ size
    → length (more ++ sets) + length (further ++ seen) ≤ (level + 1) * size
levels_more size level sets more seen further before now =
    let all = level_more size level (length sets + length seen) (length more + length further) before now in
    omega (arith, length-append more sets, length-append further seen)

-- all six levels
pub levels_all : (size level used : ℕ) → level < 6 → used ≤ (level + 1) * size → used ≤ 6 * size
levels_all size level used below few = let all = mul-le-mul_right {m = level + 1} {n = 6} size (omega arith) in omega arith
