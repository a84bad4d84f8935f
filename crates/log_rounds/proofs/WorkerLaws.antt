-- Workers, one after the other.
use Rattle.std.proofs.Common.{◌<◌, List, [], ◌∷◌, length, arith}

pub head_of : {W : Type 0} (workers : List W) → 0 < length workers → W
head_of [] some = absurd (omega arith)
head_of (worker ∷ others) some = worker
