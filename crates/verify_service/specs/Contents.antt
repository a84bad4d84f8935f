-- What the workers of a round ask their providers at most, also if memory runs out: for the chains of their texts whose
-- files were read.
use Rattle.std.specs.Prelude.{ℕ, ◌+◌, ◌≤◌, List, [], ◌∷◌, filter, length, is_some, Option}
use Rattle.cert_store.specs.declared.world.World.{World as Materials}
use Rattle.stir_outside.specs.Count.{AtMost}
use Rattle.stir_outside.specs.Files.{Files}
use Rattle.call_judging.specs.Fetched.{IsContent, chain_size}
use Rattle.verify_service.specs.Judging.{EachPair}
use Rattle.verify_service.specs.RoundRead.{own_of}

-- of each text of a round the bytes of its file, or nothing if it wasn't read
abbrev pub Contents : Type 0
Contents = List (Option (List ℕ))

-- how many certificates the chains in them have: at most six each
abbrev pub chain_sizes : Contents → ℕ
chain_sizes [] = 0
chain_sizes (bytes ∷ others) = chain_size bytes + chain_sizes others

-- These are the bytes of files of these texts that were read, and the shelf's count of reads rose by as many. `Asked`
-- is what is said by them of the workers' providers.
pub record HasContents (told : Option Files) (materials : Materials) (texts : List (List ℕ)) (reads reads_now : ℕ)
    (Asked : Contents → Type 0) : Type 0 where
  pub contents : Contents
  pub each : EachPair (IsContent told materials) texts contents
  pub counted : AtMost (length (filter is_some contents)) reads reads_now
  pub asked : Asked contents

-- A worker's provider was asked at most for each certificate in the chains of the worker's own texts whose files were
-- read, and for so many PASSporTs.
abbrev pub AsksFew : ℕ → ℕ → ℕ → ℕ → ℕ → Contents → Type 0
AsksFew index count passports asks asks_now contents =
    asks_now ≤ asks + (chain_sizes (own_of index count 0 contents) + passports)
