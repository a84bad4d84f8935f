-- Two worlds in which the same is said of each thing, as two readings of the same files give them: a code table is kept
-- in some order, and a chain map and the files too.
use Rattle.std.specs.Prelude.{◌≡◌, ◌↔◌, ℕ, List}
use Rattle.stir_outside.specs.Files.{file}
use Rattle.tn_auth_list.specs.Grant.{GrantHolds, grant_in}
use Rattle.cert_store.specs.ChainMap.{listed}
use Rattle.verify_rules.specs.World.{World}

-- the same file is listed for each x5u, the file of each name is the same, and so are the trust anchors and the
-- provider, and each code has the same numbers
pub record SayTheSame (world other : World) : Type 0 where
  pub chains : (x5u : List ℕ) → listed world.chains x5u ≡ listed other.chains x5u
  pub files : (name : List ℕ) → file name world.files ≡ file name other.files
  pub anchors : world.anchors ≡ other.anchors
  pub grants : (code number : List ℕ)
      → GrantHolds (grant_in world.table code) number ↔ GrantHolds (grant_in other.table code) number
  pub says : world.says ≡ other.says
