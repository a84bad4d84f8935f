-- By what is signed, of a chain that was opened.
use Rattle.std.specs.Prelude.{◌≡◌, ℕ, List, Option, Some, IsSomeAnd}
use Rattle.std.specs.List.{slice_get}
use Rattle.open_calls.specs.OpenChains.{certificates_of}
use Rattle.open_calls.specs.Worlds.{GivenWorld}
use Rattle.open_calls.specs.Key.{KeyView, LeafIs}
use Rattle.tn_auth_list.specs.Grant.{TableOf}
use Rattle.tn_values.specs.Local.{local_of}
use Rattle.stir_c.specs.Handles.{IsChainUnder}
use Rattle.stir_c.specs.Holding.{HeldChainView}

-- the first of its certificates, and the code table and the local numbering of its world
abbrev pub key_in : HeldChainView → KeyView
key_in held = record {
  leaf = slice_get (certificates_of held.chain.state) 0;
  table = held.world.table;
  local = held.world.settings.local;
}

-- the first of the certificates that these bytes are, one after another, if they are any; and what these lines and this
-- numbering are read as
pub record IsKeyOn (given : GivenWorld) (bytes : List ℕ) (key : KeyView) : Type 0 where
  pub leaf_is : LeafIs bytes key.leaf
  pub table_is : TableOf given.table key.table
  pub local_is : local_of given.country given.national ≡ Some key.local

-- so it is by the key of these bytes
pub record OnKey (given : GivenWorld) (bytes : List ℕ) (Holds : KeyView → Type 0) : Type 0 where
  pub key : KeyView
  pub key_is : IsKeyOn given bytes key
  pub holds : Holds key

-- of whatever bytes the chain was opened, its key is that of these
abbrev pub HasKeyOn : HeldChainView → Type 0
HasKeyOn held = (given : GivenWorld) (bytes good : List ℕ) → IsChainUnder given bytes good held
    → IsKeyOn given bytes (key_in held)

-- if there is a chain, opened of these bytes, so it is by their key
abbrev pub ByKey : Option HeldChainView → (KeyView → Type 0) → Type 0
ByKey held Holds = (given : GivenWorld) (bytes good : List ℕ)
    → IsSomeAnd held (IsChainUnder given bytes good) → OnKey given bytes Holds
