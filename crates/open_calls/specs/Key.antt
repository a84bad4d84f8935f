-- By what is signed: the first certificate of a chain, a code table and a local numbering.
use Rattle.std.specs.Prelude.{◌≡◌, List, ℕ, ◌∷◌, Option, Some, None}
use Rattle.std.specs.Option.{option_copied}
use Rattle.auth_service.specs.Order.{HolderView, holder_of}
use Rattle.auth_service.specs.declared.order.Holder.{Holder}
use Rattle.delegation.specs.Coverage.{Table}
use Rattle.tn_values.specs.Local.{LocalView}
use Rattle.x509_profile.specs.Chain.{Chain}
use Rattle.x509_profile.specs.View.{CertView}
use Rattle.open_calls.specs.declared.key.Key.{Key}

-- the first certificate, if there is any; what the codes in its authority list stand for; and how the numbers of
-- messages are read
pub record KeyView : Type 0 where
  pub leaf : Option CertView
  pub table : Table
  pub local : LocalView

abbrev pub key_of : Key → KeyView
key_of key = record { leaf = option_copied key.leaf; table = key.table.now; local = key.local }

-- Who signs: the first certificate has this authority list (RFC 8226, section 9), and this is the table. Nothing else
-- of the chain is asked.
pub record IsHolderOf (key : KeyView) (holder : HolderView) : Type 0 where
  pub leaf : CertView
  pub leaf_is : key.leaf ≡ Some leaf
  pub listed : leaf.list ≡ Some holder.entries
  pub table_is : holder.table ≡ key.table

-- there is no first certificate, or it has no authority list
abbrev pub HasNoHolder : KeyView → Type 0
HasNoHolder key = (holder : HolderView) → IsHolderOf key holder → ⊥

-- this is who signs; or there is none
abbrev pub HolderIs : KeyView → Option Holder → Type 0
HolderIs key (Some holder) = IsHolderOf key (holder_of holder)
HolderIs key None = HasNoHolder key

-- ---- the first certificate of a chain

-- The bytes are certificates one after another, of which this is the first.
pub record HasLeaf (bytes : List ℕ) (leaf : CertView) : Type 0 where
  pub others : List CertView
  pub text : Chain bytes (leaf ∷ others)

-- this is the first; or there is none
abbrev pub LeafIs : List ℕ → Option CertView → Type 0
LeafIs bytes (Some leaf) = HasLeaf bytes leaf
LeafIs bytes None = (leaf : CertView) → HasLeaf bytes leaf → ⊥
