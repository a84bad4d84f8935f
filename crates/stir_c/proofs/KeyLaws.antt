-- The first certificate of a chain that was opened is the first of those that its bytes are.
use Rattle.std.proofs.Common.{◌≡◌, ℕ, ◌<◌, Bool, true, false, nat_lt, List, [], length, if◌then◌else◌, Option, refl, sym, ◌∙◌, ap, subst, arith}
use Rattle.std.proofs.lemmas.Bool.Decides.{nat_tests}
use Rattle.std.specs.List.{slice_get}
use Rattle.cert_store.specs.Judged.{judged_of}
use Rattle.cert_store.specs.Rules.{Says}
use Rattle.delegation.specs.Coverage.{Table}
use Rattle.der_reader.specs.Elem.{AllBytes}
use Rattle.open_calls.specs.Key.{HasLeaf, KeyView, LeafIs}
use Rattle.open_calls.specs.Order.{Given}
use Rattle.open_calls.specs.Signing.{IsUnsignedFor, IsUnsignedWith}
use Rattle.open_calls.specs.declared.unsigned.Unsigned.{Unsigned}
use Rattle.tn_values.specs.Local.{LocalView}
use Rattle.stir_c.specs.Signing.{ToldUnsigned}
use Rattle.stir_c.specs.declared.said.Said.{Said}
use Rattle.verify_rules.specs.States.{State, have, long}
use Rattle.x509_profile.specs.View.{CertView}
use Rattle.open_calls.specs.OpenChains.{certificates_of}
use Rattle.open_calls.specs.Worlds.{GivenWorld}
use Rattle.stir_c.specs.Handles.{IsChainUnder}
use Rattle.stir_c.specs.Holding.{HeldChainView}
use Rattle.stir_c.specs.Keys.{IsKeyOn, key_in}

pub leaf_given : ((anchors : List CertView) (table : Table) (says : Says) (bytes : List ℕ) → AllBytes bytes → LeafIs bytes (slice_get (judged_of anchors table says bytes).certificates 0))
    → ((bytes : List ℕ) (leaf : CertView) → 49152 < length bytes → HasLeaf bytes leaf → ⊥)
    → (anchors : List CertView) (table : Table) (says : Says) (bytes : List ℕ) → AllBytes bytes → (t : Bool) → nat_lt 49152 (length bytes) ≡ t
    → LeafIs bytes (slice_get (certificates_of (if t then long else have (judged_of anchors table says bytes))) 0)
leaf_given judged none anchors table says bytes all true is = let much : 49152 < length bytes = grind (arith, nat_tests, is) in λ leaf. none bytes leaf much
leaf_given judged none anchors table says bytes all false is = judged anchors table says bytes all

pub key_on : ((anchors : List CertView) (table : Table) (says : Says) (bytes : List ℕ) → AllBytes bytes → LeafIs bytes (slice_get (judged_of anchors table says bytes).certificates 0))
    → ((bytes : List ℕ) (leaf : CertView) → 49152 < length bytes → HasLeaf bytes leaf → ⊥)
    → (given : GivenWorld) (bytes good : List ℕ) (held : HeldChainView) → AllBytes held.chain.bytes → IsChainUnder given bytes good held → IsKeyOn given bytes (key_in held)
key_on judged none given bytes good held all under = record {
  leaf_is = subst (λ (s : State). LeafIs bytes (slice_get (certificates_of s) 0)) (sym under.chain_is.state_is)
      (leaf_given judged none held.world.anchors held.world.table _ bytes (subst AllBytes under.chain_is.bytes_are all) (nat_lt 49152 (length bytes)) refl);
  table_is = under.under.table_is;
  local_is = under.under.settings_are.local_is;
}

-- ---- a key is what its three parts are

abbrev key_with : Option CertView → Table → LocalView → KeyView
key_with leaf table local = record { leaf = leaf; table = table; local = local }

same_key : (key other : KeyView) → key.leaf ≡ other.leaf → key.table ≡ other.table → key.local ≡ other.local → key ≡ other
same_key key other leaf table local =
    ap (λ (l : Option CertView). key_with l key.table key.local) leaf ∙ (ap (λ (t : Table). key_with other.leaf t key.local) table ∙ ap (λ (n : LocalView). key_with other.leaf other.table n) local)

pub told_as : (key other : KeyView) (order : Given) (message : List ℕ) (made : Option (List ℕ)) (said : Said) → ToldUnsigned (IsUnsignedFor key order message made) said
    → key.leaf ≡ other.leaf → key.table ≡ other.table → key.local ≡ other.local → ToldUnsigned (IsUnsignedFor other order message made) said
told_as key other order message made said told leaf table local =
    subst (λ (k : KeyView). ToldUnsigned (IsUnsignedFor k order message made) said) (same_key key other leaf table local) told

pub unsigned_as : (key other : KeyView) (order : Given) (message signature : List ℕ) (came : Unsigned) → IsUnsignedWith key order message signature came
    → key.leaf ≡ other.leaf → key.table ≡ other.table → key.local ≡ other.local → IsUnsignedWith other order message signature came
unsigned_as key other order message signature came why leaf table local =
    subst (λ (k : KeyView). IsUnsignedWith k order message signature came) (same_key key other leaf table local) why
