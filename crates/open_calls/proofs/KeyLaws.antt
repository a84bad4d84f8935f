-- Who signs by a key, and which certificate of a chain is the first.
use Rattle.std.proofs.Common.{◌≡◌, ℕ, List, [], ◌∷◌, Option, Some, None, Result, Ok, refl, sym, ◌∙◌, ap, subst, ◌<◌, ◌≤◌, length, arith}
use Rattle.std.proofs.lemmas.Option.{same_Some}
use Rattle.std.specs.List.{slice_get}
use Rattle.cert_store.specs.Judged.{judged_of}
use Rattle.cert_store.specs.Rules.{Says}
use Rattle.cert_store.specs.Words.{InWords, ProfileOf}
use Rattle.delegation.specs.Coverage.{Table}
use Rattle.der_reader.specs.Elem.{AllBytes}
use Rattle.tn_auth_list.specs.declared.entries.Entry.{Entry}
use Rattle.x509_profile.specs.Chain.{Chain, RefusedCertificate, certificates_in}
use Rattle.x509_profile.specs.View.{CertView}
use Rattle.open_calls.specs.Key.{HasLeaf, HasNoHolder, IsHolderOf, KeyView, LeafIs}

pub no_leaf : (key : KeyView) → None ≡ key.leaf → HasNoHolder key
no_leaf key none holder is = let some : ◌≡◌ {A = Option CertView} None (Some is.leaf) = none ∙ is.leaf_is in cc

pub no_list : (key : KeyView) (leaf : CertView) → Some leaf ≡ key.leaf → ◌≡◌ {A = Option (List Entry)} None leaf.list → HasNoHolder key
no_list key leaf some none holder is =
    let same : leaf ≡ is.leaf = same_Some leaf is.leaf (some ∙ is.leaf_is) in
    let listed : ◌≡◌ {A = Option (List Entry)} None (Some holder.entries) = none ∙ (ap (λ (c : CertView). c.list) same ∙ is.listed) in
    cc

pub is_holder : (key : KeyView) (leaf : CertView) (entries : List Entry) → Some leaf ≡ key.leaf → Some entries ≡ leaf.list
    → IsHolderOf key (record { entries = entries; table = key.table })
is_holder key leaf entries some listed = record { leaf = leaf; leaf_is = sym some; listed = sym listed; table_is = refl }

-- ---- the first certificate

-- bytes are one chain at most
abbrev pub IsRead : Type 0
IsRead = (bytes : List ℕ) (chain : List CertView) → Chain bytes chain → certificates_in bytes ≡ Ok chain

empty_none : IsRead → (bytes : List ℕ) → Chain bytes [] → (leaf : CertView) → HasLeaf bytes leaf → ⊥
empty_none again bytes empty leaf is =
    let same : ◌≡◌ {A = Result (List CertView) RefusedCertificate} (Ok []) (Ok (leaf ∷ is.others)) = sym (again bytes [] empty) ∙ again bytes (leaf ∷ is.others) is.text in
    cc

pub leaf_of : IsRead → (bytes : List ℕ) (chain : List CertView) (broken : Option ℕ) → ProfileOf bytes chain broken → LeafIs bytes (slice_get chain 0)
leaf_of again bytes [] None profile = empty_none again bytes profile
leaf_of again bytes (leaf ∷ others) None profile = record { others = others; text = profile }
leaf_of again bytes chain (Some place) (broken, none, empty) =
    subst (λ (c : List CertView). LeafIs bytes (slice_get c 0)) (sym empty) (λ leaf is. none (leaf ∷ is.others) is.text)

pub judged_leaf : IsRead
    → ((anchors : List CertView) (table : Table) (says : Says) (bytes : List ℕ) → AllBytes bytes → InWords anchors table says bytes (judged_of anchors table says bytes))
    → (anchors : List CertView) (table : Table) (says : Says) (bytes : List ℕ) → AllBytes bytes → LeafIs bytes (slice_get (judged_of anchors table says bytes).certificates 0)
judged_leaf again words anchors table says bytes all =
    leaf_of again bytes (judged_of anchors table says bytes).certificates (judged_of anchors table says bytes).profile (words anchors table says bytes all).profile

pub long_none : ((bytes : List ℕ) (chain : List CertView) → Chain bytes chain → length bytes ≤ 49152) → (bytes : List ℕ) (leaf : CertView) → 49152 < length bytes → HasLeaf bytes leaf → ⊥
long_none short bytes leaf long is = let few = short bytes (leaf ∷ is.others) is.text in omega (arith, few, long)
