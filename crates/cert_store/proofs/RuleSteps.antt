-- One certificate more: its authority, the key of its issuer, and the leaf's authority list.
use Rattle.std.proofs.Common.{◌≡◌, ℕ, suc, ◌+◌, ◌<◌, Bool, true, false, cond, List, [], ◌∷◌, ◌++◌, length, drop, get_or, drop-cons, length-append, append_assoc, ◌∙◌, Option, Some, None, IsSome, is_some, refl, sym, ap, subst, arith}
use Rattle.std.specs.List.{slice_get}
use Rattle.x509_profile.specs.View.{CertView}
use Rattle.delegation.specs.Coverage.{Table}
use Rattle.delegation.specs.Decided.{is_within}
use Rattle.cert_store.specs.Links.{first_or, links_from}
use Rattle.cert_store.specs.Rules.{first_outside, first_unauthorized, key_under, keys_of}
use Rattle.cert_store.specs.Asking.{Keys}
use Rattle.std.proofs.lemmas.Option.{same_Some}

-- the certificate at an index lies within its issuer, so those after it give what it and they give
pub passes_on : (table : Table) (chain : List CertView) (top c issuer : CertView) (index : ℕ) (answer : Bool) (all : Option ℕ)
    → first_outside table (links_from (index + 1) (drop index chain) top) ≡ all → index < length chain → c ≡ get_or chain index c
    → issuer ≡ first_or (drop (suc index) chain) top → answer ≡ is_within c.list issuer.list table → answer ≡ true
    → first_outside table (links_from (index + 1 + 1) (drop (index + 1) chain) top) ≡ all
passes_on table chain top c issuer index answer all left inside is above tells so =
    let next : index + 1 ≡ suc index = omega arith in
    let further : index + 1 + 1 ≡ suc (suc index) = omega arith in
    let here : drop index chain ≡ c ∷ drop (suc index) chain = drop-cons chain index c inside ∙ ap (λ (x : CertView). x ∷ drop (suc index) chain) (sym is) in
    let test : is_within c.list (first_or (drop (suc index) chain) top).list table ≡ true = ap (λ (x : CertView). is_within c.list x.list table) (sym above) ∙ sym tells ∙ so in
    let step : first_outside table (links_from (suc index) (c ∷ drop (suc index) chain) top) ≡ first_outside table (links_from (suc (suc index)) (drop (suc index) chain) top) =
    ap (λ t. cond t (first_outside table (links_from (suc (suc index)) (drop (suc index) chain) top)) (Some (suc index))) test in
    let before : first_outside table (links_from (suc index) (c ∷ drop (suc index) chain) top) ≡ all =
    ap (λ (x : List CertView). first_outside table (links_from (suc index) x top)) (sym here) ∙ ap (λ n. first_outside table (links_from n (drop index chain) top)) (sym next) ∙ left in
    ap (λ n. first_outside table (links_from n (drop (index + 1) chain) top)) further
    ∙ ap (λ n. first_outside table (links_from (suc (suc index)) (drop n chain) top)) next ∙ sym step ∙ before

list_by : (table : Table) (c leaf : CertView) (above : List CertView) (top : CertView) (t : Bool) → is_some c.list ≡ t
    → cond t (first_outside table (links_from 1 (c ∷ above) top)) (Some 1) ≡ None → c ≡ leaf → IsSome leaf.list
list_by table c leaf above top true t none same = subst (λ (x : CertView). IsSome x.list) same t
list_by table c leaf above top false t none same = absurd (cc)

-- if no certificate lacks authority, the leaf has a list
pub leaf_listed : (table : Table) (chain : List CertView) (top leaf : CertView) → first_unauthorized table (links_from 1 chain top) ≡ None
    → slice_get chain 0 ≡ Some leaf → IsSome leaf.list
leaf_listed table [] top leaf none is = absurd (cc)
leaf_listed table (c ∷ above) top leaf none is = list_by table c leaf above top (is_some c.list) refl none (same_Some c leaf is)

-- the key of the certificate at an index is the next one
pub keys_more : (anchors chain : List CertView) (top c issuer : CertView) (index : ℕ) (keys new all : Keys) (key : Option (List ℕ))
    → keys ++ keys_of anchors (links_from (index + 1) (drop index chain) top) ≡ all → index < length chain → c ≡ get_or chain index c
    → issuer ≡ first_or (drop (suc index) chain) top → key ≡ key_under anchors c issuer → new ≡ keys ++ key ∷ []
    → new ++ keys_of anchors (links_from (index + 1 + 1) (drop (index + 1) chain) top) ≡ all
keys_more anchors chain top c issuer index keys new all key left inside is above tells pushed =
    let next : index + 1 ≡ suc index = omega arith in
    let further : index + 1 + 1 ≡ suc (suc index) = omega arith in
    let rest : Keys = keys_of anchors (links_from (suc (suc index)) (drop (suc index) chain) top) in
    let here : drop index chain ≡ c ∷ drop (suc index) chain = drop-cons chain index c inside ∙ ap (λ (x : CertView). x ∷ drop (suc index) chain) (sym is) in
    let same : key ≡ key_under anchors c (first_or (drop (suc index) chain) top) = tells ∙ ap (key_under anchors c) above in
    let before : keys ++ keys_of anchors (links_from (suc index) (c ∷ drop (suc index) chain) top) ≡ all =
    ap (λ (x : List CertView). keys ++ keys_of anchors (links_from (suc index) x top)) (sym here)
    ∙ ap (λ n. keys ++ keys_of anchors (links_from n (drop index chain) top)) (sym next) ∙ left in
    ap (λ n. new ++ keys_of anchors (links_from n (drop (index + 1) chain) top)) further
    ∙ ap (λ n. new ++ keys_of anchors (links_from (suc (suc index)) (drop n chain) top)) next
    ∙ ap (λ (x : Keys). x ++ rest) pushed ∙ append_assoc keys (key ∷ []) rest
    ∙ ap (λ (x : Option (List ℕ)). keys ++ (x ∷ rest)) same ∙ before

pub count_more : (keys new : Keys) (key : Option (List ℕ)) (index : ℕ) → length keys ≡ index → new ≡ keys ++ key ∷ [] → length new ≡ index + 1
count_more keys new key index count pushed = omega (arith, count, ap length pushed, length-append keys (key ∷ []))
