-- One question more: what it leaves of the answer, and how often was asked.
use Rattle.std.proofs.Common.{◌≡◌, ◌≢◌, ℕ, suc, ◌+◌, ◌-◌, ◌<◌, ◌≤◌, Bool, true, false, cond, List, [], ◌∷◌, length, take, drop, get_or, drop-cons, ◌∙◌, Option, Some, None, IfSome, is_some, refl, sym, ap, subst, arith}
use Rattle.std.specs.List.{slice_get, count_by}
use Rattle.std.proofs.lemmas.Option.{slice_get_read}
use Rattle.std.proofs.lemmas.List.Sums.{count_by_more_no, count_by_more_yes}
use Rattle.stir_outside.specs.Count.{last_count, one_more}
use Rattle.x509_profile.specs.View.{CertView}
use Rattle.cert_store.specs.declared.judged.Asked.TheVariants.{No, Failed}
use Rattle.cert_store.specs.Asking.{Answers, IsOpen, IsQuestion, Keys, RoseBy, asked_by, first_refused}
use Rattle.cert_store.specs.Rules.{Says}

-- ---- what is answered

-- what the first certificate comes to, if `later` is what those above it give
abbrev answered : Says → ℕ → CertView → Option (List ℕ) → Option ℕ → Option ℕ
answered says number c None later = later
answered says number c (Some key) later = cond (says key c.digest c.signature) later (Some number)

first_is : (says : Says) (number : ℕ) (c : CertView) (above : List CertView) (key : Option (List ℕ)) (keys : Keys)
    → first_refused says number (c ∷ above) (key ∷ keys) ≡ answered says number c key (first_refused says (suc number) above keys)
first_is says number c above None keys = refl
first_is says number c above (Some key) keys = refl

-- one certificate more of those that are left
stepped : (says : Says) (chain : List CertView) (keys : Keys) (c : CertView) (key : Option (List ℕ)) (index : ℕ) (all : Option ℕ)
    → first_refused says (index + 1) (drop index chain) (drop index keys) ≡ all → index < length chain → c ≡ get_or chain index c
    → index < length keys → key ≡ get_or keys index key
    → answered says (index + 1) c key (first_refused says (index + 1 + 1) (drop (index + 1) chain) (drop (index + 1) keys)) ≡ all
stepped says chain keys c key index all left inside is key_inside key_is =
    let next : index + 1 ≡ suc index = omega arith in
    let further : index + 1 + 1 ≡ suc (index + 1) = omega arith in
    let certs : drop index chain ≡ c ∷ drop (index + 1) chain = drop-cons chain index c inside ∙ ap (λ (x : CertView). x ∷ drop (suc index) chain) (sym is) ∙ ap (λ n. c ∷ drop n chain) (sym next) in
    let those : drop index keys ≡ key ∷ drop (index + 1) keys =
    drop-cons keys index key key_inside ∙ ap (λ (x : Option (List ℕ)). x ∷ drop (suc index) keys) (sym key_is) ∙ ap (λ n. key ∷ drop n keys) (sym next) in
    ap (λ n. answered says (index + 1) c key (first_refused says n (drop (index + 1) chain) (drop (index + 1) keys))) further
    ∙ sym (first_is says (index + 1) c (drop (index + 1) chain) key (drop (index + 1) keys))
    ∙ ap (λ (x : Keys). first_refused says (index + 1) (c ∷ drop (index + 1) chain) x) (sym those)
    ∙ ap (λ (x : List CertView). first_refused says (index + 1) x (drop index keys)) (sym certs)
    ∙ left

-- a certificate that isn't asked for
pub passed_over : (says : Says) (chain : List CertView) (keys : Keys) (c : CertView) (key : Option (List ℕ)) (index : ℕ) (all : Option ℕ)
    → first_refused says (index + 1) (drop index chain) (drop index keys) ≡ all → index < length chain → c ≡ get_or chain index c
    → index < length keys → key ≡ get_or keys index key → key ≡ None
    → first_refused says (index + 1 + 1) (drop (index + 1) chain) (drop (index + 1) keys) ≡ all
passed_over says chain keys c key index all left inside is key_inside key_is none =
    let P : Option (List ℕ) → Type 0 = λ k. answered says (index + 1) c k (first_refused says (index + 1 + 1) (drop (index + 1) chain) (drop (index + 1) keys)) ≡ all in
    subst P none (stepped says chain keys c key index all left inside is key_inside key_is)

answered_by : (says : Says) (chain : List CertView) (keys : Keys) (c : CertView) (key : Option (List ℕ)) (point : List ℕ) (index : ℕ) (good : Bool) (all : Option ℕ)
    → first_refused says (index + 1) (drop index chain) (drop index keys) ≡ all → index < length chain → c ≡ get_or chain index c
    → index < length keys → key ≡ get_or keys index key → key ≡ Some point → says point c.digest c.signature ≡ good
    → cond good (first_refused says (index + 1 + 1) (drop (index + 1) chain) (drop (index + 1) keys)) (Some (index + 1)) ≡ all
answered_by says chain keys c key point index good all left inside is key_inside key_is some tells =
    let later = first_refused says (index + 1 + 1) (drop (index + 1) chain) (drop (index + 1) keys) in
    let P : Option (List ℕ) → Type 0 = λ k. answered says (index + 1) c k later ≡ all in
    let Q : Bool → Type 0 = λ t. cond t later (Some (index + 1)) ≡ all in
    subst Q tells (subst P some (stepped says chain keys c key index all left inside is key_inside key_is))

-- one whose signature is good
pub confirmed : (says : Says) (chain : List CertView) (keys : Keys) (c : CertView) (key : Option (List ℕ)) (point : List ℕ) (index : ℕ) (all : Option ℕ)
    → first_refused says (index + 1) (drop index chain) (drop index keys) ≡ all → index < length chain → c ≡ get_or chain index c
    → index < length keys → key ≡ get_or keys index key → key ≡ Some point → says point c.digest c.signature ≡ true
    → first_refused says (index + 1 + 1) (drop (index + 1) chain) (drop (index + 1) keys) ≡ all
confirmed says chain keys c key point index all left inside is key_inside key_is some tells =
    answered_by says chain keys c key point index true all left inside is key_inside key_is some tells

-- one whose signature isn't good
pub refused : (says : Says) (chain : List CertView) (keys : Keys) (c : CertView) (key : Option (List ℕ)) (point : List ℕ) (index : ℕ)
    → first_refused says (index + 1) (drop index chain) (drop index keys) ≡ first_refused says 1 chain keys → index < length chain → c ≡ get_or chain index c
    → index < length keys → key ≡ get_or keys index key → key ≡ Some point → says point c.digest c.signature ≡ false
    → Answers says chain keys (No (index + 1))
refused says chain keys c key point index left inside is key_inside key_is some tells =
    ap asked_by (sym (answered_by says chain keys c key point index false (first_refused says 1 chain keys) left inside is key_inside key_is some tells))

either_from : (number : ℕ) (good : Bool) (later : Option ℕ) → IfSome later (λ first. suc number ≤ first) → IfSome (cond good later (Some number)) (λ first. number ≤ first)
either_from number true None h = tt
either_from number true (Some first) h = omega (arith, h)
either_from number false later h = omega arith

lower : (number : ℕ) (later : Option ℕ) → IfSome later (λ first. suc number ≤ first) → IfSome later (λ first. number ≤ first)
lower number None h = tt
lower number (Some first) h = omega (arith, h)

-- a certificate whose signature isn't good has no smaller number than the first of them
number_from : (says : Says) (number : ℕ) (chain : List CertView) (keys : Keys) → IfSome (first_refused says number chain keys) (λ first. number ≤ first)
number_from says number [] keys = tt
number_from says number (c ∷ above) [] = tt
number_from says number (c ∷ above) (None ∷ keys) = lower number _ (number_from says (suc number) above keys)
number_from says number (c ∷ above) (Some key ∷ keys) = either_from number (says key c.digest c.signature) _ (number_from says (suc number) above keys)

open_at : (number : ℕ) (first : Option ℕ) → IfSome first (λ first. number ≤ first) → IsOpen number (asked_by first)
open_at number None h = tt
open_at number (Some first) h = h

-- if the question of the certificate at an index failed, and all before it were answered Yes
pub left_open : (says : Says) (chain : List CertView) (keys : Keys) (index : ℕ)
    → first_refused says (index + 1) (drop index chain) (drop index keys) ≡ first_refused says 1 chain keys → Answers says chain keys (Failed (index + 1))
left_open says chain keys index left =
    let P : Option ℕ → Type 0 = λ o. IsOpen (index + 1) (asked_by o) in
    subst P left (open_at (index + 1) _ (number_from says (index + 1) (drop index chain) (drop index keys)))

-- ---- what is asked

-- the certificate at an index was asked for
pub was_asked : (keys : Keys) (key : Option (List ℕ)) (point : List ℕ) (index : ℕ) → index < length keys → key ≡ get_or keys index key → key ≡ Some point → IsQuestion keys (index + 1)
was_asked keys key point index inside is some = record {
  key = point;
  some = omega arith;
  stands = let same : index + 1 - 1 ≡ index = omega arith in ap (slice_get keys) same ∙ slice_get_read keys (length keys) index key refl inside is ∙ ap Some some;
}

pub rose_none : (count : ℕ) → RoseBy 0 count count
rose_none count = record { never_falls = omega arith; most = omega arith; exact = λ below. omega arith }

rose_more : (times before now new : ℕ) → RoseBy times before now → new ≡ one_more now → now ≤ new → RoseBy (times + 1) before new
rose_more times before now new rose one stay =
    let a = rose.never_falls in
    let b = rose.most in
    record {
      never_falls = omega (arith, a, stay);
      most = omega (arith, b, one);
      exact = λ below.
          let under : now ≢ last_count = λ e. below (omega (arith, one, stay, e)) in
          let c = rose.exact under in
          omega (arith, one, below, c);
    }

-- a certificate that isn't asked for counts nothing
pub counted_over : (keys : Keys) (key : Option (List ℕ)) (index before now : ℕ) → RoseBy (count_by is_some (take index keys)) before now → index < length keys
    → key ≡ get_or keys index key → key ≡ None → RoseBy (count_by is_some (take (index + 1) keys)) before now
counted_over keys key index before now rose inside is none =
    let same : count_by is_some (take (index + 1) keys) ≡ count_by is_some (take index keys) = count_by_more_no is_some keys index key inside (ap is_some (sym is) ∙ ap is_some none) in
    let P : ℕ → Type 0 = λ n. RoseBy n before now in
    subst P (sym same) rose

-- one question more
pub counted : (keys : Keys) (key : Option (List ℕ)) (point : List ℕ) (index before now new : ℕ) → RoseBy (count_by is_some (take index keys)) before now → index < length keys
    → key ≡ get_or keys index key → key ≡ Some point → new ≡ one_more now → now ≤ new → RoseBy (count_by is_some (take (index + 1) keys)) before new
counted keys key point index before now new rose inside is some one stay =
    let more : count_by is_some (take (index + 1) keys) ≡ count_by is_some (take index keys) + 1 = count_by_more_yes is_some keys index key inside (ap is_some (sym is) ∙ ap is_some some) in
    let P : ℕ → Type 0 = λ n. RoseBy n before new in
    subst P (sym more) (rose_more (count_by is_some (take index keys)) before now new rose one stay)
