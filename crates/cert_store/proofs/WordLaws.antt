-- The rules say in their own words what their tests find.
use Rattle.std.proofs.Common.{◌≡◌, ℕ, zero, suc, ◌-◌, ◌≤◌, ◌&&◌, nat_lt, Bool, true, false, cond, List, [], ◌∷◌, length, drop, inl, inr, Option, Some, is_some, IsSome, ℤ, pos, ◌≤ℤ◌, refl, sym, ◌∙◌, ap, subst, arith}
use Rattle.std.specs.Prelude.{int_le}
use Rattle.std.specs.List.{slice_get}
use Rattle.std.proofs.lemmas.Bool.Decides.{nat_tests}
use Rattle.std.proofs.lemmas.Int.{ints}
use Rattle.std.proofs.lemmas.Option.{slice_get_cases, same_Some}
use Rattle.x509_profile.specs.View.{CertView}
use Rattle.delegation.specs.Coverage.{Table, Within}
use Rattle.delegation.specs.Decided.{is_within}
use Rattle.delegation.specs.Path.{anchor_of, is_listed, issuer_of}
use Rattle.cert_store.specs.declared.judged.Period.{Period}
use Rattle.cert_store.specs.Links.{first_or, links_from}
use Rattle.cert_store.specs.Rules.{Says, first_out, first_outside, first_unauthorized, first_unsigned, period_of, periods_from}
use Rattle.cert_store.specs.Words.{IsAuthorized, IsFirstBroken, IsNumbered, IsSigned, IsValid}
use Rattle.cert_store.specs.Below.{Below}
use Rattle.cert_store.proofs.WalkLaws.{Means, Test, walk, worded}
use Rattle.std.proofs.lemmas.Bool.{and_parts}

-- the certificate at an index is the one of the next number
the_one : (chain : List CertView) (i : ℕ) (c d : CertView) → slice_get chain i ≡ Some c → IsNumbered chain (suc i) d → c ≡ d
the_one chain i c d is numbered =
    let at : suc i - 1 ≡ i = omega arith in
    same_Some c d (sym is ∙ ap (slice_get chain) (sym at) ∙ numbered)

numbers : (chain : List CertView) (i : ℕ) (c : CertView) → slice_get chain i ≡ Some c → IsNumbered chain (suc i) c
numbers chain i c is = let at : suc i - 1 ≡ i = omega arith in ap (slice_get chain) at ∙ is

-- ---- rule 13

abbrev is_valid : ℕ → CertView → Bool
is_valid moment c = int_le c.not_before (pos moment) && int_le (pos moment) c.not_after

abbrev dated : List CertView → ℕ → Test
dated anchors moment c above = cond (is_listed c anchors) true (is_valid moment c)

date_step : (moment number : ℕ) (c : CertView) (listed : Bool) (periods : List Period) (o : Option ℕ) → first_out moment periods ≡ o
    → first_out moment (cond listed periods (period_of number c ∷ periods)) ≡ cond (cond listed true (is_valid moment c)) o (Some number)
date_step moment number c true periods o e = e
date_step moment number c false periods o e = ap (λ x. cond (is_valid moment c) x (Some number)) e

date_walk : (anchors : List CertView) (moment number : ℕ) (chain : List CertView)
    → first_out moment (periods_from anchors number chain) ≡ walk (dated anchors moment) number chain
date_walk anchors moment number [] = refl
date_walk anchors moment number (c ∷ above) =
    date_step moment number c (is_listed c anchors) (periods_from anchors (suc number) above) _ (date_walk anchors moment (suc number) above)

-- what a certificate that isn't an anchor has to meet
passed : (listed test : Bool) → cond listed true test ≡ true → listed ≡ false → test ≡ true
passed true test h unlisted = absurd (cc)
passed false test h unlisted = h

passes : (listed test : Bool) → (listed ≡ false → test ≡ true) → cond listed true test ≡ true
passes true test h = refl
passes false test h = h refl

in_time : (a b m : ℤ) → (int_le a m && int_le m b) ≡ true → (a ≤ℤ m) × (m ≤ℤ b)
in_time a b m h = let k = and_parts (int_le a m) (int_le m b) h in (grind (arith, ints, k.0), grind (arith, ints, k.1))

timely : (a b m : ℤ) → (a ≤ℤ m) × (m ≤ℤ b) → (int_le a m && int_le m b) ≡ true
timely a b m (l, r) = let x : int_le a m ≡ true = grind (arith, ints) in let y : int_le m b ≡ true = grind (arith, ints) in rw (x, y) refl

date_means : (anchors : List CertView) (moment : ℕ) (chain : List CertView) → Means (IsValid anchors moment chain) (dated anchors moment) chain
date_means anchors moment chain = record {
  to = λ i c is t d numbered unlisted.
      let P : CertView → Type 0 = λ x. is_listed x anchors ≡ false → (x.not_before ≤ℤ pos moment) × (pos moment ≤ℤ x.not_after) in
      subst P (the_one chain i c d is numbered) (λ free. in_time c.not_before c.not_after (pos moment) (passed (is_listed c anchors) (is_valid moment c) t free)) unlisted;
  from = λ i c is holds. passes (is_listed c anchors) (is_valid moment c) (λ free. timely c.not_before c.not_after (pos moment) (holds c (numbers chain i c is) free));
}

pub dates_worded : (anchors : List CertView) (moment : ℕ) (chain : List CertView)
    → IsFirstBroken (IsValid anchors moment chain) (length chain) (first_out moment (periods_from anchors 1 chain))
dates_worded anchors moment chain =
    let P : Option ℕ → Type 0 = IsFirstBroken (IsValid anchors moment chain) (length chain) in
    subst P (sym (date_walk anchors moment 1 chain)) (worded (IsValid anchors moment chain) (dated anchors moment) chain (date_means anchors moment chain))

-- ---- issuers

next_is : (chain : List CertView) (k : ℕ) (x top : CertView) → slice_get chain k ≡ Some x → first_or (drop k chain) top ≡ x
next_is [] k x top e = absurd (cc)
next_is (c ∷ above) zero x top e = same_Some c x e
next_is (c ∷ above) (suc k) x top e = next_is above k x top e

last_is : (chain : List CertView) (k : ℕ) (top : CertView) → length chain ≤ k → first_or (drop k chain) top ≡ top
last_is [] zero top past = refl
last_is [] (suc k) top past = refl
last_is (c ∷ above) zero top past = absurd (omega (arith, past))
last_is (c ∷ above) (suc k) top past = last_is above k top (omega (arith, past))

-- the issuer of the certificate at an index, which has the next number
issuer_by : (chain anchors : List CertView) (anchor : Option ℕ) (top : CertView) (i : ℕ) (t : Bool) → nat_lt (suc i) (length chain) ≡ t → anchor_of chain anchors anchor ≡ Some top
    → cond t (slice_get chain (suc i)) (anchor_of chain anchors anchor) ≡ Some (first_or (drop (suc i) chain) top)
issuer_by chain anchors anchor top i true t e =
    elim (slice_get_cases chain (suc i)).1 [
      | inl (c, within, is, at) ↦ is ∙ ap Some (sym (next_is chain (suc i) c top is))
      | inr (past, none) ↦ absurd (grind (arith, nat_tests))
    ]
issuer_by chain anchors anchor top i false t e = e ∙ ap Some (sym (last_is chain (suc i) top (grind (arith, nat_tests))))

issuer_is : (chain anchors : List CertView) (anchor : Option ℕ) (top : CertView) (i : ℕ) → anchor_of chain anchors anchor ≡ Some top
    → issuer_of chain anchors anchor (suc i) ≡ Some (first_or (drop (suc i) chain) top)
issuer_is chain anchors anchor top i e = issuer_by chain anchors anchor top i (nat_lt (suc i) (length chain)) refl e

pub the_issuer : (chain anchors : List CertView) (anchor : Option ℕ) (top issuer : CertView) (i : ℕ) → anchor_of chain anchors anchor ≡ Some top
    → issuer_of chain anchors anchor (suc i) ≡ Some issuer → first_or (drop (suc i) chain) top ≡ issuer
the_issuer chain anchors anchor top issuer i e k = same_Some _ issuer (sym (issuer_is chain anchors anchor top i e) ∙ k)

-- ---- rule 14

abbrev within_issuer : Table → CertView → Test
within_issuer table top c above = is_within c.list (first_or above top).list table

outside_walk : (table : Table) (number : ℕ) (chain : List CertView) (top : CertView)
    → first_outside table (links_from number chain top) ≡ walk (within_issuer table top) number chain
outside_walk table number [] top = refl
outside_walk table number (c ∷ above) top =
    ap (λ o. cond (is_within c.list (first_or above top).list table) o (Some number)) (outside_walk table (suc number) above top)

within_means : Below → (anchors : List CertView) (table : Table) (chain : List CertView) (anchor : Option ℕ) (top : CertView) → anchor_of chain anchors anchor ≡ Some top
    → ((c : CertView) → slice_get chain 0 ≡ Some c → IsSome c.list) → Means (IsAuthorized table anchors anchor chain) (within_issuer table top) chain
within_means below anchors table chain anchor top e leaf = record {
  to = λ i c is t. record {
    listed = λ d numbered one.
        let first : i ≡ 0 = omega (arith, one) in
        leaf d (ap (slice_get chain) (sym first) ∙ is ∙ ap Some (the_one chain i c d is numbered));
    within = λ d issuer numbered k.
        let P : CertView → Type 0 = λ x. Within x.list issuer.list table in
        let Q : CertView → Type 0 = λ x. Within c.list x.list table in
        subst P (the_one chain i c d is numbered) (subst Q (the_issuer chain anchors anchor top issuer i e k) ((below.within c.list (first_or (drop (suc i) chain) top).list table).0 t));
  };
  from = λ i c is holds.
      (below.within c.list (first_or (drop (suc i) chain) top).list table).1 (holds.within c (first_or (drop (suc i) chain) top) (numbers chain i c is) (issuer_is chain anchors anchor top i e));
}

authority_by : Below → (anchors : List CertView) (table : Table) (leaf : CertView) (above : List CertView) (anchor : Option ℕ) (top : CertView) (t : Bool) → is_some leaf.list ≡ t
    → anchor_of (leaf ∷ above) anchors anchor ≡ Some top
    → IsFirstBroken (IsAuthorized table anchors anchor (leaf ∷ above)) (length (leaf ∷ above)) (cond t (first_outside table (links_from 1 (leaf ∷ above) top)) (Some 1))
authority_by below anchors table leaf above anchor top true t e =
    let chain : List CertView = leaf ∷ above in
    let P : Option ℕ → Type 0 = IsFirstBroken (IsAuthorized table anchors anchor chain) (length chain) in
    let has : (c : CertView) → slice_get chain 0 ≡ Some c → IsSome c.list =
    λ c is. let Q : CertView → Type 0 = λ x. IsSome x.list in subst Q (same_Some leaf c is) t in
    subst P (sym (outside_walk table 1 chain top)) (worded (IsAuthorized table anchors anchor chain) (within_issuer table top) chain (within_means below anchors table chain anchor top e has))
authority_by below anchors table leaf above anchor top false t e =
    (omega arith, omega arith, λ h. let listed : is_some leaf.list ≡ true = h.listed leaf refl refl in absurd (cc), λ number some less. absurd (omega (arith, some, less)))

pub authority_worded : Below → (anchors : List CertView) (table : Table) (chain : List CertView) (anchor : Option ℕ) (top : CertView) → anchor_of chain anchors anchor ≡ Some top
    → IsFirstBroken (IsAuthorized table anchors anchor chain) (length chain) (first_unauthorized table (links_from 1 chain top))
authority_worded below anchors table [] anchor top e = λ number some most. absurd (omega (arith, some, most))
authority_worded below anchors table (leaf ∷ above) anchor top e = authority_by below anchors table leaf above anchor top (is_some leaf.list) refl e

-- ---- rule 15

abbrev has_signature : Says → List CertView → CertView → Test
has_signature says anchors top c above = cond (is_listed c anchors) true (says (first_or above top).key c.digest c.signature)

sign_step : (number : ℕ) (listed signed : Bool) (later o : Option ℕ) → later ≡ o
    → cond listed later (cond signed later (Some number)) ≡ cond (cond listed true signed) o (Some number)
sign_step number true signed later o e = e
sign_step number false true later o e = e
sign_step number false false later o e = refl

sign_walk : (says : Says) (anchors : List CertView) (number : ℕ) (chain : List CertView) (top : CertView)
    → first_unsigned says anchors (links_from number chain top) ≡ walk (has_signature says anchors top) number chain
sign_walk says anchors number [] top = refl
sign_walk says anchors number (c ∷ above) top =
    sign_step number (is_listed c anchors) (says (first_or above top).key c.digest c.signature) _ _ (sign_walk says anchors (suc number) above top)

sign_means : (says : Says) (anchors chain : List CertView) (anchor : Option ℕ) (top : CertView) → anchor_of chain anchors anchor ≡ Some top
    → Means (IsSigned says anchors anchor chain) (has_signature says anchors top) chain
sign_means says anchors chain anchor top e = record {
  to = λ i c is t d issuer numbered k unlisted.
      let P : CertView → Type 0 = λ x. is_listed x anchors ≡ false → says issuer.key x.digest x.signature ≡ true in
      let Q : CertView → Type 0 = λ x. says x.key c.digest c.signature ≡ true in
      subst P (the_one chain i c d is numbered)
      (λ free. subst Q (the_issuer chain anchors anchor top issuer i e k) (passed (is_listed c anchors) (says (first_or (drop (suc i) chain) top).key c.digest c.signature) t free))
      unlisted;
  from = λ i c is holds. passes (is_listed c anchors) (says (first_or (drop (suc i) chain) top).key c.digest c.signature)
      (λ free. holds c (first_or (drop (suc i) chain) top) (numbers chain i c is) (issuer_is chain anchors anchor top i e) free);
}

pub signatures_worded : (says : Says) (anchors chain : List CertView) (anchor : Option ℕ) (top : CertView) → anchor_of chain anchors anchor ≡ Some top
    → IsFirstBroken (IsSigned says anchors anchor chain) (length chain) (first_unsigned says anchors (links_from 1 chain top))
signatures_worded says anchors chain anchor top e =
    let P : Option ℕ → Type 0 = IsFirstBroken (IsSigned says anchors anchor chain) (length chain) in
    subst P (sym (sign_walk says anchors 1 chain top)) (worded (IsSigned says anchors anchor chain) (has_signature says anchors top) chain (sign_means says anchors chain anchor top e))
