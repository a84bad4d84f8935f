-- What is known of a judged chain, in the rules' own words.
use Rattle.std.proofs.Common.{◌≡◌, ◌≢◌, ◌↔◌, ℕ, zero, suc, ◌-◌, ◌*◌, ◌<◌, ◌≤◌, nat_le, Bool, true, false, cond, List, [], ◌∷◌, length, drop, length-append, inl, inr, Option, Some, None, Result, Ok, Err, IfOk, refl, sym, ◌∙◌, ap, subst, arith}
use Rattle.std.specs.List.{slice_get}
use Rattle.std.proofs.lemmas.Bool.Decides.{nat_tests}
use Rattle.std.proofs.lemmas.Option.{slice_get_cases, same_Some}
use Rattle.der_reader.specs.Elem.{AllBytes}
use Rattle.x509_profile.specs.View.{CertView}
use Rattle.x509_profile.specs.Chain.{AreCerts, Chain, RefusedCertificate, certificates_in, joined}
use Rattle.delegation.specs.declared.fault.PathFault.{PathFault}
use Rattle.delegation.specs.Coverage.{Table}
use Rattle.delegation.specs.Path.{IsAnchor, Path, anchor_of, issuer_of, shape_of}
use Rattle.cert_store.specs.declared.judged.Asked.{Asked}
use Rattle.cert_store.specs.declared.judged.Asked.TheVariants.{NotAsked, Yes, No, Failed}
use Rattle.stir_outside.proofs.CountLaws.{not_rose}
use Rattle.stir_outside.specs.Count.{last_count}
use Rattle.cert_store.specs.Asking.{FailedWithCause, SoFar, asked_by}
use Rattle.cert_store.specs.Judged.{IsJudged, JudgedAs, JudgedView, QuietIs, asked_where, judged_of, out_of_date}
use Rattle.cert_store.specs.Links.{by_number, chain_in, first_or, links_from, links_of, path_of, path_up_to, read_file, read_or_nothing}
use Rattle.cert_store.specs.Rules.{Says, fault_place, first_out, first_unauthorized, first_unsigned, key_under, keys_of, periods_from, place_in, refused_place, rule_11, rule_12, rule_14, rule_15}
use Rattle.cert_store.specs.Words.{AuthorityIs, DatesAre, IsAuthorized, IsFirstBroken, IsNumbered, IsSigned, IsValid, KeysAre, PathIs, PathOf, ProfileIs, ProfileOf, SignaturesAre, SignedAs, UnaskedIs}
use Rattle.cert_store.specs.Below.{Below}
use Rattle.cert_store.proofs.PathFacts.{some_certificate}
use Rattle.cert_store.proofs.WordLaws.{authority_worded, dates_worded, signatures_worded, the_issuer}

-- ---- the fields

-- each field but the answer of the provider is what the rules say
pub record Fields (anchors : List CertView) (table : Table) (says : Says) (bytes : List ℕ) (judged : JudgedView) : Type 0 where
  pub profile : judged.profile ≡ rule_11 bytes
  pub shape : judged.shape ≡ rule_12 anchors bytes
  pub authority : judged.authority ≡ rule_14 anchors table bytes
  pub certificates : judged.certificates ≡ chain_in bytes
  pub dates : (moment : ℕ) → out_of_date judged moment ≡ first_out moment (periods_from anchors 1 (path_of anchors (chain_in bytes)))
  pub keys : judged.keys ≡ keys_of anchors (links_of anchors (chain_in bytes))
  pub asked : SoFar (asked_where (rule_11 bytes) (rule_12 anchors bytes) (rule_14 anchors table bytes) (rule_15 anchors says bytes)) judged.asked

pub fields_of : (anchors : List CertView) (table : Table) (says : Says) (bytes : List ℕ) (judged : JudgedView)
    → JudgedAs (judged_of anchors table says bytes) judged → Fields anchors table says bytes judged
unfolding judged_of
fields_of anchors table says bytes judged j = record {
  profile = ap (λ (x : JudgedView). x.profile) j.same;
  shape = ap (λ (x : JudgedView). x.shape) j.same;
  authority = ap (λ (x : JudgedView). x.authority) j.same;
  certificates = ap (λ (x : JudgedView). x.certificates) j.same;
  dates = λ moment. ap (λ (x : JudgedView). out_of_date x moment) j.same;
  keys = ap (λ (x : JudgedView). x.keys) j.same;
  asked = j.so_far;
}

-- ---- rule 11

-- certificates have at most 8,192 bytes each
size_of : (certificates : List CertView) → AreCerts certificates → length (joined certificates) ≤ 8192 * length certificates
size_of [] certs = omega arith
size_of (c ∷ others) (cert, certs) = let more = size_of others certs in omega (arith, more, cert.size, length-append c.whole (joined others))

-- so a chain has at most 49,152
pub is_short : (bytes : List ℕ) (chain : List CertView) → Chain bytes chain → length bytes ≤ 49152
is_short bytes chain c = let size = size_of chain c.each in omega (arith, size, c.most, ap length c.text)

short_by : Below → (bytes : List ℕ) (read : Result (List CertView) RefusedCertificate) → AllBytes bytes → length bytes ≤ 49152 → certificates_in bytes ≡ read
    → ProfileOf bytes (read_or_nothing (by_number read)) (refused_place (by_number read))
short_by below bytes (Ok chain) typed short e = below.chain_found bytes chain typed e
short_by below bytes (Err refused) typed short e =
    let ends = below.chain_ends bytes refused typed e in
    (inr (short, omega (arith, ends.number_is), below.chain_whole bytes refused ends), λ any chain. let k : Ok any ≡ Err refused = sym (below.chain_again bytes any chain) ∙ e in absurd (cc), refl)

profile_by : Below → (bytes : List ℕ) (t : Bool) → AllBytes bytes → nat_le (length bytes) 49152 ≡ t
    → ProfileOf bytes (read_or_nothing (cond t (by_number (certificates_in bytes)) (Err 0))) (refused_place (cond t (by_number (certificates_in bytes)) (Err 0)))
profile_by below bytes true typed e = short_by below bytes (certificates_in bytes) typed (grind (arith, nat_tests)) refl
profile_by below bytes false typed e =
    let long : 49152 < length bytes = grind (arith, nat_tests) in
    (inl (long, refl), λ any chain. let short = is_short bytes any chain in absurd (omega (arith, long, short)), refl)

profile_read : Below → (bytes : List ℕ) → AllBytes bytes → ProfileOf bytes (chain_in bytes) (rule_11 bytes)
unfolding read_file
profile_read below bytes typed = profile_by below bytes (nat_le (length bytes) 49152) typed refl

pub profile_is : Below → (anchors : List CertView) (table : Table) (says : Says) (bytes : List ℕ) (judged : JudgedView) → AllBytes bytes
    → JudgedAs (judged_of anchors table says bytes) judged → ProfileIs bytes judged
profile_is below anchors table says bytes judged typed j =
    let f = fields_of anchors table says bytes judged j in
    let P : Option ℕ → Type 0 = λ place. ProfileOf bytes judged.certificates place in
    let Q : List CertView → Type 0 = λ chain. ProfileOf bytes chain (rule_11 bytes) in
    subst P (sym f.profile) (subst Q (sym f.certificates) (profile_read below bytes typed))

-- ---- rule 12

path_in : Below → (chain anchors : List CertView) (shape : Result (Option ℕ) PathFault) → shape_of chain anchors ≡ shape → PathOf chain anchors (fault_place shape)
path_in below chain anchors (Ok anchor) e = (anchor, below.path_found chain anchors anchor e)
path_in below chain anchors (Err fault) e = (
  λ anchor path. let k : Err fault ≡ Ok anchor = sym e ∙ below.path_again chain anchors anchor path in absurd (cc),
  fault.kind,
  below.path_refused chain anchors fault e,
)

path_by : Below → (anchors : List CertView) (read : Result (List CertView) ℕ) → refused_place read ≡ None → PathOf (read_or_nothing read) anchors (place_in anchors read)
path_by below anchors (Ok chain) e = path_in below chain anchors (shape_of chain anchors) refl
path_by below anchors (Err place) e = absurd (cc)

pub path_is : Below → (anchors : List CertView) (table : Table) (says : Says) (bytes : List ℕ) (judged : JudgedView)
    → JudgedAs (judged_of anchors table says bytes) judged → PathIs anchors judged
path_is below anchors table says bytes judged j none =
    let f = fields_of anchors table says bytes judged j in
    let P : Option ℕ → Type 0 = λ place. PathOf judged.certificates anchors place in
    let Q : List CertView → Type 0 = λ chain. PathOf chain anchors (rule_12 anchors bytes) in
    subst P (sym f.shape) (subst Q (sym f.certificates) (path_by below anchors (read_file bytes) (sym f.profile ∙ none)))

-- ---- of a path

-- above a path is a certificate
record Top (chain anchors : List CertView) (anchor : Option ℕ) : Type 0 where
  top : CertView
  is : anchor_of chain anchors anchor ≡ Some top

top_by : (chain anchors : List CertView) (n : ℕ) (last : CertView) (anchor : Option ℕ) → 0 < length chain → IsAnchor n last anchors anchor → Top chain anchors anchor
top_by chain anchors n last None some a =
    elim (slice_get_cases chain (length chain - 1)).1 [
      | inl (c, within, is, at) ↦ record { top = c; is = is }
      | inr (past, none) ↦ absurd (omega (arith, some, past))
    ]
top_by chain anchors n last (Some number) some (listed, found, is, fits, first) = record { top = found; is = is }

top_of : (chain anchors : List CertView) (anchor : Option ℕ) → Path chain anchors anchor → Top chain anchors anchor
top_of chain anchors anchor p = top_by chain anchors _ p.last anchor (some_certificate chain anchors anchor p) p.anchored

links_are : Below → (chain anchors : List CertView) (anchor : Option ℕ) (t : Top chain anchors anchor) → Path chain anchors anchor → links_of anchors chain ≡ links_from 1 chain t.top
links_are below chain anchors anchor t p = rw (below.path_again chain anchors anchor p, t.is) refl

pub dates_are : Below → (anchors : List CertView) (table : Table) (says : Says) (bytes : List ℕ) (judged : JudgedView)
    → JudgedAs (judged_of anchors table says bytes) judged → DatesAre anchors judged
dates_are below anchors table says bytes judged j anchor moment path =
    let f = fields_of anchors table says bytes judged j in
    let p : Path (chain_in bytes) anchors anchor = subst (λ (chain : List CertView). Path chain anchors anchor) f.certificates path in
    let P : Option ℕ → Type 0 = IsFirstBroken (IsValid anchors moment judged.certificates) (length judged.certificates) in
    let Q : List CertView → Type 0 = λ chain. IsFirstBroken (IsValid anchors moment chain) (length chain) (first_out moment (periods_from anchors 1 (path_of anchors (chain_in bytes)))) in
    let R : List CertView → Type 0 = λ dated. IsFirstBroken (IsValid anchors moment (chain_in bytes)) (length (chain_in bytes)) (first_out moment (periods_from anchors 1 dated)) in
    let all : path_of anchors (chain_in bytes) ≡ chain_in bytes = ap (path_up_to (chain_in bytes)) (below.path_again (chain_in bytes) anchors anchor p) in
    subst P (sym (f.dates moment)) (subst Q (sym f.certificates) (subst R (sym all) (dates_worded anchors moment (chain_in bytes))))

pub authority_is : Below → (anchors : List CertView) (table : Table) (says : Says) (bytes : List ℕ) (judged : JudgedView)
    → JudgedAs (judged_of anchors table says bytes) judged → AuthorityIs anchors table judged
authority_is below anchors table says bytes judged j anchor path =
    let f = fields_of anchors table says bytes judged j in
    let p : Path (chain_in bytes) anchors anchor = subst (λ (chain : List CertView). Path chain anchors anchor) f.certificates path in
    let t = top_of (chain_in bytes) anchors anchor p in
    let P : Option ℕ → Type 0 = IsFirstBroken (IsAuthorized table anchors anchor judged.certificates) (length judged.certificates) in
    let Q : List CertView → Type 0 = λ chain. IsFirstBroken (IsAuthorized table anchors anchor chain) (length chain) (rule_14 anchors table bytes) in
    let found : rule_14 anchors table bytes ≡ first_unauthorized table (links_from 1 (chain_in bytes) t.top) = ap (first_unauthorized table) (links_are below (chain_in bytes) anchors anchor t p) in
    let R : Option ℕ → Type 0 = IsFirstBroken (IsAuthorized table anchors anchor (chain_in bytes)) (length (chain_in bytes)) in
    subst P (sym f.authority) (subst Q (sym f.certificates) (subst R (sym found) (authority_worded below anchors table (chain_in bytes) anchor t.top t.is)))

-- ---- rule 15

signed_as : (Holds : ℕ → Type 0) (count : ℕ) (first : Option ℕ) (asked : Asked) → SoFar (asked_by first) asked → IsFirstBroken Holds count first → SignedAs Holds count asked
signed_as Holds count None NotAsked s w = absurd (cc)
signed_as Holds count (Some part) NotAsked s w = absurd (cc)
signed_as Holds count None Yes s w = w
signed_as Holds count (Some part) Yes s w = absurd (cc)
signed_as Holds count None (No part) s w = absurd (cc)
signed_as Holds count (Some first) (No part) s w = let same : first ≡ part = cc in let P : ℕ → Type 0 = λ n. IsFirstBroken Holds count (Some n) in subst P same w
signed_as Holds count None (Failed part) s w = λ number some less most. w number some most
signed_as Holds count (Some first) (Failed part) s w = λ number some less most. w.3 number some (omega (arith, less, s))

pub signatures_are : Below → (anchors : List CertView) (table : Table) (says : Says) (bytes : List ℕ) (judged : JudgedView)
    → JudgedAs (judged_of anchors table says bytes) judged → SignaturesAre anchors says judged
signatures_are below anchors table says bytes judged j anchor path none =
    let f = fields_of anchors table says bytes judged j in
    let p : Path (chain_in bytes) anchors anchor = subst (λ (chain : List CertView). Path chain anchors anchor) f.certificates path in
    let t = top_of (chain_in bytes) anchors anchor p in
    let Q : List CertView → Type 0 = λ chain. SignedAs (IsSigned says anchors anchor chain) (length chain) judged.asked in
    let links : rule_15 anchors says bytes ≡ first_unsigned says anchors (links_from 1 (chain_in bytes) t.top) = ap (first_unsigned says anchors) (links_are below (chain_in bytes) anchors anchor t p) in
    let profile : rule_11 bytes ≡ None = profile_of_path anchors bytes anchor (read_file bytes) p in
    let shape : rule_12 anchors bytes ≡ None = shape_of_path anchors anchor (read_file bytes) p in
    let authority : rule_14 anchors table bytes ≡ None = sym f.authority ∙ none in
    let asked : SoFar (asked_by (first_unsigned says anchors (links_from 1 (chain_in bytes) t.top))) judged.asked = asked_here _ _ _ _ _ judged.asked profile shape authority links f.asked in
    subst Q (sym f.certificates) (signed_as (IsSigned says anchors anchor (chain_in bytes)) (length (chain_in bytes)) _ judged.asked asked (signatures_worded says anchors (chain_in bytes) anchor t.top t.is))
  where
    profile_of_path : (anchors : List CertView) (bytes : List ℕ) (anchor : Option ℕ) (read : Result (List CertView) ℕ) → Path (read_or_nothing read) anchors anchor → refused_place read ≡ None
    profile_of_path anchors bytes anchor (Ok chain) p = refl
    profile_of_path anchors bytes anchor (Err place) p = let some = some_certificate [] anchors anchor p in absurd (omega (arith, some))

    shape_of_path : (anchors : List CertView) (anchor : Option ℕ) (read : Result (List CertView) ℕ) → Path (read_or_nothing read) anchors anchor → place_in anchors read ≡ None
    shape_of_path anchors anchor (Ok chain) p = ap fault_place (below.path_again chain anchors anchor p)
    shape_of_path anchors anchor (Err place) p = refl

    asked_here : (profile shape authority unsigned first : Option ℕ) (asked : Asked) → profile ≡ None → shape ≡ None → authority ≡ None → unsigned ≡ first
        → SoFar (asked_where profile shape authority unsigned) asked → SoFar (asked_by first) asked
    asked_here profile shape authority unsigned first asked a b c d s =
        let same : asked_where profile shape authority unsigned ≡ asked_by first = rw (a, b, c, d) refl in subst (λ truth. SoFar truth asked) same s

-- ---- the keys

keys_count : (anchors : List CertView) (number : ℕ) (chain : List CertView) (top : CertView) → length (keys_of anchors (links_from number chain top)) ≡ length chain
keys_count anchors number [] top = refl
keys_count anchors number (c ∷ above) top = let more = keys_count anchors (suc number) above top in omega (arith, more)

-- the key at an index is the one of the certificate there
key_at : (anchors : List CertView) (number : ℕ) (chain : List CertView) (top : CertView) (i : ℕ) (c : CertView) → slice_get chain i ≡ Some c
    → slice_get (keys_of anchors (links_from number chain top)) i ≡ Some (key_under anchors c (first_or (drop (suc i) chain) top))
key_at anchors number [] top i c e = absurd (cc)
key_at anchors number (x ∷ above) top zero c e = let same : x ≡ c = same_Some x c e in ap (λ (y : CertView). Some (key_under anchors y (first_or above top))) same
key_at anchors number (x ∷ above) top (suc i) c e = key_at anchors (suc number) above top i c e

key_of_number : (chain anchors : List CertView) (anchor : Option ℕ) (top : CertView) (number : ℕ) (c issuer : CertView) → anchor_of chain anchors anchor ≡ Some top → 1 ≤ number
    → IsNumbered chain number c → issuer_of chain anchors anchor number ≡ Some issuer
    → slice_get (keys_of anchors (links_from 1 chain top)) (number - 1) ≡ Some (key_under anchors c issuer)
key_of_number chain anchors anchor top number c issuer e some numbered above =
    let next : number ≡ suc (number - 1) = omega (arith, some) in
    let higher : issuer_of chain anchors anchor (suc (number - 1)) ≡ Some issuer = ap (issuer_of chain anchors anchor) (sym next) ∙ above in
    let same = the_issuer chain anchors anchor top issuer (number - 1) e higher in
    key_at anchors 1 chain top (number - 1) c numbered ∙ ap (λ (x : CertView). Some (key_under anchors c x)) same

pub keys_are : Below → (anchors : List CertView) (table : Table) (says : Says) (bytes : List ℕ) (judged : JudgedView)
    → JudgedAs (judged_of anchors table says bytes) judged → KeysAre anchors judged
keys_are below anchors table says bytes judged j anchor path =
    let f = fields_of anchors table says bytes judged j in
    let p : Path (chain_in bytes) anchors anchor = subst (λ (chain : List CertView). Path chain anchors anchor) f.certificates path in
    let t = top_of (chain_in bytes) anchors anchor p in
    let keys : judged.keys ≡ keys_of anchors (links_from 1 (chain_in bytes) t.top) = f.keys ∙ ap (keys_of anchors) (links_are below (chain_in bytes) anchors anchor t p) in
    record {
      count = ap length keys ∙ keys_count anchors 1 (chain_in bytes) t.top ∙ ap length (sym f.certificates);
      each = λ number c issuer some numbered above.
          let here : IsNumbered (chain_in bytes) number c = subst (λ (chain : List CertView). IsNumbered chain number c) f.certificates numbered in
          let higher : issuer_of (chain_in bytes) anchors anchor number ≡ Some issuer =
          subst (λ (chain : List CertView). issuer_of chain anchors anchor number ≡ Some issuer) f.certificates above in
          ap (λ x. slice_get x (number - 1)) keys ∙ key_of_number (chain_in bytes) anchors anchor t.top number c issuer t.is some here higher;
    }

-- ---- if nothing failed

told_all : (faults faults_now : ℕ) (truth asked : Asked) → faults_now ≡ faults → faults ≢ last_count → SoFar truth asked → FailedWithCause faults faults_now asked → asked ≡ truth
told_all faults faults_now truth NotAsked same below s c = sym s
told_all faults faults_now truth Yes same below s c = sym s
told_all faults faults_now truth (No part) same below s c = sym s
told_all faults faults_now truth (Failed part) same below s c = absurd (not_rose faults faults_now (record { same = same; below_last = below }) c.1)

unfailed_by : (faults faults_now : ℕ) (asked : Asked) → faults_now ≡ faults → faults ≢ last_count → FailedWithCause faults faults_now asked → (part : ℕ) → asked ≢ Failed part
unfailed_by faults faults_now asked same below c part is =
    let failed : FailedWithCause faults faults_now (Failed part) = subst (FailedWithCause faults faults_now) is c in
    not_rose faults faults_now (record { same = same; below_last = below }) failed.1

abbrev pub with_answer : JudgedView → Asked → JudgedView
with_answer truth asked = record truth { asked = asked }

-- of two providers, what is said differs in how the signatures were answered for alone
pub answered_apart : (anchors : List CertView) (table : Table) (says other : Says) (bytes : List ℕ)
    → judged_of anchors table other bytes ≡ with_answer (judged_of anchors table says bytes) (judged_of anchors table other bytes).asked
unfolding judged_of
answered_apart anchors table says other bytes = refl

pub quiet_is : (truth : JudgedView) (faults faults_now : ℕ) (judged : JudgedView) → IsJudged truth faults faults_now judged → QuietIs truth faults faults_now judged
quiet_is truth faults faults_now judged j same below =
    let all : judged.asked ≡ truth.asked = told_all faults faults_now truth.asked judged.asked same below j.right.so_far j.cause in
    record {
      whole = j.right.same ∙ ap (λ (asked : Asked). with_answer truth asked) all;
      unfailed = unfailed_by faults faults_now judged.asked same below j.cause;
    }

-- ---- whether signatures were asked for

truth_asked : (unsigned : Option ℕ) (asked : Asked) → SoFar (asked_by unsigned) asked → asked ≡ NotAsked → ⊥
truth_asked None NotAsked s e = absurd (cc)
truth_asked (Some part) NotAsked s e = absurd (cc)
truth_asked unsigned Yes s e = absurd (cc)
truth_asked unsigned (No part) s e = absurd (cc)
truth_asked unsigned (Failed part) s e = absurd (cc)

is_unasked : (asked : Asked) → SoFar NotAsked asked → asked ≡ NotAsked
is_unasked NotAsked s = refl
is_unasked Yes s = absurd (cc)
is_unasked (No part) s = absurd (cc)
is_unasked (Failed part) s = absurd s

unasked_by : (profile shape authority unsigned : Option ℕ) (asked : Asked) → SoFar (asked_where profile shape authority unsigned) asked
    → (asked ≡ NotAsked) ↔ ((profile ≡ None) × (shape ≡ None) × (authority ≡ None) → ⊥)
unasked_by None None None unsigned asked s = (λ e. absurd (truth_asked unsigned asked s e), λ h. absurd (h (refl, refl, refl)))
unasked_by None None (Some part) unsigned asked s = (λ e all. let k = all.2 in absurd (cc), λ h. is_unasked asked s)
unasked_by None (Some part) authority unsigned asked s = (λ e all. let k = all.1 in absurd (cc), λ h. is_unasked asked s)
unasked_by (Some part) shape authority unsigned asked s = (λ e all. let k = all.0 in absurd (cc), λ h. is_unasked asked s)

pub unasked_is : (anchors : List CertView) (table : Table) (says : Says) (bytes : List ℕ) (judged : JudgedView)
    → JudgedAs (judged_of anchors table says bytes) judged → UnaskedIs judged
unasked_is anchors table says bytes judged j =
    let f = fields_of anchors table says bytes judged j in
    let k = unasked_by (rule_11 bytes) (rule_12 anchors bytes) (rule_14 anchors table bytes) (rule_15 anchors says bytes) judged.asked f.asked in (
      λ e all. k.0 e (sym f.profile ∙ all.0, sym f.shape ∙ all.1, sym f.authority ∙ all.2),
      λ h. k.1 (λ all. h (f.profile ∙ all.0, f.shape ∙ all.1, f.authority ∙ all.2)),
    )

-- ---- of an answer

pub ok_so : {X E : Type 0} (r : Result X E) (P Q : X → Type 0) → ((x : X) → P x → Q x) → IfOk r P → IfOk r Q
ok_so (Ok x) P Q f p = f x p
ok_so (Err e) P Q f p = tt
