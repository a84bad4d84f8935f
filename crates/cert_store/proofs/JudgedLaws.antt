-- What the rules say of bytes is what they say of the certificates that are read from them.
use Rattle.std.proofs.Common.{◌≡◌, ◌≢◌, ℕ, suc, ◌<◌, ◌≤◌, nat_le, Bool, true, false, cond, List, [], ◌∷◌, length, Option, Some, None, is_some, Result, Ok, Err, refl, sym, ◌∙◌, ap, subst, arith}
use Rattle.std.specs.List.{slice_get}
use Rattle.std.proofs.lemmas.Bool.Decides.{nat_tests}
use Rattle.x509_profile.specs.View.{CertView}
use Rattle.x509_profile.specs.Chain.{RefusedCertificate, certificates_in}
use Rattle.delegation.specs.declared.fault.PathFault.{PathFault}
use Rattle.delegation.specs.Coverage.{Table}
use Rattle.delegation.specs.Path.{anchor_of, is_listed, shape_of}
use Rattle.cert_store.specs.declared.judged.Asked.{Asked}
use Rattle.cert_store.specs.declared.judged.Asked.TheVariants.{NotAsked}
use Rattle.cert_store.specs.declared.judged.Period.{Period}
use Rattle.cert_store.specs.Asking.{Keys, first_refused}
use Rattle.cert_store.specs.Judged.{IsConsistent, IsJudged, JudgedView, asked_where, judged_chain, judged_of, judged_shape, outside_profile, view_of}
use Rattle.cert_store.specs.Links.{Link, by_number, first_or, links_below, links_from, links_up_to, path_up_to, read_file}
use Rattle.cert_store.specs.Rules.{Says, fault_place, first_unauthorized, first_unsigned, keys_of, periods_from}
use Rattle.cert_store.proofs.RuleSteps.{leaf_listed}

-- ---- signatures by the keys of the issuers

key_step : (says : Says) (number : ℕ) (c issuer : CertView) (listed : Bool) (later : Option ℕ) (above : List CertView) (keys : Keys) → later ≡ first_refused says (suc number) above keys
    → cond listed later (cond (says issuer.key c.digest c.signature) later (Some number)) ≡ first_refused says number (c ∷ above) (cond listed None (Some issuer.key) ∷ keys)
key_step says number c issuer true later above keys e = e
key_step says number c issuer false later above keys e = ap (λ x. cond (says issuer.key c.digest c.signature) x (Some number)) e

by_keys : (says : Says) (anchors : List CertView) (number : ℕ) (chain : List CertView) (top : CertView)
    → first_unsigned says anchors (links_from number chain top) ≡ first_refused says number chain (keys_of anchors (links_from number chain top))
by_keys says anchors number [] top = refl
by_keys says anchors number (c ∷ above) top =
    key_step says number c (first_or above top) (is_listed c anchors) _ above (keys_of anchors (links_from (suc number) above top)) (by_keys says anchors (suc number) above top)

below_none : (says : Says) (chain : List CertView) → None ≡ first_refused says 1 chain []
below_none says [] = refl
below_none says (c ∷ above) = refl

pub by_keys_below : (says : Says) (anchors chain : List CertView) (top : Option CertView)
    → first_unsigned says anchors (links_below chain top) ≡ first_refused says 1 chain (keys_of anchors (links_below chain top))
by_keys_below says anchors chain (Some top) = by_keys says anchors 1 chain top
by_keys_below says anchors chain None = below_none says chain

-- ---- of what is read

abbrev judged_up_to : List CertView → Table → Says → List CertView → Result (Option ℕ) PathFault → JudgedView
judged_up_to anchors table says chain shape = record {
  profile = None;
  shape = fault_place shape;
  authority = first_unauthorized table (links_up_to chain anchors shape);
  asked = asked_where None (fault_place shape) (first_unauthorized table (links_up_to chain anchors shape)) (first_unsigned says anchors (links_up_to chain anchors shape));
  certificates = chain;
  periods = periods_from anchors 1 (path_up_to chain shape);
  keys = keys_of anchors (links_up_to chain anchors shape);
}

-- a path, by the first certificate whose signature isn't good
abbrev path_with : List CertView → Table → List CertView → List Link → Option ℕ → JudgedView
path_with anchors table chain links first = record {
  profile = None;
  shape = None;
  authority = first_unauthorized table links;
  asked = asked_where None None (first_unauthorized table links) first;
  certificates = chain;
  periods = periods_from anchors 1 chain;
  keys = keys_of anchors links;
}

by_shape : (anchors : List CertView) (table : Table) (says : Says) (chain : List CertView) (shape : Result (Option ℕ) PathFault)
    → judged_up_to anchors table says chain shape ≡ judged_shape anchors table says chain shape
by_shape anchors table says chain (Ok anchor) =
    ap (path_with anchors table chain (links_below chain (anchor_of chain anchors anchor))) (by_keys_below says anchors chain (anchor_of chain anchors anchor))
by_shape anchors table says chain (Err fault) = refl

of_chain : (anchors : List CertView) (table : Table) (says : Says) (bytes : List ℕ) (chain : List CertView) → read_file bytes ≡ Ok chain
    → judged_of anchors table says bytes ≡ judged_chain anchors table says chain
unfolding judged_of
of_chain anchors table says bytes chain e = rw e (by_shape anchors table says chain (shape_of chain anchors))

of_refused : (anchors : List CertView) (table : Table) (says : Says) (bytes : List ℕ) (place : ℕ) → read_file bytes ≡ Err place
    → judged_of anchors table says bytes ≡ outside_profile place
unfolding judged_of shape_of
of_refused anchors table says bytes place e = rw e refl

-- ---- of bytes

read_short : (bytes : List ℕ) (read : Result (List CertView) RefusedCertificate) → length bytes ≤ 49152 → certificates_in bytes ≡ read → read_file bytes ≡ by_number read
unfolding read_file
read_short bytes read short e = let t : nat_le (length bytes) 49152 ≡ true = grind (arith, nat_tests) in rw t (ap by_number e)

read_long : (bytes : List ℕ) → 49152 < length bytes → read_file bytes ≡ Err 0
unfolding read_file
read_long bytes long = let t : nat_le (length bytes) 49152 ≡ false = grind (arith, nat_tests) in rw t refl

pub chain_judged : (anchors : List CertView) (table : Table) (says : Says) (bytes : List ℕ) (chain : List CertView) → length bytes ≤ 49152 → certificates_in bytes ≡ Ok chain
    → judged_chain anchors table says chain ≡ judged_of anchors table says bytes
chain_judged anchors table says bytes chain short e = sym (of_chain anchors table says bytes chain (read_short bytes (Ok chain) short e))

-- nothing was asked
unasked : (place faults : ℕ) → IsJudged (outside_profile place) faults faults (outside_profile place)
unasked place faults = record { right = record { same = refl; so_far = refl; question = tt }; cause = omega arith }

refused_by : (anchors : List CertView) (table : Table) (says : Says) (bytes : List ℕ) (place faults : ℕ) (judged : JudgedView)
    → read_file bytes ≡ Err place → judged ≡ outside_profile place → IsJudged (judged_of anchors table says bytes) faults faults judged
refused_by anchors table says bytes place faults judged e j =
    let P : JudgedView → Type 0 = λ truth. IsJudged truth faults faults judged in
    let Q : JudgedView → Type 0 = λ judged. IsJudged (outside_profile place) faults faults judged in
    subst P (sym (of_refused anchors table says bytes place e)) (subst Q (sym j) (unasked place faults))

pub refused_judged : (anchors : List CertView) (table : Table) (says : Says) (bytes : List ℕ) (refused : RefusedCertificate) (faults : ℕ) (judged : JudgedView)
    → length bytes ≤ 49152 → certificates_in bytes ≡ Err refused → judged ≡ outside_profile refused.number → IsJudged (judged_of anchors table says bytes) faults faults judged
refused_judged anchors table says bytes refused faults judged short e =
    refused_by anchors table says bytes refused.number faults judged (read_short bytes (Err refused) short e)

pub long_judged : (anchors : List CertView) (table : Table) (says : Says) (bytes : List ℕ) (faults : ℕ) (judged : JudgedView)
    → 49152 < length bytes → judged ≡ outside_profile 0 → IsJudged (judged_of anchors table says bytes) faults faults judged
long_judged anchors table says bytes faults judged long = refused_by anchors table says bytes 0 faults judged (read_long bytes long)

-- ---- what holds of a path that is judged

pub path_holds : (table : Table) (chain : List CertView) (top leaf : CertView) (authority : Option ℕ) (asked : Asked) (periods : List Period) (keys : Keys)
    → length chain ≤ 6 → slice_get chain 0 ≡ Some leaf → length keys ≡ length chain → authority ≡ first_unauthorized table (links_from 1 chain top) → (asked ≢ NotAsked → authority ≡ None)
    → IsConsistent (view_of None None authority asked chain periods keys)
path_holds table chain top leaf authority asked periods keys few is count found only = record {
  few = few;
  outside = λ broken. absurd (broken refl);
  leaf = λ path. ap is_some is;
  keys = λ path. count;
  no_keys = λ none. absurd (none (record { profile = refl; shape = refl }));
  list = λ has first there. leaf_listed table chain top first (sym found ∙ has.authority) there;
  asked = λ some. record { path = record { profile = refl; shape = refl }; authority = only some };
}
