-- Certificates one after another are read as they are, and reading ends at the first that is refused.
use Rattle.std.proofs.Common.{◌≡◌, ℕ, zero, suc, ◌+◌, ◌-◌, ◌≤◌, ◌==◌, Bool, true, false, cond, List, [], ◌∷◌, ◌++◌, length, Result, Ok, Err, refl, sym, ◌∙◌, ap, subst, arith, ◌⊎◌, inl, inr, append_assoc, append-nil, length-append}
use Rattle.std.proofs.lemmas.Bool.Decides.{nat_tests}
use Rattle.std.proofs.lemmas.Grind.{flat_map-append}
use Rattle.lists.proofs.Bytes.{no_byte}
use Rattle.lists.proofs.StepLaws.{after, came, inside}
use Rattle.der_reader.specs.Elem.{AllBytes}
use Rattle.der_reader.specs.Next.{header_at, next_at}
use Rattle.der_reader.specs.Part.{item_at, whole_text}
use Rattle.der_reader.specs.declared.part.Fault.{Fault}
use Rattle.der_reader.specs.Tags.{sequence_tag}
use Rattle.der_reader.proofs.PartLaws.{item_found, item_stands}
use Rattle.x509_profile.specs.Cert.{Cert}
use Rattle.x509_profile.specs.Read.{read_certificate}
use Rattle.x509_profile.specs.View.{CertView}
use Rattle.x509_profile.specs.Chain.{AreCerts, BeginsWithCerts, Chain, EndsAt, EndsWhereRefused, GivesChain, HasNoFront, RefusedCertificate, Whole, certificates_from, certificates_in, ended, front, joined, refused_at}
use Rattle.x509_profile.specs.declared.chain.CertChainFault.{CertChainFault}
use Rattle.x509_profile.specs.declared.chain.CertChainFault.TheVariants.{At, Memory}
use Rattle.x509_profile.proofs.CertLaws.{cert_again, cert_found, whole_is}

-- ---- one certificate

-- the certificate that the bytes begin with and what comes after it, which is bytes
abbrev Fronts : List ℕ → CertView × List ℕ → Type 0
Fronts bytes found = Cert found.0.whole found.0 × (bytes ≡ found.0.whole ++ found.1) × AllBytes found.1

front_found : (bytes : List ℕ) (found : CertView × List ℕ) → AllBytes bytes → front bytes ≡ Ok found → Fronts bytes found
unfolding front
front_found bytes found typed e =
    let item = came (item_at (whole_text bytes)) _ found e in
    let begins = item_found (whole_text bytes) item.0 typed item.1 in
    let read = came (read_certificate item.0.whole) _ found item.2 in
    let cert = cert_found item.0.whole read.0 begins.whole_bytes read.1 in
    let whole : read.0.whole ≡ item.0.whole = whole_is item.0.whole read.0 cert in
    subst (Fronts bytes) (inside (read.0, item.0.behind.left) found read.2) (rw whole cert, rw whole begins.split, begins.behind_bytes)

front_again : (certificate : CertView) (rest : List ℕ) → Cert certificate.whole certificate → front (certificate.whole ++ rest) ≡ Ok (certificate, rest)
unfolding front
front_again certificate rest cert =
    after (item_at (whole_text (certificate.whole ++ rest))) _ _ _ (item_stands sequence_tag certificate.whole _ rest 0 cert.elem)
    (after (read_certificate certificate.whole) certificate _ _ (cert_again certificate.whole certificate cert) refl)

-- if none is read, the bytes begin with none
front_none : (bytes : List ℕ) (fault : Fault) → front bytes ≡ Err fault → HasNoFront bytes
front_none bytes fault none certificate rest cert split =
    let k : front bytes ≡ Ok (certificate, rest) = ap front split ∙ front_again certificate rest cert in absurd (cc none)

-- ---- all of them

-- what reading gives is so
abbrev IsRight : List ℕ → Result (List CertView) RefusedCertificate → Type 0
IsRight bytes (Ok certificates) = Chain bytes certificates
IsRight bytes (Err refused) = EndsAt bytes refused

right_ended : (bytes : List ℕ) (before : List CertView) (b : BeginsWithCerts bytes before) (none : Bool) → length b.behind == 0 ≡ none → (length before ≡ 6) ⊎ HasNoFront b.behind
    → IsRight bytes (cond none (Ok before) (Err (refused_at (length before + 1) (length bytes - length b.behind))))
right_ended bytes before b true e stop =
    record { text = b.split ∙ ap (λ left. joined before ++ left) (no_byte b.behind e) ∙ append-nil (joined before); each = b.each; most = b.most }
right_ended bytes before b false e stop = record {
  before = before;
  behind = b.behind;
  split = b.split;
  each = b.each;
  number_is = omega arith;
  place_is = omega (arith, ap length b.split, length-append (joined before) b.behind);
  some = grind (arith, nat_tests);
  bad = stop;
  most = b.most;
}

certs_more : (before : List CertView) (certificate : CertView) → AreCerts before → Cert certificate.whole certificate → AreCerts (before ++ certificate ∷ [])
certs_more [] certificate each cert = (cert, tt)
certs_more (first ∷ others) certificate each cert = (each.0, certs_more others certificate each.1 cert)

joined_more : (before : List CertView) (certificate : CertView) (rest : List ℕ) → joined (before ++ certificate ∷ []) ++ rest ≡ joined before ++ (certificate.whole ++ rest)
joined_more before certificate rest =
    ap (λ w. w ++ rest) (flat_map-append _ before (certificate ∷ []) ∙ ap (λ w. joined before ++ w) (append-nil certificate.whole)) ∙ append_assoc (joined before) certificate.whole rest

is_right : (bytes : List ℕ) (room : ℕ) (before : List CertView) (b : BeginsWithCerts bytes before) → AllBytes b.behind → length before + room ≡ 6
    → IsRight bytes (certificates_from bytes room before b.behind)
is_right bytes zero before b typed count = right_ended bytes before b (length b.behind == 0) refl (inl (omega (arith, count)))
is_right bytes (suc room) before b typed count = (elim (front b.behind) as (λ read. front b.behind ≡ read → IsRight bytes (certificates_from bytes (suc room) before b.behind)) [
  | Ok found ↦ λ e.
      let (cert, split, left) = front_found b.behind found typed e in
      let more : length (before ++ found.0 ∷ []) + room ≡ 6 = omega (arith, count, length-append before (found.0 ∷ [])) in
      rw (e, IsRight, certificates_from) (is_right bytes room (before ++ found.0 ∷ []) (record {
        behind = found.1;
        split = b.split ∙ (ap (λ left. joined before ++ left) split ∙ sym (joined_more before found.0 found.1));
        each = certs_more before found.0 b.each cert;
        most = omega (arith, more);
      }) left more)
  | Err fault ↦ λ e. rw (e, IsRight, certificates_from) (right_ended bytes before b (length b.behind == 0) refl (inr (front_none b.behind fault e)))
]) refl

again : (bytes : List ℕ) (room : ℕ) (before others : List CertView) → AreCerts others → length others ≤ room → certificates_from bytes room before (joined others) ≡ Ok (before ++ others)
unfolding front item_at next_at header_at
again bytes zero before [] each most = ap (λ all. Ok all) (sym (append-nil before))
again bytes (suc room) before [] each most = ap (λ all. Ok all) (sym (append-nil before))
again bytes zero before (certificate ∷ others) each most = absurd (omega (arith, most))
again bytes (suc room) before (certificate ∷ others) each most =
    rw (front_again certificate (joined others) each.0, certificates_from)
    (again bytes room (before ++ certificate ∷ []) others each.1 (omega (arith, most)) ∙ ap (λ all. Ok all) (append_assoc before (certificate ∷ []) others))

-- ---- the laws

chain_right : (bytes : List ℕ) → AllBytes bytes → IsRight bytes (certificates_in bytes)
unfolding certificates_in
chain_right bytes typed = is_right bytes 6 [] (record { behind = bytes; split = refl; each = tt; most = omega arith }) typed refl

pub chain_again : (bytes : List ℕ) (certificates : List CertView) → Chain bytes certificates → certificates_in bytes ≡ Ok certificates
unfolding certificates_in
chain_again bytes certificates chain = ap (certificates_from bytes 6 []) chain.text ∙ again bytes 6 [] certificates chain.each chain.most

pub chain_found : (bytes : List ℕ) (certificates : List CertView) → AllBytes bytes → certificates_in bytes ≡ Ok certificates → Chain bytes certificates
chain_found bytes certificates typed e = subst (IsRight bytes) e (chain_right bytes typed)

pub chain_ends : (bytes : List ℕ) (refused : RefusedCertificate) → AllBytes bytes → certificates_in bytes ≡ Err refused → EndsAt bytes refused
chain_ends bytes refused typed e = subst (IsRight bytes) e (chain_right bytes typed)

-- ---- the greatest number of certificates

-- the bytes begin with no more certificates than those before a place at which none begins
fewer : (before others : List CertView) (left behind : List ℕ) → AreCerts before → AreCerts others → joined before ++ left ≡ joined others ++ behind → HasNoFront left
    → length others ≤ length before
fewer before [] left behind b o e none = omega arith
fewer [] (c ∷ others) left behind b o e none = absurd (none c (joined others ++ behind) o.0 (e ∙ append_assoc c.whole (joined others) behind))
fewer (b ∷ before) (c ∷ others) left behind bs os e none =
    let one = front_again b (joined before ++ left) bs.0 in
    let two = front_again c (joined others ++ behind) os.0 in
    let bytes = sym (append_assoc b.whole (joined before) left) ∙ (e ∙ append_assoc c.whole (joined others) behind) in
    let same = ap (λ (x : CertView × List ℕ). x.1) (inside _ _ (sym one ∙ (ap front bytes ∙ two))) in
    omega (arith, fewer before others left behind bs.1 os.1 same none)

pub ends_whole : (bytes : List ℕ) (refused : RefusedCertificate) → EndsAt bytes refused → Whole bytes (refused.number - 1)
ends_whole bytes refused e = record {
  before = e.before;
  begins = record { behind = e.behind; split = e.split; each = e.each; most = e.most };
  counted = omega (arith, e.number_is);
  greatest = λ others begins. elim e.bad [
    | inl six ↦ omega (arith, six, begins.most, e.number_is)
    | inr none ↦ omega (arith, fewer e.before others e.behind begins.behind e.each begins.each (sym e.split ∙ begins.split) none, e.number_is)
  ];
}

-- ---- the same of an answer that refuses

pub answer_ends : {X : Type 0} (seen : X → List CertView) (bytes : List ℕ) (r : Result X CertChainFault) → AllBytes bytes → GivesChain seen r (certificates_in bytes) → EndsWhereRefused bytes r
answer_ends seen bytes (Ok x) typed e = tt
answer_ends seen bytes (Err (At number place)) typed e =
    let ends = chain_ends bytes (refused_at number place) typed e in
    (ends, ends_whole bytes (refused_at number place) ends, omega (arith, ends.number_is, ends.most))
answer_ends seen bytes (Err Memory) typed e = tt

-- ---- one certificate more, or none

pub one_more : (bytes left rest : List ℕ) (items : List CertView) (certificate : CertView) (room less : ℕ) → room ≡ less + 1 → front left ≡ Ok (certificate, rest)
    → certificates_from bytes room items left ≡ certificates_from bytes less (items ++ certificate ∷ []) rest
one_more bytes left rest items certificate zero less more e = absurd (omega (arith, more))
one_more bytes left rest items certificate (suc room) less more e =
    let same : less ≡ room = omega (arith, more) in rw same (rw (e, certificates_from) refl)

pub none_more : (bytes left : List ℕ) (items : List CertView) (room : ℕ) (fault : Fault) → front left ≡ Err fault → certificates_from bytes room items left ≡ ended bytes items left
none_more bytes left items zero fault e = refl
none_more bytes left items (suc room) fault e = rw (e, certificates_from) refl
