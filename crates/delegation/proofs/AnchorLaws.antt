-- Laws of reading anchors: it gives those that the bytes are, and those that they are are what it gives.
use Rattle.std.proofs.Common.{◌≡◌, ℕ, zero, suc, ◌-◌, ◌<◌, ◌≤◌, ◌==◌, Bool, true, false, cond, List, [], ◌∷◌, ◌++◌, length, Result, Ok, Err, refl, sym, ap, subst, ◌∙◌, length-append, arith}
use Rattle.std.proofs.lemmas.Bool.Decides.{nat_tests}
use Rattle.lists.specs.Steps.{◌>>=◌}
use Rattle.lists.proofs.Bytes.{no_byte}
use Rattle.lists.proofs.StepLaws.{came, inside}
use Rattle.der_reader.specs.declared.fault.DerFault.{DerFault}
use Rattle.der_reader.specs.Elem.{AllBytes, BeginsWith, Element}
use Rattle.der_reader.specs.Next.{next_at}
use Rattle.der_reader.specs.Tags.{sequence_tag}
use Rattle.der_reader.proofs.NextLaws.{all_front, next_found, next_again, parts_are_bytes}
use Rattle.x509_profile.specs.View.{CertView}
use Rattle.x509_profile.specs.Cert.{Cert}
use Rattle.x509_profile.specs.Read.{read_certificate}
use Rattle.x509_profile.proofs.CertLaws.{cert_found, cert_again}
use Rattle.delegation.specs.declared.fault.AnchorFault.{AnchorFault}
use Rattle.delegation.specs.Usage.{may_certify}
use Rattle.delegation.specs.Anchors.{AnchorText, AreAnchors, Gives, anchor_at, anchor_of, anchors_at, anchors_in, as_anchor}

-- an anchor that begins there, and what comes after it
pub record Standing (bytes : List ℕ) (c : CertView) (behind : List ℕ) : Type 0 where
  pub split : bytes ≡ c.whole ++ behind
  pub cert : Cert c.whole c
  pub certifies : may_certify c ≡ true

pub anchor_found : (place : ℕ) (bytes : List ℕ) (next : CertView × List ℕ) → AllBytes bytes → anchor_at place bytes ≡ Ok next
    → Standing bytes next.0 next.1 × AllBytes next.1
unfolding anchor_at
anchor_found place bytes next b e = of (next_at bytes) refl e
  where
    certified : (t : Bool) (c : CertView) (behind : List ℕ) → may_certify c ≡ t → (begins : bytes ≡ c.whole ++ behind) → Cert c.whole c
        → AllBytes behind → ◌≡◌ {A = Result (CertView × List ℕ) ℕ} (cond t (Ok (c, behind)) (Err place)) (Ok next)
        → Standing bytes next.0 next.1 × AllBytes next.1
    certified true c behind t begins cert b e =
        let same : (c, behind) ≡ next = inside _ _ e in
        let P : CertView × List ℕ → Type 0 = λ n. Standing bytes n.0 n.1 × AllBytes n.1 in
        subst P same (record { split = begins; cert = cert; certifies = t }, b)
    certified false c behind t begins cert b e = cc

    read : {E : Type 0} (found : Element × List ℕ) (r : Result CertView E) → BeginsWith bytes found.0 found.1
        → ((c : CertView) → r ≡ Ok c → Cert found.0.whole c) → as_anchor place found.1 r ≡ Ok next
        → Standing bytes next.0 next.1 × AllBytes next.1
    read found (Ok c) begins cert e =
        let is : Cert found.0.whole c = cert c refl in
        let whole : c.whole ≡ found.0.whole = ap (λ (c : CertView). c.whole) is.says in
        certified (may_certify c) c found.1 refl (begins.split ∙ ap (λ w. w ++ found.1) (sym whole)) (subst (λ w. Cert w c) (sym whole) is) (parts_are_bytes bytes found.0 found.1 b begins).1 e
    read found (Err x) begins cert e = cc

    of : (r : Result (Element × List ℕ) DerFault) → next_at bytes ≡ r → anchor_of place r ≡ Ok next
        → Standing bytes next.0 next.1 × AllBytes next.1
    of (Ok found) is e =
        let begins : BeginsWith bytes found.0 found.1 = next_found bytes found b is in
        read found (read_certificate found.0.whole) begins
        (λ c k. cert_found found.0.whole c (all_front found.0.whole found.1 (subst AllBytes begins.split b)) k) e
    of (Err x) is e = cc

pub anchor_again : (place : ℕ) (c : CertView) (behind : List ℕ) → Cert c.whole c → may_certify c ≡ true
    → anchor_at place (c.whole ++ behind) ≡ Ok (c, behind)
unfolding anchor_at
anchor_again place c behind cert t =
    let element : Element = record { tag = sequence_tag; whole = c.whole; content = _ } in
    let next : next_at (c.whole ++ behind) ≡ Ok (element, behind) = next_again (c.whole ++ behind) element behind (record { elem = cert.elem; split = refl }) in
    rw (next, cert_again c.whole c cert, t) refl

pub some_bytes : (c : CertView) (behind : List ℕ) → Cert c.whole c → length (c.whole ++ behind) == 0 ≡ false
some_bytes c behind cert =
    let size = ap length cert.elem.text in
    let more = length-append c.whole behind in
    let some : 0 < length (c.whole ++ behind) = omega (arith, size, more) in
    grind (arith, nat_tests, some)

all_found : (all : List ℕ) (room : ℕ) (rest : List ℕ) (cs : List CertView) → AllBytes rest → anchors_at all room rest ≡ Ok cs
    → (length cs ≤ room) × AreAnchors cs rest
unfolding anchors_at
all_found all zero rest cs b e = of (length rest == 0) refl e
  where
    of : (t : Bool) → length rest == 0 ≡ t → ◌≡◌ {A = Result (List CertView) ℕ} (cond t (Ok []) (Err (length all - length rest))) (Ok cs)
        → (length cs ≤ zero) × AreAnchors cs rest
    of true t e =
        let same : [] ≡ cs = inside _ _ e in
        subst (λ cs. (length cs ≤ zero) × AreAnchors cs rest) same (omega arith, no_byte rest t)
    of false t e = cc
all_found all (suc room) rest cs b e = of (λ rest cs b e. all_found all room rest cs b e) (length rest == 0) refl e
  where
    of : ((rest : List ℕ) (cs : List CertView) → AllBytes rest → anchors_at all room rest ≡ Ok cs → (length cs ≤ room) × AreAnchors cs rest)
        → (t : Bool) → length rest == 0 ≡ t
        → cond t (Ok []) (anchor_at (length all - length rest) rest >>= λ next. anchors_at all room next.1 >>= λ more. Ok (next.0 ∷ more)) ≡ Ok cs
        → (length cs ≤ suc room) × AreAnchors cs rest
    of again true t e =
        let same : [] ≡ cs = inside _ _ e in
        subst (λ cs. (length cs ≤ suc room) × AreAnchors cs rest) same (omega arith, no_byte rest t)
    of again false t e =
        let n = came (anchor_at (length all - length rest) rest) _ cs e in
        let m = came (anchors_at all room n.0.1) _ cs n.2 in
        let s = anchor_found (length all - length rest) rest n.0 b n.1 in
        let k = again n.0.1 m.0 s.1 m.1 in
        let same : n.0.0 ∷ m.0 ≡ cs = inside _ _ m.2 in
        subst (λ cs. (length cs ≤ suc room) × AreAnchors cs rest) same
        (omega (arith, k.0), (n.0.1, s.0.split, s.0.cert, s.0.certifies, k.1))

all_again : (all : List ℕ) (room : ℕ) (rest : List ℕ) (cs : List CertView) → length cs ≤ room → AreAnchors cs rest
    → anchors_at all room rest ≡ Ok cs
unfolding anchors_at
all_again all zero rest [] l a = rw a refl
all_again all (suc room) rest [] l a = rw a refl
all_again all zero rest (c ∷ cs) l a = absurd (omega (arith, l))
all_again all (suc room) rest (c ∷ cs) l (behind, split, cert, t, more) =
    let P : List ℕ → Type 0 = λ rest. anchors_at all (suc room) rest ≡ Ok (c ∷ cs) in
    let again : anchor_at (length all - length (c.whole ++ behind)) (c.whole ++ behind) ≡ Ok (c, behind) = anchor_again _ c behind cert t in
    let next : anchors_at all room behind ≡ Ok cs = all_again all room behind cs (omega (arith, l)) more in
    subst P (sym split) (rw (some_bytes c behind cert, again, next) refl)

-- ---- of an answer

pub anchors_found : (bytes : List ℕ) (anchors : List CertView) → AllBytes bytes → anchors_in bytes ≡ Ok anchors → AnchorText bytes anchors
anchors_found bytes anchors b e =
    let k = all_found bytes 256 bytes anchors b e in
    record { most = k.0; each = k.1 }

pub anchors_again : (bytes : List ℕ) (anchors : List CertView) → AnchorText bytes anchors → anchors_in bytes ≡ Ok anchors
anchors_again bytes anchors t = all_again bytes 256 bytes anchors t.most t.each

pub one_list : (bytes : List ℕ) (a b : List CertView) → AnchorText bytes a → AnchorText bytes b → a ≡ b
one_list bytes a b x y = inside a b (sym (anchors_again bytes a x) ∙ anchors_again bytes b y)

pub answer_only : (bytes : List ℕ) (r : Result (List CertView) AnchorFault) (anchors : List CertView)
    → Gives {X = List CertView} {Y = List CertView} (λ a. a) r (anchors_in bytes) → AnchorText bytes anchors
    → Gives {X = List CertView} {Y = List CertView} (λ a. a) r (Ok anchors)
answer_only bytes r anchors e t = subst (Gives {X = List CertView} {Y = List CertView} (λ a. a) r) (anchors_again bytes anchors t) e
