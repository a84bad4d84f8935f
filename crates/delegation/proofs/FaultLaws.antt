-- Laws of the first fault of a path: it is the fault of the shape, and the fault of the shape is the first.
use Rattle.std.proofs.Common.{◌≡◌, ℕ, zero, suc, ◌+◌, ◌-◌, ◌<◌, ◌≤◌, ◌⊎◌, inl, inr, Bool, true, false, cond, List, [], ◌∷◌, length, Option, Some, None, Result, Ok, Err, IfErr, IsErrAnd, refl, sym, ap, subst, ◌∙◌, arith}
use Rattle.std.specs.List.{slice_get}
use Rattle.std.specs.Str.{bytes_eq}
use Rattle.std.proofs.lemmas.Bool.Decides.{nat_tests}
use Rattle.std.proofs.lemmas.Option.{same_Some}
use Rattle.lists.specs.Steps.{◌>>=◌}
use Rattle.x509_profile.specs.View.{CertView}
use Rattle.delegation.specs.declared.fault.PathFault.{PathFault}
use Rattle.delegation.specs.declared.found.Shape.{Shape}
use Rattle.delegation.specs.Usage.{may_certify, may_sign}
use Rattle.delegation.specs.Path.{IsAnchor, Issues, Path, fault_at, find_anchor, is_long_enough, last_of, link_at, shape_of}
use Rattle.delegation.specs.PathFaults.{Breaks, BreaksLink, IsFirstFault, IsUnanchored, empty, leaf_use, link, no_anchor, no_issuer, other_name, rank, too_short}
use Rattle.delegation.specs.Seen.{shape_view}
use Rattle.std.proofs.lemmas.Slice.Eq.{bytes_eq-Decides}
use Rattle.delegation.proofs.FaultTests.{certifies_not, clash, find_refused, fits_means, listed_found, no_certifier, no_signer, not_enough, signs_not, too_far}
use Rattle.delegation.proofs.PathLaws.{Linked, last_found, link_found, path_found}

-- ---- places

-- a number is below another, is it, or is above it
data Order (i n : ℕ) : Type 0 where
  is_below : i < n → Order i n
  is_same : i ≡ n → Order i n
  is_above : n < i → Order i n

next_order : (i n : ℕ) → Order i n → Order (suc i) (suc n)
next_order i n (is_below l) = is_below (omega (arith, l))
next_order i n (is_same e) = is_same (ap suc e)
next_order i n (is_above l) = is_above (omega (arith, l))

order : (i n : ℕ) → Order i n
order zero zero = is_same refl
order zero (suc n) = is_below (omega arith)
order (suc i) zero = is_above (omega arith)
order (suc i) (suc n) = next_order i n (order i n)

-- the place of what is in a list is within it
within : (cs : List CertView) (i : ℕ) (c : CertView) → slice_get cs i ≡ Some c → i < length cs
within [] i c e = absurd cc
within (x ∷ cs) zero c e = omega arith
within (x ∷ cs) (suc i) c e = let l = within cs i c e in omega (arith, l)

-- ---- one certificate above another

-- with an issuer nothing is wrong
pub issues_not : (i : ℕ) (c b : CertView) (kind : ℕ) → Issues (2 + i) c b → BreaksLink i c b kind → ⊥
issues_not i c b kind s (other_name n e) = n s.names
issues_not i c b kind s (no_issuer n e) = clash (may_certify c) s.issuer (certifies_not c n)
issues_not i c b kind s (too_short most is far e) =
    let same : 2 + i - 2 ≡ i = omega arith in
    let long : is_long_enough c.path_length i ≡ true = subst (λ n. is_long_enough c.path_length n ≡ true) same s.length in
    clash (is_long_enough c.path_length i) long (too_far c.path_length most i is far)

-- what is wrong between them comes first of all that is
record LinkStops (i : ℕ) (c b : CertView) (fault : PathFault) : Type 0 where
  kind : ℕ
  is : fault_at kind (2 + i) ≡ fault
  breaks : BreaksLink i c b kind
  early : rank kind ≤ 5
  least : (k : ℕ) → BreaksLink i c b k → rank kind ≤ rank k

of_kind : (kind other k : ℕ) → k ≡ other → rank kind ≤ rank other → rank kind ≤ rank k
of_kind kind other k e l = subst (λ n. rank kind ≤ rank n) (sym e) l

least_name : (i : ℕ) (c b : CertView) (k : ℕ) → BreaksLink i c b k → rank 2 ≤ rank k
least_name i c b k (other_name n e) = of_kind 2 2 k e (omega arith)
least_name i c b k (no_issuer n e) = of_kind 2 3 k e (omega arith)
least_name i c b k (too_short most is far e) = of_kind 2 4 k e (omega arith)

least_issuer : (i : ℕ) (c b : CertView) → c.subject ≡ b.issuer → (k : ℕ) → BreaksLink i c b k → rank 3 ≤ rank k
least_issuer i c b names k (other_name n e) = absurd (n names)
least_issuer i c b names k (no_issuer n e) = of_kind 3 3 k e (omega arith)
least_issuer i c b names k (too_short most is far e) = of_kind 3 4 k e (omega arith)

least_length : (i : ℕ) (c b : CertView) → c.subject ≡ b.issuer → may_certify c ≡ true → (k : ℕ) → BreaksLink i c b k → rank 4 ≤ rank k
least_length i c b names may k (other_name n e) = absurd (n names)
least_length i c b names may k (no_issuer n e) = clash (may_certify c) may (certifies_not c n)
least_length i c b names may k (too_short most is far e) = of_kind 4 4 k e (omega arith)

link_refused : (i : ℕ) (c b : CertView) (fault : PathFault) → link_at (2 + i) b c ≡ Err fault → LinkStops i c b fault
unfolding link_at
link_refused i c b fault e = of (bytes_eq c.subject b.issuer) (may_certify c) (is_long_enough c.path_length (2 + i - 2)) refl refl refl e
  where
    of : (x y z : Bool) → bytes_eq c.subject b.issuer ≡ x → may_certify c ≡ y → is_long_enough c.path_length (2 + i - 2) ≡ z
        → ◌≡◌ {A = Result CertView PathFault} (cond x (cond y (cond z (Ok c) (Err (fault_at 4 (2 + i)))) (Err (fault_at 3 (2 + i)))) (Err (fault_at 2 (2 + i)))) (Err fault)
        → LinkStops i c b fault
    of true true true n m l e = absurd cc
    of true true false n m l e =
        let made : fault_at 4 (2 + i) ≡ fault = cc in
        let names : c.subject ≡ b.issuer = (bytes_eq-Decides c.subject b.issuer).0 n in
        let near : 2 + i - 2 ≡ i = omega arith in
        let far = not_enough c.path_length i (subst (λ k. is_long_enough c.path_length k ≡ false) near l) in
        record { kind = 4; is = made; breaks = too_short far.0 far.1 far.2 refl; early = omega arith; least = least_length i c b names m }
    of true false z n m l e =
        let made : fault_at 3 (2 + i) ≡ fault = cc in
        let names : c.subject ≡ b.issuer = (bytes_eq-Decides c.subject b.issuer).0 n in
        record { kind = 3; is = made; breaks = no_issuer (no_certifier c m) refl; early = omega arith; least = least_issuer i c b names }
    of false y z n m l e =
        let made : fault_at 2 (2 + i) ≡ fault = cc in
        record {
          kind = 2;
          is = made;
          breaks = other_name (λ names. clash (bytes_eq c.subject b.issuer) ((bytes_eq-Decides c.subject b.issuer).1 names) n) refl;
          early = omega arith;
          least = least_name i c b;
        }

-- ---- all that are above the leaf

-- up to a place each is the issuer of the one before it; the second of these is certificate i
abbrev LinkedTo : ℕ → ℕ → List CertView → Type 0
LinkedTo n i cs = (k : ℕ) → k < n → (c b : CertView) → slice_get cs (suc k) ≡ Some c → slice_get cs k ≡ Some b → Issues (i + k) c b

linked_none : (i : ℕ) (cs : List CertView) → LinkedTo 0 i cs
linked_none i cs k l c b e f = absurd (omega (arith, l))

linked_next : (n i : ℕ) (below c : CertView) (cs : List CertView) → Issues i c below → LinkedTo n (suc i) (c ∷ cs) → LinkedTo (suc n) i (below ∷ c ∷ cs)
linked_next n i below c cs s l zero m d b e f =
    let same : i ≡ i + 0 = omega arith in
    subst (λ n. Issues n d b) same (subst (λ d. Issues i d b) (same_Some c d e) (subst (λ b. Issues i c b) (same_Some below b f) s))
linked_next n i below c cs s l (suc k) m d b e f =
    let same : suc i + k ≡ i + suc k = omega arith in
    subst (λ n. Issues n d b) same (l k (omega (arith, m)) d b e f)

-- the walk up stops at a link, and those before it hold
record StopsAt (i : ℕ) (cs : List CertView) (fault : PathFault) : Type 0 where
  passed : ℕ
  upper : CertView
  lower : CertView
  is_upper : slice_get cs (suc passed) ≡ Some upper
  is_lower : slice_get cs passed ≡ Some lower
  refused : link_at (i + passed) lower upper ≡ Err fault
  linked : LinkedTo passed i cs

abbrev refused_link : PathFault → Result CertView PathFault
refused_link fault = Err fault

last_refused : (i : ℕ) (below : CertView) (cs : List CertView) (fault : PathFault) → last_of i below cs ≡ Err fault → StopsAt i (below ∷ cs) fault
unfolding last_of
last_refused i below [] fault e = absurd cc
last_refused i below (c ∷ cs) fault e = of (last_refused (suc i) c cs fault) (link_at i below c) refl e
  where
    of : (last_of (suc i) c cs ≡ Err fault → StopsAt (suc i) (c ∷ cs) fault) → (r : Result CertView PathFault) → link_at i below c ≡ r
        → (r >>= λ c. last_of (suc i) c cs) ≡ Err fault → StopsAt i (below ∷ c ∷ cs) fault
    of again (Ok d) k e =
        let s = link_found i below c d k in
        let g = again (ap (λ d. last_of (suc i) d cs) s.1 ∙ e) in
        let near : suc i + g.passed ≡ i + suc g.passed = omega arith in
        record {
          passed = suc g.passed;
          upper = g.upper;
          lower = g.lower;
          is_upper = g.is_upper;
          is_lower = g.is_lower;
          refused = subst (λ n. link_at n g.lower g.upper ≡ Err fault) near g.refused;
          linked = linked_next g.passed i below c cs s.0 g.linked;
        }
    of again (Err x) k e =
        let same : x ≡ fault = cc in
        let near : i ≡ i + 0 = omega arith in
        record {
          passed = 0;
          upper = c;
          lower = below;
          is_upper = refl;
          is_lower = refl;
          refused = subst (λ n. link_at n below c ≡ Err fault) near (k ∙ ap refused_link same);
          linked = linked_none i (below ∷ c ∷ cs);
        }

-- ---- the first fault of a chain

-- a fault at this place of this kind comes before all others
abbrev IsLeast : List CertView → List CertView → ℕ → ℕ → Type 0
IsLeast chain anchors kind place = (k p : ℕ) → Breaks chain anchors k p → (place < p) ⊎ ((place ≡ p) × (rank kind ≤ rank k))

empty_least : (anchors : List CertView) → IsLeast [] anchors 1 0
empty_least anchors k p (empty e f g) = inr (sym g, of_kind 1 1 k f (omega arith))
empty_least anchors k p (leaf_use leaf is n f g) = absurd cc
empty_least anchors k p (link i c b up low x g) = absurd cc
empty_least anchors k p (no_anchor below last count is none f g) = absurd cc

-- a fault of an anchor comes after one of the leaf
leaf_or_anchor : (n k p : ℕ) → k ≡ 5 → p ≡ suc n → Order 1 (suc n) → (1 < p) ⊎ ((1 ≡ p) × (rank 6 ≤ rank k))
leaf_or_anchor n k p f g (is_below l) = inl (omega (arith, g, l))
leaf_or_anchor n k p f g (is_same e) = inr (omega (arith, g, e), of_kind 6 5 k f (omega arith))
leaf_or_anchor n k p f g (is_above l) = absurd (omega (arith, l))

leaf_least : (leaf : CertView) (above anchors : List CertView) → IsLeast (leaf ∷ above) anchors 6 1
leaf_least leaf above anchors k p (empty e f g) = absurd cc
leaf_least leaf above anchors k p (leaf_use one is n f g) = inr (sym g, of_kind 6 6 k f (omega arith))
leaf_least leaf above anchors k p (link i c b up low x g) = inl (omega (arith, g))
leaf_least leaf above anchors k p (no_anchor below last count is none f g) = leaf_or_anchor below k p f g (order 1 (suc below))

-- another link is no earlier than the one at which the walk stops
link_or_link : (leaf : CertView) (above : List CertView) (fault : PathFault) (s : StopsAt 2 (leaf ∷ above) fault) (l : LinkStops s.passed s.upper s.lower fault)
    → (i : ℕ) (c b : CertView) (k p : ℕ) → slice_get (leaf ∷ above) (suc i) ≡ Some c → slice_get (leaf ∷ above) i ≡ Some b → BreaksLink i c b k → p ≡ 2 + i
    → Order i s.passed → (2 + s.passed < p) ⊎ ((2 + s.passed ≡ p) × (rank l.kind ≤ rank k))
link_or_link leaf above fault s l i c b k p up low x g (is_below m) = absurd (issues_not i c b k (s.linked i m c b up low) x)
link_or_link leaf above fault s l i c b k p up low x g (is_same e) =
    let is_c : c ≡ s.upper = same_Some c s.upper (sym up ∙ (ap (λ n. slice_get (leaf ∷ above) (suc n)) e ∙ s.is_upper)) in
    let is_b : b ≡ s.lower = same_Some b s.lower (sym low ∙ (ap (slice_get (leaf ∷ above)) e ∙ s.is_lower)) in
    let here : BreaksLink s.passed s.upper s.lower k =
    subst (λ n. BreaksLink n s.upper s.lower k) e (subst (λ b. BreaksLink i s.upper b k) is_b (subst (λ c. BreaksLink i c b k) is_c x)) in
    inr (omega (arith, g, e), l.least k here)
link_or_link leaf above fault s l i c b k p up low x g (is_above m) = inl (omega (arith, g, m))

-- nor is the fault of an anchor
link_or_anchor : (passed n kind k p : ℕ) → suc passed < suc n → rank kind ≤ 5 → k ≡ 5 → p ≡ suc n → Order (2 + passed) (suc n)
    → (2 + passed < p) ⊎ ((2 + passed ≡ p) × (rank kind ≤ rank k))
link_or_anchor passed n kind k p inside early f g (is_below l) = inl (omega (arith, g, l))
link_or_anchor passed n kind k p inside early f g (is_same e) =
    let later : rank kind ≤ rank 5 = omega (arith, early) in
    inr (omega (arith, g, e), of_kind kind 5 k f later)
link_or_anchor passed n kind k p inside early f g (is_above l) = absurd (omega (arith, inside, l))

links_least : (leaf : CertView) (above anchors : List CertView) (fault : PathFault) → may_sign leaf ≡ true → (s : StopsAt 2 (leaf ∷ above) fault)
    (l : LinkStops s.passed s.upper s.lower fault) → IsLeast (leaf ∷ above) anchors l.kind (2 + s.passed)
links_least leaf above anchors fault signs s l k p (empty e f g) = absurd cc
links_least leaf above anchors fault signs s l k p (leaf_use one is n f g) =
    clash (may_sign leaf) signs (ap may_sign (same_Some leaf one is) ∙ signs_not one n)
links_least leaf above anchors fault signs s l k p (link i c b up low x g) = link_or_link leaf above fault s l i c b k p up low x g (order i s.passed)
links_least leaf above anchors fault signs s l k p (no_anchor n last count is none f g) =
    let inside : suc s.passed < suc n = omega (arith, count, within (leaf ∷ above) (suc s.passed) s.upper s.is_upper) in
    link_or_anchor s.passed n l.kind k p inside l.early f g (order (2 + s.passed) (suc n))

anchor_least : (leaf : CertView) (above anchors : List CertView) → may_sign leaf ≡ true → Linked 2 (leaf ∷ above)
    → IsLeast (leaf ∷ above) anchors 5 (suc (length above))
anchor_least leaf above anchors signs linked k p (empty e f g) = absurd cc
anchor_least leaf above anchors signs linked k p (leaf_use one is n f g) =
    clash (may_sign leaf) signs (ap may_sign (same_Some leaf one is) ∙ signs_not one n)
anchor_least leaf above anchors signs linked k p (link i c b up low x g) = absurd (issues_not i c b k (linked i c b up low) x)
anchor_least leaf above anchors signs linked k p (no_anchor n last count is none f g) =
    inr (omega (arith, count, g), of_kind 5 5 k f (omega arith))

-- the fault comes first
abbrev IsFirst : List CertView → List CertView → PathFault → Type 0
IsFirst chain anchors fault = IsFirstFault chain anchors fault.kind fault.place

links_first : (leaf : CertView) (above anchors : List CertView) (fault : PathFault) → may_sign leaf ≡ true → last_of 2 leaf above ≡ Err fault
    → IsFirst (leaf ∷ above) anchors fault
links_first leaf above anchors fault signs e =
    let s = last_refused 2 leaf above fault e in
    let l = link_refused s.passed s.upper s.lower fault s.refused in
    subst (IsFirst (leaf ∷ above) anchors) l.is (record {
      breaks = link s.passed s.upper s.lower s.is_upper s.is_lower l.breaks refl;
      least = links_least leaf above anchors fault signs s l;
    })

anchor_first : (leaf : CertView) (above anchors : List CertView) (last : CertView) (fault : PathFault) → may_sign leaf ≡ true → last_of 2 leaf above ≡ Ok last
    → find_anchor (suc (length above)) last anchors ≡ Err fault → IsFirst (leaf ∷ above) anchors fault
anchor_first leaf above anchors last fault signs e f =
    let w = last_found 2 leaf last above e in
    let r = find_refused (length above) last anchors fault f in
    subst (IsFirst (leaf ∷ above) anchors) r.0 (record {
      breaks = no_anchor (length above) last refl w.0 r.1 refl refl;
      least = anchor_least leaf above anchors signs w.1;
    })

-- the fault of the shape is the first
pub fault_found : (chain anchors : List CertView) (fault : PathFault) → shape_of chain anchors ≡ Err fault → IsFirstFault chain anchors fault.kind fault.place
unfolding shape_of
fault_found [] anchors fault e =
    let same : fault_at 1 0 ≡ fault = cc in
    subst (IsFirst [] anchors) same (record { breaks = empty refl refl refl; least = empty_least anchors })
fault_found (leaf ∷ above) anchors fault e = of (may_sign leaf) refl e
  where
    walked : (r : Result CertView PathFault) → last_of 2 leaf above ≡ r → may_sign leaf ≡ true
        → (r >>= λ last. find_anchor (suc (length above)) last anchors) ≡ Err fault → IsFirstFault (leaf ∷ above) anchors fault.kind fault.place
    walked (Ok last) is t e = anchor_first leaf above anchors last fault t is e
    walked (Err x) is t e = let same : x ≡ fault = cc in links_first leaf above anchors fault t (is ∙ ap refused_link same)

    of : (t : Bool) → may_sign leaf ≡ t
        → cond t (last_of 2 leaf above >>= λ last. find_anchor (suc (length above)) last anchors) (Err (fault_at 6 1)) ≡ Err fault
        → IsFirstFault (leaf ∷ above) anchors fault.kind fault.place
    of true t e = walked (last_of 2 leaf above) refl t e
    of false t e =
        let same : fault_at 6 1 ≡ fault = cc in
        subst (IsFirst (leaf ∷ above) anchors) same (record { breaks = leaf_use leaf refl (no_signer leaf t) refl refl; least = leaf_least leaf above anchors })

-- ---- a path has no fault

anchored_not : (n : ℕ) (last : CertView) (anchors : List CertView) (a : Option ℕ) → IsAnchor (suc n) last anchors a → IsUnanchored n last anchors → ⊥
anchored_not n last anchors None t none = let f = listed_found last anchors t in none f.0 f.1 f.2 (inl f.3)
anchored_not n last anchors (Some i) (t, anchor, there, fit, before) none = none i anchor there (inr (fits_means n last anchor fit))

pub path_sound : (chain anchors : List CertView) (a : Option ℕ) → Path chain anchors a → (kind place : ℕ) → Breaks chain anchors kind place → ⊥
path_sound chain anchors a path kind place (empty e f g) =
    let is : slice_get [] 0 ≡ Some path.leaf = subst (λ (chain : List CertView). slice_get chain 0 ≡ Some path.leaf) e path.is_leaf in
    absurd cc
path_sound chain anchors a path kind place (leaf_use leaf is n f g) =
    let same : leaf ≡ path.leaf = same_Some leaf path.leaf (sym is ∙ path.is_leaf) in
    clash (may_sign leaf) (ap may_sign same ∙ path.leaf_use) (signs_not leaf n)
path_sound chain anchors a path kind place (link i c b up low x g) = issues_not i c b kind (path.issued i c b up low) x
path_sound chain anchors a path kind place (no_anchor n last count is none f g) =
    let other = path.count in
    let size : path.below ≡ n = omega (arith, count, other) in
    let one : path.last ≡ last = same_Some path.last last (sym path.is_last ∙ (ap (slice_get chain) size ∙ is)) in
    let there : IsAnchor (suc n) path.last anchors a = subst (λ m. IsAnchor (suc m) path.last anchors a) size path.anchored in
    anchored_not n last anchors a (subst (λ c. IsAnchor (suc n) c anchors a) one there) none

-- ---- there is one first fault

link_kind : (i : ℕ) (c b : CertView) (kind : ℕ) → BreaksLink i c b kind → (1 ≤ kind) × (kind ≤ 6)
link_kind i c b kind (other_name n e) = (omega (arith, e), omega (arith, e))
link_kind i c b kind (no_issuer n e) = (omega (arith, e), omega (arith, e))
link_kind i c b kind (too_short most is far e) = (omega (arith, e), omega (arith, e))

some_kind : (chain anchors : List CertView) (kind place : ℕ) → Breaks chain anchors kind place → (1 ≤ kind) × (kind ≤ 6)
some_kind chain anchors kind place (empty e f g) = (omega (arith, f), omega (arith, f))
some_kind chain anchors kind place (leaf_use leaf is n f g) = (omega (arith, f), omega (arith, f))
some_kind chain anchors kind place (link i c b up low x g) = link_kind i c b kind x
some_kind chain anchors kind place (no_anchor n last count is none f g) = (omega (arith, f), omega (arith, f))

same_rank : (k l : ℕ) → 1 ≤ k → k ≤ 6 → 1 ≤ l → l ≤ 6 → rank k ≤ rank l → rank l ≤ rank k → k ≡ l
same_rank k l a b c d e f = grind (arith, nat_tests)

one_first : (chain anchors : List CertView) (k p l q : ℕ) → IsFirstFault chain anchors k p → IsFirstFault chain anchors l q → (k ≡ l) × (p ≡ q)
one_first chain anchors k p l q f g = of (f.least l q g.breaks) (g.least k p f.breaks)
  where
    of : (p < q) ⊎ ((p ≡ q) × (rank k ≤ rank l)) → (q < p) ⊎ ((q ≡ p) × (rank l ≤ rank k)) → (k ≡ l) × (p ≡ q)
    of (inl a) (inl b) = absurd (omega (arith, a, b))
    of (inl a) (inr b) = absurd (omega (arith, a, b.0))
    of (inr a) (inl b) = absurd (omega (arith, a.0, b))
    of (inr a) (inr b) =
        let m = some_kind chain anchors k p f.breaks in
        let n = some_kind chain anchors l q g.breaks in
        (same_rank k l m.0 m.1 n.0 n.1 a.1 b.1, a.0)

abbrev refused_shape : PathFault → Result (Option ℕ) PathFault
refused_shape fault = Err fault

-- the first fault is that of the shape
pub fault_again : (chain anchors : List CertView) (kind place : ℕ) → IsFirstFault chain anchors kind place → shape_of chain anchors ≡ Err (fault_at kind place)
fault_again chain anchors kind place f = of (shape_of chain anchors) refl
  where
    of : (r : Result (Option ℕ) PathFault) → shape_of chain anchors ≡ r → r ≡ Err (fault_at kind place)
    of (Ok a) e = absurd (path_sound chain anchors a (path_found chain anchors a e) kind place f.breaks)
    of (Err fault) e =
        let one = one_first chain anchors fault.kind fault.place kind place (fault_found chain anchors fault e) f in
        let same : fault ≡ fault_at kind place = ap (λ k. fault_at k fault.place) one.0 ∙ ap (fault_at kind) one.1 in
        ap refused_shape same

-- ---- of an answer

pub answer_fault : (chain anchors : List CertView) (r : Result Shape PathFault) → shape_view r ≡ shape_of chain anchors
    → IfErr r (λ fault. IsFirstFault chain anchors fault.kind fault.place)
answer_fault chain anchors (Ok shape) e = tt
answer_fault chain anchors (Err fault) e = fault_found chain anchors fault (sym e)

pub answer_only_fault : (chain anchors : List CertView) (r : Result Shape PathFault) (kind place : ℕ) → shape_view r ≡ shape_of chain anchors
    → IsFirstFault chain anchors kind place → IsErrAnd r (λ fault. (fault.kind ≡ kind) × (fault.place ≡ place))
answer_only_fault chain anchors (Ok shape) kind place e f =
    let is : ◌≡◌ {A = Result (Option ℕ) PathFault} (Ok shape.anchor) (Err (fault_at kind place)) = e ∙ fault_again chain anchors kind place f in
    absurd cc
answer_only_fault chain anchors (Err fault) kind place e f =
    let is : ◌≡◌ {A = Result (Option ℕ) PathFault} (Err fault) (Err (fault_at kind place)) = e ∙ fault_again chain anchors kind place f in
    let same : fault ≡ fault_at kind place = cc in
    (ap (λ (x : PathFault). x.kind) same, ap (λ (x : PathFault). x.place) same)
