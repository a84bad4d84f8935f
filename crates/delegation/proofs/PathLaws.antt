-- Laws of the shape of a path: it is that of the path that the chain is, and each path is what it gives.
use Rattle.std.proofs.Common.{◌≡◌, ℕ, zero, suc, ◌+◌, ◌-◌, ◌<◌, Bool, true, false, cond, List, [], ◌∷◌, length, Option, Some, None, Result, Ok, Err, IfOk, refl, sym, ap, subst, ◌∙◌, arith}
use Rattle.std.specs.List.{slice_get}
use Rattle.std.specs.Result.{IsOkAnd}
use Rattle.std.specs.Str.{bytes_eq}
use Rattle.std.proofs.lemmas.Option.{same_Some}
use Rattle.std.proofs.lemmas.Slice.Eq.{bytes_eq-Decides}
use Rattle.lists.specs.Steps.{◌>>=◌}
use Rattle.lists.proofs.StepLaws.{came, inside}
use Rattle.x509_profile.specs.View.{CertView}
use Rattle.delegation.specs.declared.fault.PathFault.{PathFault}
use Rattle.delegation.specs.declared.found.Shape.{Shape}
use Rattle.delegation.specs.Usage.{may_certify, may_sign}
use Rattle.delegation.specs.Path.{IsAnchor, Issues, Path, fault_at, find_anchor, first_from, fits, is_listed, is_long_enough, last_of, link_at, shape_of, some_anchor}
use Rattle.delegation.specs.Seen.{shape_view}

-- ---- one certificate above another

tests : (a b d : Bool) (i : ℕ) (c : CertView) (last : CertView)
    → ◌≡◌ {A = Result CertView PathFault} (cond a (cond b (cond d (Ok c) (Err (fault_at 4 i))) (Err (fault_at 3 i))) (Err (fault_at 2 i))) (Ok last)
    → (a ≡ true) × (b ≡ true) × (d ≡ true) × (c ≡ last)
tests true true true i c last e = (refl, refl, refl, inside _ _ e)
tests true true false i c last e = cc
tests true false d i c last e = cc
tests false b d i c last e = cc

pub link_found : (i : ℕ) (below c d : CertView) → link_at i below c ≡ Ok d → Issues i c below × (c ≡ d)
unfolding link_at
link_found i below c d e =
    let t = tests (bytes_eq c.subject below.issuer) (may_certify c) (is_long_enough c.path_length (i - 2)) i c d e in (
      record { names = (bytes_eq-Decides c.subject below.issuer).0 t.0; issuer = t.1; length = t.2 },
      t.3,
    )

link_again : (i : ℕ) (below c : CertView) → Issues i c below → link_at i below c ≡ Ok c
unfolding link_at
link_again i below c s =
    let names : bytes_eq c.subject below.issuer ≡ true = (bytes_eq-Decides c.subject below.issuer).1 s.names in
    rw (names, s.issuer, s.length) refl

-- ---- all that are above the leaf

-- each is the issuer of the one before it; the second of these is certificate i
abbrev pub Linked : ℕ → List CertView → Type 0
Linked i cs = (k : ℕ) (c b : CertView) → slice_get cs (suc k) ≡ Some c → slice_get cs k ≡ Some b → Issues (i + k) c b

linked_one : (i : ℕ) (below : CertView) → Linked i (below ∷ [])
linked_one i below k c b e f = cc

linked_more : (i : ℕ) (below c : CertView) (cs : List CertView) → Issues i c below → Linked (suc i) (c ∷ cs) → Linked i (below ∷ c ∷ cs)
linked_more i below c cs s l zero d b e f =
    let same : i ≡ i + 0 = omega arith in
    subst (λ n. Issues n d b) same (subst (λ d. Issues i d b) (same_Some c d e) (subst (λ b. Issues i c b) (same_Some below b f) s))
linked_more i below c cs s l (suc k) d b e f =
    let same : suc i + k ≡ i + suc k = omega arith in
    subst (λ n. Issues n d b) same (l k d b e f)

linked_first : (i : ℕ) (below c : CertView) (cs : List CertView) → Linked i (below ∷ c ∷ cs) → Issues i c below
linked_first i below c cs l =
    let same : i + 0 ≡ i = omega arith in
    subst (λ n. Issues n c below) same (l zero c below refl refl)

linked_rest : (i : ℕ) (below c : CertView) (cs : List CertView) → Linked i (below ∷ c ∷ cs) → Linked (suc i) (c ∷ cs)
linked_rest i below c cs l k d b e f =
    let same : i + suc k ≡ suc i + k = omega arith in
    subst (λ n. Issues n d b) same (l (suc k) d b e f)

pub last_found : (i : ℕ) (below last : CertView) (cs : List CertView) → last_of i below cs ≡ Ok last
    → (slice_get (below ∷ cs) (length cs) ≡ Some last) × Linked i (below ∷ cs)
unfolding last_of
last_found i below last [] e = (ap Some (inside below last e), linked_one i below)
last_found i below last (c ∷ cs) e =
    let a = came (link_at i below c) _ last e in
    let s = link_found i below c a.0 a.1 in
    let more : last_of (suc i) c cs ≡ Ok last = ap (λ d. last_of (suc i) d cs) s.1 ∙ a.2 in
    let k = last_found (suc i) c last cs more in
    (k.0, linked_more i below c cs s.0 k.1)

last_again : (i : ℕ) (below last : CertView) (cs : List CertView) → slice_get (below ∷ cs) (length cs) ≡ Some last → Linked i (below ∷ cs)
    → last_of i below cs ≡ Ok last
unfolding last_of
last_again i below last [] e l =
    let same : below ≡ last = same_Some below last e in
    ap (λ (c : CertView). let r : Result CertView PathFault = Ok c in r) same
last_again i below last (c ∷ cs) e l =
    let link : link_at i below c ≡ Ok c = link_again i below c (linked_first i below c cs l) in
    rw link (last_again (suc i) c last cs e (linked_rest i below c cs l))

-- ---- the first that fits

record First (test : CertView → Bool) (cs : List CertView) (k : ℕ) : Type 0 where
  found : CertView
  there : slice_get cs k ≡ Some found
  fits : test found ≡ true
  before : (j : ℕ) (other : CertView) → j < k → slice_get cs j ≡ Some other → test other ≡ false

first_here : (test : CertView → Bool) (c : CertView) (cs : List CertView) → test c ≡ true → First test (c ∷ cs) zero
first_here test c cs t = record { found = c; there = refl; fits = t; before = λ j other l e. absurd (omega (arith, l)) }

first_later : (test : CertView → Bool) (c : CertView) (cs : List CertView) (k : ℕ) → test c ≡ false → First test cs k → First test (c ∷ cs) (suc k)
first_later test c cs k t f = record { found = f.found; there = f.there; fits = f.fits; before = passed }
  where
    passed : (j : ℕ) (other : CertView) → j < suc k → slice_get (c ∷ cs) j ≡ Some other → test other ≡ false
    passed zero other l e = ap test (sym (same_Some c other e)) ∙ t
    passed (suc j) other l e = f.before j other (omega (arith, l)) e

first_found : (test : CertView → Bool) (i j : ℕ) (cs : List CertView) → first_from test i cs ≡ Some j → (k : ℕ) × (j ≡ i + k) × First test cs k
unfolding first_from
first_found test i j [] e = cc
first_found test i j (c ∷ cs) e = of (λ e. first_found test (suc i) j cs e) (test c) refl e
  where
    of : (first_from test (suc i) cs ≡ Some j → (k : ℕ) × (j ≡ suc i + k) × First test cs k)
        → (t : Bool) → test c ≡ t → cond t (Some i) (first_from test (suc i) cs) ≡ Some j → (k : ℕ) × (j ≡ i + k) × First test (c ∷ cs) k
    of again true t e =
        let same : i ≡ j = same_Some i j e in
        (zero, omega (arith, same), first_here test c cs t)
    of again false t e =
        let f = again e in
        let is = f.1 in
        (suc f.0, omega (arith, is), first_later test c cs f.0 t f.2)

first_again : (test : CertView → Bool) (i k : ℕ) (cs : List CertView) → First test cs k → first_from test i cs ≡ Some (i + k)
unfolding first_from
first_again test i k [] f = let e = f.there in cc
first_again test i zero (c ∷ cs) f =
    let t : test c ≡ true = ap test (same_Some c f.found f.there) ∙ f.fits in
    let same : i ≡ i + 0 = omega arith in
    rw t (ap Some same)
first_again test i (suc k) (c ∷ cs) f =
    let t : test c ≡ false = f.before zero c (omega arith) refl in
    let same : suc i + k ≡ i + suc k = omega arith in
    let rest : First test cs k = record { found = f.found; there = f.there; fits = f.fits; before = λ j other l e. f.before (suc j) other (omega (arith, l)) e } in
    rw t (first_again test (suc i) k cs rest ∙ ap Some same)

-- ---- the anchor

anchor_found : (n : ℕ) (last : CertView) (anchors : List CertView) (a : Option ℕ) → find_anchor n last anchors ≡ Ok a → IsAnchor n last anchors a
unfolding find_anchor
anchor_found n last anchors a e = of (is_listed last anchors) refl e
  where
    chosen : (f : Option ℕ) → first_from (fits n last) 0 anchors ≡ f → is_listed last anchors ≡ false → some_anchor n f ≡ Ok a → IsAnchor n last anchors a
    chosen (Some i) is t e =
        let f = first_found (fits n last) 0 i anchors is in
        let j = f.1 in
        let same : f.0 ≡ i = omega (arith, j) in
        let g = subst (First (fits n last) anchors) same f.2 in
        subst (IsAnchor n last anchors) (inside (Some i) a e) (t, g.found, g.there, g.fits, g.before)
    chosen None is t e = cc

    of : (t : Bool) → is_listed last anchors ≡ t → cond t (Ok None) (some_anchor n (first_from (fits n last) 0 anchors)) ≡ Ok a → IsAnchor n last anchors a
    of true t e = subst (IsAnchor n last anchors) (inside None a e) t
    of false t e = chosen (first_from (fits n last) 0 anchors) refl t e

anchor_again : (n : ℕ) (last : CertView) (anchors : List CertView) (a : Option ℕ) → IsAnchor n last anchors a → find_anchor n last anchors ≡ Ok a
unfolding find_anchor
anchor_again n last anchors None t = rw t refl
anchor_again n last anchors (Some i) (t, c, there, fit, before) =
    let f : First (fits n last) anchors i = record { found = c; there = there; fits = fit; before = before } in
    let first : first_from (fits n last) 0 anchors ≡ Some (0 + i) = first_again (fits n last) 0 i anchors f in
    let same : 0 + i ≡ i = omega arith in
    rw (t, first, same) refl

-- ---- the whole path

pub path_found : (chain anchors : List CertView) (a : Option ℕ) → shape_of chain anchors ≡ Ok a → Path chain anchors a
unfolding shape_of
path_found [] anchors a e = cc
path_found (leaf ∷ above) anchors a e = of (may_sign leaf) refl e
  where
    of : (t : Bool) → may_sign leaf ≡ t
        → cond t (last_of 2 leaf above >>= λ last. find_anchor (suc (length above)) last anchors) (Err (fault_at 6 1)) ≡ Ok a
        → Path (leaf ∷ above) anchors a
    of true t e =
        let k = came (last_of 2 leaf above) _ a e in
        let l = last_found 2 leaf k.0 above k.1 in
        record {
          leaf = leaf;
          last = k.0;
          below = length above;
          is_leaf = refl;
          count = refl;
          is_last = l.0;
          leaf_use = t;
          issued = l.1;
          anchored = anchor_found (suc (length above)) k.0 anchors a k.2;
        }
    of false t e = cc

pub path_again : (chain anchors : List CertView) (a : Option ℕ) → Path chain anchors a → shape_of chain anchors ≡ Ok a
unfolding shape_of
path_again [] anchors a p = let e = p.is_leaf in cc
path_again (leaf ∷ above) anchors a p =
    let same : leaf ≡ p.leaf = same_Some leaf p.leaf p.is_leaf in
    let signs : may_sign leaf ≡ true = ap may_sign same ∙ p.leaf_use in
    let count = p.count in
    let size : p.below ≡ length above = omega (arith, count) in
    let there : slice_get (leaf ∷ above) (length above) ≡ Some p.last = ap (slice_get (leaf ∷ above)) (sym size) ∙ p.is_last in
    let last : last_of 2 leaf above ≡ Ok p.last = last_again 2 leaf p.last above there p.issued in
    let anchored : IsAnchor (suc (length above)) p.last anchors a = subst (λ n. IsAnchor (suc n) p.last anchors a) size p.anchored in
    let found : find_anchor (suc (length above)) p.last anchors ≡ Ok a = anchor_again (suc (length above)) p.last anchors a anchored in
    rw (signs, last, found) refl

-- ---- of an answer

pub answer_found : (chain anchors : List CertView) (r : Result Shape PathFault) → shape_view r ≡ shape_of chain anchors
    → IfOk r (λ shape. Path chain anchors shape.anchor)
answer_found chain anchors (Ok shape) e = path_found chain anchors shape.anchor (sym e)
answer_found chain anchors (Err fault) e = tt

pub answer_only : (chain anchors : List CertView) (r : Result Shape PathFault) (a : Option ℕ) → shape_view r ≡ shape_of chain anchors
    → Path chain anchors a → IsOkAnd r (λ shape. shape.anchor ≡ a)
answer_only chain anchors (Ok shape) a e p = inside shape.anchor a (e ∙ path_again chain anchors a p)
answer_only chain anchors (Err fault) a e p =
    let is : ◌≡◌ {A = Result (Option ℕ) PathFault} (Err fault) (Ok a) = e ∙ path_again chain anchors a p in
    cc
