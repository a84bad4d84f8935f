-- Laws of reading anchor after anchor.
use Rattle.std.proofs.Common.{◌≡◌, ℕ, zero, suc, ◌+◌, ◌-◌, ◌*◌, ◌<◌, ◌≤◌, ◌==◌, true, false, List, [], ◌∷◌, ◌++◌, length, Result, Ok, Err, refl, sym, ap, subst, ◌∙◌, length-append, append_assoc, append-nil, arith}
use Rattle.std.proofs.lemmas.Bool.Decides.{nat_tests}
use Rattle.std.specs.Borrow.{Bor}
use Rattle.x509_profile.specs.View.{CertView}
use Rattle.delegation.specs.declared.fault.AnchorFault.{AnchorFault}
use Rattle.delegation.specs.declared.fault.AnchorFault.TheVariants.{At, Memory}
use Rattle.lists.specs.Steps.{◌>>=◌}
use Rattle.delegation.specs.Anchors.{Gives, anchor_at, anchors_at, anchors_in}

-- anchors that were found before those that are left
abbrev pub continued : List CertView → Result (List CertView) ℕ → Result (List CertView) ℕ
continued before (Ok more) = Ok (before ++ more)
continued before (Err place) = Err place

-- an equation of what is found
found_is : (xs ys : List CertView) → xs ≡ ys → ◌≡◌ {A = Result (List CertView) ℕ} (Ok xs) (Ok ys)
found_is xs ys e = ap (λ (l : List CertView). let r : Result (List CertView) ℕ = Ok l in r) e

-- nothing is left
pub all_found : (before : List CertView) (all : List ℕ) (room : ℕ) (rest : List ℕ) → length rest == 0 ≡ true
    → continued before (anchors_at all room rest) ≡ Ok before
unfolding anchors_at
all_found before all zero rest e = rw e (found_is _ _ (append-nil before))
all_found before all (suc room) rest e = rw e (found_is _ _ (append-nil before))

-- no room is left, and bytes are
pub no_room : (before : List CertView) (all : List ℕ) (room : ℕ) (rest : List ℕ) → length rest == 0 ≡ false → room ≡ 0
    → continued before (anchors_at all room rest) ≡ Err (length all - length rest)
unfolding anchors_at
no_room before all zero rest e z = rw e refl
no_room before all (suc room) rest e z = absurd (omega arith)

-- the next is no anchor
refused : (before : List CertView) (all : List ℕ) (room : ℕ) (rest : List ℕ) (place : ℕ) → length rest == 0 ≡ false → 0 < room
    → anchor_at (length all - length rest) rest ≡ Err place → continued before (anchors_at all room rest) ≡ Err place
unfolding anchors_at
refused before all zero rest place e l k = absurd (omega arith)
refused before all (suc room) rest place e l k = rw (e, k) refl

-- the next is one
one_more : (before : List CertView) (all : List ℕ) (room next : ℕ) (rest : List ℕ) (found : CertView × List ℕ) → length rest == 0 ≡ false
    → room ≡ suc next → anchor_at (length all - length rest) rest ≡ Ok found
    → continued before (anchors_at all room rest) ≡ continued (before ++ found.0 ∷ []) (anchors_at all next found.1)
unfolding anchors_at
one_more before all zero next rest found e l k = absurd (omega arith)
one_more before all (suc room) next rest found e l k =
    let same : room ≡ next = omega (arith, l) in
    let P : ℕ → Type 0 = λ n. continued before (anchors_at all (suc room) rest) ≡ continued (before ++ found.0 ∷ []) (anchors_at all n found.1) in
    subst P same (rw (e, k) (joined (anchors_at all room found.1)))
  where
    joined : (r : Result (List CertView) ℕ)
        → continued before (r >>= λ more. Ok (found.0 ∷ more)) ≡ continued (before ++ found.0 ∷ []) r
    joined (Ok more) = found_is _ _ (sym (append_assoc before (found.0 ∷ []) more))
    joined (Err place) = refl

-- where the walk is: what was found and what is left give what all gives
pub record Stands (found : List CertView) (all rest : List ℕ) : Type 0 where
  pub most : length found ≤ 256
  pub near : length all ≤ 8192 * length found + length rest
  pub within : length rest ≤ length all
  pub same : continued found (anchors_at all (256 - length found) rest) ≡ anchors_in all

continues : (r : Result (List CertView) ℕ) → continued [] r ≡ r
continues (Ok xs) = refl
continues (Err place) = refl

pub at_start : (all : List ℕ) → Stands [] all all
at_start all = record {
  most = omega arith;
  near = omega arith;
  within = omega arith;
  same = continues (anchors_at all 256 all);
}

pub at_end : (found : List CertView) (all rest : List ℕ) → Stands found all rest → length rest == 0 ≡ true → anchors_in all ≡ Ok found
at_end found all rest s e = sym s.same ∙ all_found found all (256 - length found) rest e

pub one_too_many : (found : List CertView) (all rest : List ℕ) → Stands found all rest → length rest == 0 ≡ false → length found == 256 ≡ true
    → anchors_in all ≡ Err (length all - length rest)
one_too_many found all rest s e n = sym s.same ∙ no_room found all (256 - length found) rest e (grind (arith, nat_tests))

-- the place is small
pub is_near : (found : List CertView) (all rest : List ℕ) → Stands found all rest → length all - length rest ≤ 2097152
is_near found all rest s = omega (arith, s.most, s.near)

-- a fault of the next one is the answer
pub is_refused : (found : List CertView) (all rest : List ℕ) (fault : AnchorFault) → Stands found all rest → length rest == 0 ≡ false
    → length found == 256 ≡ false
    → Gives {X = CertView × Bor (List ℕ)} {Y = CertView × List ℕ} (λ r. (r.0, r.1.now)) (Err fault) (anchor_at (length all - length rest) rest)
    → Gives {X = List CertView} {Y = List CertView} (λ r. r) (Err fault) (anchors_in all)
is_refused found all rest (At place) s e n k =
    let below : length found < 256 = let m = s.most in grind (arith, nat_tests) in
    sym s.same ∙ refused found all (256 - length found) rest place e (omega (arith, below)) k
is_refused found all rest Memory s e n k = tt

-- the walk goes on after the next one
pub goes_on : (found after : List CertView) (all rest : List ℕ) (next : CertView × List ℕ) → Stands found all rest → after ≡ found ++ next.0 ∷ []
    → length rest == 0 ≡ false → length found == 256 ≡ false → anchor_at (length all - length rest) rest ≡ Ok next
    → length next.1 < length rest → length rest ≤ 8192 + length next.1
    → Stands after all next.1
goes_on found after all rest next s a e n k l z =
    let longer : length after ≡ suc (length found) = omega (arith, ap length a, length-append found (next.0 ∷ [])) in
    let below : length found < 256 = let m = s.most in grind (arith, nat_tests) in
    record {
      most = omega (arith, longer, below);
      near = let m = s.near in omega (arith, longer, m, z);
      within = let w = s.within in omega (arith, w, l);
      same = ap (λ (after : List CertView). continued after (anchors_at all (256 - length after) next.1)) a
          ∙ sym (one_more found all (256 - length found) (256 - length (found ++ next.0 ∷ [])) rest next e
          (omega (arith, length-append found (next.0 ∷ []), below)) k)
          ∙ s.same;
    }
