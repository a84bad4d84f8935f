-- Calls one after another draw on a source as one call does, and a read of a block as the source says.
use Rattle.std.proofs.Common.{◌≡◌, ℕ, ◌+◌, ◌*◌, ◌-◌, ◌/◌, ◌≤◌, Bool, true, false, List, [], ◌∷◌, length, Option, Some, None, refl, ◌∙◌, ap, arith}
use Rattle.std.proofs.lemmas.Option.{same_Some}
use Rattle.call_log.specs.Supply.{Draws, DrawsEach, PacedBy, Supply, short_reads}

paced_none : (supply : Supply) (left : Option (List ℕ)) → PacedBy supply supply left left
paced_none supply None = tt
paced_none supply (Some left) = omega arith

pub draws_none : (supply : Supply) → Draws supply supply
draws_none supply = record { silent = λ e. refl; keeps = λ k. k; same_whole = refl; paced = λ w. paced_none supply supply.left; never_falls = omega arith }

paced_on : (a b c : Supply) (left mid now : Option (List ℕ)) → PacedBy a b left mid → PacedBy b c mid now → PacedBy a c left now
paced_on a b c None mid now p q = tt
paced_on a b c (Some left) None now p q = absurd p
paced_on a b c (Some left) (Some mid) None p q = absurd q
paced_on a b c (Some left) (Some mid) (Some now) p q = omega (arith, p, q)

pub draws_on : (a b c : Supply) → Draws a b → Draws b c → Draws a c
draws_on a b c first then = record {
  silent = λ e. let one = first.silent e in then.silent (ap (λ (s : Supply). s.ended) one ∙ e) ∙ one;
  keeps = λ k. then.keeps (first.keeps k);
  same_whole = then.same_whole ∙ first.same_whole;
  paced = λ w. paced_on a b c a.left b.left c.left (first.paced w) (then.paced (first.same_whole ∙ w));
  never_falls = let one = first.never_falls in let two = then.never_falls in omega (arith, one, two);
}

pub draws_each : (before : Supply) (between : List Supply) (now : Supply) → DrawsEach before between now → Draws before now
draws_each before [] now draws = draws
draws_each before (next ∷ others) now (first, more) = draws_on before next now first (draws_each next others now more)

-- at most two short reads are still to come
few_short : (ended : Bool) (left : List ℕ) → short_reads ended left ≤ 2
few_short true left = omega arith
few_short false [] = omega arith
few_short false (byte ∷ left) = omega arith

few_by : (before now : Supply) (left behind : List ℕ) (known known_now : Option (List ℕ)) → known ≡ Some left → known_now ≡ Some behind → PacedBy before now known known_now
    → now.reads ≤ before.reads + (length left - length behind) / 65536 + 2
few_by before now left behind None known_now is is_now paced = absurd (cc)
few_by before now left behind (Some xs) None is is_now paced = absurd paced
few_by before now left behind (Some xs) (Some ys) is is_now paced =
    let size : length xs ≡ length left = ap length (same_Some xs left is) in
    let size_now : length ys ≡ length behind = ap length (same_Some ys behind is_now) in
    let most = few_short before.ended xs in
    let blocks : 65536 * (now.reads - (before.reads + 2)) ≤ length left - length behind = omega (arith, paced, size, size_now, most) in
    let reads : now.reads - (before.reads + 2) ≤ (length left - length behind) / 65536 = omega (arith, blocks) in
    omega (arith, reads)

-- the reads of several calls rise together by one for each block that was taken, and two
pub few_reads : (before : Supply) (between : List Supply) (now : Supply) (left behind : List ℕ) → DrawsEach before between now → before.whole ≡ true
    → before.left ≡ Some left → now.left ≡ Some behind → now.reads ≤ before.reads + (length left - length behind) / 65536 + 2
few_reads before between now left behind draws whole is is_now =
    few_by before now left behind before.left now.left is is_now ((draws_each before between now draws).paced whole)
