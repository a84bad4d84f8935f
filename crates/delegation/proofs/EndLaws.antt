-- Laws of the first bytes that are no anchor: reading names their place, and their place is what reading names.
use Rattle.std.proofs.Common.{◌≡◌, ◌≢◌, ℕ, zero, suc, ◌+◌, ◌-◌, ◌<◌, ◌==◌, Bool, true, false, cond, List, [], ◌∷◌, ◌++◌, length, Result, Ok, Err, refl, sym, ap, subst, ◌∙◌, length-append, append_assoc, arith}
use Rattle.std.proofs.lemmas.Bool.Decides.{nat_tests}
use Rattle.lists.specs.Steps.{◌>>=◌}
use Rattle.der_reader.specs.declared.fault.DerFault.{DerFault}
use Rattle.der_reader.specs.Elem.{AllBytes, Element}
use Rattle.der_reader.specs.Next.{next_at}
use Rattle.x509_profile.specs.View.{CertView}
use Rattle.x509_profile.specs.Read.{read_certificate}
use Rattle.delegation.specs.declared.fault.AnchorFault.{AnchorFault}
use Rattle.delegation.specs.declared.fault.AnchorFault.TheVariants.{At, Memory}
use Rattle.delegation.specs.Usage.{may_certify}
use Rattle.delegation.specs.Anchors.{AreAnchors, BeginsWithNone, EndsAt, Gives, IfAt, IsNoAnchor, anchor_at, anchor_of, anchors_at, anchors_in, as_anchor, surplus, unfit}
use Rattle.delegation.proofs.AnchorLaws.{anchor_again, anchor_found, some_bytes}

-- ---- one that is no anchor

abbrev refused_at : ℕ → Result (List CertView) ℕ
refused_at place = Err place

-- the place of the fault is the one that was handed in
placed : (place : ℕ) (bytes : List ℕ) (fault : ℕ) → anchor_at place bytes ≡ Err fault → fault ≡ place
unfolding anchor_at
placed place bytes fault e = of (next_at bytes) e
  where
    certified : (t : Bool) (c : CertView) (behind : List ℕ) → ◌≡◌ {A = Result (CertView × List ℕ) ℕ} (cond t (Ok (c, behind)) (Err place)) (Err fault)
        → fault ≡ place
    certified true c behind e = absurd cc
    certified false c behind e = let same : place ≡ fault = cc in sym same

    read : {E : Type 0} (r : Result CertView E) (behind : List ℕ) → as_anchor place behind r ≡ Err fault → fault ≡ place
    read (Ok c) behind e = certified (may_certify c) c behind e
    read (Err x) behind e = let same : place ≡ fault = cc in sym same

    of : (r : Result (Element × List ℕ) DerFault) → anchor_of place r ≡ Err fault → fault ≡ place
    of (Ok next) e = read (read_certificate next.0.whole) next.1 e
    of (Err x) e = let same : place ≡ fault = cc in sym same

none_refused : (place : ℕ) (bytes : List ℕ) → AllBytes bytes → BeginsWithNone bytes → anchor_at place bytes ≡ Err place
none_refused place bytes b none = of (anchor_at place bytes) refl
  where
    of : (r : Result (CertView × List ℕ) ℕ) → anchor_at place bytes ≡ r → r ≡ Err place
    of (Ok next) e = let s = anchor_found place bytes next b e in absurd (none next.0 next.1 s.0.split s.0.cert s.0.certifies)
    of (Err fault) e = ap (λ (n : ℕ). let r : Result (CertView × List ℕ) ℕ = Err n in r) (placed place bytes fault e)

refused_none : (place : ℕ) (bytes : List ℕ) (fault : ℕ) → anchor_at place bytes ≡ Err fault → BeginsWithNone bytes
refused_none place bytes fault e c behind split cert t =
    let again : anchor_at place bytes ≡ Ok (c, behind) = ap (anchor_at place) split ∙ anchor_again place c behind cert t in
    let is : ◌≡◌ {A = Result (CertView × List ℕ) ℕ} (Ok (c, behind)) (Err fault) = sym again ∙ e in
    absurd cc

some_left : (rest : List ℕ) → rest ≢ [] → length rest == 0 ≡ false
some_left [] n = absurd (n refl)
some_left (x ∷ xs) n = let some : 0 < length (x ∷ xs) = omega arith in grind (arith, nat_tests, some)

left_some : (rest : List ℕ) → length rest == 0 ≡ false → rest ≢ []
left_some [] t = λ empty. absurd cc
left_some (x ∷ xs) t = λ empty. absurd cc

-- ---- what stops the reading, if so many more would be taken

data Stops (room : ℕ) (rest : List ℕ) : Type 0 where
  full : room ≡ 0 → rest ≢ [] → Stops room rest
  bad : 0 < room → rest ≢ [] → BeginsWithNone rest → Stops room rest

stopped : (all : List ℕ) (room : ℕ) (rest : List ℕ) → AllBytes rest → Stops room rest → anchors_at all room rest ≡ Err (length all - length rest)
unfolding anchors_at
stopped all zero rest b (full z n) = rw (some_left rest n) refl
stopped all zero rest b (bad l n x) = absurd (omega (arith, l))
stopped all (suc room) rest b (full z n) = absurd (omega (arith, z))
stopped all (suc room) rest b (bad l n x) = rw (some_left rest n, none_refused (length all - length rest) rest b x) refl

-- it stops there after anchors too
stopped_behind : (all : List ℕ) (before : List CertView) (room left : ℕ) (front rest : List ℕ) → length before + left ≡ room → AreAnchors before front
    → AllBytes rest → Stops left rest → anchors_at all room (front ++ rest) ≡ Err (length all - length rest)
unfolding anchors_at
stopped_behind all [] room left front rest count are b s =
    let same : left ≡ room = omega (arith, count) in
    let here : anchors_at all room rest ≡ Err (length all - length rest) = stopped all room rest b (subst (λ n. Stops n rest) same s) in
    subst (λ (f : List ℕ). anchors_at all room (f ++ rest) ≡ Err (length all - length rest)) (sym are) here
stopped_behind all (c ∷ cs) zero left front rest count are b s = absurd (omega (arith, count))
stopped_behind all (c ∷ cs) (suc room) left front rest count (behind, split, cert, t, more) b s =
    let P : List ℕ → Type 0 = λ bytes. anchors_at all (suc room) bytes ≡ Err (length all - length rest) in
    let joined : front ++ rest ≡ c.whole ++ (behind ++ rest) = ap (λ f. f ++ rest) split ∙ append_assoc c.whole behind rest in
    let again : anchor_at (length all - length (c.whole ++ (behind ++ rest))) (c.whole ++ (behind ++ rest)) ≡ Ok (c, behind ++ rest) =
    anchor_again _ c (behind ++ rest) cert t in
    let next : anchors_at all room (behind ++ rest) ≡ Err (length all - length rest) =
    stopped_behind all cs room left behind rest (omega (arith, count)) more b s in
    subst P (sym joined) (rw (some_bytes c (behind ++ rest) cert, again, next) refl)

-- ---- where reading was refused

record Ended (all : List ℕ) (room : ℕ) (bytes : List ℕ) (place : ℕ) : Type 0 where
  before : List CertView
  front : List ℕ
  rest : List ℕ
  text : bytes ≡ front ++ rest
  stands : place ≡ length all - length rest
  are : AreAnchors before front
  left : ℕ
  count : length before + left ≡ room
  why : Stops left rest

more_refused : (c : CertView) (r : Result (List CertView) ℕ) (place : ℕ) → (r >>= λ more. Ok (c ∷ more)) ≡ Err place → r ≡ Err place
more_refused c (Ok more) place e = absurd cc
more_refused c (Err x) place e = let same : x ≡ place = cc in ap refused_at same

ended_here : (all : List ℕ) (room : ℕ) (rest : List ℕ) (place : ℕ) → place ≡ length all - length rest → Stops room rest → Ended all room rest place
ended_here all room rest place e s =
    record { before = []; front = []; rest = rest; text = refl; stands = e; are = refl; left = room; count = omega arith; why = s }

ended : (all : List ℕ) (room : ℕ) (rest : List ℕ) (place : ℕ) → AllBytes rest → anchors_at all room rest ≡ Err place → Ended all room rest place
unfolding anchors_at
ended all zero rest place b e = of (length rest == 0) refl e
  where
    of : (t : Bool) → length rest == 0 ≡ t → ◌≡◌ {A = Result (List CertView) ℕ} (cond t (Ok []) (Err (length all - length rest))) (Err place)
        → Ended all zero rest place
    of true t e = absurd cc
    of false t e = let same : length all - length rest ≡ place = cc in ended_here all zero rest place (sym same) (full refl (left_some rest t))
ended all (suc room) rest place b e = of (λ rest place b e. ended all room rest place b e) (length rest == 0) refl e
  where
    next : ((rest : List ℕ) (place : ℕ) → AllBytes rest → anchors_at all room rest ≡ Err place → Ended all room rest place)
        → (r : Result (CertView × List ℕ) ℕ) → anchor_at (length all - length rest) rest ≡ r → length rest == 0 ≡ false
        → (r >>= λ next. anchors_at all room next.1 >>= λ more. Ok (next.0 ∷ more)) ≡ Err place → Ended all (suc room) rest place
    next again (Ok found) k t e =
        let s = anchor_found (length all - length rest) rest found b k in
        let g = again found.1 place s.1 (more_refused found.0 (anchors_at all room found.1) place e) in
        record {
          before = found.0 ∷ g.before;
          front = found.0.whole ++ g.front;
          rest = g.rest;
          text = s.0.split ∙ (ap (λ x. found.0.whole ++ x) g.text ∙ sym (append_assoc found.0.whole g.front g.rest));
          stands = g.stands;
          are = (g.front, refl, s.0.cert, s.0.certifies, g.are);
          left = g.left;
          count = let n = g.count in omega (arith, n);
          why = g.why;
        }
    next again (Err fault) k t e =
        let same : fault ≡ place = cc in
        let own : fault ≡ length all - length rest = placed (length all - length rest) rest fault k in
        ended_here all (suc room) rest place (sym same ∙ own) (bad (omega arith) (left_some rest t) (refused_none (length all - length rest) rest fault k))

    of : ((rest : List ℕ) (place : ℕ) → AllBytes rest → anchors_at all room rest ≡ Err place → Ended all room rest place)
        → (t : Bool) → length rest == 0 ≡ t
        → cond t (Ok []) (anchor_at (length all - length rest) rest >>= λ next. anchors_at all room next.1 >>= λ more. Ok (next.0 ∷ more)) ≡ Err place
        → Ended all (suc room) rest place
    of again true t e = absurd cc
    of again false t e = next again (anchor_at (length all - length rest) rest) refl t e

-- ---- the whole file

why_of : (count left : ℕ) (rest : List ℕ) → count + left ≡ 256 → Stops left rest → IsNoAnchor count rest
why_of count left rest n (full z s) = surplus (omega (arith, n, z)) s
why_of count left rest n (bad l s x) = unfit (omega (arith, n, l)) s x

all_behind : (xs ys : List ℕ) → AllBytes (xs ++ ys) → AllBytes ys
all_behind [] ys b i = b i
all_behind (x ∷ xs) ys b i = all_behind xs ys (λ k. b (suc k)) i

-- how many more would be taken after so many
record Room (count : ℕ) (rest : List ℕ) : Type 0 where
  left : ℕ
  all : count + left ≡ 256
  stops : Stops left rest

room_of : (count : ℕ) (rest : List ℕ) → IsNoAnchor count rest → Room count rest
room_of count rest (surplus e s) = record { left = 0; all = omega (arith, e); stops = full refl s }
room_of count rest (unfit l s x) = record { left = 256 - count; all = omega (arith, l); stops = bad (omega (arith, l)) s x }

-- what is read is refused at the first bytes that are no anchor
pub ends_found : (bytes : List ℕ) (place : ℕ) → AllBytes bytes → anchors_in bytes ≡ Err place → EndsAt bytes place
ends_found bytes place b e =
    let g = ended bytes 256 bytes place b e in
    record {
      before = g.before;
      front = g.front;
      rest = g.rest;
      text = g.text;
      stands = let s = g.stands in omega (arith, s, ap length g.text, length-append g.front g.rest);
      are = g.are;
      why = why_of (length g.before) g.left g.rest g.count g.why;
    }

-- and at these it is refused
pub ends_again : (bytes : List ℕ) (place : ℕ) → AllBytes bytes → EndsAt bytes place → anchors_in bytes ≡ Err place
ends_again bytes place b t =
    let room = room_of (length t.before) t.rest t.why in
    let left : AllBytes t.rest = all_behind t.front t.rest (subst AllBytes t.text b) in
    let read : anchors_at bytes 256 (t.front ++ t.rest) ≡ Err (length bytes - length t.rest) =
    stopped_behind bytes t.before 256 room.left t.front t.rest room.all t.are left room.stops in
    let stands = t.stands in
    let same : length bytes - length t.rest ≡ place = omega (arith, stands, ap length t.text, length-append t.front t.rest) in
    ap (anchors_at bytes 256) t.text ∙ (read ∙ ap refused_at same)

-- ---- of an answer

pub answer_refused : (bytes : List ℕ) (r : Result (List CertView) AnchorFault) → AllBytes bytes
    → Gives {X = List CertView} {Y = List CertView} (λ a. a) r (anchors_in bytes) → IfAt r (EndsAt bytes)
answer_refused bytes (Ok anchors) b e = tt
answer_refused bytes (Err (At place)) b e = ends_found bytes place b e
answer_refused bytes (Err Memory) b e = tt

pub answer_only_refused : (bytes : List ℕ) (r : Result (List CertView) AnchorFault) (place : ℕ) → AllBytes bytes
    → Gives {X = List CertView} {Y = List CertView} (λ a. a) r (anchors_in bytes) → EndsAt bytes place
    → Gives {X = List CertView} {Y = List CertView} (λ a. a) r (Err place)
answer_only_refused bytes r place b e t = subst (Gives {X = List CertView} {Y = List CertView} (λ a. a) r) (ends_again bytes place b t) e
