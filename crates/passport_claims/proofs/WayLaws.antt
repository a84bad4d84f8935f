-- The way from the start, step by step: what is found after it, and how it lies in an order.
use Rattle.std.proofs.Common.{◌⊎◌, inl, inr, ◌≡◌, ℕ, zero, suc, ◌+◌, ◌-◌, ◌<◌, ◌≤◌, List, [], ◌∷◌, ◌++◌, length, take, drop, replicate, slice_set, Option, Some, None, refl, sym, ap, ◌∙◌, arith, append_assoc, Bool, cond, Ok, Err}
use Rattle.std.specs.Option.{option_map_or}
use Rattle.std.proofs.lemmas.List.{append-nil, drop-set-lt, drop-drop, drop-replicate, take_more_set}
use Rattle.passport_claims.specs.Passport.{ClaimsView}
use Rattle.passport_claims.specs.Links.{AreWithin, IsOneOf, dest_at, div_at}
use Rattle.passport_claims.specs.Order.{Follow, last_of}
use Rattle.passport_claims.specs.OrderReading.{behind, fault_at, first_from, is_one_of, leads_from, may_start, start_of, walk}
use Rattle.passport_claims.proofs.FirstLaws.{first_some, leads_from_is}
use Rattle.passport_claims.proofs.TurnLaws.{last_among, within_among}
use Rattle.lists.proofs.Bytes.{bytes_same}

-- ---- the walk

pub walk_on : (links : List ClaimsView) (room : ℕ) (number : List ℕ) (next : ℕ) → first_from (leads_from links number) 1 (length links) ≡ Some next
    → walk links (suc room) number ≡ next ∷ walk links room (dest_at links next)
unfolding walk
walk_on links room number next e = ap (λ o. option_map_or (λ link. link ∷ walk links room (dest_at links link)) o []) e

pub walk_ends : (links : List ClaimsView) (room : ℕ) (number : List ℕ) → first_from (leads_from links number) 1 (length links) ≡ None → walk links room number ≡ []
unfolding walk
walk_ends links zero number e = refl
walk_ends links (suc room) number e = ap (λ o. option_map_or (λ link. link ∷ walk links room (dest_at links link)) o []) e

pub walk_full : (links : List ClaimsView) (room : ℕ) (number : List ℕ) → room ≡ 0 → walk links room number ≡ []
unfolding walk
walk_full links zero number e = refl
walk_full links (suc room) number e = absurd (omega arith)

-- one link more in the array
pub placed : (links : List ClaimsView) (turn all : List ℕ) (place next : ℕ) (number : List ℕ) → place < length links → place < length turn
    → first_from (leads_from links number) 1 (length links) ≡ Some next
    → take place turn ++ walk links (length links - place) number ≡ all
    → take (place + 1) (slice_set turn place next) ++ walk links (length links - (place + 1)) (dest_at links next) ≡ all
placed links turn all place next number h t e is =
    let room : length links - place ≡ suc (length links - (place + 1)) = omega arith in
    let on : walk links (length links - place) number ≡ next ∷ walk links (length links - (place + 1)) (dest_at links next) =
    ap (λ r. walk links r number) room ∙ walk_on links (length links - (place + 1)) number next e in
    ap (λ xs. xs ++ walk links (length links - (place + 1)) (dest_at links next)) (take_more_set turn place next t)
    ∙ append_assoc (take place turn) (next ∷ []) (walk links (length links - (place + 1)) (dest_at links next))
    ∙ ap (λ xs. take place turn ++ xs) (sym on) ∙ is

-- the zeros after it
pub emptied : (turn : List ℕ) (place next : ℕ) → place < 8 → drop place turn ≡ replicate (8 - place) 0
    → drop (place + 1) (slice_set turn place next) ≡ replicate (8 - (place + 1)) 0
emptied turn place next h e =
    drop-set-lt (place + 1) turn place next (omega arith) ∙ sym (drop-drop 1 place turn) ∙ ap (drop 1) e
    ∙ drop-replicate 1 (8 - place) 0 ∙ ap (λ n. replicate n 0) (omega arith)

-- if no link goes on
pub way_ends : (links : List ClaimsView) (turn all : List ℕ) (place : ℕ) (number : List ℕ) → first_from (leads_from links number) 1 (length links) ≡ None
    → take place turn ++ walk links (length links - place) number ≡ all → take place turn ≡ all
way_ends links turn all place number e is =
    sym (append-nil (take place turn)) ∙ ap (λ xs. take place turn ++ xs) (sym (walk_ends links (length links - place) number e)) ∙ is

-- if all links are placed
pub way_full : (links : List ClaimsView) (turn all : List ℕ) (place : ℕ) (number : List ℕ) → length links ≤ place
    → take place turn ++ walk links (length links - place) number ≡ all → take place turn ≡ all
way_full links turn all place number h is =
    sym (append-nil (take place turn)) ∙ ap (λ xs. take place turn ++ xs) (sym (walk_full links (length links - place) number (omega arith))) ∙ is

-- ---- the start

pub starts : (dests : List (List ℕ)) (links : List ClaimsView) (start : ℕ) (t : Bool) → first_from (may_start links) 1 (length links) ≡ Some start
    → first_from (may_start links) (start + 1) (length links - start) ≡ None → is_one_of dests (div_at links start) ≡ t
    → start_of dests links ≡ (cond t (Ok start) (Err (fault_at 3 start)))
unfolding start_of
starts dests links start t first second called = rw (first, second, called) refl

-- ---- what is found after a link

found_within : (links : List ClaimsView) (number : List ℕ) (link : ℕ) → first_from (leads_from links number) 1 (length links) ≡ Some link → IsOneOf (length links) link
found_within links number link e =
    let f = first_some (leads_from links number) 1 (length links) link e in
    let high = f.high in
    record { low = f.low; high = omega (arith, high) }

found_div : (links : List ClaimsView) (number : List ℕ) (link : ℕ) → first_from (leads_from links number) 1 (length links) ≡ Some link → div_at links link ≡ number
found_div links number link e =
    let f = first_some (leads_from links number) 1 (length links) link e in
    bytes_same (div_at links link) number (sym (leads_from_is links number link) ∙ f.here)

-- the first link is given, and what comes after it
record IsWalk (links : List ClaimsView) (room : ℕ) (number : List ℕ) (way : List ℕ) : Type 0 where
  within : AreWithin (length links) way
  short : length way ≤ room
  follow : (link : ℕ) → dest_at links link ≡ number → Follow links link way
  -- it ends when no link goes on, or when there is no room
  end : (link : ℕ) → dest_at links link ≡ number → (length way ≡ room) ⊎ (first_from (leads_from links (dest_at links (last_of link way))) 1 (length links) ≡ None)

is_walk : (links : List ClaimsView) (room : ℕ) (number : List ℕ) → IsWalk links room number (walk links room number)
is_walk links zero number = rw (walk_full links zero number refl) (record { within = tt; short = omega arith; follow = λ link e. tt; end = λ link e. inl refl })
is_walk links (suc room) number = is_walk_on links room number (first_from (leads_from links number) 1 (length links)) refl (λ next. is_walk links room (dest_at links next))
  where
    is_walk_on : (links : List ClaimsView) (room : ℕ) (number : List ℕ) (found : Option ℕ) → first_from (leads_from links number) 1 (length links) ≡ found
        → ((next : ℕ) → IsWalk links room (dest_at links next) (walk links room (dest_at links next))) → IsWalk links (suc room) number (walk links (suc room) number)
    is_walk_on links room number None e rest = rw (walk_ends links (suc room) number e) (record {
      within = tt;
      short = omega arith;
      follow = λ link is. tt;
      end = λ link is. inr (ap (λ n. first_from (leads_from links n) 1 (length links)) is ∙ e);
    })
    is_walk_on links room number (Some next) e rest =
        let r = rest next in
        let short = r.short in
        rw (walk_on links room number next e) (record {
          within = (found_within links number next e, r.within);
          short = omega (arith, short);
          follow = λ link is. (found_div links number next e ∙ sym is, r.follow next refl);
          end = λ link is. elim (r.end next refl) [
            | inl full ↦ inl (ap suc full)
            | inr ends ↦ inr ends
          ];
        })

pub behind_within : (links : List ClaimsView) (start : ℕ) → AreWithin (length links) (behind links start)
behind_within links start = (is_walk links (length links - 1) (dest_at links start)).within

pub behind_short : (links : List ClaimsView) (start : ℕ) → length (behind links start) ≤ length links - 1
behind_short links start = (is_walk links (length links - 1) (dest_at links start)).short

pub behind_follow : (links : List ClaimsView) (start : ℕ) → Follow links start (behind links start)
behind_follow links start = (is_walk links (length links - 1) (dest_at links start)).follow start refl

pub behind_ends : (links : List ClaimsView) (start : ℕ) → (length (behind links start) ≡ length links - 1)
    ⊎ (first_from (leads_from links (dest_at links (last_of start (behind links start)))) 1 (length links) ≡ None)
behind_ends links start = (is_walk links (length links - 1) (dest_at links start)).end start refl

-- the last of the way is a link
pub last_within : (links : List ClaimsView) (start : ℕ) → IsOneOf (length links) start → IsOneOf (length links) (last_of start (behind links start))
last_within links start is = within_among (length links) (start ∷ behind links start) (last_of start (behind links start)) (is, behind_within links start) (last_among start (behind links start))
