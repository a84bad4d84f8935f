-- Each fault is the answer if it holds, so that there is one at most.
use Rattle.std.proofs.Common.{◌≡◌, ℕ, ◌==◌, ◌+◌, ◌-◌, ◌≤◌, true, false, nat_lt, inl, inr, List, ◌∷◌, length, Option, Some, None, Result, Ok, Err, refl, sym, ap, ◌∙◌, arith}
use Rattle.std.proofs.lemmas.Bool.{eq-eqb, le-ltb, lt-ltb, ne_eqb}
use Rattle.passport_claims.specs.Passport.{ClaimsView}
use Rattle.passport_claims.specs.Links.{IsOneOf, dest_at, div_at}
use Rattle.passport_claims.specs.Order.{is_among, last_of}
use Rattle.passport_claims.specs.OrderFault.{Cut, EndsAtOnce, EndsLater, IsFault, IsLast, IsLeft, Many, MayStart, OfNone, Repeat, Repeats, Start}
use Rattle.passport_claims.specs.OrderReading.{behind, calls, calls_one_of, fault_at, first_from, is_left, is_one_of, may_start, order_of, repeats, start_of, undiverted, way_from}
use Rattle.passport_claims.specs.OrderSeen.{order_seen}
use Rattle.passport_claims.specs.declared.order.ChainFault.{ChainFault}
use Rattle.passport_claims.specs.declared.order.Order.{Order}
use Rattle.passport_claims.proofs.FirstLaws.{first_is, first_isnt, means_first, means_none, none_more, not_so}
use Rattle.passport_claims.proofs.LinkLaws.{called_means, calls_means, one_means, repeats_says, start_says}
use Rattle.passport_claims.proofs.OrderLaws.{each_found, next_follows}
use Rattle.passport_claims.proofs.StartLaws.{NoStart, start_again}
use Rattle.passport_claims.proofs.TurnLaws.{next_second, next_there, within_among}
use Rattle.passport_claims.proofs.WayLaws.{behind_follow, behind_within}
use Rattle.passport_claims.proofs.OrderFaultLaws.{Started, is_walked, left_says, reached_on}

-- a fault of this kind and this link is the one that is given
named : (kind link : ℕ) (fault : ChainFault) → fault.kind ≡ kind → fault.link ≡ link → ◌≡◌ {A = Result (List ℕ) ChainFault} (Err (fault_at kind link)) (Err fault)
named kind link fault k l = ap (λ n. Err (fault_at n link)) (sym k) ∙ ap (λ n. Err (fault_at fault.kind n)) (sym l)

small : (links : List ClaimsView) → length links ≤ 8 → nat_lt 8 (length links) ≡ false
small links few = le-ltb 8 (length links) few

none_repeats : (links : List ClaimsView) → OfNone (Repeats links) (length links) → first_from (repeats links) 1 (length links) ≡ None
none_repeats links apart = means_none (Repeats links) (repeats links) (length links) (repeats_says links (length links)) apart

many_again : (origin : ClaimsView) (links : List ClaimsView) (called : Option (List ℕ)) (fault : ChainFault) → Many links fault → order_of origin links called ≡ Err fault
unfolding order_of
many_again origin links called fault m =
    let large : nat_lt 8 (length links) ≡ true = lt-ltb 8 (length links) m.many in
    rw large (named 1 9 fault m.kind m.link)

repeat_again : (origin : ClaimsView) (links : List ClaimsView) (called : Option (List ℕ)) (fault : ChainFault) → Repeat links fault → order_of origin links called ≡ Err fault
unfolding order_of
repeat_again origin links called fault r =
    let few = small links r.few in
    let first : first_from (repeats links) 1 (length links) ≡ Some fault.link =
    means_first (Repeats links) (repeats links) (length links) fault.link (repeats_says links (length links)) r.repeats in
    rw (few, first) (named 2 fault.link fault r.kind refl)

-- ---- no start

no_start_again : (dests : List (List ℕ)) (links : List ClaimsView) (link : ℕ) → NoStart dests links link → start_of dests links ≡ Err (fault_at 3 link)
unfolding start_of
no_start_again dests links link (inl n) =
    let none : first_from (may_start links) 1 (length links) ≡ None = means_none (MayStart links) (may_start links) (length links) (start_says links (length links)) n.none in
    rw none (ap (λ l. Err (fault_at 3 l)) (sym n.named))
no_start_again dests links link (inr (inl t)) =
    let says = start_says links (length links) in
    let first : first_from (may_start links) 1 (length links) ≡ Some t.first = means_first (MayStart links) (may_start links) (length links) t.first says t.is in
    let most = t.second.is.high in
    let low = t.second.holds.0 in
    let second : first_from (may_start links) (t.first + 1) (length links - t.first) ≡ Some link = first_is (may_start links) (t.first + 1) (length links - t.first) link (record {
      low = omega (arith, low);
      high = omega (arith, most, low);
      here = (says.tells link t.second.is).1 t.second.holds.1;
      before = λ other l k. not_so (may_start links other) (λ e.
          t.second.before other (record { low = omega (arith, l); high = omega (arith, k) }) (omega (arith, l), (says.tells other (record { low = omega (arith, l); high = omega (arith, k, most) })).0 e));
    }) in
    rw (first, second) refl
no_start_again dests links link (inr (inr s)) =
    let says = start_says links (length links) in
    let first : first_from (may_start links) 1 (length links) ≡ Some link = means_first (MayStart links) (may_start links) (length links) link says s.is in
    let second : first_from (may_start links) (link + 1) (length links - link) ≡ None =
    none_more (may_start links) (length links) link s.is.is (λ other o t. s.only other o ((says.tells other o).0 t)) in
    let elsewhere : is_one_of dests (div_at links link) ≡ false = not_so (is_one_of dests (div_at links link)) (λ t. s.elsewhere (one_means dests (div_at links link) t)) in
    rw (first, second, elsewhere) refl

some_links : (dests : List (List ℕ)) (links : List ClaimsView) (link : ℕ) → NoStart dests links link → length links ≡ 0 → ⊥
some_links dests links link (inl n) e = let some = n.some in omega (arith, some, e)
some_links dests links link (inr (inl t)) e = let low = t.is.is.low in let high = t.is.is.high in omega (arith, low, high, e)
some_links dests links link (inr (inr s)) e = let low = s.is.is.low in let high = s.is.is.high in omega (arith, low, high, e)

start_fault_again : (origin : ClaimsView) (links : List ClaimsView) (called : Option (List ℕ)) (fault : ChainFault) → Start origin.dest links fault
    → order_of origin links called ≡ Err fault
unfolding order_of
start_fault_again origin links called fault s =
    let few = small links s.few in
    let apart = none_repeats links s.apart in
    let some : (length links == 0) ≡ false = ne_eqb (length links) 0 (some_links origin.dest links fault.link s.no_start) in
    let none : start_of origin.dest links ≡ Err (fault_at 3 fault.link) = no_start_again origin.dest links fault.link s.no_start in
    rw (few, apart, some, none) (named 3 fault.link fault s.kind refl)

-- ---- a start, and no order

way_fault_again : (origin : ClaimsView) (links : List ClaimsView) (called : Option (List ℕ)) (start : ℕ) (fault : ChainFault) → Started origin links start
    → way_from links called start ≡ Err fault → order_of origin links called ≡ Err fault
unfolding order_of
way_fault_again origin links called start fault s e =
    let few = small links s.few in
    let apart = none_repeats links s.apart in
    let some : (length links == 0) ≡ false = ne_eqb (length links) 0 (λ z. let low = s.starts.is.is.low in let high = s.starts.is.is.high in omega (arith, low, high, z)) in
    let begins : start_of origin.dest links ≡ Ok start = start_again origin.dest links start s.starts in
    rw (few, apart, some, begins) e

cut_again : (origin : ClaimsView) (links : List ClaimsView) (called : Option (List ℕ)) (fault : ChainFault) → Cut origin.dest links fault
    → order_of origin links called ≡ Err fault
unfolding way_from
cut_again origin links called fault c =
    let s : Started origin links c.start = record { few = c.few; apart = c.apart; starts = c.starts } in
    let turn = c.start ∷ behind links c.start in
    let left : first_from (is_left turn) 1 (length links) ≡ Some fault.link =
    means_first (IsLeft links c.start) (is_left turn) (length links) fault.link (left_says links c.start (is_walked origin links c.start s)) c.left in
    way_fault_again origin links called c.start fault s (rw left (named 4 fault.link fault c.kind refl))

-- the last link is that of the way
last_of_way : (links : List ClaimsView) (start link : ℕ) → IsOneOf (length links) start → is_among link (start ∷ behind links start) ≡ true → IsLast links link
    → last_of start (behind links start) ≡ link
last_of_way links start link is on last = elim (next_there start (behind links start) link on) [
  | inl same ↦ sym same
  | inr (other, next) ↦
      let way = behind links start in
      let at : IsOneOf (length links) other = within_among (length links) way other (behind_within links start) (next_second start way link other next) in
      absurd (last other at (next_follows links start way link other (behind_follow links start) next))
]

later_again : (origin : ClaimsView) (links : List ClaimsView) (called : Option (List ℕ)) (fault : ChainFault) → fault.kind ≡ 5
    → EndsLater origin.dest links called fault.link → order_of origin links called ≡ Err fault
unfolding way_from
later_again origin links called fault kind l =
    let s : Started origin links l.start = record { few = l.few; apart = l.apart; starts = l.starts } in
    let w = is_walked origin links l.start s in
    let way = behind links l.start in
    let each : (link : ℕ) → IsOneOf (length links) link → is_among link (l.start ∷ way) ≡ true = λ link is.
    let r = l.reached link is in reached_on links l.start r.0 link w is r.1 in
    let left : first_from (is_left (l.start ∷ way)) 1 (length links) ≡ None = each_found (l.start ∷ way) (length links) each in
    let last : last_of l.start way ≡ fault.link = last_of_way links l.start fault.link l.starts.is.is (each fault.link l.is) l.last in
    let elsewhere : calls called (dest_at links fault.link) ≡ false =
    not_so (calls called (dest_at links fault.link)) (λ t. l.elsewhere ((calls_means called (dest_at links fault.link)).0 t)) in
    way_fault_again origin links called l.start fault s (rw (left, last, elsewhere) (named 5 fault.link fault kind refl))

once_again : (origin : ClaimsView) (links : List ClaimsView) (called : Option (List ℕ)) (fault : ChainFault) → fault.kind ≡ 5
    → EndsAtOnce origin.dest links called fault.link → order_of origin links called ≡ Err fault
unfolding order_of undiverted
once_again origin links called fault kind o =
    let few = small links (let none = o.none in omega (arith, none)) in
    let apart : first_from (repeats links) 1 (length links) ≡ None = first_isnt (repeats links) 1 (length links) (λ link l k. let none = o.none in absurd (omega (arith, none, l, k))) in
    let empty : (length links == 0) ≡ true = eq-eqb (length links) 0 o.none in
    let elsewhere : calls_one_of origin.dest called ≡ false =
    not_so (calls_one_of origin.dest called) (λ t. o.elsewhere ((called_means origin.dest called).0 t)) in
    rw (few, apart, empty, elsewhere) (named 5 0 fault kind o.named)

fault_again : (origin : ClaimsView) (links : List ClaimsView) (called : Option (List ℕ)) (fault : ChainFault) → IsFault origin links called fault
    → order_of origin links called ≡ Err fault
fault_again origin links called fault (inl m) = many_again origin links called fault m
fault_again origin links called fault (inr (inl r)) = repeat_again origin links called fault r
fault_again origin links called fault (inr (inr (inl s))) = start_fault_again origin links called fault s
fault_again origin links called fault (inr (inr (inr (inl c)))) = cut_again origin links called fault c
fault_again origin links called fault (inr (inr (inr (inr c)))) = elim c.ends [
  | inl once ↦ once_again origin links called fault c.kind once
  | inr later ↦ later_again origin links called fault c.kind later
]

pub fault_only : (origin : ClaimsView) (links : List ClaimsView) (called : Option (List ℕ)) (result : Result Order ChainFault)
    → order_seen result ≡ order_of origin links called → (fault : ChainFault) → IsFault origin links called fault → result ≡ Err fault
fault_only origin links called (Ok order) e fault f =
    let same : ◌≡◌ {A = Result (List ℕ) ChainFault} (order_seen (Ok order)) (Err fault) = e ∙ fault_again origin links called fault f in absurd cc
fault_only origin links called (Err own) e fault f =
    let same : ◌≡◌ {A = Result (List ℕ) ChainFault} (Err own) (Err fault) = e ∙ fault_again origin links called fault f in cc
