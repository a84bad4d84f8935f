-- What is found is an order, each order is found, and there is one at most.
use Rattle.std.proofs.Common.{◌≡◌, ℕ, ◌==◌, ◌-◌, ◌≤◌, true, false, not, nat_lt, ◌⊎◌, inl, inr, List, [], ◌∷◌, length, Option, Some, None, Result, Ok, refl, sym, ap, ◌∙◌, subst, arith}
use Rattle.std.specs.Prelude.{Contains}
use Rattle.std.proofs.lemmas.Bool.{eq-eqb, le-ltb, ne_eqb, not-false}
use Rattle.passport_claims.specs.Passport.{ClaimsView}
use Rattle.passport_claims.specs.Links.{AreWithin, IsOneOf, dest_at, div_at}
use Rattle.passport_claims.specs.Order.{AreApart, Follow, IsCalled, IsOrder, IsWay, ListsOnce, NoneTwice, is_among, last_of}
use Rattle.passport_claims.specs.OrderFault.{IsStart, MayStart, OfNone, Repeats}
use Rattle.passport_claims.specs.OrderReading.{behind, calls, calls_one_of, first_from, is_left, leads_from, order_of, repeats, start_of, undiverted, walk, way_from}
use Rattle.passport_claims.specs.declared.order.ChainFault.{ChainFault}
use Rattle.passport_claims.proofs.FirstLaws.{equal_bytes, first_isnt, first_none, is_left_is, leads_from_is, means_none, only_one}
use Rattle.passport_claims.proofs.LinkLaws.{Distinct, called_means, calls_means, distinct, not_repeated, repeats_says}
use Rattle.passport_claims.proofs.StartLaws.{start_again}
use Rattle.passport_claims.proofs.TurnLaws.{Next, among_cases, next_differs, next_first, next_of, next_unique, no_fewer, within_among}
use Rattle.passport_claims.proofs.WayLaws.{behind_follow, behind_short, behind_within, walk_on}
use Rattle.lists.proofs.Bytes.{bytes_same}

-- ---- a way whose links follow one another

-- what is next has the dest of the one before it as div
pub next_follows : (links : List ClaimsView) (first : ℕ) (later : List ℕ) (one other : ℕ) → Follow links first later → Next first later one other
    → div_at links other ≡ dest_at links one
next_follows links first [] one other follow next = absurd next
next_follows links first (second ∷ later) one other follow (inl (e, f)) = ap (div_at links) f ∙ follow.0 ∙ ap (dest_at links) (sym e)
next_follows links first (second ∷ later) one other follow (inr next) = next_follows links second later one other follow.1 next

-- the link before another that isn't the first
record Before (links : List ClaimsView) (first : ℕ) (later : List ℕ) (other : ℕ) : Type 0 where
  link : ℕ
  is : IsOneOf (length links) link
  next : Next first later link other
  dest : div_at links other ≡ dest_at links link

before : (links : List ClaimsView) (first : ℕ) (later : List ℕ) (other : ℕ) → AreWithin (length links) (first ∷ later) → Follow links first later
    → is_among other later ≡ true → Before links first later other
before links first later other within follow e =
    let n = next_of first later other e in
    record {
      link = n.0;
      is = within_among (length links) (first ∷ later) n.0 within (next_first first later n.0 other n.1);
      next = n.1;
      dest = next_follows links first later n.0 other follow n.1;
    }

-- ---- what is found is an order

-- none is twice in a way that doesn't come back to its first link
none_twice : (links : List ClaimsView) (first : ℕ) (later : List ℕ) → Distinct links → IsOneOf (length links) first → AreWithin (length links) later
    → Follow links first later → (is_among first later ≡ true → ⊥) → NoneTwice later
none_twice links first [] d is within follow apart = tt
none_twice links first (second ∷ later) d is within follow apart =
    let alone : is_among second later ≡ true → ⊥ = λ e.
    let b = before links second later second within follow.1 e in
    let same : b.link ≡ first = d.dests b.link first b.is is (sym b.dest ∙ follow.0) in
    apart (subst (λ l. is_among l (second ∷ later) ≡ true) same (next_first second later b.link second b.next)) in
    (alone, none_twice links second later d within.0 within.1 follow.1 alone)

pub way_once : (links : List ClaimsView) (first : ℕ) (later : List ℕ) → Distinct links → MayStart links first → AreWithin (length links) (first ∷ later)
    → Follow links first later → NoneTwice (first ∷ later)
way_once links first later d start within follow =
    let alone : is_among first later ≡ true → ⊥ = λ e.
    let b = before links first later first within follow e in start b.link b.is (sym b.dest) in
    (alone, none_twice links first later d within.0 within.1 follow alone)

none_left : (turn : List ℕ) (count : ℕ) → first_from (is_left turn) 1 count ≡ None → (link : ℕ) → IsOneOf count link → is_among link turn ≡ true
none_left turn count e link is =
    let high = is.high in
    not-false (is_among link turn) (sym (is_left_is turn link) ∙ first_none (is_left turn) 1 count e link is.low (omega (arith, high)))

-- the called number is the last dest
is_way : (dests : List (List ℕ)) (links : List ClaimsView) (called : Option (List ℕ)) (start : ℕ) → Distinct links → IsStart dests links start
    → calls called (dest_at links (last_of start (behind links start))) ≡ true → IsWay dests links called start (behind links start)
is_way dests links called start d s e = record {
  start = s.called;
  follow = behind_follow links start;
  end = (calls_means called (dest_at links (last_of start (behind links start)))).0 e;
  apart = record { dests = d.dests; start = s.is.holds };
}

pub is_order : (origin : ClaimsView) (links : List ClaimsView) (called : Option (List ℕ)) (start : ℕ) → length links ≤ 8 → OfNone (Repeats links) (length links)
    → IsStart origin.dest links start → first_from (is_left (start ∷ behind links start)) 1 (length links) ≡ None
    → calls called (dest_at links (last_of start (behind links start))) ≡ true → IsOrder origin links called (start ∷ behind links start)
is_order origin links called start few apart s left end =
    let d = distinct links apart in
    let within : AreWithin (length links) (start ∷ behind links start) = (s.is.is, behind_within links start) in
    let each = none_left (start ∷ behind links start) (length links) left in
    let low = s.is.is.low in
    let high = s.is.is.high in
    record {
      few = few;
      once = record {
        within = within;
        each = each;
        once = way_once links start (behind links start) d s.is.holds within (behind_follow links start);
        as_many = omega (arith, behind_short links start, no_fewer (length links) (start ∷ behind links start) each, low, high);
      };
      way = is_way origin.dest links called start d s end;
    }

-- ---- each order is found

-- the links of an order repeat no number
record Ordered (links : List ClaimsView) (first : ℕ) (later : List ℕ) : Type 0 where
  once : ListsOnce (length links) (first ∷ later)
  follow : Follow links first later
  apart : AreApart links first

-- a link of an order is the first, or there is one before it
placed_at : (links : List ClaimsView) (first : ℕ) (later : List ℕ) (link : ℕ) → Ordered links first later → IsOneOf (length links) link
    → (first ≡ link) ⊎ Before links first later link
placed_at links first later link o is = elim (among_cases link first later (o.once.each link is)) [
  | inl same ↦ inl same
  | inr behind ↦ inr (before links first later link o.once.within o.follow behind)
]

-- what comes after another has a div other than that of the first
not_first : (links : List ClaimsView) (first : ℕ) (later : List ℕ) (link : ℕ) → Ordered links first later → Before links first later link
    → div_at links link ≡ div_at links first → ⊥
not_first links first later link o b e = o.apart.start b.link b.is (sym b.dest ∙ e)

ordered_own : (links : List ClaimsView) (first : ℕ) (later : List ℕ) (link : ℕ) → Ordered links first later → IsOneOf (length links) link
    → div_at links link ≡ dest_at links link → ⊥
ordered_own links first later link o is e = elim (placed_at links first later link o is) [
  | inl same ↦ o.apart.start link is (sym e ∙ ap (div_at links) (sym same))
  | inr b ↦ let itself : b.link ≡ link = o.apart.dests b.link link b.is is (sym b.dest ∙ e) in
      next_differs first later link o.once.once (subst (λ l. Next first later l link) itself b.next)
]

ordered_divs : (links : List ClaimsView) (first : ℕ) (later : List ℕ) (one other : ℕ) → Ordered links first later → IsOneOf (length links) one
    → IsOneOf (length links) other → div_at links one ≡ div_at links other → one ≡ other
ordered_divs links first later one other o is at e = elim (placed_at links first later one o is) [
  | inl same ↦ elim (placed_at links first later other o at) [
    | inl also ↦ sym same ∙ also
    | inr b ↦ absurd (not_first links first later other o b (sym e ∙ ap (div_at links) (sym same)))
  ]
  | inr a ↦ elim (placed_at links first later other o at) [
    | inl same ↦ absurd (not_first links first later one o a (e ∙ ap (div_at links) (sym same)))
    | inr b ↦ let before_both : a.link ≡ b.link = o.apart.dests a.link b.link a.is b.is (sym a.dest ∙ e ∙ b.dest) in
        next_unique first later b.link one other o.once.once (subst (λ l. Next first later l one) before_both a.next) b.next
  ]
]

ordered_distinct : (links : List ClaimsView) (first : ℕ) (later : List ℕ) → Ordered links first later → Distinct links
ordered_distinct links first later o = record {
  own = λ link. ordered_own links first later link o;
  divs = λ one other. ordered_divs links first later one other o;
  dests = o.apart.dests;
}

-- and start with the first alone
ordered_start : (dests : List (List ℕ)) (links : List ClaimsView) (called : Option (List ℕ)) (first : ℕ) (later : List ℕ) → Ordered links first later
    → Contains dests (div_at links first) → IsStart dests links first
ordered_start dests links called first later o here =
    let only : (other : ℕ) → IsOneOf (length links) other → MayStart links other → other ≡ first = λ other is may. elim (placed_at links first later other o is) [
      | inl same ↦ sym same
      | inr b ↦ absurd (may b.link b.is (sym b.dest))
    ] in
    let is = o.once.within.0 in
    record {
      is = record {
        is = is;
        holds = o.apart.start;
        before = λ other below may.
            let high = below.high in
            let most = is.high in
            let low = is.low in
            let same : other ≡ first = only other (record { low = below.low; high = omega (arith, high, most) }) may in
            omega (arith, high, low, same);
      };
      only = only;
      called = here;
    }

-- the walk gives the way
walked : (links : List ClaimsView) (first : ℕ) (later : List ℕ) → Distinct links → AreWithin (length links) later → Follow links first later
    → walk links (length later) (dest_at links first) ≡ later
unfolding walk
walked links first [] d within follow = refl
walked links first (second ∷ later) d within follow =
    let from : leads_from links (dest_at links first) second ≡ true = leads_from_is links (dest_at links first) second ∙ equal_bytes (div_at links second) (dest_at links first) follow.0 in
    let found : first_from (leads_from links (dest_at links first)) 1 (length links) ≡ Some second =
    only_one (leads_from links (dest_at links first)) (length links) second within.0 from (λ other is t.
    d.divs other second is within.0 (bytes_same (div_at links other) (dest_at links first) (sym (leads_from_is links (dest_at links first) other) ∙ t) ∙ sym follow.0)) in
    walk_on links (length later) (dest_at links first) second found ∙ ap (λ xs. second ∷ xs) (walked links second later d within.1 follow.1)

pub each_found : (turn : List ℕ) (count : ℕ) → ((link : ℕ) → IsOneOf count link → is_among link turn ≡ true) → first_from (is_left turn) 1 count ≡ None
each_found turn count each = first_isnt (is_left turn) 1 count (λ link l k. is_left_is turn link ∙ ap not (each link (record { low = l; high = omega (arith, k) })))

way_again : (dests : List (List ℕ)) (links : List ClaimsView) (called : Option (List ℕ)) (first : ℕ) (later : List ℕ) → Ordered links first later
    → IsWay dests links called first later → way_from links called first ≡ Ok (first ∷ later)
unfolding way_from
way_again dests links called first later o w =
    let d = ordered_distinct links first later o in
    let room : length links - 1 ≡ length later = let many = o.once.as_many in omega (arith, many) in
    let is : behind links first ≡ later = ap (λ r. walk links r (dest_at links first)) room ∙ walked links first later d o.once.within.1 o.follow in
    let left : first_from (is_left (first ∷ later)) 1 (length links) ≡ None = each_found (first ∷ later) (length links) o.once.each in
    let end : calls called (dest_at links (last_of first later)) ≡ true = (calls_means called (dest_at links (last_of first later))).1 w.end in
    rw (is, left, end) refl

some_again : (origin : ClaimsView) (links : List ClaimsView) (called : Option (List ℕ)) (first : ℕ) (later : List ℕ) → length links ≤ 8
    → ListsOnce (length links) (first ∷ later) → IsWay origin.dest links called first later → order_of origin links called ≡ Ok (first ∷ later)
unfolding order_of
some_again origin links called first later few once w =
    let o : Ordered links first later = record { once = once; follow = w.follow; apart = w.apart } in
    let d = ordered_distinct links first later o in
    let small : nat_lt 8 (length links) ≡ false = le-ltb 8 (length links) few in
    let apart : first_from (repeats links) 1 (length links) ≡ None = means_none (Repeats links) (repeats links) (length links) (repeats_says links (length links)) (not_repeated links d) in
    let some : (length links == 0) ≡ false = ne_eqb (length links) 0 (λ e. let many = once.as_many in omega (arith, many, e)) in
    let start : start_of origin.dest links ≡ Ok first = start_again origin.dest links first (ordered_start origin.dest links called first later o w.start) in
    rw (small, apart, some, start) (way_again origin.dest links called first later o w)

none_again : (origin : ClaimsView) (links : List ClaimsView) (called : Option (List ℕ)) → length links ≡ 0 → IsCalled origin.dest called → order_of origin links called ≡ Ok []
unfolding order_of undiverted
none_again origin links called none is =
    let small : nat_lt 8 (length links) ≡ false = le-ltb 8 (length links) (omega (arith, none)) in
    let apart : first_from (repeats links) 1 (length links) ≡ None = first_isnt (repeats links) 1 (length links) (λ link l k. absurd (omega (arith, none, l, k))) in
    let empty : (length links == 0) ≡ true = eq-eqb (length links) 0 none in
    let here : calls_one_of origin.dest called ≡ true = (called_means origin.dest called).1 is in
    rw (small, apart, empty, here) refl

pub order_again : (origin : ClaimsView) (links : List ClaimsView) (called : Option (List ℕ)) (turn : List ℕ) → IsOrder origin links called turn
    → order_of origin links called ≡ Ok turn
order_again origin links called [] o = none_again origin links called (sym o.once.as_many) o.way
order_again origin links called (first ∷ later) o = some_again origin links called first later o.few o.once o.way

pub order_unique : (origin : ClaimsView) (links : List ClaimsView) (called : Option (List ℕ)) (one other : List ℕ) → IsOrder origin links called one
    → IsOrder origin links called other → one ≡ other
order_unique origin links called one other a b =
    let e : ◌≡◌ {A = Result (List ℕ) ChainFault} (Ok one) (Ok other) = sym (order_again origin links called one a) ∙ order_again origin links called other b in cc
