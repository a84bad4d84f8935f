-- If no order is found, the first of the five faults is why; and what each order meets.
use Rattle.std.proofs.Common.{◌≡◌, ℕ, zero, suc, ◌==◌, ◌<◌, ◌≤◌, Bool, true, false, not, cond, nat_lt, inl, inr, List, [], ◌∷◌, length, get_or, Option, Some, None, Result, Ok, Err, refl, sym, ap, ◌∙◌, subst, arith}
use Rattle.std.specs.Prelude.{IfOk, IfErr}
use Rattle.std.specs.Result.{IsOkAnd}
use Rattle.std.proofs.lemmas.Bool.{both_ways, cases_Bool, eqb-true, eqb-false, ltb-false, ltb-true, not-false}
use Rattle.std.proofs.lemmas.List.{get_or-take}
use Rattle.passport_claims.specs.Passport.{ClaimsView}
use Rattle.passport_claims.specs.Links.{AreWithin, IsOneOf, dest_at, div_at}
use Rattle.passport_claims.specs.Order.{Follow, IsOrder, NoneTwice, is_among, last_of}
use Rattle.passport_claims.specs.OrderFault.{IsFault, IsLast, IsLeft, IsStart, OfNone, ReachedIn, Repeats}
use Rattle.passport_claims.specs.OrderReading.{behind, calls, calls_one_of, fault_at, first_from, is_left, leads_from, order_of, repeats, start_of, started, undiverted, unless_left, unless_repeated, way_from}
use Rattle.passport_claims.specs.OrderSeen.{IsFilled, IsTurn, order_seen, turn_of}
use Rattle.passport_claims.specs.declared.order.ChainFault.{ChainFault}
use Rattle.passport_claims.specs.declared.order.Order.{Order}
use Rattle.passport_claims.proofs.FirstLaws.{Says, equal_bytes, first_means, first_none, is_left_is, leads_from_is, none_means}
use Rattle.passport_claims.proofs.LinkLaws.{Distinct, called_means, calls_means, distinct, repeats_says}
use Rattle.passport_claims.proofs.OrderLaws.{is_order, next_follows, order_again, way_once}
use Rattle.passport_claims.proofs.StartLaws.{StartIs, start_is}
use Rattle.passport_claims.proofs.TurnLaws.{Next, among_cases, among_first, among_later, has_each, next_first, next_of, next_second, next_there, none_behind_last, within_among}
use Rattle.passport_claims.proofs.WayLaws.{behind_ends, behind_follow, behind_within, last_within}

-- ---- what is reached from the start

Reached : List ClaimsView → ℕ → ℕ → Type 0
Reached links start link = (steps : ℕ) × ReachedIn links start steps link

-- what is on the way is reached
on_way : (links : List ClaimsView) (start steps first : ℕ) (later : List ℕ) (link : ℕ) → ReachedIn links start steps first → AreWithin (length links) (first ∷ later)
    → Follow links first later → is_among link (first ∷ later) ≡ true → Reached links start link
unfolding Reached
on_way links start steps first [] link here within follow e = elim (among_cases link first [] e) [
  | inl same ↦ (steps, subst (ReachedIn links start steps) same here)
  | inr none ↦ absurd cc
]
on_way links start steps first (second ∷ later) link here within follow e = elim (among_cases link first (second ∷ later) e) [
  | inl same ↦ (steps, subst (ReachedIn links start steps) same here)
  | inr further ↦ on_way links start (suc steps) second later link (first, within.0, here, follow.0) within.1 follow.1 further
]

-- a way from the start, as it is found
pub record Walked (links : List ClaimsView) (start : ℕ) : Type 0 where
  pub apart : Distinct links
  pub within : AreWithin (length links) (start ∷ behind links start)
  pub once : NoneTwice (start ∷ behind links start)

-- what goes on from the way is on it
goes_on : (links : List ClaimsView) (start one link : ℕ) → Walked links start → IsOneOf (length links) link → is_among one (start ∷ behind links start) ≡ true
    → div_at links link ≡ dest_at links one → is_among link (start ∷ behind links start) ≡ true
goes_on links start one link w is e goes =
    let way = behind links start in
    elim (next_there start way one e) [
      | inr (other, next) ↦
          let on : is_among other way ≡ true = next_second start way one other next in
          let same : other ≡ link = w.apart.divs other link (within_among (length links) (start ∷ way) other w.within (among_later other start way on)) is
          (next_follows links start way one other (behind_follow links start) next ∙ sym goes) in
          subst (λ l. is_among l (start ∷ way) ≡ true) same (among_later other start way on)
      | inl last ↦ elim (behind_ends links start) [
        | inl full ↦
            let low = w.within.0.low in
            let high = w.within.0.high in
            has_each (length links) (start ∷ way) w.within w.once (omega (arith, full, low, high)) link is
        | inr ends ↦
            let high = is.high in
            let passed : leads_from links (dest_at links (last_of start way)) link ≡ false =
            first_none (leads_from links (dest_at links (last_of start way))) 1 (length links) ends link is.low (omega (arith, high)) in
            absurd (both_ways (leads_from links (dest_at links (last_of start way)) link) passed
            (leads_from_is links (dest_at links (last_of start way)) link
            ∙ equal_bytes (div_at links link) (dest_at links (last_of start way)) (goes ∙ ap (dest_at links) last)))
      ]
    ]

-- what is reached is on the way
pub reached_on : (links : List ClaimsView) (start steps link : ℕ) → Walked links start → IsOneOf (length links) link → ReachedIn links start steps link
    → is_among link (start ∷ behind links start) ≡ true
reached_on links start zero link w is r = among_first link start (behind links start) (sym r)
reached_on links start (suc steps) link w is r = goes_on links start r.0 link w is (reached_on links start steps r.0 w r.1 r.2) r.3

pub left_says : (links : List ClaimsView) (start : ℕ) → Walked links start → Says (IsLeft links start) (is_left (start ∷ behind links start)) (length links)
unfolding Reached
left_says links start w =
    let turn = start ∷ behind links start in
    record {
      tells = λ link is. (
        λ t steps r. both_ways (is_left turn link) (is_left_is turn link ∙ ap not (reached_on links start steps link w is r)) t,
        λ left. elim (cases_Bool (is_left turn link)) [
          | inl t ↦ t
          | inr f ↦
              let on : is_among link turn ≡ true = not-false (is_among link turn) (sym (is_left_is turn link) ∙ f) in
              let r = on_way links start 0 start (behind links start) link refl w.within (behind_follow links start) on in
              absurd (left r.0 r.1)
        ],
      );
    }

-- ---- the answer is an order or a fault

abbrev pub AnswerIs : ClaimsView → List ClaimsView → Option (List ℕ) → Result (List ℕ) ChainFault → Type 0
AnswerIs origin links called (Ok turn) = IsOrder origin links called turn
AnswerIs origin links called (Err fault) = IsFault origin links called fault

-- what is known if a start was found
pub record Started (origin : ClaimsView) (links : List ClaimsView) (start : ℕ) : Type 0 where
  pub few : length links ≤ 8
  pub apart : OfNone (Repeats links) (length links)
  pub starts : IsStart origin.dest links start

pub is_walked : (origin : ClaimsView) (links : List ClaimsView) (start : ℕ) → Started origin links start → Walked links start
is_walked origin links start s =
    let d = distinct links s.apart in
    let within : AreWithin (length links) (start ∷ behind links start) = (s.starts.is.is, behind_within links start) in
    record { apart = d; within = within; once = way_once links start (behind links start) d s.starts.is.holds within (behind_follow links start) }

-- no link goes on from the last
is_last : (origin : ClaimsView) (links : List ClaimsView) (start : ℕ) → Started origin links start
    → ((link : ℕ) → IsOneOf (length links) link → is_among link (start ∷ behind links start) ≡ true) → IsLast links (last_of start (behind links start))
is_last origin links start s each = λ other is goes.
    let way = behind links start in
    let last = last_of start way in
    let w = is_walked origin links start s in
    let at = last_within links start s.starts.is.is in
    elim (among_cases other start way (each other is)) [
      | inl first ↦ s.starts.is.holds last at (sym goes ∙ ap (div_at links) (sym first))
      | inr later ↦
          let n = next_of start way other later in
          let on : IsOneOf (length links) n.0 = within_among (length links) (start ∷ way) n.0 w.within (next_first start way n.0 other n.1) in
          let same : n.0 ≡ last = w.apart.dests n.0 last on at (sym (next_follows links start way n.0 other (behind_follow links start) n.1) ∙ goes) in
          none_behind_last start way other w.once (subst (λ l. Next start way l other) same n.1)
    ]

ended_is : (origin : ClaimsView) (links : List ClaimsView) (called : Option (List ℕ)) (start : ℕ) (t : Bool) → Started origin links start
    → first_from (is_left (start ∷ behind links start)) 1 (length links) ≡ None
    → calls called (dest_at links (last_of start (behind links start))) ≡ t
    → AnswerIs origin links called (cond t (Ok (start ∷ behind links start)) (Err (fault_at 5 (last_of start (behind links start)))))
unfolding Reached
ended_is origin links called start true s left e = is_order origin links called start s.few s.apart s.starts left e
ended_is origin links called start false s left e =
    let turn = start ∷ behind links start in
    let w = is_walked origin links start s in
    let each : (link : ℕ) → IsOneOf (length links) link → is_among link turn ≡ true = λ link is. let high = is.high in
    not-false (is_among link turn) (sym (is_left_is turn link) ∙ first_none (is_left turn) 1 (length links) left link is.low (omega (arith, high))) in
    inr (inr (inr (inr (record {
      kind = refl;
      ends = inr (record {
        few = s.few;
        apart = s.apart;
        start = start;
        starts = s.starts;
        reached = λ other is. on_way links start 0 start (behind links start) other refl w.within (behind_follow links start) (each other is);
        is = last_within links start s.starts.is.is;
        last = is_last origin links start s each;
        elsewhere = λ is. both_ways (calls called (dest_at links (last_of start (behind links start)))) e ((calls_means called (dest_at links (last_of start (behind links start)))).1 is);
      });
    }))))

left_is : (origin : ClaimsView) (links : List ClaimsView) (called : Option (List ℕ)) (start : ℕ) (left : Option ℕ) → Started origin links start
    → first_from (is_left (start ∷ behind links start)) 1 (length links) ≡ left → AnswerIs origin links called (unless_left links called start (behind links start) left)
left_is origin links called start (Some link) s e = inr (inr (inr (inl (record {
  kind = refl;
  few = s.few;
  apart = s.apart;
  start = start;
  starts = s.starts;
  left = first_means (IsLeft links start) (is_left (start ∷ behind links start)) (length links) link (left_says links start (is_walked origin links start s)) e;
}))))
left_is origin links called start None s e = ended_is origin links called start (calls called (dest_at links (last_of start (behind links start)))) s e refl

way_is : (origin : ClaimsView) (links : List ClaimsView) (called : Option (List ℕ)) (start : ℕ) → Started origin links start
    → AnswerIs origin links called (way_from links called start)
unfolding way_from
way_is origin links called start s = left_is origin links called start (first_from (is_left (start ∷ behind links start)) 1 (length links)) s refl

started_is : (origin : ClaimsView) (links : List ClaimsView) (called : Option (List ℕ)) (start : Result ℕ ChainFault) → length links ≤ 8 → OfNone (Repeats links) (length links)
    → StartIs origin.dest links start → AnswerIs origin links called (started links called start)
started_is origin links called (Err fault) few apart s = inr (inr (inl (record { kind = s.0; few = few; apart = apart; no_start = s.1 })))
started_is origin links called (Ok start) few apart s = way_is origin links called start (record { few = few; apart = apart; starts = s })

undiverted_is : (origin : ClaimsView) (links : List ClaimsView) (called : Option (List ℕ)) (t : Bool) → length links ≡ 0 → calls_one_of origin.dest called ≡ t
    → AnswerIs origin links called (cond t (Ok []) (Err (fault_at 5 0)))
undiverted_is origin links called true none e = record {
  few = omega (arith, none);
  once = record {
    within = tt;
    each = λ link is. let low = is.low in let high = is.high in absurd (omega (arith, none, low, high));
    once = tt;
    as_many = sym none;
  };
  way = (called_means origin.dest called).0 e;
}
undiverted_is origin links called false none e = inr (inr (inr (inr (record {
  kind = refl;
  ends = inl (record { none = none; named = refl; elsewhere = λ is. both_ways (calls_one_of origin.dest called) e ((called_means origin.dest called).1 is) });
}))))

apart_is : (origin : ClaimsView) (links : List ClaimsView) (called : Option (List ℕ)) (empty : Bool) → length links ≤ 8 → OfNone (Repeats links) (length links)
    → (length links == 0) ≡ empty → AnswerIs origin links called (cond empty (undiverted origin.dest called) (started links called (start_of origin.dest links)))
unfolding undiverted
apart_is origin links called true few apart e = undiverted_is origin links called (calls_one_of origin.dest called) (eqb-true (length links) 0 e) refl
apart_is origin links called false few apart e =
    let some : length links ≡ 0 → ⊥ = eqb-false (length links) 0 e in
    started_is origin links called (start_of origin.dest links) few apart (start_is origin.dest links (omega (arith, some)))

repeated_is : (origin : ClaimsView) (links : List ClaimsView) (called : Option (List ℕ)) (repeat : Option ℕ) → length links ≤ 8
    → first_from (repeats links) 1 (length links) ≡ repeat → AnswerIs origin links called (unless_repeated origin.dest links called repeat)
repeated_is origin links called (Some link) few e = inr (inl (record {
  kind = refl;
  few = few;
  repeats = first_means (Repeats links) (repeats links) (length links) link (repeats_says links (length links)) e;
}))
repeated_is origin links called None few e =
    apart_is origin links called (length links == 0) few (none_means (Repeats links) (repeats links) (length links) (repeats_says links (length links)) e) refl

many_is : (origin : ClaimsView) (links : List ClaimsView) (called : Option (List ℕ)) (many : Bool) → nat_lt 8 (length links) ≡ many
    → AnswerIs origin links called (cond many (Err (fault_at 1 9)) (unless_repeated origin.dest links called (first_from (repeats links) 1 (length links))))
many_is origin links called true e = inl (record { kind = refl; link = refl; many = ltb-true 8 (length links) e })
many_is origin links called false e = repeated_is origin links called (first_from (repeats links) 1 (length links)) (ltb-false 8 (length links) e) refl

pub answer_is : (origin : ClaimsView) (links : List ClaimsView) (called : Option (List ℕ)) → AnswerIs origin links called (order_of origin links called)
unfolding order_of
answer_is origin links called = many_is origin links called (nat_lt 8 (length links)) refl

-- ---- what callers see of it

pub order_of_found : (origin : ClaimsView) (links : List ClaimsView) (called : Option (List ℕ)) (turn : List ℕ) → order_of origin links called ≡ Ok turn → IsOrder origin links called turn
order_of_found origin links called turn e = subst (AnswerIs origin links called) e (answer_is origin links called)

pub order_found : (origin : ClaimsView) (links : List ClaimsView) (called : Option (List ℕ)) (result : Result Order ChainFault)
    → order_seen result ≡ order_of origin links called → IfOk result (λ order. IsOrder origin links called (turn_of order))
order_found origin links called (Ok order) e = subst (AnswerIs origin links called) (sym e) (answer_is origin links called)
order_found origin links called (Err fault) e = tt

pub fault_found : (origin : ClaimsView) (links : List ClaimsView) (called : Option (List ℕ)) (result : Result Order ChainFault)
    → order_seen result ≡ order_of origin links called → IfErr result (λ fault. IsFault origin links called fault)
fault_found origin links called (Ok order) e = tt
fault_found origin links called (Err fault) e = subst (AnswerIs origin links called) (sym e) (answer_is origin links called)

pub order_only : (origin : ClaimsView) (links : List ClaimsView) (called : Option (List ℕ)) (result : Result Order ChainFault)
    → order_seen result ≡ order_of origin links called → (turn : List ℕ) → IsOrder origin links called turn → IsOkAnd result (λ order. turn_of order ≡ turn)
order_only origin links called (Ok order) e turn o =
    let same : ◌≡◌ {A = Result (List ℕ) ChainFault} (Ok (turn_of order)) (Ok turn) = e ∙ order_again origin links called turn o in cc
order_only origin links called (Err fault) e turn o =
    let same : ◌≡◌ {A = Result (List ℕ) ChainFault} (Err fault) (Ok turn) = e ∙ order_again origin links called turn o in absurd cc

within_at : (count : ℕ) (turn : List ℕ) (place : ℕ) → AreWithin count turn → place < length turn → IsOneOf count (get_or turn place 0)
within_at count [] place within inside = absurd (omega (arith, inside))
within_at count (link ∷ turn) zero within inside = within.0
within_at count (link ∷ turn) (suc place) within inside = within_at count turn place within.1 (omega (arith, inside))

order_turn : (origin : ClaimsView) (links : List ClaimsView) (called : Option (List ℕ)) (order : Order) → IsFilled order → IsOrder origin links called (turn_of order)
    → IsTurn (length links) order
order_turn origin links called order f o =
    let turns = f.turns in
    record {
      all = sym f.turns ∙ o.once.as_many;
      few = f.few;
      turns = f.turns;
      within = o.once.within;
      each = λ place inside. subst (IsOneOf (length links)) (get_or-take order.length order.turn place 0 inside)
          (within_at (length links) (turn_of order) place o.once.within (omega (arith, turns, inside)));
      rest = f.rest;
    }

pub turn_found : (origin : ClaimsView) (links : List ClaimsView) (called : Option (List ℕ)) (result : Result Order ChainFault)
    → order_seen result ≡ order_of origin links called → IfOk result IsFilled → IfOk result (λ order. IsTurn (length links) order)
turn_found origin links called (Ok order) e f = order_turn origin links called order f (order_found origin links called (Ok order) e)
turn_found origin links called (Err fault) e f = tt

-- the link that shows a fault is one of them, or there is none
link_within : (origin : ClaimsView) (links : List ClaimsView) (called : Option (List ℕ)) (fault : ChainFault) → IsFault origin links called fault → fault.link ≤ length links
link_within origin links called fault (inl m) = let many = m.many in let is = m.link in omega (arith, many, is)
link_within origin links called fault (inr (inl r)) = r.repeats.is.high
link_within origin links called fault (inr (inr (inl s))) = elim s.no_start [
  | inl none ↦ let some = none.some in let is = none.named in omega (arith, some, is)
  | inr more ↦ elim more [
    | inl two ↦ two.second.is.high
    | inr elsewhere ↦ elsewhere.is.is.high
  ]
]
link_within origin links called fault (inr (inr (inr (inl c)))) = c.left.is.high
link_within origin links called fault (inr (inr (inr (inr c)))) = elim c.ends [
  | inl once ↦ let is = once.named in omega (arith, is)
  | inr later ↦ later.is.high
]

pub link_found : (origin : ClaimsView) (links : List ClaimsView) (called : Option (List ℕ)) (result : Result Order ChainFault)
    → order_seen result ≡ order_of origin links called → IfErr result (λ fault. fault.link ≤ length links)
link_found origin links called (Ok order) e = tt
link_found origin links called (Err fault) e = link_within origin links called fault (fault_found origin links called (Err fault) e)
