-- The links of a call are in the order that they had, and then one link more, exactly if the call goes on by this one.
use Rattle.std.proofs.Common.{◌≡◌, ℕ, zero, suc, ◌+◌, ◌-◌, ◌<◌, ◌≤◌, true, ◌⊎◌, inl, inr, List, [], ◌∷◌, ◌++◌, length, Some, Ok, refl, sym, ap, ◌∙◌, subst, arith}
use Rattle.std.specs.Prelude.{Contains}
use Rattle.std.specs.List.{slice_get}
use Rattle.std.specs.Option.{option_map_or}
use Rattle.std.proofs.lemmas.Bool.{cases_eq, cases_lt}
use Rattle.std.proofs.lemmas.List.{length_push}
use Rattle.std.proofs.lemmas.Option.{same_Some}
use Rattle.passport_claims.specs.Passport.{ClaimsView}
use Rattle.passport_claims.specs.GoesOn.{GoesOn, IsApartFrom}
use Rattle.passport_claims.specs.Links.{AreWithin, IsOneOf, dest_at, dest_of, div_at, div_of}
use Rattle.passport_claims.specs.Order.{AreApart, Follow, IsCalled, IsOrder, IsWay, ListsOnce, NoneTwice, is_among, last_of}
use Rattle.passport_claims.specs.OrderReading.{order_of}
use Rattle.passport_claims.proofs.OrderLaws.{order_again}
use Rattle.passport_claims.proofs.TurnLaws.{among_cases, among_first, among_later, within_among}

-- ---- the numbers of each link

get_still : (links : List ClaimsView) (link : ClaimsView) (at : ℕ) → at < length links → slice_get (links ++ link ∷ []) at ≡ slice_get links at
get_still [] link at inside = absurd (omega (arith, inside))
get_still (one ∷ links) link zero inside = refl
get_still (one ∷ links) link (suc at) inside = get_still links link at (omega (arith, inside))

get_last : (links : List ClaimsView) (link : ClaimsView) → slice_get (links ++ link ∷ []) (length links) ≡ Some link
get_last [] link = refl
get_last (one ∷ links) link = get_last links link

place_of : (count number : ℕ) → IsOneOf count number → number - 1 < count
place_of count number is = let low = is.low in let high = is.high in omega (arith, low, high)

div_still : (links : List ClaimsView) (link : ClaimsView) (number : ℕ) → IsOneOf (length links) number → div_at (links ++ link ∷ []) number ≡ div_at links number
unfolding div_at
div_still links link number is = ap (λ o. option_map_or div_of o []) (get_still links link (number - 1) (place_of (length links) number is))

dest_still : (links : List ClaimsView) (link : ClaimsView) (number : ℕ) → IsOneOf (length links) number → dest_at (links ++ link ∷ []) number ≡ dest_at links number
unfolding dest_at
dest_still links link number is = ap (λ o. option_map_or dest_of o []) (get_still links link (number - 1) (place_of (length links) number is))

got_last : (links : List ClaimsView) (link : ClaimsView) (number : ℕ) → number ≡ length links + 1 → slice_get (links ++ link ∷ []) (number - 1) ≡ Some link
got_last links link number last =
    let place : number - 1 ≡ length links = omega (arith, last) in
    ap (slice_get (links ++ link ∷ [])) place ∙ get_last links link

div_last : (links : List ClaimsView) (link : ClaimsView) (number : ℕ) → number ≡ length links + 1 → div_at (links ++ link ∷ []) number ≡ div_of link
unfolding div_at
div_last links link number last = ap (λ o. option_map_or div_of o []) (got_last links link number last)

dest_last : (links : List ClaimsView) (link : ClaimsView) (number : ℕ) → number ≡ length links + 1 → dest_at (links ++ link ∷ []) number ≡ dest_of link
unfolding dest_at
dest_last links link number last = ap (λ o. option_map_or dest_of o []) (got_last links link number last)

-- ---- each link once

among_still : (link next : ℕ) (turn : List ℕ) → is_among link turn ≡ true → is_among link (turn ++ next ∷ []) ≡ true
among_still link next [] e = absurd cc
among_still link next (other ∷ turn) e = elim (among_cases link other turn e) [
  | inl same ↦ among_first link other (turn ++ next ∷ []) same
  | inr later ↦ among_later link other (turn ++ next ∷ []) (among_still link next turn later)
]

among_last : (next : ℕ) (turn : List ℕ) → is_among next (turn ++ next ∷ []) ≡ true
among_last next [] = among_first next next [] refl
among_last next (other ∷ turn) = among_later next other (turn ++ next ∷ []) (among_last next turn)

among_more : (link next : ℕ) (turn : List ℕ) → is_among link (turn ++ next ∷ []) ≡ true → (is_among link turn ≡ true) ⊎ (next ≡ link)
among_more link next [] e = elim (among_cases link next [] e) [
  | inl same ↦ inr same
  | inr none ↦ absurd cc
]
among_more link next (other ∷ turn) e = elim (among_cases link other (turn ++ next ∷ []) e) [
  | inl same ↦ inl (among_first link other turn same)
  | inr later ↦ elim (among_more link next turn later) [
    | inl there ↦ inl (among_later link other turn there)
    | inr last ↦ inr last
  ]
]

once_more : (turn : List ℕ) (next : ℕ) → NoneTwice turn → (is_among next turn ≡ true → ⊥) → NoneTwice (turn ++ next ∷ [])
once_more [] next once new = (λ e. absurd cc, tt)
once_more (link ∷ turn) next once new = (
  λ e. elim (among_more link next turn e) [
    | inl there ↦ once.0 there
    | inr same ↦ new (among_first next link turn (sym same))
  ],
  once_more turn next once.1 (λ e. new (among_later next link turn e)),
)

within_more : (count : ℕ) (turn : List ℕ) → AreWithin count turn → AreWithin (count + 1) (turn ++ (count + 1) ∷ [])
within_more count [] within = (record { low = omega arith; high = omega arith }, tt)
within_more count (link ∷ turn) within =
    let high = within.0.high in (record { low = within.0.low; high = omega (arith, high) }, within_more count turn within.1)

lists_more : (count : ℕ) (turn : List ℕ) → ListsOnce count turn → ListsOnce (count + 1) (turn ++ (count + 1) ∷ [])
lists_more count turn o = record {
  within = within_more count turn o.within;
  each = λ link is. elim (cases_eq link (count + 1)) [
    | inl same ↦ subst (λ l. is_among l (turn ++ (count + 1) ∷ []) ≡ true) (sym same) (among_last (count + 1) turn)
    | inr other ↦ let high = is.high in among_still link (count + 1) turn (o.each link (record { low = is.low; high = omega (arith, high, other) }))
  ];
  once = once_more turn (count + 1) o.once (λ e. let high = (within_among count turn (count + 1) o.within e).high in omega (arith, high));
  as_many = length_push turn (count + 1) ∙ ap (λ n. n + 1) o.as_many;
}

-- ---- the way

follow_more : (links : List ClaimsView) (link : ClaimsView) (first : ℕ) (later : List ℕ) → AreWithin (length links) (first ∷ later) → Follow links first later
    → div_of link ≡ dest_at links (last_of first later) → Follow (links ++ link ∷ []) first (later ++ (length links + 1) ∷ [])
follow_more links link first [] within follow end = (div_last links link (length links + 1) refl ∙ end ∙ sym (dest_still links link first within.0), tt)
follow_more links link first (second ∷ later) within follow end = (
  div_still links link second within.1.0 ∙ follow.0 ∙ sym (dest_still links link first within.0),
  follow_more links link second later within.1 follow.1 end,
)

last_more : (first : ℕ) (later : List ℕ) (next : ℕ) → last_of first (later ++ next ∷ []) ≡ next
last_more first [] next = refl
last_more first (second ∷ later) next = last_more second later next

-- a link was there, or is the new one
old_or_new : (links : List ClaimsView) (link : ClaimsView) (number : ℕ) → IsOneOf (length (links ++ link ∷ [])) number
    → IsOneOf (length links) number ⊎ (number ≡ length links + 1)
old_or_new links link number is =
    let high = is.high in
    let long = length_push links link in
    elim (cases_lt (length links) number) [
      | inl more ↦ inr (omega (arith, more, high, long))
      | inr less ↦ inl (record { low = is.low; high = less })
    ]

apart_more : (links : List ClaimsView) (link : ClaimsView) (first : ℕ) → IsOneOf (length links) first → AreApart links first → IsApartFrom links first (dest_of link)
    → AreApart (links ++ link ∷ []) first
apart_more links link first at a new = record {
  dests = λ one other is also e. elim (old_or_new links link one is) [
    | inl old ↦ elim (old_or_new links link other also) [
      | inl both ↦ a.dests one other old both (sym (dest_still links link one old) ∙ e ∙ dest_still links link other both)
      | inr last ↦ absurd (new.dests one old (sym (dest_still links link one old) ∙ e ∙ dest_last links link other last))
    ]
    | inr last ↦ elim (old_or_new links link other also) [
      | inl old ↦ absurd (new.dests other old (sym (dest_still links link other old) ∙ sym e ∙ dest_last links link one last))
      | inr both ↦ last ∙ sym both
    ]
  ];
  start = λ number is e. elim (old_or_new links link number is) [
    | inl old ↦ a.start number old (sym (dest_still links link number old) ∙ e ∙ div_still links link first at)
    | inr last ↦ new.start (sym (div_still links link first at) ∙ sym e ∙ dest_last links link number last)
  ];
}

way_more : (dests : List (List ℕ)) (links : List ClaimsView) (link : ClaimsView) (first : ℕ) (later : List ℕ) → AreWithin (length links) (first ∷ later)
    → IsWay dests links (Some (div_of link)) first later → IsApartFrom links first (dest_of link)
    → IsWay dests (links ++ link ∷ []) (Some (dest_of link)) first (later ++ (length links + 1) ∷ [])
way_more dests links link first later within w new = record {
  start = subst (Contains dests) (sym (div_still links link first within.0)) w.start;
  follow = follow_more links link first later within w.follow (same_Some (div_of link) (dest_at links (last_of first later)) w.end);
  end = ap (λ n. Some n) (sym (dest_last links link (last_of first (later ++ (length links + 1) ∷ [])) (last_more first later (length links + 1))));
  apart = apart_more links link first within.0 w.apart new;
}

-- the first link: the call wasn't diverted before
way_first : (dests : List (List ℕ)) (link : ClaimsView) → IsCalled dests (Some (div_of link)) → (dest_of link ≡ div_of link → ⊥)
    → IsWay dests (link ∷ []) (Some (dest_of link)) 1 []
way_first dests link called new =
    let div : div_at (link ∷ []) 1 ≡ div_of link = div_last [] link 1 refl in
    let only : (number : ℕ) → IsOneOf 1 number → number ≡ 1 = λ number is. let low = is.low in let high = is.high in omega (arith, low, high) in
    let number : div_of link ≡ called.0 = same_Some (div_of link) called.0 called.1 in
    record {
      start = subst (Contains dests) (sym (div ∙ number)) called.2;
      follow = tt;
      end = ap (λ n. Some n) (sym (dest_last [] link 1 refl));
      apart = record {
        dests = λ one other is also e. only one is ∙ sym (only other also);
        start = λ number is e. new (sym (dest_last [] link number (only number is)) ∙ e ∙ div);
      };
    }

-- ---- the order

once_of : (links : List ClaimsView) (turn : List ℕ) (link : ClaimsView) → ListsOnce (length links) turn
    → ListsOnce (length (links ++ link ∷ [])) (turn ++ (length links + 1) ∷ [])
once_of links turn link once = subst (λ n. ListsOnce n (turn ++ (length links + 1) ∷ [])) (sym (length_push links link)) (lists_more (length links) turn once)

pub order_more : (origin : ClaimsView) (links : List ClaimsView) (turn : List ℕ) (link : ClaimsView) → GoesOn origin links turn link
    → IsOrder origin (links ++ link ∷ []) (Some (dest_of link)) (turn ++ (length links + 1) ∷ [])
order_more origin [] [] link g = record { few = omega arith; once = once_of [] [] link g.order.once; way = way_first origin.dest link g.order.way g.new }
order_more origin (one ∷ links) [] link g = let none = g.order.once.as_many in absurd (omega (arith, none))
order_more origin links (first ∷ later) link g =
    let few = g.few in
    let long = length_push links link in
    record {
      few = omega (arith, few, long);
      once = once_of links (first ∷ later) link g.order.once;
      way = way_more origin.dest links link first later g.order.once.within g.order.way g.new;
    }

pub order_of_more : (origin : ClaimsView) (links : List ClaimsView) (turn : List ℕ) (link : ClaimsView) → GoesOn origin links turn link
    → order_of origin (links ++ link ∷ []) (Some (dest_of link)) ≡ Ok (turn ++ (length links + 1) ∷ [])
order_of_more origin links turn link g =
    order_again origin (links ++ link ∷ []) (Some (dest_of link)) (turn ++ (length links + 1) ∷ []) (order_more origin links turn link g)

-- ---- each link once, without the last

once_less : (turn : List ℕ) (next : ℕ) → NoneTwice (turn ++ next ∷ []) → NoneTwice turn × (is_among next turn ≡ true → ⊥)
once_less [] next once = (tt, λ e. absurd cc)
once_less (link ∷ turn) next once =
    let rest = once_less turn next once.1 in (
      (λ e. once.0 (among_still link next turn e), rest.0),
      λ e. elim (among_cases next link turn e) [
        | inl same ↦ once.0 (subst (λ l. is_among l (turn ++ next ∷ []) ≡ true) (sym same) (among_last next turn))
        | inr later ↦ rest.1 later
      ],
    )

within_less : (count : ℕ) (turn : List ℕ) → AreWithin (count + 1) (turn ++ (count + 1) ∷ []) → (is_among (count + 1) turn ≡ true → ⊥) → AreWithin count turn
within_less count [] within new = tt
within_less count (link ∷ turn) within new =
    let high = within.0.high in
    let other : link ≡ count + 1 → ⊥ = λ same. new (among_first (count + 1) link turn same) in
    (record { low = within.0.low; high = omega (arith, high, other) }, within_less count turn within.1 (λ e. new (among_later (count + 1) link turn e)))

lists_less : (count : ℕ) (turn : List ℕ) → ListsOnce (count + 1) (turn ++ (count + 1) ∷ []) → ListsOnce count turn
lists_less count turn o =
    let once = once_less turn (count + 1) o.once in
    let many = o.as_many in
    let long = length_push turn (count + 1) in
    record {
      within = within_less count turn o.within once.1;
      each = λ link is.
          let high = is.high in
          elim (among_more link (count + 1) turn (o.each link (record { low = is.low; high = omega (arith, high) }))) [
            | inl there ↦ there
            | inr last ↦ absurd (omega (arith, high, last))
          ];
      once = once.0;
      as_many = omega (arith, many, long);
    }

-- ---- the way, without the last link

abbrev FollowsTo : List ClaimsView → ClaimsView → ℕ → List ℕ → Type 0
FollowsTo links link first later = Follow links first later × (div_of link ≡ dest_at links (last_of first later))

follow_less : (links : List ClaimsView) (link : ClaimsView) (first : ℕ) (later : List ℕ) → AreWithin (length links) (first ∷ later)
    → Follow (links ++ link ∷ []) first (later ++ (length links + 1) ∷ []) → FollowsTo links link first later
follow_less links link first [] within follow = (tt, sym (div_last links link (length links + 1) refl) ∙ follow.0 ∙ dest_still links link first within.0)
follow_less links link first (second ∷ later) within follow =
    let rest = follow_less links link second later within.1 follow.1 in
    ((sym (div_still links link second within.1.0) ∙ follow.0 ∙ dest_still links link first within.0, rest.0), rest.1)

still_one : (links : List ClaimsView) (link : ClaimsView) (number : ℕ) → IsOneOf (length links) number → IsOneOf (length (links ++ link ∷ [])) number
still_one links link number is = let high = is.high in let long = length_push links link in record { low = is.low; high = omega (arith, high, long) }

last_one : (links : List ClaimsView) (link : ClaimsView) → IsOneOf (length (links ++ link ∷ [])) (length links + 1)
last_one links link = let long = length_push links link in record { low = omega arith; high = omega (arith, long) }

apart_less : (links : List ClaimsView) (link : ClaimsView) (first : ℕ) → IsOneOf (length links) first → AreApart (links ++ link ∷ []) first
    → AreApart links first × IsApartFrom links first (dest_of link)
apart_less links link first at a =
    let new = dest_last links link (length links + 1) refl in (
      record {
        dests = λ one other is also e. a.dests one other (still_one links link one is) (still_one links link other also)
            (dest_still links link one is ∙ e ∙ sym (dest_still links link other also));
        start = λ number is e. a.start number (still_one links link number is) (dest_still links link number is ∙ e ∙ sym (div_still links link first at));
      },
      record {
        dests = λ number is e.
            let high = is.high in
            let last = a.dests number (length links + 1) (still_one links link number is) (last_one links link) (dest_still links link number is ∙ e ∙ sym new) in
            omega (arith, high, last);
        start = λ e. a.start (length links + 1) (last_one links link) (new ∙ sym e ∙ sym (div_still links link first at));
      },
    )

way_less : (dests : List (List ℕ)) (links : List ClaimsView) (link : ClaimsView) (first : ℕ) (later : List ℕ) → AreWithin (length links) (first ∷ later)
    → IsWay dests (links ++ link ∷ []) (Some (dest_of link)) first (later ++ (length links + 1) ∷ [])
    → IsWay dests links (Some (div_of link)) first later × IsApartFrom links first (dest_of link)
way_less dests links link first later within w =
    let f = follow_less links link first later within w.follow in
    let a = apart_less links link first within.0 w.apart in (
      record { start = subst (Contains dests) (div_still links link first within.0) w.start; follow = f.0; end = ap (λ n. Some n) f.1; apart = a.0 },
      a.1,
    )

once_before : (links : List ClaimsView) (turn : List ℕ) (link : ClaimsView) → ListsOnce (length (links ++ link ∷ [])) (turn ++ (length links + 1) ∷ [])
    → ListsOnce (length links) turn
once_before links turn link once = lists_less (length links) turn (subst (λ n. ListsOnce n (turn ++ (length links + 1) ∷ [])) (length_push links link) once)

few_before : (links : List ClaimsView) (link : ClaimsView) → length (links ++ link ∷ []) ≤ 8 → length links ≤ 7
few_before links link few = let long = length_push links link in omega (arith, few, long)

pub order_less : (origin : ClaimsView) (links : List ClaimsView) (turn : List ℕ) (link : ClaimsView)
    → IsOrder origin (links ++ link ∷ []) (Some (dest_of link)) (turn ++ (length links + 1) ∷ []) → GoesOn origin links turn link
order_less origin [] [] link o =
    let div : div_at (link ∷ []) 1 ≡ div_of link = div_last [] link 1 refl in
    record {
      few = omega arith;
      order = record { few = omega arith; once = once_before [] [] link o.once; way = (div_of link, refl, subst (Contains origin.dest) div o.way.start) };
      new = λ e. o.way.apart.start 1 (last_one [] link) (dest_last [] link 1 refl ∙ e ∙ sym div);
    }
order_less origin (one ∷ links) [] link o = let some = (once_before (one ∷ links) [] link o.once).as_many in absurd (omega (arith, some))
order_less origin links (first ∷ later) link o =
    let once = once_before links (first ∷ later) link o.once in
    let few = few_before links link o.few in
    let w = way_less origin.dest links link first later once.within o.way in
    record { few = few; order = record { few = omega (arith, few); once = once; way = w.0 }; new = w.1 }
