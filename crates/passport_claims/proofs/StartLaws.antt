-- The start that is found, and why there is none.
use Rattle.std.proofs.Common.{◌≡◌, ℕ, ◌+◌, ◌-◌, ◌<◌, ◌≤◌, Bool, true, false, cond, ◌⊎◌, inl, inr, List, length, Option, Some, None, Result, Ok, Err, refl, arith}
use Rattle.std.proofs.lemmas.Bool.{both_ways, cases_order}
use Rattle.passport_claims.specs.Passport.{ClaimsView}
use Rattle.passport_claims.specs.Links.{IsOneOf, div_at}
use Rattle.passport_claims.specs.OrderFault.{IsFirst, IsStart, MayStart, NoneStarts, StartsElsewhere, TwoStart}
use Rattle.passport_claims.specs.OrderReading.{fault_at, first_from, is_one_of, may_start, only_start, start_in, start_of}
use Rattle.passport_claims.specs.declared.order.ChainFault.{ChainFault}
use Rattle.passport_claims.proofs.FirstLaws.{first_means, first_none, first_some, none_means, none_more, only_one}
use Rattle.passport_claims.proofs.LinkLaws.{means_one, one_means, start_says}
use Rattle.passport_claims.proofs.WayLaws.{starts}

-- there is no start, and this is why
abbrev pub NoStart : List (List ℕ) → List ClaimsView → ℕ → Type 0
NoStart dests links link = NoneStarts links link ⊎ (TwoStart links link ⊎ StartsElsewhere dests links link)

abbrev pub StartIs : List (List ℕ) → List ClaimsView → Result ℕ ChainFault → Type 0
StartIs dests links (Ok start) = IsStart dests links start
StartIs dests links (Err fault) = (fault.kind ≡ 3) × NoStart dests links fault.link

-- the second link that may start
second_means : (links : List ClaimsView) (first link : ℕ) → IsOneOf (length links) first → first_from (may_start links) (first + 1) (length links - first) ≡ Some link
    → IsFirst (λ other. (first < other) × MayStart links other) (length links) link
second_means links first link is e =
    let f = first_some (may_start links) (first + 1) (length links - first) link e in
    let s = start_says links (length links) in
    let low = f.low in
    let high = f.high in
    let most = is.high in
    let at : IsOneOf (length links) link = record { low = omega (arith, low); high = omega (arith, high, most) } in
    record {
      is = at;
      holds = (omega (arith, low), (s.tells link at).0 f.here);
      before = λ other o h.
          let less = o.high in
          let more = h.0 in
          let of : IsOneOf (length links) other = record { low = o.low; high = omega (arith, less, high, most) } in
          both_ways (may_start links other) (f.before other (omega (arith, more)) (omega (arith, less, low))) ((s.tells other of).1 h.1);
    }

-- no other may start
alone_means : (links : List ClaimsView) (first : ℕ) → IsFirst (MayStart links) (length links) first → first_from (may_start links) (first + 1) (length links - first) ≡ None
    → (other : ℕ) → IsOneOf (length links) other → MayStart links other → other ≡ first
alone_means links first f e other is h = elim (cases_order other first) [
  | inl same ↦ same
  | inr (inl less) ↦ absurd (f.before other (record { low = is.low; high = omega (arith, less) }) h)
  | inr (inr more) ↦
      let most = is.high in
      let s = start_says links (length links) in
      absurd (both_ways (may_start links other) (first_none (may_start links) (first + 1) (length links - first) e other (omega (arith, more)) (omega (arith, most, more))) ((s.tells other is).1 h))
]

called_by : (dests : List (List ℕ)) (links : List ClaimsView) (start : ℕ) (t : Bool) → IsFirst (MayStart links) (length links) start
    → ((other : ℕ) → IsOneOf (length links) other → MayStart links other → other ≡ start) → is_one_of dests (div_at links start) ≡ t
    → StartIs dests links (cond t (Ok start) (Err (fault_at 3 start)))
called_by dests links start true f only e = record { is = f; only = only; called = one_means dests (div_at links start) e }
called_by dests links start false f only e =
    (refl, inr (inr (record { is = f; only = only; elsewhere = λ h. both_ways (is_one_of dests (div_at links start)) e (means_one dests (div_at links start) h) })))

second_by : (dests : List (List ℕ)) (links : List ClaimsView) (start : ℕ) (second : Option ℕ) → IsFirst (MayStart links) (length links) start
    → first_from (may_start links) (start + 1) (length links - start) ≡ second → StartIs dests links (only_start dests links start second)
second_by dests links start (Some second) f e = (refl, inr (inl (record { first = start; is = f; second = second_means links start second f.is e })))
second_by dests links start None f e = called_by dests links start (is_one_of dests (div_at links start)) f (alone_means links start f e) refl

first_by : (dests : List (List ℕ)) (links : List ClaimsView) (first : Option ℕ) → 1 ≤ length links → first_from (may_start links) 1 (length links) ≡ first
    → StartIs dests links (start_in dests links first)
first_by dests links None some e = (refl, inl (record { some = some; none = none_means (MayStart links) (may_start links) (length links) (start_says links (length links)) e; named = refl }))
first_by dests links (Some start) some e =
    second_by dests links start (first_from (may_start links) (start + 1) (length links - start))
    (first_means (MayStart links) (may_start links) (length links) start (start_says links (length links)) e) refl

pub start_is : (dests : List (List ℕ)) (links : List ClaimsView) → 1 ≤ length links → StartIs dests links (start_of dests links)
unfolding start_of
start_is dests links some = first_by dests links (first_from (may_start links) 1 (length links)) some refl

-- a start is found
pub start_again : (dests : List (List ℕ)) (links : List ClaimsView) (start : ℕ) → IsStart dests links start → start_of dests links ≡ Ok start
start_again dests links start s =
    let says = start_says links (length links) in
    let is = s.is.is in
    let only : (other : ℕ) → IsOneOf (length links) other → may_start links other ≡ true → other ≡ start = λ other o t. s.only other o ((says.tells other o).0 t) in
    starts dests links start true
    (only_one (may_start links) (length links) start is ((says.tells start is).1 s.is.holds) only)
    (none_more (may_start links) (length links) start is only)
    (means_one dests (div_at links start) s.called)
