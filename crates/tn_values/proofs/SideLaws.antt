-- Laws of sides: the entry at a side `Within` holds the number, and one that holds it has this side.
use Rattle.std.proofs.Common.{◌≡◌, ℕ, ◌+◌, ◌-◌, ◌<◌, ◌≤◌, Bool, true, false, cond, nat_lt, inl, inr, List, map, length, Option, Some, None, is_some, MatchOption, Any, Contains, Ordering, Less, Equal, Greater, nat_cmp, length-append, arith, refl, sym, ap, ◌∙◌}
use Rattle.std.proofs.lemmas.Bool.{cases_lt}
use Rattle.std.proofs.lemmas.Bool.Decides.{nat_tests}
use Rattle.std.proofs.lemmas.List.{get_or_append_left, get_or-append_right, get_or-map, length-map}
use Rattle.std.proofs.lemmas.List.Elements.{All-contains, Contains-get_or}
use Rattle.std.specs.Cmp.Lexicographic.{slice_cmp}
use Rattle.std.specs.List.{slice_index_or}
use Rattle.tn_values.specs.Digit.{are_digits}
use Rattle.tn_values.specs.Merged.{IsMerged, rank_behind, rank_of}
use Rattle.tn_values.specs.NumberSet.{SetView, SetHolds, part_count}
use Rattle.tn_values.specs.Sides.{IsEntryOf, IsFoundIn, IsPlaceOf, side_by_order, side_by_rank, side_of_single, side_of_span, sides}
use Rattle.tn_values.specs.Span.{SpanView, SpanHolds}
use Rattle.tn_values.specs.declared.sorted.Side.{Side}
use Rattle.tn_values.specs.declared.sorted.Side.TheVariants.{Before, Within, After}
use Rattle.tn_values.proofs.RankLaws.{InSpan, digits_held, in_span, span_holds}
use Rattle.tn_values.proofs.TextLaws.{same_text, tied}

-- ---- one span

by_rank : (span : SpanView) (rank : ℕ) (b c : Bool) → nat_lt rank (rank_of span.start) ≡ b → nat_lt rank (rank_behind span) ≡ c
    → cond b Before (cond c Within After) ≡ Within → InSpan span rank
by_rank span rank true c h k is = cc
by_rank span rank false true h k is = record { from = grind (arith, nat_tests); before = grind (arith, nat_tests) }
by_rank span rank false false h k is = cc

span_by : (span : SpanView) (number : List ℕ) (b : Bool) → are_digits number ≡ b
    → cond b (side_by_rank span (rank_of number)) After ≡ Within → SpanHolds span number
span_by span number true d h =
    span_holds span number d
    (by_rank span (rank_of number) (nat_lt (rank_of number) (rank_of span.start)) (nat_lt (rank_of number) (rank_behind span)) refl refl h)
span_by span number false d h = cc

within_span : (span : SpanView) (number : List ℕ) → side_of_span number span ≡ Within → SpanHolds span number
within_span span number h = span_by span number (are_digits number) refl h

rank_within : (span : SpanView) (rank : ℕ) → InSpan span rank → side_by_rank span rank ≡ Within
rank_within span rank h =
    let from = h.from in
    let before = h.before in
    grind (arith, nat_tests)

span_within : (span : SpanView) (number : List ℕ) → SpanHolds span number → side_of_span number span ≡ Within
span_within span number h =
    ap (λ b. cond b (side_by_rank span (rank_of number)) After) h.digits ∙ rank_within span (rank_of number) (in_span span number h)

-- ---- one single

by_order : (o : Ordering) → side_by_order o ≡ Within → o ≡ Equal
by_order Less h = cc
by_order Equal h = refl
by_order Greater h = cc

single_by : (single number : List ℕ) (b : Bool) → are_digits number ≡ b
    → cond b Before (side_by_order (slice_cmp nat_cmp number single)) ≡ Within → single ≡ number
single_by single number true d h = cc
single_by single number false d h = sym (same_text number single (by_order (slice_cmp nat_cmp number single) h))

within_single : (single number : List ℕ) → side_of_single number single ≡ Within → single ≡ number
within_single single number h = single_by single number (are_digits number) refl h

single_within : (single number : List ℕ) → are_digits number ≡ false → single ≡ number → side_of_single number single ≡ Within
single_within single number d same =
    ap (λ b. cond b Before (side_by_order (slice_cmp nat_cmp number single))) d ∙ ap side_by_order (tied number single (sym same))

-- ---- the side of an entry

pub side_count : (set : SetView) (number : List ℕ) → length (sides set number) ≡ part_count set
side_count set number =
    omega (
      arith,
      length-append (map (side_of_span number) set.spans) (map (side_of_single number) set.singles),
      length-map set.spans (side_of_span number),
      length-map set.singles (side_of_single number),
    )

pub side_of_spans : (set : SetView) (number : List ℕ) (k : ℕ) (d : Side) (span : SpanView) → k < length set.spans
    → slice_index_or (sides set number) k d ≡ side_of_span number (slice_index_or set.spans k span)
side_of_spans set number k d span inside =
    let all = length-map set.spans (side_of_span number) in
    get_or_append_left (map (side_of_span number) set.spans) (map (side_of_single number) set.singles) d k (omega (arith, inside, all))
    ∙ get_or-map (side_of_span number) set.spans k span d inside

pub side_of_singles : (set : SetView) (number : List ℕ) (k : ℕ) (d : Side) (single : List ℕ) → length set.spans ≤ k → k < part_count set
    → slice_index_or (sides set number) k d ≡ side_of_single number (slice_index_or set.singles (k - length set.spans) single)
side_of_singles set number k d single from inside =
    let all = length-map set.spans (side_of_span number) in
    get_or-append_right (map (side_of_span number) set.spans) (map (side_of_single number) set.singles) (length set.spans) k d all from
    ∙ get_or-map (side_of_single number) set.singles (k - length set.spans) single d (omega (arith, from, inside))

-- ---- the entry that holds a number

-- the entry at a side `Within` holds the number
pub entry_holds : (set : SetView) (number : List ℕ) (k : ℕ) → k < length (sides set number) → slice_index_or (sides set number) k Before ≡ Within
    → SetHolds set number
entry_holds set number k inside is =
    let all = side_count set number in
    elim (cases_lt k (length set.spans)) [
      | inl front ↦
          let any : SpanView = record { start = number; size = 0 } in
          let span : SpanView = slice_index_or set.spans k any in
          let there = Contains-get_or set.spans k any front in
          inl (there.0, span, there.1, there.2, within_span span number (sym (side_of_spans set number k Before any front) ∙ is))
      | inr behind ↦
          let there : k < part_count set = omega (arith, all, inside) in
          inr (
            k - length set.spans,
            omega (arith, behind, there),
            within_single (slice_index_or set.singles (k - length set.spans) number) number
                (sym (side_of_singles set number k Before number behind there) ∙ is),
          )
    ]

-- a span that holds the number has the side `Within`
pub span_side : (set : SetView) (number : List ℕ) → Any (λ span. SpanHolds span number) set.spans
    → (k : ℕ) × (k < length set.spans) × (slice_index_or (sides set number) k Before ≡ Within)
span_side set number (k, span, inside, at, h) =
    (k, inside, side_of_spans set number k Before span inside ∙ ap (side_of_span number) at ∙ span_within span number h)

-- and so has a single that is the number, if this isn't of digits alone
pub single_side : (set : SetView) (number : List ℕ) → are_digits number ≡ false → Contains set.singles number
    → (k : ℕ) × (length set.spans ≤ k) × (k < part_count set) × (slice_index_or (sides set number) k Before ≡ Within)
single_side set number d (k, inside, at) =
    let i : ℕ = length set.spans + k in
    let back : i - length set.spans ≡ k = omega arith in
    let same : slice_index_or set.singles (i - length set.spans) number ≡ number = ap (λ n. slice_index_or set.singles n number) back ∙ at in (
      i,
      omega arith,
      omega (arith, inside),
      side_of_singles set number i Before number (omega arith) (omega (arith, inside)) ∙ single_within (slice_index_or set.singles (i - length set.spans) number) number d same,
    )

-- ---- what a search comes to

none_of_digits : (set : SetView) (number : List ℕ) → IsMerged set → are_digits number ≡ true
    → IsFoundIn (sides set number) 0 (length set.spans) None → SetHolds set number → ⊥
none_of_digits set number m d h (inl held) = let side = span_side set number held in h side.0 (omega arith) side.1 side.2
none_of_digits set number m d h (inr held) =
    let other = All-contains (λ n. are_digits n ≡ false) set.singles number m.others held in
    absurd cc

none_of_others : (set : SetView) (number : List ℕ) → are_digits number ≡ false
    → IsFoundIn (sides set number) (length set.spans) (part_count set) None → SetHolds set number → ⊥
none_of_others set number d h (inl held) = let digits = digits_held set.spans number held in absurd cc
none_of_others set number d h (inr held) = let side = single_side set number d held in h side.0 side.1 side.2 side.3

pub digits_entry : (set : SetView) (number : List ℕ) (found : Option ℕ) → IsMerged set → are_digits number ≡ true
    → IsFoundIn (sides set number) 0 (length set.spans) found → IsEntryOf set number found
digits_entry set number None m d h = none_of_digits set number m d h
digits_entry set number (Some place) m d (from, inside, is) = (let all = side_count set number in omega (arith, all, inside), is)

pub other_entry : (set : SetView) (number : List ℕ) (found : Option ℕ) → are_digits number ≡ false
    → IsFoundIn (sides set number) (length set.spans) (part_count set) found → IsEntryOf set number found
other_entry set number None d h = none_of_others set number d h
other_entry set number (Some place) d (from, inside, is) = (let all = side_count set number in omega (arith, all, inside), is)

-- the entry of a number of digits alone is a span
pub span_entry : (set : SetView) (number : List ℕ) (place : ℕ) → are_digits number ≡ true → IsEntryOf set number (Some place) → place < length set.spans
span_entry set number place d (inside, is) =
    let all = side_count set number in
    elim (cases_lt place (length set.spans)) [
      | inl front ↦ front
      | inr behind ↦
          let side = side_of_singles set number place Before number behind (omega (arith, all, inside)) in
          let before : side_of_single number (slice_index_or set.singles (place - length set.spans) number) ≡ Before
          = ap (λ b. cond b Before (side_by_order (slice_cmp nat_cmp number (slice_index_or set.singles (place - length set.spans) number)))) d in
          absurd cc
    ]

-- an entry is found exactly if the set holds the number
pub entry_decides : (set : SetView) (number : List ℕ) (found : Option ℕ) → IsEntryOf set number found
    → (is_some found ≡ true → SetHolds set number) × (SetHolds set number → is_some found ≡ true)
entry_decides set number None h = (λ t. absurd cc, λ held. absurd (h held))
entry_decides set number (Some place) (inside, is) = (λ _. entry_holds set number place inside is, λ _. refl)

-- the span at the entry of a number of digits alone holds it
pub entry_span : (set : SetView) (number : List ℕ) (place : ℕ) (own : SpanView) → are_digits number ≡ true → IsEntryOf set number (Some place)
    → own ≡ slice_index_or set.spans place own → Contains set.spans own × SpanHolds own number
entry_span set number place own d (inside, is) at =
    let front = span_entry set number place d (inside, is) in
    let side = side_of_spans set number place Before own front in
    ((place, front, sym at), within_span own number (ap (side_of_span number) at ∙ sym side ∙ is))

-- the place of a number of digits alone is that of a span that holds it
pub entry_place : (set : SetView) (number : List ℕ) (found : Option ℕ) → are_digits number ≡ true → IsEntryOf set number found
    → MatchOption found (SetHolds set number → ⊥) (λ place. IsPlaceOf set number place)
entry_place set number None d h = h
entry_place set number (Some place) d h =
    record { inside = span_entry set number place d h; holds = λ own at. (entry_span set number place own d h at).1 }
