-- Laws of merging: what spans in order come to is apart, has the same ranks, and is no more spans.
use Rattle.std.proofs.Common.{◌≡◌, ℕ, suc, ◌+◌, ◌-◌, ◌^◌, ◌<◌, ◌≤◌, Bool, true, false, cond, nat_le, max, ◌⊎◌, inl, inr, List, [], ◌∷◌, length, take, drop, arith, refl, sym, ap, ◌∙◌, subst}
use Rattle.std.proofs.Math.Nat.{pow-le-pow_right}
use Rattle.std.proofs.lemmas.Bool.{cases_lt}
use Rattle.std.proofs.lemmas.Bool.Decides.{nat_tests}
use Rattle.std.proofs.lemmas.List.{drop_more, take_all}
use Rattle.std.proofs.lemmas.List.Elements.{All-cons, All-more}
use Rattle.std.specs.List.{All, AllByRecursion, slice_index_or}
use Rattle.std.specs.List.Sorted.{IsNonDecreasingBy}
use Rattle.tn_values.specs.Merged.{AreApart, IsSpan, IsWhole, clipped, joined, merged, merged_from, rank_behind, rank_of}
use Rattle.tn_values.specs.Span.{SpanView}
use Rattle.tn_values.proofs.RankLaws.{InSpan, InSpans, begins, end_within, longer}
use Rattle.tn_values.proofs.ValueLaws.{value_below}

-- ---- a span within the numbers of its length

pub clipped_whole : (span : SpanView) → IsSpan span → IsWhole (clipped span)
clipped_whole span is =
    let within = end_within span in
    let some = begins span is in
    record {
      is = record { number = is.number; digits = is.digits; some = omega (arith, some) };
      fits = omega (arith, some, within);
    }

-- it ends where it ended
clipped_behind : (span : SpanView) → IsSpan span → rank_behind (clipped span) ≡ rank_behind span
clipped_behind span is =
    let within = end_within span in
    let some = begins span is in
    omega (arith, some, within)

-- ---- a span joined to the one that it touches

-- what begins no later than one past the end of a span ends within the numbers of its length
touching : (span other : SpanView) → IsSpan span → rank_of other.start ≤ rank_behind span
    → rank_behind other ≤ 10 ^ length span.start + 10 ^ length span.start
touching span other is h =
    let within = end_within span in
    let also = end_within other in
    let some = value_below span.start is.digits in
    elim (cases_lt (length span.start) (length other.start)) [
      | inl more ↦ let far = longer (length span.start) (length other.start) more in absurd (omega (arith, far, h, within, some))
      | inr no_longer ↦
          let power : 10 ^ length other.start ≤ 10 ^ length span.start = pow-le-pow_right (omega arith) no_longer in
          omega (arith, power, also)
    ]

joined_behind : (span other : SpanView) → IsSpan span → rank_of other.start ≤ rank_behind span
    → rank_behind (joined span other) ≡ max (rank_behind span) (rank_behind other)
joined_behind span other is h =
    let within = end_within span in
    let some = begins span is in
    let far = touching span other is h in
    omega (arith, within, some, far)

pub joined_whole : (span other : SpanView) → IsSpan span → rank_of other.start ≤ rank_behind span → IsWhole (joined span other)
joined_whole span other is h =
    let within = end_within span in
    let some = begins span is in
    let far = touching span other is h in
    record {
      is = record { number = is.number; digits = is.digits; some = omega (arith, some) };
      fits = omega (arith, within, some, far);
    }

joined_has : (span other : SpanView) (rank : ℕ) → IsSpan span → rank_of span.start ≤ rank_of other.start → rank_of other.start ≤ rank_behind span
    → InSpan span rank ⊎ InSpan other rank → InSpan (joined span other) rank
joined_has span other rank is up h (inl own) =
    let ends = joined_behind span other is h in
    let from = own.from in
    let before = own.before in
    record { from = from; before = omega (arith, ends, before) }
joined_has span other rank is up h (inr there) =
    let ends = joined_behind span other is h in
    let from = there.from in
    let before = there.before in
    record { from = omega (arith, up, from); before = omega (arith, ends, before) }

has_joined : (span other : SpanView) (rank : ℕ) → IsSpan span → rank_of other.start ≤ rank_behind span
    → InSpan (joined span other) rank → InSpan span rank ⊎ InSpan other rank
has_joined span other rank is h all =
    let ends = joined_behind span other is h in
    let from = all.from in
    let before = all.before in
    elim (cases_lt rank (rank_behind span)) [
      | inl own ↦ inl (record { from = from; before = own })
      | inr behind ↦ inr (record { from = omega (arith, h, behind); before = omega (arith, ends, before, behind) })
    ]

-- ---- spans in order

abbrev pub Rises : ℕ → List SpanView → Type 0
Rises low [] = Unit {0}
Rises low (span ∷ spans) = (low ≤ rank_of span.start) × Rises (rank_of span.start) spans

rises_from : (spans : List SpanView) (low high : ℕ) → low ≤ high → Rises high spans → Rises low spans
rises_from [] low high h rises = tt
rises_from (span ∷ spans) low high h (first, rest) = (omega (arith, h, first), rest)

pub rises : (spans : List SpanView) (low : ℕ) → IsNonDecreasingBy (λ span. rank_of span.start) spans
    → ((d : SpanView) → 0 < length spans → low ≤ rank_of (slice_index_or spans 0 d).start) → Rises low spans
rises [] low sorted first = tt
rises (span ∷ spans) low sorted first = (
  first span (omega arith),
  rises spans (rank_of span.start) (λ i j d order inside. sorted (suc i) (suc j) d (omega (arith, order)) (omega (arith, inside)))
      (λ d some. sorted 0 1 d (omega arith) (omega (arith, some))),
)

-- ---- what they come to is apart

abbrev AreSpans : List SpanView → Type 0
AreSpans spans = AllByRecursion IsSpan spans

apart_by : (span other : SpanView) (others : List SpanView) (low : ℕ) (b : Bool) → nat_le (rank_of other.start) (rank_behind span) ≡ b
    → low ≤ rank_of span.start → IsWhole span → IsSpan other
    → ((next : SpanView) (from : ℕ) → from ≤ rank_of next.start → IsWhole next → AreApart from (merged_from next others))
    → AreApart low (cond b (merged_from (joined span other) others) (span ∷ merged_from (clipped other) others))
apart_by span other others low true t from whole is more =
    more (joined span other) low from (joined_whole span other whole.is (grind (arith, nat_tests)))
apart_by span other others low false t from whole is more =
    (from, whole, more (clipped other) (suc (rank_behind span)) (grind (arith, nat_tests)) (clipped_whole other is))

apart_from : (spans : List SpanView) (span : SpanView) (low : ℕ) → low ≤ rank_of span.start → IsWhole span → AreSpans spans
    → AreApart low (merged_from span spans)
apart_from [] span low from whole are = (from, whole, tt)
apart_from (other ∷ others) span low from whole (is, are) =
    apart_by span other others low (nat_le (rank_of other.start) (rank_behind span)) refl from whole is
    (λ next low from whole. apart_from others next low from whole are)

pub merged_apart : (spans : List SpanView) → AreSpans spans → AreApart 0 (merged spans)
merged_apart [] are = tt
merged_apart (span ∷ spans) (is, are) = apart_from spans (clipped span) 0 (omega arith) (clipped_whole span is) are

-- ---- and has the same ranks

-- the ranks of the one are those of the other
abbrev Same : List SpanView → SpanView → List SpanView → ℕ → Type 0
Same all span spans rank = (InSpans all rank → InSpans (span ∷ spans) rank) × (InSpans (span ∷ spans) rank → InSpans all rank)

clipped_in : (span : SpanView) (rank : ℕ) → IsSpan span → InSpan (clipped span) rank → InSpan span rank
clipped_in span rank is h =
    let ends = clipped_behind span is in
    let before = h.before in
    record { from = h.from; before = omega (arith, ends, before) }

in_clipped : (span : SpanView) (rank : ℕ) → IsSpan span → InSpan span rank → InSpan (clipped span) rank
in_clipped span rank is h =
    let ends = clipped_behind span is in
    let before = h.before in
    record { from = h.from; before = omega (arith, ends, before) }

same_joined : (span other : SpanView) (others all : List SpanView) (rank : ℕ) → IsSpan span → rank_of span.start ≤ rank_of other.start
    → rank_of other.start ≤ rank_behind span → Same all (joined span other) others rank → Same all span (other ∷ others) rank
same_joined span other others all rank is up h same = (
  λ has. elim (same.0 has) [
    | inl first ↦ elim (has_joined span other rank is h first) [ inl own ↦ inl own | inr next ↦ inr (inl next) ]
    | inr more ↦ inr (inr more)
  ],
  λ has. elim has [
    | inl own ↦ same.1 (inl (joined_has span other rank is up h (inl own)))
    | inr rest ↦ elim rest [
      | inl next ↦ same.1 (inl (joined_has span other rank is up h (inr next)))
      | inr more ↦ same.1 (inr more)
    ]
  ],
)

same_clipped : (span other : SpanView) (others all : List SpanView) (rank : ℕ) → IsSpan other → Same all (clipped other) others rank
    → Same (span ∷ all) span (other ∷ others) rank
same_clipped span other others all rank is same = (
  λ has. elim has [
    | inl own ↦ inl own
    | inr rest ↦ elim (same.0 rest) [ inl next ↦ inr (inl (clipped_in other rank is next)) | inr more ↦ inr (inr more) ]
  ],
  λ has. elim has [
    | inl own ↦ inl own
    | inr rest ↦ elim rest [ inl next ↦ inr (same.1 (inl (in_clipped other rank is next))) | inr more ↦ inr (same.1 (inr more)) ]
  ],
)

same_by : (span other : SpanView) (others : List SpanView) (rank : ℕ) (b : Bool) → nat_le (rank_of other.start) (rank_behind span) ≡ b
    → rank_of span.start ≤ rank_of other.start → Rises (rank_of other.start) others → IsWhole span → IsSpan other
    → ((next : SpanView) → IsWhole next → Rises (rank_of next.start) others → Same (merged_from next others) next others rank)
    → Same (cond b (merged_from (joined span other) others) (span ∷ merged_from (clipped other) others)) span (other ∷ others) rank
same_by span other others rank true t up rises whole is more =
    let touches : rank_of other.start ≤ rank_behind span = grind (arith, nat_tests) in
    same_joined span other others (merged_from (joined span other) others) rank whole.is up touches
    (more (joined span other) (joined_whole span other whole.is touches) (rises_from others (rank_of span.start) (rank_of other.start) up rises))
same_by span other others rank false t up rises whole is more =
    same_clipped span other others (merged_from (clipped other) others) rank is (more (clipped other) (clipped_whole other is) rises)

same_from : (spans : List SpanView) (span : SpanView) (rank : ℕ) → IsWhole span → Rises (rank_of span.start) spans → AreSpans spans
    → Same (merged_from span spans) span spans rank
same_from [] span rank whole rises are = (λ has. has, λ has. has)
same_from (other ∷ others) span rank whole (up, rises) (is, are) =
    same_by span other others rank (nat_le (rank_of other.start) (rank_behind span)) refl up rises whole is
    (λ next whole rises. same_from others next rank whole rises are)

pub merged_in : (spans : List SpanView) (rank : ℕ) → Rises 0 spans → AreSpans spans → InSpans (merged spans) rank → InSpans spans rank
merged_in [] rank rises are h = h
merged_in (span ∷ spans) rank (from, rises) (is, are) h =
    elim ((same_from spans (clipped span) rank (clipped_whole span is) rises are).0 h)
    [ inl first ↦ inl (clipped_in span rank is first) | inr more ↦ inr more ]

pub in_merged : (spans : List SpanView) (rank : ℕ) → Rises 0 spans → AreSpans spans → InSpans spans rank → InSpans (merged spans) rank
in_merged [] rank rises are h = h
in_merged (span ∷ spans) rank (from, rises) (is, are) (inl first) =
    (same_from spans (clipped span) rank (clipped_whole span is) rises are).1 (inl (in_clipped span rank is first))
in_merged (span ∷ spans) rank (from, rises) (is, are) (inr more) =
    (same_from spans (clipped span) rank (clipped_whole span is) rises are).1 (inr more)

-- ---- and is no more spans

fewer_by : (span other : SpanView) (others : List SpanView) (b : Bool)
    → ((next : SpanView) → length (merged_from next others) ≤ suc (length others))
    → length (cond b (merged_from (joined span other) others) (span ∷ merged_from (clipped other) others)) ≤ suc (suc (length others))
fewer_by span other others true more = let few = more (joined span other) in omega (arith, few)
fewer_by span other others false more = let few = more (clipped other) in omega (arith, few)

fewer_from : (spans : List SpanView) (span : SpanView) → length (merged_from span spans) ≤ suc (length spans)
fewer_from [] span = omega arith
fewer_from (other ∷ others) span =
    fewer_by span other others (nat_le (rank_of other.start) (rank_behind span)) (λ next. fewer_from others next)

pub merged_fewer : (spans : List SpanView) → length (merged spans) ≤ length spans
merged_fewer [] = omega arith
merged_fewer (span ∷ spans) = fewer_from spans (clipped span)

-- ---- one span more

-- it is joined to the one that it touches
pub merge_joined : (spans : List SpanView) (i : ℕ) (span other : SpanView) → i < length spans → other ≡ slice_index_or spans i other
    → rank_of other.start ≤ rank_behind span → merged_from span (drop i spans) ≡ merged_from (joined span other) (drop (i + 1) spans)
merge_joined spans i span other inside at touches =
    let test : nat_le (rank_of other.start) (rank_behind span) ≡ true = grind (arith, nat_tests) in
    let behind : List SpanView = drop (i + 1) spans in
    ap (merged_from span) (drop_more spans i other inside) ∙ ap (λ (s : SpanView). merged_from span (s ∷ behind)) (sym at)
    ∙ ap (λ b. cond b (merged_from (joined span other) behind) (span ∷ merged_from (clipped other) behind)) test

-- or is apart from it
pub merge_apart : (spans : List SpanView) (i : ℕ) (span other : SpanView) → i < length spans → other ≡ slice_index_or spans i other
    → rank_behind span < rank_of other.start → merged_from span (drop i spans) ≡ span ∷ merged_from (clipped other) (drop (i + 1) spans)
merge_apart spans i span other inside at far =
    let test : nat_le (rank_of other.start) (rank_behind span) ≡ false = grind (arith, nat_tests) in
    let behind : List SpanView = drop (i + 1) spans in
    ap (merged_from span) (drop_more spans i other inside) ∙ ap (λ (s : SpanView). merged_from span (s ∷ behind)) (sym at)
    ∙ ap (λ b. cond b (merged_from (joined span other) behind) (span ∷ merged_from (clipped other) behind)) test

pub spans_more : (spans : List SpanView) (i : ℕ) (span : SpanView) → i < length spans → span ≡ slice_index_or spans i span → IsSpan span
    → All IsSpan (take i spans) → All IsSpan (take (i + 1) spans)
spans_more spans i span inside at is are = All-more IsSpan spans i span inside are (subst (λ (s : SpanView). IsSpan s) at is)

-- the first, and those after it
pub spans_all : (spans : List SpanView) (first : SpanView) (i : ℕ) → 1 ≤ length spans → first ≡ slice_index_or spans 0 first → IsSpan first
    → length (take (length spans - 1) (drop 1 spans)) ≤ i → All IsSpan (take i (take (length spans - 1) (drop 1 spans))) → All IsSpan spans
spans_all [] first i some at is long are = absurd (omega (arith, some))
spans_all (span ∷ spans) first i some at is long are =
    let rest : take (length (span ∷ spans) - 1) spans ≡ spans = take_all (length (span ∷ spans) - 1) spans (omega arith) in
    let all : take i (take (length (span ∷ spans) - 1) spans) ≡ spans
    = take_all i (take (length (span ∷ spans) - 1) spans) (omega (arith, long)) ∙ rest in
    All-cons IsSpan span spans (subst (λ (s : SpanView). IsSpan s) at is) (subst (λ (s : List SpanView). All IsSpan s) all are)
