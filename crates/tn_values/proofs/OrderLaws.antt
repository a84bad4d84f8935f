-- Laws of the order of sides: `After` up to the number, `Before` after it.
use Rattle.std.proofs.Common.{◌≡◌, ℕ, zero, suc, ◌<◌, ◌≤◌, Bool, true, false, cond, nat_lt, List, [], ◌∷◌, ◌++◌, map, length, Ordering, Less, Equal, Greater, nat_cmp, arith, refl, sym, ap, subst}
use Rattle.std.proofs.lemmas.Bool.Decides.{nat_tests}
use Rattle.std.proofs.lemmas.Cmp.{nat_list_cmp_total}
use Rattle.std.proofs.lemmas.Map.Keys.{sorted_head, sorted_tail}
use Rattle.std.specs.Cmp.Lexicographic.{slice_cmp}
use Rattle.std.specs.List.{AllByRecursion, slice_index_or}
use Rattle.std.specs.List.Sorted.{IsStrictlySortedBy}
use Rattle.tn_values.specs.Digit.{are_digits}
use Rattle.tn_values.specs.Merged.{AreApart, IsMerged, IsWhole, rank_behind, rank_of}
use Rattle.tn_values.specs.NumberSet.{SetView}
use Rattle.tn_values.specs.Sides.{side_by_order, side_by_rank, sides}
use Rattle.tn_values.specs.Span.{SpanView}
use Rattle.tn_values.specs.declared.sorted.Side.{Side}
use Rattle.tn_values.specs.declared.sorted.Side.TheVariants.{Before, Within, After}
use Rattle.tn_values.proofs.RankLaws.{begins}
use Rattle.tn_values.proofs.TextLaws.{Precedes, same_text}

abbrev AreBefore : List Side → Type 0
AreBefore all = AllByRecursion (λ side. side ≡ Before) all

abbrev AreAfter : List Side → Type 0
AreAfter all = AllByRecursion (λ side. side ≡ After) all

-- after a side that isn't `After` all are `Before`
abbrev pub InOrder : List Side → Type 0
InOrder [] = Unit {0}
InOrder (Before ∷ all) = AreBefore all
InOrder (Within ∷ all) = AreBefore all
InOrder (After ∷ all) = InOrder all

before_at : (all : List Side) (k : ℕ) (d : Side) → AreBefore all → k < length all → slice_index_or all k d ≡ Before
before_at [] k d h inside = absurd (omega (arith, inside))
before_at (side ∷ all) zero d h inside = h.0
before_at (side ∷ all) (suc k) d h inside = before_at all k d h.1 (omega (arith, inside))

-- after a side `Before` each is `Before`
pub stays_before : (all : List Side) (i j : ℕ) (d : Side) → InOrder all → i ≤ j → j < length all → slice_index_or all i d ≡ Before
    → slice_index_or all j d ≡ Before
stays_before [] i j d h order inside is = absurd (omega (arith, inside))
stays_before (side ∷ all) zero zero d h order inside is = is
stays_before (Before ∷ all) zero (suc j) d h order inside is = before_at all j d h (omega (arith, inside))
stays_before (Within ∷ all) zero (suc j) d h order inside is = cc
stays_before (After ∷ all) zero (suc j) d h order inside is = cc
stays_before (side ∷ all) (suc i) zero d h order inside is = absurd (omega (arith, order))
stays_before (Before ∷ all) (suc i) (suc j) d h order inside is = before_at all j d h (omega (arith, inside))
stays_before (Within ∷ all) (suc i) (suc j) d h order inside is = before_at all j d h (omega (arith, inside))
stays_before (After ∷ all) (suc i) (suc j) d h order inside is = stays_before all i j d h (omega (arith, order)) (omega (arith, inside)) is

-- up to a side `After` each is `After`
pub was_after : (all : List Side) (i j : ℕ) (d : Side) → InOrder all → i ≤ j → j < length all → slice_index_or all j d ≡ After
    → slice_index_or all i d ≡ After
was_after [] i j d h order inside is = absurd (omega (arith, inside))
was_after (side ∷ all) zero zero d h order inside is = is
was_after (Before ∷ all) i (suc j) d h order inside is = let before = before_at all j d h (omega (arith, inside)) in absurd cc
was_after (Within ∷ all) i (suc j) d h order inside is = let before = before_at all j d h (omega (arith, inside)) in absurd cc
was_after (After ∷ all) zero (suc j) d h order inside is = refl
was_after (After ∷ all) (suc i) (suc j) d h order inside is = was_after all i j d h (omega (arith, order)) (omega (arith, inside)) is
was_after (side ∷ all) (suc i) zero d h order inside is = absurd (omega (arith, order))

before_order : (all : List Side) → AreBefore all → InOrder all
before_order [] h = tt
before_order (side ∷ all) h =
    subst (λ (s : Side). InOrder (s ∷ all)) (sym h.0) h.1

after_order : (all more : List Side) → AreAfter all → InOrder more → InOrder (all ++ more)
after_order [] more h order = order
after_order (side ∷ all) more h order = subst (λ (s : Side). InOrder (s ∷ (all ++ more))) (sym h.0) (after_order all more h.1 order)

both_before : (all more : List Side) → AreBefore all → AreBefore more → AreBefore (all ++ more)
both_before [] more h order = order
both_before (side ∷ all) more h order = (h.0, both_before all more h.1 order)

order_before : (all more : List Side) → InOrder all → AreBefore more → InOrder (all ++ more)
order_before [] more h before = before_order more before
order_before (Before ∷ all) more h before = both_before all more h before
order_before (Within ∷ all) more h before = both_before all more h before
order_before (After ∷ all) more h before = order_before all more h before

-- ---- spans

rank_before : (span : SpanView) (rank : ℕ) → rank < rank_of span.start → side_by_rank span rank ≡ Before
rank_before span rank h = grind (arith, nat_tests)

all_before : (spans : List SpanView) (low rank : ℕ) → AreApart low spans → rank < low → AreBefore (map (λ span. side_by_rank span rank) spans)
all_before [] low rank apart h = tt
all_before (span ∷ spans) low rank (begin, whole, rest) h =
    let some = begins span whole.is in
    (rank_before span rank (omega (arith, begin, h)), all_before spans (suc (rank_behind span)) rank rest (omega (arith, begin, h, some)))

rank_by : (span : SpanView) (rank : ℕ) (more : List Side) (b c : Bool) → nat_lt rank (rank_of span.start) ≡ b → nat_lt rank (rank_behind span) ≡ c
    → IsWhole span → (rank < rank_behind span → AreBefore more) → InOrder more → InOrder (cond b Before (cond c Within After) ∷ more)
rank_by span rank more true c h k whole before order =
    let some = begins span whole.is in
    let below : rank < rank_of span.start = grind (arith, nat_tests) in
    before (omega (arith, below, some))
rank_by span rank more false true h k whole before order = before (grind (arith, nat_tests))
rank_by span rank more false false h k whole before order = order

spans_order : (spans : List SpanView) (low rank : ℕ) → AreApart low spans → InOrder (map (λ span. side_by_rank span rank) spans)
spans_order [] low rank apart = tt
spans_order (span ∷ spans) low rank (begin, whole, rest) =
    rank_by span rank (map (λ span. side_by_rank span rank) spans) (nat_lt rank (rank_of span.start)) (nat_lt rank (rank_behind span)) refl refl whole
    (λ below. all_before spans (suc (rank_behind span)) rank rest (omega (arith, below))) (spans_order spans (suc (rank_behind span)) rank rest)

spans_after : (spans : List SpanView) → AreAfter (map (λ span. After) spans)
spans_after [] = tt
spans_after (span ∷ spans) = (refl, spans_after spans)

-- ---- singles

singles_before : (singles : List (List ℕ)) → AreBefore (map (λ single. Before) singles)
singles_before [] = tt
singles_before (single ∷ singles) = (refl, singles_before singles)

all_behind : (number : List ℕ) (singles : List (List ℕ)) → AllByRecursion (λ single. Precedes number single) singles
    → AreBefore (map (λ single. side_by_order (slice_cmp nat_cmp number single)) singles)
all_behind number [] h = tt
all_behind number (single ∷ singles) h = (ap side_by_order h.0, all_behind number singles h.1)

further : (number first : List ℕ) (singles : List (List ℕ)) → Precedes number first → AllByRecursion (λ single. Precedes first single) singles
    → AllByRecursion (λ single. Precedes number single) singles
further number first [] h all = tt
further number first (single ∷ singles) h all =
    (nat_list_cmp_total.trans number first single h all.0, further number first singles h all.1)

single_by : (number single : List ℕ) (singles : List (List ℕ)) (o : Ordering) → slice_cmp nat_cmp number single ≡ o
    → AllByRecursion (λ other. Precedes single other) singles → InOrder (map (λ single. side_by_order (slice_cmp nat_cmp number single)) singles)
    → InOrder (side_by_order o ∷ map (λ single. side_by_order (slice_cmp nat_cmp number single)) singles)
single_by number single singles Less h behind order = all_behind number singles (further number single singles h behind)
single_by number single singles Equal h behind order =
    all_behind number singles (subst (λ first. AllByRecursion (λ other. Precedes first other) singles) (sym (same_text number single h)) behind)
single_by number single singles Greater h behind order = order

singles_order : (number : List ℕ) (singles : List (List ℕ)) → IsStrictlySortedBy (slice_cmp nat_cmp) singles
    → InOrder (map (λ single. side_by_order (slice_cmp nat_cmp number single)) singles)
singles_order number [] h = tt
singles_order number (single ∷ singles) h =
    single_by number single singles (slice_cmp nat_cmp number single) refl (sorted_head (slice_cmp nat_cmp) single singles h)
    (singles_order number singles (sorted_tail (slice_cmp nat_cmp) single singles h))

-- ---- all entries

sides_by : (set : SetView) (number : List ℕ) (b : Bool) → are_digits number ≡ b → IsMerged set
    → InOrder (map (λ span. cond b (side_by_rank span (rank_of number)) After) set.spans
    ++ map (λ single. cond b Before (side_by_order (slice_cmp nat_cmp number single))) set.singles)
sides_by set number true d m =
    order_before (map (λ span. side_by_rank span (rank_of number)) set.spans) (map (λ single. Before) set.singles)
    (spans_order set.spans 0 (rank_of number) m.apart) (singles_before set.singles)
sides_by set number false d m =
    after_order (map (λ span. After) set.spans) (map (λ single. side_by_order (slice_cmp nat_cmp number single)) set.singles)
    (spans_after set.spans) (singles_order number set.singles m.order)

pub sides_order : (set : SetView) (number : List ℕ) → IsMerged set → InOrder (sides set number)
sides_order set number m = sides_by set number (are_digits number) refl m
