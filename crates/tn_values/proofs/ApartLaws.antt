-- Laws of spans that are apart from each other: if all ranks of a part are in them, one span has them all; those that have the same
-- ranks are the same spans.
use Rattle.std.proofs.Common.{◌≡◌, ℕ, zero, suc, ◌<◌, ◌≤◌, inl, inr, List, [], ◌∷◌, length, Any, Contains, arith, refl, sym, subst}
use Rattle.std.proofs.lemmas.Bool.{cases_lt}
use Rattle.tn_values.specs.Merged.{AreApart, IsWhole, rank_behind, rank_of}
use Rattle.tn_values.specs.Span.{SpanView, value_of}
use Rattle.tn_values.proofs.RankLaws.{InSpans, begins, first_in, later, same_length, same_power}
use Rattle.tn_values.proofs.ValueLaws.{value_below, same_digits}

-- spans from a rank on have none before it
pub from_low : (spans : List SpanView) (low rank : ℕ) → AreApart low spans → InSpans spans rank → low ≤ rank
from_low [] low rank apart h = absurd h
from_low (span ∷ spans) low rank (begin, whole, rest) (inl h) = let from = h.from in omega (arith, begin, from)
from_low (span ∷ spans) low rank (begin, whole, rest) (inr h) =
    let more = from_low spans (suc (rank_behind span)) rank rest h in
    let some = begins span whole.is in
    omega (arith, begin, more, some)

-- the rank after the first span is in none of them
pub behind_first : (span : SpanView) (spans : List SpanView) → AreApart (suc (rank_behind span)) spans → InSpans (span ∷ spans) (rank_behind span) → ⊥
behind_first span spans rest (inl h) = let before = h.before in omega (arith, before)
behind_first span spans rest (inr h) = let more = from_low spans (suc (rank_behind span)) (rank_behind span) rest h in omega (arith, more)

-- ---- one span has them all

-- a span that has these ranks
abbrev pub Reaches : ℕ → ℕ → SpanView → Type 0
Reaches first behind span = (rank_of span.start ≤ first) × (behind ≤ rank_behind span)

pub one_span : (spans : List SpanView) (low first behind : ℕ) → AreApart low spans → first < behind
    → ((rank : ℕ) → first ≤ rank → rank < behind → InSpans spans rank) → Any (Reaches first behind) spans
one_span [] low first behind apart some all = absurd (all first (omega arith) (omega (arith, some)))
one_span (span ∷ spans) low first behind (begin, whole, rest) some all =
    elim (all first (omega arith) (omega (arith, some))) [
      | inl here ↦
          let from = here.from in
          let before = here.before in
          elim (cases_lt (rank_behind span) behind) [
            | inl short ↦ absurd (behind_first span spans rest (all (rank_behind span) (omega (arith, before)) (omega (arith, short))))
            | inr reaches ↦ (0, span, omega arith, refl, (from, reaches))
          ]
      | inr more ↦
          let low = from_low spans (suc (rank_behind span)) first rest more in
          later (Reaches first behind) span spans (one_span spans (suc (rank_behind span)) first behind rest some
          (λ rank from before. elim (all rank from before) [ inl here ↦ (let ends = here.before in absurd (omega (arith, ends, low, from))) | inr there ↦ there ]))
    ]

-- ---- the rank after a span is in none of them

-- a span of a list begins no earlier than the list, and has a number
contained : (spans : List SpanView) (low : ℕ) (span : SpanView) → AreApart low spans → Contains spans span
    → (low ≤ rank_of span.start) × (rank_of span.start < rank_behind span)
contained [] low span apart (k, inside, at) = absurd (omega (arith, inside))
contained (first ∷ spans) low span (begin, whole, rest) (zero, inside, at) =
    subst (λ (s : SpanView). (low ≤ rank_of s.start) × (rank_of s.start < rank_behind s)) at (begin, begins first whole.is)
contained (first ∷ spans) low span (begin, whole, rest) (suc k, inside, at) =
    let has = contained spans (suc (rank_behind first)) span rest (k, omega (arith, inside), at) in
    let some = begins first whole.is in
    (omega (arith, has.0, begin, some), has.1)

pub none_behind : (spans : List SpanView) (low : ℕ) (span : SpanView) → AreApart low spans → Contains spans span → InSpans spans (rank_behind span) → ⊥
none_behind [] low span apart (k, inside, at) h = h
none_behind (first ∷ spans) low span (begin, whole, rest) (zero, inside, at) h =
    behind_first first spans rest (subst (λ s. InSpans (first ∷ spans) (rank_behind s)) (sym at) h)
none_behind (first ∷ spans) low span (begin, whole, rest) (suc k, inside, at) (inl h) =
    let has = contained spans (suc (rank_behind first)) span rest (k, omega (arith, inside), at) in
    let before = h.before in
    absurd (omega (arith, has.0, has.1, before))
none_behind (first ∷ spans) low span (begin, whole, rest) (suc k, inside, at) (inr h) =
    none_behind spans (suc (rank_behind first)) span rest (k, omega (arith, inside), at) h

-- ---- the same ranks, the same spans

same_span : (s t : SpanView) → IsWhole s → IsWhole t → rank_of s.start ≡ rank_of t.start → rank_behind s ≡ rank_behind t → s ≡ t
same_span s t w v starts ends =
    let a = value_below s.start w.is.digits in
    let b = value_below t.start v.is.digits in
    let as_long = same_length (length s.start) (length t.start) (value_of s.start) a (omega (arith, starts)) (omega (arith, starts, b)) in
    let same = same_power (length s.start) (length t.start) as_long in
    let start : s.start ≡ t.start = same_digits s.start t.start w.is.digits v.is.digits as_long (omega (arith, starts, same)) in
    let fits = w.fits in
    let also = v.fits in
    let size : s.size ≡ t.size = omega (arith, fits, also, same, starts, ends) in
    λ i. record { start = start i; size = size i }

-- the first of one list begins no later than that of another that has its ranks
begins_first : (s t : SpanView) (ts : List SpanView) → IsWhole t → AreApart (suc (rank_behind t)) ts → InSpans (t ∷ ts) (rank_of s.start)
    → rank_of t.start ≤ rank_of s.start
begins_first s t ts whole rest h = from_low (t ∷ ts) (rank_of t.start) (rank_of s.start) (omega arith, whole, rest) h

-- and if both begin alike it ends no later
ends_first : (s t : SpanView) (ss ts : List SpanView) → IsWhole s → AreApart (suc (rank_behind s)) ss → rank_of s.start ≡ rank_of t.start
    → ((rank : ℕ) → InSpans (t ∷ ts) rank → InSpans (s ∷ ss) rank) → rank_behind t ≤ rank_behind s
ends_first s t ss ts whole rest starts had =
    elim (cases_lt (rank_behind s) (rank_behind t)) [
      | inl short ↦
          let some = begins s whole.is in
          absurd (behind_first s ss rest (had (rank_behind s) (inl (record { from = omega (arith, some, starts); before = omega (arith, short) }))))
      | inr reaches ↦ omega (arith, reaches)
    ]

-- what comes after the first spans
behind_both : (s t : SpanView) (ss ts : List SpanView) → AreApart (suc (rank_behind s)) ss → rank_behind s ≡ rank_behind t
    → ((rank : ℕ) → InSpans (s ∷ ss) rank → InSpans (t ∷ ts) rank) → (rank : ℕ) → InSpans ss rank → InSpans ts rank
behind_both s t ss ts rest ends had rank h =
    let low = from_low ss (suc (rank_behind s)) rank rest h in
    elim (had rank (inr h)) [ inl here ↦ (let before = here.before in absurd (omega (arith, before, low, ends))) | inr there ↦ there ]

pub same_spans : (ss ts : List SpanView) (low other : ℕ) → AreApart low ss → AreApart other ts
    → ((rank : ℕ) → InSpans ss rank → InSpans ts rank) → ((rank : ℕ) → InSpans ts rank → InSpans ss rank) → ss ≡ ts
same_spans [] [] low other a b there back = refl
same_spans [] (t ∷ ts) low other a (begin, whole, rest) there back = absurd (back (rank_of t.start) (inl (first_in t whole.is)))
same_spans (s ∷ ss) [] low other (begin, whole, rest) b there back = absurd (there (rank_of s.start) (inl (first_in s whole.is)))
same_spans (s ∷ ss) (t ∷ ts) low other (begin, whole, rest) (first, also, more) there back =
    let down = begins_first s t ts also more (there (rank_of s.start) (inl (first_in s whole.is))) in
    let up = begins_first t s ss whole rest (back (rank_of t.start) (inl (first_in t also.is))) in
    let starts : rank_of s.start ≡ rank_of t.start = omega (arith, down, up) in
    let short = ends_first s t ss ts whole rest starts back in
    let long = ends_first t s ts ss also more (sym starts) there in
    let ends : rank_behind s ≡ rank_behind t = omega (arith, short, long) in
    let heads = same_span s t whole also starts ends in
    let tails = same_spans ss ts (suc (rank_behind s)) (suc (rank_behind t)) rest more
    (behind_both s t ss ts rest ends there) (behind_both t s ts ss more (sym ends) back) in
    λ i. heads i ∷ tails i
