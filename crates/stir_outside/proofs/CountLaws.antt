-- How counts add up over several calls.
use Rattle.std.proofs.Common.{◌≡◌, ◌≢◌, ℕ, ◌+◌, ◌<◌, ◌≤◌, inl, inr, Bool, true, false, ◌==◌, refl, sym, ◌∙◌, arith}
use Rattle.std.proofs.lemmas.Bool.Decides.{nat_tests}
use Rattle.stir_outside.specs.Count.{last_count, Rose, NotRisen, AtMost, GoesOn}
use Rattle.stir_outside.specs.Files.{Counts, CountsGoOn}

by_last : (before now : ℕ) (t : Bool) → (now == last_count) ≡ t → Rose before now → AtMost 1 before now
by_last before now true e rose = inr (grind (arith, nat_tests))
by_last before now false e rose = inl (let above : before < now = rose (grind (arith, nat_tests)) in omega arith)

-- a count that rose counted an event
pub at_most_of_rose : (before now : ℕ) → Rose before now → AtMost 1 before now
at_most_of_rose before now rose = by_last before now (now == last_count) refl rose

-- what two calls counted, one after the other
pub both_at_most : (m n before mid now : ℕ) → AtMost m before mid → AtMost n mid now → AtMost (m + n) before now
both_at_most m n before mid now (inl first) (inl second) = inl (omega arith)
both_at_most m n before mid now (inr last) (inl second) = inr (omega arith)
both_at_most m n before mid now first (inr last) = inr last

-- a count that didn't fall counted no event at least
pub none_at : (before now : ℕ) → before ≤ now → AtMost 0 before now
none_at before now h = inl (omega arith)

-- a count that stayed below its last value didn't rise
pub not_rose : (before now : ℕ) → NotRisen before now → Rose before now → ⊥
not_rose before now stayed rose = omega arith

-- and none that is at 0 rose
pub never_rose : Rose 0 0 → ⊥
never_rose rose = not_rose 0 0 (record { same = refl; below_last = λ last. omega arith }) rose

-- ---- of two calls, one after the other

-- a count that rose in one of them rose over both
rose_by : (before mid now : ℕ) (last : Bool) → (mid == last_count) ≡ last → before ≤ mid → Rose before mid → mid ≤ now → now ≢ last_count → before < now
rose_by before mid now true is stayed rose further below = let at : mid ≡ last_count = grind (arith, nat_tests) in omega arith
rose_by before mid now false is stayed rose further below = let above : before < mid = rose (grind (arith, nat_tests)) in omega arith

pub rose_then : (before mid now : ℕ) → before ≤ mid → Rose before mid → mid ≤ now → Rose before now
rose_then before mid now stayed rose further = λ below. rose_by before mid now (mid == last_count) refl stayed rose further below

pub then_rose : (before mid now : ℕ) → before ≤ mid → Rose mid now → Rose before now
then_rose before mid now stayed rose = λ below. let above : mid < now = rose below in omega arith

-- what one of them counted is no more than what both counted
pub at_most_then : (events before mid now : ℕ) → AtMost events before mid → mid ≤ now → AtMost events before now
at_most_then events before mid now (inl most) further = inl (omega (arith, most, further))
at_most_then events before mid now (inr last) further = inr (omega (arith, last, further))

pub then_at_most : (events before mid now : ℕ) → before ≤ mid → AtMost events mid now → AtMost events before now
then_at_most events before mid now stayed (inl most) = inl (omega (arith, stayed, most))
then_at_most events before mid now stayed (inr last) = inr last

-- a count that stayed over both stayed in each
pub not_risen_before : (before mid now : ℕ) → before ≤ mid → mid ≤ now → NotRisen before now → NotRisen before mid
not_risen_before before mid now h k n = record { same = omega (arith, h, k, n.same); below_last = n.below_last }

pub not_risen_behind : (before mid now : ℕ) → before ≤ mid → mid ≤ now → NotRisen before now → NotRisen mid now
not_risen_behind before mid now h k n =
    let same : mid ≡ before = omega (arith, h, k, n.same) in
    record { same = omega (arith, same, n.same); below_last = λ last. n.below_last (sym same ∙ last) }

-- counts go on over both
goes_on : (before mid now : ℕ) → GoesOn before mid → GoesOn mid now → GoesOn before now
goes_on before mid now one other = record { never_falls = omega arith; within = omega arith }

pub go_on : (before mid now : Counts) → CountsGoOn before mid → CountsGoOn mid now → CountsGoOn before now
go_on before mid now one other = record {
  reads = goes_on before.reads mid.reads now.reads one.reads other.reads;
  misses = goes_on before.misses mid.misses now.misses one.misses other.misses;
  longs = goes_on before.longs mid.longs now.longs one.longs other.longs;
  faults = goes_on before.faults mid.faults now.faults one.faults other.faults;
}
