-- Each call is what its format says in words.
use Rattle.std.proofs.Common.{◌≡◌, ◌<◌, ◌≤◌, ℕ, zero, suc, ◌-◌, ◌==◌, Bool, true, false, refl, sym, ap, ◌∙◌, arith}
use Rattle.std.specs.Prelude.{if◌then◌else◌}
use Rattle.std.proofs.lemmas.Bool.{ne_eqb}
use Rattle.stir_drill.specs.Calls.{message_after, message_at}
use Rattle.stir_drill.specs.Change.{change_by, change_of_call, repeats, unless_repeats}
use Rattle.stir_drill.specs.Draw.{kind_of, line_of}
use Rattle.stir_drill.specs.Message.{message_of}
use Rattle.stir_drill.specs.Sentences.{SaysCall}
use Rattle.stir_drill.specs.World.{triples_of}
use Rattle.stir_drill.specs.declared.change.Change.{Change}
use Rattle.stir_drill.specs.declared.change.Change.TheVariants.{Plain, Repeats, Unsigned, Stale, Unconfirmed, Outside}
use Rattle.stir_drill.specs.declared.drawn.Drawn.{Drawn}
use Rattle.stir_drill.proofs.CallLaws.{message_own}

-- a change other than a repetition is that of each call, the first one too
any_call : (i kind : ℕ) (change : Change) → change_by kind ≡ change → unless_repeats change ≡ change → change_of_call i kind ≡ change
any_call i kind change is own = by_test (i == 1)
  where
    by_test : (t : Bool) → (if t then unless_repeats (change_by kind) else change_by kind) ≡ change
    by_test true = ap unless_repeats is ∙ own
    by_test false = is

plain_by : (kind : ℕ) → 4 < kind → change_by kind ≡ Plain
plain_by kind h = rw (
  ne_eqb kind 0 (λ e. omega arith),
  ne_eqb kind 1 (λ e. omega arith),
  ne_eqb kind 2 (λ e. omega arith),
  ne_eqb kind 3 (λ e. omega arith),
  ne_eqb kind 4 (λ e. omega arith),
) refl

repeated_by : (i kind : ℕ) → kind ≡ 0 → (i == 1) ≡ false → change_of_call i kind ≡ Repeats
repeated_by i kind h e = ap (change_of_call i) h ∙ rw e refl

first_by : (i kind : ℕ) → kind ≡ 0 → i ≡ 1 → change_of_call i kind ≡ Plain
first_by i kind h e = ap (λ x. change_of_call x kind) e ∙ ap (change_of_call 1) h

abbrev call_with : ℕ → ℕ → Change → Drawn
call_with seed i change = record { number = i; change = change; line = line_of seed i }

own_message : (seed n : ℕ) (change : Change) → change_of_call (suc n) (kind_of seed (suc n)) ≡ change → repeats change ≡ false
    → message_at seed (suc n) ≡ message_of (call_with seed (suc n) change)
unfolding message_at
own_message seed n change is own =
    ap (λ x. message_after (call_with seed (suc n) x) (message_at seed n)) is ∙ message_own (call_with seed (suc n) change) (message_at seed n) own

again : (seed n : ℕ) → change_of_call (suc n) (kind_of seed (suc n)) ≡ Repeats → message_at seed (suc n) ≡ message_at seed n
unfolding message_at
again seed n is = ap (λ x. message_after (call_with seed (suc n) x) (message_at seed n)) is

-- a call that isn't the first of all numbers
says_next : (seed n : ℕ) → SaysCall seed (suc n)
says_next seed n =
    record {
      moment = refl;
      repeated = λ k later. (let e : suc n - 1 ≡ n = omega arith in
          again seed n (repeated_by (suc n) (kind_of seed (suc n)) k (ne_eqb (suc n) 1 (λ x. omega arith))) ∙ ap (message_at seed) (sym e));
      first = λ k one. own_message seed n Plain (first_by (suc n) (kind_of seed (suc n)) k one) refl;
      unsigned = λ k. own_message seed n Unsigned (any_call (suc n) (kind_of seed (suc n)) Unsigned (ap change_by k) refl) refl;
      stale = λ k. own_message seed n Stale (any_call (suc n) (kind_of seed (suc n)) Stale (ap change_by k) refl) refl;
      unconfirmed = λ k. own_message seed n Unconfirmed (any_call (suc n) (kind_of seed (suc n)) Unconfirmed (ap change_by k) refl) refl;
      unanswered = λ k. ap (λ x. triples_of (call_with seed (suc n) x)) (any_call (suc n) (kind_of seed (suc n)) Unconfirmed (ap change_by k) refl);
      outside = λ k. own_message seed n Outside (any_call (suc n) (kind_of seed (suc n)) Outside (ap change_by k) refl) refl;
      plain = λ k. own_message seed n Plain (any_call (suc n) (kind_of seed (suc n)) Plain (plain_by (kind_of seed (suc n)) k) refl) refl;
    }

pub says_call : (seed i : ℕ) → 1 ≤ i → SaysCall seed i
says_call seed zero some = absurd (omega arith)
says_call seed (suc n) some = says_next seed n
