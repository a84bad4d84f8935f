-- Rounds, one after another.
use Rattle.std.proofs.Common.{◌≡◌, ◌+◌, ◌≤◌, Bool, true, false, ◌&&◌, ◌||◌, List, [], ◌∷◌, ◌++◌, length, refl, sym, ◌∙◌, ap, arith, append_assoc, length-append, inl, subst}
use Rattle.std.specs.List.{list_any}
use Rattle.call_log.specs.Entry.{Entry}
use Rattle.log_rounds.specs.AllValid.{all_valid}
use Rattle.verify_service.specs.Adding.{is_valid}
use Rattle.log_rounds.specs.Judge.{JudgeConfig, OutsideCounts}
use Rattle.log_rounds.specs.Judged.{SetAside}
use Rattle.log_rounds.specs.Rounds.{AllInOrder, InEach, Round, calls_in, outcomes_in, row_round, row_rounds, unread_pairs}
use Rattle.stir_outside.proofs.CountLaws.{at_most_then, both_at_most, not_risen_before, not_risen_behind}
use Rattle.stir_outside.specs.Count.{AtMost}
use Rattle.verify_service.specs.Causes.{NoneUnasked, NoneUnread, is_unasked, is_unread}
use Rattle.verify_service.specs.Judging.{EachPair}
use Rattle.verify_service.specs.declared.outcome.Outcome.{Outcome}

pub calls_both : (xs ys : List Round) → calls_in (xs ++ ys) ≡ calls_in xs ++ calls_in ys
calls_both [] ys = refl
calls_both (x ∷ xs) ys = ap (λ t. x.calls ++ t) (calls_both xs ys) ∙ sym (append_assoc x.calls (calls_in xs) (calls_in ys))

pub outcomes_both : (xs ys : List Round) → outcomes_in (xs ++ ys) ≡ outcomes_in xs ++ outcomes_in ys
outcomes_both [] ys = refl
outcomes_both (x ∷ xs) ys = ap (λ t. x.outcomes ++ t) (outcomes_both xs ys) ∙ sym (append_assoc x.outcomes (outcomes_in xs) (outcomes_in ys))

pub rows_both : (config : JudgeConfig) (xs ys : List Round) → row_rounds config (xs ++ ys) ≡ row_rounds config xs ++ row_rounds config ys
rows_both config [] ys = refl
rows_both config (x ∷ xs) ys = ap (λ t. row_round config x ∷ t) (rows_both config xs ys)

pub each_both : (P : Entry → Outcome → Type 0) (xs ys : List Round) → InEach P xs → InEach P ys → InEach P (xs ++ ys)
each_both P [] ys a b = b
each_both P (x ∷ xs) ys a b = (a.0, each_both P xs ys a.1 b)

pub order_both : (config : JudgeConfig) (xs ys : List Round) → AllInOrder config xs → AllInOrder config ys → AllInOrder config (xs ++ ys)
order_both config [] ys a b = b
order_both config (x ∷ xs) ys a b = (a.0, order_both config xs ys a.1 b)

-- ---- as many outcomes as calls

pub one_for_each : (P : Entry → Outcome → Type 0) (calls : List Entry) (outcomes : List Outcome) → EachPair P calls outcomes → length outcomes ≡ length calls
one_for_each P [] [] p = refl
one_for_each P [] (o ∷ os) p = absurd p
one_for_each P (c ∷ cs) [] p = absurd p
one_for_each P (c ∷ cs) (o ∷ os) p = omega (arith, one_for_each P cs os p.1)

pub as_many : (P : Entry → Outcome → Type 0) (rounds : List Round) → InEach P rounds → length (outcomes_in rounds) ≡ length (calls_in rounds)
as_many P [] a = refl
as_many P (r ∷ rs) a = omega (arith, length-append r.outcomes (outcomes_in rs), length-append r.calls (calls_in rs), one_for_each P r.calls r.outcomes a.0, as_many P rs a.1)

-- ---- what may be given under one judge may be given under the other

pub point_as : (P Q : Entry → Outcome → Type 0) (calls : List Entry) (outcomes : List Outcome) → ((call : Entry) (outcome : Outcome) → P call outcome → Q call outcome) → EachPair P calls outcomes → EachPair Q calls outcomes
point_as P Q [] [] f p = tt
point_as P Q [] (o ∷ os) f p = absurd p
point_as P Q (c ∷ cs) [] f p = absurd p
point_as P Q (c ∷ cs) (o ∷ os) f p = (f c o p.0, point_as P Q cs os f p.1)

-- ---- valid calls

pub and_assoc : (a b c : Bool) → (a && (b && c)) ≡ ((a && b) && c)
and_assoc true b c = refl
and_assoc false b c = refl

pub valid_both : (xs ys : List Outcome) → all_valid (xs ++ ys) ≡ (all_valid xs && all_valid ys)
valid_both [] ys = refl
valid_both (x ∷ xs) ys = ap (λ t. is_valid x && t) (valid_both xs ys) ∙ and_assoc (is_valid x) (all_valid xs) (all_valid ys)

-- ---- calls set aside

none_or : (t some more : Bool) → (some ≡ false → more ≡ false) → (t || some) ≡ false → (t || more) ≡ false
none_or true some more f e = e
none_or false some more f e = f e

none_both : (p : Outcome → Bool) (xs ys : List Outcome) → list_any p xs ≡ false → list_any p ys ≡ false → list_any p (xs ++ ys) ≡ false
none_both p [] ys a b = b
none_both p (x ∷ xs) ys a b = none_or (p x) (list_any p xs) (list_any p (xs ++ ys)) (λ e. none_both p xs ys e b) a

pub unread_both : (xs ys : List Outcome) → NoneUnread xs → NoneUnread ys → NoneUnread (xs ++ ys)
unread_both xs ys a b = none_both is_unread xs ys a b

pub unasked_both : (xs ys : List Outcome) → NoneUnasked xs → NoneUnasked ys → NoneUnasked (xs ++ ys)
unasked_both xs ys a b = none_both is_unasked xs ys a b

pub pairs_both : (config : JudgeConfig) (xs ys : List Round) → unread_pairs config (xs ++ ys) ≡ unread_pairs config xs + unread_pairs config ys
pairs_both config [] ys = omega arith
pairs_both config (x ∷ xs) ys = omega (arith, pairs_both config xs ys)

pub aside_none : (config : JudgeConfig) (counts : OutsideCounts) → SetAside config counts counts []
aside_none config counts = record {
  unread = inl (omega arith);
  quiet_shelf = λ n. refl;
  quiet_provider = λ n. refl;
}

pub aside_both : (config : JudgeConfig) (a b c : OutsideCounts) (xs ys : List Round) → a.shelf ≤ b.shelf → b.shelf ≤ c.shelf → a.provider ≤ b.provider → b.provider ≤ c.provider
    → SetAside config a b xs → SetAside config b c ys → SetAside config a c (xs ++ ys)
aside_both config a b c xs ys s t p q f g = record {
  unread = subst (λ n. AtMost n a.shelf c.shelf) (sym (pairs_both config xs ys)) (both_at_most (unread_pairs config xs) (unread_pairs config ys) a.shelf b.shelf c.shelf f.unread g.unread);
  quiet_shelf = λ n. subst NoneUnread (sym (outcomes_both xs ys)) (unread_both (outcomes_in xs) (outcomes_in ys) (f.quiet_shelf (not_risen_before a.shelf b.shelf c.shelf s t n)) (g.quiet_shelf (not_risen_behind a.shelf b.shelf c.shelf s t n)));
  quiet_provider = λ n. subst NoneUnasked (sym (outcomes_both xs ys)) (unasked_both (outcomes_in xs) (outcomes_in ys) (f.quiet_provider (not_risen_before a.provider b.provider c.provider p q n)) (g.quiet_provider (not_risen_behind a.provider b.provider c.provider p q n)));
}

-- more faults may be counted later
pub aside_on : (config : JudgeConfig) (a b c : OutsideCounts) (rounds : List Round) → a.shelf ≤ b.shelf → b.shelf ≤ c.shelf → a.provider ≤ b.provider → b.provider ≤ c.provider → SetAside config a b rounds → SetAside config a c rounds
aside_on config a b c rounds s t p q f = record {
  unread = at_most_then (unread_pairs config rounds) a.shelf b.shelf c.shelf f.unread t;
  quiet_shelf = λ n. f.quiet_shelf (not_risen_before a.shelf b.shelf c.shelf s t n);
  quiet_provider = λ n. f.quiet_provider (not_risen_before a.provider b.provider c.provider p q n);
}
