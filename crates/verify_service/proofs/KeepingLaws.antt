-- What is kept of calls stays within its bounds: when the past is purged, and when the valid calls of a round are added.
use Rattle.std.proofs.Common.{◌≡◌, ◌≢◌, ℕ, zero, suc, ◌≤◌, ◌⊎◌, inl, inr, nat_lt, Bool, true, false, cond, List, [], ◌∷◌, Option, Some, None, refl, sym, ap, ◌∙◌, subst, arith}
use Rattle.std.proofs.lemmas.Option.{none-some, same_Some}
use Rattle.std.proofs.lemmas.Slice.Eq.{bytes_eq-Decides}
use Rattle.std.specs.List.{slice_get}
use Rattle.std.specs.Str.{bytes_eq}
use Rattle.replay_desk.specs.Past.{PastView, found, unless_below}
use Rattle.state_text.specs.State.{IsKept}
use Rattle.state_text.specs.declared.kept.Kept.{Kept as Passing}
use Rattle.verify_service.specs.Adding.{IsAdded, kept_as}
use Rattle.verify_service.specs.Carrying.{out_at}
use Rattle.verify_service.specs.Ready.{ticket_in}
use Rattle.verify_service.specs.Service.{EachKept}
use Rattle.verify_service.specs.declared.outcome.Outcome.{Outcome}
use Rattle.verify_service.specs.declared.outcome.Outcome.TheVariants.{Valid, Refused, Replay, Unread, Unasked}
use Rattle.verify_service.specs.declared.screening.ReadyCall.{ReadyCall}

pub is_kept_on : (number now : ℕ) (kept : Passing) → number ≤ now → IsKept number kept → IsKept now kept
is_kept_on number now kept more is = record { some = is.some; within = (let within : kept.call ≤ number = is.within in omega arith); last = is.last }

-- ---- none, the same, and purged

pub none_kept : (number : ℕ) (past : PastView) → ((ticket : List ℕ) → found past ticket ≡ None) → EachKept number past
none_kept number past none = λ ticket kept is. absurd (none-some kept (sym (none ticket) ∙ is))

pub same_kept : (number now : ℕ) (past next : PastView) → number ≤ now → EachKept number past → ((ticket : List ℕ) → found next ticket ≡ found past ticket) → EachKept now next
same_kept number now past next more each same = λ ticket kept is. is_kept_on number now kept more (each ticket kept (sym (same ticket) ∙ is))

left_by : (moment : ℕ) (t : Bool) (one kept : Passing) → cond t None (Some one) ≡ Some kept → one ≡ kept
left_by moment true one kept is = absurd (none-some kept is)
left_by moment false one kept is = same_Some one kept is

-- what is left was there
was_there : (moment : ℕ) (before : Option Passing) (kept : Passing) → unless_below moment before ≡ Some kept → before ≡ Some kept
was_there moment None kept is = absurd (none-some kept is)
was_there moment (Some one) kept is = ap (λ (k : Passing). Some k) (left_by moment (nat_lt one.last moment) one kept is)

pub purged_kept : (number now moment : ℕ) (past next : PastView) → number ≤ now → EachKept number past
    → ((ticket : List ℕ) → found next ticket ≡ unless_below moment (found past ticket)) → EachKept now next
purged_kept number now moment past next more each purges = λ ticket kept is.
    is_kept_on number now kept more (each ticket kept (was_there moment (found past ticket) kept (sym (purges ticket) ∙ is)))

-- ---- the valid calls added

-- one of the list is such, or none is
some_or_none : {X : Type 0} → (P : ℕ → X → Type 0) → ((at : ℕ) (x : X) → P at x ⊎ (P at x → ⊥)) → (xs : List X)
    → ((at : ℕ) × (x : X) × (slice_get xs at ≡ Some x) × P at x) ⊎ ((at : ℕ) (x : X) → slice_get xs at ≡ Some x → P at x → ⊥)
some_or_none {X} P test [] = inr (λ at x is so. none-some x is)
some_or_none {X} P test (y ∷ ys) = by_first (test 0 y) (some_or_none (λ at x. P (suc at) x) (λ at x. test (suc at) x) ys) where
  by_first : P 0 y ⊎ (P 0 y → ⊥) → ((at : ℕ) × (x : X) × (slice_get ys at ≡ Some x) × P (suc at) x) ⊎ ((at : ℕ) (x : X) → slice_get ys at ≡ Some x → P (suc at) x → ⊥)
      → ((at : ℕ) × (x : X) × (slice_get (y ∷ ys) at ≡ Some x) × P at x) ⊎ ((at : ℕ) (x : X) → slice_get (y ∷ ys) at ≡ Some x → P at x → ⊥)
  by_first (inl here) rest = inl (0, y, refl, here)
  by_first (inr not_here) (inl (at, x, is, so)) = inl (suc at, x, is, so)
  by_first (inr not_here) (inr none) = inr by_place where
    by_place : (at : ℕ) (x : X) → slice_get (y ∷ ys) at ≡ Some x → P at x → ⊥
    by_place zero x is so = not_here (subst (P 0) (sym (same_Some y x is)) so)
    by_place (suc at) x is so = none at x is so

-- the call is valid and has this ticket
pub record HasWon (outs : List Outcome) (ticket : List ℕ) (at : ℕ) (call : ReadyCall) : Type 0 where
  pub valid : out_at outs at ≡ Valid
  pub same : ticket_in call.screening ≡ ticket

one_ticket : (a b : List ℕ) → (a ≡ b) ⊎ (a ≢ b)
one_ticket a b = by_test (bytes_eq a b) refl where
  by_test : (t : Bool) → bytes_eq a b ≡ t → (a ≡ b) ⊎ (a ≢ b)
  by_test true is = inl ((bytes_eq-Decides a b).0 is)
  by_test false is = inr (λ e. let same = (bytes_eq-Decides a b).1 e in let both : true ≡ false = sym same ∙ is in absurd (cc))

is_or_not : (o : Outcome) → (o ≡ Valid) ⊎ (o ≢ Valid)
is_or_not Valid = inl refl
is_or_not (Refused refused) = inr (λ e. cc)
is_or_not (Replay winner) = inr (λ e. cc)
is_or_not (Unread bad) = inr (λ e. cc)
is_or_not (Unasked bad) = inr (λ e. cc)

won_or_not : (outs : List Outcome) (ticket : List ℕ) (at : ℕ) (call : ReadyCall) → HasWon outs ticket at call ⊎ (HasWon outs ticket at call → ⊥)
won_or_not outs ticket at call = by_both (is_or_not (out_at outs at)) (one_ticket (ticket_in call.screening) ticket) where
  by_both : (out_at outs at ≡ Valid) ⊎ (out_at outs at ≢ Valid) → (ticket_in call.screening ≡ ticket) ⊎ (ticket_in call.screening ≢ ticket)
      → HasWon outs ticket at call ⊎ (HasWon outs ticket at call → ⊥)
  by_both (inl valid) (inl same) = inl (record { valid = valid; same = same })
  by_both (inl valid) (inr apart) = inr (λ h. apart h.same)
  by_both (inr fails) other = inr (λ h. fails h.valid)

pub added_kept : (number : ℕ) (past next : PastView) (calls : List ReadyCall) (outs : List Outcome) → EachKept number past
    → ((at : ℕ) (call : ReadyCall) → slice_get calls at ≡ Some call → IsKept number (kept_as call)) → IsAdded past next calls outs → EachKept number next
added_kept number past next calls outs each these adds = λ ticket kept is. by ticket kept is (some_or_none (HasWon outs ticket) (won_or_not outs ticket) calls) where
  by : (ticket : List ℕ) (kept : Passing) → found next ticket ≡ Some kept
      → ((at : ℕ) × (call : ReadyCall) × (slice_get calls at ≡ Some call) × HasWon outs ticket at call) ⊎ ((at : ℕ) (call : ReadyCall) → slice_get calls at ≡ Some call → HasWon outs ticket at call → ⊥)
      → IsKept number kept
  by ticket kept is (inl (at, call, stands, won)) =
      let added : found next ticket ≡ Some (kept_as call) = ap (found next) (sym won.same) ∙ adds.valid at call stands won.valid in
      subst (IsKept number) (same_Some (kept_as call) kept (sym added ∙ is)) (these at call stands)
  by ticket kept is (inr none) =
      let stays : found next ticket ≡ found past ticket = adds.others ticket (λ at call stands valid same. none at call stands (record { valid = valid; same = same })) in
      each ticket kept (sym stays ∙ is)
