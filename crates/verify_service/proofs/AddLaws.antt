-- The valid calls are kept, one call more.
use Rattle.std.proofs.Common.{◌≡◌, ◌≢◌, ℕ, suc, ◌+◌, ◌<◌, ◌⊎◌, inl, inr, List, Some, sym, ap, ◌∙◌, subst, arith}
use Rattle.std.proofs.lemmas.Option.{same_Some}
use Rattle.std.specs.List.{slice_get}
use Rattle.replay_desk.specs.Past.{PastView, found}
use Rattle.verify_service.specs.Adding.{AddedUpto, AddsCall, AddsOne, IsOnceValid, kept_as}
use Rattle.verify_service.specs.Carrying.{out_at}
use Rattle.verify_service.specs.Ready.{ticket_in}
use Rattle.verify_service.specs.declared.outcome.Outcome.{Outcome}
use Rattle.verify_service.specs.declared.outcome.Outcome.TheVariants.{Valid, Refused, Replay, Unread, Unasked}
use Rattle.verify_service.specs.declared.screening.ReadyCall.{ReadyCall}
use Rattle.verify_service.proofs.OutLaws.{below_more, next}

module _ (past mid next : PastView) (calls : List ReadyCall) (outs : List Outcome) (upto : ℕ) (call : ReadyCall) (once : IsOnceValid past calls outs) (so_far : AddedUpto past mid calls outs upto)
    (stands : slice_get calls upto ≡ Some call) where
  same_call : (at : ℕ) (other : ReadyCall) → at ≡ upto → slice_get calls at ≡ Some other → call ≡ other
  same_call at other same is = same_Some call other (sym stands ∙ ap (slice_get calls) (sym same) ∙ is)

  -- it isn't valid, and nothing changes
  added_over : out_at outs upto ≢ Valid → next ≡ mid → AddedUpto past next calls outs (suc upto)
  added_over fails same = subst (λ (v : PastView). AddedUpto past v calls outs (suc upto)) (sym same) (record {
    valid = λ at other there below valid. by at other there valid (below_more at upto below);
    others = λ ticket lacks. so_far.others ticket (λ at other there below valid. lacks at other there (omega arith) valid);
  }) where
    by : (at : ℕ) (other : ReadyCall) → slice_get calls at ≡ Some other → out_at outs at ≡ Valid → (at < upto) ⊎ (at ≡ upto) → found mid (ticket_in other.screening) ≡ Some (kept_as other)
    by at other there valid (inl less) = so_far.valid at other there less valid
    by at other there valid (inr same) = absurd (fails (ap (out_at outs) (sym same) ∙ valid))

  -- it is valid, and is kept
  added_here : out_at outs upto ≡ Valid → AddsCall call mid next → AddedUpto past next calls outs (suc upto)
  added_here is adds = record {
    valid = λ at other there below valid. by at other there valid (below_more at upto below);
    others = λ ticket lacks.
        adds.others ticket (λ same. lacks upto call stands (omega arith) is (sym same))
        ∙ so_far.others ticket (λ at other there below valid. lacks at other there (omega arith) valid);
  } where
    by : (at : ℕ) (other : ReadyCall) → slice_get calls at ≡ Some other → out_at outs at ≡ Valid → (at < upto) ⊎ (at ≡ upto) → found next (ticket_in other.screening) ≡ Some (kept_as other)
    by at other there valid (inl less) =
        adds.others (ticket_in other.screening) (λ same. let e : at ≡ upto = once.once at upto other call there stands valid is same in omega arith) ∙ so_far.valid at other there less valid
    by at other there valid (inr same) = subst (λ (c : ReadyCall). found next (ticket_in c.screening) ≡ Some (kept_as c)) (same_call at other same there) adds.added

  not_valid : (o : Outcome) → (o ≡ Valid → ⊥) → out_at outs upto ≡ o → out_at outs upto ≢ Valid
  not_valid o apart is valid = apart (sym is ∙ valid)

  pub added_next : (o : Outcome) → out_at outs upto ≡ o → AddsOne call o mid next → AddedUpto past next calls outs (suc upto)
  added_next Valid is adds = added_here is adds
  added_next (Refused refused) is adds = added_over (not_valid (Refused refused) (λ e. cc) is) adds
  added_next (Replay winner) is adds = added_over (not_valid (Replay winner) (λ e. cc) is) adds
  added_next (Unread bad) is adds = added_over (not_valid (Unread bad) (λ e. cc) is) adds
  added_next (Unasked bad) is adds = added_over (not_valid (Unasked bad) (λ e. cc) is) adds

pub add_next : (past mid now : PastView) (calls : List ReadyCall) (outs : List Outcome) (upto : ℕ) (call : ReadyCall) (o : Outcome) → IsOnceValid past calls outs → AddedUpto past mid calls outs upto
    → slice_get calls upto ≡ Some call → out_at outs upto ≡ o → AddsOne call o mid now → AddedUpto past now calls outs (upto + 1)
add_next past mid now calls outs upto call o once so_far stands is adds =
    subst (λ n. AddedUpto past now calls outs n) (next upto) (added_next past mid now calls outs upto call once so_far stands o is adds)
