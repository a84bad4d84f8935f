-- A seat that claims, or doesn't, stays one of its desk.
use Rattle.std.proofs.Common.{◌≡◌, ℕ, zero, suc, ◌<◌, inl, inr, List, [], ◌∷◌, length, Some, refl, ap, ◌∙◌, arith}
use Rattle.std.specs.List.{slice_get}
use Rattle.replay_desk.specs.Holder.{DeskId, Holder}
use Rattle.replay_desk.specs.Past.{PastView}
use Rattle.verify_service.specs.Claiming.{Claims, ClaimsAt}
use Rattle.verify_service.specs.declared.outcome.Outcome.{Outcome}
use Rattle.verify_service.specs.declared.outcome.Outcome.TheVariants as outcomes
use Rattle.verify_service.specs.declared.screening.ReadyCall.{ReadyCall}

stays_at : (past : PastView) (ticket : List ℕ) (class number : ℕ) (old new : Holder) (outcome : Outcome) → ClaimsAt past ticket class number old new outcome → new.desk ≡ old.desk
stays_at past ticket class number old new outcomes.Valid is = ap (λ (h : Holder). h.desk) is.1
stays_at past ticket class number old new (outcomes.Replay winner) (inl is) = ap (λ (h : Holder). h.desk) is.1
stays_at past ticket class number old new (outcomes.Replay winner) (inr is) = ap (λ (h : Holder). h.desk) is.1
stays_at past ticket class number old new (outcomes.Refused refused) is = ap (λ (h : Holder). h.desk) is
stays_at past ticket class number old new (outcomes.Unread bad) is = ap (λ (h : Holder). h.desk) is
stays_at past ticket class number old new (outcomes.Unasked bad) is = ap (λ (h : Holder). h.desk) is

-- of a call of a round
pub desk_stays : (calls : List ReadyCall) (index : ℕ) (past : PastView) (old new : Holder) (outcome : Outcome) (desk : DeskId) → index < length calls
    → ((call : ReadyCall) → slice_get calls index ≡ Some call → Claims past call old new outcome) → old.desk ≡ desk → new.desk ≡ desk
desk_stays [] index past old new outcome desk within each own = absurd (omega arith)
desk_stays (call ∷ calls) zero past old new outcome desk within each own = stays_at past _ _ _ old new outcome (each call refl) ∙ own
desk_stays (call ∷ calls) (suc index) past old new outcome desk within each own = desk_stays calls index past old new outcome desk (omega arith) each own
