-- The calls of a prepared round are ready to be judged.
use Rattle.std.proofs.Common.{◌≡◌, ℕ, zero, suc, ◌<◌, ◌≤◌, ◌||◌, true, false, Bool, List, [], ◌∷◌, ◌++◌, get_or, length, Some, refl, sym, ap, ◌∙◌, subst, arith}
use Rattle.std.proofs.lemmas.Option.{same_Some}
use Rattle.std.specs.List.{slice_get}
use Rattle.std.specs.Str.{bytes_eq}
use Rattle.cert_store.specs.Using.{has}
use Rattle.replay_desk.specs.Holder.{DeskId}
use Rattle.verify_service.specs.Needed.{all_named, named_by, x5us}
use Rattle.verify_service.specs.Kept.{Kept}
use Rattle.verify_service.specs.Prepared.{AreScreened, HaveClass, IsNewest, PreparedView, basis_in}
use Rattle.verify_service.specs.Ready.{AreAllReady, Basis, CallReady, HasRoom}
use Rattle.verify_service.specs.RightChains.{AreThere}
use Rattle.verify_service.specs.Screening.{readings_in}
use Rattle.verify_service.specs.Service.{ServiceView}
use Rattle.verify_service.specs.declared.screening.ReadyCall.{ReadyCall}
use Rattle.verify_service.specs.declared.screening.Screening.{Screening}
use Rattle.verify_service.specs.declared.screening.Screening.TheVariants.{Open, Refused, Passed}
use Rattle.verify_service.proofs.TestLaws.{or_left, or_right}

has_both : (x : List ℕ) (xs ys : List (List ℕ)) → has x (xs ++ ys) ≡ (has x xs || has x ys)
has_both x [] ys = refl
has_both x (y ∷ xs) ys = ap (λ b. bytes_eq x y || b) (has_both x xs ys) ∙ by (bytes_eq x y) (has x xs) (has x ys)
  where
    by : (a b c : Bool) → (a || (b || c)) ≡ ((a || b) || c)
    by true b c = refl
    by false b c = refl

named_are : (screening : Screening) → x5us (readings_in screening) ≡ named_by screening
named_are Open = refl
named_are (Refused refused) = refl
named_are (Passed screened) = refl

pub named_at : (calls : List ReadyCall) (at : ℕ) (call : ReadyCall) (x : List ℕ) → slice_get calls at ≡ Some call → has x (x5us (readings_in call.screening)) ≡ true → has x (all_named calls) ≡ true
named_at [] at call x stands is = absurd cc
named_at (c ∷ calls) zero call x stands is =
    has_both x (named_by c.screening) (all_named calls)
    ∙ or_left (has x (named_by c.screening)) (has x (all_named calls))
    (sym (ap (has x) (named_are c.screening)) ∙ ap (λ (o : ReadyCall). has x (x5us (readings_in o.screening))) (same_Some c call stands) ∙ is)
named_at (c ∷ calls) (suc at) call x stands is =
    has_both x (named_by c.screening) (all_named calls) ∙ or_right (has x (named_by c.screening)) (has x (all_named calls)) (named_at calls at call x stands is)

pub all_ready : (on : Basis) (desk : DeskId) (calls : List ReadyCall) → HaveClass desk calls → AreThere on.materials.chains on.held on.kept (all_named calls) → AreAllReady on desk calls
all_ready on desk calls classes there at call stands =
    let one = classes at call stands in
    record { known = one.known; classed = one.classed; class = one.class; number = one.number; there = λ x is. there x (named_at calls at call x stands is) }

-- room for more is room
pub more_room : (calls : List ReadyCall) (spare more : ℕ) → HasRoom calls spare → spare ≤ more → HasRoom calls more
more_room calls spare more room less = record { classes = room.classes; each = room.each; room = (let r = room.room in omega arith) }

-- ---- as a caller sees the service and the round

-- what is said of what they have inside is said of what a contract sees
pub as_seen : (R : Basis → ReadyCall → Type 0) (seen service : ServiceView) (shown prepared : PreparedView) (here call : ReadyCall) → seen ≡ service → shown ≡ prepared → here ≡ call
    → R (basis_in seen shown) here → R (basis_in service prepared) call
as_seen R seen service shown prepared here call same_service same_round same_call is =
    subst (R (basis_in service prepared)) same_call
    (subst (λ (p : PreparedView). R (basis_in service p) here) same_round (subst (λ (s : ServiceView). R (basis_in s shown) here) same_service is))

pub stands_here : {X : Type 0} → (xs : List X) (i : ℕ) (x : X) → i < length xs → x ≡ get_or xs i x → slice_get xs i ≡ Some x
stands_here [] i x within is = absurd (omega arith)
stands_here (y ∷ xs) zero x within is = ap Some (sym is)
stands_here (y ∷ xs) (suc i) x within is = stands_here xs i x (omega arith) is

-- it is the call that is there
pub is_call : (shown prepared : PreparedView) (index : ℕ) (here call : ReadyCall) → shown ≡ prepared → index < length prepared.calls → here ≡ get_or shown.calls index here
    → slice_get prepared.calls index ≡ Some call → here ≡ call
is_call shown prepared index here call same within is stands =
    let less : index < length shown.calls = subst (λ (p : PreparedView). index < length p.calls) (sym same) within in
    same_Some here call (sym (stands_here shown.calls index here less is) ∙ ap (λ (p : PreparedView). slice_get p.calls index) same ∙ stands)

pub ready_at : (seen service : ServiceView) (shown prepared : PreparedView) (index : ℕ) (here : ReadyCall) → seen ≡ service → shown ≡ prepared → IsNewest service prepared
    → HaveClass shown.desk shown.calls → index < length prepared.calls → here ≡ get_or shown.calls index here → CallReady (basis_in seen shown) shown.desk here
ready_at seen service shown prepared index here same_service same_round newest classes within is =
    let there : AreThere seen.chains seen.held.entries shown.kept (all_named shown.calls) =
    subst (λ (p : PreparedView). AreThere seen.chains seen.held.entries p.kept (all_named p.calls)) (sym same_round)
    (subst (λ (s : ServiceView). AreThere s.chains s.held.entries prepared.kept (all_named prepared.calls)) (sym same_service) newest.there) in
    let less : index < length shown.calls = subst (λ (p : PreparedView). index < length p.calls) (sym same_round) within in
    all_ready (basis_in seen shown) shown.desk shown.calls classes there index here (stands_here shown.calls index here less is)

-- a round from which a seat was taken stays the newest
pub newest_as : (service : ServiceView) (old new : PreparedView) → new.calls ≡ old.calls → new.kept ≡ old.kept → IsNewest service old → IsNewest service new
newest_as service old new same_calls same_kept newest = record {
  calls = subst (λ (cs : List ReadyCall). AreScreened service.settings service.number cs) (sym same_calls) newest.calls;
  there = subst (λ (cs : List ReadyCall). AreThere service.chains service.held.entries new.kept (all_named cs)) (sym same_calls)
      (subst (λ (k : Kept). AreThere service.chains service.held.entries k (all_named old.calls)) (sym same_kept) newest.there);
  room = subst (λ (cs : List ReadyCall). HasRoom cs service.past.spare) (sym same_calls) newest.room;
  begun = newest.begun;
}

-- the same of all its calls
pub round_seen : (R : Basis → List ReadyCall → Type 0) (seen service : ServiceView) (shown prepared : PreparedView) → seen ≡ service → shown ≡ prepared
    → R (basis_in seen shown) shown.calls → R (basis_in service prepared) prepared.calls
round_seen R seen service shown prepared same_service same_round is =
    subst (λ (p : PreparedView). R (basis_in service p) p.calls) same_round (subst (λ (s : ServiceView). R (basis_in s shown) shown.calls) same_service is)

pub ready_in : (seen service : ServiceView) (shown prepared : PreparedView) → seen ≡ service → shown ≡ prepared → IsNewest service prepared → HaveClass shown.desk shown.calls
    → AreAllReady (basis_in seen shown) shown.desk shown.calls
ready_in seen service shown prepared same_service same_round newest classes =
    all_ready (basis_in seen shown) shown.desk shown.calls classes
    (subst (λ (p : PreparedView). AreThere seen.chains seen.held.entries p.kept (all_named p.calls)) (sym same_round)
    (subst (λ (s : ServiceView). AreThere s.chains s.held.entries prepared.kept (all_named prepared.calls)) (sym same_service) newest.there))
