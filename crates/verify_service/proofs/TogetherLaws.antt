-- What the workers did together, from what each left.
use Rattle.std.proofs.Common.{◌≡◌, ℕ, zero, suc, ◌+◌, ◌<◌, ◌%◌, true, List, [], ◌∷◌, get_or, map, length, unwrap_or, Option, Some, None, mod-lt, refl, sym, ap, ◌∙◌, subst, arith}
use Rattle.std.proofs.lemmas.Option.{same_Some}
use Rattle.std.specs.List.{slice_get}
use Rattle.replay_desk.specs.Holder.{DeskId, Holder}
use Rattle.live_desk.specs.Lists.{In, whole}
use Rattle.replay_desk.specs.Past.{PastView}
use Rattle.verify_service.specs.Carrying.{AreGathered, AreSaid, Claimed, HasAnswered, HasClaimed, HasClaims, HasSeat, IsInTurn, IsLoss, IsOfDesk, IsWin, Placed, joined_from, out_at}
use Rattle.stir_outside.specs.Stays.{ProviderStays}
use Rattle.stir_outside.specs.declared.provider.Provider.{Ghosts as ProviderOf}
use Rattle.verify_service.specs.Ready.{Basis, HaveSeats, Provided, is_passed, provided, share_of, shares}
use Rattle.verify_service.specs.Rows.{passes}
use Rattle.verify_service.specs.declared.outcome.Outcome.{Outcome}
use Rattle.verify_service.specs.declared.screening.ReadyCall.{ReadyCall}
use Rattle.verify_service.proofs.AnsweredLaws.{answered_as}
use Rattle.verify_service.proofs.GainLaws.{placed_on}
use Rattle.verify_service.proofs.JoinLaws.{OneHas, desk_from, first_has, gives, joined_share, shares_given, shares_same, some_joined}
use Rattle.call_judging.proofs.ListLaws.{mapped_length}
use Rattle.verify_service.proofs.OutLaws.{in_bounds}

-- ---- what one of them left

of_desk : (past : PastView) (calls : List ReadyCall) (count w : ℕ) (desk : DeskId) (old new : Option Holder) (outs : List Outcome) → HasSeat desk old
    → HasClaimed past calls count w old new outs → IsOfDesk desk new
of_desk past calls count w desk None new outs has claimed = absurd has
of_desk past calls count w desk (Some old) None outs has claimed = absurd claimed
of_desk past calls count w desk (Some old) (Some new) outs has claimed = claimed.desk ∙ has.own

claimed_of : (past : PastView) (calls : List ReadyCall) (count w : ℕ) (d : Holder) (old new : Option Holder) (outs : List Outcome) → HasClaimed past calls count w old new outs
    → Claimed past calls count w (length calls) (unwrap_or old d) (unwrap_or new d) outs
claimed_of past calls count w d None new outs claimed = absurd claimed
claimed_of past calls count w d (Some old) None outs claimed = absurd claimed
claimed_of past calls count w d (Some old) (Some new) outs claimed = claimed

left_of : (past : PastView) (calls : List ReadyCall) (count w : ℕ) (d : Holder) (old new : Option Holder) (outs : List Outcome) → HasClaimed past calls count w old new outs
    → new ≡ Some (unwrap_or new d)
left_of past calls count w d None new outs claimed = absurd claimed
left_of past calls count w d (Some old) None outs claimed = absurd claimed
left_of past calls count w d (Some old) (Some new) outs claimed = refl

same_share : (past : PastView) (calls : List ReadyCall) (count w : ℕ) (old new : Option Holder) (outs : List Outcome) → HasClaimed past calls count w old new outs
    → share_of new ≡ share_of old
same_share past calls count w None new outs claimed = absurd claimed
same_share past calls count w (Some old) None outs claimed = absurd claimed
same_share past calls count w (Some old) (Some new) outs claimed = claimed.share

seat_by : (desk : DeskId) (seats : List Holder) (w : ℕ) (o : Option Holder) → slice_get seats w ≡ o → w < length seats → HaveSeats desk seats → HasSeat desk o
seat_by desk seats w None is within have = absurd (beyond seats w is within)
  where
    beyond : (xs : List Holder) (i : ℕ) → slice_get xs i ≡ None → i < length xs → ⊥
    beyond [] i e less = omega arith
    beyond (x ∷ xs) zero e less = cc
    beyond (x ∷ xs) (suc i) e less = beyond xs i e (omega arith)
seat_by desk seats w (Some seat) is within have = have.each w seat is

pub has_seat : (desk : DeskId) (seats : List Holder) (w : ℕ) (o : Option Holder) → o ≡ slice_get seats w → w < length seats → HaveSeats desk seats → HasSeat desk o
has_seat desk seats w o is within have = seat_by desk seats w o (sym is) within have

-- ---- the seat that has what each worker's has

module _ (past : PastView) (calls : List ReadyCall) (count : ℕ) (some : 0 < count) (outs : List Outcome)
    (outs_of : ℕ → List Outcome) (before now : ℕ → Holder) (seats : List (Option Holder)) (all : Holder) (counted : length seats ≡ count)
    (joined : joined_from None seats ≡ Some all) (seat_at : (w : ℕ) → w < count → get_or seats w None ≡ Some (now w))
    (claimed : (w : ℕ) → w < count → Claimed past calls count w (length calls) (before w) (now w) (outs_of w))
    (gathered : (at : ℕ) → at < length calls → out_at outs at ≡ out_at (outs_of (at % count)) at) where
  own : (at : ℕ) → at % count < count
  own at = mod-lt at some

  wins_on : (w : ℕ) → w < count → (p : ℕ × ℕ) → In p (now w).wins → In p all.wins
  wins_on w within p has = gives (λ h. h.wins) (λ a b. refl) p None all (now w) seats w joined (omega arith) (seat_at w within) has

  losses_on : (w : ℕ) → w < count → (p : ℕ × ℕ) → In p (now w).losses → In p all.losses
  losses_on w within p has = gives (λ h. h.losses) (λ a b. refl) p None all (now w) seats w joined (omega arith) (seat_at w within) has

  each : (at : ℕ) (call : ReadyCall) → slice_get calls at ≡ Some call → Placed past call all (out_at outs at)
  each at call stands =
      let less = in_bounds calls at call stands in
      let w = claimed (at % count) (own at) in
      subst (λ (o : Outcome). Placed past call all o) (sym (gathered at less))
      (placed_on past call (now (at % count)) all (out_at (outs_of (at % count)) at) (wins_on (at % count) (own at)) (losses_on (at % count) (own at)) (w.each at call stands less refl))

  win_here : (p : ℕ × ℕ) → In p all.wins → IsWin calls outs (length calls) p
  win_here p has = by (first_has (λ h. h.wins) (λ a b. refl) p all seats joined has)
    where
      by : OneHas (λ h. h.wins) (λ a b. refl) p seats → IsWin calls outs (length calls) p
      by one =
          let within : one.w < count = (let b = one.within in omega arith) in
          let seat : one.seat ≡ now one.w = same_Some one.seat (now one.w) (sym one.at ∙ seat_at one.w within) in
          let o = (claimed one.w within).wins p (subst (λ (h : Holder). In p h.wins) seat one.has) in
          record {
            at = o.win.at;
            call = o.win.call;
            below = o.win.below;
            stands = o.win.stands;
            pair = o.win.pair;
            valid = gathered o.win.at o.win.below ∙ ap (λ w. out_at (outs_of w) o.win.at) o.own ∙ o.win.valid;
          }

  loss_here : (p : ℕ × ℕ) → In p all.losses → IsLoss past calls outs (length calls) p
  loss_here p has = by (first_has (λ h. h.losses) (λ a b. refl) p all seats joined has)
    where
      by : OneHas (λ h. h.losses) (λ a b. refl) p seats → IsLoss past calls outs (length calls) p
      by one =
          let within : one.w < count = (let b = one.within in omega arith) in
          let seat : one.seat ≡ now one.w = same_Some one.seat (now one.w) (sym one.at ∙ seat_at one.w within) in
          let o = (claimed one.w within).losses p (subst (λ (h : Holder). In p h.losses) seat one.has) in
          record {
            at = o.loss.at;
            call = o.loss.call;
            below = o.loss.below;
            stands = o.loss.stands;
            class = o.loss.class;
            replay = gathered o.loss.at o.loss.below ∙ ap (λ w. out_at (outs_of w) o.loss.at) o.own ∙ o.loss.replay;
            free = o.loss.free;
          }

  pub claims_of_all : HasClaims past calls outs all
  claims_of_all = record { each = each; wins = win_here; losses = loss_here }

-- ---- from what the steps of the code leave: the workers before, with their seats, once they worked, and without seats again

mapped_get : {W X : Type 0} → (f : W → X) (ws : List W) (w : ℕ) (d : W) (x : X) → w < length ws → get_or (map f ws) w x ≡ f (get_or ws w d)
mapped_get f [] w d x within = absurd (omega arith)
mapped_get f (v ∷ ws) zero d x within = refl
mapped_get f (v ∷ ws) (suc w) d x within = mapped_get f ws w d x (omega arith)

pub head_of : {W : Type 0} → (ws : List W) → 0 < length ws → W
head_of [] some = absurd (omega arith)
head_of (w ∷ ws) some = w

claimed_as : (past : PastView) (calls : List ReadyCall) (count count_mid w : ℕ) (old old_mid new new_mid : Option Holder) (outs outs_mid : List Outcome) → count_mid ≡ count
    → old_mid ≡ old → new_mid ≡ new → outs_mid ≡ outs → HasClaimed past calls count_mid w old_mid new_mid outs_mid → HasClaimed past calls count w old new outs
claimed_as past calls count count_mid w old old_mid new new_mid outs outs_mid b e f g claimed =
    subst (λ n. HasClaimed past calls n w old new outs) b
    (subst (λ (h : Option Holder). HasClaimed past calls count_mid w h new outs) e
    (subst (λ (h : Option Holder). HasClaimed past calls count_mid w old_mid h outs) f
    (subst (λ (os : List Outcome). HasClaimed past calls count_mid w old_mid new_mid os) g claimed)))

-- What the steps leave of workers: seats are given, calls are judged, and seats are taken.
pub record Steps {W : Type 0} (seat_of : W → Option Holder) (outs_in : W → List Outcome) (past : PastView) (calls : List ReadyCall) (desk : DeskId) (seats : List Holder)
    (before seated worked left : List W) : Type 0 where
  pub some : 0 < length before
  pub many : length seats ≡ length before
  pub many_seated : length seated ≡ length before
  pub many_worked : length worked ≡ length seated
  pub many_left : length left ≡ length worked
  pub given : (w : ℕ) (d : W) → w < length before → seat_of (get_or seated w d) ≡ slice_get seats w
  pub have : HaveSeats desk seats
  pub claimed : (w : ℕ) (d : W) → w < length seated
      → HasClaimed past calls (length seated) w (seat_of (get_or seated w d)) (seat_of (get_or worked w d)) (outs_in (get_or worked w d))
  pub same_outs : (w : ℕ) (d : W) → w < length worked → outs_in (get_or left w d) ≡ outs_in (get_or worked w d)

pub steps_are : {W : Type 0} {seat_of : W → Option Holder} {outs_in : W → List Outcome} {past : PastView} {calls : List ReadyCall} {desk : DeskId} {seats : List Holder} {before seated worked left : List W}
    → 0 < length before → length seats ≡ length before → length seated ≡ length before → length worked ≡ length seated → length left ≡ length worked
    → ((w : ℕ) (d : W) → w < length before → seat_of (get_or seated w d) ≡ slice_get seats w) → HaveSeats desk seats
    → ((w : ℕ) (d : W) → w < length seated → HasClaimed past calls (length seated) w (seat_of (get_or seated w d)) (seat_of (get_or worked w d)) (outs_in (get_or worked w d)))
    → ((w : ℕ) (d : W) → w < length worked → outs_in (get_or left w d) ≡ outs_in (get_or worked w d)) → Steps seat_of outs_in past calls desk seats before seated worked left
steps_are some many many_seated many_worked many_left given have claimed same_outs = record {
  some = some;
  many = many;
  many_seated = many_seated;
  many_worked = many_worked;
  many_left = many_left;
  given = given;
  have = have;
  claimed = claimed;
  same_outs = same_outs;
}

-- What the one seat has to which those of all workers are joined.
pub record Joined {W : Type 0} (outs_in : W → List Outcome) (past : PastView) (calls : List ReadyCall) (desk : DeskId) (before left : List W) (all : Holder) : Type 0 where
  pub claims : (d : W) (outs : List Outcome) → AreGathered (λ w. outs_in (get_or left w d)) (length before) (length calls) outs → HasClaims past calls outs all
  pub share : all.share ≡ whole
  pub own : all.desk ≡ desk
  pub turn : (d : W) (outs : List Outcome) → length before ≡ 1 → AreGathered (λ w. outs_in (get_or left w d)) (length before) (length calls) outs → IsInTurn past calls outs

module _ {W : Type 0} (seat_of : W → Option Holder) (outs_in : W → List Outcome) (past : PastView) (calls : List ReadyCall) (desk : DeskId) (seats : List Holder)
    (before seated worked left : List W) (s : Steps seat_of outs_in past calls desk seats before seated worked left) where
  abbrev seats_then : List (Option Holder)
  seats_then = map seat_of seated

  abbrev seats_now : List (Option Holder)
  seats_now = map seat_of worked

  many_then : length seats_then ≡ length before
  many_then = mapped_length seat_of seated ∙ s.many_seated

  many_now : length seats_now ≡ length before
  many_now = mapped_length seat_of worked ∙ s.many_worked ∙ s.many_seated

  claimed_at : (d : W) (w : ℕ) → w < length before
      → HasClaimed past calls (length before) w (get_or seats_then w None) (get_or seats_now w None) (outs_in (get_or left w d))
  claimed_at d w within =
      let a = s.many_seated in
      let b = s.many_worked in
      claimed_as past calls (length before) (length seated) w (get_or seats_then w None) (seat_of (get_or seated w d)) (get_or seats_now w None) (seat_of (get_or worked w d))
      (outs_in (get_or left w d)) (outs_in (get_or worked w d)) a (sym (mapped_get seat_of seated w d None (omega arith))) (sym (mapped_get seat_of worked w d None (omega arith)))
      (sym (s.same_outs w d (omega arith))) (s.claimed w d (omega arith))

  given_at : (d : W) (w : ℕ) → w < length before → get_or seats_then w None ≡ slice_get seats w
  given_at d w within = let a = s.many_seated in mapped_get seat_of seated w d None (omega arith) ∙ s.given w d within

  desk_at : (d : W) (w : ℕ) → w < length before → IsOfDesk desk (get_or seats_now w None)
  desk_at d w within =
      let m = s.many in
      of_desk past calls (length before) w desk (get_or seats_then w None) (get_or seats_now w None) (outs_in (get_or left w d))
      (has_seat desk seats w (get_or seats_then w None) (given_at d w within) (omega arith) s.have) (claimed_at d w within)

  none_left : (o old : Option Holder) (outs : List Outcome) → HasClaimed past calls (length before) 0 old o outs → get_or seats_now 0 None ≡ o → joined_from None seats_now ≡ None → ⊥
  none_left None None outs claimed at none = claimed
  none_left None (Some old) outs claimed at none = claimed
  none_left (Some seat) old outs claimed at none = some_joined seats_now seat (let m = many_now in let b = s.some in omega arith) at none

  pub is_joined : joined_from None seats_now ≡ None → ⊥
  is_joined none = none_left (get_or seats_now 0 None) (get_or seats_then 0 None) (outs_in (get_or left 0 (head_of before s.some))) (claimed_at (head_of before s.some) 0 s.some) refl none

  all_given : shares seats_then ≡ whole
  all_given =
      let m = s.many in
      shares_given seats seats_then (many_then ∙ sym s.many) (λ w within. given_at (head_of before s.some) w (omega arith)) ∙ s.have.all

  desk_is : (all : Holder) → joined_from None seats_now ≡ Some all → all.desk ≡ desk
  desk_is all joined = subst (IsOfDesk desk) joined (desk_from desk None seats_now tt (λ w within. desk_at (head_of before s.some) w (let m = many_now in omega arith)))

  share_is : (all : Holder) → joined_from None seats_now ≡ Some all → all.share ≡ whole
  share_is all joined =
      let d = head_of before s.some in
      let m = many_then in
      joined_share all seats_now joined
      ∙ shares_same seats_then seats_now (many_now ∙ sym many_then)
      (λ w within. same_share past calls (length before) w (get_or seats_then w None) (get_or seats_now w None) (outs_in (get_or left w d)) (claimed_at d w (omega arith)))
      ∙ all_given

  claims_are : (all : Holder) → joined_from None seats_now ≡ Some all → (d : W) (outs : List Outcome) → AreGathered (λ w. outs_in (get_or left w d)) (length before) (length calls) outs
      → HasClaims past calls outs all
  claims_are all joined d outs gathered =
      claims_of_all past calls (length before) s.some outs (λ w. outs_in (get_or left w d)) (λ w. unwrap_or (get_or seats_then w None) all) (λ w. unwrap_or (get_or seats_now w None) all)
      seats_now all many_now joined
      (λ w within. left_of past calls (length before) w all (get_or seats_then w None) (get_or seats_now w None) (outs_in (get_or left w d)) (claimed_at d w within))
      (λ w within. claimed_of past calls (length before) w all (get_or seats_then w None) (get_or seats_now w None) (outs_in (get_or left w d)) (claimed_at d w within)) gathered

  -- ---- one worker

  one_share : (holders : List (Option Holder)) → length holders ≡ 1 → shares holders ≡ whole → share_of (get_or holders 0 None) ≡ whole
  one_share [] one share = absurd (omega arith)
  one_share (seat ∷ []) one share = let same : share_of seat + 0 ≡ share_of seat = omega arith in sym same ∙ share
  one_share (seat ∷ other ∷ holders) one share = absurd (omega arith)

  all_its_own : (count at : ℕ) → 0 < count → count ≡ 1 → at % count ≡ 0
  all_its_own count at more one = let below : at % count < count = mod-lt at more in omega arith

  turn_by : (mine outs : List Outcome) (old new : Option Holder) → length before ≡ 1 → HasClaimed past calls (length before) 0 old new mine → share_of old ≡ whole
      → ((at : ℕ) → at < length calls → out_at outs at ≡ out_at mine at) → IsInTurn past calls outs
  turn_by mine outs None new one claimed share same = absurd claimed
  turn_by mine outs (Some old) None one claimed share same = absurd claimed
  turn_by mine outs (Some old) (Some new) one claimed share same = λ at call winner stands replay free.
      let below : at < length calls = in_bounds calls at call stands in
      let win = claimed.in_turn share at call winner stands below (all_its_own (length before) at s.some one) (sym (same at below) ∙ replay) free in
      record {
        at = win.at;
        call = win.call;
        below = win.below;
        stands = win.stands;
        pair = win.pair;
        valid = same win.at (let b = win.below in omega arith) ∙ win.valid;
      }

  turn_is : length before ≡ 1 → (d : W) (outs : List Outcome) → AreGathered (λ w. outs_in (get_or left w d)) (length before) (length calls) outs → IsInTurn past calls outs
  turn_is one d outs gathered =
      turn_by (outs_in (get_or left 0 d)) outs (get_or seats_then 0 None) (get_or seats_now 0 None) one (claimed_at d 0 s.some) (one_share seats_then (many_then ∙ one) all_given)
      (λ at below. gathered at below ∙ ap (λ w. out_at (outs_in (get_or left w d)) at) (all_its_own (length before) at s.some one))

  pub joined_is : (all : Holder) → joined_from None seats_now ≡ Some all → Joined outs_in past calls desk before left all
  joined_is all joined = record { claims = claims_are all joined; share = share_is all joined; own = desk_is all joined; turn = λ d outs one gathered. turn_is one d outs gathered }

-- ---- what each answered, and what its provider says

-- over the same provider before and after
pub answered_then : {P : Type 0} → (on : Basis) (provider : ProviderOf P) (calls : List ReadyCall) (count count_mid w : ℕ) (before before_mid after after_mid : P) (outs outs_mid : List Outcome)
    → count_mid ≡ count → before_mid ≡ before → after ≡ after_mid → outs ≡ outs_mid → HasAnswered on (provided provider before_mid after_mid) calls count_mid w outs_mid
    → HasAnswered on (provided provider before after) calls count w outs
answered_then on provider calls count count_mid w before before_mid after after_mid outs outs_mid a b e f answered =
    subst (λ n. HasAnswered on (provided provider before after) calls n w outs) a
    (subst (λ p. HasAnswered on (provided provider p after) calls count_mid w outs) b
    (subst (λ p. HasAnswered on (provided provider before_mid p) calls count_mid w outs) (sym e)
    (subst (λ (os : List Outcome). HasAnswered on (provided provider before_mid after_mid) calls count_mid w os) (sym f) answered)))

pub stays_then : {P : Type 0} → (provider : ProviderOf P) (before before_mid after after_mid : P) → before_mid ≡ before → after ≡ after_mid → ProviderStays provider before_mid after_mid
    → ProviderStays provider before after
stays_then provider before before_mid after after_mid b e stays =
    subst (λ p. ProviderStays provider p after) b (subst (λ p. ProviderStays provider before_mid p) (sym e) stays)

-- ---- the answers together

pub gathered_as : (outs_of : ℕ → List Outcome) (count count_now many size : ℕ) (outs : List Outcome) → count_now ≡ count → size ≡ many
    → ((at : ℕ) → at < size → out_at outs at ≡ out_at (outs_of (at % count_now)) at) → AreGathered outs_of count many outs
gathered_as outs_of count count_now many size outs a b each = λ at within. each at (omega arith) ∙ ap (λ n. out_at (outs_of (at % n)) at) a

pub answered_of_all : (on : Basis) (by : Provided) (calls : List ReadyCall) (count w : ℕ) (outs_of : ℕ → List Outcome) (outs : List Outcome) → AreGathered outs_of count (length calls) outs
    → HasAnswered on by calls count w (outs_of w) → HasAnswered on by calls count w outs
answered_of_all on by calls count w outs_of outs gathered answered =
    answered_as on by calls count w (length calls) (outs_of w) outs (λ at below own. gathered at below ∙ ap (λ k. out_at (outs_of k) at) own) answered

pub said_of_all : (on : Basis) (by : ℕ → Provided) (calls : List ReadyCall) (count : ℕ) (outs : List Outcome) → 0 < count
    → ((w : ℕ) → w < count → HasAnswered on (by w) calls count w outs) → AreSaid on by count calls outs
said_of_all on by calls count outs some answered = λ at call stands.
    (answered (at % count) (mod-lt at some)).said at call stands (in_bounds calls at call stands) refl

pub passed_of_all : (on : Basis) (by : ℕ → Provided) (calls : List ReadyCall) (count : ℕ) (outs : List Outcome) → AreSaid on by count calls outs
    → (at : ℕ) (call : ReadyCall) → slice_get calls at ≡ Some call → passes (out_at outs at) ≡ true → is_passed call.screening ≡ true
passed_of_all on by calls count outs said at call stands pass = (said at call stands).passed pass
