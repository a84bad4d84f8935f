-- Seats that were joined.
use Rattle.std.proofs.Common.{◌≡◌, ℕ, zero, suc, ◌+◌, ◌-◌, ◌/◌, ◌^◌, ◌<◌, ◌≤◌, ◌⊎◌, inl, inr, ⊎_elim, Option, Some, None, List, [], ◌∷◌, ◌++◌, length, get_or, refl, sym, ap, ◌∙◌, subst, arith}
use Rattle.live_desk.specs.Lists.{In, total}
use Rattle.live_desk.specs.Holder.{Holder}
use Rattle.live_desk.specs.Laws.{wins, won}
use Rattle.live_desk.specs.declared.view.SetWord.{SetWord}
use Rattle.live_desk.specs.declared.view.SeenWord.{SeenWord}
use Rattle.live_desk.proofs.Sums.{count_append, in_append, in_left, in_right}
use Rattle.once_run.specs.Work.{joined, seat_share, share_of, with_seat}
use Rattle.once_run.specs.declared.worker.Worker.{Worker}

-- the last of the workers is joined first
pub joined_last : (h : Holder) (ws : List Worker) (w : Worker) → joined h (ws ++ w ∷ []) ≡ joined (with_seat h w.seat) ws
joined_last h [] w = refl
joined_last h (v ∷ ws) w = ap (λ (g : Holder). with_seat g v.seat) (joined_last h ws w)

pub with_desk : (h : Holder) (o : Option Holder) → (with_seat h o).desk ≡ h.desk
with_desk h None = refl
with_desk h (Some other) = refl

pub joined_desk : (h : Holder) (ws : List Worker) → (joined h ws).desk ≡ h.desk
joined_desk h [] = refl
joined_desk h (w ∷ ws) = with_desk (joined h ws) w.seat ∙ joined_desk h ws

with_share : (h : Holder) (o : Option Holder) → (with_seat h o).share ≡ h.share + seat_share o
with_share h None = omega arith
with_share h (Some other) = refl

pub joined_share : (h : Holder) (ws : List Worker) → (joined h ws).share ≡ h.share + total share_of ws
joined_share h [] = omega arith
joined_share h (w ∷ ws) = let one = with_share (joined h ws) w.seat in let more = joined_share h ws in omega arith

-- ---- what is in a joined seat

-- a seat of these has at most what all have
pub record Within (h all : Holder) : Type 0 where
  pub sets : (e : SetWord) → In e h.sets → In e all.sets
  pub seen : (e : SeenWord) → In e h.seen → In e all.seen

with_old : (h : Holder) (o : Option Holder) → Within h (with_seat h o)
with_old h None = record { sets = λ e there. there; seen = λ e there. there }
with_old h (Some other) = record { sets = λ e there. in_left e h.sets other.sets there; seen = λ e there. in_left e h.seen other.seen there }

with_new : (h : Holder) (o : Option Holder) (g : Holder) → o ≡ Some g → Within g (with_seat h o)
with_new h o g is = subst (λ (p : Option Holder). Within g (with_seat h p)) (sym is) (record { sets = λ e there. in_right e h.sets g.sets there; seen = λ e there. in_right e h.seen g.seen there })

within_trans : (f g h : Holder) → Within f g → Within g h → Within f h
within_trans f g h one two = record { sets = λ e there. two.sets e (one.sets e there); seen = λ e there. two.seen e (one.seen e there) }

pub joined_has : (h : Holder) (ws : List Worker) (i : ℕ) (d : Worker) (g : Holder) → i < length ws → (get_or ws i d).seat ≡ Some g → Within g (joined h ws)
joined_has h [] i d g less is = absurd (omega arith)
joined_has h (w ∷ ws) zero d g less is = with_new (joined h ws) w.seat g is
joined_has h (w ∷ ws) (suc i) d g less is = within_trans g (joined h ws) (with_seat (joined h ws) w.seat) (joined_has h ws i d g (omega arith) is) (with_old (joined h ws) w.seat)

with_from : (h : Holder) (o : Option Holder) (e : SetWord) → In e (with_seat h o).sets → In e h.sets ⊎ ((g : Holder) × (o ≡ Some g) × In e g.sets)
with_from h None e there = inl there
with_from h (Some other) e there = ⊎_elim (λ old. inl old) (λ new. inr (other, refl, new)) (in_append e h.sets other.sets there)

pub joined_from : (h : Holder) (ws : List Worker) (d : Worker) (e : SetWord) → In e (joined h ws).sets → In e h.sets ⊎ ((i : ℕ) × (g : Holder) × (i < length ws) × ((get_or ws i d).seat ≡ Some g) × In e g.sets)
joined_from h [] d e there = inl there
joined_from h (w ∷ ws) d e there = ⊎_elim
    (λ behind. ⊎_elim (λ old. inl old) (λ found. let less : suc found.0 < length (w ∷ ws) = let l = found.2 in omega arith in inr (suc found.0, found.1, less, found.3, found.4)) (joined_from h ws d e behind))
    (λ here. let less : 0 < length (w ∷ ws) = omega arith in inr (0, here.0, less, here.1, here.2))
    (with_from (joined h ws) w.seat e there)

-- ---- how often a ticket was won

-- how often a worker's seat won it
won_by : List ℕ → Option Holder → ℕ
won_by ticket None = 0
won_by ticket (Some g) = won ticket g.sets

with_won : (ticket : List ℕ) (h : Holder) (o : Option Holder) → won ticket (with_seat h o).sets ≡ won ticket h.sets + won_by ticket o
unfolding won_by
with_won ticket h None = omega arith
with_won ticket h (Some other) = count_append (wins ticket) h.sets other.sets

won_some : (ticket : List ℕ) (o : Option Holder) (g : Holder) → o ≡ Some g → won_by ticket o ≡ won ticket g.sets
unfolding won_by
won_some ticket o g is = ap (won_by ticket) is

-- one seat's wins are among those of all
pub joined_won : (ticket : List ℕ) (h : Holder) (ws : List Worker) (i : ℕ) (d : Worker) (g : Holder) → i < length ws → (get_or ws i d).seat ≡ Some g → won ticket g.sets ≤ won ticket (joined h ws).sets
joined_won ticket h [] i d g less is = absurd (omega arith)
joined_won ticket h (w ∷ ws) zero d g less is = omega (arith, with_won ticket (joined h ws) w.seat, won_some ticket w.seat g is)
joined_won ticket h (w ∷ ws) (suc i) d g less is = omega (arith, with_won ticket (joined h ws) w.seat, joined_won ticket h ws i d g (omega arith) is)

-- and those of two seats too, both together
pub joined_both : (ticket : List ℕ) (h : Holder) (ws : List Worker) (i j : ℕ) (d : Worker) (f g : Holder) → i < j → j < length ws → (get_or ws i d).seat ≡ Some f → (get_or ws j d).seat ≡ Some g
    → won ticket f.sets + won ticket g.sets ≤ won ticket (joined h ws).sets
joined_both ticket h [] i j d f g order less f_is g_is = absurd (omega arith)
joined_both ticket h (w ∷ ws) i zero d f g order less f_is g_is = absurd (omega arith)
joined_both ticket h (w ∷ ws) zero (suc j) d f g order less f_is g_is =
    omega (arith, with_won ticket (joined h ws) w.seat, won_some ticket w.seat f f_is, joined_won ticket h ws j d g (omega arith) g_is)
joined_both ticket h (w ∷ ws) (suc i) (suc j) d f g order less f_is g_is =
    omega (arith, with_won ticket (joined h ws) w.seat, joined_both ticket h ws i j d f g (omega arith) (omega arith) f_is g_is)

-- a sum of shares that stay
pub same_total : {A B : Type 0} (f : A → ℕ) (g : B → ℕ) (xs : List A) (ys : List B) (d : A) (e : B) → length xs ≡ length ys → ((i : ℕ) → i < length xs → f (get_or xs i d) ≡ g (get_or ys i e)) → total f xs ≡ total g ys
same_total f g [] [] d e len same = refl
same_total f g (x ∷ xs) [] d e len same = absurd (omega arith)
same_total f g [] (y ∷ ys) d e len same = absurd (omega arith)
same_total f g (x ∷ xs) (y ∷ ys) d e len same = omega (arith, same 0 (omega arith), same_total f g xs ys d e (omega arith) (λ i less. same (suc i) (omega arith)))

-- ---- seats for the workers

pub half_enough : (k : ℕ) → k < 8 → (share : ℕ) → 2 ^ (32 - k) ≤ share → (2 ≤ share) × (2 ^ (32 - (k + 1)) ≤ share - share / 2)
half_enough zero less share enough = (omega arith, omega arith)
half_enough (suc zero) less share enough = (omega arith, omega arith)
half_enough (suc (suc zero)) less share enough = (omega arith, omega arith)
half_enough (suc (suc (suc zero))) less share enough = (omega arith, omega arith)
half_enough (suc (suc (suc (suc zero)))) less share enough = (omega arith, omega arith)
half_enough (suc (suc (suc (suc (suc zero))))) less share enough = (omega arith, omega arith)
half_enough (suc (suc (suc (suc (suc (suc zero)))))) less share enough = (omega arith, omega arith)
half_enough (suc (suc (suc (suc (suc (suc (suc zero))))))) less share enough = (omega arith, omega arith)
half_enough (suc (suc (suc (suc (suc (suc (suc (suc k)))))))) less share enough = absurd (omega arith)

module _ {A : Type 0} (P : A → Type 0) where
  each_snoc : (xs : List A) (x : A) → ((k : ℕ) (d : A) → k < length xs → P (get_or xs k d)) → P x → (k : ℕ) (d : A) → k < length (xs ++ x ∷ []) → P (get_or (xs ++ x ∷ []) k d)
  each_snoc [] x each here zero d less = here
  each_snoc [] x each here (suc k) d less = absurd (omega arith)
  each_snoc (y ∷ ys) x each here zero d less = each 0 d (omega arith)
  each_snoc (y ∷ ys) x each here (suc k) d less = each_snoc ys x (λ j e l. each (suc j) e (omega arith)) here k d (omega arith)

  -- what holds of each of a list and of one more holds of each of the longer list
  pub each_push : (xs ys : List A) (x : A) → ys ≡ xs ++ x ∷ [] → ((k : ℕ) (d : A) → k < length xs → P (get_or xs k d)) → P x → (k : ℕ) (d : A) → k < length ys → P (get_or ys k d)
  each_push xs ys x is each here = subst (λ (zs : List A). (k : ℕ) (d : A) → k < length zs → P (get_or zs k d)) (sym is) (each_snoc xs x each here)

  pub last_of : (xs : List A) (x : A) → ((k : ℕ) (d : A) → k < length (xs ++ x ∷ []) → P (get_or (xs ++ x ∷ []) k d)) → P x
  last_of [] x each = each 0 x (omega arith)
  last_of (y ∷ ys) x each = last_of ys x (λ k d less. each (suc k) d (omega arith))

  front_of : (xs : List A) (x : A) → ((k : ℕ) (d : A) → k < length (xs ++ x ∷ []) → P (get_or (xs ++ x ∷ []) k d)) → (k : ℕ) (d : A) → k < length xs → P (get_or xs k d)
  front_of [] x each k d less = absurd (omega arith)
  front_of (y ∷ ys) x each zero d less = each 0 d (omega arith)
  front_of (y ∷ ys) x each (suc k) d less = front_of ys x (λ j e l. each (suc j) e (omega arith)) k d (omega arith)

  pub each_front : (xs ys : List A) (x : A) → xs ≡ ys ++ x ∷ [] → ((k : ℕ) (d : A) → k < length xs → P (get_or xs k d)) → (k : ℕ) (d : A) → k < length ys → P (get_or ys k d)
  each_front xs ys x is each = front_of ys x (subst (λ (zs : List A). (k : ℕ) (d : A) → k < length zs → P (get_or zs k d)) is each)

pub shares_push : (xs : List Worker) (x : Worker) → total share_of (xs ++ x ∷ []) ≡ total share_of xs + share_of x
shares_push [] x = omega arith
shares_push (y ∷ ys) x = omega (arith, shares_push ys x)
