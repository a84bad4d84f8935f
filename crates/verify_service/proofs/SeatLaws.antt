-- One worker more gives or takes its seat.
use Rattle.std.proofs.Common.{◌≡◌, ◌≢◌, ℕ, zero, suc, ◌+◌, ◌<◌, ◌==◌, Bool, true, false, List, [], ◌∷◌, get_or, set, drop, map, length, Option, Some, refl, sym, ap, ◌∙◌, arith, get_or-set_same, get_or-set_other}
use Rattle.std.proofs.lemmas.Bool.Decides.{nat_tests}
use Rattle.std.proofs.lemmas.List.{drop_more}
use Rattle.std.specs.List.{slice_get}
use Rattle.replay_desk.specs.Holder.{Holder}
use Rattle.verify_service.specs.Carrying.{joined_from, joined_two}

pub set_many : {W : Type 0} → (ws : List W) (w : ℕ) (x : W) → length (set ws w x) ≡ length ws
set_many [] w x = refl
set_many (v ∷ ws) zero x = refl
set_many (v ∷ ws) (suc w) x = ap suc (set_many ws w x)

drop_set : {W : Type 0} → (ws : List W) (w : ℕ) (x : W) → drop (w + 1) (set ws w x) ≡ drop (w + 1) ws
drop_set [] w x = refl
drop_set (v ∷ ws) zero x = refl
drop_set (v ∷ ws) (suc w) x =
    let e : suc w + 1 ≡ suc (w + 1) = omega arith in
    ap (λ n. drop n (v ∷ set ws w x)) e ∙ drop_set ws w x ∙ ap (λ n. drop n (v ∷ ws)) (sym e)

drop_empty : {W : Type 0} → (n : ℕ) → ◌≡◌ {A = List W} (drop n []) []
drop_empty zero = refl
drop_empty (suc n) = refl

drop_one : {W : Type 0} → (ws : List W) (w : ℕ) → drop (w + 1) ws ≡ drop 1 (drop w ws)
drop_one [] w = drop_empty (w + 1) ∙ sym (ap (drop 1) (drop_empty w))
drop_one (v ∷ ws) zero = refl
drop_one (v ∷ ws) (suc w) = let e : suc w + 1 ≡ suc (w + 1) = omega arith in ap (λ n. drop n (v ∷ ws)) e ∙ drop_one ws w

pub rest_next : {W : Type 0} → (ws before : List W) (w : ℕ) (x : W) → drop w ws ≡ drop w before → drop (w + 1) (set ws w x) ≡ drop (w + 1) before
rest_next ws before w x same = drop_set ws w x ∙ drop_one ws w ∙ ap (drop 1) same ∙ sym (drop_one before w)

same_item : {W : Type 0} → (ws : List W) (w : ℕ) (a b : W) → w < length ws → get_or ws w a ≡ get_or ws w b
same_item [] w a b within = absurd (omega arith)
same_item (v ∷ ws) zero a b within = refl
same_item (v ∷ ws) (suc w) a b within = same_item ws w a b (omega arith)

at_by : {W Y : Type 0} → (f : W → Y) (ws before : List W) (w k : ℕ) (x d : W) (t : Bool) → (k == w) ≡ t → w < length ws → f x ≡ f (get_or ws w d) → f (get_or ws k d) ≡ f (get_or before k d)
    → f (get_or (set ws w x) k d) ≡ f (get_or before k d)
at_by f ws before w k x d true is within here there =
    let same : k ≡ w = grind (arith, nat_tests) in
    ap (λ n. f (get_or (set ws w x) n d)) same ∙ ap f (get_or-set_same ws w x d within) ∙ here ∙ ap (λ n. f (get_or ws n d)) (sym same) ∙ there
at_by f ws before w k x d false is within here there =
    let apart : k ≢ w = grind (arith, nat_tests) in
    ap f (get_or-set_other ws w k x d apart) ∙ there

-- what stays the same of each
pub at_next : {W Y : Type 0} → (f : W → Y) (ws before : List W) (w k : ℕ) (x r d : W) → w < length ws → f x ≡ f (get_or ws w r) → f (get_or ws k d) ≡ f (get_or before k d)
    → f (get_or (set ws w x) k d) ≡ f (get_or before k d)
at_next f ws before w k x r d within here there = at_by f ws before w k x d (k == w) refl within (here ∙ ap f (same_item ws w r d within)) there

first_of_rest : {W : Type 0} → (ws : List W) (w : ℕ) (d : W) → get_or (drop w ws) 0 d ≡ get_or ws w d
first_of_rest [] zero d = refl
first_of_rest [] (suc w) d = refl
first_of_rest (v ∷ ws) zero d = refl
first_of_rest (v ∷ ws) (suc w) d = first_of_rest ws w d

pub joined_next : {W : Type 0} → (s : W → Option Holder) (ws before : List W) (w : ℕ) (r : W) (seat other all : Option Holder) → w < length before → drop w ws ≡ drop w before
    → joined_from seat (map s (drop w before)) ≡ all → other ≡ s (get_or ws w r) → joined_from (joined_two seat other) (map s (drop (w + 1) before)) ≡ all
joined_next s ws before w r seat other all within same so_far is =
    let one : get_or ws w r ≡ get_or before w r = sym (first_of_rest ws w r) ∙ ap (λ l. get_or l 0 r) same ∙ first_of_rest before w r in
    ap (λ (o : Option Holder). joined_from (joined_two seat o) (map s (drop (w + 1) before))) (is ∙ ap s one)
    ∙ sym (ap (λ l. joined_from seat (map s l)) (drop_more before w r within)) ∙ so_far

-- ---- given

given_by : {W : Type 0} → (s : W → Option Holder) (ws : List W) (seats : List Holder) (w k : ℕ) (x d : W) (seat : Holder) (t : Bool) → (k == w) ≡ t → w < length ws → s x ≡ Some seat
    → slice_get seats w ≡ Some seat → (k < w → s (get_or ws k d) ≡ slice_get seats k) → k < w + 1 → s (get_or (set ws w x) k d) ≡ slice_get seats k
given_by s ws seats w k x d seat true is within here stands before below =
    let same : k ≡ w = grind (arith, nat_tests) in
    ap (λ n. s (get_or (set ws w x) n d)) same ∙ ap s (get_or-set_same ws w x d within) ∙ here ∙ sym stands ∙ ap (slice_get seats) (sym same)
given_by s ws seats w k x d seat false is within here stands before below =
    let apart : k ≢ w = grind (arith, nat_tests) in
    ap s (get_or-set_other ws w k x d apart) ∙ before (omega arith)

pub given_next : {W : Type 0} → (s : W → Option Holder) (ws : List W) (seats : List Holder) (w k : ℕ) (x d : W) (seat : Holder) → w < length ws → s x ≡ Some seat
    → slice_get seats w ≡ Some seat → (k < w → s (get_or ws k d) ≡ slice_get seats k) → k < w + 1 → s (get_or (set ws w x) k d) ≡ slice_get seats k
given_next s ws seats w k x d seat within here stands before below = given_by s ws seats w k x d seat (k == w) refl within here stands before below

stands_at : (seats : List Holder) (w : ℕ) (seat d : Holder) → w < length seats → seat ≡ get_or seats w d → slice_get seats w ≡ Some seat
stands_at [] w seat d within is = absurd (omega arith)
stands_at (s ∷ seats) zero seat d within is = ap (λ (h : Holder). Some h) (sym is)
stands_at (s ∷ seats) (suc w) seat d within is = stands_at seats w seat d (omega arith) is

pub first_stands : (left seats : List Holder) (w : ℕ) (seat : Holder) → left ≡ drop w seats → w < length seats → seat ≡ get_or left 0 seat → slice_get seats w ≡ Some seat
first_stands left seats w seat is within at =
    stands_at seats w seat seat within (at ∙ ap (λ (l : List Holder). get_or l 0 seat) is ∙ first_of_rest seats w seat)

pub left_next : (left now seats : List Holder) (w : ℕ) → left ≡ drop w seats → now ≡ drop 1 left → now ≡ drop (w + 1) seats
left_next left now seats w is so = so ∙ ap (drop 1) is ∙ sym (drop_one seats w)
