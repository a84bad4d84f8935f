-- Entries of the log, as they are written.
use Rattle.std.proofs.Common.{◌≡◌, ℕ, ◌+◌, ◌-◌, List, [], ◌∷◌, ◌++◌, length, take, drop, refl, ap, ◌∙◌, arith, append_assoc, length-append}
use Rattle.std.specs.List.{slice_range}
use Rattle.std.specs.Fmt.{decimal}
use Rattle.std.proofs.Math.Seq.{drop-append_seam}
use Rattle.call_log.specs.Entry.{headed}

-- a header is that of no message, and what comes after it follows
pub headed_behind : (moment size : ℕ) (behind : List ℕ) → headed moment size [] ++ behind ≡ headed moment size behind
unfolding headed
headed_behind moment size behind =
    ap (λ x. 64 ∷ x) (append_assoc (decimal moment) (32 ∷ (decimal size ++ 10 ∷ [])) behind
    ∙ ap (λ x. decimal moment ++ 32 ∷ x) (append_assoc (decimal size) (10 ∷ []) behind))

pub header_spelled : (log : List ℕ) (moment size : ℕ)
    → ((((log ++ 64 ∷ []) ++ decimal moment) ++ 32 ∷ []) ++ decimal size) ++ 10 ∷ [] ≡ log ++ headed moment size []
unfolding headed
header_spelled log moment size = simp append_assoc refl

take_front : (xs ys : List ℕ) → take (length xs) (xs ++ ys) ≡ xs
take_front [] ys = refl
take_front (x ∷ xs) ys = ap (λ r. x ∷ r) (take_front xs ys)

-- what is between what comes before it and what comes after it
middle_is : (front message behind : List ℕ) → slice_range (front ++ (message ++ behind)) (length front) (length front + length message) ≡ message
middle_is front message behind =
    let n : length front + length message - length front ≡ length message = omega arith in
    ap (λ k. take k (drop (length front) (front ++ (message ++ behind)))) n
    ∙ ap (λ x. take (length message) x) (drop-append_seam front (message ++ behind))
    ∙ take_front message behind

-- the end of the log, once more after a header
pub entry_again : (log log_now front message : List ℕ) (moment size start end : ℕ) → log ≡ front ++ message → size ≡ length message
    → start ≡ end - size → end ≡ length log → log_now ≡ (log ++ headed moment size []) ++ slice_range (log ++ headed moment size []) start end
    → log_now ≡ log ++ headed moment (length message) message
entry_again log log_now front message moment size start end l s b e n =
    let both : length log ≡ length front + length message = ap length l ∙ length-append front message in
    let first : start ≡ length front = omega (arith, both, s, b, e) in
    let last : end ≡ length front + length message = omega (arith, both, e) in
    let whole : log ++ headed moment size [] ≡ front ++ (message ++ headed moment size [])
    = ap (λ x. x ++ headed moment size []) l ∙ append_assoc front message (headed moment size []) in
    n ∙ ap (λ x. (log ++ headed moment size []) ++ slice_range (log ++ headed moment size []) x end) first
    ∙ ap (λ x. (log ++ headed moment size []) ++ slice_range (log ++ headed moment size []) (length front) x) last
    ∙ ap (λ x. (log ++ headed moment size []) ++ slice_range x (length front) (length front + length message)) whole
    ∙ ap (λ x. (log ++ headed moment size []) ++ x) (middle_is front message (headed moment size []))
    ∙ append_assoc log (headed moment size []) message
    ∙ ap (λ x. log ++ x) (headed_behind moment size message)
    ∙ ap (λ x. log ++ headed moment x message) s
