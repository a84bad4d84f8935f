-- The pieces of tickets: how many, how large, and that no two tickets have the same.
use Rattle.std.proofs.Common.{◌≡◌, ℕ, zero, suc, ◌+◌, ◌*◌, ◌/◌, ◌%◌, ◌^◌, ◌<◌, ◌≤◌, List, [], ◌∷◌, ◌++◌, take, drop, length, get_or, refl, sym, ap, ◌∙◌, arith}
use Rattle.std.proofs.Math.Nat.{mul-le-mul_right, pow-suc, le_trans, le_of_eq, pow-le-pow_right}
use Rattle.std.proofs.lemmas.List.{take-append-drop, length-take, length-drop, drop-drop, drop_all}
use Rattle.live_desk.specs.Ticket.{AreCut, IsTicket, cut, number_after, pieces}

pub pieces_len : (ticket : List ℕ) → length (pieces ticket) ≡ 6
unfolding pieces
pieces_len ticket = refl

regroup : (n p : ℕ) → n * 256 * p ≡ n * (p * 256)
regroup n p = omega arith

number_lt : (n : ℕ) (bytes : List ℕ) → ((i : ℕ) → get_or bytes i 0 < 256) → number_after n bytes + 1 ≤ (n + 1) * 256 ^ length bytes
number_lt n [] small = omega arith
number_lt n (b ∷ bs) small =
    let rest : number_after (n * 256 + b) bs + 1 ≤ (n * 256 + b + 1) * 256 ^ length bs = number_lt (n * 256 + b) bs (λ i. small (suc i)) in
    let here : b < 256 = small 0 in
    let factor : n * 256 + b + 1 ≤ (n + 1) * 256 = omega arith in
    let power : 256 ^ length (b ∷ bs) ≡ 256 ^ length bs * 256 = pow-suc 256 (length bs) in
    le_trans rest (le_trans (mul-le-mul_right (256 ^ length bs) factor) (le_of_eq (regroup (n + 1) (256 ^ length bs) ∙ ap (λ (p : ℕ). (n + 1) * p) (sym power))))

ticket_lt : (ticket : List ℕ) → IsTicket ticket → number_after 0 ticket < 115792089237316195423570985008687907853269984665640564039457584007913129639936
ticket_lt ticket is =
    let bound = number_lt 0 ticket is.small in
    let power : 256 ^ length ticket ≡ 256 ^ 32 = ap (λ (n : ℕ). 256 ^ n) is.bytes in
    omega arith

cut_small : (n i : ℕ) → n < 115792089237316195423570985008687907853269984665640564039457584007913129639936 → get_or (cut n) i 0 < 8796093022208
cut_small n zero less = omega arith
cut_small n (suc zero) less = omega arith
cut_small n (suc (suc zero)) less = omega arith
cut_small n (suc (suc (suc zero))) less = omega arith
cut_small n (suc (suc (suc (suc zero)))) less = omega arith
cut_small n (suc (suc (suc (suc (suc zero))))) less = omega arith
cut_small n (suc (suc (suc (suc (suc (suc i)))))) less = omega arith

pub pieces_small : (ticket : List ℕ) (i : ℕ) → IsTicket ticket → get_or (pieces ticket) i 0 < 8796093022208
unfolding pieces
pieces_small ticket i is = cut_small (number_after 0 ticket) i (ticket_lt ticket is)

pub pieces_cut : (ticket : List ℕ) → IsTicket ticket → AreCut (number_after 0 ticket) (pieces ticket)
unfolding pieces
pieces_cut ticket is =
    let n : ℕ = number_after 0 ticket in
    let a : ℕ = n / 2199023255552 in
    let b : ℕ = a / 8796093022208 in
    let c : ℕ = b / 8796093022208 in
    let d : ℕ = c / 8796093022208 in
    let whole : n ≡ a * 2199023255552 + n % 2199023255552 = omega arith in
    let one : a ≡ b * 8796093022208 + a % 8796093022208 = omega arith in
    let two : b ≡ c * 8796093022208 + b % 8796093022208 = omega arith in
    let three : c ≡ d * 8796093022208 + c % 8796093022208 = omega arith in
    let four : d ≡ d / 8796093022208 * 8796093022208 + d % 8796093022208 = omega arith in
    let after : ℕ → ℕ → ℕ = λ piece m. m * 8796093022208 + piece in
    record {
      six = refl;
      small = λ level. pieces_small ticket level is;
      last = omega arith;
      sum = whole ∙ ap (λ (m : ℕ). m * 2199023255552 + n % 2199023255552)
          (one ∙ ap (after (a % 8796093022208)) (two ∙ ap (after (b % 8796093022208)) (three ∙ ap (after (c % 8796093022208)) four)));
    }

number_apart : (m n : ℕ) (xs ys : List ℕ) → length xs ≡ length ys → ((i : ℕ) → get_or xs i 0 < 256) → ((i : ℕ) → get_or ys i 0 < 256)
    → number_after m xs ≡ number_after n ys → (m ≡ n) × (xs ≡ ys)
number_apart m n [] [] len x y same = (same, refl)
number_apart m n (a ∷ xs) [] len x y same = absurd (omega arith)
number_apart m n [] (b ∷ bs) len x y same = absurd (omega arith)
number_apart m n (a ∷ xs) (b ∷ bs) len x y same =
    let rest = number_apart (m * 256 + a) (n * 256 + b) xs bs (omega arith) (λ i. x (suc i)) (λ i. y (suc i)) same in
    let first : a < 256 = x 0 in
    let second : b < 256 = y 0 in
    let sums : m * 256 + a ≡ n * 256 + b = rest.0 in
    let heads : a ≡ b = omega arith in
    (omega arith, ap (λ (h : ℕ). h ∷ xs) heads ∙ ap (λ (t : List ℕ). b ∷ t) rest.1)

-- one division undone
undo : (m n k : ℕ) → m / k ≡ n / k → m % k ≡ n % k → m ≡ n
undo m n k q r =
    let a : k * (m / k) + m % k ≡ m = omega arith in
    let b : k * (n / k) + n % k ≡ n = omega arith in
    sym a ∙ (ap (λ (x : ℕ). k * x + m % k) q ∙ (ap (λ (x : ℕ). k * (n / k) + x) r ∙ b))

cut_apart : (m n : ℕ) → cut m ≡ cut n → m ≡ n
cut_apart m n same =
    let at : (i : ℕ) → get_or (cut m) i 0 ≡ get_or (cut n) i 0 = λ i. ap (λ (xs : List ℕ). get_or xs i 0) same in
    let big : ℕ = 8796093022208 in
    let one = undo (m / 2199023255552 / big / big / big) (n / 2199023255552 / big / big / big) big (at 0) (at 1) in
    let two = undo (m / 2199023255552 / big / big) (n / 2199023255552 / big / big) big one (at 2) in
    let three = undo (m / 2199023255552 / big) (n / 2199023255552 / big) big two (at 3) in
    let four = undo (m / 2199023255552) (n / 2199023255552) big three (at 4) in
    undo m n 2199023255552 four (at 5)

pub pieces_apart : (a b : List ℕ) → IsTicket a → IsTicket b → pieces a ≡ pieces b → a ≡ b
unfolding pieces
pieces_apart a b x y same = (number_apart 0 0 a b (x.bytes ∙ sym y.bytes) x.small y.small (cut_apart _ _ same)).1

-- ---- the number of the bytes, piece by piece

pub number_more : (n : ℕ) (xs : List ℕ) (y : ℕ) → number_after n (xs ++ y ∷ []) ≡ number_after n xs * 256 + y
number_more n [] y = refl
number_more n (x ∷ xs) y = number_more (n * 256 + x) xs y

pub power_more : (i : ℕ) → i < 8 → 256 ^ i * 256 ≤ 18446744073709551616
power_more i less = le_trans (le_of_eq (sym (pow-suc 256 i))) (pow-le-pow_right {n = 256} (omega arith) {i = suc i} {j = 8} (omega arith))

number_append : (n : ℕ) (xs ys : List ℕ) → number_after n (xs ++ ys) ≡ number_after (number_after n xs) ys
number_append n [] ys = refl
number_append n (x ∷ xs) ys = number_append (n * 256 + x) xs ys

-- what comes before eight bytes counts 2 ^ 64 times
number_eight : (n : ℕ) (xs : List ℕ) → length xs ≡ 8 → number_after n xs ≡ n * 18446744073709551616 + number_after 0 xs
number_eight n (a ∷ b ∷ c ∷ d ∷ e ∷ f ∷ g ∷ h ∷ []) len = omega arith
number_eight n [] len = absurd (omega arith)
number_eight n (a ∷ []) len = absurd (omega arith)
number_eight n (a ∷ b ∷ []) len = absurd (omega arith)
number_eight n (a ∷ b ∷ c ∷ []) len = absurd (omega arith)
number_eight n (a ∷ b ∷ c ∷ d ∷ []) len = absurd (omega arith)
number_eight n (a ∷ b ∷ c ∷ d ∷ e ∷ []) len = absurd (omega arith)
number_eight n (a ∷ b ∷ c ∷ d ∷ e ∷ f ∷ []) len = absurd (omega arith)
number_eight n (a ∷ b ∷ c ∷ d ∷ e ∷ f ∷ g ∷ []) len = absurd (omega arith)
number_eight n (a ∷ b ∷ c ∷ d ∷ e ∷ f ∷ g ∷ h ∷ i ∷ xs) len = absurd (omega arith)

by_eights : (n : ℕ) (xs : List ℕ) → 8 ≤ length xs → number_after n xs ≡ number_after (n * 18446744073709551616 + number_after 0 (take 8 xs)) (drop 8 xs)
by_eights n xs enough =
    ap (number_after n) (sym (take-append-drop 8 xs)) ∙ (number_append n (take 8 xs) (drop 8 xs)
    ∙ ap (λ (m : ℕ). number_after m (drop 8 xs)) (number_eight n (take 8 xs) (omega (arith, length-take 8 xs))))

six : {a b c d e f g h i j k l : ℕ} → a ≡ g → b ≡ h → c ≡ i → d ≡ j → e ≡ k → f ≡ l → (a ∷ b ∷ c ∷ d ∷ e ∷ f ∷ []) ≡ (g ∷ h ∷ i ∷ j ∷ k ∷ l ∷ [])
six p q r s t u = λ x. p x ∷ q x ∷ r x ∷ s x ∷ t x ∷ u x ∷ []

cut_four : (a b c d : ℕ) → a < 18446744073709551616 → b < 18446744073709551616 → c < 18446744073709551616 → d < 18446744073709551616
    → (a / 2097152 ∷ (a % 2097152 * 4194304 + b / 4398046511104) ∷ (b % 4398046511104 * 2 + c / 9223372036854775808) ∷ c / 1048576 % 8796093022208 ∷ (c % 1048576 * 8388608 + d / 2199023255552) ∷ d % 2199023255552 ∷ [])
    ≡ cut (((a * 18446744073709551616 + b) * 18446744073709551616 + c) * 18446744073709551616 + d)
cut_four a b c d w x y z =
    let n : ℕ = ((a * 18446744073709551616 + b) * 18446744073709551616 + c) * 18446744073709551616 + d in
    let one : n / 2199023255552 ≡ ((a * 18446744073709551616 + b) * 18446744073709551616 + c) * 8388608 + d / 2199023255552 = omega arith in
    let p5 : n % 2199023255552 ≡ d % 2199023255552 = omega arith in
    let two : (((a * 18446744073709551616 + b) * 18446744073709551616 + c) * 8388608 + d / 2199023255552) / 8796093022208 ≡ (a * 18446744073709551616 + b) * 17592186044416 + c / 1048576 = omega arith in
    let p4 : (((a * 18446744073709551616 + b) * 18446744073709551616 + c) * 8388608 + d / 2199023255552) % 8796093022208 ≡ c % 1048576 * 8388608 + d / 2199023255552 = omega arith in
    let three : ((a * 18446744073709551616 + b) * 17592186044416 + c / 1048576) / 8796093022208 ≡ (a * 18446744073709551616 + b) * 2 + c / 9223372036854775808 = omega arith in
    let p3 : ((a * 18446744073709551616 + b) * 17592186044416 + c / 1048576) % 8796093022208 ≡ c / 1048576 % 8796093022208 = omega arith in
    let four : ((a * 18446744073709551616 + b) * 2 + c / 9223372036854775808) / 8796093022208 ≡ a * 4194304 + b / 4398046511104 = omega arith in
    let p2 : ((a * 18446744073709551616 + b) * 2 + c / 9223372036854775808) % 8796093022208 ≡ b % 4398046511104 * 2 + c / 9223372036854775808 = omega arith in
    let five : (a * 4194304 + b / 4398046511104) / 8796093022208 ≡ a / 2097152 = omega arith in
    let p1 : (a * 4194304 + b / 4398046511104) % 8796093022208 ≡ a % 2097152 * 4194304 + b / 4398046511104 = omega arith in
    let down : ℕ → ℕ = λ m. m / 8796093022208 in
    let rest : ℕ → ℕ = λ m. m % 8796093022208 in
    let to_two = ap down one ∙ two in
    let to_three = ap down to_two ∙ three in
    let to_four = ap down to_three ∙ four in
    six (sym (ap down to_four ∙ five)) (sym (ap rest to_four ∙ p1)) (sym (ap rest to_three ∙ p2)) (sym (ap rest to_two ∙ p3)) (sym (ap rest one ∙ p4)) (sym p5)

sums : {a b c d e f g h : ℕ} → a ≡ e → b ≡ f → c ≡ g → d ≡ h
    → (((0 * 18446744073709551616 + a) * 18446744073709551616 + b) * 18446744073709551616 + c) * 18446744073709551616 + d ≡ ((e * 18446744073709551616 + f) * 18446744073709551616 + g) * 18446744073709551616 + h
sums p q r s = omega arith

pub cut_of_quarters : (ticket : List ℕ) (a b c d : ℕ) → length ticket ≡ 32
    → a ≡ number_after 0 (take 8 (drop 0 ticket)) → b ≡ number_after 0 (take 8 (drop 8 ticket)) → c ≡ number_after 0 (take 8 (drop 16 ticket)) → d ≡ number_after 0 (take 8 (drop 24 ticket))
    → a < 18446744073709551616 → b < 18446744073709551616 → c < 18446744073709551616 → d < 18446744073709551616
    → (a / 2097152 ∷ (a % 2097152 * 4194304 + b / 4398046511104) ∷ (b % 4398046511104 * 2 + c / 9223372036854775808) ∷ c / 1048576 % 8796093022208 ∷ (c % 1048576 * 8388608 + d / 2199023255552) ∷ d % 2199023255552 ∷ [])
    ≡ cut (number_after 0 ticket)
cut_of_quarters ticket a b c d len p q r s w x y z =
    let one = by_eights 0 ticket (omega arith) in
    let two = by_eights (0 * 18446744073709551616 + number_after 0 (take 8 ticket)) (drop 8 ticket) (omega (arith, length-drop 8 ticket)) in
    let three = by_eights ((0 * 18446744073709551616 + number_after 0 (take 8 ticket)) * 18446744073709551616 + number_after 0 (take 8 (drop 8 ticket))) (drop 8 (drop 8 ticket)) (omega (arith, length-drop 8 ticket, length-drop 8 (drop 8 ticket))) in
    let four = by_eights (((0 * 18446744073709551616 + number_after 0 (take 8 ticket)) * 18446744073709551616 + number_after 0 (take 8 (drop 8 ticket))) * 18446744073709551616 + number_after 0 (take 8 (drop 8 (drop 8 ticket)))) (drop 8 (drop 8 (drop 8 ticket)))
    (omega (arith, length-drop 8 ticket, length-drop 8 (drop 8 ticket), length-drop 8 (drop 8 (drop 8 ticket)))) in
    let second : drop 8 (drop 8 ticket) ≡ drop 16 ticket = drop-drop 8 8 ticket in
    let third : drop 8 (drop 8 (drop 8 ticket)) ≡ drop 24 ticket = ap (drop 8) second ∙ drop-drop 8 16 ticket in
    let fourth : drop 8 (drop 8 (drop 8 (drop 8 ticket))) ≡ [] = ap (drop 8) third ∙ (drop-drop 8 24 ticket ∙ drop_all 32 ticket (omega arith)) in
    let number : number_after 0 ticket ≡ ((a * 18446744073709551616 + b) * 18446744073709551616 + c) * 18446744073709551616 + d =
    one ∙ (two ∙ (three ∙ (four
    ∙ (ap (number_after ((((0 * 18446744073709551616 + number_after 0 (take 8 ticket)) * 18446744073709551616 + number_after 0 (take 8 (drop 8 ticket))) * 18446744073709551616 + number_after 0 (take 8 (drop 8 (drop 8 ticket)))) * 18446744073709551616 + number_after 0 (take 8 (drop 8 (drop 8 (drop 8 ticket)))))) fourth
    ∙ sums (sym p) (sym q) (ap (λ (xs : List ℕ). number_after 0 (take 8 xs)) second ∙ sym r) (ap (λ (xs : List ℕ). number_after 0 (take 8 xs)) third ∙ sym s))))) in
    cut_four a b c d w x y z ∙ ap cut (sym number)
