-- Sizes up to the limit: of an element, and of texts one after another.
use Rattle.std.proofs.Common.{◌≡◌, ℕ, ◌+◌, ◌<◌, ◌≤◌, nat_le, nat_lt, Bool, true, false, cond, List, [], length, drop, Some, refl, sym, ap, ◌∙◌, length-append, arith}
use Rattle.std.proofs.lemmas.Bool.Decides.{nat_tests}
use Rattle.der_reader.specs.Elem.{element_text, length_text}
use Rattle.std.proofs.lemmas.List.{drop_all}
use Rattle.std.specs.List.{slice_get}
use Rattle.claim_constraints.specs.ConstraintsText.{elements}
use Rattle.claim_constraints.specs.Size.{capped}
use Rattle.claim_constraints.proofs.PlaceLaws.{next_at}

-- ---- capped sizes

pub small : (n : ℕ) → n ≤ 65535 → capped n ≡ n
small n l = let t : nat_le n 65535 ≡ true = grind (arith, nat_tests, l) in rw t refl

pub past : (n : ℕ) → 65536 ≤ n → capped n ≡ 65536
past n l = let t : nat_le n 65535 ≡ false = grind (arith, nat_tests, l) in rw t refl

-- what a capped size says of the size
pub said_small : (n m : ℕ) → n ≡ capped m → n ≤ 65535 → m ≡ n
said_small n m e l = of (nat_le m 65535) refl e
  where
    of : (t : Bool) → nat_le m 65535 ≡ t → n ≡ cond t m 65536 → m ≡ n
    of true t e = sym e
    of false t e = absurd (omega (arith, e, l))

-- capped parts make a capped whole
pub both_capped : (a b m n : ℕ) → a ≡ capped m → b ≡ capped n → capped (a + b) ≡ capped (m + n)
both_capped a b m n e f = of (nat_le m 65535) (nat_le n 65535) refl refl
  where
    of : (s t : Bool) → nat_le m 65535 ≡ s → nat_le n 65535 ≡ t → capped (a + b) ≡ capped (m + n)
    of true true s t =
        let l : m ≤ 65535 = grind (arith, nat_tests, s) in
        let k : n ≤ 65535 = grind (arith, nat_tests, t) in
        let same : a + b ≡ m + n = omega (arith, e, f, small m l, small n k) in
        ap capped same
    of false t s u =
        let l : 65536 ≤ m = grind (arith, nat_tests, s) in
        past (a + b) (omega (arith, e, past m l)) ∙ sym (past (m + n) (omega (arith, l)))
    of true false s t =
        let k : 65536 ≤ n = grind (arith, nat_tests, t) in
        past (a + b) (omega (arith, f, past n k)) ∙ sym (past (m + n) (omega (arith, k)))

-- ---- an element

header_short : (n : ℕ) → n < 0x80 → length (length_text n) ≡ 1
unfolding length_text
header_short n l = let t : nat_lt n 0x80 ≡ true = grind (arith, nat_tests, l) in rw t refl

header_middle : (n : ℕ) → 0x80 ≤ n → n < 0x100 → length (length_text n) ≡ 2
unfolding length_text
header_middle n l k =
    let s : nat_lt n 0x80 ≡ false = grind (arith, nat_tests, l) in
    let t : nat_lt n 0x100 ≡ true = grind (arith, nat_tests, k) in
    rw (s, t) refl

header_long : (n : ℕ) → 0x100 ≤ n → length (length_text n) ≡ 3
unfolding length_text
header_long n l =
    let s : nat_lt n 0x80 ≡ false = grind (arith, nat_tests, l) in
    let t : nat_lt n 0x100 ≡ false = grind (arith, nat_tests, l) in
    rw (s, t) refl

both : (tag : ℕ) (bytes : List ℕ) → length (element_text tag bytes) ≡ 1 + (length (length_text (length bytes)) + length bytes)
both tag bytes = omega (arith, length-append (length_text (length bytes)) bytes)

pub element_short : (tag : ℕ) (bytes : List ℕ) (content : ℕ) → content ≤ 0x7F → content ≡ capped (length bytes) → content + 2 ≡ capped (length (element_text tag bytes))
element_short tag bytes content l e =
    let same = said_small content (length bytes) e (omega (arith, l)) in
    let size : content + 2 ≡ length (element_text tag bytes) = omega (arith, same, both tag bytes, header_short (length bytes) (omega (arith, l, same))) in
    size ∙ sym (small (length (element_text tag bytes)) (omega (arith, size, l)))

pub element_middle : (tag : ℕ) (bytes : List ℕ) (content : ℕ) → 0x80 ≤ content → content ≤ 0xFF → content ≡ capped (length bytes)
    → content + 3 ≡ capped (length (element_text tag bytes))
element_middle tag bytes content k l e =
    let same = said_small content (length bytes) e (omega (arith, l)) in
    let size : content + 3 ≡ length (element_text tag bytes) =
    omega (arith, same, both tag bytes, header_middle (length bytes) (omega (arith, k, same)) (omega (arith, l, same))) in
    size ∙ sym (small (length (element_text tag bytes)) (omega (arith, size, l)))

pub element_long : (tag : ℕ) (bytes : List ℕ) (content : ℕ) → 0x100 ≤ content → content ≤ 0xFFFB → content ≡ capped (length bytes)
    → content + 4 ≡ capped (length (element_text tag bytes))
element_long tag bytes content k l e =
    let same = said_small content (length bytes) e (omega (arith, l)) in
    let size : content + 4 ≡ length (element_text tag bytes) = omega (arith, same, both tag bytes, header_long (length bytes) (omega (arith, k, same))) in
    size ∙ sym (small (length (element_text tag bytes)) (omega (arith, size, l)))

pub element_past : (tag : ℕ) (bytes : List ℕ) (content : ℕ) → 0xFFFC ≤ content → content ≡ capped (length bytes) → 65536 ≡ capped (length (element_text tag bytes))
element_past tag bytes content l e = sym (past (length (element_text tag bytes)) (of (nat_le (length bytes) 65535) refl e))
  where
    of : (t : Bool) → nat_le (length bytes) 65535 ≡ t → content ≡ cond t (length bytes) 65536 → 65536 ≤ length (element_text tag bytes)
    of true t e = omega (arith, e, l, both tag bytes, header_long (length bytes) (omega (arith, e, l)))
    of false t e = let k : 65536 ≤ length bytes = grind (arith, nat_tests, t) in omega (arith, k, both tag bytes)

-- ---- elements one after another

length_next : {X : Type 0} (tag : ℕ) (content : X → List ℕ) (xs : List X) (index : ℕ) (x : X) → slice_get xs index ≡ Some x
    → length (elements tag content (drop index xs)) ≡ length (element_text tag (content x)) + length (elements tag content (drop (index + 1) xs))
length_next tag content xs index x at =
    ap (λ xs. length (elements tag content xs)) (next_at xs index x at)
    ∙ length-append (element_text tag (content x)) (elements tag content (drop (index + 1) xs))

-- with one more passed over
pub one_passed : {X : Type 0} (tag : ℕ) (content : X → List ℕ) (xs : List X) (index : ℕ) (x : X) (passed size one next : ℕ) → slice_get xs index ≡ Some x
    → size ≡ capped passed → one ≡ capped (length (element_text tag (content x))) → next ≡ capped (size + one)
    → passed + length (elements tag content (drop index xs)) ≡ length (elements tag content xs)
    → (more : ℕ) × (next ≡ capped more) × (more + length (elements tag content (drop (index + 1) xs)) ≡ length (elements tag content xs))
one_passed tag content xs index x passed size one next at e f g all = (
  passed + length (element_text tag (content x)),
  g ∙ both_capped size one passed (length (element_text tag (content x))) e f,
  omega (arith, all, length_next tag content xs index x at),
)

-- at the end
pub all_passed : {X : Type 0} (tag : ℕ) (content : X → List ℕ) (xs : List X) (index passed size : ℕ) → length xs ≤ index → size ≡ capped passed
    → passed + length (elements tag content (drop index xs)) ≡ length (elements tag content xs) → size ≡ capped (length (elements tag content xs))
all_passed tag content xs index passed size l e all =
    let none : drop index xs ≡ [] = drop_all index xs l in
    let same : passed ≡ length (elements tag content xs) = omega (arith, all, ap (λ xs. length (elements tag content xs)) none) in
    e ∙ ap capped same
