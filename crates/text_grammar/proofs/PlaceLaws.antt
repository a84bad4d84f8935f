-- The place that a search gives is where the first such byte is.
use Rattle.std.proofs.Common.{◌≡◌, ℕ, zero, suc, ◌+◌, ◌<◌, ◌≤◌, Bool, true, false, ◌==◌, nat_lt, cond, List, [], ◌∷◌, length, slice_index, Option, Some, None, refl, ap, ◌∙◌, arith, position}
use Rattle.std.specs.List.{position_or_len}
use Rattle.std.proofs.lemmas.Bool.Decides.{nat_tests}
use Rattle.memchr.specs.Find.{IsFirstByte, is_byte}

abbrev place_of : ℕ → List ℕ → ℕ
place_of byte text = position_or_len (is_byte byte) text

-- no byte of the text is this one up to that place
abbrev NoneUpTo : ℕ → List ℕ → ℕ → Type 0
NoneUpTo byte text place = (k : ℕ) → k < place → (slice_index text k == byte) ≡ true → ⊥

stands_by : (byte b place : ℕ) (bs : List ℕ) (t : Bool) → (b == byte) ≡ t → place_of byte bs ≡ place → NoneUpTo byte (b ∷ bs) (suc place)
    → place_of byte (b ∷ bs) ≡ suc place
stands_by byte b place bs true e more before = absurd (before 0 (omega arith) e)
stands_by byte b place bs false e more before = rw (e, more) (omega arith)

stands : (byte : ℕ) (text : List ℕ) (place : ℕ) → place < length text → (slice_index text place == byte) ≡ true → NoneUpTo byte text place
    → place_of byte text ≡ place
stands byte [] place within here before = absurd (omega arith)
stands byte (b ∷ bs) zero within here before = rw here refl
stands byte (b ∷ bs) (suc place) within here before =
    stands_by byte b place bs (b == byte) refl (stands byte bs place (omega arith) here (λ k below is. before (suc k) (omega arith) is)) before

lacks_by : (byte b : ℕ) (bs : List ℕ) (t : Bool) → (b == byte) ≡ t → place_of byte bs ≡ length bs → NoneUpTo byte (b ∷ bs) (length (b ∷ bs))
    → place_of byte (b ∷ bs) ≡ length (b ∷ bs)
lacks_by byte b bs true e more before = absurd (before 0 (omega arith) e)
lacks_by byte b bs false e more before = rw (e, more) (omega arith)

lacks_all : (byte : ℕ) (text : List ℕ) → NoneUpTo byte text (length text) → place_of byte text ≡ length text
lacks_all byte [] before = refl
lacks_all byte (b ∷ bs) before = lacks_by byte b bs (b == byte) refl (lacks_all byte bs (λ k below is. before (suc k) (omega arith) is)) before

none_at : (place size : ℕ) → place ≡ size → None ≡ cond (nat_lt place size) (Some place) None
none_at place size e = grind (arith, nat_tests)

some_at : (place size found : ℕ) → place ≡ found → found < size → Some found ≡ cond (nat_lt place size) (Some place) None
some_at place size found e within = grind (arith, nat_tests)

pub first_is : (byte : ℕ) (text : List ℕ) (found : Option ℕ) → IsFirstByte (is_byte byte) text found → found ≡ position (λ b. b == byte) text
first_is byte text None h = none_at (place_of byte text) (length text) (lacks_all byte text (λ k below is. h k (omega arith) below is))
first_is byte text (Some place) h =
    let within = h.0.high in
    some_at (place_of byte text) (length text) place (stands byte text place within h.1 (λ k below is. h.0.before k (omega arith) below is)) within
