-- A text split at each byte of one kind: its first part, and the others.
use Rattle.std.proofs.Common.{◌≡◌, ℕ, Bool, true, false, ◌==◌, List, [], ◌∷◌, ◌++◌, refl, ap, ◌∙◌}
use Rattle.std.specs.List.{slice_split}
use Rattle.text_grammar.specs.Cut.{lacks}
use Rattle.lists.proofs.Bytes.{same_byte}

abbrev pub split_at_byte : ℕ → List ℕ → List (List ℕ)
split_at_byte byte text = slice_split (λ b. b == byte) text

none_by : (byte b : ℕ) (bs : List ℕ) (t : Bool) → (b == byte) ≡ t → (lacks byte bs ≡ true → split_at_byte byte bs ≡ bs ∷ [])
    → lacks byte (b ∷ bs) ≡ true → split_at_byte byte (b ∷ bs) ≡ (b ∷ bs) ∷ []
none_by byte b bs true e below h = let k = rw e at h in absurd (cc)
none_by byte b bs false e below h = let k = rw e at h in let none = below k in rw (e, none) refl

-- a text without such a byte is one part
pub split_none : (byte : ℕ) (text : List ℕ) → lacks byte text ≡ true → slice_split (λ b. b == byte) text ≡ text ∷ []
split_none byte [] h = refl
split_none byte (b ∷ bs) h = none_by byte b bs (b == byte) refl (split_none byte bs) h

first_by : (byte b : ℕ) (bs rest : List ℕ) (t : Bool) → (b == byte) ≡ t → (lacks byte bs ≡ true → split_at_byte byte (bs ++ byte ∷ rest) ≡ bs ∷ split_at_byte byte rest)
    → lacks byte (b ∷ bs) ≡ true → split_at_byte byte (b ∷ (bs ++ byte ∷ rest)) ≡ (b ∷ bs) ∷ split_at_byte byte rest
first_by byte b bs rest true e below h = let k = rw e at h in absurd (cc)
first_by byte b bs rest false e below h = let k = rw e at h in let here = below k in rw (e, here) refl

-- the first part of a text that has the byte is what comes before the first one
pub split_first : (byte : ℕ) (front rest : List ℕ) → lacks byte front ≡ true → split_at_byte byte (front ++ byte ∷ rest) ≡ front ∷ split_at_byte byte rest
split_first byte [] rest h = rw (same_byte byte) refl
split_first byte (b ∷ bs) rest h = first_by byte b bs rest (b == byte) refl (split_first byte bs rest) h

pub split_first_of : (byte : ℕ) (text front rest : List ℕ) → text ≡ front ++ byte ∷ rest → lacks byte front ≡ true → slice_split (λ b. b == byte) text ≡ front ∷ slice_split (λ b. b == byte) rest
split_first_of byte text front rest e h = ap (split_at_byte byte) e ∙ split_first byte front rest h
