-- The prefix of a text up to its first byte of a kind is one, and cutting the text finds it.
use Rattle.std.proofs.Common.{◌≡◌, ℕ, ◌+◌, Bool, true, false, not, ◌==◌, ◌||◌, List, [], ◌∷◌, ◌++◌, take, drop, position, Option, Some, None, refl, ap, sym, ◌∙◌, if◌then◌else◌}
use Rattle.std.specs.Option.{option_map, option_map_or}
use Rattle.std.proofs.lemmas.Bool.{and_parts, not-true}
use Rattle.lists.proofs.Bytes.{same_byte}
use Rattle.text_grammar.specs.Cut.{cut, lacks}
use Rattle.text_grammar.proofs.CutLaws.{cut_first, cut_none, cut_split}
use Rattle.sip_message.specs.Address.{before}
use Rattle.sip_message.specs.UpTo.{UpTo, has_none, stops, whole}

-- ---- byte by byte

abbrev pub front_of : (ℕ → Bool) → List ℕ → List ℕ
front_of test [] = []
front_of test (b ∷ bs) = if test b then [] else b ∷ front_of test bs

front_by : (test : ℕ → Bool) (b : ℕ) (bs : List ℕ) (t : Bool) → test b ≡ t → UpTo test bs (front_of test bs) → UpTo test (b ∷ bs) (front_of test (b ∷ bs))
front_by test b bs true e below = rw e (stops b bs refl e refl)
front_by test b bs false e (stops byte rest none is parts) = rw e (stops byte rest (rw e none) is (ap (λ x. b ∷ x) parts))
front_by test b bs false e (whole none same) = rw e (whole (rw e none) (ap (λ x. b ∷ x) same))

pub front_is : (test : ℕ → Bool) (text : List ℕ) → UpTo test text (front_of test text)
front_is test [] = whole refl refl
front_is test (b ∷ bs) = front_by test b bs (test b) refl (front_is test bs)

stopped : (test : ℕ → Bool) (front : List ℕ) (byte : ℕ) (rest : List ℕ) → has_none test front ≡ true → test byte ≡ true → front_of test (front ++ byte ∷ rest) ≡ front
stopped test [] byte rest none is = rw is refl
stopped test (b ∷ bs) byte rest none is =
    let p = and_parts (not (test b)) (has_none test bs) none in
    let other : test b ≡ false = not-true (test b) p.0 in
    rw other (ap (λ x. b ∷ x) (stopped test bs byte rest p.1 is))

all_passed : (test : ℕ → Bool) (text : List ℕ) → has_none test text ≡ true → front_of test text ≡ text
all_passed test [] none = refl
all_passed test (b ∷ bs) none =
    let p = and_parts (not (test b)) (has_none test bs) none in
    let other : test b ≡ false = not-true (test b) p.0 in
    rw other (ap (λ x. b ∷ x) (all_passed test bs p.1))

-- and there is no other
pub front_only : (test : ℕ → Bool) (text front : List ℕ) → UpTo test text front → front ≡ front_of test text
front_only test text front (stops byte rest none is parts) = sym (ap (front_of test) parts ∙ stopped test front byte rest none is)
front_only test text front (whole none same) = same ∙ sym (all_passed test text none)

-- ---- by a cut at a byte

before_by : (byte : ℕ) (text : List ℕ) (k : Option ℕ) → position (λ b. b == byte) text ≡ k
    → UpTo (λ b. b == byte) text (option_map_or (λ (parts : List ℕ × List ℕ). parts.0) (option_map (λ place. (take place text, drop (place + 1) text)) k) text)
before_by byte text None e = whole (cut_none byte text e) refl
before_by byte text (Some place) e = stops byte (drop (place + 1) text) (cut_first byte text place e) (same_byte byte) (cut_split byte text place e)

pub before_is : (byte : ℕ) (text : List ℕ) → UpTo (λ b. b == byte) text (before byte text)
before_is byte text = before_by byte text (position (λ b. b == byte) text) refl

pub before_only : (byte : ℕ) (text front : List ℕ) → UpTo (λ b. b == byte) text front → front ≡ before byte text
before_only byte text front up = front_only (λ b. b == byte) text front up ∙ sym (front_only (λ b. b == byte) text (before byte text) (before_is byte text))

-- ---- by two cuts, one after the other

twice_by : (p q : ℕ → Bool) (b : ℕ) (bs : List ℕ) (s t : Bool) → p b ≡ s → q b ≡ t → front_of q (front_of p bs) ≡ front_of (λ x. p x || q x) bs
    → front_of q (front_of p (b ∷ bs)) ≡ front_of (λ x. p x || q x) (b ∷ bs)
twice_by p q b bs true t es et below = rw es refl
twice_by p q b bs false true es et below = rw (es, et) refl
twice_by p q b bs false false es et below = rw (es, et) (ap (λ x. b ∷ x) below)

twice : (p q : ℕ → Bool) (text : List ℕ) → front_of q (front_of p text) ≡ front_of (λ x. p x || q x) text
twice p q [] = refl
twice p q (b ∷ bs) = twice_by p q b bs (p b) (q b) refl refl (twice p q bs)

-- what is before the byte in the prefix up to a byte of the kind is before both
pub before_front : (p : ℕ → Bool) (byte : ℕ) (text front : List ℕ) → front ≡ front_of p text → before byte front ≡ front_of (λ x. p x || x == byte) text
before_front p byte text front same =
    ap (before byte) same
    ∙ front_only (λ b. b == byte) (front_of p text) (before byte (front_of p text)) (before_is byte (front_of p text))
    ∙ twice p (λ b. b == byte) text

pub before_first : (byte : ℕ) (text : List ℕ) → before byte text ≡ front_of (λ b. b == byte) text
before_first byte text = front_only (λ b. b == byte) text (before byte text) (before_is byte text)

-- ---- what is before a cut lacks its byte

lacks_by : (byte : ℕ) (text : List ℕ) (parts : List ℕ × List ℕ) (k : Option ℕ) → position (λ b. b == byte) text ≡ k
    → option_map (λ place. (take place text, drop (place + 1) text)) k ≡ Some parts → lacks byte parts.0 ≡ true
lacks_by byte text parts None e h = absurd cc
lacks_by byte text parts (Some place) e h =
    let same : ◌≡◌ {A = List ℕ × List ℕ} (take place text, drop (place + 1) text) parts = cc in
    ap (λ (p : List ℕ × List ℕ). lacks byte p.0) (sym same) ∙ cut_first byte text place e

pub cut_lacks : (byte : ℕ) (text : List ℕ) (parts : List ℕ × List ℕ) → cut byte text ≡ Some parts → lacks byte parts.0 ≡ true
cut_lacks byte text parts h = lacks_by byte text parts (position (λ b. b == byte) text) refl h
