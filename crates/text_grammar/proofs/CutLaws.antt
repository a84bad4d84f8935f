-- A text cut at a byte is what came before it, the byte, and what came after it; no such byte came before.
use Rattle.std.proofs.Common.{sym, ◌∙◌, ◌≡◌, ℕ, suc, ◌+◌, ◌<◌, ◌≤◌, Bool, true, false, ◌==◌, nat_lt, cond, List, [], ◌∷◌, ◌++◌, length, take, drop, Option, Some, None, refl, arith, ap, position}
use Rattle.std.specs.List.{position_or_len}
use Rattle.std.proofs.lemmas.Bool.Decides.{nat_tests}
use Rattle.std.specs.Option.{option_map}
use Rattle.std.specs.Str.{bytes_eq}
use Rattle.std.proofs.lemmas.Slice.Eq.{bytes_eq-Decides}
use Rattle.std.proofs.lemmas.List.{take-append-drop, length-append}
use lib.Seq.{take-append_seam, drop-append_seam, drop-append-add}
use Rattle.text_grammar.specs.Cut.{behind, cut, lacks}
use Rattle.lists.proofs.Bytes.{same_byte}

abbrev is_byte : ℕ → ℕ → Bool
is_byte byte b = b == byte

abbrev place_of : ℕ → List ℕ → ℕ
place_of byte text = position_or_len (is_byte byte) text

-- the byte is at the place, and none before it
pub record Cuts (byte : ℕ) (text : List ℕ) (place : ℕ) : Type 0 where
  pub within : place + 1 ≤ length text
  pub split : text ≡ take place text ++ byte ∷ drop (place + 1) text
  pub first : lacks byte (take place text) ≡ true

cuts_by : (byte b : ℕ) (bs : List ℕ) (t : Bool) → (b == byte) ≡ t → (place_of byte bs < length bs → Cuts byte bs (place_of byte bs))
    → place_of byte (b ∷ bs) < length (b ∷ bs) → Cuts byte (b ∷ bs) (place_of byte (b ∷ bs))
cuts_by byte b bs true e below h = rw e (let same : b ≡ byte = grind (arith, nat_tests) in record { within = omega arith; split = rw same refl; first = refl })
cuts_by byte b bs false e below h =
    let k = rw e at h in
    let here = below (omega arith) in
    let one : 1 + place_of byte bs ≡ suc (place_of byte bs) = omega arith in
    let two : suc (place_of byte bs) + 1 ≡ suc (place_of byte bs + 1) = omega arith in
    rw (e, one) (record { within = omega (arith, here.within); split = rw two (ap (λ x. b ∷ x) here.split); first = rw e here.first })

cuts : (byte : ℕ) (text : List ℕ) → place_of byte text < length text → Cuts byte text (place_of byte text)
cuts byte [] h = absurd (omega arith)
cuts byte (b ∷ bs) h = cuts_by byte b bs (b == byte) refl (cuts byte bs) h

found_at : (byte : ℕ) (text : List ℕ) (place : ℕ) (t : Bool) → nat_lt (place_of byte text) (length text) ≡ t → cond t (Some (place_of byte text)) None ≡ Some place → Cuts byte text place
found_at byte text place true e h = let same : place_of byte text ≡ place = cc in rw (← same) (cuts byte text (grind (arith, nat_tests)))
found_at byte text place false e h = absurd cc

found : (byte : ℕ) (text : List ℕ) (place : ℕ) → position (is_byte byte) text ≡ Some place → Cuts byte text place
found byte text place h = found_at byte text place _ refl h

pub cut_within : (byte : ℕ) (text : List ℕ) (place : ℕ) → position (is_byte byte) text ≡ Some place → place + 1 ≤ length text
cut_within byte text place h = (found byte text place h).within

pub cut_split : (byte : ℕ) (text : List ℕ) (place : ℕ) → position (is_byte byte) text ≡ Some place → text ≡ take place text ++ byte ∷ drop (place + 1) text
cut_split byte text place h = (found byte text place h).split

pub cut_first : (byte : ℕ) (text : List ℕ) (place : ℕ) → position (is_byte byte) text ≡ Some place → lacks byte (take place text) ≡ true
cut_first byte text place h = (found byte text place h).first

lacks_by : (byte b : ℕ) (bs : List ℕ) (t : Bool) → (b == byte) ≡ t → (length bs ≤ place_of byte bs → lacks byte bs ≡ true) → length (b ∷ bs) ≤ place_of byte (b ∷ bs) → lacks byte (b ∷ bs) ≡ true
lacks_by byte b bs true e below h = let k = rw e at h in absurd (omega arith)
lacks_by byte b bs false e below h = let k = rw e at h in let none = below (omega arith) in rw (e, none) refl

lacks_all : (byte : ℕ) (text : List ℕ) → length text ≤ place_of byte text → lacks byte text ≡ true
lacks_all byte [] h = refl
lacks_all byte (b ∷ bs) h = lacks_by byte b bs (b == byte) refl (lacks_all byte bs) h

not_found : (byte : ℕ) (text : List ℕ) (t : Bool) → nat_lt (place_of byte text) (length text) ≡ t → ◌≡◌ {A = Option ℕ} (cond t (Some (place_of byte text)) None) None → length text ≤ place_of byte text
not_found byte text true e h = absurd cc
not_found byte text false e h = grind (arith, nat_tests)

pub cut_none : (byte : ℕ) (text : List ℕ) → ◌≡◌ {A = Option ℕ} (position (is_byte byte) text) None → lacks byte text ≡ true
cut_none byte text h = lacks_all byte text (not_found byte text _ refl h)

-- ---- the other way round: a text put together from its parts is cut into them

place_by : (byte b : ℕ) (bs rest : List ℕ) (t : Bool) → (b == byte) ≡ t → (lacks byte bs ≡ true → place_of byte (bs ++ byte ∷ rest) ≡ length bs)
    → lacks byte (b ∷ bs) ≡ true → place_of byte (b ∷ (bs ++ byte ∷ rest)) ≡ length (b ∷ bs)
place_by byte b bs rest true e below h = let k = rw e at h in absurd (cc)
place_by byte b bs rest false e below h = let k = rw e at h in let here = below k in rw (e, here) (omega arith)

place_again : (byte : ℕ) (front rest : List ℕ) → lacks byte front ≡ true → place_of byte (front ++ byte ∷ rest) ≡ length front
place_again byte [] rest h = rw (same_byte byte) refl
place_again byte (b ∷ bs) rest h = place_by byte b bs rest (b == byte) refl (place_again byte bs rest) h

-- a text in which such a byte comes after a prefix that lacks it is cut there
pub cut_again : (byte : ℕ) (front rest : List ℕ) → lacks byte front ≡ true → cut byte (front ++ byte ∷ rest) ≡ Some (front, rest)
cut_again byte front rest h =
    let place = place_again byte front rest h in
    let within : nat_lt (length front) (length (front ++ byte ∷ rest)) ≡ true = grind (arith, nat_tests, length-append front (byte ∷ rest)) in
    rw (place, within, take-append_seam front (byte ∷ rest), drop-append-add front (byte ∷ rest) 1) refl

-- a text that begins with the prefix has the rest after it
pub behind_again : (front rest : List ℕ) → behind front (front ++ rest) ≡ Some rest
behind_again front rest = rw (take-append_seam front rest, (bytes_eq-Decides front front).1 refl, drop-append_seam front rest) refl

-- a text whose prefix is this one is the prefix and what comes after it
pub behind_split : (front text : List ℕ) → bytes_eq (take (length front) text) front ≡ true → text ≡ front ++ drop (length front) text
behind_split front text e =
    let same : take (length front) text ≡ front = (bytes_eq-Decides _ _).0 e in
    sym (take-append-drop (length front) text) ∙ ap (λ x. x ++ drop (length front) text) same

behind_by : (front text rest : List ℕ) (t : Bool) → bytes_eq (take (length front) text) front ≡ t → cond t (Some (drop (length front) text)) None ≡ Some rest → text ≡ front ++ rest
behind_by front text rest true e h = let left : drop (length front) text ≡ rest = cc in behind_split front text e ∙ ap (λ x. front ++ x) left
behind_by front text rest false e h = absurd cc

pub behind_found : (front text rest : List ℕ) → behind front text ≡ Some rest → text ≡ front ++ rest
behind_found front text rest h = behind_by front text rest _ refl h

cut_by : (byte : ℕ) (text : List ℕ) (parts : List ℕ × List ℕ) (k : Option ℕ) → position (is_byte byte) text ≡ k → option_map (λ place. (take place text, drop (place + 1) text)) k ≡ Some parts → text ≡ parts.0 ++ byte ∷ parts.1
cut_by byte text parts None e h = absurd cc
cut_by byte text parts (Some place) e h =
    let same : ◌≡◌ {A = List ℕ × List ℕ} (take place text, drop (place + 1) text) parts = cc in
    cut_split byte text place e ∙ ap (λ (p : List ℕ × List ℕ). p.0 ++ byte ∷ p.1) same

pub cut_found : (byte : ℕ) (text : List ℕ) (parts : List ℕ × List ℕ) → cut byte text ≡ Some parts → text ≡ parts.0 ++ byte ∷ parts.1
cut_found byte text parts h = cut_by byte text parts _ refl h
