-- A text with exactly two dots is cut into its three texts, and into no other.
use Rattle.std.proofs.Common.{◌≡◌, ℕ, Bool, true, false, not, ◌&&◌, eqb, ◌∙◌, suc, ◌+◌, ◌≤◌, List, [], ◌∷◌, ◌++◌, length, take, Some, refl, arith, ap, length-append}
use Rattle.passport_json.specs.Parts.{PartTexts, AreParts, parts_of, dot, signing_of}
use Rattle.text_grammar.proofs.CutLaws.{cut_again}
use Rattle.text_grammar.specs.Cut.{lacks}

take_front : (a b : List ℕ) → take (length a) (a ++ b) ≡ a
take_front [] b = refl
take_front (x ∷ xs) b = rw (take_front xs b) refl

pub parts_again : (text : List ℕ) (parts : PartTexts) → AreParts text parts → parts_of text ≡ Some parts
parts_again text parts are =
    rw (are.joined, cut_again dot parts.header (parts.payload ++ dot ∷ parts.signature) are.header, cut_again dot parts.payload parts.signature are.payload, are.signature) refl

take_through : (byte : ℕ) (a b c : List ℕ) → take (length a + 1 + length b) (a ++ byte ∷ (b ++ c)) ≡ a ++ byte ∷ b
take_through byte [] b c = let e : 1 + length b ≡ suc (length b) = omega arith in rw e (rw (take_front b c) refl)
take_through byte (x ∷ xs) b c =
    let e : suc (length xs) + 1 + length b ≡ suc (length xs + 1 + length b) = omega arith in
    rw e (rw (take_through byte xs b c) refl)

pub signing_taken : (text : List ℕ) (parts : PartTexts) → AreParts text parts → take (length parts.header + 1 + length parts.payload) text ≡ signing_of parts
signing_taken text parts are = rw are.joined (take_through dot parts.header parts.payload (dot ∷ parts.signature))

pub signing_within : (text : List ℕ) (parts : PartTexts) → AreParts text parts → length parts.header + 1 + length parts.payload ≤ length text
signing_within text parts are =
    omega (arith, ap length are.joined, length-append parts.header (dot ∷ (parts.payload ++ dot ∷ parts.signature)), length-append parts.payload (dot ∷ parts.signature))

and_false : (test : Bool) → (test && false) ≡ false
and_false true = refl
and_false false = refl

dot_within : (front rest : List ℕ) → lacks dot (front ++ dot ∷ rest) ≡ false
dot_within [] rest = refl
dot_within (byte ∷ front) rest = ap (λ x. not (eqb byte dot) && x) (dot_within front rest) ∙ and_false (not (eqb byte dot))

pub has_dot : (text front rest : List ℕ) → text ≡ front ++ dot ∷ rest → lacks dot text ≡ false
has_dot text front rest is = ap (lacks dot) is ∙ dot_within front rest
