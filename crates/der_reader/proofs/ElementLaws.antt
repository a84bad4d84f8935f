-- Laws of the readers of a BIT STRING without unused bits and of a BOOLEAN.
use Rattle.std.proofs.Common.{◌≡◌, ℕ, ◌-◌, Bool, true, false, List, [], ◌∷◌, length, get_or, Ok, refl, ap, ◌∙◌, arith}
use Rattle.std.proofs.lemmas.Bool.Decides.{nat_tests}
use Rattle.std.proofs.Math.Nat.{mod-one}
use Rattle.der_reader.specs.BitString.{BitText, bits_of}
use Rattle.der_reader.specs.Boolean.{boolean_of, boolean_text}
use Rattle.der_reader.specs.Tags.{boolean_tag, bit_string_tag}

reads : (bytes : List ℕ) → bits_of bit_string_tag (0 ∷ bytes) ≡ Ok bytes
unfolding bits_of
reads bytes = grind (arith, nat_tests)

truths : (truth : Bool) → boolean_of 1 (boolean_text truth) ≡ Ok truth
unfolding boolean_of
truths true = refl
truths false = refl

-- what `bits_of` gives are the bytes of the string
pub bits_found : (tag : ℕ) (content bytes : List ℕ) → bits_of tag content ≡ Ok bytes → (tag ≡ bit_string_tag) × BitText content 0 bytes
unfolding bits_of
bits_found tag [] bytes e = absurd (grind (arith, nat_tests))
bits_found tag (unused ∷ rest) bytes e =
    let none : unused ≡ 0 = grind (arith, nat_tests) in
    let is : rest ≡ bytes = grind (arith, nat_tests) in (
      grind (arith, nat_tests),
      record {
        text = cc;
        count = omega arith;
        empty = λ _. refl;
        zeros = mod-one (get_or bytes (length bytes - 1) 0);
      },
    )

-- the bytes of the string are what `bits_of` gives
pub bits_again : (tag : ℕ) (content bytes : List ℕ) → tag ≡ bit_string_tag → BitText content 0 bytes → bits_of tag content ≡ Ok bytes
bits_again tag content bytes t text = ap (λ tag. bits_of tag content) t ∙ ap (bits_of bit_string_tag) text.text ∙ reads bytes

-- what `boolean_of` gives is the truth value whose text the content is
pub boolean_found : (tag : ℕ) (content : List ℕ) (truth : Bool) → boolean_of tag content ≡ Ok truth → (tag ≡ boolean_tag) × (content ≡ boolean_text truth)
unfolding boolean_of
boolean_found tag [] truth e = absurd (grind (arith, nat_tests))
boolean_found tag (byte ∷ []) true e =
    let is : byte ≡ 0xFF = grind (arith, nat_tests) in
    (grind (arith, nat_tests), ap (λ byte. byte ∷ []) is)
boolean_found tag (byte ∷ []) false e =
    let is : byte ≡ 0 = grind (arith, nat_tests) in
    (grind (arith, nat_tests), ap (λ byte. byte ∷ []) is)
boolean_found tag (byte ∷ more ∷ rest) truth e = absurd (grind (arith, nat_tests))

-- the truth value whose text the content is is what `boolean_of` gives
pub boolean_again : (tag : ℕ) (content : List ℕ) (truth : Bool) → tag ≡ boolean_tag → content ≡ boolean_text truth → boolean_of tag content ≡ Ok truth
boolean_again tag content truth t text = ap (λ tag. boolean_of tag content) t ∙ ap (boolean_of 1) text ∙ truths truth
