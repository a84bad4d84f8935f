-- What a PASSporT says, as it is written.
use Rattle.std.proofs.Common.{◌≡◌, ◌↔◌, ℕ, Bool, true, false, not, ◌&&◌, nat_le, IsTrue, List, [], ◌∷◌, ◌++◌, append_assoc, Some, cond, refl, sym, ◌∙◌, ap, arith}
use Rattle.std.specs.Prelude.{decimal}
use Rattle.std.proofs.lemmas.Bool.{and_parts}
use Rattle.std.proofs.lemmas.Bool.Decides.{nat_tests}
use Rattle.passport_json.specs.Deterministic.{Det, IsWritable, most_deep}
use Rattle.serde_json.specs.Data.{Data, depth}
use Rattle.serde_json.specs.Written.{has_float}
use Rattle.verify_rules.specs.Call.{Reading, payload_of}
use Rattle.open_calls.specs.Claims.{claims_line, has_form, payload_text, said_text}

-- ---- the form of a payload

unfloat : (b : Bool) → not b ≡ true → b ≡ false
unfloat true is = absurd (cc)
unfloat false is = refl

form_of : (value : Data) → IsWritable value → has_form value ≡ true
form_of value is =
    let shallow = is.shallow in
    let deep : nat_le (depth value) most_deep ≡ true = grind (arith, nat_tests, shallow) in
    ap (λ b. not b && nat_le (depth value) most_deep) is.no_float ∙ deep

of_form : (value : Data) → has_form value ≡ true → IsWritable value
of_form value is =
    let parts = and_parts (not (has_float value)) (nat_le (depth value) most_deep) is in
    record { no_float = unfloat (has_float value) parts.0; shallow = grind (arith, nat_tests, parts.1) }

no_form_of : (value : Data) (form : Bool) → has_form value ≡ form → (IsWritable value → ⊥) → form ≡ false
no_form_of value true is none = absurd (none (of_form value is))
no_form_of value false is none = refl

pub in_form : (value : Data) (text : List ℕ) → IsWritable value → text ≡ Det value → text ≡ payload_text value
in_form value text writable is = is ∙ sym (ap (λ b. cond b (Det value) (45 ∷ [])) (form_of value writable))

pub formless : (value : Data) (writable : Bool) (text : List ℕ) → (IsTrue writable ↔ IsWritable value) → writable ≡ false → text ≡ 45 ∷ [] → text ≡ payload_text value
formless value true text either not_so is = absurd (cc)
formless value false text either not_so is =
    is ∙ sym (ap (λ b. cond b (Det value) (45 ∷ [])) (no_form_of value (has_form value) refl (λ (w : IsWritable value). let t : false ≡ true = either.1 w in cc)))

-- ---- the line of a PASSporT

pub line_added : (one : Reading) (payload : Data) (number said before mid now : List ℕ) → number ≡ decimal one.mark.field ++ 32 ∷ [] → payload_of one ≡ Some payload
    → said ≡ payload_text payload → mid ≡ before ++ number → now ≡ mid ++ (said ++ 10 ∷ []) → now ≡ before ++ claims_line one
line_added one payload number said before mid now number_is found said_is first then =
    let text : said ≡ said_text (payload_of one) = said_is ∙ sym (ap said_text found) in
    then ∙ ap (λ (t : List ℕ). t ++ (said ++ 10 ∷ [])) first ∙ append_assoc before number (said ++ 10 ∷ [])
    ∙ ap (λ (t : List ℕ). before ++ (t ++ (said ++ 10 ∷ []))) number_is ∙ ap (λ (t : List ℕ). before ++ ((decimal one.mark.field ++ 32 ∷ []) ++ (t ++ 10 ∷ []))) text
