-- The object that bytes are: by the test exactly if by the definition.
use Rattle.std.proofs.Common.{◌≡◌, ℕ, Bool, true, false, List, Some, None, Ok, Err, refl}
use Rattle.std.specs.Prelude.{IsUtf8, option_and_then, is_some}
use Rattle.std.specs.Str.{is_utf8}
use Rattle.std.proofs.lemmas.Str.{IsUtf8-from_is_utf8, is_utf8-from_IsUtf8}
use Rattle.serde_json.specs.Data.{Data, null, boolean, number, string, array, object}
use Rattle.serde_json.specs.Find.{as_object}
use Rattle.serde_json.specs.Read.{read}
use Rattle.passport_json.specs.declared.fault.TokenFault.TheVariants.{Json}
use Rattle.passport_json.specs.Object.{IsObjectText, object_of, only_object}
use Rattle.passport_json.specs.Token.{checked_json}

object_of_text : (bytes : List ℕ) → IsUtf8 bytes → object_of bytes ≡ option_and_then only_object (read bytes)
object_of_text bytes text = rw (is_utf8-from_IsUtf8 bytes text) refl

no_object_by : (bytes : List ℕ) (t : Bool) → is_utf8 bytes ≡ t → (IsUtf8 bytes → read bytes ≡ None) → object_of bytes ≡ None
no_object_by bytes true e none = rw (e, none (IsUtf8-from_is_utf8 bytes e)) refl
no_object_by bytes false e none = rw e refl

object_only : (value : Data) → is_some (as_object value) ≡ true → only_object value ≡ Some value
object_only null h = absurd cc
object_only (boolean b) h = absurd cc
object_only (number n) h = absurd cc
object_only (string s) h = absurd cc
object_only (array items) h = absurd cc
object_only (object ms) h = refl

not_object : (value : Data) → is_some (as_object value) ≡ false → only_object value ≡ None
not_object null h = refl
not_object (boolean b) h = refl
not_object (number n) h = refl
not_object (string s) h = refl
not_object (array items) h = refl
not_object (object ms) h = absurd cc

pub json_unread : (part : ℕ) (bytes : List ℕ) → (IsUtf8 bytes → read bytes ≡ None) → checked_json part bytes ≡ Err (Json part)
json_unread part bytes none = let e = no_object_by bytes (is_utf8 bytes) refl none in rw e refl

pub json_object : (part : ℕ) (bytes : List ℕ) (value : Data) → IsUtf8 bytes → read bytes ≡ Some value → is_some (as_object value) ≡ true → checked_json part bytes ≡ Ok value
json_object part bytes value text e h = rw (object_of_text bytes text, e, object_only value h) refl

pub json_other : (part : ℕ) (bytes : List ℕ) (value : Data) → IsUtf8 bytes → read bytes ≡ Some value → is_some (as_object value) ≡ false → checked_json part bytes ≡ Err (Json part)
json_other part bytes value text e h = rw (object_of_text bytes text, e, not_object value h) refl

object_text : (bytes : List ℕ) (value : Data) → IsUtf8 bytes → read bytes ≡ Some value → is_some (as_object value) ≡ true → IsObjectText bytes value
object_text bytes null text e h = absurd cc
object_text bytes (boolean b) text e h = absurd cc
object_text bytes (number n) text e h = absurd cc
object_text bytes (string s) text e h = absurd cc
object_text bytes (array items) text e h = absurd cc
object_text bytes (object ms) text e h = record { members = ms; utf8 = text; read_as = e; is_object = refl }

pub json_text : (bytes : List ℕ) (value : Data) → IsUtf8 bytes → read bytes ≡ Some value → is_some (as_object value) ≡ true → IsObjectText bytes value
json_text = object_text

pub object_again : (bytes : List ℕ) (value : Data) → IsObjectText bytes value → object_of bytes ≡ Some value
object_again bytes value t =
    let text = t.utf8 in
    let e : read bytes ≡ Some (object t.members) = cc in
    rw (object_of_text bytes text, e, t.is_object) refl

pub json_again : (part : ℕ) (bytes : List ℕ) (value : Data) → IsObjectText bytes value → checked_json part bytes ≡ Ok value
json_again part bytes value t = rw (object_again bytes value t) refl
