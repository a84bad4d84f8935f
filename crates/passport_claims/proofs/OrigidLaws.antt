-- The test for an identifier of a call says what the relation says.
use Rattle.std.proofs.Common.{◌≡◌, ◌↔◌, ℕ, ◌==◌, ◌&&◌, Bool, true, false, List, length, Option, Some, None, Result, Ok, Err, refl, sym, arith}
use Rattle.std.specs.Prelude.{IsUtf8, IsOk, is_ok, is_some}
use Rattle.std.specs.Str.{is_utf8}
use Rattle.std.proofs.lemmas.Bool.Decides.{nat_tests}
use Rattle.std.proofs.lemmas.Str.{IsUtf8-from_is_utf8, is_utf8-from_IsUtf8}
use Rattle.uuid.specs.Text.{parsed}
use Rattle.passport_claims.specs.Origid.{IsOrigid, is_origid}
use Rattle.std.proofs.lemmas.Bool.{and_parts, false_from_ne_true}

some_of : {A : Type 0} (found : Option A) (x : A) → found ≡ Some x → is_some found ≡ true
some_of None x e = absurd cc
some_of (Some y) x e = refl

read_by : {A : Type 0} (found : Option A) → is_some found ≡ true → (x : A) × (found ≡ Some x)
read_by None h = absurd cc
read_by (Some y) h = (y, refl)

none_of : {A : Type 0} (found : Option A) → ((x : A) → found ≡ Some x → ⊥) → is_some found ≡ false
none_of None none = refl
none_of (Some y) none = absurd (none y refl)

-- a call succeeds exactly if the text is read
pub uuid_read : {T E : Type 0} (result : Result T E) (text : List ℕ) → IsOk result ↔ ((u : List ℕ) × (parsed text ≡ Some u))
    → is_ok result ≡ is_some (parsed text)
uuid_read (Ok x) text both = let found = both.0 refl in sym (some_of (parsed text) found.0 found.1)
uuid_read (Err x) text both = sym (none_of (parsed text) (λ u e. let k = both.1 (u, e) in absurd cc))

pub text_is : (text : List ℕ) → IsUtf8 text → is_utf8 text ≡ true
text_is = is_utf8-from_IsUtf8

pub text_not : (text : List ℕ) → (IsUtf8 text → ⊥) → is_utf8 text ≡ false
text_not text no_text = false_from_ne_true _ (λ is. no_text (IsUtf8-from_is_utf8 text is))

-- the test says what the relation says
pub origid_tells : (text : List ℕ) → is_origid text ≡ true → IsOrigid text
unfolding is_origid
origid_tells text h =
    let k = and_parts ((length text == 36) && is_utf8 text) (is_some (parsed text)) h in
    let l = and_parts (length text == 36) (is_utf8 text) k.0 in
    let found = read_by (parsed text) k.1 in
    record { uuid = found.0; size = grind (arith, nat_tests, l.0); utf8 = IsUtf8-from_is_utf8 text l.1; read_as = found.1 }

all_three : (a b c : Bool) → a ≡ true → b ≡ true → c ≡ true → (a && b && c) ≡ true
all_three a b c ea eb ec = rw (ea, eb, ec) refl

pub origid_again : (text : List ℕ) → IsOrigid text → is_origid text ≡ true
unfolding is_origid
origid_again text is =
    let size : (length text == 36) ≡ true = rw is.size refl in
    all_three (length text == 36) (is_utf8 text) (is_some (parsed text)) size (is_utf8-from_IsUtf8 text is.utf8) (some_of (parsed text) is.uuid is.read_as)
