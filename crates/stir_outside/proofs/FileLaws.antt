-- What files hold are bytes, and bytes are held as they are.
use Rattle.std.proofs.Common.{◌≡◌, ℕ, zero, suc, ◌<◌, nat_lt, Bool, true, false, cond, List, [], ◌∷◌, Option, Some, None, refl, ap, ◌∙◌, subst, arith}
use Rattle.std.proofs.lemmas.Bool.Decides.{nat_tests}
use Rattle.std.proofs.lemmas.Option.{same_Some}
use Rattle.std.specs.Str.{bytes_eq}
use Rattle.stir_outside.specs.Files.{AreBytes, Files, HoldBytes, HoldBytesWhere, as_byte, bytes_of, file}

same_byte : (n : ℕ) → n < 256 → as_byte n ≡ n
same_byte n small = let t : nat_lt n 256 ≡ true = grind (arith, nat_tests) in rw t refl

pub same_bytes : (content : List ℕ) → AreBytes content → bytes_of content ≡ content
unfolding bytes_of
same_bytes [] bytes = refl
same_bytes (n ∷ others) bytes = ap (λ m. m ∷ bytes_of others) (same_byte n (bytes 0)) ∙ ap (λ xs. n ∷ xs) (same_bytes others (λ i. bytes (suc i)))

is_byte : (n : ℕ) (t : Bool) → nat_lt n 256 ≡ t → cond t n 255 < 256
is_byte n true t = grind (arith, nat_tests)
is_byte n false t = omega arith

are_bytes : (content : List ℕ) → AreBytes (bytes_of content)
unfolding bytes_of
are_bytes [] i = omega arith
are_bytes (n ∷ others) zero = is_byte n (nat_lt n 256) refl
are_bytes (n ∷ others) (suc i) = are_bytes others i

-- the file of a name is the first, or one of the others
found : (files : Files) (name held content : List ℕ) (t : Bool) → HoldBytes files → cond t (Some (bytes_of held)) (file name files) ≡ Some content → AreBytes content
found files name held content true others there = subst AreBytes (same_Some (bytes_of held) content there) (are_bytes held)
found files name held content false others there = others name content there

pub hold_bytes : (files : Files) → HoldBytes files
hold_bytes [] name content there = absurd cc
hold_bytes (entry ∷ files) name content there = found files name entry.1 content (bytes_eq name entry.0) (hold_bytes files) there

pub hold_where : (files : Option Files) → HoldBytesWhere files
hold_where None = tt
hold_where (Some files) = hold_bytes files
