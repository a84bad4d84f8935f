-- A file's name is text.
use Rattle.std.proofs.Common.{◌≡◌, ℕ, ◌<◌, true, List, length, nat_le, arith}
use Rattle.std.proofs.lemmas.Bool.Decides.{nat_tests}
use Rattle.std.specs.List.{list_all}
use Rattle.std.specs.Str.{IsUtf8}
use Rattle.text_grammar.specs.Bytes.{is_visible}
use Rattle.cert_store.specs.ChainMap.{is_file_name}
use Rattle.std.proofs.lemmas.Bool.{and_parts}
use Rattle.lists.proofs.Bytes.{all_utf8}

below_128 : (byte : ℕ) → is_visible byte ≡ true → byte < 128
below_128 byte h = grind (arith, nat_tests)

pub name_utf8 : (name : List ℕ) → is_file_name name ≡ true → IsUtf8 name
name_utf8 name h = all_utf8 is_visible below_128 name (and_parts (nat_le (length name) 255) (list_all is_visible name) h).1
