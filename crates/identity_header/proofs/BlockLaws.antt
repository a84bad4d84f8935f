-- The ranges of a token's bytes.
use Rattle.std.proofs.Common.{◌≡◌, ℕ, List, [], ◌∷◌, arith}
use Rattle.std.proofs.lemmas.Bool.Decides.{nat_tests}
use Rattle.text_grammar.proofs.BlockLaws.{is_in}
use Rattle.identity_header.specs.Parts.{is_digest_byte}

abbrev pub digest_ranges : List (ℕ × ℕ)
digest_ranges = (65, 90) ∷ (97, 122) ∷ (48, 57) ∷ (45, 46) ∷ (95, 95) ∷ []

pub digest_in : (byte : ℕ) → is_in digest_ranges byte ≡ is_digest_byte byte
digest_in byte = grind (arith, nat_tests)
