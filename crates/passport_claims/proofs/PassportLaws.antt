-- A PASSporT of its parts: what each PASSporT meets, and that its header and payload are read back.
use Rattle.std.proofs.Common.{◌≡◌, ◌≤◌, ℕ, true, nat_le, List, length, Option, Some, None, IfSome, arith}
use Rattle.std.specs.Option.{option_map_or}
use Rattle.std.proofs.lemmas.Bool.Decides.{nat_tests}
use Rattle.passport_claims.specs.Kind.{origid_in, ppt_of}
use Rattle.passport_claims.specs.Made.{has_origid, is_called_count}
use Rattle.passport_claims.specs.Origid.{IsOrigid, is_origid}
use Rattle.passport_claims.specs.Passport.{IsPassport, most_called}
use Rattle.passport_claims.specs.declared.kind.Kind.{Kind}
use Rattle.passport_claims.proofs.MemberLaws.{called_count}
use Rattle.passport_claims.proofs.OrigidLaws.{origid_tells}
use Rattle.std.proofs.lemmas.Bool.{and_parts}

origid_made : (found : Option (List ℕ)) → option_map_or is_origid found true ≡ true → IfSome found IsOrigid
origid_made None h = tt
origid_made (Some origid) h = origid_tells origid h

pub made_meets : (kind : Kind) (x5u : List ℕ) (iat : ℕ) (orig : List ℕ) (dest given : List (List ℕ)) → iat ≤ 253402300799 → is_called_count kind (length given) ≡ true
    → has_origid kind ≡ true → dest ≡ given → IsPassport (record { kind = kind; x5u = x5u; iat = iat; orig = orig; dest = dest })
made_meets kind x5u iat orig dest given within count origid copied =
    let k = and_parts (nat_le 1 (length given)) (nat_le (length given) (most_called (ppt_of kind))) count in
    rw copied (record {
      iat_within = within;
      called = called_count (ppt_of kind) (length given) (let l = k.0 in grind (arith, nat_tests)) (let l = k.1 in grind (arith, nat_tests));
      kind_ok = origid_made (origid_in kind) origid;
    })
