-- the claims that are not broken are those of a PASSporT
use Rattle.std.proofs.Common.{◌≡◌, Ok, sym}
use Rattle.std.specs.Option.{option_copied}
use Rattle.std.specs.String.{string_bytes}
use Rattle.passport_claims.proofs.ClaimsLaws.{read_meets}
use Rattle.passport_claims.specs.HasKind.{checked_kind}
use Rattle.passport_claims.specs.Members.{called_in}
use Rattle.passport_claims.specs.Passport.{most_called}
use Rattle.passport_claims.specs.Reading.{or_fault}
use Rattle.passport_claims.specs.declared.fault.ClaimFault.TheVariants as faults
use Rattle.passport_claims.proofs.passport.claims_of.Goals as goal

pub invariant_of-result : goal.invariant_of-result
invariant_of-result c =
    let called : or_fault faults.Dest (called_in (most_called (option_copied c.args.ppt)) c.args.token.now.payload) ≡ Ok c.in_ok-dest.dest.items
    = rw (sym c.most_called.ensures, sym c.payload-2.ensures.value) c.in_ok-dest.ensures in
    let typed : checked_kind (option_copied c.args.ppt) c.args.token.now.payload ≡ Ok c.in_ok-kind.kind
    = rw (sym c.payload-3.ensures.value) (sym c.in_ok-kind.ensures) in
    read_meets c.args.token.now.payload (option_copied c.args.ppt) c.in_ok-kind.kind (string_bytes c.in_ok-from_str.field-0) c.in-Some.iat
    c.in-Some-number_in.orig c.in_ok-dest.dest.items c.requires c.in-Some.ensures.found called typed
