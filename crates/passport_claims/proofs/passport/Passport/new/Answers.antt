-- the parts that were not refused are those of a PASSporT
use Rattle.std.proofs.Common.{sym, ◌∙◌}
use Rattle.std.specs.String.{string_bytes}
use Rattle.passport_claims.proofs.PassportLaws.{made_meets}
use Rattle.passport_claims.proofs.passport.Passport.new.Goals as goal

pub invariant_of-result : goal.invariant_of-result
invariant_of-result c =
    made_meets c.args.kind (string_bytes c.in_ok-from_str.field-0) c.args.iat c.args.orig c.in_ok-from_slice.field-0.items c.args.dest.now
    c.if-iat-gt-LAST_SECOND.false (sym c.is_called_count.ensures ∙ c.if-not-is_called_count.false) (sym c.has_origid.ensures ∙ c.if-not-has_origid.false)
    c.in_ok-from_slice.ensures.items
