-- The received texts of a token, and what its call gives, as the definitions speak of them.
use Rattle.std.specs.Option.{option_copied}
use Rattle.passport_json.specs.declared.parts.Parts.{Parts}
use Rattle.passport_json.specs.declared.compact.Base.{Base}
use Rattle.passport_json.specs.declared.view.View.{View}
use Rattle.passport_json.specs.Compact.{CallView, base as base_passport}
use Rattle.passport_json.specs.Parts.{PartTexts}
use Rattle.passport_json.specs.Passport.{PassportView}

abbrev pub texts_of : Parts → PartTexts
texts_of parts = record { header = parts.header.now; payload = parts.payload.now; signature = parts.signature.now }

abbrev pub call_of : View → CallView
call_of view =
    record { iat = view.iat; orig = view.orig; dest = view.dest; info = view.info.now; ppt = option_copied view.ppt }

abbrev pub passport_of : Base → PassportView
passport_of base = base_passport base.iat base.orig base.dest base.info.now
