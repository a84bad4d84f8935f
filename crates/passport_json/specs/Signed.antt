-- The payload that is in what was signed (RFC 7515, section 2: after its dot, in base64url).
use Rattle.std.specs.Prelude.{◌≡◌, ℕ, ◌^◌, ◌<◌, true, List, Option, option_and_then, IfSome}
use Rattle.std.specs.Result.{result_ok}
use Rattle.base64.specs.Engines.{url_safe_no_pad}
use Rattle.base64.specs.GeneralPurpose.{decode_of}
use Rattle.serde_json.specs.Data.{Data}
use Rattle.text_grammar.specs.Cut.{cut}
use Rattle.tn_values.specs.Number.{is_number}
use Rattle.passport_json.specs.Compact.{CallView}
use Rattle.passport_json.specs.Object.{object_of}
use Rattle.passport_json.specs.Parts.{dot}

-- the JSON object whose base64url comes after the first dot
unfoldable pub payload_in : List ℕ → Option Data
payload_in signing = option_and_then (λ (parts : List ℕ × List ℕ).
    option_and_then object_of (result_ok (decode_of url_safe_no_pad parts.1))) (cut dot signing)

-- What a call gives for the compact form can be written and read again: a moment of 64 bits, and telephone numbers, as
-- far as they are given.
pub record GivesNumbers (call : CallView) : Type 0 where
  pub moment : IfSome call.iat (λ seconds. seconds < 2 ^ 64)
  pub calling : IfSome call.orig (λ number. is_number number ≡ true)
  pub called : IfSome call.dest (λ number. is_number number ≡ true)
