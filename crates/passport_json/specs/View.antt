-- What a token holds (RFC 8225, sections 3 to 7; RFC 7515, section 3).
use Rattle.std.specs.Prelude.{ℕ, Bool, List, refl}
use Rattle.std.specs.Coded.{Coded, code_by, coded×, coded_ℕ, coded_list, coded_bool}
use Rattle.serde_json.specs.Data.{Data}
use Rattle.passport_json.specs.DataCode.{data_code}

-- header and payload as JSON values, the bytes that were signed, the signature's bytes, and whether it came in the
-- compact form
pub record TokenView : Type 0 where
  pub header : Data
  pub payload : Data
  pub signing : List ℕ
  pub signature : List ℕ
  pub compact : Bool

abbrev pub token_code : Coded TokenView
token_code =
    code_by (Data × (Data × (List ℕ × (List ℕ × Bool))))
    (coded× data_code (coded× data_code (coded× (coded_list coded_ℕ) (coded× (coded_list coded_ℕ) coded_bool))))
    (λ k. (k.header, (k.payload, (k.signing, (k.signature, k.compact)))))
    (λ p. record { header = p.0; payload = p.1.0; signing = p.1.1.0; signature = p.1.1.1.0; compact = p.1.1.1.1 })
    (λ _. refl)
