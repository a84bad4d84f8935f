-- What each call of the drill is, in the words of its format, number by number (this project's own rule).
use Rattle.std.specs.Prelude.{◌≡◌, ℕ, ◌+◌, ◌-◌, ◌/◌, ◌<◌, List, [], ◌∷◌, ◌++◌, codes, decimal}
use Rattle.passport_json.specs.Deterministic.{Det}
use Rattle.passport_json.specs.Passport.{Header, Payload, PassportView}
use Rattle.passport_json.specs.Signing.{Signing}
use Rattle.passport_json.specs.Spelled.{full_text}
use Rattle.stir_drill.specs.Calls.{call_at, drawn_at, message_at}
use Rattle.stir_drill.specs.Draw.{kind_of, line_of}
use Rattle.stir_drill.specs.Message.{fields_with, head_text, identity_field, origid_of, passport_with, signature_of}
use Rattle.stir_drill.specs.World.{triples_of}

-- the PASSporT of type `shaken` of the call of this number, from this calling number, that was issued at this moment
abbrev pub passport_from : ℕ → ℕ → ℕ → PassportView
passport_from i calling issued = passport_with issued (decimal calling) (origid_of i)

abbrev pub token_from : ℕ → ℕ → ℕ → List ℕ
token_from i calling issued = full_text (Signing (Det (Header (passport_from i calling issued)))
    (Det (Payload (passport_from i calling issued)))) (signature_of i)

abbrev pub value_from : ℕ → ℕ → ℕ → List ℕ
value_from i calling issued =
    token_from i calling issued ++ codes ";info=<https://cert.example.org/drill.cer>;alg=ES256;ppt=\"shaken\""

-- the INVITE from this calling number with the Identity header field of this PASSporT, and the one without this field
abbrev pub signed_message : ℕ → ℕ → ℕ → List ℕ
signed_message i calling issued = head_text (codes "INVITE sip:+12125551213@example.net SIP/2.0")
    (fields_with (decimal calling) (identity_field (value_from i calling issued) ∷ []))

abbrev pub unsigned_message : ℕ → List ℕ
unsigned_message calling =
    head_text (codes "INVITE sip:+12125551213@example.net SIP/2.0") (fields_with (decimal calling) [])

-- The call of this number comes at its moment, and its message is as its first draw, modulo 8, says.
pub record SaysCall (seed i : ℕ) : Type 0 where
  pub moment : (call_at seed i).moment ≡ 1443208345 + i / 16
  -- 0: the message is that of the call before; the first call has its own
  pub repeated : kind_of seed i ≡ 0 → 1 < i → message_at seed i ≡ message_at seed (i - 1)
  pub first : kind_of seed i ≡ 0 → i ≡ 1
      → message_at seed i ≡ signed_message i (12155550000 + line_of seed i) (1443208345 + i / 16)
  -- 1: it has no Identity header field
  pub unsigned : kind_of seed i ≡ 1 → message_at seed i ≡ unsigned_message (12155550000 + line_of seed i)
  -- 2: its PASSporT was issued 61 seconds before
  pub stale : kind_of seed i ≡ 2
      → message_at seed i ≡ signed_message i (12155550000 + line_of seed i) (1443208345 + i / 16 - 61)
  -- 3: its signature isn't confirmed
  pub unconfirmed : kind_of seed i ≡ 3
      → message_at seed i ≡ signed_message i (12155550000 + line_of seed i) (1443208345 + i / 16)
  pub unanswered : kind_of seed i ≡ 3 → triples_of (drawn_at seed i) ≡ []
  -- 4: its calling number is none of the leaf's
  pub outside : kind_of seed i ≡ 4
      → message_at seed i ≡ signed_message i (12165550000 + line_of seed i) (1443208345 + i / 16)
  -- 5, 6 and 7: no change
  pub plain : 4 < kind_of seed i
      → message_at seed i ≡ signed_message i (12155550000 + line_of seed i) (1443208345 + i / 16)
