-- How long the deterministic texts of a PASSporT that calls one number are.
use Rattle.std.proofs.Common.{◌≡◌, ◌≤◌, ◌+◌, ℕ, true, List, [], ◌∷◌, length, arith}
use Rattle.std.specs.Prelude.{IsTrue}
use Rattle.std.proofs.lemmas.Bool.{and_parts}
use Rattle.serde_json.specs.Data.{Data}
use Rattle.text_grammar.specs.Uri.{is_uri}
use Rattle.tn_values.specs.Number.{is_number}
use Rattle.passport_claims.specs.Claims.{Claims}
use Rattle.passport_claims.specs.Kind.{ppt_of}
use Rattle.passport_claims.specs.Passport.{ClaimsView}
use Rattle.passport_claims.specs.Signed.{header_of, payload_of}
use Rattle.passport_claims.specs.declared.kind.Kind.{Kind}
use Rattle.passport_claims.proofs.KindTexts.{header_by, payload_by}
use Rattle.passport_claims.proofs.MemberSizes.{uri_le}

payload_at : (kind : Kind) (header payload : Data) (x5u : List ℕ) (iat : ℕ) (orig : List ℕ) (dest : List (List ℕ))
    → Claims header payload (ppt_of kind) x5u (record { kind = kind; x5u = x5u; iat = iat; orig = orig; dest = dest }) → length dest ≡ 1
    → length (payload_of (record { kind = kind; x5u = x5u; iat = iat; orig = orig; dest = dest })) ≤ 700
payload_at kind header payload x5u iat orig [] h one = absurd (omega arith)
payload_at kind header payload x5u iat orig (called ∷ []) h one =
    let ok = and_parts (is_number called) true h.dest.ok in
    payload_by kind payload x5u iat orig called h.kind (record { within = h.iat.within; calling = h.orig.ok; one = ok.0 })
payload_at kind header payload x5u iat orig (called ∷ second ∷ others) h one = absurd (omega arith)

pub texts_short : (header payload : Data) (claims : ClaimsView) → Claims header payload (ppt_of claims.kind) claims.x5u claims → IsTrue (is_uri claims.x5u) → length claims.dest ≡ 1
    → length (header_of claims) + length (payload_of claims) ≤ 6000
texts_short header payload claims h uri one =
    let u = uri_le claims.x5u uri in
    omega (arith, header_by claims.kind claims.x5u claims.iat claims.orig claims.dest u.0, payload_at claims.kind header payload claims.x5u claims.iat claims.orig claims.dest h one, u.1)
