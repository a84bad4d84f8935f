-- The field's parts are in their rows, and its value can be written in a line.
use Rattle.std.proofs.Common.{◌≡◌, ℕ, ◌≤◌, true, false, not, List, [], ◌∷◌, ◌++◌, length, reverse, codes, Option, Some, Result, Ok, Err, IfOk, IsTrue, refl, sym, ap, subst, ◌∙◌, arith, length-append}
use Rattle.std.specs.Str.{bytes_eq}
use Rattle.std.proofs.lemmas.List.{reverse-reverse}
use Rattle.lists.proofs.Bytes.{same_bytes}
use Rattle.text_grammar.specs.Bytes.{is_empty}
use Rattle.text_grammar.specs.Cut.{lacks}
use Rattle.text_grammar.specs.Grammar.{Run}
use Rattle.text_grammar.specs.Uri.{is_uri}
use Rattle.identity_header.specs.FieldText.{FieldText}
use Rattle.identity_header.specs.OneLine.{IsOneLine, begins_blank}
use Rattle.identity_header.specs.Parts.{Parts, is_digest_byte, parts}
use Rattle.identity_header.specs.Read.{read as read_field}
use Rattle.identity_header.specs.Spelling.{param_text, spelling}
use Rattle.sip_message.specs.Added.{is_field_value}
use Rattle.sip_message.specs.Value.{trimmed, trimmed_front}
use Rattle.passport_json.specs.Spelled.{IsSignature, compact_text, is_token_byte}
use Rattle.passport_claims.specs.Kind.{ppt_of}
use Rattle.passport_claims.specs.Passport.{ClaimsView}
use Rattle.passport_claims.specs.Signed.{IsSignable, signing_of}
use Rattle.auth_service.specs.declared.wanted.Shape.{Shape}
use Rattle.auth_service.specs.declared.wanted.Shape.TheVariants as shapes
use Rattle.auth_service.specs.Field.{field_of, token_by}
use Rattle.auth_service.specs.Written.{IsWrittenField}

-- ---- the rows

-- a token of either form is in its row
pub token_row : ((signature : List ℕ) → IsSignature signature → Run is_token_byte 8192 (compact_text signature)) → (shape : Shape) (claims : ClaimsView) (signature : List ℕ)
    → IsSignable claims → IsTrue (is_uri claims.x5u) → length claims.dest ≡ 1 → IsSignature signature → Run is_digest_byte 8192 (token_by shape (signing_of claims) signature)
token_row compact (shapes.Full kind) claims signature s uri one is = s.fits signature is uri one
token_row compact shapes.Compact claims signature s uri one is = compact signature is

-- ---- the line

front_stays : (text : List ℕ) → begins_blank text ≡ false → trimmed_front text ≡ text
front_stays [] h = refl
front_stays (b ∷ bs) h = rw h refl

stays : (text : List ℕ) → begins_blank text ≡ false → begins_blank (reverse text) ≡ false → trimmed text ≡ text
stays text front end =
    ap (λ x. reverse (trimmed_front (reverse x))) (front_stays text front)
    ∙ ap reverse (front_stays (reverse text) end)
    ∙ reverse-reverse text

some_bytes : (text : List ℕ) → 1 ≤ length text → is_empty text ≡ false
some_bytes [] h = absurd (omega arith)
some_bytes (b ∷ bs) h = refl

pub line_value : (text : List ℕ) → IsOneLine text → 1 ≤ length text → IsTrue (is_field_value text)
line_value text one some =
    let e : not (is_empty text) ≡ true = rw (some_bytes text some) refl in
    let same : bytes_eq (trimmed text) text ≡ true = rw (stays text one.front one.end) (same_bytes text) in
    let r : lacks 13 text ≡ true = one.no_return in
    let f : lacks 10 text ≡ true = one.no_feed in
    rw (e, same, r, f) refl

-- ---- the value

spelled_some : (token x5u : List ℕ) (alg ppt : Option (List ℕ)) → 1 ≤ length token → 1 ≤ length (spelling (parts token x5u alg ppt))
unfolding spelling
spelled_some token x5u alg ppt some =
    omega (
      arith,
      some,
      length-append token (codes ";info=<"),
      length-append (token ++ codes ";info=<") x5u,
      length-append (token ++ codes ";info=<" ++ x5u) (codes ">"),
      length-append (token ++ codes ";info=<" ++ x5u ++ codes ">") (param_text (codes ";alg=") alg),
      length-append (token ++ codes ";info=<" ++ x5u ++ codes ">" ++ param_text (codes ";alg=") alg) (param_text (codes ";ppt=") ppt),
    )

pub value_written : {X E : Type 0} (answer : Result X E) (seen : X → List ℕ) (shape : Shape) (claims : ClaimsView) (signature token : List ℕ) (field : Parts)
    → token ≡ token_by shape (signing_of claims) signature → field ≡ parts token claims.x5u (Some (codes "ES256")) (ppt_of claims.kind) → Run is_digest_byte 8192 token
    → IfOk answer (λ text. seen text ≡ spelling field) → IfOk answer (λ text. FieldText field (seen text)) → IfOk answer (λ text. read_field (seen text) ≡ Ok field)
    → IfOk answer (λ text. IsOneLine (seen text)) → IfOk answer (λ text. IsWrittenField (seen text) (field_of shape claims signature))
value_written (Ok text) seen shape claims signature token field t f run w g r l =
    let same : field ≡ field_of shape claims signature = f ∙ ap (λ x. parts x claims.x5u (Some (codes "ES256")) (ppt_of claims.kind)) t in
    let some : 1 ≤ length (seen text) =
    subst (λ (x : List ℕ). 1 ≤ length x) (sym (w ∙ ap spelling f)) (spelled_some token claims.x5u (Some (codes "ES256")) (ppt_of claims.kind) run.some) in
    record {
      grammar = subst (λ (x : Parts). FieldText x (seen text)) same g;
      read_as = subst (λ (x : Parts). read_field (seen text) ≡ Ok x) same r;
      line = line_value (seen text) l some;
    }
value_written (Err fault) seen shape claims signature token field t f run w g r l = tt
