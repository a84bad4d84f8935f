-- The messages of the drill, as they are written.
use Rattle.std.proofs.Common.{◌≡◌, ◌≤◌, ℕ, ◌+◌, ◌*◌, ◌/◌, List, [], ◌∷◌, ◌++◌, Bool, true, false, length, drop, codes, refl, sym, ap, ◌∙◌, arith, append_assoc, length-append}
use Rattle.std.specs.List.{flat_map}
use Rattle.std.proofs.lemmas.List.{append-nil}
use Rattle.std.proofs.lemmas.List.Concat.{flat_map-append}
use Rattle.base64.specs.Engines.{url_safe_no_pad}
use Rattle.base64.specs.GeneralPurpose.{encode_of}
use Rattle.call_log.specs.Entry.{headed}
use Rattle.stir_drill.specs.Change.{has_identity}
use Rattle.stir_drill.specs.Message.{Field, calling_text, field_line, fields_with, head_text, identity_field, identity_line, identity_fields, identity_of, message_of, signature_of, signing_of}
use Rattle.stir_drill.specs.Pieces.{at_end, before_number, before_token, between, parameters}
use Rattle.stir_drill.specs.declared.drawn.Drawn.{Drawn}
use Rattle.stir_drill.proofs.EntryLaws.{headed_behind}
use Rattle.stir_drill.proofs.PassportLaws.{encoded_length}

-- ---- the message around its calling number and its Identity line

abbrev crlf : List ℕ
crlf = 13 ∷ 10 ∷ []

abbrev last_field : Field
last_field = record { name = codes "Content-Length"; value = codes "0" }

-- the lines of the fields after From
abbrev behind_from : List Field → List ℕ
behind_from fields = flat_map field_line (drop 3 (fields_with [] fields))

message_shape : (a b c d e : List ℕ) → a ++ ((((b ++ c) ++ d) ++ e) ++ d) ≡ a ++ (b ++ (c ++ (d ++ (e ++ d))))
message_shape a b c d e = simp append_assoc refl

ends : (fields : List Field) → flat_map field_line (fields ++ last_field ∷ []) ++ crlf ≡ flat_map field_line fields ++ at_end
ends fields = ap (λ x. x ++ crlf) (flat_map-append field_line fields (last_field ∷ []))
    ∙ append_assoc (flat_map field_line fields) (field_line last_field ++ []) crlf

pub message_spelled : (calling : List ℕ) (fields : List Field)
    → head_text (codes "INVITE sip:+12125551213@example.net SIP/2.0") (fields_with calling fields)
    ≡ before_number ++ (calling ++ (between ++ (flat_map field_line fields ++ at_end)))
message_spelled calling fields = message_shape before_number calling (codes "@example.org>;tag=1") crlf (behind_from fields)
    ∙ ap (λ x. before_number ++ (calling ++ (between ++ x))) (ends fields)

-- ---- its entry

entry_shape : (l h a b c d e : List ℕ) → (((((l ++ h) ++ a) ++ b) ++ c) ++ d) ++ e ≡ l ++ (h ++ (a ++ (b ++ (c ++ (d ++ e)))))
entry_shape l h a b c d e = simp append_assoc refl

sizes : (a b c d e : List ℕ) → length a + length b + length c + length d + length e ≡ length (a ++ (b ++ (c ++ (d ++ e))))
sizes a b c d e = omega (
  arith,
  length-append a (b ++ (c ++ (d ++ e))),
  length-append b (c ++ (d ++ e)),
  length-append c (d ++ e),
  length-append d e,
)

entry_by : (log : List ℕ) (moment size : ℕ) (a b c d e message : List ℕ) → message ≡ a ++ (b ++ (c ++ (d ++ e))) → size ≡ length message
    → (((((log ++ headed moment size []) ++ a) ++ b) ++ c) ++ d) ++ e ≡ log ++ headed moment (length message) message
entry_by log moment size a b c d e message m s =
    entry_shape log (headed moment size []) a b c d e
    ∙ ap (λ x. log ++ (headed moment size [] ++ x)) (sym m)
    ∙ ap (λ x. log ++ x) (headed_behind moment size message)
    ∙ ap (λ x. log ++ headed moment x message) s

-- the size of the message of a call
pub message_size : (call : Drawn) (calling line : List ℕ) (size : ℕ) → calling ≡ calling_text call → line ≡ identity_line call
    → size ≡ length before_number + length calling + length between + length line + length at_end → size ≡ length (message_of call)
message_size call calling line size k l s =
    s ∙ sizes before_number calling between line at_end
    ∙ ap (λ x. length (before_number ++ (x ++ (between ++ (line ++ at_end))))) k
    ∙ ap (λ x. length (before_number ++ (calling_text call ++ (between ++ (x ++ at_end))))) l
    ∙ ap length (sym (message_spelled (calling_text call) (identity_fields call)))

-- and its entry
pub entry_spelled : (call : Drawn) (log log_now calling line : List ℕ) (moment size : ℕ) → calling ≡ calling_text call → line ≡ identity_line call
    → size ≡ length before_number + length calling + length between + length line + length at_end
    → log_now ≡ (((((log ++ headed moment size []) ++ before_number) ++ calling) ++ between) ++ line) ++ at_end
    → log_now ≡ log ++ headed moment (length (message_of call)) (message_of call)
entry_spelled call log log_now calling line moment size k l s n =
    n ∙ entry_by log moment size before_number calling between line at_end (message_of call)
    (message_spelled (calling_text call) (identity_fields call)
    ∙ ap (λ x. before_number ++ (x ++ (between ++ (identity_line call ++ at_end)))) (sym k)
    ∙ ap (λ x. before_number ++ (calling ++ (between ++ (x ++ at_end)))) (sym l))
    (message_size call calling line size k l s)

-- ---- the Identity line

line_shape : (i s t e p n : List ℕ) → (((i ++ s) ++ t) ++ e) ++ (p ++ n) ≡ (i ++ (((s ++ (t ++ e)) ++ p) ++ n)) ++ []
line_shape i s t e p n = simp (append_assoc, append-nil) refl

line_by : (call : Drawn) (has : Bool) → has_identity call.change ≡ has → has ≡ true → field_line (identity_field (identity_of call)) ++ [] ≡ identity_line call
line_by call has e t = rw (e, t) refl

pub line_spelled : (call : Drawn) (signing encoded line : List ℕ) → has_identity call.change ≡ true → signing ≡ signing_of call
    → encoded ≡ encode_of url_safe_no_pad (signature_of call.number)
    → line ≡ (((before_token ++ signing) ++ 46 ∷ []) ++ encoded) ++ parameters → line ≡ identity_line call
line_spelled call signing encoded line has s e l =
    l ∙ ap (λ x. (((before_token ++ x) ++ 46 ∷ []) ++ encoded) ++ parameters) s
    ∙ ap (λ x. (((before_token ++ signing_of call) ++ 46 ∷ []) ++ x) ++ parameters) e
    ∙ line_shape before_token (signing_of call) (46 ∷ []) (encode_of url_safe_no_pad (signature_of call.number))
    (codes ";info=<https://cert.example.org/drill.cer>;alg=ES256;ppt=\"shaken\"") crlf
    ∙ line_by call true has refl

pub line_absent : (call : Drawn) → has_identity call.change ≡ false → identity_line call ≡ []
line_absent call has = rw has refl

pub line_short : (signing encoded line signature : List ℕ) → length signing ≤ 600 → length signature ≡ 64 → encoded ≡ encode_of url_safe_no_pad signature
    → line ≡ (((before_token ++ signing) ++ 46 ∷ []) ++ encoded) ++ parameters → length line ≤ 1000
line_short signing encoded line signature s g e l =
    let n : length line ≡ length ((((before_token ++ signing) ++ 46 ∷ []) ++ encoded) ++ parameters) = ap length l in
    let m : length encoded ≡ (4 * length signature + 2) / 3 = ap length e ∙ encoded_length signature in
    let one : length ((((before_token ++ signing) ++ 46 ∷ []) ++ encoded) ++ parameters) ≡ length (((before_token ++ signing) ++ 46 ∷ []) ++ encoded) + 67
    = length-append (((before_token ++ signing) ++ 46 ∷ []) ++ encoded) parameters in
    omega (
      arith,
      n,
      m,
      g,
      s,
      one,
      length-append ((before_token ++ signing) ++ 46 ∷ []) encoded,
      length-append (before_token ++ signing) (46 ∷ []),
      length-append before_token signing,
    )
