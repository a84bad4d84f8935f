-- How long the line of the field is, and that it may be added.
use Rattle.std.specs.Prelude.{slice_index}
use Rattle.std.proofs.Common.{◌≡◌, ℕ, zero, suc, ◌<◌, ◌≤◌, ◌+◌, ◌==◌, true, false, ◌&&◌, nat_le, nat_lt, List, [], ◌∷◌, ◌++◌, length, take, drop, replicate, codes, Option, Some, None, Result, Ok, Err, IfSome, IsTrue, refl, sym, ap, subst, ◌∙◌, arith, length-append}
use Rattle.std.specs.List.{list_all}
use Rattle.std.proofs.lemmas.Bool.{and_parts}
use Rattle.std.proofs.lemmas.Bool.Decides.{nat_tests}
use Rattle.std.proofs.lemmas.List.{take-append-drop}
use Rattle.text_grammar.specs.Bytes.{is_letter, is_uri_byte}
use Rattle.text_grammar.specs.Uri.{is_uri}
use Rattle.identity_header.specs.Spelling.{is_bare, param_text, spelling, value_text}
use Rattle.identity_header.specs.Parts.{is_bare_byte, parts}
use Rattle.sip_message.specs.Added.{added, head_end, sized_or_fault, with_line, written_field}
use Rattle.sip_message.specs.Message.{MessageView}
use Rattle.sip_message.specs.declared.fault.FormFault.{FormFault}
use Rattle.passport_json.specs.Spelled.{IsSignature, compact_text, full_text}
use Rattle.passport_claims.specs.Kind.{IsTypeText, ppt_of}
use Rattle.passport_claims.specs.Passport.{ClaimsView}
use Rattle.passport_claims.specs.Signed.{IsSignable, signing_of}
use Rattle.passport_claims.proofs.KindLaws.{type_text}
use Rattle.auth_service.specs.declared.wanted.Shape.{Shape}
use Rattle.auth_service.specs.declared.wanted.Shape.TheVariants as shapes
use Rattle.auth_service.specs.Field.{field_name, value_of}
use Rattle.auth_service.specs.Order.{OrderView, is_order, kind_of}
use Rattle.auth_service.specs.Signed.{is_too_long, no_signature}
use Rattle.auth_service.specs.Written.{HasRoomFor, IsFor, line_size, type_size}
use Rattle.auth_service.proofs.MadeLaws.{order_parts}

-- ---- a signature of zeros

zeros : (n i : ℕ) → slice_index (replicate n 0) i < 256
zeros zero i = omega arith
zeros (suc n) zero = omega arith
zeros (suc n) (suc i) = zeros n i

pub none_signature : IsSignature no_signature
none_signature = record { bytes = λ i. zeros 64 i; size = refl }

-- ---- the value

abbrev pub FullSize : Type 0
FullSize = (signing signature : List ℕ) → IsSignature signature → length (full_text signing signature) ≡ length signing + 87

abbrev pub CompactSize : Type 0
CompactSize = (signature : List ℕ) → IsSignature signature → length (compact_text signature) ≡ 88

spelled_size : (token x5u : List ℕ) (ppt : Option (List ℕ))
    → length (spelling (parts token x5u (Some (codes "ES256")) ppt)) ≡ length token + length x5u + 18 + length (param_text (codes ";ppt=") ppt)
unfolding spelling
spelled_size token x5u ppt =
    let info : length (codes ";info=<") ≡ 7 = refl in
    let angle : length (codes ">") ≡ 1 = refl in
    let alg : length (param_text (codes ";alg=") (Some (codes "ES256"))) ≡ 10 = refl in
    omega (
      arith,
      info,
      angle,
      alg,
      length-append token (codes ";info=<"),
      length-append (token ++ codes ";info=<") x5u,
      length-append (token ++ codes ";info=<" ++ x5u) (codes ">"),
      length-append (token ++ codes ";info=<" ++ x5u ++ codes ">") (param_text (codes ";alg=") (Some (codes "ES256"))),
      length-append (token ++ codes ";info=<" ++ x5u ++ codes ">" ++ param_text (codes ";alg=") (Some (codes "ES256"))) (param_text (codes ";ppt=") ppt),
    )

line_is : (bytes value : List ℕ) → length (with_line bytes field_name value) ≡ length bytes + length value + 12
line_is bytes value =
    let name : length field_name ≡ 8 = refl in
    let cut = ap length (take-append-drop (head_end bytes) bytes) in
    omega (
      arith,
      name,
      cut,
      length-append (take (head_end bytes) bytes) (drop (head_end bytes) bytes),
      length-append (take (head_end bytes) bytes) (written_field field_name value ++ drop (head_end bytes) bytes),
      length-append (written_field field_name value) (drop (head_end bytes) bytes),
      length-append field_name (58 ∷ 32 ∷ (value ++ 13 ∷ 10 ∷ [])),
      length-append value (13 ∷ 10 ∷ []),
    )

-- a type is written without quotes
letter_bare : (b : ℕ) → is_letter b ≡ true → is_bare_byte b ≡ true
letter_bare b h = grind (arith, nat_tests)

letters_bare : (text : List ℕ) → list_all is_letter text ≡ true → list_all is_bare_byte text ≡ true
letters_bare [] h = refl
letters_bare (b ∷ bs) h =
    let t = and_parts (is_letter b) (list_all is_letter bs) h in
    let one : is_bare_byte b ≡ true = letter_bare b t.0 in
    rw (one, letters_bare bs t.1) refl

bare : (text : List ℕ) → IsTypeText text → is_bare text ≡ true
bare text h =
    let some : 1 ≤ length text = h.some in
    let filled : (length text == 0) ≡ false = grind (arith, nat_tests) in
    rw (filled, letters_bare text h.each) refl

type_adds : (ppt : Option (List ℕ)) → IfSome ppt IsTypeText → length (param_text (codes ";ppt=") ppt) ≡ type_size ppt
type_adds None h = refl
type_adds (Some text) h =
    let as_it_is : value_text text ≡ text = rw (bare text h) refl in
    ap (λ x. length (codes ";ppt=" ++ x)) as_it_is ∙ length-append (codes ";ppt=") text

value_size : FullSize → CompactSize → (shape : Shape) (claims : ClaimsView) (signature : List ℕ) → claims.kind ≡ kind_of shape → IsSignature signature
    → length (value_of shape claims signature) + 12 ≡ line_size shape (length (signing_of claims)) (length claims.x5u)
value_size full compact (shapes.Full kind) claims signature k s =
    let ppt : length (param_text (codes ";ppt=") (ppt_of claims.kind)) ≡ type_size (ppt_of kind) = ap (λ x. length (param_text (codes ";ppt=") (ppt_of x))) k ∙ type_adds (ppt_of kind) (type_text kind) in
    omega (arith, full (signing_of claims) signature s, spelled_size (full_text (signing_of claims) signature) claims.x5u (ppt_of claims.kind), ppt)
value_size full compact shapes.Compact claims signature k s =
    let ppt : length (param_text (codes ";ppt=") (ppt_of claims.kind)) ≡ 0 = ap (λ x. length (param_text (codes ";ppt=") (ppt_of x))) k in
    omega (arith, compact signature s, spelled_size (compact_text signature) claims.x5u (ppt_of claims.kind), ppt)

-- the message with the field, for each signature
pub size_of : FullSize → CompactSize → (bytes : List ℕ) (shape : Shape) (claims : ClaimsView) (signature : List ℕ) → claims.kind ≡ kind_of shape → IsSignature signature
    → length (with_line bytes field_name (value_of shape claims signature)) ≡ length bytes + line_size shape (length (signing_of claims)) (length claims.x5u)
size_of full compact bytes shape claims signature k s = omega (arith, line_is bytes (value_of shape claims signature), value_size full compact shape claims signature k s)

-- the test by the sizes is that of the definition
pub too_long : FullSize → CompactSize → (bytes : List ℕ) (order : OrderView) (signing : List ℕ) (claims : ClaimsView) → IsFor order claims → signing ≡ signing_of claims
    → nat_lt 65535 (length bytes + line_size order.shape (length signing) (length order.x5u)) ≡ is_too_long bytes order.shape claims
too_long full compact bytes order signing claims f e =
    ap (nat_lt 65535)
    (ap (λ x. length bytes + line_size order.shape (length x) (length order.x5u)) e
    ∙ ap (λ x. length bytes + line_size order.shape (length (signing_of claims)) (length x)) (sym f.x5u)
    ∙ sym (size_of full compact bytes order.shape claims no_signature f.kind none_signature))

-- if it isn't too long, it isn't with any signature
pub has_room : FullSize → CompactSize → (bytes : List ℕ) (shape : Shape) (claims : ClaimsView) (signature : List ℕ) → claims.kind ≡ kind_of shape → IsSignature signature
    → is_too_long bytes shape claims ≡ false → length (with_line bytes field_name (value_of shape claims signature)) ≤ 65535
has_room full compact bytes shape claims signature k s e =
    let zero_size = size_of full compact bytes shape claims no_signature k none_signature in
    let own_size = size_of full compact bytes shape claims signature k s in
    let short : length (with_line bytes field_name (value_of shape claims no_signature)) ≤ 65535 = grind (arith, nat_tests, e) in
    omega (arith, zero_size, own_size, short)

-- and if it is, it is with each
pub has_none : FullSize → CompactSize → (bytes : List ℕ) (shape : Shape) (claims : ClaimsView) (signature : List ℕ) → claims.kind ≡ kind_of shape → IsSignature signature
    → is_too_long bytes shape claims ≡ true → 65535 < length (with_line bytes field_name (value_of shape claims signature))
has_none full compact bytes shape claims signature k s e =
    let zero_size = size_of full compact bytes shape claims no_signature k none_signature in
    let own_size = size_of full compact bytes shape claims signature k s in
    let long : 65535 < length (with_line bytes field_name (value_of shape claims no_signature)) = grind (arith, nat_tests, e) in
    omega (arith, zero_size, own_size, long)

-- ---- what the code asks for

pub uri_short : (order : OrderView) → IsTrue (is_order order) → length order.x5u ≤ 2048
unfolding is_uri
uri_short order h =
    let uri : IsTrue (is_uri order.x5u) = (order_parts order h).uri in
    let t = and_parts (nat_le 1 (length order.x5u) && nat_le (length order.x5u) 2048) (list_all is_uri_byte order.x5u) uri in
    let s = and_parts (nat_le 1 (length order.x5u)) (nat_le (length order.x5u) 2048) t.0 in
    grind (arith, nat_tests, s.1)

pub signing_short : FullSize → (order : OrderView) (claims : ClaimsView) → IsTrue (is_order order) → IsFor order claims → IsSignable claims → length (signing_of claims) ≤ 8192
signing_short full order claims h f s =
    let uri : IsTrue (is_uri claims.x5u) = subst (λ (x : List ℕ). IsTrue (is_uri x)) (sym f.x5u) (order_parts order h).uri in
    omega (arith, full (signing_of claims) no_signature none_signature, (s.fits no_signature none_signature uri f.called).within)

-- a field that the message has room for is added without a fault
pub added_again : (bytes value : List ℕ) → HasRoomFor bytes value → added bytes field_name value ≡ Ok (with_line bytes field_name value)
unfolding added
added_again bytes value r =
    let short : nat_le (length (with_line bytes field_name value)) 65535 ≡ true = let l = r.short in grind (arith, nat_tests) in
    ap (λ (m : Result MessageView FormFault). sized_or_fault m (with_line bytes field_name value)) r.read_as ∙ rw short refl

pub never_faulty : (bytes value : List ℕ) (fault : FormFault) → HasRoomFor bytes value → added bytes field_name value ≡ Err fault → ⊥
never_faulty bytes value fault r e = let k = added_again bytes value r in absurd cc

pub same_bytes_out : (bytes value out : List ℕ) → HasRoomFor bytes value → added bytes field_name value ≡ Ok out → with_line bytes field_name value ≡ out
same_bytes_out bytes value out r e = let k = added_again bytes value r in cc
