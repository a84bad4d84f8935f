-- What is within a part of a certificate is what is read of it, and is read as it is.
use Rattle.std.proofs.Common.{◌≡◌, ℕ, ◌==◌, List, [], ◌∷◌, ◌++◌, length, Option, Ok, refl, sym, ap, subst, ◌∙◌, arith, suc}
use Rattle.std.proofs.lemmas.Bool.Decides.{nat_tests}
use Rattle.lists.proofs.Bytes.{no_byte}
use Rattle.lists.proofs.StepLaws.{after, came, inside, taken}
use Rattle.der_reader.specs.BitString.{bits_of, flags_of}
use Rattle.der_reader.specs.Elem.{AllBytes, BeginsWith, Elem, MayBeginWith}
use Rattle.der_reader.specs.Fault.{bad_value}
use Rattle.der_reader.specs.Integer.{scalar_of}
use Rattle.der_reader.specs.Next.{next_at, optional_at, pair_at, sole_at}
use Rattle.der_reader.specs.Time.{time_of}
use Rattle.der_reader.proofs.ElementLaws.{bits_again, bits_found}
use Rattle.der_reader.proofs.NextLaws.{next_found, parts_are_bytes}
use Rattle.der_reader.proofs.OptionalLaws.{flag_again, flag_found, limit_again, limit_found, optional_again, optional_found}
use Rattle.der_reader.proofs.PartLaws.{came_by, next_stands, ok_is, pair_again, pair_found, sole_again, sole_found}
use Rattle.der_reader.proofs.TimeLaws.{time_again, time_found}
use Rattle.x509_profile.specs.Contents.{ExtensionRead, authority_of, basic_of, extension_of, extension_view, signature_of, subject_key_of, usage_of, validity_of}
use Rattle.der_reader.specs.Optional.{flag_of, limit_of}
use Rattle.der_reader.specs.Tags.{boolean_tag, integer_tag, bit_string_tag, octet_string_tag, object_identifier_tag, sequence_tag}
use Rattle.x509_profile.specs.Extended.{AuthorityText, BasicText, ExtensionText, SubjectKeyText, UsageText, key_identifier_tag}
use Rattle.x509_profile.specs.Parts.{SignatureText, ValidityText}
use Rattle.x509_profile.specs.View.{BasicView, ExtensionView, ValidityView}

-- ---- basicConstraints

pub basic_found : (value : List ℕ) (basic : BasicView) → AllBytes value → basic_of value ≡ Ok basic → BasicText value basic
unfolding basic_of
basic_found value basic b e =
    came_by (sole_at sequence_tag value) _ basic e (λ sequence r e.
    let is = sole_found sequence_tag value sequence b r in
    came_by (optional_at boolean_tag sequence.content) _ basic e (λ flag f e.
    let first = optional_found boolean_tag sequence.content flag is.content_bytes f in
    came_by (optional_at integer_tag flag.1) _ basic e (λ limit l e.
    came_by (flag_of flag.0) _ basic e (λ is_ca t e.
    came_by (limit_of limit.0) _ basic e (λ path_length n e.
    let end = taken (length limit.1 == 0) (record { is_ca = is_ca; path_length = path_length }) basic bad_value e in
    subst (BasicText value) end.1 (record {
      content = sequence.content;
      flag = flag.0;
      behind = flag.1;
      limit = limit.0;
      elem = is.elem;
      first = first.begins;
      second = subst (MayBeginWith integer_tag flag.1 limit.0) (no_byte limit.1 end.0) (optional_found integer_tag flag.1 limit first.rest_bytes l).begins;
      is_ca = flag_found flag.0 is_ca t;
      path_length = limit_found limit.0 path_length n;
    }))))))

pub basic_again : (value : List ℕ) (basic : BasicView) → BasicText value basic → basic_of value ≡ Ok basic
unfolding basic_of
basic_again value basic t =
    after (sole_at sequence_tag value) _ _ _ (sole_again sequence_tag value t.content t.elem)
    (after (optional_at boolean_tag t.content) _ _ _ (optional_again boolean_tag t.content t.flag t.behind t.first)
    (after (optional_at integer_tag t.behind) _ _ _ (optional_again integer_tag t.behind t.limit [] t.second)
    (after (flag_of t.flag) basic.is_ca _ _ (flag_again t.content t.behind t.flag basic.is_ca t.first t.is_ca)
    (after (limit_of t.limit) basic.path_length _ (Ok basic) (limit_again t.behind [] t.limit basic.path_length t.second t.path_length) refl))))

-- ---- keyUsage and subjectKeyIdentifier

pub usage_found : (value : List ℕ) (usage : ℕ) → AllBytes value → usage_of value ≡ Ok usage → UsageText value usage
unfolding usage_of
usage_found value usage b e =
    let a = came (sole_at bit_string_tag value) _ usage e in
    let s = sole_found bit_string_tag value a.0 b a.1 in
    record { content = a.0.content; elem = s.elem; flags = ap (λ t. flags_of t a.0.content) (sym s.tagged) ∙ a.2 }

pub usage_again : (value : List ℕ) (usage : ℕ) → UsageText value usage → usage_of value ≡ Ok usage
unfolding usage_of
usage_again value usage t = after (sole_at bit_string_tag value) _ _ _ (sole_again bit_string_tag value t.content t.elem) t.flags

pub subject_key_found : (value key : List ℕ) → AllBytes value → subject_key_of value ≡ Ok key → SubjectKeyText value key
unfolding subject_key_of
subject_key_found value key b e =
    let a = came (sole_at octet_string_tag value) _ key e in
    subst (SubjectKeyText value) (inside _ _ a.2) (record { elem = (sole_found octet_string_tag value a.0 b a.1).elem })

pub subject_key_again : (value key : List ℕ) → SubjectKeyText value key → subject_key_of value ≡ Ok key
unfolding subject_key_of
subject_key_again value key t = after (sole_at octet_string_tag value) _ _ _ (sole_again octet_string_tag value key t.elem) refl

-- ---- authorityKeyIdentifier

pub authority_found : (value : List ℕ) (key : Option (List ℕ)) → AllBytes value → authority_of value ≡ Ok key → AuthorityText value key
unfolding authority_of
authority_found value key b e =
    came_by (sole_at sequence_tag value) _ key e (λ sequence r e.
    let is = sole_found sequence_tag value sequence b r in
    came_by (optional_at key_identifier_tag sequence.content) _ key e (λ first f e. record {
      content = sequence.content;
      identifier = first.0;
      passed_over = first.1;
      elem = is.elem;
      first = (optional_found key_identifier_tag sequence.content first is.content_bytes f).begins;
      says = sym (inside _ _ e);
    }))

pub authority_again : (value : List ℕ) (key : Option (List ℕ)) → AuthorityText value key → authority_of value ≡ Ok key
unfolding authority_of
authority_again value key t =
    after (sole_at sequence_tag value) _ _ _ (sole_again sequence_tag value t.content t.elem)
    (after (optional_at key_identifier_tag t.content) _ _ _ (optional_again key_identifier_tag t.content t.identifier t.passed_over t.first) (ok_is _ _ (sym t.says)))

-- ---- an extension

-- the text is an extension, and its content is bytes
pub record ReadOf (text : List ℕ) (read : ExtensionRead) : Type 0 where
  pub text_is : ExtensionText text (extension_view read)
  pub bytes : AllBytes read.octets.content

pub extension_found : (text : List ℕ) (read : ExtensionRead) → AllBytes text → extension_of text ≡ Ok read → ReadOf text read
unfolding extension_of
extension_found text read b e =
    came_by (sole_at sequence_tag text) _ read e (λ sequence r e.
    let is = sole_found sequence_tag text sequence b r in
    came_by (next_at sequence.content) _ read e (λ oid o e.
    let begins : BeginsWith sequence.content oid.0 oid.1 = next_found sequence.content oid is.content_bytes o in
    came_by (optional_at boolean_tag oid.1) _ read e (λ flag f e.
    let second = optional_found boolean_tag oid.1 flag (parts_are_bytes sequence.content oid.0 oid.1 is.content_bytes begins).1 f in
    came_by (flag_of flag.0) _ read e (λ critical t e.
    came_by (sole_at octet_string_tag flag.1) _ read e (λ octets v e.
    let value = sole_found octet_string_tag flag.1 octets second.rest_bytes v in
    let end = taken (oid.0.tag == object_identifier_tag) (record { oid = oid.0.content; critical = critical; octets = octets }) read bad_value e in
    let named : oid.0.tag ≡ object_identifier_tag = grind (arith, nat_tests, end.0) in
    subst (ReadOf text) end.1 (record {
      text_is = record {
        oid = oid.0.whole;
        behind = oid.1;
        flag = flag.0;
        value = flag.1;
        elem = subst (Elem text sequence_tag) begins.split is.elem;
        named = subst (λ n. Elem oid.0.whole n oid.0.content) named begins.elem;
        second = second.begins;
        critical = flag_found flag.0 critical t;
        content = value.elem;
      };
      bytes = value.content_bytes;
    }))))))

-- the extension of a text, with the place of its content
abbrev pub opened : (text : List ℕ) (view : ExtensionView) → ExtensionText text view → ExtensionRead
opened text view t = record {
  oid = view.oid;
  critical = view.critical;
  octets = record { tag = octet_string_tag; whole = t.value; content = view.value };
}

pub extension_again : (text : List ℕ) (view : ExtensionView) (t : ExtensionText text view) → extension_of text ≡ Ok (opened text view t)
unfolding extension_of
extension_again text view t =
    after (sole_at sequence_tag text) _ _ _ (sole_again sequence_tag text (t.oid ++ t.behind) t.elem)
    (after (next_at (t.oid ++ t.behind)) _ _ _ (next_stands object_identifier_tag t.oid view.oid t.behind t.named)
    (after (optional_at boolean_tag t.behind) _ _ _ (optional_again boolean_tag t.behind t.flag t.value t.second)
    (after (flag_of t.flag) view.critical _ _ (flag_again t.behind t.value t.flag view.critical t.second t.critical)
    (after (sole_at octet_string_tag t.value) _ _ _ (sole_again octet_string_tag t.value view.value t.content) refl))))

-- ---- a validity

pub validity_found : (text : List ℕ) (v : ValidityView) → AllBytes text → validity_of text ≡ Ok v → ValidityText text v.not_before v.not_after
unfolding validity_of
validity_found text v b e =
    came_by (pair_at text) _ v e (λ both p e.
    came_by (time_of both.0.tag both.0.content) _ v e (λ not_before x e.
    came_by (time_of both.1.tag both.1.content) _ v e (λ not_after y e.
    let P : ValidityView → Type 0 = λ v. ValidityText text v.not_before v.not_after in
    subst P (inside _ _ e) (record {
      first = both.0;
      second = both.1;
      both = (pair_found text both b p).is;
      from = time_found both.0.tag both.0.content not_before x;
      until = time_found both.1.tag both.1.content not_after y;
    }))))

pub validity_again : (text : List ℕ) (v : ValidityView) → ValidityText text v.not_before v.not_after → validity_of text ≡ Ok v
unfolding validity_of
validity_again text v t =
    after (pair_at text) _ _ _ (pair_again text t.first t.second t.both)
    (after (time_of t.first.tag t.first.content) v.not_before _ _ (time_again t.first.tag t.first.content v.not_before t.from)
    (after (time_of t.second.tag t.second.content) v.not_after _ (Ok v) (time_again t.second.tag t.second.content v.not_after t.until) refl))

-- ---- a signature

pub signature_found : (text signature : List ℕ) → AllBytes text → signature_of text ≡ Ok signature → SignatureText text signature
unfolding signature_of
signature_found text signature b e =
    came_by (sole_at bit_string_tag text) _ signature e (λ string s e.
    let is = sole_found bit_string_tag text string b s in
    came_by (bits_of string.tag string.content) _ signature e (λ bits t e.
    let text_is = (bits_found string.tag string.content bits t).1 in
    let typed : AllBytes (0 ∷ bits) = subst AllBytes text_is.text is.content_bytes in
    came_by (pair_at bits) _ signature e (λ both p e.
    came_by (scalar_of both.0.tag both.0.content) _ signature e (λ r x e.
    came_by (scalar_of both.1.tag both.1.content) _ signature e (λ s y e. record {
      content = string.content;
      bits = bits;
      first = both.0;
      second = both.1;
      r = r;
      s = s;
      elem = is.elem;
      string = text_is;
      both = (pair_found bits both (λ i. typed (suc i)) p).is;
      is_r = x;
      is_s = y;
      value = sym (inside _ _ e);
    })))))

pub signature_again : (text signature : List ℕ) → SignatureText text signature → signature_of text ≡ Ok signature
unfolding signature_of
signature_again text signature t =
    after (sole_at bit_string_tag text) _ _ _ (sole_again bit_string_tag text t.content t.elem)
    (after (bits_of bit_string_tag t.content) t.bits _ _ (bits_again bit_string_tag t.content t.bits refl t.string)
    (after (pair_at t.bits) _ _ _ (pair_again t.bits t.first t.second t.both)
    (after (scalar_of t.first.tag t.first.content) t.r _ _ t.is_r
    (after (scalar_of t.second.tag t.second.content) t.s _ (Ok signature) t.is_s (ok_is _ _ (sym t.value))))))
