-- A certificate is what is read of its bytes, and is read as it is.
use Rattle.std.proofs.Common.{◌≡◌, ◌≢◌, ℕ, ◌+◌, ◌≤◌, Bool, true, false, cond, List, [], ◌∷◌, ◌++◌, length, drop, nat_eq, nat_lt, bit_and, Result, Ok, Err, IfOk, refl, sym, ap, subst, ◌∙◌, append-nil, arith, lit<, length-append, length-drop, inl, inr}
use Rattle.std.proofs.lemmas.Bool.Decides.{nat_tests}
use Rattle.std.proofs.lemmas.Slice.Eq.{starts_is}
use Rattle.std.specs.Cmp.{unsigned_Decides}
use Rattle.std.specs.List.{starts_with}
use Rattle.std.specs.Str.{bytes_eq}
use Rattle.lists.specs.Steps.{◌>>=◌}
use Rattle.lists.proofs.Bytes.{bytes_same, same_bytes}
use Rattle.lists.proofs.StepLaws.{after, inside}
use Rattle.der_reader.specs.declared.part.Fault.{Fault}
use Rattle.der_reader.specs.Elem.{AllBytes, Elem, length_text, Element}
use Rattle.der_reader.specs.Part.{ItemView, PartView, element_at, item_at, item_in, or_broken, whole_text, at_kind}
use Rattle.der_reader.proofs.PartLaws.{Begins, alone, element_alone, element_stands, ended, item_alone, item_stands, kept, ok_is}
use Rattle.x509_profile.specs.declared.fault.CertFault.{CertFault}
use Rattle.x509_profile.specs.declared.fault.CertFault.TheVariants.{At, Memory}
use Rattle.x509_profile.specs.Cert.{Cert, SignedText}
use Rattle.x509_profile.specs.Contents.{signature_of, validity_of}
use Rattle.x509_profile.specs.Extensions.{ended_at, optional_in}
use Rattle.x509_profile.specs.Fault.{Gives, fault_at}
use Rattle.x509_profile.specs.Parts.{AnyElement, KeyText, SignatureText}
use Rattle.x509_profile.specs.Read.{behind_text, outer_in, parts_in, point_in, read_certificate, signature_in, tbs_in}
use Rattle.x509_profile.specs.Text.{algorithm_text, is_key, key_front, version_text}
use Rattle.x509_profile.specs.View.{CertView, TbsView, tbs_with}
use Rattle.x509_profile.proofs.ContentLaws.{signature_again, signature_found, validity_again, validity_found}
use Rattle.x509_profile.proofs.ExtensionLaws.{extensions_again, extensions_read}
use Rattle.der_reader.specs.Broken.{Behind, First, Followed, IsTagged, LeftOver, Unless}
use Rattle.der_reader.specs.Tags.{integer_tag, bit_string_tag, sequence_tag}
use Rattle.der_reader.proofs.ReadLaws.{Reads, broken_reads, element_reads, end_reads, in_order, item_reads, last_reads, reads_as, test_reads, through_reads}
use Rattle.der_reader.proofs.BrokenLaws.{Tells, end_tells, same_fault}
use Rattle.der_reader.proofs.NextLaws.{front_short}
use Rattle.x509_profile.specs.Refused.{IsKey, IsRefused, IsSignature, IsSigned, IsText, IsValidity, Refused, WrongCertificate, WrongSignature, WrongSigned}
use Rattle.x509_profile.specs.WrongExtensions.{WrongExtensions}

-- ---- a text that is always the same

text_reads : {A : Type 0} (text : List ℕ) (kind : ℕ) (part : PartView) (next : PartView → Result A Fault) (Good : A → Type 0) (Wrong : PartView → Fault → Type 0)
    → AllBytes part.left → ((behind : PartView) → (part.left ≡ text ++ behind.left) × AllBytes behind.left → Reads (next behind) Good (Wrong behind))
    → Reads (behind_text text kind part >>= next) Good (Followed (IsText text) kind Wrong part)
unfolding behind_text
text_reads text kind part next Good Wrong b reads =
    reads_as _ _ Good _ (in_order (item_at part) _ next)
    (item_reads part _ Good _ b (λ item is.
    test_reads (bytes_eq item.whole text) item.behind item kind next Good (IsText text) (Behind Wrong)
    (bytes_same item.whole text, λ e. ap (λ w. bytes_eq w text) e ∙ same_bytes text)
    (λ t. reads item.behind (is.split ∙ ap (λ w. w ++ item.behind.left) (bytes_same item.whole text t), is.behind_bytes))))

text_again : (text : List ℕ) (kind tag : ℕ) (content rest : List ℕ) (place : ℕ) → Elem text tag content
    → behind_text text kind (record { left = text ++ rest; place = place }) ≡ Ok (record { left = rest; place = place + length text })
unfolding behind_text
text_again text kind tag content rest place elem =
    after (item_at (record { left = text ++ rest; place = place })) _ _ _ (item_stands tag text content rest place elem)
    (rw (same_bytes text) refl)

-- the tag of a SEQUENCE has no number in further bytes, and that of a version neither
sequence_low : bit_and sequence_tag 0x1F ≢ 0x1F
sequence_low e = let k : ◌≡◌ {A = ℕ} 16 31 = e in omega arith

version_tag : bit_and 0xA0 0x1F ≢ 0x1F
version_tag e = let k : ◌≡◌ {A = ℕ} 0 31 = e in omega arith

version_elem : Elem version_text 0xA0 (0x02 ∷ 0x01 ∷ 0x02 ∷ [])
unfolding length_text
version_elem = record { low_tag = version_tag; size = lit< tt; text = refl }

pub algorithm_elem : Elem algorithm_text sequence_tag (drop 2 algorithm_text)
unfolding length_text
algorithm_elem = record { low_tag = sequence_low; size = lit< tt; text = refl }

-- ---- the key

pub is_key_text : (text : List ℕ) → is_key text ≡ true → KeyText text (drop 26 text)
is_key_text text e =
    let size : length text ≡ 91 = grind (arith, nat_tests) in
    let front : starts_with nat_eq text key_front ≡ true = grind (arith, nat_tests) in
    let form : text ≡ key_front ++ drop 27 text = (starts_is unsigned_Decides text key_front (starts_with nat_eq text key_front) refl).0 front in
    record {
      coordinates = drop 27 text;
      form = form;
      size = omega (arith, length-drop {A = ℕ} 27 text);
      value = ap (drop 26) form;
    }

pub key_test : (text point : List ℕ) → KeyText text point → is_key text ≡ true
key_test text point k =
    let front : starts_with nat_eq text key_front ≡ true = (starts_is unsigned_Decides text key_front (starts_with nat_eq text key_front) refl).1 k.coordinates k.form in
    let size : length text ≡ 91 = omega (arith, ap length k.form, length-append key_front k.coordinates, k.size) in
    grind (arith, nat_tests)

short_length : length_text 89 ≡ 0x59 ∷ []
unfolding length_text
short_length = refl

key_elem : (text point : List ℕ) → (k : KeyText text point) → Elem text sequence_tag (drop 2 key_front ++ k.coordinates)
key_elem text point k =
    let size : length (drop 2 key_front ++ k.coordinates) ≡ 89 = length-append (drop 2 key_front) k.coordinates ∙ ap (λ n. 25 + n) k.size in
    record {
      low_tag = sequence_low;
      size = omega (arith, size);
      text = k.form ∙ ap (λ l. 0x30 ∷ (l ++ (drop 2 key_front ++ k.coordinates))) (sym (ap length_text size ∙ short_length));
    }

key_point : (text point : List ℕ) → KeyText text point → drop 26 text ≡ point
key_point text point k = ap (drop 26) k.form ∙ sym k.value

-- ---- the signed part

any_elem : (tag : ℕ) (part : PartView) (item : ItemView) → Begins part item × (item.tag ≡ tag) → Elem item.whole tag item.content.left
any_elem tag part item b = subst (λ n. Elem item.whole n item.content.left) b.1 b.0.elem

any : (tag : ℕ) (part : PartView) (item : ItemView) → Begins part item × (item.tag ≡ tag) → AnyElement item.whole tag
any tag part item b = record { content = item.content.left; elem = any_elem tag part item b }

-- what is there is the signed part that is read, or something is wrong there
pub signed_reads : (part : PartView) → AllBytes part.left → Reads (tbs_in part) (SignedText part.left) (WrongSigned part)
unfolding tbs_in
signed_reads part b =
    text_reads version_text 2 part _ _ _ b (λ after_version version.
    element_reads integer_tag after_version _ _ _ version.1 (λ serial is_serial.
    text_reads algorithm_text 3 serial.behind _ _ _ is_serial.0.behind_bytes (λ after_algorithm algorithm.
    element_reads sequence_tag after_algorithm _ _ _ algorithm.1 (λ issuer is_issuer.
    item_reads issuer.behind _ _ _ is_issuer.0.behind_bytes (λ validity is_validity.
    broken_reads (validity_of validity.whole) validity 5 _ _ IsValidity (Behind (Followed (IsTagged sequence_tag) 1 (Followed IsKey 4 WrongExtensions)))
    (λ times w. (
      (times.not_before, times.not_after, validity_found validity.whole times is_validity.whole_bytes w),
      element_reads sequence_tag validity.behind _ _ (Behind (Followed IsKey 4 WrongExtensions)) is_validity.behind_bytes (λ subject is_subject.
          item_reads subject.behind _ _ (Unless IsKey 4 (Behind WrongExtensions)) is_subject.0.behind_bytes (λ key has_key.
          test_reads (is_key key.whole) (drop 26 key.whole) key 4 _ _ IsKey (Behind WrongExtensions)
          (λ t. (drop 26 key.whole, is_key_text key.whole t), λ k. key_test key.whole k.0 k.1) (λ t.
          last_reads (optional_in key.behind) _ _ (WrongExtensions key.behind) (extensions_read key.behind has_key.behind_bytes).tells (λ values x. record {
            serial = serial.whole;
            issuer = issuer.whole;
            validity = validity.whole;
            times = times;
            subject = subject.whole;
            key = key.whole;
            point = drop 26 key.whole;
            extensions = key.behind.left;
            values = values;
            form =
                version.0 ∙ ap (λ r. version_text ++ r) (is_serial.0.split ∙ ap (λ r. serial.whole ++ r) (algorithm.0 ∙ ap (λ r. algorithm_text ++ r)
                (is_issuer.0.split ∙ ap (λ r. issuer.whole ++ r) (is_validity.split ∙ ap (λ r. validity.whole ++ r)
                (is_subject.0.split ∙ ap (λ r. subject.whole ++ r) has_key.split)))));
            is_serial = any integer_tag after_version serial is_serial;
            is_issuer = any sequence_tag after_algorithm issuer is_issuer;
            is_validity = validity_found validity.whole times is_validity.whole_bytes w;
            is_subject = any sequence_tag validity.behind subject is_subject;
            is_key = is_key_text key.whole t;
            is_extensions = (extensions_read key.behind has_key.behind_bytes).found values x;
            says = refl;
          })))),
    ))
    (λ v. (record { not_before = v.0; not_after = v.1 }, validity_again validity.whole (record { not_before = v.0; not_after = v.1 }) v.2)))))))

pub signed_again : (content : List ℕ) (tbs : TbsView) (t : SignedText content tbs) (place : ℕ) → tbs_in (record { left = content; place = place }) ≡ Ok tbs
unfolding tbs_in
signed_again content tbs t place =
    let key_place : ℕ =
    place + length version_text + length t.serial + length algorithm_text + length t.issuer + length t.validity + length t.subject in
    let key : ItemView = item_in key_place (record { tag = sequence_tag; whole = t.key; content = drop 2 key_front ++ t.is_key.coordinates }) t.extensions in
    let point_is : point_in key ≡ Ok t.point = rw (key_test t.key t.point t.is_key) (ok_is _ _ (key_point t.key t.point t.is_key)) in
    ap (λ (l : List ℕ). tbs_in (record { left = l; place = place })) t.form
    ∙ after (behind_text version_text 2 _) _ _ _ (text_again version_text 2 0xA0 _ _ place version_elem)
    (after (element_at integer_tag _) _ _ _ (element_stands integer_tag t.serial _ _ _ t.is_serial.elem)
    (after (behind_text algorithm_text 3 _) _ _ _ (text_again algorithm_text 3 sequence_tag _ _ _ algorithm_elem)
    (after (element_at sequence_tag _) _ _ _ (element_stands sequence_tag t.issuer _ _ _ t.is_issuer.elem)
    (after (item_at _) _ _ _ (item_stands sequence_tag t.validity _ _ _ t.is_validity.both.elem)
    (after (or_broken (validity_of t.validity) _) t.times _ _ (kept (validity_of t.validity) _ t.times (validity_again t.validity t.times t.is_validity))
    (after (element_at sequence_tag _) _ _ _ (element_stands sequence_tag t.subject _ _ _ t.is_subject.elem)
    (after (item_at _) _ _ _ (item_stands sequence_tag t.key _ _ _ (key_elem t.key t.point t.is_key))
    (after (point_in key) t.point (λ point. optional_in key.behind >>= λ values. Ok (tbs_with t.issuer t.times t.subject point values)) _ point_is
    (after (optional_in key.behind) t.values (λ values. Ok (tbs_with t.issuer t.times t.subject t.point values)) _
    (extensions_again t.extensions key.behind.place t.values t.is_extensions) (ok_is _ _ (sym t.says)))))))))))

-- ---- the signature, which is the last part

signature_reads : (part : PartView) → AllBytes part.left → Reads (signature_in part) (SignatureText part.left) (WrongSignature part)
unfolding signature_in
signature_reads part b =
    item_reads part _ _ _ b (λ item is.
    broken_reads (signature_of item.whole) item 9 _ _ (λ item. IsSignature item.whole) (Behind LeftOver)
    (λ numbers n.
    let text : SignatureText item.whole numbers = signature_found item.whole numbers is.whole_bytes n in (
      (numbers, text),
      end_reads item.behind numbers _ (λ none.
          let whole : item.whole ≡ part.left = sym (is.split ∙ ap (λ r. item.whole ++ r) none ∙ append-nil item.whole) in
          subst (λ w. SignatureText w numbers) whole text),
    ))
    (λ s. (s.0, signature_again item.whole s.0 s.1)))

pub signature_read : (text signature : List ℕ) (place : ℕ) → SignatureText text signature → signature_in (record { left = text; place = place }) ≡ Ok signature
unfolding signature_in
signature_read text signature place t =
    after (item_at (record { left = text; place = place })) _ _ _ (item_alone bit_string_tag text t.content place t.elem)
    (after (or_broken (signature_of text) (fault_at 9 place)) signature _ (Ok signature)
    (kept (signature_of text) (fault_at 9 place) signature (signature_again text signature t)) refl)

-- ---- the whole

parts_read : (all : List ℕ) (outer : ItemView) → length all ≤ 8192 → Begins (whole_text all) outer × (outer.tag ≡ sequence_tag)
    → Reads (parts_in all outer) (Cert all) (WrongCertificate outer)
parts_read all outer size is_outer =
    element_reads sequence_tag outer.content _ _ _ is_outer.0.content_bytes (λ signed is_signed.
    let parts = signed_reads signed.content is_signed.0.content_bytes in
    through_reads (tbs_in signed.content) signed.content _ _ WrongSigned IsSigned _ parts.tells
    (λ tbs t. (
      (tbs, parts.found tbs t),
      text_reads algorithm_text 3 signed.behind _ _ _ is_signed.0.behind_bytes (λ last is_last.
          let numbers = signature_reads last is_last.1 in
          through_reads (signature_in last) last _ _ WrongSignature IsSignature _ numbers.tells
          (λ signature s. (
            (signature, numbers.found signature s),
            last_reads (ended_at outer.behind) _ _ (LeftOver outer.behind) (end_tells outer.behind (tt {0})) (λ done d. record {
              size = size;
              signed = signed.whole;
              content = signed.content.left;
              tbs = tbs;
              last = last.left;
              signature = signature;
              elem = subst (Elem all sequence_tag) (is_signed.0.split ∙ ap (λ r. signed.whole ++ r) is_last.0)
                  (alone sequence_tag (whole_text all) outer is_outer (ended outer.behind (tt {0}) done d).0);
              signed_elem = any_elem sequence_tag outer.content signed is_signed;
              parts = parts.found tbs t;
              is_signature = numbers.found signature s;
              says = refl;
            }),
          ))
          (λ s. (s.0, signature_read last.left s.0 last.place s.1))),
    ))
    (λ s. (s.0, signed_again signed.content.left s.0 s.1 signed.content.place)))

-- The certificate that is read is the one that the bytes are, and a fault is the first of theirs.
certificate_reads : (all : List ℕ) → AllBytes all → Reads (read_certificate all) (Cert all) (Refused all)
unfolding read_certificate outer_in
certificate_reads all b = by_size (nat_lt 8192 (length all)) refl
  where
    within : length all ≤ 8192 → Reads (element_at sequence_tag (whole_text all) >>= parts_in all) (Cert all) (First (Unless (IsTagged sequence_tag) 1 WrongCertificate) (whole_text all))
    within few = element_reads sequence_tag (whole_text all) _ _ _ b (λ outer is. parts_read all outer few is)

    by_size : (t : Bool) → nat_lt 8192 (length all) ≡ t
        → Reads (cond t (Err (at_kind 1 8192)) (element_at sequence_tag (whole_text all)) >>= parts_in all) (Cert all) (Refused all)
    by_size true t = record {
      found = λ c e. absurd cc;
      tells = λ fault. (
        λ e. inl (grind (arith, nat_tests, t), sym (same_fault _ _ e)),
        λ w. elim w [
          | inl over ↦ ap (λ f. let r : Result CertView Fault = Err f in r) (sym over.1)
          | inr few ↦ absurd (grind (arith, nat_tests, t, few.0))
        ],
      );
    }
    by_size false t =
        let few : length all ≤ 8192 = grind (arith, nat_tests, t) in
        let reads = within few in
        record {
          found = reads.found;
          tells = λ fault. (
            λ e. inr (few, (reads.tells fault).0 e),
            λ w. elim w [ inl over ↦ absurd (grind (arith, nat_tests, t, over.0)) | inr some ↦ (reads.tells fault).1 some.1 ],
          );
        }

pub cert_found : (all : List ℕ) (c : CertView) → AllBytes all → read_certificate all ≡ Ok c → Cert all c
cert_found all c b = (certificate_reads all b).found c

pub certificate_tells : (all : List ℕ) → AllBytes all → Tells (read_certificate all) (Refused all)
certificate_tells all b = (certificate_reads all b).tells

-- The certificate that the bytes are is the one that is read.
pub cert_again : (all : List ℕ) (c : CertView) → Cert all c → read_certificate all ≡ Ok c
unfolding read_certificate outer_in
cert_again all c t =
    let few : nat_lt 8192 (length all) ≡ false = grind (arith, nat_tests, t.size) in
    let outer : ItemView = item_in 0 (record { tag = sequence_tag; whole = all; content = t.signed ++ (algorithm_text ++ t.last) }) [] in
    after (outer_in all) outer _ _ (rw few (element_alone sequence_tag all (t.signed ++ (algorithm_text ++ t.last)) 0 t.elem))
    (after (element_at sequence_tag _) _ _ _ (element_stands sequence_tag t.signed t.content (algorithm_text ++ t.last) _ t.signed_elem)
    (after (tbs_in _) _ _ _ (signed_again t.content t.tbs t.parts _)
    (after (behind_text algorithm_text 3 _) _ _ _ (text_again algorithm_text 3 sequence_tag (drop 2 algorithm_text) t.last _ algorithm_elem)
    (after (signature_in _) t.signature _ _ (signature_read t.last t.signature _ t.is_signature) (ok_is _ _ (sym t.says))))))

-- it has all bytes
pub whole_is : (all : List ℕ) (c : CertView) → Cert all c → c.whole ≡ all
whole_is all c t = ap (λ (c : CertView). c.whole) t.says

-- At most one certificate fits.
pub one_certificate : (all : List ℕ) (a b : CertView) → Cert all a → Cert all b → a ≡ b
one_certificate all a b x y = inside a b (sym (cert_again all a x) ∙ cert_again all b y)

-- ---- the same of an answer

pub answer_found : (all : List ℕ) (r : Result CertView CertFault) → AllBytes all → Gives (λ c. c) r (read_certificate all) → IfOk r (Cert all)
answer_found all (Ok c) b e = cert_found all c b e
answer_found all (Err (At kind place)) b e = tt
answer_found all (Err Memory) b e = tt

pub answer_only : (all : List ℕ) (r : Result CertView CertFault) (c : CertView) → Gives (λ c. c) r (read_certificate all) → Cert all c
    → Gives (λ c. c) r (Ok c)
answer_only all (Ok d) c e x = sym (cert_again all c x) ∙ e
answer_only all (Err (At kind place)) c e x = sym (cert_again all c x) ∙ e
answer_only all (Err Memory) c e x = tt

-- ---- the same of an answer

pub answer_refused : (all : List ℕ) (r : Result CertView CertFault) (fault : Fault) → AllBytes all → Gives (λ c. c) r (read_certificate all) → Refused all fault
    → Gives (λ c. c) r (Err fault)
answer_refused all r fault b g w = subst (λ read. Gives (λ c. c) r read) ((certificate_tells all b fault).1 w) g

pub answer_only_refused : (all : List ℕ) (r : Result CertView CertFault) → AllBytes all → Gives (λ c. c) r (read_certificate all) → IsRefused all r
answer_only_refused all (Ok c) b g = tt
answer_only_refused all (Err (At kind place)) b g = (certificate_tells all b (at_kind kind place)).0 g
answer_only_refused all (Err Memory) b g = tt

-- ---- a prefix of a certificate, and a certificate with bytes after it

zero_add : (n : ℕ) → 0 + n ≡ n
zero_add n = omega arith

pub cut_short : (all more : List ℕ) (whole : List ℕ) (c : CertView) → Cert whole c → whole ≡ all ++ more → 1 ≤ length more → read_certificate all ≡ Err (at_kind 1 (length all))
unfolding read_certificate outer_in element_at item_at
cut_short all more whole c t split some =
    let few : nat_lt 8192 (length all) ≡ false = grind (arith, nat_tests, t.size, ap length split, length-append all more) in
    rw (few, front_short sequence_tag whole _ all more t.elem split some) (ap (λ n. let r : Result CertView Fault = Err (at_kind 1 n) in r) (zero_add (length all)))

pub left_over : (all whole more : List ℕ) (c : CertView) → AllBytes all → Cert whole c → all ≡ whole ++ more → 1 ≤ length more → length all ≤ 8192
    → read_certificate all ≡ Err (at_kind 1 (length whole))
left_over all whole more c b t split some few =
    let element : Element = record { tag = sequence_tag; whole = whole; content = t.signed ++ (algorithm_text ++ t.last) } in
    let signed : Element = record { tag = sequence_tag; whole = t.signed; content = t.content } in
    let algorithm : Element = record { tag = sequence_tag; whole = algorithm_text; content = drop 2 algorithm_text } in
    (certificate_tells all b (at_kind 1 (length whole))).1 (inr (
      few,
      inr (record {
        element = element;
        rest = more;
        begins = record { elem = t.elem; split = split };
        wrong = inr (
          refl,
          inr (record {
            element = signed;
            rest = algorithm_text ++ t.last;
            begins = record { elem = t.signed_elem; split = refl };
            wrong = inr (
              refl,
              inr (
                (t.tbs, t.parts),
                inr (record {
                  element = algorithm;
                  rest = t.last;
                  begins = record { elem = algorithm_elem; split = refl };
                  wrong = inr (refl, inr ((t.signature, t.is_signature), (some, ap (at_kind 1) (sym (zero_add (length whole))))));
                }),
              ),
            );
          }),
        );
      }),
    ))
