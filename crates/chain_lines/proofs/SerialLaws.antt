-- The serial number is the second element of the signed part.
use Rattle.std.proofs.Common.{◌≡◌, ℕ, List, [], ◌∷◌, ◌++◌, Result, Ok, Err, refl, sym, ◌∙◌, subst, arith, append-nil}
use Rattle.lists.proofs.StepLaws.{after}
use Rattle.der_reader.specs.Elem.{BeginsWith, Elem, Element, length_text}
use Rattle.der_reader.specs.Next.{next_at}
use Rattle.der_reader.specs.Tags.{integer_tag, sequence_tag}
use Rattle.der_reader.specs.declared.fault.DerFault.{DerFault}
use Rattle.x509_profile.specs.Cert.{Cert}
use Rattle.x509_profile.specs.Text.{algorithm_text, version_text}
use Rattle.x509_profile.specs.View.{CertView}
use Rattle.chain_lines.specs.Serial.{IsSerial, serial_in}

abbrev pub IsNext : Type 0
IsNext = (bytes : List ℕ) (element : Element) (rest : List ℕ) → BeginsWith bytes element rest → next_at bytes ≡ Ok (element, rest)

next_of : IsNext → (tag : ℕ) (text content rest bytes : List ℕ) → Elem text tag content → bytes ≡ text ++ rest → next_at bytes ≡ Ok (record { tag = tag; whole = text; content = content }, rest)
next_of again tag text content rest bytes elem split = again bytes (record { tag = tag; whole = text; content = content }) rest (record { elem = elem; split = split })

version_elem : Elem version_text 0xA0 (0x02 ∷ 0x01 ∷ 0x02 ∷ [])
unfolding length_text
version_elem = record { low_tag = λ (e : 0 ≡ 31). omega (arith, e); size = omega arith; text = refl }

serial_read : IsNext → (whole : List ℕ) (certificate : CertView) (text : Cert whole certificate) → serial_in whole ≡ Ok text.parts.is_serial.content
unfolding serial_in
serial_read again whole certificate text =
    after _ _ _ _ (next_of again sequence_tag whole (text.signed ++ (algorithm_text ++ text.last)) [] whole text.elem (sym (append-nil whole)))
    (after _ _ _ _ (next_of again sequence_tag text.signed text.content (algorithm_text ++ text.last) (text.signed ++ (algorithm_text ++ text.last)) text.signed_elem refl)
    (after _ _ _ _ (next_of again 0xA0 version_text (0x02 ∷ 0x01 ∷ 0x02 ∷ []) _ text.content version_elem text.parts.form)
    (after _ _ _ _ (next_of again integer_tag text.parts.serial text.parts.is_serial.content _ _ text.parts.is_serial.elem refl) refl)))

pub is_serial : IsNext → (certificate : CertView) (serial : List ℕ) → Cert certificate.whole certificate → Ok serial ≡ serial_in certificate.whole → IsSerial certificate serial
is_serial again certificate serial text read =
    let same : ◌≡◌ {A = Result (List ℕ) DerFault} (Ok serial) (Ok text.parts.is_serial.content) = read ∙ serial_read again certificate.whole certificate text in
    let is : serial ≡ text.parts.is_serial.content = cc in
    record { text = text; number = subst (Elem text.parts.serial integer_tag) (sym is) text.parts.is_serial.elem }

pub never_fails : IsNext → (certificate : CertView) (fault : DerFault) → Cert certificate.whole certificate → Err fault ≡ serial_in certificate.whole → ⊥
never_fails again certificate fault text read =
    let same : ◌≡◌ {A = Result (List ℕ) DerFault} (Err fault) (Ok text.parts.is_serial.content) = read ∙ serial_read again certificate.whole certificate text in
    cc
