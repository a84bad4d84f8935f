-- A certificate of the profile (RFC 5280, section 4.1).
use Rattle.std.specs.Prelude.{◌≡◌, ℕ, ◌≤◌, List, ◌++◌, length}
use Rattle.sha2.specs.Sha256.{sha256}
use Rattle.der_reader.specs.Elem.{Elem}
use Rattle.der_reader.specs.Tags.{integer_tag, sequence_tag}
use Rattle.x509_profile.specs.Text.{algorithm_text, version_text}
use Rattle.x509_profile.specs.Parts.{AnyElement, KeyText, SignatureText, ValidityText}
use Rattle.x509_profile.specs.Extended.{ExtensionsText}
use Rattle.x509_profile.specs.View.{CertView, TbsView, ValidityView, Values, tbs_with, view_of}

-- The content of the signed part is version, serial number, algorithm, issuer, validity, subject, key and extensions,
-- and it says what they say.
pub record SignedText (content : List ℕ) (tbs : TbsView) : Type 0 where
  pub serial : List ℕ
  pub issuer : List ℕ
  pub validity : List ℕ
  pub times : ValidityView
  pub subject : List ℕ
  pub key : List ℕ
  pub point : List ℕ
  pub extensions : List ℕ
  pub values : Values
  pub form : content ≡ version_text
      ++ (serial ++ (algorithm_text ++ (issuer ++ (validity ++ (subject ++ (key ++ extensions))))))
  pub is_serial : AnyElement serial integer_tag
  pub is_issuer : AnyElement issuer sequence_tag
  pub is_validity : ValidityText validity times.not_before times.not_after
  pub is_subject : AnyElement subject sequence_tag
  pub is_key : KeyText key point
  pub is_extensions : ExtensionsText extensions values
  pub says : tbs ≡ tbs_with issuer times subject point values

-- The bytes are at most 8,192, and are one SEQUENCE of the signed part, the algorithm and the signature; the
-- certificate says what they say, and has the SHA-256 of the signed part.
pub record Cert (bytes : List ℕ) (c : CertView) : Type 0 where
  pub size : length bytes ≤ 8192
  pub signed : List ℕ
  pub content : List ℕ
  pub tbs : TbsView
  pub last : List ℕ
  pub signature : List ℕ
  pub elem : Elem bytes sequence_tag (signed ++ (algorithm_text ++ last))
  pub signed_elem : Elem signed sequence_tag content
  pub parts : SignedText content tbs
  pub is_signature : SignatureText last signature
  pub says : c ≡ view_of bytes tbs (sha256 signed) signature
