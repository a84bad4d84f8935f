-- The rules on one chain, 11 to 15: each gives the number of the certificate at which it is broken, or None. A rule is
-- asked of what the rules before it leave: of bytes that aren't a chain, or of a chain that is no path, the later ones
-- say nothing.
use Rattle.std.specs.Prelude.{ℕ, suc, pos, int_le, ◌&&◌, Bool, List, [], ◌∷◌, is_some, Option, Some, None, Result, Ok}
use Rattle.std.specs.Prelude.{Err, if◌then◌else◌}
use Rattle.x509_profile.specs.View.{CertView}
use Rattle.delegation.specs.declared.fault.PathFault.{PathFault}
use Rattle.delegation.specs.Coverage.{Table}
use Rattle.delegation.specs.Decided.{is_within}
use Rattle.delegation.specs.Path.{is_listed, shape_of}
use Rattle.cert_store.specs.declared.judged.Period.{Period}
use Rattle.cert_store.specs.Links.{Link, chain_in, links_of, read_file}

-- ---- rule 11: the bytes are at most 49,152, and at most six certificates of the profile

abbrev pub refused_place : Result (List CertView) ℕ → Option ℕ
refused_place (Ok chain) = None
refused_place (Err place) = Some place

abbrev pub rule_11 : List ℕ → Option ℕ
rule_11 bytes = refused_place (read_file bytes)

-- ---- rule 12: they are a path up to a trust anchor (RFC 5280, section 6.1)

abbrev pub fault_place : Result (Option ℕ) PathFault → Option ℕ
fault_place (Ok anchor) = None
fault_place (Err fault) = Some fault.place

abbrev pub place_in : List CertView → Result (List CertView) ℕ → Option ℕ
place_in anchors (Ok chain) = fault_place (shape_of chain anchors)
place_in anchors (Err place) = None

abbrev pub rule_12 : List CertView → List ℕ → Option ℕ
rule_12 anchors bytes = place_in anchors (read_file bytes)

-- ---- rule 13: each that isn't itself an anchor is valid at the moment (RFC 5280, section 6.1.3 (a)(2))

abbrev pub period_of : ℕ → CertView → Period
period_of number c = record { number = number; not_before = c.not_before; not_after = c.not_after }

-- the seconds at which those are valid that aren't anchors, byte for byte; the first certificate has this number
abbrev pub periods_from : List CertView → ℕ → List CertView → List Period
periods_from anchors number [] = []
periods_from anchors number (c ∷ above) = if is_listed c anchors then periods_from anchors (suc number) above
    else period_of number c ∷ periods_from anchors (suc number) above

abbrev pub is_in_date : ℕ → Period → Bool
is_in_date moment period = int_le period.not_before (pos moment) && int_le (pos moment) period.not_after

-- the number of the first that isn't valid at the moment
abbrev pub first_out : ℕ → List Period → Option ℕ
first_out moment [] = None
first_out moment (period ∷ periods) = if is_in_date moment period then first_out moment periods else Some period.number

-- ---- rule 14: the leaf has an authority list, and each lies within its issuer (RFC 9060)

abbrev pub lies_within : Table → Link → Bool
lies_within table link = is_within link.certificate.list link.issuer.list table

-- the number of the first that doesn't lie within its issuer
abbrev pub first_outside : Table → List Link → Option ℕ
first_outside table [] = None
first_outside table (link ∷ links) = if lies_within table link then first_outside table links else Some link.number

abbrev pub first_unauthorized : Table → List Link → Option ℕ
first_unauthorized table [] = None
first_unauthorized table (leaf ∷ above) =
    if is_some leaf.certificate.list then first_outside table (leaf ∷ above) else Some 1

abbrev pub rule_14 : List CertView → Table → List ℕ → Option ℕ
rule_14 anchors table bytes = first_unauthorized table (links_of anchors (chain_in bytes))

-- ---- rule 15: each that isn't itself an anchor has a good signature under its issuer's key (RFC 5280, section 6.1.3
-- (a)(1))

-- of a key, a digest and a signature, whether the signature is good
abbrev pub Says : Type 0
Says = List ℕ → List ℕ → List ℕ → Bool

-- a question for a signature: under which key, over which digest, and which signature
pub record QuestionView : Type 0 where
  pub key : List ℕ
  pub digest : List ℕ
  pub signature : List ℕ

abbrev pub question : List ℕ → List ℕ → List ℕ → QuestionView
question key digest signature = record { key = key; digest = digest; signature = signature }

-- the signature is good
abbrev pub is_good : Says → QuestionView → Bool
is_good says asked = says asked.key asked.digest asked.signature

-- the question for the signature of a certificate, under its issuer's key
abbrev pub question_under : CertView → CertView → QuestionView
question_under certificate issuer = question issuer.key certificate.digest certificate.signature

abbrev pub is_signed : Says → Link → Bool
is_signed says link = is_good says (question_under link.certificate link.issuer)

-- the number of the first whose signature isn't good
abbrev pub first_unsigned : Says → List CertView → List Link → Option ℕ
first_unsigned says anchors [] = None
first_unsigned says anchors (link ∷ links) =
    if is_listed link.certificate anchors then first_unsigned says anchors links
    else (if is_signed says link then first_unsigned says anchors links else Some link.number)

abbrev pub rule_15 : List CertView → Says → List ℕ → Option ℕ
rule_15 anchors says bytes = first_unsigned says anchors (links_of anchors (chain_in bytes))

-- the key under which the signature of a certificate is asked for, that of its issuer; none if it is itself an anchor
abbrev pub key_under : List CertView → CertView → CertView → Option (List ℕ)
key_under anchors certificate issuer = if is_listed certificate anchors then None else Some issuer.key

-- the same of each certificate of a path
abbrev pub keys_of : List CertView → List Link → List (Option (List ℕ))
keys_of anchors [] = []
keys_of anchors (link ∷ links) = key_under anchors link.certificate link.issuer ∷ keys_of anchors links
