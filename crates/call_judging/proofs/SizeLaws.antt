-- A chain that a file holds has at most six certificates, and what is asked for it.
use Rattle.std.proofs.Common.{◌≡◌, ℕ, zero, suc, ◌+◌, ◌-◌, ◌==◌, ◌≤◌, nat_le, Bool, true, false, List, [], ◌∷◌, ◌++◌, length, Option, Some, None, Result, Ok, Err, if◌then◌else◌, ap, arith, length-append}
use Rattle.cert_store.specs.Judged.{JudgedAs, JudgedView, judged_of}
use Rattle.cert_store.specs.Links.{by_number, chain_in, read_file, read_or_nothing}
use Rattle.cert_store.specs.Rules.{Says}
use Rattle.delegation.specs.Coverage.{Table}
use Rattle.stir_outside.specs.Count.{Rose, one_more}
use Rattle.x509_profile.specs.Chain.{RefusedCertificate, certificates_from, certificates_in, ended, front, refused_at}
use Rattle.x509_profile.specs.View.{CertView}
use Rattle.call_judging.specs.Fetched.{chain_size}

-- ---- how many there are

abbrev read_of : Result (List CertView) RefusedCertificate → List CertView
read_of result = read_or_nothing (by_number result)

zero_most : (n : ℕ) → 0 ≤ n
zero_most n = omega arith

ended_most : (bytes : List ℕ) (before : List CertView) (left : List ℕ) → length (read_of (ended bytes before left)) ≤ length before
ended_most bytes before left = by_end (length left == 0) where
  by_end : (t : Bool) → length (read_of (if t then Ok before else Err (refused_at (length before + 1) (length bytes - length left)))) ≤ length before
  by_end true = omega arith
  by_end false = zero_most (length before)

from_most : (bytes : List ℕ) (room : ℕ) (before : List CertView) (left : List ℕ) → length (read_of (certificates_from bytes room before left)) ≤ length before + room
from_most bytes zero before left = let most = ended_most bytes before left in omega (arith, most)
from_most bytes (suc room) before left = by_front (λ more behind. from_most bytes room more behind) (front left) where
  by_front : {E : Type 0} → ((more : List CertView) (behind : List ℕ) → length (read_of (certificates_from bytes room more behind)) ≤ length more + room)
      → (found : Result (CertView × List ℕ) E) → length (read_of (elim found [ Ok it ↦ certificates_from bytes room (before ++ it.0 ∷ []) it.1 | Err fault ↦ ended bytes before left ])) ≤ length before + suc room
  by_front law (Ok it) = let most = law (before ++ it.0 ∷ []) it.1 in omega (arith, most, length-append before (it.0 ∷ []))
  by_front law (Err fault) = let most = ended_most bytes before left in omega (arith, most)

file_most : (bytes : List ℕ) → length (chain_in bytes) ≤ 6
unfolding read_file certificates_in
file_most bytes = by_size (nat_le (length bytes) 49152) where
  by_size : (t : Bool) → length (read_or_nothing (if t then by_number (certificates_from bytes 6 [] bytes) else Err 0)) ≤ 6
  by_size true = from_most bytes 6 [] bytes
  by_size false = zero_most 6

pub size_most : (bytes : Option (List ℕ)) → chain_size bytes ≤ 6
size_most None = omega arith
size_most (Some bytes) = file_most bytes

-- ---- what is asked

pub asked_most : (anchors : List CertView) (table : Table) (says : Says) (bytes : List ℕ) (judged : JudgedView) (asks asks_now : ℕ)
    → JudgedAs (judged_of anchors table says bytes) judged → asks_now ≤ asks + length judged.certificates → asks_now ≤ asks + length (chain_in bytes)
unfolding judged_of
asked_most anchors table says bytes judged asks asks_now right most =
    let same : judged.certificates ≡ chain_in bytes = ap (λ (j : JudgedView). j.certificates) right.same in
    let sizes : length judged.certificates ≡ length (chain_in bytes) = ap length same in
    omega (arith, most, sizes)

-- a file was read only if the count of reads rose
pub read_rose : (before now : ℕ) → now ≡ one_more before → Rose before now
read_rose before now is below = omega (arith, is, below)
