-- The parts of the certificates of a chain, found or not.
use Rattle.std.proofs.Common.{◌≡◌, ℕ, ◌-◌, ◌≤◌, List, Option, Some, None, sym, ◌∙◌, ap, subst, arith}
use Rattle.std.proofs.lemmas.Option.{same_Some}
use Rattle.std.specs.List.{slice_get}
use Rattle.chain_lines.specs.Parts.{PartIs}
use Rattle.chain_lines.specs.declared.parts.Part.{Part}
use Rattle.x509_profile.specs.Chain.{Chain}
use Rattle.x509_profile.specs.View.{CertView}
use Rattle.stir_c.specs.ChainParts.{ChainPartIs, part_of}

pub no_part : (bytes : List ℕ) (number part : ℕ) → None ≡ part_of part → ChainPartIs bytes number part None
no_part bytes number part none certificate kind has is = let other : ◌≡◌ {A = Option Part} None (Some kind) = none ∙ is in absurd (cc)

pub no_number : (bytes : List ℕ) (number part : ℕ) → number ≡ 0 → ChainPartIs bytes number part None
no_number bytes number part zero certificate kind has is = let some = has.some in absurd (omega (arith, some, zero))

pub no_certificate : (bytes : List ℕ) (number part : ℕ) (chain : List CertView) → Chain bytes chain → ((a b : List CertView) → Chain bytes a → Chain bytes b → a ≡ b)
    → None ≡ slice_get chain (number - 1) → ChainPartIs bytes number part None
no_certificate bytes number part chain text unique none certificate kind has is =
    let same : has.chain ≡ chain = unique has.chain chain has.text text in
    let other : ◌≡◌ {A = Option CertView} None (Some certificate) = none ∙ (ap (λ c. slice_get c (number - 1)) (sym same) ∙ has.at) in
    absurd (cc)

pub nothing : (bytes : List ℕ) (number part : ℕ) (chain : List CertView) (found : CertView) (one : Part) → Chain bytes chain → ((a b : List CertView) → Chain bytes a → Chain bytes b → a ≡ b)
    → Some found ≡ slice_get chain (number - 1) → Some one ≡ part_of part → PartIs found one None → ChainPartIs bytes number part None
nothing bytes number part chain found one text unique at kind_is none certificate kind has is =
    let same : has.chain ≡ chain = unique has.chain chain has.text text in
    let cert : found ≡ certificate = same_Some found certificate (at ∙ (ap (λ c. slice_get c (number - 1)) (sym same) ∙ has.at)) in
    let part_is : one ≡ kind = same_Some one kind (kind_is ∙ is) in
    subst (λ (c : CertView). PartIs c kind None) cert (subst (λ (k : Part). PartIs found k None) part_is none)

pub something : (bytes : List ℕ) (number part : ℕ) (chain : List CertView) (found : CertView) (one : Part) (out : List ℕ) → Chain bytes chain → 1 ≤ number
    → Some found ≡ slice_get chain (number - 1) → Some one ≡ part_of part → PartIs found one (Some out) → ChainPartIs bytes number part (Some out)
something bytes number part chain found one out text some at kind_is is = record {
  certificate = found;
  has = record { chain = chain; text = text; some = some; at = sym at };
  kind = one;
  kind_is = sym kind_is;
  is = is;
}
