-- What a path says of its certificates and its anchor.
use Rattle.std.proofs.Common.{◌≡◌, ℕ, ◌<◌, List, length, Option, Some, subst, arith}
use Rattle.std.proofs.lemmas.Option.{slice_get_within}
use Rattle.x509_profile.specs.View.{CertView}
use Rattle.delegation.specs.Path.{IsAnchor, Path}

pub some_certificate : (chain anchors : List CertView) (anchor : Option ℕ) → Path chain anchors anchor → 0 < length chain
some_certificate chain anchors anchor p = omega (arith, p.count)

anchor_within : (n : ℕ) (last : CertView) (anchors : List CertView) (number : ℕ) → IsAnchor n last anchors (Some number) → number < length anchors
anchor_within n last anchors number (listed, anchor, is, fits, first) = slice_get_within anchors number anchor is

pub is_an_anchor : (chain anchors : List CertView) (anchor : Option ℕ) (number : ℕ) → Path chain anchors anchor → anchor ≡ Some number → number < length anchors
is_an_anchor chain anchors anchor number p e =
    let q : Path chain anchors (Some number) = subst (Path chain anchors) e p in anchor_within _ q.last anchors number q.anchored
