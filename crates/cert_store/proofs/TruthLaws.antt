-- What is known of a chain whose every question is answered.
use Rattle.std.proofs.Common.{◌≢◌, ℕ, List, Option, Some, None, refl}
use Rattle.der_reader.specs.Elem.{AllBytes}
use Rattle.x509_profile.specs.View.{CertView}
use Rattle.delegation.specs.Coverage.{Table}
use Rattle.cert_store.specs.declared.judged.Asked.TheVariants.{Failed}
use Rattle.cert_store.specs.Asking.{FailedAt, Keys, SoFar}
use Rattle.cert_store.specs.Judged.{JudgedAs, asked_where, judged_of}
use Rattle.cert_store.specs.Links.{chain_in, links_of}
use Rattle.cert_store.specs.Rules.{Says, keys_of, rule_11, rule_12, rule_14, rule_15}
use Rattle.cert_store.specs.Words.{InWords}
use Rattle.cert_store.specs.Below.{Below}
use Rattle.cert_store.proofs.JudgedWords.{authority_is, dates_are, path_is, profile_is, signatures_are}

-- no question fails
unfailed : (profile shape authority unsigned : Option ℕ) (part : ℕ) → asked_where profile shape authority unsigned ≢ Failed part
unfailed None None None None part e = absurd cc
unfailed None None None (Some first) part e = absurd cc
unfailed None None (Some place) unsigned part e = absurd cc
unfailed None (Some place) authority unsigned part e = absurd cc
unfailed (Some place) shape authority unsigned part e = absurd cc

pub answered : (anchors : List CertView) (table : Table) (says : Says) (bytes : List ℕ) (part : ℕ) → (judged_of anchors table says bytes).asked ≢ Failed part
unfolding judged_of
answered anchors table says bytes part = unfailed (rule_11 bytes) (rule_12 anchors bytes) (rule_14 anchors table bytes) (rule_15 anchors says bytes) part

-- so it is judged as itself
so_far : (profile shape authority unsigned : Option ℕ) → SoFar (asked_where profile shape authority unsigned) (asked_where profile shape authority unsigned)
so_far None None None None = refl
so_far None None None (Some first) = refl
so_far None None (Some place) unsigned = refl
so_far None (Some place) authority unsigned = refl
so_far (Some place) shape authority unsigned = refl

question : (keys : Keys) (profile shape authority unsigned : Option ℕ) → FailedAt keys (asked_where profile shape authority unsigned)
question keys None None None None = tt
question keys None None None (Some first) = tt
question keys None None (Some place) unsigned = tt
question keys None (Some place) authority unsigned = tt
question keys (Some place) shape authority unsigned = tt

itself : (anchors : List CertView) (table : Table) (says : Says) (bytes : List ℕ) → JudgedAs (judged_of anchors table says bytes) (judged_of anchors table says bytes)
unfolding judged_of
itself anchors table says bytes = record {
  same = refl;
  so_far = so_far (rule_11 bytes) (rule_12 anchors bytes) (rule_14 anchors table bytes) (rule_15 anchors says bytes);
  question = question (keys_of anchors (links_of anchors (chain_in bytes))) (rule_11 bytes) (rule_12 anchors bytes) (rule_14 anchors table bytes) (rule_15 anchors says bytes);
}

pub in_words : Below → (anchors : List CertView) (table : Table) (says : Says) (bytes : List ℕ) → AllBytes bytes → InWords anchors table says bytes (judged_of anchors table says bytes)
in_words below anchors table says bytes typed =
    let j = itself anchors table says bytes in
    record {
      profile = profile_is below anchors table says bytes (judged_of anchors table says bytes) typed j;
      path = path_is below anchors table says bytes (judged_of anchors table says bytes) j;
      dates = dates_are below anchors table says bytes (judged_of anchors table says bytes) j;
      authority = authority_is below anchors table says bytes (judged_of anchors table says bytes) j;
      signatures = signatures_are below anchors table says bytes (judged_of anchors table says bytes) j;
    }
