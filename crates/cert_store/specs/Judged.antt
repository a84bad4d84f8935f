-- A chain as the rules on it judge it.
use Rattle.std.specs.Prelude.{◌≡◌, ◌≢◌, ℕ, ◌+◌, ◌-◌, ◌≤◌, length, List, [], Option, Some, None, IsSome, Result, Ok, Err}
use Rattle.std.specs.List.{slice_get}
use Rattle.stir_outside.specs.Count.{last_count}
use Rattle.claim_constraints.specs.Constraints.{ConstraintsView}
use Rattle.x509_profile.specs.View.{CertView}
use Rattle.delegation.specs.Coverage.{Table}
use Rattle.delegation.specs.declared.fault.PathFault.{PathFault}
use Rattle.delegation.specs.Path.{anchor_of, shape_of}
use Rattle.cert_store.specs.declared.judged.Asked.{Asked}
use Rattle.cert_store.specs.declared.judged.Asked.TheVariants.{NotAsked, Failed}
use Rattle.cert_store.specs.declared.judged.Period.{Period}
use Rattle.cert_store.specs.Asking.{FailedAt, FailedWithCause, Keys, RoseBy, SoFar, asked_by, first_refused, questions}
use Rattle.cert_store.specs.Links.{Link, chain_in, links_below, links_of, path_of}
use Rattle.cert_store.specs.Rules.{Says, first_out, first_unauthorized, keys_of, periods_from, rule_11, rule_12}
use Rattle.cert_store.specs.Rules.{rule_14, rule_15}

pub record JudgedView : Type 0 where
  -- where rules 11, 12 and 14 are broken
  pub profile : Option ℕ
  pub shape : Option ℕ
  pub authority : Option ℕ
  -- how the signatures were answered for
  pub asked : Asked
  -- the certificates, the leaf's first
  pub certificates : List CertView
  -- the seconds at which those of a path are valid that aren't anchors
  pub periods : List Period
  -- of each certificate of a path its issuer's key, and none of one that is itself an anchor
  pub keys : Keys

abbrev pub view_of : Option ℕ → Option ℕ → Option ℕ → Asked → List CertView → List Period → Keys → JudgedView
view_of profile shape authority asked certificates periods keys = record {
  profile = profile;
  shape = shape;
  authority = authority;
  asked = asked;
  certificates = certificates;
  periods = periods;
  keys = keys;
}

-- where rule 13 is broken at this moment
abbrev pub out_of_date : JudgedView → ℕ → Option ℕ
out_of_date judged moment = first_out moment judged.periods

-- what certificate i, the leaf's number being 1, demands of the claims of a PASSporT that is judged under it
abbrev pub demanded : Option CertView → Option ConstraintsView
demanded (Some certificate) = certificate.constraints
demanded None = None

abbrev pub constraints_at : JudgedView → ℕ → Option ConstraintsView
constraints_at judged i = demanded (slice_get judged.certificates (i - 1))

-- signatures are asked for if rules 11, 12 and 14 hold
abbrev pub asked_where : Option ℕ → Option ℕ → Option ℕ → Option ℕ → Asked
asked_where None None None unsigned = asked_by unsigned
asked_where None None (Some part) unsigned = NotAsked
asked_where None (Some part) authority unsigned = NotAsked
asked_where (Some part) shape authority unsigned = NotAsked

-- What the rules say of the chain, if every question is answered.
unfoldable pub judged_of : List CertView → Table → Says → List ℕ → JudgedView
judged_of anchors table says bytes = record {
  profile = rule_11 bytes;
  shape = rule_12 anchors bytes;
  authority = rule_14 anchors table bytes;
  asked =
      asked_where (rule_11 bytes) (rule_12 anchors bytes) (rule_14 anchors table bytes) (rule_15 anchors says bytes);
  certificates = chain_in bytes;
  periods = periods_from anchors 1 (path_of anchors (chain_in bytes));
  keys = keys_of anchors (links_of anchors (chain_in bytes));
}

-- ---- the same step by step

abbrev pub outside_profile : ℕ → JudgedView
outside_profile place = record {
  profile = Some place;
  shape = None;
  authority = None;
  asked = NotAsked;
  certificates = [];
  periods = [];
  keys = [];
}

abbrev pub without_path : List CertView → ℕ → JudgedView
without_path chain place = record {
  profile = None;
  shape = Some place;
  authority = None;
  asked = NotAsked;
  certificates = chain;
  periods = [];
  keys = [];
}

-- of a path with these issuers
abbrev pub judged_path : List CertView → Table → Says → List CertView → List Link → JudgedView
judged_path anchors table says chain links = record {
  profile = None;
  shape = None;
  authority = first_unauthorized table links;
  asked = asked_where None None (first_unauthorized table links) (first_refused says 1 chain (keys_of anchors links));
  certificates = chain;
  periods = periods_from anchors 1 chain;
  keys = keys_of anchors links;
}

abbrev pub judged_shape : List CertView → Table → Says → List CertView → Result (Option ℕ) PathFault → JudgedView
judged_shape anchors table says chain (Ok anchor) =
    judged_path anchors table says chain (links_below chain (anchor_of chain anchors anchor))
judged_shape anchors table says chain (Err fault) = without_path chain fault.place

-- of certificates of the profile
abbrev pub judged_chain : List CertView → Table → Says → List CertView → JudgedView
judged_chain anchors table says chain = judged_shape anchors table says chain (shape_of chain anchors)

-- ---- what the code gives

-- The chain is judged as this says, except that the provider may have failed at a question, whenever that was.
pub record JudgedAs (truth judged : JudgedView) : Type 0 where
  pub same : judged ≡ record truth { asked = judged.asked }
  -- the answer is the one that would be given; or a question failed, and nothing was answered otherwise before
  pub so_far : SoFar truth.asked judged.asked
  -- what failed is the question of a certificate that isn't an anchor
  pub question : FailedAt judged.keys judged.asked

-- it is judged so, and a question failed only if the provider's count of faults rose in this call
pub record IsJudged (truth : JudgedView) (faults faults_now : ℕ) (judged : JudgedView) : Type 0 where
  pub right : JudgedAs truth judged
  pub cause : FailedWithCause faults faults_now judged.asked

-- every question was answered
pub record AllAnswered (truth judged : JudgedView) : Type 0 where
  pub whole : judged ≡ truth
  pub unfailed : (part : ℕ) → judged.asked ≢ Failed part

-- A provider whose count of faults stays as it was, below its last value, answered every question. So does one that
-- never fails, whose count is always 0.
abbrev pub QuietIs : JudgedView → ℕ → ℕ → JudgedView → Type 0
QuietIs truth faults faults_now judged = faults_now ≡ faults → faults ≢ last_count → AllAnswered truth judged

-- As many questions were asked as there are certificates, up to the one at which asking stopped, that aren't themselves
-- anchors.
pub record HasAsked (asks asks_now : ℕ) (judged : JudgedView) : Type 0 where
  pub exact : RoseBy (questions judged.keys judged.asked) asks asks_now
  pub most : asks_now ≤ asks + length judged.certificates
  pub none : judged.asked ≡ NotAsked → asks_now ≡ asks

-- nothing was asked if memory ran out
abbrev pub Asks : {E : Type 0} → ℕ → ℕ → Result JudgedView E → Type 0
Asks asks asks_now (Ok judged) = HasAsked asks asks_now judged
Asks asks asks_now (Err fault) = asks_now ≡ asks

-- the provider's count of faults didn't fall, and stayed as it was if memory ran out
abbrev pub HasCount : {E : Type 0} → ℕ → ℕ → Result JudgedView E → Type 0
HasCount faults faults_now (Ok judged) = faults ≤ faults_now
HasCount faults faults_now (Err fault) = faults_now ≡ faults

-- ---- what holds of every judged chain

-- rules 11 and 12 hold
pub record IsPath (judged : JudgedView) : Type 0 where
  pub profile : judged.profile ≡ None
  pub shape : judged.shape ≡ None

-- rules 11, 12 and 14 hold
pub record HasAuthority (judged : JudgedView) : Type 0 where
  pub path : IsPath judged
  pub authority : judged.authority ≡ None

-- There are at most six certificates, and none if rule 11 is broken. A path has a leaf, and for each certificate the
-- key of its issuer or none; what is no path has no keys. With authority, the leaf has an authority list. Signatures
-- were asked for only with authority.
pub record IsConsistent (judged : JudgedView) : Type 0 where
  pub few : length judged.certificates ≤ 6
  pub outside : judged.profile ≢ None → judged.certificates ≡ []
  pub leaf : IsPath judged → IsSome (slice_get judged.certificates 0)
  pub keys : IsPath judged → length judged.keys ≡ length judged.certificates
  pub no_keys : (IsPath judged → ⊥) → judged.keys ≡ []
  pub list : HasAuthority judged → (leaf : CertView) → slice_get judged.certificates 0 ≡ Some leaf → IsSome leaf.list
  pub asked : judged.asked ≢ NotAsked → HasAuthority judged
