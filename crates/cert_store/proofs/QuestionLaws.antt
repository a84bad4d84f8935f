-- The questions that are kept of a chain are those of rule 15, and a provider's answers to them are all that the rules on a chain take of it.
use Rattle.std.proofs.Common.{◌≡◌, ◌≢◌, ℕ, suc, ◌-◌, ◌<◌, ◌≤◌, Bool, true, false, cond, List, [], ◌∷◌, length, get_or, Option, Some, None, Result, Ok, Err, refl, sym, ◌∙◌, ap}
use Rattle.std.specs.List.{slice_get}
use Rattle.std.proofs.lemmas.Option.{slice_get_past, slice_get_read}
use Rattle.x509_profile.specs.View.{CertView}
use Rattle.delegation.specs.declared.fault.PathFault.{PathFault}
use Rattle.delegation.specs.Coverage.{Table}
use Rattle.delegation.specs.Path.{anchor_of, is_listed, shape_of}
use Rattle.cert_store.specs.Asking.{Keys, asked_by, first_refused}
use Rattle.cert_store.specs.Judged.{HasAuthority, JudgedAs, JudgedView, asked_where, judged_of}
use Rattle.cert_store.specs.Links.{chain_in, links_of, links_up_to, read_file, read_or_nothing}
use Rattle.cert_store.specs.Questions.{AgreeOn, QuestionsAre, kept_question, question_unless, questions_from, questions_of, with_key}
use Rattle.cert_store.specs.Rules.{QuestionView, Says, fault_place, first_unsigned, key_under, keys_of, place_in, rule_11, rule_12, rule_14, rule_15}
use Rattle.cert_store.specs.Below.{Below}
use Rattle.cert_store.proofs.JudgedLaws.{by_keys_below}
use Rattle.cert_store.proofs.JudgedWords.{fields_of, keys_are, with_answer}

-- ---- the question at an index

pub kept_none : (certificate : Option CertView) → kept_question certificate None ≡ None
kept_none (Some certificate) = refl
kept_none None = refl

-- after the keys there is none
pub kept_beyond : (certificates : List CertView) (keys : Keys) (index : ℕ) → length keys ≤ index
    → None ≡ kept_question (slice_get certificates index) (slice_get keys index)
kept_beyond certificates keys index past =
    sym (ap (λ (x : Option (Option (List ℕ))). kept_question (slice_get certificates index) x) (slice_get_past keys index past)
    ∙ kept_none (slice_get certificates index))

pub kept_at : (certificates : List CertView) (keys : Keys) (index : ℕ) (c : CertView) (key : Option (List ℕ)) (answer : Option QuestionView)
    → index < length certificates → index < length keys → c ≡ get_or certificates index c → key ≡ get_or keys index key → answer ≡ with_key c key
    → answer ≡ kept_question (slice_get certificates index) (slice_get keys index)
kept_at certificates keys index c key answer inside within is key_is so =
    so ∙ sym (ap (λ (x : Option CertView). kept_question x (slice_get keys index)) (slice_get_read certificates (length certificates) index c refl inside is)
    ∙ ap (λ (x : Option (Option (List ℕ))). kept_question (Some c) x) (slice_get_read keys (length keys) index key refl within key_is))

-- ---- what they are

no_keys_up_to : (anchors chain : List CertView) (shape : Result (Option ℕ) PathFault) → fault_place shape ≢ None
    → keys_of anchors (links_up_to chain anchors shape) ≡ []
no_keys_up_to anchors chain (Ok anchor) broken = absurd (broken refl)
no_keys_up_to anchors chain (Err fault) broken = refl

-- what is no path has no keys
no_keys : (anchors : List CertView) (read : Result (List CertView) ℕ) → place_in anchors read ≢ None → keys_of anchors (links_of anchors (read_or_nothing read)) ≡ []
no_keys anchors (Ok chain) broken = no_keys_up_to anchors chain (shape_of chain anchors) broken
no_keys anchors (Err place) broken = absurd (broken refl)

by_listed : (listed : Bool) (c issuer : CertView) → with_key c (cond listed None (Some issuer.key)) ≡ question_unless listed c issuer
by_listed true c issuer = refl
by_listed false c issuer = refl

pub questions_are : Below → (anchors : List CertView) (table : Table) (says : Says) (bytes : List ℕ) (judged : JudgedView)
    → JudgedAs (judged_of anchors table says bytes) judged → QuestionsAre anchors judged
questions_are below anchors table says bytes judged j = record {
  none = λ broken number.
      let f = fields_of anchors table says bytes judged j in
      let none : judged.keys ≡ [] = f.keys ∙ no_keys anchors (read_file bytes) (λ e. broken (f.shape ∙ e)) in
      ap (λ (keys : Keys). kept_question (slice_get judged.certificates (number - 1)) (slice_get keys (number - 1))) none
      ∙ kept_none (slice_get judged.certificates (number - 1));
  path = λ anchor number c issuer path some numbered above.
      let key : slice_get judged.keys (number - 1) ≡ Some (key_under anchors c issuer) = (keys_are below anchors table says bytes judged j anchor path).each number c issuer some numbered above in
      ap (λ (x : Option CertView). kept_question x (slice_get judged.keys (number - 1))) numbered
      ∙ ap (λ (x : Option (Option (List ℕ))). kept_question (Some c) x) key ∙ by_listed (is_listed c anchors) c issuer;
}

-- ---- two providers

refused_same : (says other : Says) (number : ℕ) (chain : List CertView) (keys : Keys) → AgreeOn says other (questions_from chain keys)
    → first_refused other number chain keys ≡ first_refused says number chain keys
refused_same says other number [] keys agree = refl
refused_same says other number (c ∷ above) [] agree = refl
refused_same says other number (c ∷ above) (None ∷ keys) agree = refused_same says other (suc number) above keys agree
refused_same says other number (c ∷ above) (Some key ∷ keys) agree =
    ap (λ t. cond t (first_refused other (suc number) above keys) (Some number)) (sym agree.0)
    ∙ ap (λ later. cond (says key c.digest c.signature) later (Some number)) (refused_same says other (suc number) above keys agree.1)

unsigned_same : (says other : Says) (anchors chain : List CertView) (shape : Result (Option ℕ) PathFault)
    → AgreeOn says other (questions_from chain (keys_of anchors (links_up_to chain anchors shape)))
    → first_unsigned other anchors (links_up_to chain anchors shape) ≡ first_unsigned says anchors (links_up_to chain anchors shape)
unsigned_same says other anchors chain (Ok anchor) agree =
    by_keys_below other anchors chain (anchor_of chain anchors anchor) ∙ refused_same says other 1 chain _ agree
    ∙ sym (by_keys_below says anchors chain (anchor_of chain anchors anchor))
unsigned_same says other anchors chain (Err fault) agree = refl

-- how the signatures were answered for, if nothing is asked unless rules 11, 12 and 14 hold
asked_same : (profile shape authority unsigned other : Option ℕ) → (profile ≡ None → shape ≡ None → authority ≡ None → other ≡ unsigned)
    → asked_where profile shape authority other ≡ asked_where profile shape authority unsigned
asked_same None None None unsigned other same = ap asked_by (same refl refl refl)
asked_same None None (Some place) unsigned other same = refl
asked_same None (Some place) authority unsigned other same = refl
asked_same (Some place) shape authority unsigned other same = refl

pub same_questions : (anchors : List CertView) (table : Table) (says other : Says) (bytes : List ℕ)
    → questions_of (judged_of anchors table other bytes) ≡ questions_of (judged_of anchors table says bytes)
unfolding judged_of questions_of
same_questions anchors table says other bytes = refl

pub same_where_agreed : (anchors : List CertView) (table : Table) (says other : Says) (bytes : List ℕ)
    → (HasAuthority (judged_of anchors table says bytes) → AgreeOn says other (questions_of (judged_of anchors table says bytes)))
    → judged_of anchors table other bytes ≡ judged_of anchors table says bytes
unfolding judged_of questions_of
same_where_agreed anchors table says other bytes agree =
    ap (with_answer (judged_of anchors table says bytes))
    (asked_same (rule_11 bytes) (rule_12 anchors bytes) (rule_14 anchors table bytes) (rule_15 anchors says bytes) (rule_15 anchors other bytes)
    (λ profile shape authority. unsigned_same says other anchors (chain_in bytes) (shape_of (chain_in bytes) anchors)
    (agree (record { path = record { profile = profile; shape = shape }; authority = authority }))))
