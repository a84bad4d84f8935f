-- The number of a URI that is read is the one that it gives.
use Rattle.std.proofs.Common.{◌≡◌, ◌==◌, ℕ, List, Option, Some, None, codes, option_and_then, refl, ap, sym, ◌∙◌, subst, arith}
use Rattle.std.proofs.lemmas.Option.{option_and_then_some}
use Rattle.text_grammar.specs.Cut.{cut}
use Rattle.text_grammar.proofs.CutLaws.{cut_again, cut_found}
use Rattle.tn_values.specs.Canon.{Canon, StandsFor}
use Rattle.tn_values.specs.Local.{LocalView}
use Rattle.tn_values.proofs.CanonLaws as canon
use Rattle.sip_message.specs.Address.{before, behind_scheme, by_scheme, uri_number, user_number, user_part_number}
use Rattle.sip_message.specs.UpTo.{UpTo}
use Rattle.sip_message.specs.UriNumber.{GivesNumber, IsNumberText, IsUserText, ends_user, sip, sips, tel}
use Rattle.sip_message.proofs.SchemeLaws.{AreAlike, other_scheme, scheme_found, scheme_read}
use Rattle.sip_message.proofs.UpToLaws.{before_first, before_front, before_is, before_only, cut_lacks, front_is, front_of, front_only}

-- ---- what is read is given

-- the user part up to its first `;` or `:`
pub user_front : (user : List ℕ) → before 58 (before 59 user) ≡ front_of ends_user user
user_front user = before_front (λ b. b == 59) 58 user (before 59 user) (before_first 59 user)

record IsUser (local : LocalView) (rest number : List ℕ) : Type 0 where
  text : List ℕ
  is_text : IsUserText rest text
  stands : StandsFor text local number

user_found : (local : LocalView) (rest number : List ℕ) → user_number local rest ≡ Some number → IsUser local rest number
user_found local rest number h =
    option_and_then_some (user_part_number local) (cut 64 rest) number h (λ parts e k.
    record {
      text = before 58 (before 59 parts.0);
      is_text = record {
        user = parts.0;
        behind = parts.1;
        parts = cut_found 64 rest parts e;
        first_at = cut_lacks 64 rest parts e;
        front = subst (UpTo ends_user parts.0) (sym (user_front parts.0)) (front_is ends_user parts.0);
      };
      stands = canon.stands (before 58 (before 59 parts.0)) local number k;
    })

found_by : (uri : List ℕ) (local : LocalView) (number : List ℕ) (t s r : Option (List ℕ)) → behind_scheme (codes "tel:") uri ≡ t
    → behind_scheme (codes "sip:") uri ≡ s → behind_scheme (codes "sips:") uri ≡ r → by_scheme local t s r ≡ Some number → GivesNumber uri local number
found_by uri local number (Some rest) s r is_tel is_sip is_sips h =
    record {
      text = before 59 rest;
      is_text = tel rest (scheme_found (codes "tel:") uri rest is_tel) (before_is 59 rest);
      stands = canon.stands (before 59 rest) local number h;
    }
found_by uri local number None (Some rest) r is_tel is_sip is_sips h =
    let u = user_found local rest number h in
    record { text = u.text; is_text = sip rest (scheme_found (codes "sip:") uri rest is_sip) u.is_text; stands = u.stands }
found_by uri local number None None (Some rest) is_tel is_sip is_sips h =
    let u = user_found local rest number h in
    record { text = u.text; is_text = sips rest (scheme_found (codes "sips:") uri rest is_sips) u.is_text; stands = u.stands }
found_by uri local number None None None is_tel is_sip is_sips h = absurd cc

pub number_found : (uri : List ℕ) (local : LocalView) (number : List ℕ) → uri_number uri local ≡ Some number → GivesNumber uri local number
number_found uri local number h =
    found_by uri local number (behind_scheme (codes "tel:") uri) (behind_scheme (codes "sip:") uri) (behind_scheme (codes "sips:") uri) refl refl refl h

-- ---- what is given is read

user_read : (local : LocalView) (rest text number : List ℕ) → IsUserText rest text → Canon text local ≡ Some number → user_number local rest ≡ Some number
user_read local rest text number u h =
    let same : text ≡ before 58 (before 59 u.user) = front_only ends_user u.user text u.front ∙ sym (user_front u.user) in
    ap (λ x. option_and_then (user_part_number local) (cut 64 x)) u.parts
    ∙ ap (option_and_then (user_part_number local)) (cut_again 64 u.user u.behind u.first_at)
    ∙ ap (λ x. Canon x local) (sym same)
    ∙ h

-- none of the three schemes is another, by its first letter or by its fourth
tel_or_sip : AreAlike (codes "tel:") (codes "sip:") → ⊥
tel_or_sip h = let e : ◌≡◌ {A = ℕ} 116 115 = h.0 in omega arith

tel_or_sips : AreAlike (codes "tel:") (codes "sips:") → ⊥
tel_or_sips h = let e : ◌≡◌ {A = ℕ} 116 115 = h.0 in omega arith

sip_or_sips : AreAlike (codes "sip:") (codes "sips:") → ⊥
sip_or_sips h = let e : ◌≡◌ {A = ℕ} 58 115 = h.1.1.1.0 in omega arith

text_read : (uri : List ℕ) (local : LocalView) (text number : List ℕ) → IsNumberText uri text → Canon text local ≡ Some number → uri_number uri local ≡ Some number
text_read uri local text number (tel rest has front) h =
    ap (λ t. by_scheme local t (behind_scheme (codes "sip:") uri) (behind_scheme (codes "sips:") uri)) (scheme_read (codes "tel:") uri rest has)
    ∙ ap (λ x. Canon x local) (sym (before_only 59 rest text front))
    ∙ h
text_read uri local text number (sip rest has user) h =
    ap (λ t. by_scheme local t (behind_scheme (codes "sip:") uri) (behind_scheme (codes "sips:") uri))
    (other_scheme (codes "tel:") (codes "sip:") uri rest has tel_or_sip)
    ∙ ap (λ s. by_scheme local None s (behind_scheme (codes "sips:") uri)) (scheme_read (codes "sip:") uri rest has)
    ∙ user_read local rest text number user h
text_read uri local text number (sips rest has user) h =
    ap (λ t. by_scheme local t (behind_scheme (codes "sip:") uri) (behind_scheme (codes "sips:") uri))
    (other_scheme (codes "tel:") (codes "sips:") uri rest has tel_or_sips)
    ∙ ap (λ s. by_scheme local None s (behind_scheme (codes "sips:") uri)) (other_scheme (codes "sip:") (codes "sips:") uri rest has sip_or_sips)
    ∙ ap (by_scheme local None None) (scheme_read (codes "sips:") uri rest has)
    ∙ user_read local rest text number user h

pub number_read : (uri : List ℕ) (local : LocalView) (number : List ℕ) → GivesNumber uri local number → uri_number uri local ≡ Some number
number_read uri local number g = text_read uri local g.text number g.is_text (canon.given g.text local number g.stands)
