-- Only an extension basicConstraints whose cA is true makes a certificate one of an authority.
use Rattle.std.proofs.Common.{◌≡◌, ◌⊎◌, ℕ, true, List, [], ◌∷◌, ◌++◌, Option, Some, None, inl, inr, refl, sym, ap, ◌∙◌}
use Rattle.std.proofs.lemmas.Option.{same_Some}
use Rattle.der_reader.specs.Each.{ComeTo}
use Rattle.x509_profile.specs.Authority.{SaysAuthority}
use Rattle.x509_profile.specs.Cert.{Cert}
use Rattle.x509_profile.specs.Extended.{Adds, AddsAs, BasicText, ExtensionsText}
use Rattle.x509_profile.specs.ExtensionId.{AuthorityKey, AuthorityList, BasicConstraints, ClaimConstraints, EnhancedConstraints, ExtensionName, IsNamed, KeyUsage, SubjectKey, Unknown, certificate_extension}
use Rattle.x509_profile.specs.View.{BasicView, CertView, ExtensionView, TbsView, Values, no_values, says_ca}

-- what one extension does to the basic constraints: it leaves them, or it is the first that says them
record Says (before : Values) (view : ExtensionView) (values : Values) : Type 0 where
  first : before.basic ≡ None
  named : view.oid ≡ certificate_extension 19
  basic : BasicView
  text : BasicText view.value basic
  is : values.basic ≡ Some basic

abbrev Step : Values → ExtensionView → Values → Type 0
Step before view values = (values.basic ≡ before.basic) ⊎ Says before view values

step_by : (name : ExtensionName) (before values : Values) (view : ExtensionView) → IsNamed view.oid name → AddsAs name before view values → Step before view values
step_by BasicConstraints before values view named (first, basic, text, e) =
    inr (record { first = first; named = named; basic = basic; text = text; is = ap (λ (v : Values). v.basic) e })
step_by KeyUsage before values view named (first, usage, text, e) = inl (ap (λ (v : Values). v.basic) e)
step_by SubjectKey before values view named (first, key, text, e) = inl (ap (λ (v : Values). v.basic) e)
step_by AuthorityKey before values view named (first, key, text, e) = inl (ap (λ (v : Values). v.basic) e)
step_by AuthorityList before values view named (first, list, text, e) = inl (ap (λ (v : Values). v.basic) e)
step_by ClaimConstraints before values view named (first, constraints, text, e) = inl (ap (λ (v : Values). v.basic) e)
step_by EnhancedConstraints before values view named h = absurd h
step_by Unknown before values view named (critical, e) = inl (ap (λ (v : Values). v.basic) e)

step_of : (before values : Values) (view : ExtensionView) → Adds before view values → Step before view values
step_of before values view (name, named, adds) = step_by name before values view named adds

-- what was said stays
kept : (extensions : List ExtensionView) (start end : Values) (basic : BasicView) → ComeTo Adds start extensions end → start.basic ≡ Some basic → end.basic ≡ Some basic
kept [] start end basic e is = ap (λ (v : Values). v.basic) e ∙ is
kept (view ∷ more) start end basic (next, adds, come) is = elim (step_of start next view adds) [
  | inl same ↦ kept more next end basic come (same ∙ is)
  | inr says ↦ let first : start.basic ≡ None = says.first in absurd (cc)
]

-- such an extension is among these
record Among (extensions : List ExtensionView) : Type 0 where
  before : List ExtensionView
  extension : ExtensionView
  behind : List ExtensionView
  stands : extensions ≡ before ++ extension ∷ behind
  named : extension.oid ≡ certificate_extension 19
  basic : BasicView
  content : BasicText extension.value basic
  is_ca : basic.is_ca ≡ true

further : (view : ExtensionView) (more : List ExtensionView) → Among more → Among (view ∷ more)
further view more s =
    record {
      before = view ∷ s.before;
      extension = s.extension;
      behind = s.behind;
      stands = ap (λ (l : List ExtensionView). view ∷ l) s.stands;
      named = s.named;
      basic = s.basic;
      content = s.content;
      is_ca = s.is_ca;
    }

said : (extensions : List ExtensionView) (start end : Values) (basic : BasicView) → ComeTo Adds start extensions end → start.basic ≡ None → end.basic ≡ Some basic → basic.is_ca ≡ true
    → Among extensions
said [] start end basic e none is ca = let k : end.basic ≡ start.basic = ap (λ (v : Values). v.basic) e in absurd (cc)
said (view ∷ more) start end basic (next, adds, come) none is ca = elim (step_of start next view adds) [
  | inl same ↦ further view more (said more next end basic come (same ∙ none) is ca)
  | inr says ↦
      let same : says.basic ≡ basic = same_Some says.basic basic (sym (kept more next end says.basic come says.is) ∙ is) in
      record {
        before = [];
        extension = view;
        behind = more;
        stands = refl;
        named = says.named;
        basic = says.basic;
        content = says.text;
        is_ca = ap (λ (b : BasicView). b.is_ca) same ∙ ca;
      }
]

values_by : (text : List ℕ) (values : Values) → ExtensionsText text values → (basic : Option BasicView) → values.basic ≡ basic → says_ca basic ≡ true → SaysAuthority text
values_by text values is None e ca = absurd (cc)
values_by text values (inl absent) (Some basic) e ca = let k : values.basic ≡ None = ap (λ (v : Values). v.basic) absent.1 in absurd (cc)
values_by text values (inr marked) (Some basic) e ca =
    let s = said marked.each.extensions no_values values basic marked.each.say refl e ca in
    record {
      values = values;
      marked = marked;
      before = s.before;
      extension = s.extension;
      behind = s.behind;
      stands = s.stands;
      named = s.named;
      basic = s.basic;
      content = s.content;
      is_ca = s.is_ca;
    }

pub authority_says : (bytes : List ℕ) (c : CertView) (certificate : Cert bytes c) → c.is_ca ≡ true → SaysAuthority certificate.parts.extensions
authority_says bytes c certificate ca =
    let own : says_ca certificate.parts.values.basic ≡ true =
    sym (ap (λ (t : TbsView). says_ca t.extensions.basic) certificate.parts.says) ∙ sym (ap (λ (v : CertView). v.is_ca) certificate.says) ∙ ca in
    values_by certificate.parts.extensions certificate.parts.values certificate.parts.is_extensions certificate.parts.values.basic refl own
