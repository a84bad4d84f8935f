-- The telephone number that a URI gives (RFC 3966, section 3; RFC 3261, section 19.1.6; which part is the number's text
-- is this project's own rule).
use Rattle.std.specs.Prelude.{◌≡◌, ℕ, Bool, true, ◌==◌, ◌||◌, List, ◌∷◌, ◌++◌, codes}
use Rattle.std.specs.Str.{str_eq_ignore_ascii_case}
use Rattle.text_grammar.specs.Cut.{lacks}
use Rattle.tn_values.specs.Canon.{StandsFor}
use Rattle.tn_values.specs.Local.{LocalView}
use Rattle.sip_message.specs.UpTo.{UpTo}

-- the URI has this scheme, which is compared without case, and this after it
pub record HasScheme (scheme uri rest : List ℕ) : Type 0 where
  pub name : List ℕ
  pub same : str_eq_ignore_ascii_case name scheme ≡ true
  pub text : uri ≡ name ++ rest

-- `;`, with which parameters begin
abbrev pub is_semicolon : ℕ → Bool
is_semicolon byte = byte == 59

-- `;`, or the `:` before a password
abbrev pub ends_user : ℕ → Bool
ends_user byte = byte == 59 || byte == 58

-- after the scheme come a user part and an `@`, the first; the text is the user part up to its first `;` or `:`
pub record IsUserText (rest text : List ℕ) : Type 0 where
  pub user : List ℕ
  pub behind : List ℕ
  pub parts : rest ≡ user ++ 64 ∷ behind
  pub first_at : lacks 64 user ≡ true
  pub front : UpTo ends_user user text

-- the text that is a URI's number, by its scheme
pub data IsNumberText (uri text : List ℕ) : Type 0 where
  tel : (rest : List ℕ) → HasScheme (codes "tel:") uri rest → UpTo is_semicolon rest text → IsNumberText uri text
  sip : (rest : List ℕ) → HasScheme (codes "sip:") uri rest → IsUserText rest text → IsNumberText uri text
  sips : (rest : List ℕ) → HasScheme (codes "sips:") uri rest → IsUserText rest text → IsNumberText uri text

-- the URI gives this number
pub record GivesNumber (uri : List ℕ) (local : LocalView) (number : List ℕ) : Type 0 where
  pub text : List ℕ
  pub is_text : IsNumberText uri text
  pub stands : StandsFor text local number
