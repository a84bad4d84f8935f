-- The scheme of a URI is the one that is found at its beginning, and a URI has no two that begin differently.
use Rattle.std.proofs.Common.{◌≡◌, ℕ, ◌+◌, true, ◌&&◌, ◌==◌, cond, nat_le, List, [], ◌∷◌, ◌++◌, length, take, drop, Option, Some, None, refl, ap, sym, ◌∙◌, subst, arith, length-append, take-append-drop, le-leb, eqb-true}
use Rattle.std.specs.Char.{to_ascii_lowercase}
use Rattle.std.specs.Cmp.Derive.{both_true}
use Rattle.std.specs.Str.{str_eq_ignore_ascii_case, str_to_ascii_lowercase}
use Rattle.std.proofs.lemmas.Bool.{and_parts}
use Rattle.std.proofs.lemmas.List.{length-map}
use Rattle.std.proofs.lemmas.Option.{cond_some}
use lib.Seq.{take-append_seam, drop-append_seam}
use Rattle.lists.proofs.Bytes.{bytes_same}
use Rattle.sip_message.specs.Address.{behind_scheme}
use Rattle.sip_message.specs.UriNumber.{HasScheme}

-- ---- what is found is a scheme, and a scheme is found

pub scheme_found : (scheme uri rest : List ℕ) → behind_scheme scheme uri ≡ Some rest → HasScheme scheme uri rest
scheme_found scheme uri rest h =
    let front = take (length scheme) uri in
    let c = cond_some (nat_le (length scheme) (length uri) && str_eq_ignore_ascii_case front scheme) (drop (length scheme) uri) rest h in
    record {
      name = front;
      same = (and_parts (nat_le (length scheme) (length uri)) (str_eq_ignore_ascii_case front scheme) c.0).1;
      text = sym (take-append-drop (length scheme) uri) ∙ ap (λ x. front ++ x) c.1;
    }

same_length : (name scheme : List ℕ) → str_eq_ignore_ascii_case name scheme ≡ true → length name ≡ length scheme
same_length name scheme h =
    sym (length-map name to_ascii_lowercase) ∙ ap length (bytes_same (str_to_ascii_lowercase name) (str_to_ascii_lowercase scheme) h)
    ∙ length-map scheme to_ascii_lowercase

pub scheme_read : (scheme uri rest : List ℕ) → HasScheme scheme uri rest → behind_scheme scheme uri ≡ Some rest
scheme_read scheme uri rest h =
    let long : length h.name ≡ length scheme = same_length h.name scheme h.same in
    let total : length uri ≡ length h.name + length rest = ap length h.text ∙ length-append h.name rest in
    let within : nat_le (length scheme) (length uri) ≡ true = le-leb (length scheme) (length uri) (omega arith) in
    let front : take (length scheme) uri ≡ h.name
    = ap (λ n. take n uri) (sym long) ∙ ap (take (length h.name)) h.text ∙ take-append_seam h.name rest in
    let left : drop (length scheme) uri ≡ rest
    = ap (λ n. drop n uri) (sym long) ∙ ap (drop (length h.name)) h.text ∙ drop-append_seam h.name rest in
    let same : str_eq_ignore_ascii_case (take (length scheme) uri) scheme ≡ true
    = ap (λ x. str_eq_ignore_ascii_case x scheme) front ∙ h.same in
    ap (λ t. cond t (Some (drop (length scheme) uri)) None) (both_true within same) ∙ ap Some left

-- ---- no two schemes

-- a URI of a scheme begins with its first letter, and the rest has the rest of the scheme
record Letter (a : ℕ) (scheme uri rest : List ℕ) : Type 0 where
  byte : ℕ
  more : List ℕ
  parts : uri ≡ byte ∷ more
  same : to_ascii_lowercase byte ≡ to_ascii_lowercase a
  goes_on : HasScheme scheme more rest

letter_by : (a : ℕ) (scheme uri rest name : List ℕ) → str_eq_ignore_ascii_case name (a ∷ scheme) ≡ true → uri ≡ name ++ rest → Letter a scheme uri rest
letter_by a scheme uri rest [] h text = absurd cc
letter_by a scheme uri rest (b ∷ bs) h text =
    let p = and_parts (to_ascii_lowercase b == to_ascii_lowercase a) (str_eq_ignore_ascii_case bs scheme) h in
    record {
      byte = b;
      more = bs ++ rest;
      parts = text;
      same = eqb-true (to_ascii_lowercase b) (to_ascii_lowercase a) p.0;
      goes_on = record { name = bs; same = p.1; text = refl };
    }

letter : (a : ℕ) (scheme uri rest : List ℕ) → HasScheme (a ∷ scheme) uri rest → Letter a scheme uri rest
letter a scheme uri rest h = letter_by a scheme uri rest h.name h.same h.text

-- letter by letter the two are the same, up to the end of the shorter one
abbrev pub AreAlike : List ℕ → List ℕ → Type 0
AreAlike [] other = Unit {0}
AreAlike (a ∷ scheme) [] = Unit {0}
AreAlike (a ∷ scheme) (b ∷ other) = (to_ascii_lowercase a ≡ to_ascii_lowercase b) × AreAlike scheme other

alike : (scheme other uri rest behind : List ℕ) → HasScheme scheme uri rest → HasScheme other uri behind → AreAlike scheme other
alike [] other uri rest behind h k = tt
alike (a ∷ scheme) [] uri rest behind h k = tt
alike (a ∷ scheme) (b ∷ other) uri rest behind h k =
    let p = letter a scheme uri rest h in
    let q = letter b other uri behind k in
    let both : p.byte ∷ p.more ≡ q.byte ∷ q.more = sym p.parts ∙ q.parts in
    let one : p.byte ≡ q.byte = cc in
    let more : q.more ≡ p.more = cc in (
      sym p.same ∙ ap to_ascii_lowercase one ∙ q.same,
      alike scheme other p.more rest behind p.goes_on (subst (λ (u : List ℕ). HasScheme other u behind) more q.goes_on),
    )

other_by : (scheme other uri behind : List ℕ) (k : Option (List ℕ)) → behind_scheme scheme uri ≡ k → HasScheme other uri behind → (AreAlike scheme other → ⊥)
    → ◌≡◌ {A = Option (List ℕ)} (behind_scheme scheme uri) None
other_by scheme other uri behind None e h apart = e
other_by scheme other uri behind (Some rest) e h apart = absurd (apart (alike scheme other uri rest behind (scheme_found scheme uri rest e) h))

-- a URI of one scheme has no other one
pub other_scheme : (scheme other uri behind : List ℕ) → HasScheme other uri behind → (AreAlike scheme other → ⊥) → ◌≡◌ {A = Option (List ℕ)} (behind_scheme scheme uri) None
other_scheme scheme other uri behind h apart = other_by scheme other uri behind (behind_scheme scheme uri) refl h apart
