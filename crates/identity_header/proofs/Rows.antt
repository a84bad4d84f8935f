-- The parts of a value in the grammar are in their rows.
use Rattle.std.proofs.Common.{◌≡◌, ℕ, ◌≤◌, Bool, true, false, not, ◌||◌, ◌&&◌, inl, inr, List, [], ◌∷◌, Option, Some, None, IfSome, refl, subst, arith, codes}
use Rattle.std.specs.Prelude.{nat_le}
use Rattle.std.specs.List.{list_all}
use Rattle.std.proofs.lemmas.Bool.{cases_Bool, and_parts, and_from, leb-true, agree_below_at}
use Rattle.text_grammar.specs.Bytes.{is_word}
use Rattle.text_grammar.specs.Grammar.{◌▹◌, Any, Run}
use Rattle.text_grammar.specs.Bytes.{is_uri_byte}
use Rattle.identity_header.specs.Parts.{Parts, InRows, is_digest_byte, is_bare_byte, is_quoted_byte}
use Rattle.identity_header.specs.FieldText.{Param, ValueText, Valued, IsName, ParamsText, values_of, at_most_one, FieldText}

-- A bare byte may be between quotes.
bare_quoted : (b : ℕ) → is_bare_byte b ≡ true → is_quoted_byte b ≡ true
bare_quoted b h =
    let visible : (nat_le 33 b && nat_le b 126) ≡ true = (and_parts (nat_le 33 b && nat_le b 126) _ h).0 in
    let low : b ≤ 126 = leb-true b 126 (and_parts (nat_le 33 b) (nat_le b 126) visible).1 in
    let both : (not (is_bare_byte b) || is_quoted_byte b) ≡ true =
    agree_below_at (λ x. not (is_bare_byte x) || is_quoted_byte x) (λ x. true) 256 b refl (omega arith) in
    from_both (is_bare_byte b) (is_quoted_byte b) h both
  where
    from_both : (x y : Bool) → x ≡ true → (not x || y) ≡ true → y ≡ true
    from_both true y k l = l
    from_both false y k l = cc

pub all_bare_quoted : (a : List ℕ) → list_all is_bare_byte a ≡ true → list_all is_quoted_byte a ≡ true
all_bare_quoted [] h = refl
all_bare_quoted (x ∷ a) h =
    let w : (is_bare_byte x ≡ true) × (list_all is_bare_byte a ≡ true) = and_parts (is_bare_byte x) (list_all is_bare_byte a) h in
    and_from (is_quoted_byte x) (list_all is_quoted_byte a) (bare_quoted x w.0) (all_bare_quoted a w.1)

value_quoted : (v t : List ℕ) → ValueText v t → Any is_quoted_byte v
value_quoted v t m = elim m [ inl h ↦ all_bare_quoted v h.1.each | inr h ↦ h.1 ]

-- each value of such a list may be between quotes
abbrev AllQuoted : List (Option (List ℕ)) → Type 0
AllQuoted [] = Unit {0}
AllQuoted (v ∷ vs) = IfSome v (Any is_quoted_byte) × AllQuoted vs

values_quoted : (word : List ℕ) (ps : List Param) (t : List ℕ) → ParamsText ps t → AllQuoted (values_of word ps)
values_quoted word [] t m = tt
values_quoted word (p ∷ ps) t m =
    let n : (IsName p.name ▹ Valued p.value (ParamsText ps)) m.goes_on.goes_on.rest = m.goes_on.goes_on.goes_on in
    let r : (t : List ℕ) × ParamsText ps t = rest p.value n.rest n.goes_on in
    elim (cases_Bool (is_word word p.name)) [
      | inl k ↦ rw k (first p.value n.rest n.goes_on, values_quoted word ps r.0 r.1)
      | inr k ↦ rw k (values_quoted word ps r.0 r.1)
    ]
  where
    first : (v : Option (List ℕ)) (u : List ℕ) → Valued v (ParamsText ps) u → IfSome v (Any is_quoted_byte)
    first None u q = tt
    first (Some v) u q = value_quoted v q.goes_on.goes_on.goes_on.piece q.goes_on.goes_on.goes_on.is_piece

    rest : (v : Option (List ℕ)) (u : List ℕ) → Valued v (ParamsText ps) u → (t : List ℕ) × ParamsText ps t
    rest None u q = (u, q)
    rest (Some v) u q = (q.goes_on.goes_on.goes_on.rest, q.goes_on.goes_on.goes_on.goes_on)

only_quoted : (o : Option (List ℕ)) (vs : List (Option (List ℕ))) → vs ≡ at_most_one o → AllQuoted vs → IfSome o (Any is_quoted_byte)
only_quoted None vs e a = tt
only_quoted (Some v) vs e a = (subst AllQuoted e a).0

pub field_in_rows : (f : Parts) (value : List ℕ) → FieldText f value → InRows f
unfolding FieldText
field_in_rows f value m =
    let u = m.goes_on.goes_on.goes_on.goes_on.goes_on.goes_on.goes_on.goes_on.goes_on in
    let p = u.goes_on.goes_on in
    record {
      token = subst (Run is_digest_byte 8192) p.token m.is_piece;
      info = subst (Run is_uri_byte 2048) p.info u.is_piece;
      alg = only_quoted f.alg _ p.alg (values_quoted (codes "alg") p.params _ p.is_text);
      ppt = only_quoted f.ppt _ p.ppt (values_quoted (codes "ppt") p.params _ p.is_text);
    }
