-- The law of a value, bare or between quotes.
use Rattle.std.proofs.Common.{◌≡◌, ℕ, false, ◌⊎◌, inl, inr, List, [], ◌∷◌, ◌++◌, take, drop, Ok, Err, refl, sym, ◌∙◌, ap, append_assoc}
use Rattle.std.specs.Prelude.{◌==◌}
use Rattle.std.specs.List.{prefix_len}
use Rattle.std.proofs.lemmas.Bool.{cases_Bool, ne_eqb, eq-eqb, both_ways}
use Rattle.text_grammar.specs.Grammar.{Taking, ◌▹◌, Byte, Any, Many}
use Rattle.text_grammar.specs.Reading.{Read, byte_at, skip, many_at, either_at}
use Rattle.lists.specs.Steps.{◌>>=◌}
use Rattle.text_grammar.proofs.Laws.{Law, law_reads}
use Rattle.text_grammar.proofs.Pieces.{law_mark, law_either}
use Rattle.text_grammar.proofs.Runs.{law_any, law_some}
use Rattle.identity_header.specs.Parts.{is_bare_byte, is_quoted_byte}
use Rattle.identity_header.specs.FieldText.{ValueText}
use Rattle.identity_header.specs.Reading.{quoted_at, value_at}
use Rattle.identity_header.proofs.Heads.{byte_head, byte_none, many_head}

-- a value, and then a text that may depend on it
abbrev pub ValueThen : (F : Type 0) → (List ℕ → F → List ℕ → Type 0) → F → List ℕ → Type 0
ValueThen F N f t = (Byte 34 ▹ Taking (Any is_quoted_byte) (λ v. Byte 34 ▹ N v f)) t ⊎ Taking (Many is_bare_byte) (λ v. N v f) t

pub value_to : (F : Type 0) (f : F) (w : List ℕ) (M : List ℕ → Type 0) (N : List ℕ → F → List ℕ → Type 0) (u : List ℕ)
    → ((t : List ℕ) → M t → N w f t) → (ValueText w ▹ M) u → ValueThen F N f u
value_to F f w M N u go m = elim m.is_piece [
  | inl h ↦ inr (record {
    piece = w;
    rest = m.rest;
    split = m.split ∙ ap (λ (a : List ℕ). a ++ m.rest) h.0;
    is_piece = h.1;
    goes_on = go m.rest m.goes_on;
  })
  | inr h ↦ inl (record {
    piece = 34 ∷ [];
    rest = w ++ (34 ∷ m.rest);
    split = m.split ∙ ap (λ (a : List ℕ). a ++ m.rest) h.0 ∙ ap (λ (a : List ℕ). 34 ∷ a) (append_assoc w (34 ∷ []) m.rest);
    is_piece = refl;
    goes_on = record {
      piece = w;
      rest = 34 ∷ m.rest;
      split = refl;
      is_piece = h.1;
      goes_on = record { piece = 34 ∷ []; rest = m.rest; split = refl; is_piece = refl; goes_on = go m.rest m.goes_on };
    };
  })
]

pub value_from : (F : Type 0) (f : F) (N : List ℕ → F → List ℕ → Type 0) (u : List ℕ)
    → ValueThen F N f u → (w : List ℕ) × (ValueText w ▹ N w f) u
value_from F f N u m = elim m [
  | inr t ↦ (t.piece, record { piece = t.piece; rest = t.rest; split = t.split; is_piece = inl (refl, t.is_piece); goes_on = t.goes_on })
  | inl t ↦ (
    t.goes_on.piece,
    record {
      piece = 34 ∷ (t.goes_on.piece ++ 34 ∷ []);
      rest = t.goes_on.goes_on.rest;
      split = quotes t;
      is_piece = inr (refl, t.goes_on.is_piece);
      goes_on = t.goes_on.goes_on.goes_on;
    },
  )
]
  where
    quotes : (t : (Byte 34 ▹ Taking (Any is_quoted_byte) (λ v. Byte 34 ▹ N v f)) u)
        → u ≡ (34 ∷ (t.goes_on.piece ++ 34 ∷ [])) ++ t.goes_on.goes_on.rest
    quotes t =
        let a : t.piece ≡ 34 ∷ [] = t.is_piece in
        let b : t.goes_on.goes_on.piece ≡ 34 ∷ [] = t.goes_on.goes_on.is_piece in
        let c : t.goes_on.rest ≡ (34 ∷ []) ++ t.goes_on.goes_on.rest = t.goes_on.goes_on.split ∙ ap (λ (x : List ℕ). x ++ t.goes_on.goes_on.rest) b in
        let d : t.rest ≡ t.goes_on.piece ++ ((34 ∷ []) ++ t.goes_on.goes_on.rest) = t.goes_on.split ∙ ap (λ (x : List ℕ). t.goes_on.piece ++ x) c in
        let e : u ≡ (34 ∷ []) ++ t.rest = t.split ∙ ap (λ (x : List ℕ). x ++ t.rest) a in
        e ∙ ap (λ (x : List ℕ). 34 ∷ x) (d ∙ sym (append_assoc t.goes_on.piece (34 ∷ []) t.goes_on.goes_on.rest))

abbrev quoted_reader : (F : Type 0) → (List ℕ → List ℕ → Read F) → List ℕ → Read F
quoted_reader F r t = byte_at 34 t >>= (λ u. byte_at 34 (drop (prefix_len is_quoted_byte u) u) >>= r (take (prefix_len is_quoted_byte u) u))

abbrev bare_reader : (F : Type 0) → (List ℕ → List ℕ → Read F) → List ℕ → Read F
bare_reader F r t = many_at is_bare_byte t >>= (λ x. r x.0 x.1)

same_reader : (F : Type 0) (r : List ℕ → List ℕ → Read F) (t : List ℕ)
    → (value_at t >>= (λ x. r x.0 x.1)) ≡ either_at (λ b. b == 34) (quoted_reader F r) (bare_reader F r) t
unfolding value_at quoted_at
same_reader F r [] = refl
same_reader F r (b ∷ t) = elim (cases_Bool (b == 34)) [ inl k ↦ rw k (closing (byte_at 34 (skip is_quoted_byte t))) | inr k ↦ rw k refl ]
  where
    closing : (m : Read (List ℕ))
        → (◌>>=◌ {B = List ℕ × List ℕ} m (λ rest. Ok (take (prefix_len is_quoted_byte t) t, rest)) >>= (λ x. r x.0 x.1))
        ≡ (m >>= r (take (prefix_len is_quoted_byte t) t))
    closing (Ok x) = refl
    closing (Err left) = refl

pub law_value : (F : Type 0) (n : ℕ) (r : List ℕ → List ℕ → Read F) (N : List ℕ → F → List ℕ → Type 0)
    → ((a : List ℕ) (f : F) (x : ℕ) (u : List ℕ) → N a f (x ∷ u) → is_bare_byte x ≡ false)
    → ((v : List ℕ) → Law F n (r v) (N v))
    → Law F n (λ t. value_at t >>= (λ x. r x.0 x.1)) (λ f. ValueThen F N f)
law_value F n r N heads l =
    law_reads F n (λ t. either_at (λ b. b == 34) (quoted_reader F r) (bare_reader F r) t) (λ t. value_at t >>= (λ x. r x.0 x.1))
    (λ f. ValueThen F N f) (λ t h. same_reader F r t)
    (law_either F n (λ b. b == 34) (quoted_reader F r) (bare_reader F r)
    (λ f. Byte 34 ▹ Taking (Any is_quoted_byte) (λ v. Byte 34 ▹ N v f)) (λ f. Taking (Many is_bare_byte) (λ v. N v f))
    (λ f m. byte_none 34 _ m)
    (λ f x u m. eq-eqb x 34 (byte_head 34 x _ u m))
    (λ f x u m. ne_eqb x 34 (λ e. both_ways (is_bare_byte x) (ap is_bare_byte e) (many_head is_bare_byte x _ u m)))
    (law_mark F n 34 _ _ (law_any F n is_quoted_byte (λ v u. byte_at 34 u >>= r v) (λ v f. Byte 34 ▹ N v f)
    (λ a f x u m. ap is_quoted_byte (byte_head 34 x _ u m)) (λ a h. law_mark F n 34 (r a) (N a) (l a))))
    (law_some F n is_bare_byte 97 r N refl heads (λ a h. l a)))
