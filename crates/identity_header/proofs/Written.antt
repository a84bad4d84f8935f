-- The spelling of parts that are in their rows is in the grammar.
use Rattle.std.proofs.Common.{◌≡◌, ℕ, true, not, eqb, inl, inr, List, [], ◌∷◌, ◌++◌, length, Option, Some, None, IfSome, refl, ◌∙◌, subst, append_assoc, arith, codes}
use Rattle.std.specs.List.{list_all}
use Rattle.std.proofs.lemmas.Bool.{cases_Bool, and_parts, eqb-false, not-true}
use Rattle.std.proofs.lemmas.List.{append-nil}
use Rattle.text_grammar.specs.Bytes.{is_name_byte}
use Rattle.text_grammar.specs.Grammar.{◌▹◌, Byte, Blanks, Any, Many}
use Rattle.identity_header.specs.Parts.{Parts, InRows, is_bare_byte, is_quoted_byte}
use Rattle.identity_header.specs.FieldText.{Param, ValueText, ParamsText, values_of, at_most_one, Params, FieldText}
use Rattle.identity_header.specs.Spelling.{is_bare, value_text, param_text, spelling}

no_blanks : (N : List ℕ → Type 0) (t : List ℕ) → N t → (Blanks ▹ N) t
no_blanks N t m = record { piece = []; rest = t; split = refl; is_piece = refl; goes_on = m }

byte_then : (c : ℕ) (N : List ℕ → Type 0) (t : List ℕ) → N t → (Byte c ▹ N) (c ∷ t)
byte_then c N t m = record { piece = c ∷ []; rest = t; split = refl; is_piece = refl; goes_on = m }

value_is : (v : List ℕ) → Any is_quoted_byte v → ValueText v (value_text v)
value_is v h = elim (cases_Bool (is_bare v)) [
  | inl k ↦ rw k (inl (refl, bare k))
  | inr k ↦ rw k (inr (refl, h))
]
  where
    bare : is_bare v ≡ true → Many is_bare_byte v
    bare k =
        let w : (not (eqb (length v) 0) ≡ true) × (list_all is_bare_byte v ≡ true) = and_parts (not (eqb (length v) 0)) (list_all is_bare_byte v) k in
        record { each = w.1; some = let e : length v ≡ 0 → ⊥ = eqb-false (length v) 0 (not-true _ w.0) in omega (arith, e) }

-- a parameter, if there is one
abbrev param_of : List ℕ → Option (List ℕ) → List Param
param_of name None = []
param_of name (Some v) = record { name = name; value = Some v } ∷ []

param_is : (name : List ℕ) → Many is_name_byte name → (o : Option (List ℕ)) → IfSome o (Any is_quoted_byte) → (ps : List Param) (t : List ℕ)
    → ParamsText ps t → ParamsText (param_of name o ++ ps) (param_text (59 ∷ (name ++ 61 ∷ [])) o ++ t)
param_is name n None h ps t m = m
param_is name n (Some v) h ps t m =
    no_blanks _ _ (byte_then 59 _ _ (no_blanks _ _ (record {
      piece = name;
      rest = 61 ∷ (value_text v ++ t);
      split = append_assoc (name ++ 61 ∷ []) (value_text v) t ∙ append_assoc name (61 ∷ []) (value_text v ++ t);
      is_piece = record { same = refl; bytes = n };
      goes_on = no_blanks _ _ (byte_then 61 _ _ (no_blanks _ _ (record {
        piece = value_text v;
        rest = t;
        split = refl;
        is_piece = value_is v h;
        goes_on = m;
      })));
    })))

written_params : (f : Parts) → InRows f
    → Params f.token f.info f (param_text (codes ";alg=") f.alg ++ (param_text (codes ";ppt=") f.ppt ++ []))
written_params f r = record {
  params = param_of (codes "alg") f.alg ++ (param_of (codes "ppt") f.ppt ++ []);
  is_text = param_is (codes "alg") (record { each = refl; some = omega arith }) f.alg r.alg _ _
      (param_is (codes "ppt") (record { each = refl; some = omega arith }) f.ppt r.ppt [] [] refl);
  token = refl;
  info = refl;
  alg = algs f.alg f.ppt;
  ppt = ppts f.alg f.ppt;
  no_more = infos f.alg f.ppt;
}
  where
    algs : (a p : Option (List ℕ)) → values_of (codes "alg") (param_of (codes "alg") a ++ (param_of (codes "ppt") p ++ [])) ≡ at_most_one a
    algs None None = refl
    algs None (Some y) = refl
    algs (Some x) None = refl
    algs (Some x) (Some y) = refl

    ppts : (a p : Option (List ℕ)) → values_of (codes "ppt") (param_of (codes "alg") a ++ (param_of (codes "ppt") p ++ [])) ≡ at_most_one p
    ppts None None = refl
    ppts None (Some y) = refl
    ppts (Some x) None = refl
    ppts (Some x) (Some y) = refl

    infos : (a p : Option (List ℕ)) → values_of (codes "info") (param_of (codes "alg") a ++ (param_of (codes "ppt") p ++ [])) ≡ []
    infos None None = refl
    infos None (Some y) = refl
    infos (Some x) None = refl
    infos (Some x) (Some y) = refl

regrouped : (f : Parts) → spelling f ≡ f.token ++ (codes ";info=<" ++ (f.info ++ (codes ">" ++ (param_text (codes ";alg=") f.alg ++ (param_text (codes ";ppt=") f.ppt ++ [])))))
unfolding spelling
regrouped f = simp (append_assoc, append-nil)

pub field_written : (f : Parts) → InRows f → FieldText f (spelling f)
unfolding FieldText
field_written f r = rw regrouped (record {
  piece = f.token;
  rest = codes ";info=<" ++ (f.info ++ (codes ">" ++ (param_text (codes ";alg=") f.alg ++ (param_text (codes ";ppt=") f.ppt ++ []))));
  split = refl;
  is_piece = r.token;
  goes_on = no_blanks _ _ (byte_then 59 _ _ (no_blanks _ _ (record {
    piece = codes "info";
    rest = codes "=<" ++ (f.info ++ (codes ">" ++ (param_text (codes ";alg=") f.alg ++ (param_text (codes ";ppt=") f.ppt ++ []))));
    split = refl;
    is_piece = refl;
    goes_on = no_blanks _ _ (byte_then 61 _ _ (no_blanks _ _ (byte_then 60 _ _ (record {
      piece = f.info;
      rest = _;
      split = refl;
      is_piece = r.info;
      goes_on = byte_then 62 _ _ (written_params f r);
    }))));
  })));
})

pub reads_back : (f g : Parts) (text : List ℕ) → f ≡ g → InRows f → text ≡ spelling f → FieldText g text
reads_back f g text same r e =
    let m : FieldText f text = rw e (field_written f r) in
    subst (λ (h : Parts). FieldText h text) same m
