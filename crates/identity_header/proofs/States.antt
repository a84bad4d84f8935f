-- The parameters that come after a state, which is what was seen so far: the grammar of what may follow, by what comes next.
use Rattle.std.proofs.Common.{◌≡◌, ℕ, true, false, ◌⊎◌, inl, inr, List, [], ◌∷◌, ◌++◌, map, Option, Some, None, refl, sym, ◌∙◌, ap, subst, arith, codes}
use Rattle.std.proofs.lemmas.Bool.{false_from_ne_true}
use Rattle.std.proofs.lemmas.List.{append-nil, map-append, same_from_push}
use Rattle.std.specs.Str.{bytes_eq}
use Rattle.std.proofs.lemmas.Slice.Eq.{bytes_eq-Decides}
use Rattle.text_grammar.specs.Bytes.{lower, is_word, is_name_byte}
use Rattle.text_grammar.specs.Grammar.{Taking, ◌▹◌, Byte, Blanks, Many, End}
use Rattle.identity_header.specs.Parts.{Parts}
use Rattle.identity_header.specs.FieldText.{Param, ValueText, Valued, IsName, ParamsText, values_of, at_most_one}
use Rattle.identity_header.proofs.ValueLaw.{ValueThen, value_to, value_from}

-- what comes after a piece, in other words
pub on_rest : (A : List ℕ → Type 0) (N M : List ℕ → List ℕ → Type 0) (t : List ℕ)
    → ((a u : List ℕ) → N a u → M a u) → Taking A N t → Taking A M t
on_rest A N M t go m = record { piece = m.piece; rest = m.rest; split = m.split; is_piece = m.is_piece; goes_on = go m.piece m.rest m.goes_on }

pub with_rest : (A : List ℕ → Type 0) (N M : List ℕ → List ℕ → Type 0) (t : List ℕ)
    → (m : Taking A N t) → M m.piece m.rest → Taking A M t
with_rest A N M t m x = record { piece = m.piece; rest = m.rest; split = m.split; is_piece = m.is_piece; goes_on = x }

-- From the state s these parameters make f.
pub record Adds (s : Parts) (params : List Param) (f : Parts) : Type 0 where
  pub token : s.token ≡ f.token
  pub info : s.info ≡ f.info
  pub alg : (at_most_one s.alg ++ values_of (codes "alg") params) ≡ at_most_one f.alg
  pub ppt : (at_most_one s.ppt ++ values_of (codes "ppt") params) ≡ at_most_one f.ppt
  pub no_more : values_of (codes "info") params ≡ []

abbrev pub param : List ℕ → Option (List ℕ) → Param
param name value = record { name = name; value = value }

-- after a parameter, or after the uri
pub record Rest (s f : Parts) (text : List ℕ) : Type 0 where
  pub params : List Param
  pub is_text : ParamsText params text
  pub adds : Adds s params f

-- after a name
pub record After (s : Parts) (name : List ℕ) (f : Parts) (text : List ℕ) : Type 0 where
  pub value : Option (List ℕ)
  pub params : List Param
  pub is_text : Valued value (ParamsText params) text
  pub adds : Adds s (param name value ∷ params) f

-- at a semicolon
abbrev pub Semi : Parts → Parts → List ℕ → Type 0
Semi s f = Byte 59 ▹ Blanks ▹ Taking (Many is_name_byte) (λ name. After s name f)

-- after a name that has to have a value, from which the next state is made
abbrev pub Given : (List ℕ → Parts) → Parts → List ℕ → Type 0
Given o f = Blanks ▹ Byte 61 ▹ Blanks ▹ ValueThen Parts (λ v. Rest (o v)) f

-- after a name that may have one
abbrev pub Equals : Parts → Parts → List ℕ → Type 0
Equals s f = Byte 61 ▹ Blanks ▹ ValueThen Parts (λ v. Rest s) f

abbrev pub Optional : Parts → Parts → List ℕ → Type 0
Optional s f t = (Blanks ▹ (λ u. Equals s f u ⊎ Semi s f u)) t ⊎ End Parts s f t

same_parts : (s f : Parts) → s.token ≡ f.token → s.info ≡ f.info → s.alg ≡ f.alg → s.ppt ≡ f.ppt → s ≡ f
same_parts s f a b c d =
    ap (λ (x : List ℕ). record s { token = x }) a ∙ ap (λ (x : List ℕ). record s { token = f.token; info = x }) b
    ∙ ap (λ (x : Option (List ℕ)). record f { alg = x; ppt = s.ppt }) c ∙ ap (λ (x : Option (List ℕ)). record f { ppt = x }) d

one_value : (o p : Option (List ℕ)) → (at_most_one o ++ []) ≡ at_most_one p → o ≡ p
one_value None None e = refl
one_value None (Some y) e = absurd (cc)
one_value (Some x) None e = absurd (cc)
one_value (Some x) (Some y) e = let h : Some x ≡ Some y = cc in h

pub adds_none : (s : Parts) → Adds s [] s
adds_none s = record { token = refl; info = refl; alg = append-nil (at_most_one s.alg); ppt = append-nil (at_most_one s.ppt); no_more = refl }

-- At most one value, and another one before the others: it is the only one.
one_more : (o v : Option (List ℕ)) (vs : List (Option (List ℕ))) (p : Option (List ℕ)) → (at_most_one o ++ v ∷ vs) ≡ at_most_one p
    → (o ≡ None) × (w : List ℕ) × (v ≡ Some w) × ((at_most_one (Some w) ++ vs) ≡ at_most_one p)
one_more (Some x) v vs None e = absurd (cc)
one_more (Some x) v vs (Some y) e = let h : v ∷ vs ≡ [] = cc in absurd (cc)
one_more None v vs None e = absurd (cc)
one_more None None vs (Some y) e = let h : None ≡ Some y = cc in absurd (cc)
one_more None (Some w) vs (Some y) e = (refl, w, refl, e)

-- what a word says of a name that another word fits
pub other_word : (v w name : List ℕ) → is_word v name ≡ true → is_word w name ≡ bytes_eq v w
other_word v w name h =
    let e : map lower name ≡ v = (bytes_eq-Decides (map lower name) v).0 h in
    ap (λ (x : List ℕ). bytes_eq x w) e

pub rest_to : (s f : Parts) (t : List ℕ) → Rest s f t → (Blanks ▹ Semi s f) t ⊎ End Parts s f t
rest_to s f t r = by_params r.params r.is_text r.adds
  where
    by_params : (ps : List Param) → ParamsText ps t → Adds s ps f → (Blanks ▹ Semi s f) t ⊎ End Parts s f t
    by_params [] e a = inr (record {
      empty = e;
      same = same_parts s f a.token a.info (one_value s.alg f.alg a.alg) (one_value s.ppt f.ppt a.ppt);
    })
    by_params (p ∷ ps) m a = inl (with_rest _ _ _ t m (with_rest _ _ _ m.rest m.goes_on (with_rest _ _ _ m.goes_on.rest m.goes_on.goes_on
        (named m.goes_on.goes_on.rest m.goes_on.goes_on.goes_on))))
      where
        named : (u : List ℕ) → (IsName p.name ▹ Valued p.value (ParamsText ps)) u → Taking (Many is_name_byte) (λ name. After s name f) u
        named u n = record {
          piece = n.piece;
          rest = n.rest;
          split = n.split;
          is_piece = n.is_piece.bytes;
          goes_on = record {
            value = p.value;
            params = ps;
            is_text = n.goes_on;
            adds = let P : List ℕ → Type 0 = λ name. Adds s (param name p.value ∷ ps) f in subst P (sym n.is_piece.same) a;
          };
        }

pub rest_from : (s f : Parts) (t : List ℕ) → (Blanks ▹ Semi s f) t ⊎ End Parts s f t → Rest s f t
rest_from s f t m = elim m [
  | inl b ↦ of_semi b
  | inr e ↦ record { params = []; is_text = e.empty; adds = let P : Parts → Type 0 = λ g. Adds s [] g in subst P e.same (adds_none s) }
]
  where
    of_semi : (Blanks ▹ Semi s f) t → Rest s f t
    of_semi b =
        let n = b.goes_on.goes_on.goes_on in
        let a : After s n.piece f n.rest = n.goes_on in
        record {
          params = param n.piece a.value ∷ a.params;
          is_text = with_rest _ _ _ t b (with_rest _ _ _ b.rest b.goes_on (with_rest _ _ _ b.goes_on.rest b.goes_on.goes_on
              (record { piece = n.piece; rest = n.rest; split = n.split; is_piece = record { same = refl; bytes = n.is_piece }; goes_on = a.is_text })));
          adds = a.adds;
        }

-- After the name of another parameter nothing is added.
pub record IsOther (name : List ℕ) : Type 0 where
  pub alg : is_word (codes "alg") name ≡ false
  pub ppt : is_word (codes "ppt") name ≡ false
  pub info : is_word (codes "info") name ≡ false

other_to : (s f : Parts) (name : List ℕ) (v : Option (List ℕ)) (ps : List Param) → IsOther name → Adds s (param name v ∷ ps) f → Adds s ps f
other_to s f name v ps o a = record {
  token = a.token;
  info = a.info;
  alg = rw o.alg at a.alg;
  ppt = rw o.ppt at a.ppt;
  no_more = rw o.info at a.no_more;
}

other_from : (s f : Parts) (name : List ℕ) (v : Option (List ℕ)) (ps : List Param) → IsOther name → Adds s ps f → Adds s (param name v ∷ ps) f
other_from s f name v ps o a = record {
  token = a.token;
  info = a.info;
  alg = rw o.alg a.alg;
  ppt = rw o.ppt a.ppt;
  no_more = rw o.info a.no_more;
}

pub optional_to : (s f : Parts) (name t : List ℕ) → IsOther name → After s name f t → Optional s f t
optional_to s f name t o a = by_value a.value a.is_text a.adds
  where
    by_value : (v : Option (List ℕ)) → Valued v (ParamsText a.params) t → Adds s (param name v ∷ a.params) f → Optional s f t
    by_value None m d = elim (rest_to s f t (record { params = a.params; is_text = m; adds = other_to s f name None a.params o d })) [
      | inl b ↦ inl (on_rest _ _ _ t (λ x u h. inr h) b)
      | inr e ↦ inr e
    ]
    by_value (Some w) m d = inl (with_rest _ _ _ t m (inl (with_rest _ _ _ m.rest m.goes_on (with_rest _ _ _ m.goes_on.rest m.goes_on.goes_on
        (value_to Parts f w (ParamsText a.params) (λ v. Rest s) _
        (λ u h. record { params = a.params; is_text = h; adds = other_to s f name (Some w) a.params o d }) m.goes_on.goes_on.goes_on)))))

pub optional_from : (s f : Parts) (name t : List ℕ) → IsOther name → Optional s f t → After s name f t
optional_from s f name t o m = elim m [
  | inr e ↦ plain (rest_from s f t (inr e))
  | inl b ↦ elim b.goes_on [
    | inr q ↦ plain (rest_from s f t (inl (with_rest _ _ _ t b q)))
    | inl q ↦ valued b q
  ]
]
  where
    plain : Rest s f t → After s name f t
    plain r = record { value = None; params = r.params; is_text = r.is_text; adds = other_from s f name None r.params o r.adds }

    valued : (b : (Blanks ▹ (λ u. Equals s f u ⊎ Semi s f u)) t) → Equals s f b.rest → After s name f t
    valued b q =
        let w : (w : List ℕ) × (ValueText w ▹ Rest s f) q.goes_on.rest = value_from Parts f (λ v. Rest s) q.goes_on.rest q.goes_on.goes_on in
        record {
          value = Some w.0;
          params = w.1.goes_on.params;
          is_text = with_rest _ _ _ t b (with_rest _ _ _ b.rest q (with_rest _ _ _ q.rest q.goes_on
              (with_rest _ _ _ q.goes_on.rest w.1 w.1.goes_on.is_text)));
          adds = other_from s f name (Some w.0) w.1.goes_on.params o w.1.goes_on.adds;
        }

-- after a name that has to have a value
pub given_to : (s f : Parts) (name t : List ℕ) (o : List ℕ → Parts)
    → ((v : Option (List ℕ)) (ps : List Param) → Adds s (param name v ∷ ps) f → (w : List ℕ) × (v ≡ Some w) × Adds (o w) ps f)
    → After s name f t → Given o f t
given_to s f name t o go a =
    let w : (w : List ℕ) × (a.value ≡ Some w) × Adds (o w) a.params f = go a.value a.params a.adds in
    of_value w.0 w.2 (let P : Option (List ℕ) → Type 0 = λ v. Valued v (ParamsText a.params) t in subst P w.1 a.is_text)
  where
    of_value : (w : List ℕ) → Adds (o w) a.params f → Valued (Some w) (ParamsText a.params) t → Given o f t
    of_value w d m = with_rest _ _ _ t m (with_rest _ _ _ m.rest m.goes_on (with_rest _ _ _ m.goes_on.rest m.goes_on.goes_on
        (value_to Parts f w (ParamsText a.params) (λ v. Rest (o v)) _
        (λ u h. record { params = a.params; is_text = h; adds = d }) m.goes_on.goes_on.goes_on)))

pub given_from : (s f : Parts) (name t : List ℕ) (o : List ℕ → Parts)
    → ((w : List ℕ) (ps : List Param) → Adds (o w) ps f → Adds s (param name (Some w) ∷ ps) f)
    → Given o f t → After s name f t
given_from s f name t o go m =
    let w : (w : List ℕ) × (ValueText w ▹ Rest (o w) f) m.goes_on.goes_on.rest =
    value_from Parts f (λ v. Rest (o v)) m.goes_on.goes_on.rest m.goes_on.goes_on.goes_on in
    record {
      value = Some w.0;
      params = w.1.goes_on.params;
      is_text = with_rest _ _ _ t m (with_rest _ _ _ m.rest m.goes_on (with_rest _ _ _ m.goes_on.rest m.goes_on.goes_on
          (with_rest _ _ _ m.goes_on.goes_on.rest w.1 w.1.goes_on.is_text)));
      adds = go w.0 w.1.goes_on.params w.1.goes_on.adds;
    }

pub alg_to : (s f : Parts) (name : List ℕ) (v : Option (List ℕ)) (ps : List Param) → is_word (codes "alg") name ≡ true
    → Adds s (param name v ∷ ps) f → (s.alg ≡ None) × (w : List ℕ) × (v ≡ Some w) × Adds (record s { alg = Some w }) ps f
alg_to s f name v ps k a =
    let q : is_word (codes "ppt") name ≡ false = other_word (codes "alg") (codes "ppt") name k in
    let i : is_word (codes "info") name ≡ false = other_word (codes "alg") (codes "info") name k in
    let m : (s.alg ≡ None) × (w : List ℕ) × (v ≡ Some w) × ((at_most_one (Some w) ++ values_of (codes "alg") ps) ≡ at_most_one f.alg) =
    one_more s.alg v (values_of (codes "alg") ps) f.alg (rw k at a.alg) in
    (m.0, m.1, m.2, record { token = a.token; info = a.info; alg = m.3; ppt = rw q at a.ppt; no_more = rw i at a.no_more })

pub alg_from : (s f : Parts) (name w : List ℕ) (ps : List Param) → is_word (codes "alg") name ≡ true → s.alg ≡ None
    → Adds (record s { alg = Some w }) ps f → Adds s (param name (Some w) ∷ ps) f
alg_from s f name w ps k h a =
    let q : is_word (codes "ppt") name ≡ false = other_word (codes "alg") (codes "ppt") name k in
    let i : is_word (codes "info") name ≡ false = other_word (codes "alg") (codes "info") name k in
    record { token = a.token; info = a.info; alg = rw (k, h) a.alg; ppt = rw q a.ppt; no_more = rw i a.no_more }

pub ppt_to : (s f : Parts) (name : List ℕ) (v : Option (List ℕ)) (ps : List Param) → is_word (codes "ppt") name ≡ true
    → Adds s (param name v ∷ ps) f → (s.ppt ≡ None) × (w : List ℕ) × (v ≡ Some w) × Adds (record s { ppt = Some w }) ps f
ppt_to s f name v ps k a =
    let q : is_word (codes "alg") name ≡ false = other_word (codes "ppt") (codes "alg") name k in
    let i : is_word (codes "info") name ≡ false = other_word (codes "ppt") (codes "info") name k in
    let m : (s.ppt ≡ None) × (w : List ℕ) × (v ≡ Some w) × ((at_most_one (Some w) ++ values_of (codes "ppt") ps) ≡ at_most_one f.ppt) =
    one_more s.ppt v (values_of (codes "ppt") ps) f.ppt (rw k at a.ppt) in
    (m.0, m.1, m.2, record { token = a.token; info = a.info; alg = rw q at a.alg; ppt = m.3; no_more = rw i at a.no_more })

pub ppt_from : (s f : Parts) (name w : List ℕ) (ps : List Param) → is_word (codes "ppt") name ≡ true → s.ppt ≡ None
    → Adds (record s { ppt = Some w }) ps f → Adds s (param name (Some w) ∷ ps) f
ppt_from s f name w ps k h a =
    let q : is_word (codes "alg") name ≡ false = other_word (codes "ppt") (codes "alg") name k in
    let i : is_word (codes "info") name ≡ false = other_word (codes "ppt") (codes "info") name k in
    record { token = a.token; info = a.info; alg = rw q a.alg; ppt = rw (k, h) a.ppt; no_more = rw i a.no_more }

pub info_none : (s f : Parts) (name : List ℕ) (v : Option (List ℕ)) (ps : List Param) → is_word (codes "info") name ≡ true
    → Adds s (param name v ∷ ps) f → ⊥
info_none s f name v ps k a = let h : v ∷ values_of (codes "info") ps ≡ [] = rw k at a.no_more in absurd (cc)

-- A name that ends with x is another parameter's.
pub ends_with_x : (a : List ℕ) → IsOther (a ++ 120 ∷ [])
ends_with_x a = record {
  alg = apart (codes "al") 103 (λ e. omega arith);
  ppt = apart (codes "pp") 116 (λ e. omega arith);
  info = apart (codes "inf") 111 (λ e. omega arith);
}
  where
    apart : (w : List ℕ) (c : ℕ) → (120 ≡ c → ⊥) → is_word (w ++ c ∷ []) (a ++ 120 ∷ []) ≡ false
    apart w c ne = false_from_ne_true _ (λ h.
        let e : map lower (a ++ 120 ∷ []) ≡ w ++ c ∷ [] = (bytes_eq-Decides (map lower (a ++ 120 ∷ [])) (w ++ c ∷ [])).0 h in
        let m : map lower (a ++ 120 ∷ []) ≡ map lower a ++ 120 ∷ [] = map-append lower a (120 ∷ []) in
        ne (same_from_push (map lower a) w 120 c (sym m ∙ e)).1)
