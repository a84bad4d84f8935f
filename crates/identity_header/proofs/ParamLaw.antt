-- The law of the parameters, from any state.
use Rattle.std.proofs.Common.{◌≡◌, ℕ, zero, suc, ◌≤◌, true, false, ◌⊎◌, inl, inr, List, [], ◌∷◌, ◌++◌, length, Option, Some, None, Ok, Err, refl, sym, ◌∙◌, ap, subst, arith, codes}
use Rattle.std.specs.Prelude.{◌==◌}
use Rattle.std.specs.List.{list_all}
use Rattle.std.specs.Option.{is_some}
use Rattle.std.proofs.lemmas.Bool.{cases_Bool, eq-eqb}
use Rattle.std.proofs.lemmas.List.{append-nil, length_push}
use Rattle.text_grammar.specs.Bytes.{is_blank, is_name_byte, is_word}
use Rattle.text_grammar.specs.Grammar.{Taking, ◌▹◌, Byte, Blanks, Many, End}
use Rattle.text_grammar.specs.Place.{Begins}
use Rattle.text_grammar.specs.Reading.{Read, byte_at, skip, many_at, end_at, either_at}
use Rattle.lists.specs.Steps.{◌>>=◌}
use Rattle.text_grammar.proofs.Lists.{all_push, cut-prefix_len}
use Rattle.text_grammar.proofs.Laws.{Stops, Law, stops_here, law_reads, law_same}
use Rattle.text_grammar.proofs.Pieces.{law_byte, law_mark, law_end, law_either}
use Rattle.text_grammar.proofs.Runs.{Dead, law_blanks, law_many}
use Rattle.identity_header.specs.Parts.{Parts, is_bare_byte}
use Rattle.identity_header.specs.FieldText.{Param, Valued, ParamsText}
use Rattle.identity_header.specs.Reading.{value_at, equals_at, alg_at, ppt_at, optional_at, other_at, named_at, param_at, params_up_to}
use Rattle.identity_header.proofs.Heads.{byte_head, byte_none, blanks_head, blanks_none, many_head, no_blank, not_of}
use Rattle.identity_header.proofs.ValueLaw.{ValueThen, law_value}
use Rattle.identity_header.proofs.States.{Rest, After, Semi, Given, Equals, Optional, rest_to, rest_from, IsOther, optional_to, optional_from, given_to, given_from, alg_to, alg_from, ppt_to, ppt_from, info_none, ends_with_x}

pub assoc : {A B C : Type 0} (m : Read A) (f : A → Read B) (g : B → Read C) → ((m >>= f) >>= g) ≡ (m >>= (λ x. f x >>= g))
assoc (Ok x) f g = refl
assoc (Err left) f g = refl

pub bind_same : {A B : Type 0} (m : Read A) (f g : A → Read B) → ((x : A) → f x ≡ g x) → (m >>= f) ≡ (m >>= g)
bind_same (Ok x) f g h = h x
bind_same (Err left) f g h = refl

-- the parameters that follow one, up to a number of them
abbrev pub go_on : ℕ → Parts × List ℕ → Read Parts
go_on k x = params_up_to k x.0 x.1

-- at a semicolon, with at most this many parameters
abbrev pub semi_at : ℕ → Parts → List ℕ → Read Parts
semi_at zero s text = Err text
semi_at (suc k) s text = byte_at 59 text >>= (λ u. many_at is_name_byte (skip is_blank u) >>= (λ x. named_at s x.0 x.1 >>= go_on k))

params_semi : (k : ℕ) (s : Parts) (b : ℕ) (t : List ℕ) → params_up_to (suc k) s (b ∷ t) ≡ semi_at (suc k) s (skip is_blank (b ∷ t))
unfolding param_at
params_semi k s b t =
    assoc (byte_at 59 (skip is_blank (b ∷ t))) (λ u. many_at is_name_byte (skip is_blank u) >>= (λ x. named_at s x.0 x.1)) (go_on k)
    ∙ bind_same (byte_at 59 (skip is_blank (b ∷ t))) _ _ (λ u. assoc (many_at is_name_byte (skip is_blank u)) (λ x. named_at s x.0 x.1) (go_on k))

not_blank_59 : (s f : Parts) (x : ℕ) (u : List ℕ) → Semi s f (x ∷ u) → is_blank x ≡ false
not_blank_59 s f x u m = ap is_blank (byte_head 59 x _ u m)

-- after a parameter
rest_law : (n : ℕ) (s : Parts) → Law Parts n (semi_at n s) (Semi s) → Law Parts n (params_up_to n s) (Rest s)
rest_law n s l = law_same Parts n (params_up_to n s) (λ f t. (Blanks ▹ Semi s f) t ⊎ End Parts s f t) (Rest s)
    (λ f t m. rest_from s f t m) (λ f t m. rest_to s f t m)
    (law_reads Parts n (either_at (λ b. true) (λ t. semi_at n s (skip is_blank t)) (end_at s)) (params_up_to n s) _ (same n)
    (law_either Parts n (λ b. true) (λ t. semi_at n s (skip is_blank t)) (end_at s) (λ f. Blanks ▹ Semi s f) (End Parts s)
    (λ f m. blanks_none 59 _ m) (λ f x u m. refl) (λ f x u m. let e : x ∷ u ≡ [] = m.empty in absurd (cc))
    (law_blanks Parts n (semi_at n s) (Semi s) (not_blank_59 s) l) (law_end Parts n s)))
  where
    same : (n : ℕ) (t : List ℕ) → length t ≤ n
        → params_up_to n s t ≡ either_at (λ b. true) (λ t. semi_at n s (skip is_blank t)) (end_at s) t
    same n [] h = refl
    same zero (b ∷ t) h = absurd (omega arith)
    same (suc k) (b ∷ t) h = params_semi k s b t

bare_not : (s f : Parts) (x : ℕ) (u : List ℕ) → Rest s f (x ∷ u) → is_bare_byte x ≡ false
bare_not s f x u r = elim (rest_to s f (x ∷ u) r) [
  | inl m ↦ not_of is_bare_byte 59 x refl refl refl (blanks_head 59 x _ u m)
  | inr e ↦ (let z : x ∷ u ≡ [] = e.empty in absurd (cc))
]

-- blanks, and a value from which the next state is made
abbrev value_reader : ℕ → (List ℕ → Parts) → List ℕ → Read Parts
value_reader k o t = value_at t >>= (λ x. params_up_to k (o x.0) x.1)

abbrev equals_reader : ℕ → (List ℕ → Parts) → List ℕ → Read Parts
equals_reader k o t = byte_at 61 t >>= (λ u. value_reader k o (skip is_blank u))

blank_not_value : (o : List ℕ → Parts) (f : Parts) (x : ℕ) (u : List ℕ) → ValueThen Parts (λ v. Rest (o v)) f (x ∷ u) → is_blank x ≡ false
blank_not_value o f x u m = elim m [
  | inl t ↦ ap is_blank (byte_head 34 x _ u t)
  | inr t ↦ no_blank is_bare_byte x refl refl (many_head is_bare_byte x _ u t)
]

equals_law : (k : ℕ) (o : List ℕ → Parts) → ((s : Parts) → Law Parts k (semi_at k s) (Semi s))
    → Law Parts k (equals_reader k o) (λ f. Byte 61 ▹ Blanks ▹ ValueThen Parts (λ v. Rest (o v)) f)
equals_law k o l = law_mark Parts k 61 (λ u. value_reader k o (skip is_blank u)) (λ f. Blanks ▹ ValueThen Parts (λ v. Rest (o v)) f)
    (law_blanks Parts k (value_reader k o) (λ f. ValueThen Parts (λ v. Rest (o v)) f) (blank_not_value o)
    (law_value Parts k (λ v. params_up_to k (o v)) (λ v. Rest (o v)) (λ v f x u m. bare_not (o v) f x u m)
    (λ v. rest_law k (o v) (l (o v)))))

given_law : (k : ℕ) (o : List ℕ → Parts) → ((s : Parts) → Law Parts k (semi_at k s) (Semi s))
    → Law Parts k (λ t. equals_reader k o (skip is_blank t)) (Given o)
given_law k o l = law_blanks Parts k (equals_reader k o) (λ f. Byte 61 ▹ Blanks ▹ ValueThen Parts (λ v. Rest (o v)) f)
    (λ f x u m. ap is_blank (byte_head 61 x _ u m)) (equals_law k o l)

-- the code's way to read what comes after such a name
given_same : (k : ℕ) (o : List ℕ → Parts) (g : List ℕ × List ℕ → Read (Parts × List ℕ)) (t : List ℕ)
    → ((x : List ℕ × List ℕ) → g x ≡ Ok (o x.0, x.1))
    → ((equals_at t >>= g) >>= go_on k) ≡ equals_reader k o (skip is_blank t)
unfolding equals_at
given_same k o g t h =
    assoc (equals_at t) g (go_on k)
    ∙ assoc (byte_at 61 (skip is_blank t)) (λ u. value_at (skip is_blank u)) (λ x. g x >>= go_on k)
    ∙ bind_same (byte_at 61 (skip is_blank t)) _ _ (λ u. bind_same (value_at (skip is_blank u)) _ _ (λ x. ap (λ (r : Read (Parts × List ℕ)). r >>= go_on k) (h x)))

-- after the name of another parameter
abbrev optional_reader : ℕ → Parts → List ℕ → Read Parts
optional_reader k s t = either_at (λ b. b == 61) (equals_reader k (λ v. s)) (semi_at k s) t

optional_law : (k : ℕ) (s : Parts) → ((s : Parts) → Law Parts k (semi_at k s) (Semi s))
    → Law Parts k (either_at (λ b. true) (λ t. optional_reader k s (skip is_blank t)) (end_at s)) (Optional s)
optional_law k s l =
    law_either Parts k (λ b. true) (λ t. optional_reader k s (skip is_blank t)) (end_at s)
    (λ f. Blanks ▹ (λ u. Equals s f u ⊎ Semi s f u)) (End Parts s)
    (λ f m. none f m) (λ f x u m. refl) (λ f x u m. let e : x ∷ u ≡ [] = m.empty in absurd (cc))
    (law_blanks Parts k (optional_reader k s) (λ f u. Equals s f u ⊎ Semi s f u)
    (λ f x u m. elim m [ inl q ↦ ap is_blank (byte_head 61 x _ u q) | inr q ↦ not_blank_59 s f x u q ])
    (law_either Parts k (λ b. b == 61) (equals_reader k (λ v. s)) (semi_at k s) (Equals s) (Semi s)
    (λ f m. byte_none 61 _ m)
    (λ f x u m. eq-eqb x 61 (byte_head 61 x _ u m))
    (λ f x u m. let e : x ≡ 59 = byte_head 59 x _ u m in ap (λ (b : ℕ). b == 61) e)
    (equals_law k (λ v. s) l) (l s)))
    (law_end Parts k s)
  where
    none : (f : Parts) → (Blanks ▹ (λ u. Equals s f u ⊎ Semi s f u)) [] → ⊥
    none f m = by_piece m.piece m.split
      where
        by_piece : (a : List ℕ) → [] ≡ a ++ m.rest → ⊥
        by_piece (y ∷ a) e = absurd (cc)
        by_piece [] e = elim m.goes_on [
          | inl q ↦ byte_none 61 _ (subst (λ (u : List ℕ). Equals s f u) (sym e) q)
          | inr q ↦ byte_none 59 _ (subst (λ (u : List ℕ). Semi s f u) (sym e) q)
        ]

skip_none : (c : ℕ) (v : List ℕ) → is_blank c ≡ false → skip is_blank (c ∷ v) ≡ c ∷ v
skip_none c v h = rw h refl

-- the code's way to read what comes after such a name
optional_same : (k : ℕ) (s : Parts) (g : List ℕ → Read (Parts × List ℕ)) (t : List ℕ) → length t ≤ k
    → ((r : List ℕ) → g r ≡ Ok (s, r))
    → ((other_at t >>= g) >>= go_on k) ≡ either_at (λ b. true) (λ t. optional_reader k s (skip is_blank t)) (end_at s) t
unfolding other_at optional_at
optional_same k s g [] h go = ap (λ (r : Read (Parts × List ℕ)). r >>= go_on k) (go [])
optional_same k s g (b ∷ t) h go = behind (skip is_blank (b ∷ t)) (cut-prefix_len is_blank (b ∷ t)).stop k h
  where
    valued : (k : ℕ) (v : List ℕ) → ((◌>>=◌ {B = List ℕ} (value_at (skip is_blank v)) (λ x. Ok x.1) >>= g) >>= go_on k) ≡ value_reader k (λ w. s) (skip is_blank v)
    valued k v = go_through (value_at (skip is_blank v))
      where
        go_through : (m : Read (List ℕ × List ℕ)) → ((◌>>=◌ {B = List ℕ} m (λ x. Ok x.1) >>= g) >>= go_on k) ≡ (m >>= (λ x. params_up_to k s x.1))
        go_through (Ok x) = ap (λ (r : Read (Parts × List ℕ)). r >>= go_on k) (go x.1)
        go_through (Err left) = refl

    behind : (w : List ℕ) → ((x : ℕ) (u : List ℕ) → w ≡ x ∷ u → (is_blank x ≡ false) ⊎ (Unit {0} → ⊥)) → (k : ℕ) → length (b ∷ t) ≤ k
        → ((optional_at w >>= g) >>= go_on k) ≡ optional_reader k s w
    behind w stop zero i = absurd (omega arith)
    behind [] stop (suc k) i = refl
    behind (c ∷ v) stop (suc k) i = elim (cases_Bool (c == 61)) [
      | inl q ↦ rw q (valued (suc k) v)
      | inr q ↦ rw q (ap (λ (r : Read (Parts × List ℕ)). r >>= go_on (suc k)) (go (c ∷ v)) ∙ params_semi k s c v ∙ ap (semi_at (suc k) s) (elim (stop c v refl) [
        | inl p ↦ skip_none c v p
        | inr z ↦ absurd (z tt)
      ]))
    ]

some_or_none : (o : Option (List ℕ)) → (o ≡ None) ⊎ (is_some o ≡ true)
some_or_none None = inl refl
some_or_none (Some x) = inr refl

has_none : (o : Option (List ℕ)) → is_some o ≡ true → o ≡ None → ⊥
has_none None h e = cc
has_none (Some x) h e = cc

-- the reader after a name
abbrev after_at : ℕ → Parts → List ℕ → List ℕ → Read Parts
after_at k s name t = named_at s name t >>= go_on k

info_dead : (k : ℕ) (s : Parts) (name : List ℕ) → is_word (codes "info") name ≡ true → Dead Parts (after_at k s name) (After s name)
unfolding named_at
info_dead k s name h = record {
  refused = λ t. rw h refl;
  none = λ f t a. info_none s f name a.value a.params h a.adds;
}

alg_dead : (k : ℕ) (s : Parts) (name : List ℕ) → is_word (codes "info") name ≡ false → is_word (codes "alg") name ≡ true → is_some s.alg ≡ true
    → Dead Parts (after_at k s name) (After s name)
unfolding named_at alg_at
alg_dead k s name i h o = record {
  refused = λ t. rw (i, h, o) refl;
  none = λ f t a. has_none s.alg o (alg_to s f name a.value a.params h a.adds).0;
}

ppt_dead : (k : ℕ) (s : Parts) (name : List ℕ) → is_word (codes "info") name ≡ false → is_word (codes "alg") name ≡ false
    → is_word (codes "ppt") name ≡ true → is_some s.ppt ≡ true → Dead Parts (after_at k s name) (After s name)
unfolding named_at ppt_at
ppt_dead k s name i a h o = record {
  refused = λ t. rw (i, a, h, o) refl;
  none = λ f t m. has_none s.ppt o (ppt_to s f name m.value m.params h m.adds).0;
}

alg_law : (k : ℕ) (s : Parts) (name : List ℕ) → ((s : Parts) → Law Parts k (semi_at k s) (Semi s))
    → is_word (codes "info") name ≡ false → is_word (codes "alg") name ≡ true → s.alg ≡ None
    → Law Parts k (after_at k s name) (After s name)
unfolding named_at alg_at
alg_law k s name l i h o =
    law_same Parts k (after_at k s name) (Given (λ v. record s { alg = Some v })) (After s name)
    (λ f t m. given_from s f name t (λ v. record s { alg = Some v }) (λ w ps d. alg_from s f name w ps h o d) m)
    (λ f t m. given_to s f name t (λ v. record s { alg = Some v }) (λ v ps d. let w = alg_to s f name v ps h d in (w.1, w.2, w.3)) m)
    (law_reads Parts k (λ t. equals_reader k (λ v. record s { alg = Some v }) (skip is_blank t)) (after_at k s name) _ (λ t b. same t)
    (given_law k (λ v. record s { alg = Some v }) l))
  where
    same : (t : List ℕ) → after_at k s name t ≡ equals_reader k (λ v. record s { alg = Some v }) (skip is_blank t)
    same t = rw (i, h, o) (given_same k (λ v. record s { alg = Some v }) _ t (λ x. refl))

ppt_law : (k : ℕ) (s : Parts) (name : List ℕ) → ((s : Parts) → Law Parts k (semi_at k s) (Semi s))
    → is_word (codes "info") name ≡ false → is_word (codes "alg") name ≡ false → is_word (codes "ppt") name ≡ true → s.ppt ≡ None
    → Law Parts k (after_at k s name) (After s name)
unfolding named_at ppt_at
ppt_law k s name l i a h o =
    law_same Parts k (after_at k s name) (Given (λ v. record s { ppt = Some v })) (After s name)
    (λ f t m. given_from s f name t (λ v. record s { ppt = Some v }) (λ w ps d. ppt_from s f name w ps h o d) m)
    (λ f t m. given_to s f name t (λ v. record s { ppt = Some v }) (λ v ps d. let w = ppt_to s f name v ps h d in (w.1, w.2, w.3)) m)
    (law_reads Parts k (λ t. equals_reader k (λ v. record s { ppt = Some v }) (skip is_blank t)) (after_at k s name) _ (λ t b. same t)
    (given_law k (λ v. record s { ppt = Some v }) l))
  where
    same : (t : List ℕ) → after_at k s name t ≡ equals_reader k (λ v. record s { ppt = Some v }) (skip is_blank t)
    same t = rw (i, a, h, o) (given_same k (λ v. record s { ppt = Some v }) _ t (λ x. refl))

other_law : (k : ℕ) (s : Parts) (name : List ℕ) → ((s : Parts) → Law Parts k (semi_at k s) (Semi s)) → IsOther name
    → Law Parts k (after_at k s name) (After s name)
unfolding named_at
other_law k s name l o =
    law_same Parts k (after_at k s name) (Optional s) (After s name)
    (λ f t m. optional_from s f name t o m) (λ f t m. optional_to s f name t o m)
    (law_reads Parts k (either_at (λ b. true) (λ t. optional_reader k s (skip is_blank t)) (end_at s)) (after_at k s name) _ same
    (optional_law k s l))
  where
    same : (t : List ℕ) → length t ≤ k → after_at k s name t ≡ either_at (λ b. true) (λ t. optional_reader k s (skip is_blank t)) (end_at s) t
    same t h = rw (o.info, o.alg, o.ppt) (optional_same k s _ t h (λ r. refl))

-- what may come after a name
status : (k : ℕ) (s : Parts) (name : List ℕ) → ((s : Parts) → Law Parts k (semi_at k s) (Semi s))
    → Law Parts k (after_at k s name) (After s name) ⊎ Dead Parts (after_at k s name) (After s name)
status k s name l = elim (cases_Bool (is_word (codes "info") name)) [
  | inl i ↦ inr (info_dead k s name i)
  | inr i ↦ elim (cases_Bool (is_word (codes "alg") name)) [
    | inl a ↦ elim (some_or_none s.alg) [ inl o ↦ inl (alg_law k s name l i a o) | inr o ↦ inr (alg_dead k s name i a o) ]
    | inr a ↦ elim (cases_Bool (is_word (codes "ppt") name)) [
      | inl p ↦ elim (some_or_none s.ppt) [ inl o ↦ inl (ppt_law k s name l i a p o) | inr o ↦ inr (ppt_dead k s name i a p o) ]
      | inr p ↦ inl (other_law k s name l (record { alg = a; ppt = p; info = i }))
    ]
  ]
]

-- A name is a text's end, and it can go on with x.
name_begins : (s : Parts) (a : List ℕ) → list_all is_name_byte a ≡ true → Begins Parts (λ f. Taking (Many is_name_byte) (λ name. After s name f)) a
name_begins s a h = record {
  value = s;
  more = 120 ∷ [];
  text = record {
    piece = a ++ 120 ∷ [];
    rest = [];
    split = sym (append-nil (a ++ 120 ∷ []));
    is_piece = record { each = all_push is_name_byte a 120 h refl; some = omega (arith, length_push a 120) };
    goes_on = optional_from s s (a ++ 120 ∷ []) [] (ends_with_x a) (inr (record { empty = refl; same = refl }));
  };
}

semi_begins : (s : Parts) → Begins Parts (Semi s) []
semi_begins s =
    let b : Begins Parts (λ f. Taking (Many is_name_byte) (λ name. After s name f)) [] = name_begins s [] refl in
    record {
      value = b.value;
      more = 59 ∷ b.more;
      text = record {
        piece = 59 ∷ [];
        rest = b.more;
        split = refl;
        is_piece = refl;
        goes_on = record { piece = []; rest = b.more; split = refl; is_piece = refl; goes_on = b.text };
      };
    }

after_head : (s : Parts) (name : List ℕ) (f : Parts) (x : ℕ) (u : List ℕ) → After s name f (x ∷ u) → is_name_byte x ≡ false
after_head s name f x u a = by_value a.value a.is_text
  where
    by_params : (ps : List Param) → ParamsText ps (x ∷ u) → is_name_byte x ≡ false
    by_params [] e = absurd (cc)
    by_params (p ∷ ps) m = not_of is_name_byte 59 x refl refl refl (blanks_head 59 x _ u m)

    by_value : (v : Option (List ℕ)) → Valued v (ParamsText a.params) (x ∷ u) → is_name_byte x ≡ false
    by_value None m = by_params a.params m
    by_value (Some w) m = not_of is_name_byte 61 x refl refl refl (blanks_head 61 x _ u m)

pub law_semi : (n : ℕ) (s : Parts) → Law Parts n (semi_at n s) (Semi s)
law_semi zero s = record {
  found = λ t f h e. absurd (cc);
  again = λ t f h m. none t f h m;
  stops = λ t left h e. let same : t ≡ left = cc in subst (λ (u : List ℕ). Stops Parts (Semi s) t u) same
      (stops_here Parts (Semi s) t (semi_begins s) (λ b rest q f more m. let len : length t ≡ suc (length rest) = ap (λ (u : List ℕ). length u) q in omega arith));
  some = semi_begins s;
}
  where
    none : (t : List ℕ) (f : Parts) → length t ≤ 0 → Semi s f t → semi_at zero s t ≡ Ok f
    none [] f h m = absurd (byte_none 59 _ m)
    none (b ∷ t) f h m = absurd (omega arith)
law_semi (suc k) s =
    law_byte Parts k 59 (λ u. many_at is_name_byte (skip is_blank u) >>= (λ x. after_at k s x.0 x.1))
    (λ f. Blanks ▹ Taking (Many is_name_byte) (λ name. After s name f))
    (law_blanks Parts k (λ u. many_at is_name_byte u >>= (λ x. after_at k s x.0 x.1)) (λ f. Taking (Many is_name_byte) (λ name. After s name f))
    (λ f x u m. no_blank is_name_byte x refl refl (many_head is_name_byte x _ u m))
    (law_many Parts k is_name_byte (λ name t. after_at k s name t) (λ name. After s name)
    (name_begins s) (after_head s) (λ a m. status k s a (λ s. law_semi k s))))

pub law_rest : (n : ℕ) (s : Parts) → Law Parts n (params_up_to n s) (Rest s)
law_rest n s = rest_law n s (law_semi n s)
