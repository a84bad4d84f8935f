-- The laws of the pieces that are runs of bytes of a class.
use Rattle.std.proofs.Common.{◌≡◌, ℕ, zero, suc, ◌≤◌, eqb, Bool, true, false, ◌⊎◌, inl, inr, List, [], ◌∷◌, ◌++◌, length, take, drop, Ok, Err, refl, sym, ◌∙◌, ap, subst, arith, length-drop, take-append-drop}
use Rattle.std.specs.List.{list_all, prefix_len}
use Rattle.std.proofs.lemmas.Bool.{and_parts, and_from, ne_eqb}
use Rattle.std.proofs.lemmas.List.{length-take}
use Rattle.std.proofs.lemmas.List.Sums.{prefix_len-le-length}
use Rattle.text_grammar.specs.Bytes.{is_blank}
use Rattle.text_grammar.specs.Grammar.{Taking, ◌▹◌, Any, Blanks, Many, Run}
use Rattle.text_grammar.specs.Place.{Begins}
use Rattle.text_grammar.specs.Reading.{Read, skip, some_at, many_at, run_at}
use Rattle.lists.specs.Steps.{◌>>=◌}
use Rattle.text_grammar.proofs.Lists.{Cut, same_run, cut-prefix_len, cut-limited}
use Rattle.text_grammar.proofs.Laws.{Stops, Law, stops_after, stops_here}

-- A run is one or more bytes of a class, as many as a limit allows.
pub record IsRun (p : ℕ → Bool) (lim : ℕ → Type 0) (A : List ℕ → Type 0) : Type 0 where
  pub make : (a : List ℕ) → list_all p a ≡ true → 1 ≤ length a → lim (length a) → A a
  pub each : (a : List ℕ) → A a → list_all p a ≡ true
  pub some : (a : List ℕ) → A a → 1 ≤ length a
  pub fits : (a : List ℕ) → A a → lim (length a)
  pub down : (j k : ℕ) → j ≤ k → lim k → lim j

-- After this run nothing of the grammar can come, and the reader refuses all.
pub record Dead (F : Type 0) (r : List ℕ → Read F) (N : F → List ℕ → Type 0) : Type 0 where
  pub refused : (t : List ℕ) → r t ≡ Err t
  pub none : (f : F) (t : List ℕ) → N f t → ⊥

short : (k n : ℕ) (t : List ℕ) → length t ≤ n → length (drop k t) ≤ n
short k n t h = omega (arith, length-drop k t)

-- bytes of a class, also none
pub law_any : (F : Type 0) (n : ℕ) (p : ℕ → Bool) (r : List ℕ → List ℕ → Read F) (N : List ℕ → F → List ℕ → Type 0)
    → ((a : List ℕ) (f : F) (x : ℕ) (u : List ℕ) → N a f (x ∷ u) → p x ≡ false)
    → ((a : List ℕ) → list_all p a ≡ true → Law F n (r a) (N a))
    → Law F n (λ t. r (take (prefix_len p t) t) (drop (prefix_len p t) t)) (λ f. Taking (Any p) (λ a. N a f))
law_any F n p r N heads l = record { found = found; again = again; stops = stops; some = begins }
  where
    M : F → List ℕ → Type 0
    M f t = Taking (Any p) (λ a. N a f) t

    begins : Begins F (λ f. Taking (Any p) (λ a. N a f)) []
    begins = record {
      value = (l [] refl).some.value;
      more = (l [] refl).some.more;
      text = record { piece = []; rest = (l [] refl).some.more; split = refl; is_piece = refl; goes_on = (l [] refl).some.text };
    }

    cut : (t : List ℕ) → Cut p (λ n. Unit {0}) (take (prefix_len p t) t) (drop (prefix_len p t) t)
    cut t = cut-prefix_len p t

    found : (t : List ℕ) (f : F) → length t ≤ n → r (take (prefix_len p t) t) (drop (prefix_len p t) t) ≡ Ok f
        → Taking (Any p) (λ a. N a f) t
    found t f h e = record {
      piece = take (prefix_len p t) t;
      rest = drop (prefix_len p t) t;
      split = sym (take-append-drop (prefix_len p t) t);
      is_piece = (cut t).each;
      goes_on = (l _ (cut t).each).found _ f (short (prefix_len p t) n t h) e;
    }

    same : (t : List ℕ) (f : F) (b u : List ℕ) → (a s : List ℕ) → Cut p (λ n. Unit {0}) a s → a ++ s ≡ b ++ u → list_all p b ≡ true → N b f u
        → (a ≡ b) × (s ≡ u)
    same t f b u a s c e all m = same_run p (λ n. Unit {0}) a s b u (λ j k h x. tt) e c all tt
        (λ x v z. heads b f x v (subst (N b f) z m))

    again : (t : List ℕ) (f : F) → length t ≤ n → Taking (Any p) (λ a. N a f) t
        → r (take (prefix_len p t) t) (drop (prefix_len p t) t) ≡ Ok f
    again t f h m =
        let w : (take (prefix_len p t) t ≡ m.piece) × (drop (prefix_len p t) t ≡ m.rest) =
        same t f m.piece m.rest _ _ (cut t) (take-append-drop (prefix_len p t) t ∙ m.split) m.is_piece m.goes_on in
        let q : length m.rest ≤ n = subst (λ (u : List ℕ). length u ≤ n) w.1 (short (prefix_len p t) n t h) in
        rw (w.0, w.1) ((l m.piece m.is_piece).again m.rest f q m.goes_on)

    stops_at : (a s left : List ℕ) → Cut p (λ n. Unit {0}) a s → Stops F (N a) s left
        → Stops F (λ f. Taking (Any p) (λ a. N a f)) (a ++ s) left
    stops_at a s left c d = stops_after F (λ f. Taking (Any p) (λ a. N a f)) (N a) a s left
        (λ f u g. record { piece = a; rest = u; split = refl; is_piece = c.each; goes_on = g })
        (λ f x u v e m.
        let w : (a ≡ m.piece) × (x ∷ v ≡ m.rest) = same_run p (λ n. Unit {0}) a (x ∷ v) m.piece m.rest (λ j k h x. tt) m.split
        (record { each = c.each; fits = tt; stop = λ y z q. inl (first x u v e y z q) }) m.is_piece tt
        (λ y z q. heads m.piece f y z (subst (N m.piece f) q m.goes_on)) in
        rw (w.0, w.1) m.goes_on) d
      where
        first : (x : ℕ) (u v : List ℕ) → s ≡ x ∷ u → (y : ℕ) (z : List ℕ) → x ∷ v ≡ y ∷ z → p y ≡ false
        first x u v e y z q = let same_byte : x ≡ y = cc in
            elim (c.stop x u e) [ inl k ↦ subst (λ (b : ℕ). p b ≡ false) same_byte k | inr k ↦ absurd (k tt) ]

    stops : (t left : List ℕ) → length t ≤ n → r (take (prefix_len p t) t) (drop (prefix_len p t) t) ≡ Err left
        → Stops F (λ f. Taking (Any p) (λ a. N a f)) t left
    stops t left h e = subst (λ (u : List ℕ). Stops F (λ f. Taking (Any p) (λ a. N a f)) u left) (take-append-drop (prefix_len p t) t)
        (stops_at _ _ left (cut t) ((l _ (cut t).each).stops _ left (short (prefix_len p t) n t h) e))

-- spaces and tabs, if no text of N begins with one
pub law_blanks : (F : Type 0) (n : ℕ) (r : List ℕ → Read F) (N : F → List ℕ → Type 0)
    → ((f : F) (x : ℕ) (u : List ℕ) → N f (x ∷ u) → is_blank x ≡ false)
    → Law F n r N → Law F n (λ t. r (skip is_blank t)) (λ f. Blanks ▹ N f)
law_blanks F n r N heads l = law_any F n is_blank (λ a. r) (λ a. N) (λ a. heads) (λ a h. l)

some_more : (F : Type 0) (k : ℕ) (t : List ℕ) (r : List ℕ → List ℕ → Read F)
    → (some_at (suc k) t >>= (λ x. r x.0 x.1)) ≡ r (take (suc k) t) (drop (suc k) t)
some_more F k t r = let h : eqb (suc k) 0 ≡ false = ne_eqb (suc k) 0 (λ e. omega arith) in rw h refl

-- One run. What comes after it may depend on it, and after some runs nothing may come.
law_cut : (F : Type 0) (n : ℕ) (p : ℕ → Bool) (lim : ℕ → Type 0) (A : List ℕ → Type 0) (count : List ℕ → ℕ)
    (r : List ℕ → List ℕ → Read F) (N : List ℕ → F → List ℕ → Type 0)
    → IsRun p lim A
    → ((t : List ℕ) → Cut p lim (take (count t) t) (drop (count t) t))
    → ((t : List ℕ) → count t ≤ length t)
    → ((a : List ℕ) → list_all p a ≡ true → lim (length a) → Begins F (λ f. Taking A (λ a. N a f)) a)
    → ((a : List ℕ) (f : F) (x : ℕ) (u : List ℕ) → N a f (x ∷ u) → p x ≡ false)
    → ((a : List ℕ) → A a → Law F n (r a) (N a) ⊎ Dead F (r a) (N a))
    → Law F n (λ t. some_at (count t) t >>= (λ x. r x.0 x.1)) (λ f. Taking A (λ a. N a f))
law_cut F n p lim A count r N run cut inside complete heads status =
    record { found = found; again = again; stops = stops; some = complete [] refl (run.down 0 _ (omega arith) (cut []).fits) }
  where
    clash : (b : Bool) → b ≡ false → b ≡ true → ⊥
    clash b h e = cc

    found_at : (t : List ℕ) (f : F) → length t ≤ n → (k : ℕ) → k ≤ length t → Cut p lim (take k t) (drop k t)
        → (some_at k t >>= (λ x. r x.0 x.1)) ≡ Ok f → Taking A (λ a. N a f) t
    found_at t f h zero i c e = absurd (cc)
    found_at t f h (suc k) i c e = record {
      piece = take (suc k) t;
      rest = drop (suc k) t;
      split = sym (take-append-drop (suc k) t);
      is_piece = piece;
      goes_on = elim (status (take (suc k) t) piece) [
        | inl l ↦ l.found _ f (short (suc k) n t h) (sym (some_more F k t r) ∙ e)
        | inr d ↦ (let b : Err (drop (suc k) t) ≡ Ok f = sym (d.refused (drop (suc k) t)) ∙ (sym (some_more F k t r) ∙ e) in absurd (cc))
      ];
    }
      where
        piece : A (take (suc k) t)
        piece = run.make _ c.each (omega (arith, length-take (suc k) t)) c.fits

    found : (t : List ℕ) (f : F) → length t ≤ n → (some_at (count t) t >>= (λ x. r x.0 x.1)) ≡ Ok f → Taking A (λ a. N a f) t
    found t f h e = found_at t f h (count t) (inside t) (cut t) e

    again_at : (t : List ℕ) (f : F) → length t ≤ n → (k : ℕ) → Cut p lim (take k t) (drop k t)
        → (m : Taking A (λ a. N a f) t) → (take k t ≡ m.piece) × (drop k t ≡ m.rest)
        → (some_at k t >>= (λ x. r x.0 x.1)) ≡ Ok f
    again_at t f h zero c m w =
        let e : [] ≡ m.piece = w.0 in
        let one : 1 ≤ length m.piece = run.some m.piece m.is_piece in
        let len : 0 ≡ length m.piece = ap (λ (a : List ℕ). length a) e in absurd (omega arith)
    again_at t f h (suc k) c m w =
        let q : length m.rest ≤ n = subst (λ (u : List ℕ). length u ≤ n) w.1 (short (suc k) n t h) in
        elim (status m.piece m.is_piece) [
          | inl l ↦ some_more F k t r ∙ (rw (w.0, w.1) (l.again m.rest f q m.goes_on))
          | inr d ↦ absurd (d.none f m.rest m.goes_on)
        ]

    again : (t : List ℕ) (f : F) → length t ≤ n → Taking A (λ a. N a f) t → (some_at (count t) t >>= (λ x. r x.0 x.1)) ≡ Ok f
    again t f h m = again_at t f h (count t) (cut t) m
        (same_run p lim _ _ m.piece m.rest run.down (take-append-drop (count t) t ∙ m.split) (cut t) (run.each m.piece m.is_piece)
        (run.fits m.piece m.is_piece) (λ x v z. heads m.piece f x v (subst (N m.piece f) z m.goes_on)))

    -- what comes after the run, if the next byte of the text is known
    behind : (a s : List ℕ) → Cut p lim a s → (f : F) (x : ℕ) (u v : List ℕ) → s ≡ x ∷ u → Taking A (λ a. N a f) (a ++ x ∷ v) → N a f (x ∷ v)
    behind a s c f x u v e m =
        let w : (a ≡ m.piece) × (x ∷ v ≡ m.rest) = same_run p lim a (x ∷ v) m.piece m.rest run.down m.split
        (record { each = c.each; fits = c.fits; stop = first }) (run.each m.piece m.is_piece) (run.fits m.piece m.is_piece)
        (λ y z q. heads m.piece f y z (subst (N m.piece f) q m.goes_on)) in
        rw (w.0, w.1) m.goes_on
      where
        first : (y : ℕ) (z : List ℕ) → x ∷ v ≡ y ∷ z → (p y ≡ false) ⊎ (lim (suc (length a)) → ⊥)
        first y z q = let same_byte : x ≡ y = cc in subst (λ (b : ℕ). (p b ≡ false) ⊎ (lim (suc (length a)) → ⊥)) same_byte (c.stop x u e)

    stops_at : (a s left : List ℕ) → Cut p lim a s → A a → length s ≤ n → r a s ≡ Err left
        → Stops F (λ f. Taking A (λ a. N a f)) (a ++ s) left
    stops_at a s left c piece h e = elim (status a piece) [
      | inl l ↦ stops_after F (λ f. Taking A (λ a. N a f)) (N a) a s left
          (λ f u g. record { piece = a; rest = u; split = refl; is_piece = piece; goes_on = g })
          (λ f x u v z m. behind a s c f x u v z m) (l.stops s left h e)
      | inr d ↦
          (let b : Err s ≡ Err left = sym (d.refused s) ∙ e in
          let same : s ≡ left = cc in
          subst (λ (u : List ℕ). Stops F (λ f. Taking A (λ a. N a f)) (a ++ s) u) same (record {
            front = a;
            split = refl;
            begins = complete a c.each c.fits;
            no_more = λ b y q f more m. d.none f (b ∷ more) (behind a s c f b y more q m);
          }))
    ]

    none : (t : List ℕ) → Cut p lim [] t → (b : ℕ) (rest : List ℕ) → t ≡ b ∷ rest → (f : F) (more : List ℕ)
        → Taking A (λ a. N a f) (b ∷ more) → ⊥
    none t c b rest e f more m = by_piece m.piece m.is_piece m.split
      where
        by_piece : (a : List ℕ) → A a → b ∷ more ≡ a ++ m.rest → ⊥
        by_piece [] g z = let one : 1 ≤ 0 = run.some [] g in omega arith
        by_piece (x ∷ a) g z =
            let same : b ≡ x = cc in
            let pass : p b ≡ true = ap p same ∙ (and_parts (p x) (list_all p a) (run.each (x ∷ a) g)).0 in
            elim (c.stop b rest e) [
              | inl k ↦ clash (p b) k pass
              | inr k ↦ k (run.down 1 (suc (length a)) (omega arith) (run.fits (x ∷ a) g))
            ]

    stops_count : (t left : List ℕ) → length t ≤ n → (k : ℕ) → k ≤ length t → Cut p lim (take k t) (drop k t)
        → (some_at k t >>= (λ x. r x.0 x.1)) ≡ Err left → Stops F (λ f. Taking A (λ a. N a f)) t left
    stops_count t left h zero i c e =
        let same : t ≡ left = cc in
        subst (λ (u : List ℕ). Stops F (λ f. Taking A (λ a. N a f)) t u) same
        (stops_here F (λ f. Taking A (λ a. N a f)) t (complete [] refl c.fits) (none t c))
    stops_count t left h (suc k) i c e =
        subst (λ (u : List ℕ). Stops F (λ f. Taking A (λ a. N a f)) u left) (take-append-drop (suc k) t)
        (stops_at (take (suc k) t) (drop (suc k) t) left c
        (run.make _ c.each (omega (arith, length-take (suc k) t)) c.fits) (short (suc k) n t h) (sym (some_more F k t r) ∙ e))

    stops : (t left : List ℕ) → length t ≤ n → (some_at (count t) t >>= (λ x. r x.0 x.1)) ≡ Err left
        → Stops F (λ f. Taking A (λ a. N a f)) t left
    stops t left h e = stops_count t left h (count t) (inside t) (cut t) e

-- one or more bytes of a class
pub law_many : (F : Type 0) (n : ℕ) (p : ℕ → Bool) (r : List ℕ → List ℕ → Read F) (N : List ℕ → F → List ℕ → Type 0)
    → ((a : List ℕ) → list_all p a ≡ true → Begins F (λ f. Taking (Many p) (λ a. N a f)) a)
    → ((a : List ℕ) (f : F) (x : ℕ) (u : List ℕ) → N a f (x ∷ u) → p x ≡ false)
    → ((a : List ℕ) → Many p a → Law F n (r a) (N a) ⊎ Dead F (r a) (N a))
    → Law F n (λ t. many_at p t >>= (λ x. r x.0 x.1)) (λ f. Taking (Many p) (λ a. N a f))
law_many F n p r N complete heads status =
    law_cut F n p (λ k. Unit {0}) (Many p) (λ t. prefix_len p t) r N
    (record { make = λ a h k q. record { each = h; some = k }; each = λ a m. m.each; some = λ a m. m.some; fits = λ a m. tt; down = λ j k h q. tt })
    (cut-prefix_len p) (λ t. prefix_len-le-length p t) (λ a h q. complete a h) heads status

-- one byte of a class up to a limit of them
pub law_run : (F : Type 0) (n : ℕ) (p : ℕ → Bool) (most sample : ℕ) (r : List ℕ → List ℕ → Read F) (N : List ℕ → F → List ℕ → Type 0)
    → 1 ≤ most → p sample ≡ true
    → ((a : List ℕ) (f : F) (x : ℕ) (u : List ℕ) → N a f (x ∷ u) → p x ≡ false)
    → ((a : List ℕ) → Run p most a → Law F n (r a) (N a))
    → Law F n (λ t. run_at p most t >>= (λ x. r x.0 x.1)) (λ f. Taking (Run p most) (λ a. N a f))
law_run F n p most sample r N h k heads l =
    law_cut F n p (λ j. j ≤ most) (Run p most) (λ t. prefix_len p (take most t)) r N
    (record {
      make = λ a h k q. record { each = h; some = k; within = q };
      each = λ a m. m.each;
      some = λ a m. m.some;
      fits = λ a m. m.within;
      down = λ i j h q. omega arith;
    })
    (cut-limited p most)
    (λ t. omega (arith, prefix_len-le-length p (take most t), length-take most t))
    complete heads (λ a m. inl (l a m))
  where
    of_run : (a : List ℕ) → Run p most a → Begins F (λ f. Taking (Run p most) (λ a. N a f)) a
    of_run a m = record {
      value = (l a m).some.value;
      more = (l a m).some.more;
      text = record { piece = a; rest = (l a m).some.more; split = refl; is_piece = m; goes_on = (l a m).some.text };
    }

    complete : (a : List ℕ) → list_all p a ≡ true → length a ≤ most → Begins F (λ f. Taking (Run p most) (λ a. N a f)) a
    complete [] all fits =
        let m : Run p most (sample ∷ []) = record { each = and_from (p sample) true k refl; some = omega arith; within = omega arith } in
        let b : Begins F (λ f. Taking (Run p most) (λ a. N a f)) (sample ∷ []) = of_run (sample ∷ []) m in
        record { value = b.value; more = sample ∷ b.more; text = b.text }
    complete (x ∷ a) all fits = of_run (x ∷ a) (record { each = all; some = omega arith; within = fits })

-- one or more bytes of a class, if something can come after each of them
pub law_some : (F : Type 0) (n : ℕ) (p : ℕ → Bool) (sample : ℕ) (r : List ℕ → List ℕ → Read F) (N : List ℕ → F → List ℕ → Type 0)
    → p sample ≡ true
    → ((a : List ℕ) (f : F) (x : ℕ) (u : List ℕ) → N a f (x ∷ u) → p x ≡ false)
    → ((a : List ℕ) → Many p a → Law F n (r a) (N a))
    → Law F n (λ t. many_at p t >>= (λ x. r x.0 x.1)) (λ f. Taking (Many p) (λ a. N a f))
law_some F n p sample r N k heads l = law_many F n p r N complete heads (λ a m. inl (l a m))
  where
    of_run : (a : List ℕ) → Many p a → Begins F (λ f. Taking (Many p) (λ a. N a f)) a
    of_run a m = record {
      value = (l a m).some.value;
      more = (l a m).some.more;
      text = record { piece = a; rest = (l a m).some.more; split = refl; is_piece = m; goes_on = (l a m).some.text };
    }

    complete : (a : List ℕ) → list_all p a ≡ true → Begins F (λ f. Taking (Many p) (λ a. N a f)) a
    complete [] all =
        let m : Many p (sample ∷ []) = record { each = and_from (p sample) true k refl; some = omega arith } in
        let b : Begins F (λ f. Taking (Many p) (λ a. N a f)) (sample ∷ []) = of_run (sample ∷ []) m in
        record { value = b.value; more = sample ∷ b.more; text = b.text }
    complete (x ∷ a) all = of_run (x ∷ a) (record { each = all; some = omega arith })
