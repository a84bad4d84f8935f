-- A law joins a reader on lists with a grammar: what is read is in the grammar, what is in the grammar is read, and where the reader can't go on the longest
-- prefix ends that a text of the grammar begins with.
use Rattle.std.proofs.Common.{◌≡◌, ℕ, zero, suc, ◌+◌, ◌-◌, ◌≤◌, ◌<◌, List, [], ◌∷◌, ◌++◌, length, take, Ok, Err, refl, sym, ◌∙◌, ap, subst, append_assoc, arith, length-append}
use Rattle.std.proofs.lemmas.List.{take_at}
use Rattle.text_grammar.specs.Place.{Begins, IsPlace}
use Rattle.text_grammar.specs.Reading.{Read}

-- the longest prefix that a text of the grammar begins with, as a split of the text
pub record Stops (F : Type 0) (N : F → List ℕ → Type 0) (text left : List ℕ) : Type 0 where
  pub front : List ℕ
  pub split : text ≡ front ++ left
  pub begins : Begins F N front
  pub no_more : (b : ℕ) (rest : List ℕ) → left ≡ b ∷ rest → (f : F) (more : List ℕ) → N f (front ++ b ∷ more) → ⊥

-- for texts of at most n bytes
pub record Law (F : Type 0) (n : ℕ) (r : List ℕ → Read F) (N : F → List ℕ → Type 0) : Type 0 where
  pub found : (text : List ℕ) (f : F) → length text ≤ n → r text ≡ Ok f → N f text
  pub again : (text : List ℕ) (f : F) → length text ≤ n → N f text → r text ≡ Ok f
  pub stops : (text left : List ℕ) → length text ≤ n → r text ≡ Err left → Stops F N text left
  pub some : Begins F N []

-- a text that begins as rest does
carried : (F : Type 0) (M N : F → List ℕ → Type 0) (a rest front : List ℕ) (b : ℕ) (y more : List ℕ) (f : F)
    → ((f : F) (x : ℕ) (u v : List ℕ) → rest ≡ x ∷ u → M f (a ++ x ∷ v) → N f (x ∷ v))
    → rest ≡ front ++ b ∷ y → M f (a ++ (front ++ b ∷ more)) → N f (front ++ b ∷ more)
carried F M N a rest [] b y more f out e m = out f b y more e m
carried F M N a rest (x ∷ front) b y more f out e m = out f x (front ++ b ∷ y) (front ++ b ∷ more) e m

-- The prefix a is forced, and after it N decides.
pub stops_after : (F : Type 0) (M N : F → List ℕ → Type 0) (a rest left : List ℕ)
    → ((f : F) (t : List ℕ) → N f t → M f (a ++ t))
    → ((f : F) (x : ℕ) (u v : List ℕ) → rest ≡ x ∷ u → M f (a ++ x ∷ v) → N f (x ∷ v))
    → Stops F N rest left → Stops F M (a ++ rest) left
stops_after F M N a rest left into out s = record {
  front = a ++ s.front;
  split = ap (λ t. a ++ t) s.split ∙ sym (append_assoc a s.front left);
  begins = record {
    value = s.begins.value;
    more = s.begins.more;
    text = rw append_assoc (into s.begins.value (s.front ++ s.begins.more) s.begins.text);
  };
  no_more = λ b y e f more m. s.no_more b y e f more
      (carried F M N a rest s.front b y more f out (s.split ∙ ap (λ t. s.front ++ t) e) (rw append_assoc at m));
}

-- Nothing of the text can begin.
pub stops_here : (F : Type 0) (M : F → List ℕ → Type 0) (text : List ℕ) → Begins F M []
    → ((b : ℕ) (rest : List ℕ) → text ≡ b ∷ rest → (f : F) (more : List ℕ) → M f (b ∷ more) → ⊥)
    → Stops F M text text
stops_here F M text begins none = record { front = []; split = refl; begins = begins; no_more = none }

pub law_less : (F : Type 0) (m n : ℕ) (r : List ℕ → Read F) (N : F → List ℕ → Type 0) → m ≤ n → Law F n r N → Law F m r N
law_less F m n r N h l = record {
  found = λ text f k. l.found text f (omega arith);
  again = λ text f k. l.again text f (omega arith);
  stops = λ text left k. l.stops text left (omega arith);
  some = l.some;
}

-- the same reader in other words
pub law_reads : (F : Type 0) (n : ℕ) (r s : List ℕ → Read F) (N : F → List ℕ → Type 0)
    → ((text : List ℕ) → length text ≤ n → s text ≡ r text) → Law F n r N → Law F n s N
law_reads F n r s N same l = record {
  found = λ text f k e. l.found text f k (sym (same text k) ∙ e);
  again = λ text f k m. same text k ∙ l.again text f k m;
  stops = λ text left k e. l.stops text left k (sym (same text k) ∙ e);
  some = l.some;
}

-- the same grammar in other words
pub law_same : (F : Type 0) (n : ℕ) (r : List ℕ → Read F) (M N : F → List ℕ → Type 0)
    → ((f : F) (text : List ℕ) → M f text → N f text) → ((f : F) (text : List ℕ) → N f text → M f text)
    → Law F n r M → Law F n r N
law_same F n r M N to from l = record {
  found = λ text f k e. to f text (l.found text f k e);
  again = λ text f k m. l.again text f k (from f text m);
  stops = λ text left k e. let s = l.stops text left k e in record {
    front = s.front;
    split = s.split;
    begins = begins s.front s.begins;
    no_more = λ b rest h f more m. s.no_more b rest h f more (from f (s.front ++ b ∷ more) m);
  };
  some = begins [] l.some;
}
  where
    begins : (front : List ℕ) → Begins F M front → Begins F N front
    begins front b = record { value = b.value; more = b.more; text = to b.value (front ++ b.more) b.text }

longer : (front rest : List ℕ) (m : ℕ) → length front < m → m ≤ length (front ++ rest)
    → (b : ℕ) × (y : List ℕ) × (u : List ℕ) × (rest ≡ b ∷ y) × (take m (front ++ rest) ≡ front ++ b ∷ u)
longer [] [] m h k = absurd (omega arith)
longer [] (b ∷ y) zero h k = absurd (omega arith)
longer [] (b ∷ y) (suc m) h k = (b, y, take m y, refl, refl)
longer (x ∷ front) rest zero h k = absurd (omega arith)
longer (x ∷ front) rest (suc m) h k =
    let w : (b : ℕ) × (y : List ℕ) × (u : List ℕ) × (rest ≡ b ∷ y) × (take m (front ++ rest) ≡ front ++ b ∷ u) =
    longer front rest m (omega arith) (omega arith) in
    (w.0, w.1, w.2, w.3, ap (λ t. x ∷ t) w.4)

-- the split as a place
pub place_of_stops : (F : Type 0) (N : F → List ℕ → Type 0) (text left : List ℕ) → Stops F N text left
    → IsPlace F N text (length text - length left)
place_of_stops F N text left s =
    let len : length text ≡ length s.front + length left = ap length s.split ∙ length-append s.front left in
    let here : length text - length left ≡ length s.front = omega arith in
    let cut : take (length text - length left) text ≡ s.front =
    rw here (ap (λ t. take (length s.front) t) s.split ∙ take_at s.front left (length s.front) refl) in
    record {
      within = omega arith;
      begins = rw cut s.begins;
      longest = λ m h k b. past m (omega arith) (let f : m ≤ length (s.front ++ left) = omega (arith, length-append s.front left) in f)
          (let P : List ℕ → Type 0 = λ t. Begins F N (take m t) in subst P s.split b);
    }
  where
    past : (m : ℕ) → length s.front < m → m ≤ length (s.front ++ left) → Begins F N (take m (s.front ++ left)) → ⊥
    past m h k b =
        let w : (c : ℕ) × (y : List ℕ) × (u : List ℕ) × (left ≡ c ∷ y) × (take m (s.front ++ left) ≡ s.front ++ c ∷ u) =
        longer s.front left m h k in
        let t : N b.value ((s.front ++ w.0 ∷ w.2) ++ b.more) = rw w.4 at b.text in
        s.no_more w.0 w.1 w.3 b.value (w.2 ++ b.more) (rw append_assoc at t)

-- a text that is read in two ways is read in one
pub one_value : (F : Type 0) (n : ℕ) (r : List ℕ → Read F) (N : F → List ℕ → Type 0) (text : List ℕ) (f g : F)
    → length text ≤ n → Law F n r N → N f text → N g text → f ≡ g
one_value F n r N text f g h l a b =
    let e : Ok f ≡ Ok g = sym (l.again text f h a) ∙ l.again text g h b in cc
