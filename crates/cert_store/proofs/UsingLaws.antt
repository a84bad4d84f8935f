-- A chain that is held stays held if others are used or put, unless as many others were used as there may be.
use Rattle.std.proofs.Common.{◌≡◌, ℕ, zero, suc, ◌-◌, ◌≤◌, ◌⊎◌, inl, inr, Bool, true, false, cond, ◌||◌, List, [], ◌∷◌, length, take, is_some, Option, Some, None, refl, sym, ap, ◌∙◌, subst, arith}
use Rattle.std.specs.Cmp.Lexicographic.{nat_list_eq_equiv}
use Rattle.std.specs.Map.{remove_entry}
use Rattle.std.specs.Str.{bytes_eq}
use Rattle.cert_store.specs.Holding.{Chains, Holding, chain_of, in_front, put_in, touched}
use Rattle.cert_store.specs.Judged.{JudgedView}
use Rattle.cert_store.specs.Using.{AreAmong, HasGivenWay, HeldUnless, IsHeldSince, IsOnce, has, names, used_after}
use Rattle.cert_store.proofs.CacheLaws.{apart, false_is_not_true, remove_other, same_text}
use Rattle.cert_store.proofs.OnceLaws.{no_more}

or_right : (b c : Bool) → c ≡ true → (b || c) ≡ true
or_right true c is = refl
or_right false c is = is

or_step : (b c d : Bool) → (c ≡ true → d ≡ true) → (b || c) ≡ true → (b || d) ≡ true
or_step true c d law is = refl
or_step false c d law is = law is

-- ---- a chain before others

-- it is the one that was used last
here_by : (used : List (List ℕ)) (x y : List ℕ) (j : JudgedView) (rest : Chains) → bytes_eq x y ≡ true → IsHeldSince used x ((y, j) ∷ rest)
here_by used x y j rest same = record {
  held = ap (λ b. is_some (cond b (Some j) (chain_of x rest))) same;
  since = λ z is. absurd (false_is_not_true (sym (ap (λ b. has z (cond b [] (y ∷ used_after x rest))) same) ∙ is));
}

pub here : (used : List (List ℕ)) (x : List ℕ) (j : JudgedView) (rest : Chains) → IsHeldSince used x ((x, j) ∷ rest)
here used x j rest = here_by used x x j rest (nat_list_eq_equiv.refl x)

among_more : (used : List (List ℕ)) (y : List ℕ) (xs : List (List ℕ)) → has y used ≡ true → AreAmong xs used → AreAmong (y ∷ xs) used
among_more used y xs first others z is = by (bytes_eq z y) refl is
  where
    by : (b : Bool) → bytes_eq z y ≡ b → (bytes_eq z y || has z xs) ≡ true → has z used ≡ true
    by true same given = ap (λ t. has t used) (same_text z y same) ∙ first
    by false same given = others z (sym (ap (λ b. b || has z xs) same) ∙ given)

-- another is before it
behind : (used : List (List ℕ)) (x y : List ℕ) (j : JudgedView) (rest : Chains) → bytes_eq x y ≡ false → has y used ≡ true → IsHeldSince used x rest → IsHeldSince used x ((y, j) ∷ rest)
behind used x y j rest other first so = record {
  held = ap (λ b. is_some (cond b (Some j) (chain_of x rest))) other ∙ so.held;
  since = λ z is.
      among_more used y (used_after x rest) first so.since z
      (sym (ap (λ b. has z (cond b [] (y ∷ used_after x rest))) other) ∙ is);
}

-- ---- without one, and of the first so many

removed_by : (z x y : List ℕ) (e : List ℕ × JudgedView) (es : Chains) (b c : Bool) → bytes_eq x y ≡ false → bytes_eq y e.0 ≡ b → bytes_eq x e.0 ≡ c
    → (has z (used_after x (remove_entry (bytes_eq y) es)) ≡ true → has z (used_after x es) ≡ true)
    → has z (used_after x (cond b es (e ∷ remove_entry (bytes_eq y) es))) ≡ true → has z (cond c [] (e.0 ∷ used_after x es)) ≡ true
removed_by z x y e es true true other same is law given = absurd (false_is_not_true (sym (apart x y e.0 other same) ∙ is))
removed_by z x y e es true false other same is law given = or_right (bytes_eq z e.0) (has z (used_after x es)) given
removed_by z x y e es false true other same is law given = sym (ap (λ b. has z (cond b [] (e.0 ∷ used_after x (remove_entry (bytes_eq y) es)))) is) ∙ given
removed_by z x y e es false false other same is law given =
    or_step (bytes_eq z e.0) (has z (used_after x (remove_entry (bytes_eq y) es))) (has z (used_after x es)) law
    (sym (ap (λ b. has z (cond b [] (e.0 ∷ used_after x (remove_entry (bytes_eq y) es)))) is) ∙ given)

after_removed : (z x y : List ℕ) → bytes_eq x y ≡ false → (es : Chains) → has z (used_after x (remove_entry (bytes_eq y) es)) ≡ true → has z (used_after x es) ≡ true
after_removed z x y other [] given = given
after_removed z x y other (e ∷ es) given = removed_by z x y e es (bytes_eq y e.0) (bytes_eq x e.0) other refl refl (after_removed z x y other es) given

removed : (used : List (List ℕ)) (x y : List ℕ) (es : Chains) → bytes_eq x y ≡ false → IsHeldSince used x es → IsHeldSince used x (remove_entry (bytes_eq y) es)
removed used x y es other so = record {
  held = ap is_some (remove_other x y other es) ∙ so.held;
  since = λ z is. so.since z (after_removed z x y other es is);
}

taken_by : (z : List ℕ) (e : List ℕ × JudgedView) (xs ys : List (List ℕ)) (c : Bool) → (has z xs ≡ true → has z ys ≡ true) → has z (cond c [] (e.0 ∷ xs)) ≡ true
    → has z (cond c [] (e.0 ∷ ys)) ≡ true
taken_by z e xs ys true law given = given
taken_by z e xs ys false law given = or_step (bytes_eq z e.0) (has z xs) (has z ys) law given

after_taken : (z x : List ℕ) (n : ℕ) (es : Chains) → has z (used_after x (take n es)) ≡ true → has z (used_after x es) ≡ true
after_taken z x zero es given = absurd (false_is_not_true given)
after_taken z x (suc n) [] given = given
after_taken z x (suc n) (e ∷ es) given = taken_by z e (used_after x (take n es)) (used_after x es) (bytes_eq x e.0) (after_taken z x n es) given

-- ---- the chains that were used after one

named_by : (z : List ℕ) (e : List ℕ × JudgedView) (es : Chains) (xs : List (List ℕ)) (c : Bool) → (has z xs ≡ true → has z (names es) ≡ true) → has z (cond c [] (e.0 ∷ xs)) ≡ true
    → (bytes_eq z e.0 || has z (names es)) ≡ true
named_by z e es xs true law given = absurd (false_is_not_true given)
named_by z e es xs false law given = or_step (bytes_eq z e.0) (has z xs) (has z (names es)) law given

after_named : (z x : List ℕ) (es : Chains) → has z (used_after x es) ≡ true → has z (names es) ≡ true
after_named z x [] given = given
after_named z x (e ∷ es) given = named_by z e es (used_after x es) (bytes_eq x e.0) (after_named z x es) given

not_has : (z : List ℕ) (xs ys : List (List ℕ)) → (has z xs ≡ true → has z ys ≡ true) → has z ys ≡ false → has z xs ≡ false
not_has z xs ys law none = by (has z xs) refl
  where
    by : (b : Bool) → has z xs ≡ b → has z xs ≡ false
    by true is = absurd (false_is_not_true (sym none ∙ law is))
    by false is = is

once_by : (x : List ℕ) (e : List ℕ × JudgedView) (es : Chains) (c : Bool) → has e.0 (names es) ≡ false → IsOnce (used_after x es) → IsOnce (cond c [] (e.0 ∷ used_after x es))
once_by x e es true none so = tt
once_by x e es false none so = (not_has e.0 (used_after x es) (names es) (after_named e.0 x es) none, so)

after_once : (x : List ℕ) (es : Chains) → IsOnce (names es) → IsOnce (used_after x es)
after_once x [] once = tt
after_once x (e ∷ es) once = once_by x e es (bytes_eq x e.0) once.0 (after_once x es once.1)

-- it isn't among them itself
itself_by : (x : List ℕ) (e : List ℕ × JudgedView) (xs : List (List ℕ)) (c : Bool) → bytes_eq x e.0 ≡ c → has x xs ≡ false → has x (cond c [] (e.0 ∷ xs)) ≡ false
itself_by x e xs true is none = refl
itself_by x e xs false is none = ap (λ b. b || has x xs) is ∙ none

not_itself : (x : List ℕ) (es : Chains) → has x (used_after x es) ≡ false
not_itself x [] = refl
not_itself x (e ∷ es) = itself_by x e (used_after x es) (bytes_eq x e.0) refl (not_itself x es)

-- one that isn't held is none of the names
named_by_test : (e : List ℕ × JudgedView) (b : Bool) (names_have : Bool) (found : Option JudgedView) → names_have ≡ is_some found → (b || names_have) ≡ is_some (cond b (Some e.1) found)
named_by_test e true names_have found same = refl
named_by_test e false names_have found same = same

pub named_held : (z : List ℕ) (es : Chains) → has z (names es) ≡ is_some (chain_of z es)
named_held z [] = refl
named_held z (e ∷ es) = named_by_test e (bytes_eq z e.0) (has z (names es)) (chain_of z es) (named_held z es)

pub held_since : (x : List ℕ) (es : Chains) → is_some (chain_of x es) ≡ true → IsHeldSince (names es) x es
held_since x es held = record { held = held; since = λ z is. after_named z x es is }

not_used : (z x : List ℕ) (es : Chains) → is_some (chain_of z es) ≡ false → has z (used_after x es) ≡ false
not_used z x es none = by (has z (used_after x es)) refl
  where
    by : (b : Bool) → has z (used_after x es) ≡ b → has z (used_after x es) ≡ false
    by true is = absurd (false_is_not_true (sym none ∙ sym (named_held z es) ∙ after_named z x es is))
    by false is = is

-- a chain that isn't among the first so many has as many before it
place_by : (x : List ℕ) (e : List ℕ × JudgedView) (es : Chains) (n : ℕ) (c : Bool) → (is_some (chain_of x es) ≡ true → is_some (chain_of x (take n es)) ≡ false → n ≤ length (used_after x es))
    → is_some (cond c (Some e.1) (chain_of x es)) ≡ true → is_some (cond c (Some e.1) (chain_of x (take n es))) ≡ false → suc n ≤ length (cond c [] (e.0 ∷ used_after x es))
place_by x e es n true law held gone = absurd (false_is_not_true (sym gone))
place_by x e es n false law held gone = let most = law held gone in omega arith

place : (x : List ℕ) (n : ℕ) (es : Chains) → is_some (chain_of x es) ≡ true → is_some (chain_of x (take n es)) ≡ false → n ≤ length (used_after x es)
place x zero es held gone = omega arith
place x (suc n) [] held gone = absurd (false_is_not_true held)
place x (suc n) (e ∷ es) held gone = place_by x e es n (bytes_eq x e.0) (place x n es) held gone

-- ---- a use

front_by : (used : List (List ℕ)) (x y : List ℕ) (es : Chains) (o : Option JudgedView) (b : Bool) → bytes_eq x y ≡ b → (is_some o ≡ true → has y used ≡ true) → IsHeldSince used x es
    → IsHeldSince used x (in_front y es o)
front_by used x y es None b is first so = so
front_by used x y es (Some j) true is first so = here_by used x y j (remove_entry (bytes_eq y) es) is
front_by used x y es (Some j) false is first so = behind used x y j (remove_entry (bytes_eq y) es) is (first refl) (removed used x y es is so)

pub touched_unless : (capacity : ℕ) (used : List (List ℕ)) (y x : List ℕ) (es : Chains) → (is_some (chain_of y es) ≡ true → has y used ≡ true) → HeldUnless capacity used x es
    → HeldUnless capacity used x (touched y es)
touched_unless capacity used y x es first (inl so) = inl (front_by used x y es (chain_of y es) (bytes_eq x y) refl first so)
touched_unless capacity used y x es first (inr gone) = inr gone

touched_by : (used : List (List ℕ)) (x : List ℕ) (es : Chains) (o : Option JudgedView) → is_some o ≡ true → IsHeldSince used x (in_front x es o)
touched_by used x es None held = absurd (false_is_not_true held)
touched_by used x es (Some j) held = here used x j (remove_entry (bytes_eq x) es)

pub touched_here : (used : List (List ℕ)) (x : List ℕ) (es : Chains) → is_some (chain_of x es) ≡ true → IsHeldSince used x (touched x es)
touched_here used x es held = touched_by used x es (chain_of x es) held

-- ---- a chain that is put

given_way : (capacity : ℕ) (used : List (List ℕ)) (x y : List ℕ) (es : Chains) → IsOnce (names es) → bytes_eq x y ≡ false → is_some (chain_of y es) ≡ false
    → is_some (chain_of x (take (capacity - 1) es)) ≡ false → has y used ≡ true → IsHeldSince used x es → HasGivenWay capacity used x
given_way capacity used x y es once other none gone first so = record {
  others = y ∷ used_after x es;
  once = (not_used y x es none, after_once x es once);
  among = among_more used y (used_after x es) first so.since;
  apart = ap (λ b. b || has x (used_after x es)) other ∙ not_itself x es;
  many = (let most = place x (capacity - 1) es so.held gone in omega arith);
}

taken_since : (capacity : ℕ) (used : List (List ℕ)) (x y : List ℕ) (j : JudgedView) (es : Chains) (n : ℕ) → is_some (chain_of x (take n es)) ≡ true → bytes_eq x y ≡ false → has y used ≡ true
    → IsHeldSince used x es → IsHeldSince used x ((y, j) ∷ take n es)
taken_since capacity used x y j es n held other first so =
    behind used x y j (take n es) other first (record { held = held; since = λ z is. so.since z (after_taken z x n es is) })

room_by : (capacity : ℕ) (used : List (List ℕ)) (x y : List ℕ) (j : JudgedView) (es : Chains) (c : Bool) → is_some (chain_of x (take (capacity - 1) es)) ≡ c → IsOnce (names es)
    → bytes_eq x y ≡ false → is_some (chain_of y es) ≡ false → has y used ≡ true → IsHeldSince used x es → HeldUnless capacity used x ((y, j) ∷ take (capacity - 1) es)
room_by capacity used x y j es true is once other none first so = inl (taken_since capacity used x y j es (capacity - 1) is other first so)
room_by capacity used x y j es false is once other none first so = inr (given_way capacity used x y es once other none is first so)

others_by : (capacity : ℕ) (used : List (List ℕ)) (x y : List ℕ) (j : JudgedView) (es : Chains) (b : Bool) → is_some (chain_of y es) ≡ b → IsOnce (names es) → bytes_eq x y ≡ false
    → has y used ≡ true → IsHeldSince used x es → HeldUnless capacity used x ((y, j) ∷ cond b (remove_entry (bytes_eq y) es) (take (capacity - 1) es))
others_by capacity used x y j es true is once other first so = inl (behind used x y j (remove_entry (bytes_eq y) es) other first (removed used x y es other so))
others_by capacity used x y j es false is once other first so = room_by capacity used x y j es (is_some (chain_of x (take (capacity - 1) es))) refl once other is first so

put_by : (used : List (List ℕ)) (x y : List ℕ) (j : JudgedView) (h : Holding) (b : Bool) → bytes_eq x y ≡ b → IsOnce (names h.entries) → has y used ≡ true → IsHeldSince used x h.entries
    → HeldUnless h.capacity used x (put_in y j h)
put_by used x y j h true is once first so = inl (here_by used x y j _ is)
put_by used x y j h false is once first so = others_by h.capacity used x y j h.entries (is_some (chain_of y h.entries)) refl once is first so

pub put_unless : (used : List (List ℕ)) (y x : List ℕ) (j : JudgedView) (h : Holding) → IsOnce (names h.entries) → has y used ≡ true → HeldUnless h.capacity used x h.entries
    → HeldUnless h.capacity used x (put_in y j h)
put_unless used y x j h once first (inl so) = put_by used x y j h (bytes_eq x y) refl once first so
put_unless used y x j h once first (inr gone) = inr gone

pub put_here : (used : List (List ℕ)) (x : List ℕ) (j : JudgedView) (h : Holding) → IsHeldSince used x (put_in x j h)
put_here used x j h = here used x j _

-- ---- among more, and among few

pub unless_more : (capacity : ℕ) (used more : List (List ℕ)) (x : List ℕ) (es : Chains) → AreAmong used more → HeldUnless capacity used x es → HeldUnless capacity more x es
unless_more capacity used more x es among (inl so) = inl (record { held = so.held; since = λ z is. among z (so.since z is) })
unless_more capacity used more x es among (inr gone) =
    inr (record { others = gone.others; once = gone.once; among = λ z is. among z (gone.among z is); apart = gone.apart; many = gone.many })

pub few_held : (capacity : ℕ) (used : List (List ℕ)) (x : List ℕ) (es : Chains) → has x used ≡ true → length used ≤ capacity → HeldUnless capacity used x es → is_some (chain_of x es) ≡ true
few_held capacity used x es named few (inl so) = so.held
few_held capacity used x es named few (inr gone) =
    let most = no_more (x ∷ gone.others) used (gone.apart, gone.once) (among_more used x gone.others named gone.among) in
    let many = gone.many in
    absurd (omega arith)
