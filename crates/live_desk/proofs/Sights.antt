-- How a look goes on and ends, in the words of a seat's holder.
use Rattle.std.proofs.Common.{◌≡◌, ◌≢◌, ℕ, suc, true, false, ◌+◌, ◌*◌, ◌<◌, ◌≤◌, ◌⊎◌, inl, inr, ⊎_elim, List, [], ◌∷◌, ◌++◌, length, get_or, refl, sym, ap, ◌∙◌, subst, arith}
use Rattle.std.proofs.lemmas.List.{length-append}
use Rattle.live_desk.specs.Lists.{In}
use Rattle.live_desk.specs.Rule.{code_of, turn}
use Rattle.live_desk.specs.Ticket.{pieces}
use Rattle.live_desk.specs.Views.{blank_of, seen_of}
use Rattle.live_desk.specs.Trail.{BlankAt, FullAt, Trail}
use Rattle.live_desk.specs.Holder.{Holder, gained}
use Rattle.live_desk.specs.ClaimSteps.{Passes}
use Rattle.live_desk.specs.HeldSteps.{Follows, HeldExactly, Loaded, Looked}
use Rattle.live_desk.specs.declared.view.SeenWord.{SeenWord}
use Rattle.live_desk.specs.declared.view.Blank.{Blank}
use Rattle.live_desk.specs.declared.looking.Sight.{Sight}
use Rattle.live_desk.specs.declared.looking.Sight.TheVariants.{Found, Blank as Clear, Missing}
use Rattle.live_desk.proofs.Levels.{level_more, levels_all}
use Rattle.live_desk.proofs.Sums.{in_append, in_left}
use Rattle.live_desk.proofs.Words.{turn_of}
use Rattle.live_desk.proofs.Searches.{gained_more, passes_seen, trail_right}

-- ---- one level

pub sees_more : (size near level code tries slot found : ℕ) (before now next : Holder) → near ≡ size → Passes size level code tries before now
    → Loaded level slot now next found → found ≢ 0 → found ≢ code → slot ≡ turn near code tries → Passes size level code (tries + 1) before next
sees_more size near level code tries slot found before now next near_is passes loaded taken other here =
    passes_seen size near level code tries slot found before now next near_is passes (loaded.taken taken) other here

pub looked_found : (size level code tries slot found : ℕ) (before now next : Holder) → Passes size level code tries before now
    → Loaded level slot now next found → found ≢ 0 → found ≡ code → tries < size → slot < size → Looked size level code before next (Found slot)
looked_found size level code tries slot found before now next passes loaded taken same few within = record {
  seen = seen_of level slot found ∷ passes.seen;
  blanks = [];
  gained = loaded.taken taken ∙ ap (gained [] (seen_of level slot found ∷ []) []) passes.gained;
  own = λ e there. ⊎_elim (λ new. ap (λ (x : SeenWord). x.level) new) (λ old. (passes.own e old).0) there;
  ended = (within, refl, inl (ap (seen_of level slot) (sym same)));
  steps = omega (arith, passes.steps);
}

pub looked_blank : (size near level code tries slot found : ℕ) (before now next : Holder) → near ≡ size → Passes size level code tries before now
    → Loaded level slot now next found → found ≡ 0 → tries < size → slot ≡ turn near code tries → Looked size level code before next Clear
looked_blank size near level code tries slot found before now next near_is passes loaded free few here = record {
  seen = passes.seen;
  blanks = blank_of level slot ∷ [];
  gained = loaded.blank free ∙ ap (gained [] [] (blank_of level slot ∷ [])) passes.gained;
  own = λ e there. (passes.own e there).0;
  ended = (tries, few, inl (ap (blank_of level) (sym (here ∙ ap (λ (k : ℕ). turn k code tries) near_is))), passes.passed, λ e there. (passes.own e there).1);
  steps = omega (arith, passes.steps);
}

pub looked_missing : (size level code tries : ℕ) (before now : Holder) → tries ≡ size → Passes size level code tries before now → Looked size level code before now Missing
looked_missing size level code tries before now all passes = record {
  seen = passes.seen;
  blanks = [];
  gained = passes.gained;
  own = λ e there. (passes.own e there).0;
  ended = λ slot within.
      let turned = turn_of size code slot within in
      let was = passes.passed turned.0 (omega (arith, turned.1)) in
      (was.0, subst (λ (s : ℕ). In (seen_of level s was.0) passes.seen) turned.2 was.1, was.2);
  steps = omega (arith, passes.steps);
}

-- ---- all levels

pub follows_none : (size : ℕ) (ticket : List ℕ) (h : Holder) → 0 < size → Follows size ticket 0 0 h h
follows_none size ticket h more = record { seen = []; gained = refl; own = λ e nothing. absurd nothing; trail = refl; within = more; steps = omega arith }

pub held_true : (size : ℕ) (ticket : List ℕ) (level parent : ℕ) (before now : Holder) → level ≡ 6 → Follows size ticket level parent before now → HeldExactly size ticket before now true
held_true size ticket level parent before now last follows = record {
  seen = follows.seen;
  blanks = [];
  gained = follows.gained;
  ended = (parent, subst (λ (n : ℕ). Trail [] follows.seen (pieces ticket) n parent) last follows.trail, refl);
  steps = omega (arith, follows.steps, ap (λ (n : ℕ). n * size) last);
}

module _ (size : ℕ) (ticket : List ℕ) (level parent code : ℕ) (before now : Holder) (follows : Follows size ticket level parent before now)
    (code_is : code ≡ code_of parent (get_or (pieces ticket) level 0)) where
  here_gained : (next : Holder) (seen : List SeenWord) (blanks : List Blank) → next ≡ gained [] seen blanks now → next ≡ gained [] (seen ++ follows.seen) (blanks ++ []) before
  here_gained next seen blanks more = more ∙ (ap (gained [] seen blanks) follows.gained ∙ gained_more [] [] follows.seen seen [] blanks before)

  below : (n : ℕ) → n ≡ level → n < level + 1
  below n same = omega arith

  later : (n : ℕ) → n < level → n < level + 1
  later n less = omega arith

  at_most : (n : ℕ) → n ≡ level → n ≤ level
  at_most n same = omega arith

  at_most_before : (n : ℕ) → n < level → n ≤ level
  at_most_before n less = omega arith

  next_level : suc level ≡ level + 1
  next_level = omega arith

  here_steps : level < 6 → (seen : List SeenWord) (blanks : List Blank) → length seen + length blanks ≤ size → length (seen ++ follows.seen) + length (blanks ++ []) ≤ 6 * size
  here_steps lt seen blanks few =
      let all = level_more size level (length follows.seen) (length seen + length blanks) follows.steps few in
      let most = levels_all size level (length follows.seen + (length seen + length blanks)) lt all in
      omega (arith, length-append seen follows.seen, length-append blanks [])

  pub follows_found : (next : Holder) (slot : ℕ) → Looked size level code now next (Found slot) → Follows size ticket (level + 1) slot before next
  follows_found next slot looked = record {
    seen = looked.seen ++ follows.seen;
    gained = here_gained next looked.seen [] (looked.gained ∙ ap (λ (bs : List Blank). gained [] looked.seen bs now) looked.ended.1);
    own = λ e there. ⊎_elim (λ new. below e.level (looked.own e new)) (λ old. later e.level (follows.own e old)) (in_append e looked.seen follows.seen there);
    trail = subst (λ (n : ℕ). Trail [] (looked.seen ++ follows.seen) (pieces ticket) n slot) next_level (
      parent,
      trail_right [] [] follows.seen looked.seen (pieces ticket) level parent follows.trail,
      inr (subst (λ (c : ℕ). In (seen_of level slot c) (looked.seen ++ follows.seen)) code_is (in_left _ looked.seen follows.seen looked.ended.2)),
    );
    within = looked.ended.0;
    steps = let here : length looked.seen ≤ size = omega (arith, looked.steps) in omega (arith, length-append looked.seen follows.seen, level_more size level (length follows.seen) (length looked.seen) follows.steps here);
  }

  -- a look that ends at this level
  held_at : level < 6 → (next : Holder) (sight : Sight) → (looked : Looked size level code now next sight)
      → (((b : BlankAt size ticket (looked.seen ++ follows.seen) (looked.blanks ++ []) level)
      × ((e : SeenWord) → In e (looked.seen ++ follows.seen) → e.level ≡ level → e.word ≢ code_of b.parent (get_or (pieces ticket) level 0)))
      ⊎ FullAt size ticket [] (looked.seen ++ follows.seen) level)
      → HeldExactly size ticket before next false
  held_at lt next sight looked why = record {
    seen = looked.seen ++ follows.seen;
    blanks = looked.blanks ++ [];
    gained = here_gained next looked.seen looked.blanks looked.gained;
    ended = (
      level,
      lt,
      (λ e there. ⊎_elim (λ new. at_most e.level (looked.own e new)) (λ old. at_most_before e.level (follows.own e old)) (in_append e looked.seen follows.seen there)),
      why,
    );
    steps = here_steps lt looked.seen looked.blanks looked.steps;
  }

  pub held_blank : level < 6 → (next : Holder) → Looked size level code now next Clear → HeldExactly size ticket before next false
  held_blank lt next looked = held_at lt next Clear looked (inl (
    record {
      parent = parent;
      trail = trail_right [] [] follows.seen looked.seen (pieces ticket) level parent follows.trail;
      tries = looked.ended.0;
      few = looked.ended.1;
      blank = subst (λ (c : ℕ). In (blank_of level (turn size c looked.ended.0)) (looked.blanks ++ [])) code_is (in_left _ looked.blanks [] looked.ended.2);
      searched = subst (λ (c : ℕ). (n : ℕ) → n < looked.ended.0 → (word : ℕ) × In (seen_of level (turn size c n) word) (looked.seen ++ follows.seen) × (word ≢ c)) code_is
          (λ n less. let was = looked.ended.3 n less in (was.0, in_left _ looked.seen follows.seen was.1, was.2));
    },
    λ e there last. ⊎_elim
        (λ new same. looked.ended.4 e new (same ∙ sym code_is))
        (λ old same. let less = follows.own e old in let no : ⊥ = omega arith in no)
        (in_append e looked.seen follows.seen there),
  ))

  pub held_missing : level < 6 → (next : Holder) → Looked size level code now next Missing → HeldExactly size ticket before next false
  held_missing lt next looked = held_at lt next Missing looked (inr (record {
    parent = parent;
    trail = trail_right [] [] follows.seen looked.seen (pieces ticket) level parent follows.trail;
    each = λ slot within. let found = looked.ended slot within in (found.0, in_left _ looked.seen follows.seen found.1, λ same. found.2 (same ∙ sym code_is));
  }))
