-- How a search goes on and ends, in the words of a seat's holder.
use Rattle.std.proofs.Common.{◌≡◌, ◌≢◌, ℕ, zero, suc, ◌+◌, ◌<◌, ◌≤◌, inl, inr, ⊎_elim, List, [], ◌∷◌, ◌++◌, length, get_or, refl, sym, ap, ◌∙◌, subst, arith}
use Rattle.std.proofs.lemmas.List.{append_assoc, length-append}
use mathlib.Core.Logic.{dite}
use native.Mathlib.Decide.{ℕ_discrete}
use Rattle.live_desk.specs.Lists.{In, more_by}
use Rattle.live_desk.specs.Rule.{code_of, turn}
use Rattle.live_desk.specs.Ticket.{pieces}
use Rattle.live_desk.specs.Views.{seen_of, set_of}
use Rattle.live_desk.specs.Trail.{Has, Trail}
use Rattle.live_desk.specs.Holder.{Holder, gained}
use Rattle.live_desk.specs.ClaimSteps.{Begins, ClaimedExactly, Descended, Descends, Exchanged, Passes, Ready, Searched}
use Rattle.live_desk.specs.declared.view.SetWord.{SetWord}
use Rattle.live_desk.specs.declared.view.SeenWord.{SeenWord}
use Rattle.live_desk.specs.declared.view.Blank.{Blank}
use Rattle.live_desk.specs.declared.claiming.Place.{Place}
use Rattle.live_desk.specs.declared.claiming.Place.TheVariants.{Set, Found, Full}
use Rattle.live_desk.specs.declared.claim.LiveClaim.TheVariants.{Won, Lost, Full as FullLevel}
use Rattle.live_desk.proofs.Levels.{levels_all, levels_more}
use Rattle.live_desk.proofs.Sums.{in_append, in_left, in_right}
use Rattle.live_desk.proofs.Words.{turn_of}

-- ---- what more entries keep

pub has_left : (sets more : List SetWord) (seen further : List SeenWord) (level slot word : ℕ) → Has sets seen level slot word → Has (sets ++ more) (seen ++ further) level slot word
has_left sets more seen further level slot word has = ⊎_elim (λ set. inl (set.0, in_left _ sets more set.1)) (λ found. inr (in_left _ seen further found)) has

pub has_right : (sets more : List SetWord) (seen further : List SeenWord) (level slot word : ℕ) → Has sets seen level slot word → Has (more ++ sets) (further ++ seen) level slot word
has_right sets more seen further level slot word has = ⊎_elim (λ set. inl (set.0, in_right _ more sets set.1)) (λ found. inr (in_right _ further seen found)) has

pub trail_left : (sets more : List SetWord) (seen further : List SeenWord) (ps : List ℕ) (level parent : ℕ) → Trail sets seen ps level parent → Trail (sets ++ more) (seen ++ further) ps level parent
trail_left sets more seen further ps zero parent trail = trail
trail_left sets more seen further ps (suc level) parent trail = (trail.0, trail_left sets more seen further ps level trail.0 trail.1, has_left sets more seen further level parent _ trail.2)

pub trail_right : (sets more : List SetWord) (seen further : List SeenWord) (ps : List ℕ) (level parent : ℕ) → Trail sets seen ps level parent → Trail (more ++ sets) (further ++ seen) ps level parent
trail_right sets more seen further ps zero parent trail = trail
trail_right sets more seen further ps (suc level) parent trail = (trail.0, trail_right sets more seen further ps level trail.0 trail.1, has_right sets more seen further level parent _ trail.2)

-- ---- one level of a claim

pub ready_of : (size near level code tries slot : ℕ) (ticket : List ℕ) (before now : Holder) → near ≡ size → Begins ticket level code before → Passes size level code tries before now → tries < size
    → slot ≡ turn near code tries → Ready size ticket level slot code now
ready_of size near level code tries slot ticket before now near_is begins passes few here =
    subst (λ (h : Holder). Ready size ticket level slot code h) (sym passes.gained) (record {
      parent = begins.parent;
      tries = tries;
      is_code = begins.is_code;
      trail = trail_right before.sets [] before.seen passes.seen (pieces ticket) level begins.parent begins.trail;
      few = few;
      here = here ∙ ap (λ (n : ℕ). turn n code tries) near_is;
      searched = λ n less. let was = passes.passed n less in (was.0, inr (in_left _ passes.seen before.seen was.1), was.2);
    })

-- a word that was seen there isn't the ticket's code, so the search goes on
pub passes_seen : (size near level code tries slot found : ℕ) (before now next : Holder) → near ≡ size → Passes size level code tries before now
    → next ≡ gained [] (seen_of level slot found ∷ []) [] now → found ≢ code → slot ≡ turn near code tries → Passes size level code (tries + 1) before next
passes_seen size near level code tries slot found before now next near_is passes more other here = record {
  seen = seen_of level slot found ∷ passes.seen;
  gained = more ∙ ap (gained [] (seen_of level slot found ∷ []) []) passes.gained;
  own = λ e there. ⊎_elim (λ same. subst (λ (x : SeenWord). (x.level ≡ level) × (x.word ≢ code)) (sym same) (refl, other)) (passes.own e) there;
  passed = λ n less. dite (ℕ_discrete n tries)
      (λ same.
      let slot_is : slot ≡ turn size code n = here ∙ (ap (λ (k : ℕ). turn k code tries) near_is ∙ ap (λ (k : ℕ). turn size code k) (sym same)) in
      (found, inl (ap (λ (s : ℕ). seen_of level s found) (sym slot_is)), other))
      (λ apart. let was = passes.passed n (omega arith) in (was.0, inr was.1, was.2));
  steps = omega (arith, passes.steps);
}

pub passes_more : (size near level code tries slot found : ℕ) (ticket : List ℕ) (before now next : Holder) → near ≡ size → Passes size level code tries before now
    → Exchanged level slot code ticket now next found → found ≢ 0 → found ≢ code → slot ≡ turn near code tries → Passes size level code (tries + 1) before next
passes_more size near level code tries slot found ticket before now next near_is passes exchanged taken other here =
    passes_seen size near level code tries slot found before now next near_is passes (exchanged.lost taken) other here

pub searched_set : (size level code tries slot found : ℕ) (ticket : List ℕ) (before now next : Holder) → Passes size level code tries before now
    → Exchanged level slot code ticket now next found → found ≡ 0 → tries < size → slot < size → Searched size level code ticket before next (Set slot)
searched_set size level code tries slot found ticket before now next passes exchanged free few within = record {
  sets = set_of level slot code ticket ∷ [];
  seen = passes.seen;
  gained = exchanged.won free ∙ ap (gained (set_of level slot code ticket ∷ []) [] []) passes.gained;
  own = λ e there. (passes.own e there).0;
  ended = (within, refl, λ e there. (passes.own e there).1);
  steps = omega (arith, passes.steps);
}

pub searched_found : (size level code tries slot found : ℕ) (ticket : List ℕ) (before now next : Holder) → Passes size level code tries before now
    → Exchanged level slot code ticket now next found → found ≢ 0 → found ≡ code → tries < size → slot < size → Searched size level code ticket before next (Found slot)
searched_found size level code tries slot found ticket before now next passes exchanged taken same few within = record {
  sets = [];
  seen = seen_of level slot found ∷ passes.seen;
  gained = exchanged.lost taken ∙ ap (gained [] (seen_of level slot found ∷ []) []) passes.gained;
  own = λ e there. ⊎_elim (λ new. ap (λ (x : SeenWord). x.level) new) (λ old. (passes.own e old).0) there;
  ended = (within, refl, inl (ap (seen_of level slot) (sym same)));
  steps = omega (arith, passes.steps);
}

pub searched_full : (size level code tries : ℕ) (ticket : List ℕ) (before now : Holder) → tries ≡ size → Passes size level code tries before now → Searched size level code ticket before now Full
searched_full size level code tries ticket before now all passes = record {
  sets = [];
  seen = passes.seen;
  gained = passes.gained;
  own = λ e there. (passes.own e there).0;
  ended = (
    refl,
    λ slot within.
        let turned = turn_of size code slot within in
        let was = passes.passed turned.0 (omega (arith, turned.1)) in
        (was.0, subst (λ (s : ℕ). In (seen_of level s was.0) passes.seen) turned.2 was.1, was.2),
  );
  steps = omega (arith, passes.steps);
}

-- ---- all levels of a claim

pub more_is : {A : Type 0} (xs : List A) (n : ℕ) → more_by xs n ≡ length xs + n
more_is [] n = omega arith
more_is (x ∷ xs) n = omega (arith, more_is xs n)

six_counts : {A B C : Type 0} (more sets : List A) (further seen : List B) (beyond blanks : List C) (n : ℕ)
    → more_by beyond (more_by more (more_by further (more_by blanks (more_by sets (more_by seen n))))) ≡ more_by (beyond ++ blanks) (more_by (more ++ sets) (more_by (further ++ seen) n))
six_counts more sets further seen beyond blanks n =
    let a = more_is seen n in
    let b = more_is sets (more_by seen n) in
    let c = more_is blanks (more_by sets (more_by seen n)) in
    let d = more_is further (more_by blanks (more_by sets (more_by seen n))) in
    let e = more_is more (more_by further (more_by blanks (more_by sets (more_by seen n)))) in
    let f = more_is beyond (more_by more (more_by further (more_by blanks (more_by sets (more_by seen n))))) in
    let g = more_is (further ++ seen) n in
    let h = more_is (more ++ sets) (more_by (further ++ seen) n) in
    let i = more_is (beyond ++ blanks) (more_by (more ++ sets) (more_by (further ++ seen) n)) in
    omega (arith, a, b, c, d, e, f, g, h, i, length-append more sets, length-append further seen, length-append beyond blanks)

-- what was gained twice
pub gained_more : (sets more : List SetWord) (seen further : List SeenWord) (blanks beyond : List Blank) (h : Holder)
    → gained more further beyond (gained sets seen blanks h) ≡ gained (more ++ sets) (further ++ seen) (beyond ++ blanks) h
gained_more sets more seen further blanks beyond h =
    let twice : ℕ = more_by beyond (more_by more (more_by further (more_by blanks (more_by sets (more_by seen h.steps))))) in
    let steps : twice ≡ more_by (beyond ++ blanks) (more_by (more ++ sets) (more_by (further ++ seen) h.steps)) =
    six_counts more sets further seen beyond blanks h.steps in
    ap (λ (xs : List SetWord). record { desk = h.desk; sets = xs; seen = further ++ (seen ++ h.seen); blanks = beyond ++ (blanks ++ h.blanks); share = h.share; steps = twice }) (sym (append_assoc more sets h.sets))
    ∙ (ap (λ (xs : List SeenWord). record { desk = h.desk; sets = (more ++ sets) ++ h.sets; seen = xs; blanks = beyond ++ (blanks ++ h.blanks); share = h.share; steps = twice }) (sym (append_assoc further seen h.seen))
    ∙ (ap (λ (xs : List Blank). record { desk = h.desk; sets = (more ++ sets) ++ h.sets; seen = (further ++ seen) ++ h.seen; blanks = xs; share = h.share; steps = twice }) (sym (append_assoc beyond blanks h.blanks))
    ∙ ap (λ (n : ℕ). record { desk = h.desk; sets = (more ++ sets) ++ h.sets; seen = (further ++ seen) ++ h.seen; blanks = (beyond ++ blanks) ++ h.blanks; share = h.share; steps = n }) steps))

pub descends_none : (size : ℕ) (ticket : List ℕ) (h : Holder) → 0 < size → Descends size ticket 0 0 h h
descends_none size ticket h more = record { sets = []; seen = []; gained = refl; own_sets = λ e nothing. absurd nothing; own_seen = λ e nothing. absurd nothing; trail = refl; within = more; steps = omega arith }

module _ (size : ℕ) (ticket : List ℕ) (level parent code : ℕ) (before now : Holder) (descends : Descends size ticket level parent before now)
    (code_is : code ≡ code_of parent (get_or (pieces ticket) level 0)) where
  pub begins_of : Begins ticket level code now
  begins_of = subst (λ (h : Holder). Begins ticket level code h) (sym descends.gained)
      (record { parent = parent; is_code = code_is; trail = trail_left descends.sets before.sets descends.seen before.seen (pieces ticket) level parent descends.trail })

  -- the level's own words
  here_gained : (next : Holder) (sets : List SetWord) (seen : List SeenWord) → next ≡ gained sets seen [] now → next ≡ gained (sets ++ descends.sets) (seen ++ descends.seen) [] before
  here_gained next sets seen more = more ∙ (ap (gained sets seen []) descends.gained ∙ gained_more descends.sets sets descends.seen seen [] [] before)

  below : (n : ℕ) → n ≡ level → n < level + 1
  below n same = omega arith

  later : (n : ℕ) → n < level → n < level + 1
  later n less = omega arith

  next_level : suc level ≡ level + 1
  next_level = omega arith

  -- the ticket's code is at this level, and what was set there is the ticket's
  descends_at : (next : Holder) (place : Place) (slot : ℕ) → (searched : Searched size level code ticket now next place) → slot < size
      → ((e : SetWord) → In e searched.sets → (e.ticket ≡ ticket) × (e.level ≡ level)) → Has (searched.sets ++ descends.sets) (searched.seen ++ descends.seen) level slot code
      → Descends size ticket (level + 1) slot before next
  descends_at next place slot searched within own has = record {
    sets = searched.sets ++ descends.sets;
    seen = searched.seen ++ descends.seen;
    gained = here_gained next searched.sets searched.seen searched.gained;
    own_sets = λ e there. ⊎_elim
        (λ new. ((own e new).0, below e.level (own e new).1))
        (λ old. ((descends.own_sets e old).0, later e.level (descends.own_sets e old).1))
        (in_append e searched.sets descends.sets there);
    own_seen = λ e there. ⊎_elim (λ new. below e.level (searched.own e new)) (λ old. later e.level (descends.own_seen e old)) (in_append e searched.seen descends.seen there);
    trail = subst (λ (n : ℕ). Trail (searched.sets ++ descends.sets) (searched.seen ++ descends.seen) (pieces ticket) n slot) next_level (
      parent,
      trail_right descends.sets searched.sets descends.seen searched.seen (pieces ticket) level parent descends.trail,
      subst (λ (c : ℕ). Has (searched.sets ++ descends.sets) (searched.seen ++ descends.seen) level slot c) code_is has,
    );
    within = within;
    steps = levels_more size level descends.sets searched.sets descends.seen searched.seen descends.steps searched.steps;
  }

  pub descends_set : (next : Holder) (slot : ℕ) → Searched size level code ticket now next (Set slot) → Descends size ticket (level + 1) slot before next
  descends_set next slot searched =
      let one : searched.sets ≡ set_of level slot code ticket ∷ [] = searched.ended.1 in
      descends_at next (Set slot) slot searched searched.ended.0
      (λ e new. ⊎_elim (λ same. (ap (λ (x : SetWord). x.ticket) same, ap (λ (x : SetWord). x.level) same)) (λ nothing. absurd nothing) (subst (In e) one new))
      (inl (ticket, in_left _ searched.sets descends.sets (subst (In (set_of level slot code ticket)) (sym one) (inl refl))))

  pub descends_found : (next : Holder) (slot : ℕ) → Searched size level code ticket now next (Found slot) → Descends size ticket (level + 1) slot before next
  descends_found next slot searched =
      let none : searched.sets ≡ [] = searched.ended.1 in
      descends_at next (Found slot) slot searched searched.ended.0 (λ e new. absurd (subst (In e) none new)) (inr (in_left _ searched.seen descends.seen searched.ended.2))

  pub descended_full : (next : Holder) → Searched size level code ticket now next Full → Descended size ticket before next level
  descended_full next searched =
      let none : searched.sets ≡ [] = searched.ended.0 in
      record {
        sets = searched.sets ++ descends.sets;
        seen = searched.seen ++ descends.seen;
        gained = here_gained next searched.sets searched.seen searched.gained;
        own_sets = λ e there. ⊎_elim (λ new. absurd (subst (In e) none new)) (λ old. descends.own_sets e old) (in_append e searched.sets descends.sets there);
        own_seen = λ e there. ⊎_elim (λ new. let same = searched.own e new in let least : e.level ≤ level = omega arith in least) (λ old. let less = descends.own_seen e old in let least : e.level ≤ level = omega arith in least)
            (in_append e searched.seen descends.seen there);
        full = record {
          parent = parent;
          trail = trail_right descends.sets searched.sets descends.seen searched.seen (pieces ticket) level parent descends.trail;
          each = λ slot within.
              let found = searched.ended.1 slot within in
              (found.0, in_left _ searched.seen descends.seen found.1, λ same. found.2 (same ∙ sym code_is));
        };
        steps = levels_more size level descends.sets searched.sets descends.seen searched.seen descends.steps searched.steps;
      }

-- ---- the end of a claim

pub claimed_full : (size level : ℕ) (ticket : List ℕ) (before next : Holder) → level < 6 → Descended size ticket before next level → ClaimedExactly size ticket before next (FullLevel (level + 1))
claimed_full size level ticket before next within descended = record {
  sets = descended.sets;
  seen = descended.seen;
  gained = descended.gained;
  own = λ e there. (descended.own_sets e there).0;
  ended = (level, refl, within, descended.full, (λ e there. (descended.own_sets e there).1), descended.own_seen);
  steps = levels_all size level _ within descended.steps;
}

module _ (size : ℕ) (ticket : List ℕ) (parent code : ℕ) (before now : Holder) (descends : Descends size ticket 5 parent before now) (code_is : code ≡ code_of parent (get_or (pieces ticket) 5 0)) where
  pub claimed_set : (next : Holder) (slot : ℕ) → Searched size 5 code ticket now next (Set slot) → ClaimedExactly size ticket before next Won
  claimed_set next slot searched =
      let one : searched.sets ≡ set_of 5 slot code ticket ∷ [] = searched.ended.1 in
      record {
        sets = searched.sets ++ descends.sets;
        seen = searched.seen ++ descends.seen;
        gained = here_gained size ticket 5 parent code before now descends code_is next searched.sets searched.seen searched.gained;
        own = λ e there. ⊎_elim
            (λ new. ⊎_elim (λ same. ap (λ (x : SetWord). x.ticket) same) (λ nothing. absurd nothing) (subst (In e) one new))
            (λ old. (descends.own_sets e old).0)
            (in_append e searched.sets descends.sets there);
        ended = (
          parent,
          slot,
          trail_right descends.sets searched.sets descends.seen searched.seen (pieces ticket) 5 parent descends.trail,
          subst (λ (c : ℕ). In (set_of 5 slot c ticket) (searched.sets ++ descends.sets)) code_is (in_left _ searched.sets descends.sets (subst (In (set_of 5 slot code ticket)) (sym one) (inl refl))),
          λ e there last. ⊎_elim
              (λ new same. searched.ended.2 e new (same ∙ sym code_is))
              (λ old same. let less = descends.own_seen e old in let no : ⊥ = omega arith in no)
              (in_append e searched.seen descends.seen there),
        );
        steps = levels_more size 5 descends.sets searched.sets descends.seen searched.seen descends.steps searched.steps;
      }

  pub claimed_found : (next : Holder) (slot : ℕ) → Searched size 5 code ticket now next (Found slot) → ClaimedExactly size ticket before next Lost
  claimed_found next slot searched =
      let none : searched.sets ≡ [] = searched.ended.1 in
      let old_sets : (e : SetWord) → In e (searched.sets ++ descends.sets) → In e descends.sets =
      λ e there. ⊎_elim (λ new. absurd (subst (In e) none new)) (λ old. old) (in_append e searched.sets descends.sets there) in
      record {
        sets = searched.sets ++ descends.sets;
        seen = searched.seen ++ descends.seen;
        gained = here_gained size ticket 5 parent code before now descends code_is next searched.sets searched.seen searched.gained;
        own = λ e there. (descends.own_sets e (old_sets e there)).0;
        ended = (
          parent,
          slot,
          trail_right descends.sets searched.sets descends.seen searched.seen (pieces ticket) 5 parent descends.trail,
          subst (λ (c : ℕ). In (seen_of 5 slot c) (searched.seen ++ descends.seen)) code_is (in_left _ searched.seen descends.seen searched.ended.2),
          λ e there. (descends.own_sets e (old_sets e there)).1,
        );
        steps = levels_more size 5 descends.sets searched.sets descends.seen searched.seen descends.steps searched.steps;
      }
