-- That a claim's and a look's answers are exact: what each case says excludes the others.
use Rattle.std.proofs.Common.{◌≡◌, ◌↔◌, ◌⊎◌, Bool, true, false, ℕ, zero, suc, ◌+◌, ◌-◌, ◌*◌, ◌<◌, ◌≤◌, inl, inr, ⊎_elim, List, [], length, get_or, refl, sym, ap, ◌∙◌, subst, arith}
use mathlib.Core.Logic.{dite}
use native.Mathlib.Decide.{dec_lt}
use Rattle.live_desk.specs.Lists.{In, more_by}
use Rattle.live_desk.specs.Rule.{Sound, code_of}
use Rattle.live_desk.specs.Ticket.{IsTicket, pieces}
use Rattle.live_desk.specs.Views.{AllMark, AllStand, Stands, seen_of, set_of}
use Rattle.live_desk.specs.Known.{Known}
use Rattle.live_desk.specs.Trail.{BlankAt, FoundLast, FullAt, Has, SetLast, Trail}
use Rattle.live_desk.specs.Holder.{Holder, gained}
use Rattle.live_desk.specs.ClaimSteps.{ClaimedExactly}
use Rattle.live_desk.specs.HeldSteps.{HeldExactly}
use Rattle.live_desk.specs.Claimed.{BeforeFull, Claimed}
use Rattle.live_desk.specs.Held.{Held}
use Rattle.live_desk.specs.declared.view.SetWord.{SetWord}
use Rattle.live_desk.specs.declared.view.SeenWord.{SeenWord}
use Rattle.live_desk.specs.declared.view.Blank.{Blank}
use Rattle.live_desk.specs.declared.claim.LiveClaim.{LiveClaim}
use Rattle.live_desk.specs.declared.claim.LiveClaim.TheVariants.{Won, Lost, Full}
use Rattle.live_desk.proofs.Searches.{more_is}
use Rattle.live_desk.proofs.Sums.{in_left}
use Rattle.live_desk.proofs.Trails.{has_stands}
use Rattle.live_desk.proofs.Words.{one_slot}

-- a trail reaches every level before its last
pub trail_prefix : (sets : List SetWord) (seen : List SeenWord) (ps : List ℕ) (more level slot : ℕ) → Trail sets seen ps (more + level) slot → (s : ℕ) × Trail sets seen ps level s
trail_prefix sets seen ps zero level slot trail = let same : zero + level ≡ level = omega arith in (slot, subst (λ (n : ℕ). Trail sets seen ps n slot) same trail)
trail_prefix sets seen ps (suc more) level slot trail =
    let same : suc more + level ≡ suc (more + level) = omega arith in
    let step : Trail sets seen ps (suc (more + level)) slot = subst (λ (n : ℕ). Trail sets seen ps n slot) same trail in
    trail_prefix sets seen ps more level step.0 step.1

pub trail_down : (sets : List SetWord) (seen : List SeenWord) (ps : List ℕ) (to level slot : ℕ) → level ≤ to → Trail sets seen ps to slot → (s : ℕ) × Trail sets seen ps level s
trail_down sets seen ps to level slot less trail =
    let same : to ≡ to - level + level = omega arith in
    trail_prefix sets seen ps (to - level) level slot (subst (λ (n : ℕ). Trail sets seen ps n slot) same trail)

module _ (size : ℕ) (words : List ℕ) (sound : Sound size words) (sets : List SetWord) (seen : List SeenWord) (marks : AllMark size words sets) (stands : AllStand size words seen) where
  at : (level slot word : ℕ) → Has sets seen level slot word → Stands size words level slot word
  at = has_stands size words sets seen marks stands

  -- a ticket has one slot at a level
  pub trail_one : (ps : List ℕ) (level p q : ℕ) → Trail sets seen ps level p → Trail sets seen ps level q → p ≡ q
  trail_one ps zero p q one other = one ∙ sym other
  trail_one ps (suc level) p q one other =
      let above = trail_one ps level one.0 other.0 one.1 other.1 in
      let s = at level p _ one.2 in
      let t = at level q _ other.2 in
      one_slot size words sound level p q s.below s.within t.within (λ nothing. s.some (sym s.is ∙ nothing)) (s.is ∙ (ap (λ (n : ℕ). code_of n (get_or ps level 0)) above ∙ sym t.is))

  -- a level at which a ticket has a slot isn't full
  pub not_full : (ticket : List ℕ) (level slot : ℕ) → Trail sets seen (pieces ticket) (suc level) slot → FullAt size ticket sets seen level → ⊥
  not_full ticket level slot trail full =
      let above = trail_one (pieces ticket) level full.parent trail.0 full.trail trail.1 in
      let s = at level slot _ trail.2 in
      let found = full.each slot s.within in
      let t = stands (seen_of level slot found.0) found.1 in
      found.2 (sym t.is ∙ (s.is ∙ ap (λ (n : ℕ). code_of n (get_or (pieces ticket) level 0)) (sym above)))

  never_full : (ticket : List ℕ) (to level slot : ℕ) → level < to → Trail sets seen (pieces ticket) to slot → FullAt size ticket sets seen level → ⊥
  never_full ticket to level slot less trail full = let step = trail_down sets seen (pieces ticket) to (suc level) slot less trail in not_full ticket level step.0 step.1 full

-- ---- claims

module _ (size : ℕ) (some : 0 < size) (ticket : List ℕ) (is : IsTicket ticket) (before after : Holder) (known : Known size after.sets after.seen after.share) where
  module _ (sets : List SetWord) (seen : List SeenWord) (blanks : List Blank) (more : after ≡ gained sets seen blanks before) where
    my_marks : AllMark size known.words sets
    my_marks e there = known.marks e (subst (In e) (sym (ap (λ (h : Holder). h.sets) more)) (in_left e sets before.sets there))

    my_stands : AllStand size known.words seen
    my_stands e there = known.stands e (subst (In e) (sym (ap (λ (h : Holder). h.seen) more)) (in_left e seen before.seen there))

    my_never : (to level slot : ℕ) → level < to → Trail sets seen (pieces ticket) to slot → FullAt size ticket sets seen level → ⊥
    my_never to level slot less trail full = never_full size known.words known.sound sets seen my_marks my_stands ticket to level slot less trail full

    my_one : (level p q : ℕ) → Trail sets seen (pieces ticket) level p → Trail sets seen (pieces ticket) level q → p ≡ q
    my_one level p q one other = trail_one size known.words known.sound sets seen my_marks my_stands (pieces ticket) level p q one other

  five : (n : ℕ) → n < 5 → n < 6
  five n less = omega arith

  up : (n level : ℕ) → n < level → n + 1 < level + 1
  up n level less = omega arith

  few_made : (sets : List SetWord) (seen : List SeenWord) (blanks : List Blank) → after ≡ gained sets seen blanks before → length sets + (length seen + length blanks) ≤ 6 * size → after.steps ≤ before.steps + 6 * size
  few_made sets seen blanks more few =
      let steps : after.steps ≡ more_by blanks (more_by sets (more_by seen before.steps)) = ap (λ (h : Holder). h.steps) more in
      omega (arith, steps, more_is seen before.steps, more_is sets (more_by seen before.steps), more_is blanks (more_by sets (more_by seen before.steps)), few)

  -- what an answer says of what was set and found
  claimed_by : (answer : LiveClaim) (exact : ClaimedExactly size ticket before after answer) → ((e : SetWord) → In e exact.sets → BeforeFull answer e.level)
      → ((answer ≡ Won) ↔ SetLast ticket exact.sets exact.seen) → ((answer ≡ Lost) ↔ FoundLast ticket exact.sets exact.seen)
      → ((n : ℕ) → (answer ≡ Full n) ↔ ((level : ℕ) × (n ≡ level + 1) × (level < 6) × FullAt size ticket exact.sets exact.seen level))
      → Claimed size ticket before after answer
  claimed_by answer exact own won lost full = record {
    sets = exact.sets;
    seen = exact.seen;
    gained = exact.gained;
    desk = ap (λ (h : Holder). h.desk) exact.gained;
    share = ap (λ (h : Holder). h.share) exact.gained;
    own = λ e there. (exact.own e there, own e there);
    won = won;
    lost = lost;
    full = full;
    steps = exact.steps;
    made = few_made exact.sets exact.seen [] exact.gained (omega (arith, exact.steps));
    ticket_is = is;
  }

  pub claimed_of : (answer : LiveClaim) → ClaimedExactly size ticket before after answer → Claimed size ticket before after answer
  claimed_of Won exact =
      let ended = exact.ended in
      let trail : Trail exact.sets exact.seen (pieces ticket) 6 ended.1 = (ended.0, ended.2, inl (ticket, ended.3)) in
      claimed_by Won exact
      (λ e there. (my_marks exact.sets exact.seen [] exact.gained e there).stands.below)
      ((λ _. record { parent = ended.0; slot = ended.1; trail = ended.2; set = ended.3 }), (λ _. refl)) (
        (λ wrong. absurd cc),
        (λ found.
            let same = my_one exact.sets exact.seen [] exact.gained 5 found.parent ended.0 found.trail ended.2 in
            absurd (ended.4 (seen_of 5 found.slot _) found.found refl (ap (λ (n : ℕ). code_of n (get_or (pieces ticket) 5 0)) same))),
      )
      (λ n. ((λ wrong. absurd cc), (λ full. absurd (my_never exact.sets exact.seen [] exact.gained 6 full.0 ended.1 full.2 trail full.3))))
  claimed_of Lost exact =
      let ended = exact.ended in
      let trail : Trail exact.sets exact.seen (pieces ticket) 6 ended.1 = (ended.0, ended.2, inr ended.3) in
      claimed_by Lost exact ended.4
      ((λ wrong. absurd cc), (λ set. let less : 5 < 5 = ended.4 (set_of 5 set.slot _ ticket) set.set in absurd (omega arith)))
      ((λ _. record { parent = ended.0; slot = ended.1; trail = ended.2; found = ended.3 }), (λ _. refl))
      (λ n. ((λ wrong. absurd cc), (λ full. absurd (my_never exact.sets exact.seen [] exact.gained 6 full.0 ended.1 full.2 trail full.3))))
  claimed_of (Full n) exact =
      let ended = exact.ended in
      let level : ℕ = ended.0 in
      claimed_by (Full n) exact
      (λ e there. subst (λ (m : ℕ). e.level + 1 < m) (sym ended.1) (up e.level level (ended.4 e there)))
      ((λ wrong. absurd cc), (λ set. let less : 5 < level = ended.4 (set_of 5 set.slot _ ticket) set.set in let within : level < 6 = ended.2 in absurd (omega arith))) (
        (λ wrong. absurd cc),
        (λ found.
            let least : 5 ≤ level = ended.5 (seen_of 5 found.slot _) found.found in
            let within : level < 6 = ended.2 in
            let last : level ≡ 5 = omega arith in
            absurd (my_never exact.sets exact.seen [] exact.gained 6 5 found.slot (omega arith) (found.parent, found.trail, inr found.found) (subst (FullAt size ticket exact.sets exact.seen) last ended.3))),
      )
      (λ m. (
        (λ same. let one : n ≡ m = full_injective n m same in (level, sym one ∙ ended.1, ended.2, ended.3)),
        (λ full.
            let other : ℕ = full.0 in
            let level_is : other ≡ level =
            dite (dec_lt other level)
            (λ less. absurd (my_never exact.sets exact.seen [] exact.gained level other ended.3.parent less ended.3.trail full.3))
            (λ not_less.
            let first = full.3.each 0 some in
            let least : other ≤ level = ended.5 (seen_of other 0 first.0) first.1 in
            omega arith) in
            ap (λ (k : ℕ). Full k) (ended.1 ∙ (ap (λ (k : ℕ). k + 1) (sym level_is) ∙ sym full.1))),
      ))
    where
      full_injective : (a b : ℕ) → Full a ≡ Full b → a ≡ b
      full_injective a b same = cc

  -- ---- looks

  -- what an answer says of what was found
  held_by : (answer : Bool) (exact : HeldExactly size ticket before after answer) → ((answer ≡ true) ↔ ((slot : ℕ) × Trail [] exact.seen (pieces ticket) 6 slot))
      → ((answer ≡ false) ↔ ((level : ℕ) × (level < 6) × (BlankAt size ticket exact.seen exact.blanks level ⊎ FullAt size ticket [] exact.seen level)))
      → Held size ticket before after answer
  held_by answer exact found not_found = record {
    seen = exact.seen;
    blanks = exact.blanks;
    gained = exact.gained;
    desk = ap (λ (h : Holder). h.desk) exact.gained;
    share = ap (λ (h : Holder). h.share) exact.gained;
    found = found;
    not_found = not_found;
    steps = exact.steps;
    made = few_made [] exact.seen exact.blanks exact.gained (omega (arith, exact.steps));
  }

  pub held_of : (answer : Bool) → HeldExactly size ticket before after answer → Held size ticket before after answer
  held_of true exact =
      let ended = exact.ended in
      held_by true exact
      ((λ _. (ended.0, ended.1)), (λ _. refl)) (
        (λ wrong. absurd cc),
        (λ stops. ⊎_elim
            (λ blank. absurd (subst (In _) ended.2 blank.blank))
            (λ full. absurd (my_never [] exact.seen exact.blanks exact.gained 6 stops.0 ended.0 stops.1 ended.1 full))
            stops.2),
      )
  held_of false exact =
      let ended = exact.ended in
      held_by false exact (
        (λ wrong. absurd cc),
        (λ trail.
            let last : Has [] exact.seen 5 trail.0 (code_of trail.1.0 (get_or (pieces ticket) 5 0)) = trail.1.2 in
            let there : In (seen_of 5 trail.0 (code_of trail.1.0 (get_or (pieces ticket) 5 0))) exact.seen = ⊎_elim (λ set. absurd set.1) (λ found. found) last in
            let least : 5 ≤ ended.0 = ended.2 _ there in
            let within : ended.0 < 6 = ended.1 in
            let same : ended.0 ≡ 5 = omega arith in
            ⊎_elim
            (λ blank.
            let above = my_one [] exact.seen exact.blanks exact.gained 5 trail.1.0 blank.0.parent trail.1.1 (subst (λ (n : ℕ). Trail [] exact.seen (pieces ticket) n blank.0.parent) same blank.0.trail) in
            absurd (blank.1 _ there (sym same) (ap (λ (n : ℕ). code_of n (get_or (pieces ticket) 5 0)) above ∙ ap (λ (n : ℕ). code_of blank.0.parent (get_or (pieces ticket) n 0)) (sym same))))
            (λ full. absurd (my_never [] exact.seen exact.blanks exact.gained 6 ended.0 trail.0 within trail.1 full))
            ended.3),
      )
      ((λ _. (ended.0, ended.1, ⊎_elim (λ blank. inl blank.0) (λ full. inr full) ended.3)), (λ _. refl))
