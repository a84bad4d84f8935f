-- Each kind of step keeps the rule of the desk.
use Rattle.std.proofs.Common.{◌≡◌, ◌≢◌, ℕ, suc, ◌+◌, ◌*◌, ◌/◌, ◌%◌, ◌==◌, ◌<◌, ◌≤◌, ⊎_elim, List, [], ◌∷◌, take, get_or, set, refl, sym, ap, ◌∙◌, subst, arith}
use Rattle.std.proofs.lemmas.Bool.{false_from_ne_true}
use Rattle.std.proofs.lemmas.Bool.Decides.{Decides-eqb}
use Rattle.std.proofs.lemmas.Nat.{same_from_place, div-mul-add, mod-mul-add}
use Rattle.std.proofs.lemmas.List.{length-set, set-get_or, get_or-set_same, get_or-set_other}
use prog.Atomic.{either}
use mathlib.Core.Option.{none, some}
use mathlib.Core.Logic.{dite}
use native.Mathlib.Decide.{ℕ_discrete}
use lib.ListN.{get_elem?}
use Rattle.atomic_table.specs.Table.{State, Act, keeps, Me, Valid, carried_after, Allows, Splits, Joins, step, stepped}
use Rattle.atomic_table.proofs.Lists.{exchanged, set_else}
use Rattle.live_desk.specs.Lists.{In, count, setters, total}
use Rattle.live_desk.specs.Rule.{Sound, code_of, reads, turn, word_at}
use Rattle.live_desk.specs.Ticket.{IsTicket, pieces}
use Rattle.live_desk.specs.Views.{AllMark, AllStand, Holds, Marks, Stands, at_place, seen_of, set_of}
use Rattle.live_desk.specs.Known.{Known}
use Rattle.live_desk.specs.Trail.{Has, Trail}
use Rattle.live_desk.specs.Steps.{Exchanges, KnownOf, Loads, Looks, both, left_part, right_part, spent_view, with_blank, with_look, with_seen, with_set}
use Rattle.live_desk.specs.Holder.{Holder, holder}
use Rattle.live_desk.specs.ClaimSteps.{Exchanged, Ready}
use Rattle.live_desk.specs.HeldSteps.{Loaded}
use Rattle.atomic_table.specs.Seated.{TableId}
use Rattle.live_desk.specs.declared.view.SetWord.{SetWord}
use Rattle.live_desk.specs.declared.view.SeenWord.{SeenWord}
use Rattle.live_desk.specs.declared.view.Blank.{Blank}
use Rattle.live_desk.specs.declared.view.View.{View}
use Rattle.live_desk.proofs.Sums.{in_append, count_append, count_yes, count_no, count_in, total_set, total_le, all_mine, each_set, join_each, join_total, set_there, setters_le, setters_one, split_each, split_total}
use Rattle.live_desk.proofs.Tickets.{pieces_small}
use Rattle.live_desk.proofs.Trails.{has_stands, read_more, trail_reads}
use Rattle.live_desk.proofs.Words.{code_some, kept, parent_code, place_lt, reads_kept, set_here, set_sound}

-- ---- what a seat knows

-- a seat of less than share 1 knows what it knew
pub left_known : (v : View) → 2 ≤ v.share → KnownOf v → KnownOf (left_part v)
left_known v two known = record {
  words = known.words;
  sound = known.sound;
  marks = known.marks;
  stands = known.stands;
  once = known.once;
  all = λ full. absurd (omega (arith, known.within));
  above = omega arith;
  within = omega (arith, known.within);
}

-- a set is among them under the level and the slot that it has, with the present word
set_moved : (size : ℕ) (words : List ℕ) (level slot : ℕ) (e : SetWord) (sets : List SetWord) → word_at size words e.level e.slot ≡ e.word → e.level ≡ level → e.slot ≡ slot → In e sets
    → In (set_of level slot (word_at size words level slot) e.ticket) sets
set_moved size words level slot e sets is levels slots there =
    let word : e.word ≡ word_at size words level slot = sym is ∙ (ap (λ (l : ℕ). word_at size words l e.slot) levels ∙ ap (λ (n : ℕ). word_at size words level n) slots) in
    subst (λ (w : ℕ). In (set_of level slot w e.ticket) sets) word
    (subst (λ (n : ℕ). In (set_of level n e.word e.ticket) sets) slots (subst (λ (l : ℕ). In (set_of l e.slot e.word e.ticket) sets) levels there))

module _ {S : Type 0} (size : ℕ) where
  pub known_of : (s : State S View) → Holds size s → (id : ℕ) (v : View) → get_elem? s.views id ≡ some v → 0 < v.share → KnownOf v
  known_of s holds id v at above =
      let known : Known size v.sets v.seen v.share = record {
        words = s.words;
        sound = holds.sound;
        marks = holds.sets id v at;
        stands = holds.seen id v at;
        once = λ place. omega (arith, total_le (λ (u : View). count (at_place size place) u.sets) s.views id v at, holds.one_setter place, setters_le (get_or s.words place 0));
        all = λ full level slot below within nonzero.
            let place : ℕ = level * size + slot in
            let mine = all_mine (λ (u : View). count (at_place size place) u.sets) (λ (u : View). u.share) s.views id v at (holds.shares ∙ sym full)
            (λ j u there spent. ap (count (at_place size place)) (holds.spent j u there spent).0) in
            let one : count (at_place size place) v.sets ≡ 1 = sym mine ∙ (holds.one_setter place ∙ setters_one _ nonzero) in
            let found = count_in (at_place size place) v.sets (omega arith) in
            let e : SetWord = found.0 in
            let marked = (holds.sets id v at e found.1).stands in
            let parts = same_from_place e.level e.slot level slot size marked.within within ((Decides-eqb (e.level * size + e.slot) place).0 found.2) in
            (e.ticket, set_moved size s.words level slot e v.sets marked.is parts.0 parts.1 found.1);
        above = above;
        within = omega (arith, total_le (λ (u : View). u.share) s.views id v at, holds.shares);
      } in
      subst (λ (n : ℕ). Known n v.sets v.seen v.share) (sym (holds.sizes id v at above)) known

  -- ---- the steps

  module _ (s : State S View) (id : ℕ) (v : View) (at : get_elem? s.views id ≡ some v) (above : 0 < v.share) (holds : Holds size s) where
    -- a step that leaves the words and the sets as they are
    same_holds : (seen : List SeenWord) (blanks : List Blank) (steps : ℕ) → AllStand size s.words seen
        → Holds size (record { words = s.words; homes = s.homes; views = set s.views id (record { size = v.size; sets = v.sets; seen = seen; blanks = blanks; share = v.share; steps = steps }) })
    same_holds seen blanks steps stand =
        let w : View = record { size = v.size; sets = v.sets; seen = seen; blanks = blanks; share = v.share; steps = steps } in
        record {
          counts = holds.counts;
          sound = holds.sound;
          sets = each_set (λ u. AllMark size s.words u.sets) s.views id w (holds.sets id v at) (λ j u there. holds.sets j u there);
          seen = each_set (λ u. AllStand size s.words u.seen) s.views id w stand (λ j u there. holds.seen j u there);
          one_setter = λ place. omega (arith, total_set (λ (u : View). count (at_place size place) u.sets) s.views id v w at, holds.one_setter place);
          shares = omega (arith, total_set (λ (u : View). u.share) s.views id v w at, holds.shares);
          sizes = each_set (λ u. 0 < u.share → u.size ≡ size) s.views id w (holds.sizes id v at) (λ j u there. holds.sizes j u there);
          spent = each_set (λ u. u.share ≡ 0 → (u.sets ≡ []) × (u.seen ≡ [])) s.views id w (λ nothing. absurd (omega arith)) (λ j u there. holds.spent j u there);
        }

    -- a step that finds a word joins it to what was seen
    stand_more : (level slot word : ℕ) → Stands size s.words level slot word → AllStand size s.words (seen_of level slot word ∷ v.seen)
    stand_more level slot word stands e there =
        ⊎_elim (λ same. subst (λ (x : SeenWord). Stands size s.words x.level x.slot x.word) (sym same) stands) (λ behind. holds.seen id v at e behind) there

    -- a set
    module _ (level slot parent : ℕ) (ticket : List ℕ) (below : level < 6) (within : slot < size) (is : IsTicket ticket)
        (free : word_at size s.words level slot ≡ 0)
        (tries : ℕ) (few : tries < size) (here : slot ≡ turn size (code_of parent (get_or (pieces ticket) level 0)) tries)
        (trail : Trail v.sets v.seen (pieces ticket) level parent)
        (searched : (before : ℕ) → before < tries → (word : ℕ) × Has v.sets v.seen level (turn size (code_of parent (get_or (pieces ticket) level 0)) before) word × (word ≢ code_of parent (get_or (pieces ticket) level 0))) where
      keep_stands : (l n w : ℕ) → Stands size s.words l n w → Stands size (set s.words (level * size + slot) (code_of parent (get_or (pieces ticket) level 0))) l n w
      keep_stands l n w stands = record {
        below = stands.below;
        within = stands.within;
        is = kept size s.words holds.counts level slot (code_of parent (get_or (pieces ticket) level 0)) below within free l n stands.within (λ nothing. stands.some (sym stands.is ∙ nothing)) ∙ stands.is;
        some = stands.some;
      }

      keep_marks : (e : SetWord) → Marks size s.words e → Marks size (set s.words (level * size + slot) (code_of parent (get_or (pieces ticket) level 0))) e
      keep_marks e marks = record {
        stands = keep_stands e.level e.slot e.word marks.stands;
        reading = reads_kept size s.words holds.counts level slot (code_of parent (get_or (pieces ticket) level 0)) below within free holds.sound e.level e.slot marks.stands.below marks.stands.within
            (λ nothing. marks.stands.some (sym marks.stands.is ∙ nothing)) ∙ marks.reading;
        ticket = marks.ticket;
      }

      -- what the seat knows of the slot that the code is under
      under : (l : ℕ) → level ≡ suc l → (parent < size) × (word_at size s.words l parent ≢ 0) × (reads size s.words l parent ≡ take (suc l) (pieces ticket))
      under l same = trail_reads size s.words v.sets v.seen (holds.sets id v at) (holds.seen id v at) ticket is l parent (omega arith)
          (subst (λ (n : ℕ). Trail v.sets v.seen (pieces ticket) n parent) same trail)

      at_top : level ≡ 0 → parent ≡ 0
      at_top same = subst (λ (n : ℕ). Trail v.sets v.seen (pieces ticket) n parent) same trail

      small : get_or (pieces ticket) level 0 < 8796093022208
      small = pieces_small ticket level is

      new_sound : Sound size (set s.words (level * size + slot) (code_of parent (get_or (pieces ticket) level 0)))
      new_sound =
          set_sound size s.words holds.counts level slot (code_of parent (get_or (pieces ticket) level 0)) below within free holds.sound tries few here
          (λ before less.
          let found = searched before less in
          let stands = has_stands size s.words v.sets v.seen (holds.sets id v at) (holds.seen id v at) level _ found.0 found.1 in
          ((λ nothing. stands.some (sym stands.is ∙ nothing)), (λ same. found.2 (sym stands.is ∙ same))))
          (λ top. parent_code parent _ small ∙ at_top top)
          (λ l same.
          let u = under l same in
          subst (λ (n : ℕ). (n < size) × (word_at size s.words l n ≢ 0)) (sym (parent_code parent _ small)) (u.0, u.1))

      new_marks : Marks size (set s.words (level * size + slot) (code_of parent (get_or (pieces ticket) level 0))) (set_of level slot (code_of parent (get_or (pieces ticket) level 0)) ticket)
      new_marks =
          let there = set_here size s.words holds.counts level slot (code_of parent (get_or (pieces ticket) level 0)) below within free in
          record {
            stands = record { below = below; within = within; is = there; some = code_some parent _ };
            reading = read_more size _ ticket level slot parent is below there
                (λ l same. let u = under l same in reads_kept size s.words holds.counts level slot (code_of parent (get_or (pieces ticket) level 0)) below within free holds.sound l parent (omega arith) u.0 u.1 ∙ u.2);
            ticket = is;
          }

      set_holds : Holds size (record {
        words = set s.words (level * size + slot) (code_of parent (get_or (pieces ticket) level 0));
        homes = s.homes;
        views = set s.views id (with_set level slot (code_of parent (get_or (pieces ticket) level 0)) ticket v);
      })
      set_holds =
          let c : ℕ = code_of parent (get_or (pieces ticket) level 0) in
          let w : View = with_set level slot c ticket v in
          let ws : List ℕ = set s.words (level * size + slot) c in
          let e : SetWord = set_of level slot c ticket in
          record {
            counts = length-set s.words (level * size + slot) c ∙ holds.counts;
            sound = new_sound;
            sets = each_set (λ u. AllMark size ws u.sets) s.views id w
                (λ x there. ⊎_elim (λ same. subst (λ (y : SetWord). Marks size ws y) (sym same) new_marks) (λ behind. keep_marks x (holds.sets id v at x behind)) there)
                (λ j u there x inside. keep_marks x (holds.sets j u there x inside));
            seen = each_set (λ u. AllStand size ws u.seen) s.views id w
                (λ x inside. keep_stands x.level x.slot x.word (holds.seen id v at x inside))
                (λ j u there x inside. keep_stands x.level x.slot x.word (holds.seen j u there x inside));
            one_setter = λ place. dite (ℕ_discrete place (level * size + slot))
                (λ same.
                let before : total (λ (u : View). count (at_place size place) u.sets) s.views ≡ 0 = holds.one_setter place ∙ ap (λ (i : ℕ). setters (get_or s.words i 0)) same ∙ ap setters free in
                let now : get_or ws place 0 ≡ c = ap (λ (i : ℕ). get_or ws i 0) same ∙ get_or-set_same s.words (level * size + slot) c 0 (place_lt size s.words holds.counts level slot c below within free) in
                let one : setters (get_or ws place 0) ≡ 1 = setters_one _ (λ nothing. code_some parent (get_or (pieces ticket) level 0) (sym now ∙ nothing)) in
                omega (arith, total_set (λ (u : View). count (at_place size place) u.sets) s.views id v w at, before, one, count_yes (at_place size place) e v.sets ((Decides-eqb (level * size + slot) place).1 (sym same))))
                (λ apart.
                let now : get_or ws place 0 ≡ get_or s.words place 0 = get_or-set_other s.words (level * size + slot) place c 0 apart in
                let same : setters (get_or ws place 0) ≡ setters (get_or s.words place 0) = ap setters now in
                let other = count_no (at_place size place) e v.sets (false_from_ne_true _ (λ yes. apart (sym ((Decides-eqb (level * size + slot) place).0 yes)))) in
                omega (arith, total_set (λ (u : View). count (at_place size place) u.sets) s.views id v w at, holds.one_setter place, same, other));
            shares = omega (arith, total_set (λ (u : View). u.share) s.views id v w at, holds.shares);
            sizes = each_set (λ u. 0 < u.share → u.size ≡ size) s.views id w (holds.sizes id v at) (λ j u there. holds.sizes j u there);
            spent = each_set (λ u. u.share ≡ 0 → (u.sets ≡ []) × (u.seen ≡ [])) s.views id w (λ nothing. absurd (omega arith)) (λ j u there. holds.spent j u there);
          }

  -- ---- what each step asks

  pub split_allowed : (id : ℕ) (v : View) → 2 ≤ v.share → Splits {S = S} (Holds size) id v (left_part v) (right_part v)
  split_allowed id v two s holds at =
      let above : 0 < v.share = omega arith in
      let summed = split_total s.views id v at (left_part v) (right_part v) in
      let each = split_each s.views id v (left_part v) (right_part v) in
      record {
        counts = holds.counts;
        sound = holds.sound;
        sets = each (λ u. AllMark size s.words u.sets) (holds.sets id v at) (λ e nothing. absurd nothing) (λ j u there. holds.sets j u there);
        seen = each (λ u. AllStand size s.words u.seen) (holds.seen id v at) (λ e nothing. absurd nothing) (λ j u there. holds.seen j u there);
        one_setter = λ place. summed (λ u. count (at_place size place) u.sets) (omega arith) ∙ holds.one_setter place;
        shares = summed (λ u. u.share) (omega arith) ∙ holds.shares;
        sizes = each (λ u. 0 < u.share → u.size ≡ size) (λ _. holds.sizes id v at above) (λ _. holds.sizes id v at above) (λ j u there. holds.sizes j u there);
        spent = each (λ u. u.share ≡ 0 → (u.sets ≡ []) × (u.seen ≡ [])) (λ nothing. absurd (omega arith)) (λ _. (refl, refl)) (λ j u there. holds.spent j u there);
      }

  pub join_allowed : (id : ℕ) (v : View) (other : ℕ) (w : View) → 0 < v.share → Joins {S = S} (Holds size) id v other w (both v w) spent_view
  join_allowed id v other w above s holds at apart there =
      let found : get_elem? s.views other ≡ some w = sym (set_else s.views id other (both v w) apart) ∙ there in
      let summed = join_total s.views id v at (both v w) other w spent_view there in
      let each = join_each s.views id v (both v w) other spent_view in
      record {
        counts = holds.counts;
        sound = holds.sound;
        sets = each (λ u. AllMark size s.words u.sets) (λ e inside. ⊎_elim (holds.sets id v at e) (holds.sets other w found e) (in_append e v.sets w.sets inside)) (λ e nothing. absurd nothing) (λ j u there. holds.sets j u there);
        seen = each (λ u. AllStand size s.words u.seen) (λ e inside. ⊎_elim (holds.seen id v at e) (holds.seen other w found e) (in_append e v.seen w.seen inside)) (λ e nothing. absurd nothing) (λ j u there. holds.seen j u there);
        one_setter = λ place. summed (λ u. count (at_place size place) u.sets) (count_append (at_place size place) v.sets w.sets) refl ∙ holds.one_setter place;
        shares = summed (λ u. u.share) refl refl ∙ holds.shares;
        sizes = each (λ u. 0 < u.share → u.size ≡ size) (λ _. holds.sizes id v at above) (λ nothing. absurd (omega arith)) (λ j u there. holds.sizes j u there);
        spent = each (λ u. u.share ≡ 0 → (u.sets ≡ []) × (u.seen ≡ [])) (λ nothing. absurd (omega arith)) (λ _. (refl, refl)) (λ j u there. holds.spent j u there);
      }

-- ---- steps on a word

module _ (size slots id : ℕ) (me : Me (List ℕ) View) (above : 0 < me.0.share) (sizes : me.0.size ≡ size) where
  pub look_allowed : Allows (Holds size) slots id me 0 (λ n. n) (Looks (step slots 0 0 0 none) me)
  look_allowed s holds homes at fits =
      let w : View = with_look me.0 in
      let after : Holds size (stepped s 0 (get_or s.words 0 0) id me.1 w keeps) =
      subst (λ (ws : List ℕ). Holds size (record { words = ws; homes = s.homes; views = set s.views id w })) (sym (set-get_or s.words 0 0))
      (same_holds size s id me.0 at above holds me.0.seen me.0.blanks w.steps (holds.seen id me.0 at)) in
      (w, keeps, tt, after, record { looked = refl; slots = refl; known = known_of size _ after id w (set_there s.views id me.0 w at) above })

  module _ (level slot : ℕ) (below : level < 6) (within : slot < size) where
    level_is : (level * size + slot) / me.0.size ≡ level
    level_is = ap (λ (n : ℕ). (level * size + slot) / n) sizes ∙ div-mul-add level size slot within

    slot_is : (level * size + slot) % me.0.size ≡ slot
    slot_is = ap (λ (n : ℕ). (level * size + slot) % n) sizes ∙ mod-mul-add level size slot within

    found_holds : (s : State (List ℕ) View) → Holds size s → get_elem? s.views id ≡ some me.0 → get_or s.words (level * size + slot) 0 ≢ 0
        → Holds size (stepped s (level * size + slot) (get_or s.words (level * size + slot) 0) id me.1 (with_seen level slot (get_or s.words (level * size + slot) 0) me.0) keeps)
    found_holds s holds at taken =
        let n : ℕ = get_or s.words (level * size + slot) 0 in
        let stands : Stands size s.words level slot n = record { below = below; within = within; is = refl; some = taken } in
        subst (λ (ws : List ℕ). Holds size (record { words = ws; homes = s.homes; views = set s.views id (with_seen level slot n me.0) })) (sym (set-get_or s.words (level * size + slot) 0))
        (same_holds size s id me.0 at above holds (seen_of level slot n ∷ me.0.seen) me.0.blanks (suc me.0.steps) (stand_more size s id me.0 at above holds level slot n stands))

    -- a word that isn't 0 stays, and joins what was seen, whatever the step is to tell besides
    found_so : (s : State (List ℕ) View) → Holds size s → get_elem? s.views id ≡ some me.0 → get_or s.words (level * size + slot) 0 ≢ 0 → (Tells : Me (List ℕ) View → Type 0)
        → (KnownOf (with_seen level slot (get_or s.words (level * size + slot) 0) me.0) → Tells (with_seen level slot (get_or s.words (level * size + slot) 0) me.0, carried_after me.1 keeps))
        → (w : View) × (a : Act (List ℕ)) × Valid s.homes me.1 a × Holds size (stepped s (level * size + slot) (get_or s.words (level * size + slot) 0) id me.1 w a)
        × Tells (w, carried_after me.1 a)
    found_so s holds at taken Tells tells =
        let w : View = with_seen level slot (get_or s.words (level * size + slot) 0) me.0 in
        let after = found_holds s holds at taken in
        (w, keeps, tt, after, tells (known_of size _ after id w (set_there s.views id me.0 w at) above))

    seen_is : (n : ℕ) → with_seen level slot n me.0 ≡ with_seen ((level * size + slot) / me.0.size) ((level * size + slot) % me.0.size) n me.0
    seen_is n = ap (λ (l : ℕ). with_seen l slot n me.0) (sym level_is) ∙ ap (λ (k : ℕ). with_seen ((level * size + slot) / me.0.size) k n me.0) (sym slot_is)

    pub load_allowed : Allows (Holds size) slots id me (level * size + slot) (λ n. n) (Loads (step slots (level * size + slot) 0 0 none) me)
    load_allowed s holds homes at fits =
        let n : ℕ = get_or s.words (level * size + slot) 0 in
        dite (ℕ_discrete n 0)
        (λ free.
        let w : View = with_blank level slot me.0 in
        let after : Holds size (stepped s (level * size + slot) n id me.1 w keeps) =
        subst (λ (ws : List ℕ). Holds size (record { words = ws; homes = s.homes; views = set s.views id w })) (sym (set-get_or s.words (level * size + slot) 0))
        (same_holds size s id me.0 at above holds me.0.seen w.blanks w.steps (holds.seen id me.0 at)) in (
          w,
          keeps,
          tt,
          after,
          record {
            blank = λ _. ap (λ (l : ℕ). with_blank l slot me.0) (sym level_is) ∙ ap (λ (k : ℕ). with_blank ((level * size + slot) / me.0.size) k me.0) (sym slot_is);
            seen = λ taken. absurd (taken free);
            slots = refl;
            known = known_of size _ after id w (set_there s.views id me.0 w at) above;
          },
        ))
        (λ taken. found_so s holds at taken (Loads (step slots (level * size + slot) 0 0 none) me n)
        (λ known. record { blank = λ free. absurd (taken free); seen = λ _. seen_is n; slots = refl; known = known }))

    pub exchange_allowed : (parent code : ℕ) (ticket : List ℕ) → IsTicket ticket → code ≡ code_of parent (get_or (pieces ticket) level 0)
        → (tries : ℕ) → tries < size → slot ≡ turn size code tries
        → Trail me.0.sets me.0.seen (pieces ticket) level parent
        → ((before : ℕ) → before < tries → (word : ℕ) × Has me.0.sets me.0.seen level (turn size code before) word × (word ≢ code))
        → Allows (Holds size) slots id me (level * size + slot) (λ n. either (n == 0) code n) (Exchanges (step slots (level * size + slot) 0 code (some ticket)) me)
    exchange_allowed parent code ticket is code_is tries few here trail searched s holds homes at fits =
        let place : ℕ = level * size + slot in
        let n : ℕ = get_or s.words (level * size + slot) 0 in
        exchanged n 0 code
        (λ x. (w : View) × (a : Act (List ℕ)) × Valid s.homes me.1 a × Holds size (stepped s (level * size + slot) x id me.1 w a)
        × Exchanges (step slots (level * size + slot) 0 code (some ticket)) me n (w, carried_after me.1 a))
        (λ free.
        let w : View = with_set level slot code ticket me.0 in
        let after : Holds size (stepped s (level * size + slot) code id me.1 w keeps) =
        subst (λ (c : ℕ). Holds size (record { words = set s.words (level * size + slot) c; homes = s.homes; views = set s.views id (with_set level slot c ticket me.0) })) (sym code_is)
        (set_holds size s id me.0 at above holds level slot parent ticket below within is free tries few
        (here ∙ ap (λ (c : ℕ). turn size c tries) code_is) trail
        (subst (λ (c : ℕ). (before : ℕ) → before < tries → (word : ℕ) × Has me.0.sets me.0.seen level (turn size c before) word × (word ≢ c)) code_is searched)) in (
          w,
          keeps,
          tt,
          after,
          record {
            won = λ _. ap (λ (l : ℕ). with_set l slot code ticket me.0) (sym level_is) ∙ ap (λ (k : ℕ). with_set ((level * size + slot) / me.0.size) k code ticket me.0) (sym slot_is);
            lost = λ taken. absurd (taken free);
            slots = refl;
            known = known_of size _ after id w (set_there s.views id me.0 w at) above;
          },
        ))
        (λ taken. found_so s holds at taken (Exchanges (step slots place 0 code (some ticket)) me n)
        (λ known. record { won = λ free. absurd (taken free); lost = λ _. seen_is n; slots = refl; known = known }))

-- the same in the words of who calls it: the size may be known by other names
pub exchange_ready : (key size near slots id : ℕ) (me : Me (List ℕ) View) (h : Holder) (level slot code : ℕ) (ticket : List ℕ) → size ≡ key → near ≡ key → 0 < me.0.share → me.0.size ≡ key
    → level < 6 → slot < near → IsTicket ticket → me.0.sets ≡ h.sets → me.0.seen ≡ h.seen → Ready near ticket level slot code h
    → Allows (Holds key) slots id me (level * size + slot) (λ n. either (n == 0) code n) (Exchanges (step slots (level * size + slot) 0 code (some ticket)) me)
exchange_ready key size near slots id me h level slot code ticket size_is near_is above sizes below within is sets seen ready =
    let trail : Trail me.0.sets me.0.seen (pieces ticket) level ready.parent =
    subst (λ (xs : List SetWord). Trail xs me.0.seen (pieces ticket) level ready.parent) (sym sets)
    (subst (λ (ys : List SeenWord). Trail h.sets ys (pieces ticket) level ready.parent) (sym seen) ready.trail) in
    let searched : (before : ℕ) → before < ready.tries → (word : ℕ) × Has me.0.sets me.0.seen level (turn key code before) word × (word ≢ code) =
    subst (λ (xs : List SetWord). (before : ℕ) → before < ready.tries → (word : ℕ) × Has xs me.0.seen level (turn key code before) word × (word ≢ code)) (sym sets)
    (subst (λ (ys : List SeenWord). (before : ℕ) → before < ready.tries → (word : ℕ) × Has h.sets ys level (turn key code before) word × (word ≢ code)) (sym seen)
    (subst (λ (n : ℕ). (before : ℕ) → before < ready.tries → (word : ℕ) × Has h.sets h.seen level (turn n code before) word × (word ≢ code)) near_is ready.searched)) in
    subst (λ (n : ℕ). Allows (Holds key) slots id me (level * n + slot) (λ n. either (n == 0) code n) (Exchanges (step slots (level * n + slot) 0 code (some ticket)) me)) (sym size_is)
    (exchange_allowed key slots id me above sizes level slot below (omega arith) ready.parent code ticket is ready.is_code ready.tries (omega (arith, ready.few))
    (ready.here ∙ ap (λ (n : ℕ). turn n code ready.tries) near_is) trail searched)

-- what an exchange tells of a view, in the words of its holder
pub exchanged_view : (slots size level slot code : ℕ) (ticket : List ℕ) (table next : TableId) (before after : Me (List ℕ) View) (h : Holder) (found : ℕ)
    → holder table before.0 ≡ h → next ≡ table → before.0.size ≡ size → slot < size
    → Exchanges (step slots (level * size + slot) 0 code (some ticket)) before found after
    → Exchanged level slot code ticket h (holder next after.0) found
exchanged_view slots size level slot code ticket table next before after h found view tables sizes within exchanges =
    let level_is : (level * size + slot) / before.0.size ≡ level = ap (λ (n : ℕ). (level * size + slot) / n) sizes ∙ div-mul-add level size slot within in
    let slot_is : (level * size + slot) % before.0.size ≡ slot = ap (λ (n : ℕ). (level * size + slot) % n) sizes ∙ mod-mul-add level size slot within in
    subst (λ (g : Holder). Exchanged level slot code ticket g (holder next after.0) found) view (record {
      won = λ free. ap (λ (t : TableId). holder t after.0) tables
          ∙ ap (holder table) (exchanges.won free ∙ (ap (λ (l : ℕ). with_set l ((level * size + slot) % before.0.size) code ticket before.0) level_is ∙ ap (λ (k : ℕ). with_set level k code ticket before.0) slot_is));
      lost = λ taken. ap (λ (t : TableId). holder t after.0) tables
          ∙ ap (holder table) (exchanges.lost taken ∙ (ap (λ (l : ℕ). with_seen l ((level * size + slot) % before.0.size) found before.0) level_is ∙ ap (λ (k : ℕ). with_seen level k found before.0) slot_is));
    })

pub load_ready : (key size slots id : ℕ) (me : Me (List ℕ) View) (level slot : ℕ) → size ≡ key → 0 < me.0.share → me.0.size ≡ key → level < 6 → slot < key
    → Allows (Holds key) slots id me (level * size + slot) (λ n. n) (Loads (step slots (level * size + slot) 0 0 none) me)
load_ready key size slots id me level slot size_is above sizes below within =
    subst (λ (n : ℕ). Allows (Holds key) slots id me (level * n + slot) (λ n. n) (Loads (step slots (level * n + slot) 0 0 none) me)) (sym size_is)
    (load_allowed key slots id me above sizes level slot below within)

pub loaded_view : (slots size level slot : ℕ) (table next : TableId) (before after : Me (List ℕ) View) (h : Holder) (found : ℕ)
    → holder table before.0 ≡ h → next ≡ table → before.0.size ≡ size → slot < size
    → Loads (step slots (level * size + slot) 0 0 none) before found after
    → Loaded level slot h (holder next after.0) found
loaded_view slots size level slot table next before after h found view tables sizes within loads =
    let level_is : (level * size + slot) / before.0.size ≡ level = ap (λ (n : ℕ). (level * size + slot) / n) sizes ∙ div-mul-add level size slot within in
    let slot_is : (level * size + slot) % before.0.size ≡ slot = ap (λ (n : ℕ). (level * size + slot) % n) sizes ∙ mod-mul-add level size slot within in
    subst (λ (g : Holder). Loaded level slot g (holder next after.0) found) view (record {
      blank = λ free. ap (λ (t : TableId). holder t after.0) tables
          ∙ ap (holder table) (loads.blank free ∙ (ap (λ (l : ℕ). with_blank l ((level * size + slot) % before.0.size) before.0) level_is ∙ ap (λ (k : ℕ). with_blank level k before.0) slot_is));
      taken = λ taken. ap (λ (t : TableId). holder t after.0) tables
          ∙ ap (holder table) (loads.seen taken ∙ (ap (λ (l : ℕ). with_seen l ((level * size + slot) % before.0.size) found before.0) level_is ∙ ap (λ (k : ℕ). with_seen level k found before.0) slot_is));
    })
