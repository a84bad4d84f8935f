-- What the rule means for tickets.
use Rattle.std.proofs.Common.{◌≡◌, ◌≢◌, Bool, true, false, ℕ, zero, suc, ◌+◌, ◌*◌, ◌==◌, ◌<◌, ◌≤◌, inr, List, [], ◌∷◌, take, get_or, refl, sym, ap, ◌∙◌, arith, if◌then◌else◌}
use Rattle.std.specs.Str.{bytes_eq}
use Rattle.std.proofs.Math.Seq.{take-suc}
use Rattle.std.proofs.lemmas.List.{same_from_push, take_all}
use Rattle.std.proofs.lemmas.Slice.Eq.{bytes_eq-Decides}
use Rattle.std.proofs.lemmas.Bool.Decides.{Decides-eqb}
use mathlib.Core.Logic.{dite}
use mathlib.Core.Option.{some}
use native.Mathlib.Decide.{dec_lt}
use lib.ListN.{get_elem?}
use Rattle.live_desk.specs.Lists.{In, count, total, whole}
use Rattle.live_desk.specs.Rule.{Sound, code_of, parent_of, piece_of, reads, word_at}
use Rattle.live_desk.specs.Ticket.{IsTicket, pieces}
use Rattle.live_desk.specs.Views.{AllMark, Marks, Stands, at_place, seen_of, set_of}
use Rattle.live_desk.specs.Known.{Known}
use Rattle.live_desk.specs.Trail.{FullAt, Trail}
use Rattle.live_desk.specs.Holder.{Holder, Settled}
use Rattle.live_desk.specs.Laws.{WonOnce, first_pieces, wins, won}
use Rattle.live_desk.specs.Closing.{Closing, Others}
use Rattle.live_desk.specs.declared.view.SetWord.{SetWord}
use Rattle.live_desk.specs.declared.view.SeenWord.{SeenWord}
use Rattle.live_desk.specs.declared.view.View.{View}
use Rattle.live_desk.proofs.Sums.{count_in, count_le, total_both_le, setters_le}
use Rattle.live_desk.proofs.Tickets.{pieces_apart, pieces_len}
use Rattle.live_desk.proofs.Trails.{trail_reads}
use Rattle.live_desk.proofs.Words.{code_parts, one_reading}

-- ---- wins

wins_case : (ticket : List ℕ) (e : SetWord) (b : Bool) → (e.level == 5) ≡ b → (if b then bytes_eq ticket e.ticket else false) ≡ true → (e.level ≡ 5) × (e.ticket ≡ ticket)
wins_case ticket e true level passes = ((Decides-eqb e.level 5).0 level, sym ((bytes_eq-Decides ticket e.ticket).0 passes))
wins_case ticket e false level passes = absurd cc

pub wins_is : (ticket : List ℕ) (e : SetWord) → wins ticket e ≡ true → (e.level ≡ 5) × (e.ticket ≡ ticket)
wins_is ticket e passes = wins_case ticket e (e.level == 5) refl passes

pub is_wins : (ticket : List ℕ) (e : SetWord) → e.level ≡ 5 → e.ticket ≡ ticket → wins ticket e ≡ true
is_wins ticket e level same = ap (λ (b : Bool). if b then bytes_eq ticket e.ticket else false) ((Decides-eqb e.level 5).1 level) ∙ (bytes_eq-Decides ticket e.ticket).1 (sym same)

module _ (size : ℕ) (words : List ℕ) (sound : Sound size words) where
  -- two sets of one level whose tickets agree up to it are at one slot
  pub one_set : (d e : SetWord) → Marks size words d → Marks size words e → d.level ≡ e.level → first_pieces e.level d.ticket ≡ first_pieces e.level e.ticket → d.slot ≡ e.slot
  one_set d e x y levels same =
      let d_is : word_at size words e.level d.slot ≡ d.word = ap (λ (l : ℕ). word_at size words l d.slot) (sym levels) ∙ x.stands.is in
      let d_reads : reads size words e.level d.slot ≡ first_pieces e.level d.ticket =
      ap (λ (l : ℕ). reads size words l d.slot) (sym levels) ∙ (x.reading ∙ ap (λ (l : ℕ). first_pieces l d.ticket) levels) in
      one_reading size words sound e.level d.slot e.slot y.stands.below x.stands.within y.stands.within
      (λ nothing. x.stands.some (sym d_is ∙ nothing)) (λ nothing. y.stands.some (sym y.stands.is ∙ nothing)) (d_reads ∙ (same ∙ sym y.reading))

  -- all sets that won a ticket are at the place of one of them
  pub wins_at : (ticket : List ℕ) (d e : SetWord) → Marks size words d → Marks size words e → wins ticket d ≡ true → wins ticket e ≡ true → at_place size (5 * size + e.slot) d ≡ true
  wins_at ticket d e x y d_wins e_wins =
      let u = wins_is ticket d d_wins in
      let v = wins_is ticket e e_wins in
      let slot = one_set d e x y (u.0 ∙ sym v.0) (ap (first_pieces e.level) (u.1 ∙ sym v.1)) in
      (Decides-eqb (d.level * size + d.slot) (5 * size + e.slot)).1 (ap (λ (l : ℕ). l * size + d.slot) u.0 ∙ ap (λ (s : ℕ). 5 * size + s) slot)

  pub won_le : (ticket : List ℕ) (sets : List SetWord) (e : SetWord) → AllMark size words sets → Marks size words e → wins ticket e ≡ true → won ticket sets ≤ count (at_place size (5 * size + e.slot)) sets
  won_le ticket sets e marks here e_wins = count_le (wins ticket) (at_place size (5 * size + e.slot)) sets (λ d there d_wins. wins_at ticket d e (marks d there) here d_wins e_wins)

-- ---- over all views

total_some : {A : Type 0} (f : A → ℕ) (xs : List A) → 0 < total f xs → (i : ℕ) × (x : A) × (get_elem? xs i ≡ some x) × (0 < f x)
total_some f [] more = absurd (omega arith)
total_some f (x ∷ xs) more =
    dite (dec_lt 0 (f x))
    (λ here. (0, x, refl, here))
    (λ none. let behind = total_some f xs (omega arith) in (suc behind.0, behind.1, behind.2, behind.3))

pub won_once : WonOnce
won_once size s holds ticket =
    dite (dec_lt 0 (total (λ (v : View). won ticket v.sets) s.views))
    (λ more.
    let seat = total_some (λ (v : View). won ticket v.sets) s.views more in
    let found = count_in (wins ticket) seat.1.sets seat.3 in
    let e : SetWord = found.0 in
    let here = holds.sets seat.0 seat.1 seat.2 e found.1 in
    let bound = total_both_le (λ (v : View). won ticket v.sets) (λ (v : View). count (at_place size (5 * size + e.slot)) v.sets) s.views
    (λ i v at. won_le size s.words holds.sound ticket v.sets e (holds.sets i v at) here found.2) in
    omega (arith, bound, holds.one_setter (5 * size + e.slot), setters_le (get_or s.words (5 * size + e.slot) 0)))
    (λ none. omega arith)

-- ---- the seat of share 1

module _ (size : ℕ) (sets : List SetWord) (seen : List SeenWord) (share : ℕ) (known : Known size sets seen share) where
  pub known_once : (ticket : List ℕ) → won ticket sets ≤ 1
  known_once ticket =
      dite (dec_lt 0 (won ticket sets))
      (λ more.
      let found = count_in (wins ticket) sets more in
      omega (arith, won_le size known.words known.sound ticket sets found.0 known.marks (known.marks found.0 found.1) found.2, known.once (5 * size + found.0.slot)))
      (λ none. omega arith)

  module _ (full : share ≡ whole) where
    pub known_held : (ticket : List ℕ) (slot : ℕ) → IsTicket ticket → Trail sets seen (pieces ticket) 6 slot → (e : SetWord) × In e sets × (e.level ≡ 5) × (e.ticket ≡ ticket)
    known_held ticket slot is trail =
        let here = trail_reads size known.words sets seen known.marks known.stands ticket is 5 slot (omega arith) trail in
        let set = known.all full 5 slot (omega arith) here.0 here.1 in
        let e : SetWord = set_of 5 slot (word_at size known.words 5 slot) set.0 in
        let marks = known.marks e set.1 in
        let all_pieces : (t : List ℕ) → take 6 (pieces t) ≡ pieces t = λ t. take_all 6 (pieces t) (omega (arith, pieces_len t)) in
        let same : pieces set.0 ≡ pieces ticket = sym (all_pieces set.0) ∙ (sym marks.reading ∙ (here.2 ∙ all_pieces ticket)) in
        (e, set.1, refl, pieces_apart set.0 ticket marks.ticket is same)

    module _ (ticket : List ℕ) (level : ℕ) (is : IsTicket ticket) (below : level < 6) (each : FullAt size ticket sets seen level) where
      -- the set at a slot
      found_at : (slot : ℕ) → slot < size → Stands size known.words level slot (word_at size known.words level slot) × (word_at size known.words level slot ≢ code_of each.parent (get_or (pieces ticket) level 0))
      found_at slot within =
          let found = each.each slot within in
          let stands = known.stands (seen_of level slot found.0) found.1 in (
            record { below = below; within = within; is = refl; some = λ nothing. stands.some (sym stands.is ∙ nothing) },
            λ same. found.2 (sym stands.is ∙ same),
          )

      set_at : (slot : ℕ) → slot < size → (t : List ℕ) × In (set_of level slot (word_at size known.words level slot) t) sets
      set_at slot within = known.all full level slot below within (found_at slot within).0.some

      by_level : (l s p : ℕ) → Stands size known.words l s (word_at size known.words l s) → reads size known.words l s ≡ first_pieces l ticket → Trail sets seen (pieces ticket) l p
          → (parent_of (word_at size known.words l s) ≡ p) × (piece_of (word_at size known.words l s) ≡ get_or (pieces ticket) l 0)
      by_level zero s p stands reading trail =
          let last = same_from_push [] [] _ _ (reading ∙ take-suc (pieces ticket) 0 0 (omega (arith, pieces_len ticket))) in
          (known.sound.first s stands.within stands.some ∙ sym trail, last.1)
      by_level (suc l) s p stands reading trail =
          let lower : suc l < 6 = stands.below in
          let word : ℕ = word_at size known.words (suc l) s in
          let parts : (reads size known.words l (parent_of word) ≡ first_pieces l ticket) × (piece_of word ≡ get_or (pieces ticket) (suc l) 0) =
          same_from_push _ _ _ _ (reading ∙ take-suc (pieces ticket) (suc l) 0 (omega (arith, pieces_len ticket))) in
          let above = known.sound.parent l s lower stands.within stands.some in
          let mine = trail_reads size known.words sets seen known.marks known.stands ticket is l p (omega arith) trail in
          (one_reading size known.words known.sound l _ p (omega arith) above.0 mine.0 above.1 mine.1 (parts.0 ∙ sym mine.2), parts.1)

      -- a slot that stands for the ticket's pieces has the ticket's code
      code_here : (slot : ℕ) → slot < size → reads size known.words level slot ≡ first_pieces level ticket → word_at size known.words level slot ≡ code_of each.parent (get_or (pieces ticket) level 0)
      code_here slot within same =
          let word : ℕ = word_at size known.words level slot in
          let parts = by_level level slot each.parent (found_at slot within).0 same each.trail in
          sym (code_parts word (found_at slot within).0.some) ∙ (ap (λ (n : ℕ). code_of n (piece_of word)) parts.0 ∙ ap (code_of each.parent) parts.1)

      pub known_others : Others size sets ticket level
      known_others = record {
        at = λ slot within. set_of level slot (word_at size known.words level slot) (set_at slot within).0;
        set = λ slot within. ((set_at slot within).1, refl, refl);
        other = λ slot within same.
            let marks = known.marks _ (set_at slot within).1 in
            (found_at slot within).1 (code_here slot within (marks.reading ∙ same));
        apart = λ one two w z differ same.
            differ (one_set size known.words known.sound _ _ (known.marks _ (set_at one w).1) (known.marks _ (set_at two z).1) refl same);
      }

pub closing : (h : Holder) → Settled h → h.share ≡ whole → Closing h
closing h known full = record {
  once = known_once h.desk.size h.sets h.seen h.share known;
  lost = λ ticket is found. known_held h.desk.size h.sets h.seen h.share known full ticket found.slot is (found.parent, found.trail, inr found.found);
  held = known_held h.desk.size h.sets h.seen h.share known full;
  full = known_others h.desk.size h.sets h.seen h.share known full;
}
