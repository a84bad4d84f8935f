-- Each kind of step keeps the rule of the desk.
use Rattle.std.proofs.Common.{◌≡◌, ℕ, ◌+◌, ◌-◌, ◌/◌, ◌==◌, ◌<◌, ◌≤◌, ◌⊎◌, ⊎_elim, List, [], length, get_or, set, refl, sym, ap, ◌∙◌, subst, arith}
use Rattle.std.proofs.lemmas.Bool.{false_from_ne_true}
use Rattle.std.proofs.lemmas.Bool.Decides.{Decides-eqb}
use Rattle.std.proofs.lemmas.List.{length-set, set-get_or, get_or-set_same}
use prog.Atomic.{either}
use mathlib.Core.Option.{none, some}
use lib.ListN.{get_elem?}
use Rattle.atomic_table.specs.Table.{State, Act, keeps, Me, Valid, carried_after, Allows, Splits, Joins, step, stepped}
use Rattle.atomic_table.proofs.Lists.{exchanged, set_again, set_else}
use Rattle.live_desk.specs.Lists.{In, count, setters, total}
use Rattle.replay_desk.specs.Pairs.{of_class}
use Rattle.replay_desk.specs.Rule.{Holds, Stand}
use Rattle.replay_desk.specs.Steps.{Claims, Known, Looks, both, left_part, right_part, spent_view, with_loss, with_win}
use Rattle.replay_desk.specs.declared.view.View.{View}
use Rattle.live_desk.proofs.Sums.{all_mine, count_append, count_in, count_no, count_yes, each_set, join_each, join_total, set_there, setters_le, setters_one, split_each, split_total, total_le, total_set}
use Rattle.replay_desk.proofs.Words.{word_after, stand_set, stand_more, stand_append}

-- ---- what a seat knows

-- a seat of less than share 1 knows of its own wins and losses what it knew
pub left_known : (v : View) → 2 ≤ v.share → Known v.wins v.losses v.share → Known v.wins v.losses (v.share - v.share / 2)
left_known v two known = record {
  once = known.once;
  agree = known.agree;
  named = λ all. absurd (omega (arith, known.within));
  above = omega arith;
  within = omega (arith, known.within);
}

module _ {S : Type 0} (classes : ℕ) where
  pub known_of : (s : State S View) → Holds classes s → (id : ℕ) (v : View) → get_elem? s.views id ≡ some v → 0 < v.share → Known v.wins v.losses v.share
  known_of s holds id v at above =
      let word : (class call : ℕ) → In (class, call) v.wins ⊎ In (class, call) v.losses → get_or s.words class 0 ≡ call + 1 =
      λ class call has. ⊎_elim (holds.wins id v at (class, call)) (holds.losses id v at (class, call)) has in
      record {
        once = λ class. omega (arith, total_le (λ (u : View). count (of_class class) u.wins) s.views id v at, holds.one_winner class, setters_le (get_or s.words class 0));
        agree = λ class one other first second. (let a = word class one first in let b = word class other second in omega arith);
        named = λ all p lost.
            let word : get_or s.words p.0 0 ≡ p.1 + 1 = holds.losses id v at p lost in
            let mine = all_mine (λ (u : View). count (of_class p.0) u.wins) (λ (u : View). u.share) s.views id v at (holds.shares ∙ sym all) (λ j u there spent. ap (count (of_class p.0)) (holds.spent j u there spent).0) in
            let one : count (of_class p.0) v.wins ≡ 1 = sym mine ∙ (holds.one_winner p.0 ∙ setters_one _ (λ none. omega arith)) in
            let win = count_in (of_class p.0) v.wins (omega arith) in
            let class : win.0.0 ≡ p.0 = (Decides-eqb win.0.0 p.0).0 win.2 in
            let won : get_or s.words win.0.0 0 ≡ win.0.1 + 1 = holds.wins id v at win.0 win.1 in
            let call : win.0.1 ≡ p.1 = (let moved = ap (λ (c : ℕ). get_or s.words c 0) class in omega arith) in
            subst (λ (q : ℕ × ℕ). In q v.wins) (ap (λ (c : ℕ). (c, win.0.1)) class ∙ ap (λ (n : ℕ). (p.0, n)) call) win.1;
        above = above;
        within = omega (arith, total_le (λ (u : View). u.share) s.views id v at, holds.shares);
      }

  -- ---- the steps

  module _ (s : State S View) (id : ℕ) (v : View) (at : get_elem? s.views id ≡ some v) (above : 0 < v.share) (holds : Holds classes s) where
    module _ (class : ℕ) (within : class < classes) where
      -- a claim that finds 0
      won_holds : (call : ℕ) → call < 4294967295 → get_or s.words class 0 ≡ 0
          → Holds classes (record { words = set s.words class (call + 1); homes = s.homes; views = set s.views id (with_win (class, call) v) })
      won_holds call small free =
          let here : class < length s.words = omega (arith, holds.words) in
          let w : View = with_win (class, call) v in
          let kept : (ps : List (ℕ × ℕ)) → Stand s.words ps → Stand (set s.words class (call + 1)) ps = λ ps. stand_set s.words class (call + 1) ps free in
          record {
            words = length-set s.words class (call + 1) ∙ holds.words;
            numbers = word_after s.words class (call + 1) here (λ _ n. n < 4294967296) (λ _ _. omega arith) (λ c _. holds.numbers c);
            wins = each_set (λ u. Stand (set s.words class (call + 1)) u.wins) s.views id w
                (stand_more _ (class, call) v.wins (get_or-set_same s.words class (call + 1) 0 here) (kept v.wins (holds.wins id v at)))
                (λ j u there. kept u.wins (holds.wins j u there));
            losses = each_set (λ u. Stand (set s.words class (call + 1)) u.losses) s.views id w (kept v.losses (holds.losses id v at)) (λ j u there. kept u.losses (holds.losses j u there));
            one_winner = word_after s.words class (call + 1) here (λ c n. total (λ (u : View). count (of_class c) u.wins) (set s.views id w) ≡ setters n)
                (λ c same.
                let before : total (λ (u : View). count (of_class c) u.wins) s.views ≡ 0 = holds.one_winner c ∙ ap (λ (i : ℕ). setters (get_or s.words i 0)) same ∙ ap setters free in
                omega (arith, total_set (λ (u : View). count (of_class c) u.wins) s.views id v w at, before, count_yes (of_class c) (class, call) v.wins ((Decides-eqb class c).1 (sym same)), setters_one (call + 1) (λ none. omega arith)))
                (λ c apart. omega (arith, total_set (λ (u : View). count (of_class c) u.wins) s.views id v w at, holds.one_winner c, count_no (of_class c) (class, call) v.wins (false_from_ne_true _ (λ yes. apart (sym ((Decides-eqb class c).0 yes))))));
            shares = omega (arith, total_set (λ (u : View). u.share) s.views id v w at, holds.shares);
            spent = each_set (λ u. u.share ≡ 0 → (u.wins ≡ []) × (u.losses ≡ [])) s.views id w (λ none. absurd (omega arith)) (λ j u there. holds.spent j u there);
          }

      -- a claim that finds a number
      lost_holds : 0 < get_or s.words class 0
          → Holds classes (record { words = set s.words class (get_or s.words class 0); homes = s.homes; views = set s.views id (with_loss (class, get_or s.words class 0 - 1) v) })
      lost_holds taken =
          let winner : ℕ = get_or s.words class 0 - 1 in
          let w : View = with_loss (class, winner) v in
          subst (λ (ws : List ℕ). Holds classes (record { words = ws; homes = s.homes; views = set s.views id w })) (sym (set-get_or s.words class 0)) (record {
            words = holds.words;
            numbers = holds.numbers;
            wins = each_set (λ u. Stand s.words u.wins) s.views id w (holds.wins id v at) (λ j u there. holds.wins j u there);
            losses = each_set (λ u. Stand s.words u.losses) s.views id w (stand_more _ (class, winner) v.losses (omega arith) (holds.losses id v at)) (λ j u there. holds.losses j u there);
            one_winner = λ c. omega (arith, total_set (λ (u : View). count (of_class c) u.wins) s.views id v w at, holds.one_winner c);
            shares = omega (arith, total_set (λ (u : View). u.share) s.views id v w at, holds.shares);
            spent = each_set (λ u. u.share ≡ 0 → (u.wins ≡ []) × (u.losses ≡ [])) s.views id w (λ none. absurd (omega arith)) (λ j u there. holds.spent j u there);
          })

  -- ---- what each step asks

  pub split_allowed : (id : ℕ) (v : View) → 2 ≤ v.share → Splits {S = S} (Holds classes) id v (left_part v) (right_part v)
  split_allowed id v two s holds at =
      let summed = split_total s.views id v at (left_part v) (right_part v) in
      let each = split_each s.views id v (left_part v) (right_part v) in
      record {
        words = holds.words;
        numbers = holds.numbers;
        wins = each (λ u. Stand s.words u.wins) (holds.wins id v at) (λ p none. absurd none) (λ j u there. holds.wins j u there);
        losses = each (λ u. Stand s.words u.losses) (holds.losses id v at) (λ p none. absurd none) (λ j u there. holds.losses j u there);
        one_winner = λ c. summed (λ u. count (of_class c) u.wins) (omega arith) ∙ holds.one_winner c;
        shares = summed (λ u. u.share) (omega arith) ∙ holds.shares;
        spent = each (λ u. u.share ≡ 0 → (u.wins ≡ []) × (u.losses ≡ [])) (λ none. absurd (omega arith)) (λ _. (refl, refl)) (λ j u there. holds.spent j u there);
      }

  pub join_allowed : (id : ℕ) (v : View) (other : ℕ) (w : View) → 0 < v.share → Joins {S = S} (Holds classes) id v other w (both v w) spent_view
  join_allowed id v other w above s holds at apart there =
      let found : get_elem? s.views other ≡ some w = sym (set_else s.views id other (both v w) apart) ∙ there in
      let summed = join_total s.views id v at (both v w) other w spent_view there in
      let each = join_each s.views id v (both v w) other spent_view in
      record {
        words = holds.words;
        numbers = holds.numbers;
        wins = each (λ u. Stand s.words u.wins) (stand_append s.words v.wins w.wins (holds.wins id v at) (holds.wins other w found)) (λ p none. absurd none) (λ j u there. holds.wins j u there);
        losses = each (λ u. Stand s.words u.losses) (stand_append s.words v.losses w.losses (holds.losses id v at) (holds.losses other w found)) (λ p none. absurd none) (λ j u there. holds.losses j u there);
        one_winner = λ c. summed (λ u. count (of_class c) u.wins) (count_append (of_class c) v.wins w.wins) refl ∙ holds.one_winner c;
        shares = summed (λ u. u.share) refl refl ∙ holds.shares;
        spent = each (λ u. u.share ≡ 0 → (u.wins ≡ []) × (u.losses ≡ [])) (λ none. absurd (omega arith)) (λ _. (refl, refl)) (λ j u there. holds.spent j u there);
      }

  pub look_allowed : (slots id : ℕ) (me : Me S View) → 0 < me.0.share → Allows (Holds classes) slots id me 0 (λ n. n) (Looks (step slots 0 0 0 none) me)
  look_allowed slots id me above s holds homes at fits =
      let words : set s.words 0 (get_or s.words 0 0) ≡ s.words = set-get_or s.words 0 0 in
      let views : set s.views id me.0 ≡ s.views = set_again s.views id me.0 at in
      let same : Holds classes (stepped s 0 (get_or s.words 0 0) id me.1 me.0 keeps) =
      subst (λ (ws : List ℕ). Holds classes (record { words = ws; homes = s.homes; views = set s.views id me.0 })) (sym words)
      (subst (λ (vs : List View). Holds classes (record { words = s.words; homes = s.homes; views = vs })) (sym views) holds) in
      (me.0, keeps, tt, same, record { same = refl; known = known_of s holds id me.0 at above })

  pub claim_allowed : (slots id : ℕ) (me : Me S View) (class call : ℕ) → 0 < me.0.share → class < classes → call < 4294967295
      → Allows (Holds classes) slots id me class (λ n. either (n == 0) (call + 1) n) (Claims (step slots class 0 (call + 1) none) me)
  claim_allowed slots id me class call above within small s holds homes at fits =
      let n : ℕ = get_or s.words class 0 in
      exchanged n 0 (call + 1) (λ x. (w : View) × (a : Act S) × Valid s.homes me.1 a × Holds classes (stepped s class x id me.1 w a) × Claims (step slots class 0 (call + 1) none) me n (w, carried_after me.1 a))
      (λ free.
      let w : View = with_win (class, call) me.0 in
      let after = won_holds s id me.0 at above holds class within call small free in (
        w,
        keeps,
        tt,
        after,
        record {
          number = holds.numbers class;
          won = λ _. ap (λ (k : ℕ). with_win (class, k) me.0) (omega arith);
          lost = λ some_call. absurd (omega arith);
          slots = refl;
          known = known_of _ after id w (set_there s.views id me.0 w at) above;
        },
      ))
      (λ taken.
      let w : View = with_loss (class, n - 1) me.0 in
      let after = lost_holds s id me.0 at above holds class within (omega arith) in (
        w,
        keeps,
        tt,
        after,
        record {
          number = holds.numbers class;
          won = λ free. absurd (taken free);
          lost = λ _. refl;
          slots = refl;
          known = known_of _ after id w (set_there s.views id me.0 w at) above;
        },
      ))
