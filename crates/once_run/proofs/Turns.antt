-- What a worker has after one ticket more.
use Rattle.std.proofs.Common.{◌≡◌, ◌≢◌, ℕ, ◌+◌, ◌%◌, ◌<◌, ◌≤◌, inr, ⊎_elim, List, [], ◌++◌, length, set, refl, sym, ap, ◌∙◌, subst, arith}
use Rattle.std.proofs.lemmas.List.{get_or-set_same, get_or-set_other}
use mathlib.Core.Logic.{dite}
use native.Mathlib.Decide.{ℕ_discrete}
use Rattle.live_desk.specs.Lists.{In, count}
use Rattle.live_desk.specs.Ticket.{pieces}
use Rattle.live_desk.specs.Claimed.{BeforeFull, Claimed}
use Rattle.live_desk.specs.Holder.{Holder, gained}
use Rattle.live_desk.specs.Laws.{wins, won}
use Rattle.live_desk.specs.declared.view.SetWord.{SetWord}
use Rattle.live_desk.specs.declared.view.SeenWord.{SeenWord}
use Rattle.live_desk.specs.declared.claim.LiveClaim.{LiveClaim}
use Rattle.live_desk.specs.declared.claim.LiveClaim.TheVariants.{Won, Lost, Full}
use Rattle.live_desk.proofs.Facts.{full_left, full_right, set_won}
use Rattle.live_desk.proofs.Searches.{trail_left, trail_right}
use Rattle.live_desk.proofs.Sums.{count_append, in_append}
use Rattle.once_run.specs.Work.{SeatHas, Worked, claim_at, ticket_at}

-- what a seat has of a line, it has after it gained more
pub has_more : (size : ℕ) (ticket : List ℕ) (h : Holder) (sets : List SetWord) (seen : List SeenWord) (line : LiveClaim) → SeatHas size ticket h line → SeatHas size ticket (gained sets seen [] h) line
has_more size ticket h sets seen Won has = omega (arith, count_append (wins ticket) sets h.sets)
has_more size ticket h sets seen Lost has = (has.0, (has.1.0, trail_right h.sets sets h.seen seen (pieces ticket) 6 has.1.0 has.1.1))
has_more size ticket h sets seen (Full n) has = (has.0, has.1, has.2, has.3, full_right size ticket h.sets sets h.seen seen has.0 has.4)

-- a claim gives its seat what its line says
pub has_claimed : (size : ℕ) (ticket : List ℕ) (h next : Holder) (answer : LiveClaim) → Claimed size ticket h next answer → SeatHas size ticket next answer
has_claimed size ticket h next Won claimed =
    let won = claimed.won.0 refl in
    subst (λ (g : Holder). SeatHas size ticket g Won) (sym claimed.gained)
    (let here = set_won ticket claimed.sets claimed.seen won in let more : 0 < count (wins ticket) (claimed.sets ++ h.sets) = omega (arith, count_append (wins ticket) claimed.sets h.sets) in more)
has_claimed size ticket h next Lost claimed =
    let lost = claimed.lost.0 refl in
    subst (λ (g : Holder). SeatHas size ticket g Lost) (sym claimed.gained)
    (claimed.ticket_is, (lost.slot, trail_left claimed.sets h.sets claimed.seen h.seen (pieces ticket) 6 lost.slot (lost.parent, lost.trail, inr lost.found)))
has_claimed size ticket h next (Full n) claimed =
    let full = (claimed.full n).0 refl in
    subst (λ (g : Holder). SeatHas size ticket g (Full n)) (sym claimed.gained)
    (full.0, full.1, full.2, claimed.ticket_is, full_left size ticket claimed.sets h.sets claimed.seen h.seen full.0 full.3)

module _ (size : ℕ) (tickets : List (List ℕ)) (count worker upto : ℕ) (h : Holder) (claims : List LiveClaim) (worked : Worked size tickets count worker upto h claims) where
  before : (n : ℕ) → n < upto + 1 → n ≢ upto → n < upto
  before n less apart = omega arith

  pub worked_skip : upto % count ≢ worker → Worked size tickets count worker (upto + 1) h claims
  worked_skip other =
      let mine : (n : ℕ) → n < upto + 1 → n % count ≡ worker → n < upto =
      λ n less same. before n less (λ is. other (sym (ap (λ (k : ℕ). k % count) is) ∙ same)) in
      record {
        each = λ n less same. worked.each n (mine n less same) same;
        twice = λ m n m_less n_less m_same n_same. worked.twice m n (mine m m_less m_same) (mine n n_less n_same) m_same n_same;
        sets = λ e there. let was = worked.sets e there in let later : was.0 < upto + 1 = let less = was.1 in omega arith in (was.0, later, was.2, was.3, was.4);
      }

  module _ (next : Holder) (answer : LiveClaim) (mine : upto % count ≡ worker) (within : upto < length claims) (claimed : Claimed size (ticket_at tickets upto) h next answer) where
    here : claim_at (set claims upto answer) upto ≡ answer
    here = get_or-set_same claims upto answer Won within

    else_where : (n : ℕ) → n ≢ upto → claim_at (set claims upto answer) n ≡ claim_at claims n
    else_where n apart = get_or-set_other claims upto n answer Won apart

    -- a ticket that this claim won, and that was won before, is won twice
    again : (n : ℕ) → n < upto → n % count ≡ worker → ticket_at tickets n ≡ ticket_at tickets upto → claim_at claims n ≡ Won → answer ≡ Won → 2 ≤ won (ticket_at tickets upto) next.sets
    again n less same alike line is =
        let ticket : List ℕ = ticket_at tickets upto in
        let old : 0 < won ticket h.sets = subst (λ (t : List ℕ). 0 < won t h.sets) alike (subst (SeatHas size (ticket_at tickets n) h) line (worked.each n less same)) in
        let new = set_won ticket claimed.sets claimed.seen (claimed.won.0 is) in
        let sum : won ticket (claimed.sets ++ h.sets) ≡ won ticket claimed.sets + won ticket h.sets = count_append (wins ticket) claimed.sets h.sets in
        let two : 2 ≤ won ticket (claimed.sets ++ h.sets) = omega arith in
        subst (λ (g : Holder). 2 ≤ won ticket g.sets) (sym claimed.gained) two

    more : (ticket : List ℕ) → 2 ≤ won ticket h.sets → 2 ≤ won ticket next.sets
    more ticket two =
        let sum : won ticket (claimed.sets ++ h.sets) ≡ won ticket claimed.sets + won ticket h.sets = count_append (wins ticket) claimed.sets h.sets in
        let still : 2 ≤ won ticket (claimed.sets ++ h.sets) = omega arith in
        subst (λ (g : Holder). 2 ≤ won ticket g.sets) (sym claimed.gained) still

    pub worked_step : Worked size tickets count worker (upto + 1) next (set claims upto answer)
    worked_step = record {
      each = λ n less same. dite (ℕ_discrete n upto)
          (λ is.
          subst (λ (k : ℕ). SeatHas size (ticket_at tickets k) next (claim_at (set claims upto answer) k)) (sym is)
          (subst (SeatHas size (ticket_at tickets upto) next) (sym here) (has_claimed size (ticket_at tickets upto) h next answer claimed)))
          (λ apart.
          subst (SeatHas size (ticket_at tickets n) next) (sym (else_where n apart))
          (subst (λ (g : Holder). SeatHas size (ticket_at tickets n) g (claim_at claims n)) (sym claimed.gained)
          (has_more size (ticket_at tickets n) h claimed.sets claimed.seen (claim_at claims n) (worked.each n (before n less apart) same))));
      twice = λ m n m_less n_less m_same n_same differ alike m_line n_line. dite (ℕ_discrete n upto)
          (λ n_is.
          let m_apart : m ≢ upto = λ m_is. differ (m_is ∙ sym n_is) in
          subst (λ (k : ℕ). 2 ≤ won (ticket_at tickets k) next.sets) (sym n_is)
          (again m (before m m_less m_apart) m_same (alike ∙ ap (ticket_at tickets) n_is) (sym (else_where m m_apart) ∙ m_line) (sym here ∙ (ap (claim_at (set claims upto answer)) (sym n_is) ∙ n_line))))
          (λ n_apart.
          dite (ℕ_discrete m upto)
          (λ m_is.
          subst (λ (t : List ℕ). 2 ≤ won t next.sets) (ap (ticket_at tickets) (sym m_is) ∙ alike)
          (again n (before n n_less n_apart) n_same (sym alike ∙ ap (ticket_at tickets) m_is) (sym (else_where n n_apart) ∙ n_line) (sym here ∙ (ap (claim_at (set claims upto answer)) (sym m_is) ∙ m_line))))
          (λ m_apart.
          more (ticket_at tickets n)
          (worked.twice m n (before m m_less m_apart) (before n n_less n_apart) m_same n_same differ alike (sym (else_where m m_apart) ∙ m_line) (sym (else_where n n_apart) ∙ n_line))));
      sets = λ e there. ⊎_elim
          (λ new.
          let own = claimed.own e new in
          (upto, last upto, mine, own.0, subst (λ (a : LiveClaim). BeforeFull a e.level) (sym here) own.1))
          (λ old.
          let was = worked.sets e old in
          let apart : was.0 ≢ upto = λ is. less_apart was.0 was.1 is in
          (was.0, later was.0 was.1, was.2, was.3, subst (λ (a : LiveClaim). BeforeFull a e.level) (sym (else_where was.0 apart)) was.4))
          (in_append e claimed.sets h.sets (subst (λ (g : Holder). In e g.sets) claimed.gained there));
    } where
      last : (n : ℕ) → n < n + 1
      last n = omega arith

      later : (n : ℕ) → n < upto → n < upto + 1
      later n less = omega arith

      less_apart : (n : ℕ) → n < upto → n ≡ upto → ⊥
      less_apart n less is = omega arith
