-- From what all workers' seats have to the list's answers.
use Rattle.std.proofs.Common.{◌≡◌, ℕ, zero, suc, ◌+◌, ◌%◌, ◌<◌, ◌≤◌, inl, inr, ⊎_elim, Option, Some, None, List, [], length, take, get_or, refl, sym, ap, ◌∙◌, subst, arith}
use Rattle.std.proofs.Math.Nat.{mod-lt}
use Rattle.std.proofs.lemmas.Option.{get_or_from_slice_get, slice_get-get_or, slice_get_within}
use mathlib.Core.Logic.{dite}
use native.Mathlib.Decide.{dec_lt, ℕ_discrete}
use Rattle.live_desk.specs.Lists.{In, total}
use Rattle.live_desk.specs.Ticket.{pieces}
use Rattle.live_desk.specs.Trail.{FullAt, Trail}
use Rattle.live_desk.specs.Claimed.{BeforeFull}
use Rattle.live_desk.specs.Holder.{Holder, LiveDesk}
use Rattle.live_desk.specs.Closing.{Closing, Others}
use Rattle.live_desk.specs.Laws.{first_pieces, won}
use Rattle.live_desk.specs.declared.view.SetWord.{SetWord}
use Rattle.live_desk.specs.declared.claim.LiveClaim.{LiveClaim}
use Rattle.live_desk.specs.declared.claim.LiveClaim.TheVariants.{Won, Lost, Full}
use Rattle.once_run.specs.Claims.{AreClaims, HasOthers, Line, NotFullUpTo, pieces_up_to}
use Rattle.once_run.specs.Work.{Carried, SeatHas, Worked, claim_at, joined, seat_share, share_of, ticket_at}
use Rattle.once_run.specs.declared.worker.Worker.{Worker}
use Rattle.once_run.proofs.Seats.{Within, joined_both, joined_desk, joined_from, joined_has, joined_share, joined_won, same_total}

-- ---- lines and places

place_of : (tickets : List (List ℕ)) (claims : List LiveClaim) (n : ℕ) (ticket : List ℕ) (claim : LiveClaim) → Line tickets claims n ticket claim
    → (n < length tickets) × (ticket_at tickets n ≡ ticket) × (claim_at claims n ≡ claim)
place_of tickets claims n ticket claim line =
    (slice_get_within tickets n ticket line.0, get_or_from_slice_get tickets n ticket [] line.0, get_or_from_slice_get claims n claim Won line.1)

line_of : (tickets : List (List ℕ)) (claims : List LiveClaim) (n : ℕ) → length claims ≡ length tickets → n < length tickets → Line tickets claims n (ticket_at tickets n) (claim_at claims n)
line_of tickets claims n counted less = let same : n < length claims = omega (arith, less, counted) in (slice_get-get_or tickets n [] less, slice_get-get_or claims n Won same)

within_trail : (h all : Holder) → Within h all → (ps : List ℕ) (level slot : ℕ) → Trail h.sets h.seen ps level slot → Trail all.sets all.seen ps level slot
within_trail h all within ps zero slot trail = trail
within_trail h all within ps (suc level) slot trail = (trail.0, within_trail h all within ps level trail.0 trail.1, ⊎_elim (λ set. inl (set.0, within.sets _ set.1)) (λ found. inr (within.seen _ found)) trail.2)

within_full : (size : ℕ) (ticket : List ℕ) (h all : Holder) (level : ℕ) → Within h all → FullAt size ticket h.sets h.seen level → FullAt size ticket all.sets all.seen level
within_full size ticket h all level within full = record {
  parent = full.parent;
  trail = within_trail h all within (pieces ticket) level full.parent full.trail;
  each = λ slot less. let found = full.each slot less in (found.0, within.seen _ found.1, found.2);
}

-- a line whose call set a word of the last level is won
last_is_won : (size : ℕ) (ticket : List ℕ) (h : Holder) (line : LiveClaim) → SeatHas size ticket h line → BeforeFull line 5 → line ≡ Won
last_is_won size ticket h Won has less = refl
last_is_won size ticket h Lost has less = absurd (omega arith)
last_is_won size ticket h (Full n) has less = let top : n ≡ has.0 + 1 = has.1 in let bound : has.0 < 6 = has.2 in absurd (omega arith)

not_full : (level : ℕ) (line : LiveClaim) → BeforeFull line level → NotFullUpTo (level + 1) line
not_full level Won less = tt
not_full level Lost less = tt
not_full level (Full n) less = less

module _ (size : ℕ) (tickets : List (List ℕ)) (count : ℕ) (some : 0 < count) (seat : ℕ → Holder) (theirs : ℕ → List LiveClaim) (claims : List LiveClaim) (all : Holder)
    (counted : length claims ≡ length tickets)
    (worked : (w : ℕ) → w < count → Worked size tickets count w (length tickets) (seat w) (theirs w))
    (gathered : (n : ℕ) → n < length tickets → claim_at claims n ≡ claim_at (theirs (n % count)) n)
    (within : (w : ℕ) → w < count → Within (seat w) all)
    (from : (e : SetWord) → In e all.sets → (w : ℕ) × (w < count) × In e (seat w).sets)
    (wins_of : (ticket : List ℕ) (w : ℕ) → w < count → won ticket (seat w).sets ≤ won ticket all.sets)
    (wins_of_two : (ticket : List ℕ) (w v : ℕ) → w < v → v < count → won ticket (seat w).sets + won ticket (seat v).sets ≤ won ticket all.sets)
    (closing : Closing all) (sizes : all.desk.size ≡ size) where
  mine : (n : ℕ) → n % count < count
  mine n = mod-lt n some

  has : (n : ℕ) → n < length tickets → SeatHas size (ticket_at tickets n) (seat (n % count)) (claim_at claims n)
  has n less = subst (SeatHas size (ticket_at tickets n) (seat (n % count))) (sym (gathered n less)) ((worked (n % count) (mine n)).each n less refl)

  -- each set is of a ticket of the list
  source : (e : SetWord) → In e all.sets → (n : ℕ) × (n < length tickets) × (e.ticket ≡ ticket_at tickets n) × BeforeFull (claim_at claims n) e.level
  source e there =
      let w = from e there in
      let s = (worked w.0 w.1).sets e w.2 in
      let same : claim_at (theirs w.0) s.0 ≡ claim_at claims s.0 = ap (λ (v : ℕ). claim_at (theirs v) s.0) (sym s.2) ∙ sym (gathered s.0 s.1) in
      (s.0, s.1, s.3, subst (λ (a : LiveClaim). BeforeFull a e.level) same s.4)

  one_of : (m n : ℕ) → m < length tickets → n < length tickets → ticket_at tickets m ≡ ticket_at tickets n → claim_at claims m ≡ Won → claim_at claims n ≡ Won → m ≡ n
  one_of m n m_less n_less alike m_line n_line =
      dite (ℕ_discrete m n)
      (λ same. same)
      (λ differ.
      let ticket : List ℕ = ticket_at tickets n in
      let m_won : 0 < won ticket (seat (m % count)).sets = subst (λ (t : List ℕ). 0 < won t (seat (m % count)).sets) alike (subst (SeatHas size (ticket_at tickets m) (seat (m % count))) m_line (has m m_less)) in
      let n_won : 0 < won ticket (seat (n % count)).sets = subst (SeatHas size (ticket_at tickets n) (seat (n % count))) n_line (has n n_less) in
      let at_most : won ticket all.sets ≤ 1 = closing.once ticket in
      dite (ℕ_discrete (m % count) (n % count))
      (λ one.
      let two : 2 ≤ won ticket (seat (n % count)).sets = (worked (n % count) (mine n)).twice m n m_less n_less one refl differ alike
      (ap (λ (w : ℕ). claim_at (theirs w) m) (sym one) ∙ (sym (gathered m m_less) ∙ m_line)) (sym (gathered n n_less) ∙ n_line) in
      let bound : won ticket (seat (n % count)).sets ≤ won ticket all.sets = wins_of ticket (n % count) (mine n) in
      absurd (omega arith))
      (λ apart.
      dite (dec_lt (m % count) (n % count))
      (λ less. let sum : won ticket (seat (m % count)).sets + won ticket (seat (n % count)).sets ≤ won ticket all.sets = wins_of_two ticket (m % count) (n % count) less (mine n) in absurd (omega arith))
      (λ not_less.
      let more : n % count < m % count = omega arith in
      let sum : won ticket (seat (n % count)).sets + won ticket (seat (m % count)).sets ≤ won ticket all.sets = wins_of_two ticket (n % count) (m % count) more (mine m) in absurd (omega arith))))

  lost_of : (n : ℕ) → n < length tickets → claim_at claims n ≡ Lost → (m : ℕ) × (m < length tickets) × (ticket_at tickets m ≡ ticket_at tickets n) × (claim_at claims m ≡ Won)
  lost_of n less line =
      let lost : SeatHas size (ticket_at tickets n) (seat (n % count)) Lost = subst (SeatHas size (ticket_at tickets n) (seat (n % count))) line (has n less) in
      let held = closing.held (ticket_at tickets n) lost.1.0 lost.0 (within_trail (seat (n % count)) all (within (n % count) (mine n)) (pieces (ticket_at tickets n)) 6 lost.1.0 lost.1.1) in
      let s = source held.0 held.1 in
      (s.0, s.1, sym s.2 ∙ held.3, last_is_won size (ticket_at tickets s.0) (seat (s.0 % count)) (claim_at claims s.0) (has s.0 s.1) (subst (BeforeFull (claim_at claims s.0)) held.2 s.3))

  full_of : (n level : ℕ) → n < length tickets → claim_at claims n ≡ Full level → (1 ≤ level) × (level ≤ 6) × HasOthers size tickets claims (ticket_at tickets n) level
  full_of n level less line =
      let full : SeatHas size (ticket_at tickets n) (seat (n % count)) (Full level) = subst (SeatHas size (ticket_at tickets n) (seat (n % count))) line (has n less) in
      let here : ℕ = full.0 in
      let level_is : level ≡ here + 1 = full.1 in
      let bound : here < 6 = full.2 in
      let suc_is : suc here ≡ level = omega arith in
      let each = within_full size (ticket_at tickets n) (seat (n % count)) all here (within (n % count) (mine n)) full.4 in
      let others : Others size all.sets (ticket_at tickets n) here =
      subst (λ (k : ℕ). Others k all.sets (ticket_at tickets n) here) sizes
      (closing.full (ticket_at tickets n) here full.3 bound (subst (λ (k : ℕ). FullAt k (ticket_at tickets n) all.sets all.seen here) (sym sizes) each)) in
      let from_slot : (slot : ℕ) (w : slot < size) → (m : ℕ) × (m < length tickets) × ((others.at slot w).ticket ≡ ticket_at tickets m) × BeforeFull (claim_at claims m) (others.at slot w).level =
      λ slot w. source (others.at slot w) (others.set slot w).0 in
      let pieces_of : (slot : ℕ) (w : slot < size) → first_pieces here (others.at slot w).ticket ≡ pieces_up_to level (ticket_at tickets (from_slot slot w).0) =
      λ slot w. ap (first_pieces here) (from_slot slot w).2 ∙ ap (λ (k : ℕ). take k (pieces (ticket_at tickets (from_slot slot w).0))) suc_is in
      let pieces_here : first_pieces here (ticket_at tickets n) ≡ pieces_up_to level (ticket_at tickets n) = ap (λ (k : ℕ). take k (pieces (ticket_at tickets n))) suc_is in
      let least : 1 ≤ level = omega arith in
      let most : level ≤ 6 = omega arith in (
        least,
        most,
        record {
          other = λ slot w. record {
            place = (from_slot slot w).0;
            own = ticket_at tickets (from_slot slot w).0;
            claim = claim_at claims (from_slot slot w).0;
            line = line_of tickets claims (from_slot slot w).0 counted (from_slot slot w).1;
            not_full = subst (λ (k : ℕ). NotFullUpTo k (claim_at claims (from_slot slot w).0)) (sym level_is)
                (not_full here (claim_at claims (from_slot slot w).0) (subst (BeforeFull (claim_at claims (from_slot slot w).0)) (others.set slot w).1 (from_slot slot w).3));
            differs = λ same. others.other slot w (pieces_of slot w ∙ (same ∙ sym pieces_here));
          };
          apart = λ one two w z differ same. others.apart one two w z differ (pieces_of one w ∙ (same ∙ sym (pieces_of two z)));
        },
      )

  pub are_claims : AreClaims size tickets claims
  are_claims = record {
    each = counted;
    once = λ one two ticket x y.
        let p = place_of tickets claims one ticket Won x in
        let q = place_of tickets claims two ticket Won y in
        one_of one two p.0 q.0 (p.1 ∙ sym q.1) p.2 q.2;
    lost = λ place ticket x.
        let p = place_of tickets claims place ticket Lost x in
        let w = lost_of place p.0 p.2 in
        (w.0, subst (λ (t : List ℕ). Line tickets claims w.0 t Won) (w.2 ∙ p.1) (subst (Line tickets claims w.0 (ticket_at tickets w.0)) w.3 (line_of tickets claims w.0 counted w.1)));
    full = λ place ticket level x.
        let p = place_of tickets claims place ticket (Full level) x in
        let f = full_of place level p.0 p.2 in
        (f.0, f.1, subst (λ (t : List ℕ). HasOthers size tickets claims t level) p.1 f.2);
  }

-- ---- from the workers

or_else : Holder → Option Holder → Holder
or_else h None = h
or_else h (Some g) = g

module _ (desk : LiveDesk) (tickets : List (List ℕ)) (h : Holder) (ws0 ws : List Worker) (d : Worker) (claims : List LiveClaim) (some : 0 < length ws0)
    (same : length ws ≡ length ws0)
    (carried : (i : ℕ) (e : Worker) → i < length ws0 → Carried desk tickets (length ws0) i (get_or ws0 i e) (get_or ws i e))
    (fresh : h.sets ≡ []) (of : h.desk ≡ desk) where
  at : ℕ → Holder
  at w = or_else h (get_or ws w d).seat

  is_at : (w : ℕ) → w < length ws0 → (get_or ws w d).seat ≡ Some (at w)
  unfolding or_else at
  is_at w less = let c = carried w d less in c.seat ∙ ap Some (sym (ap (or_else h) c.seat))

  work_at : (w : ℕ) → w < length ws0 → Worked desk.size tickets (length ws0) w (length tickets) (at w) (get_or ws w d).claims.items
  unfolding or_else at
  work_at w less =
      let c = carried w d less in
      subst (λ (g : Holder). Worked desk.size tickets (length ws0) w (length tickets) g (get_or ws w d).claims.items) (sym (ap (or_else h) c.seat)) c.worked

  -- all shares are together again
  pub whole_again : (all : ℕ) → h.share + total share_of ws0 ≡ all → (joined h ws).share ≡ all
  whole_again all sum =
      let totals : total share_of ws0 ≡ total share_of ws = same_total share_of share_of ws0 ws d d (sym same)
      (λ i less. let c = carried i d less in ap seat_share c.had ∙ (sym c.share ∙ sym (ap seat_share c.seat))) in
      let joined_is = joined_share h ws in
      omega arith

  shorter : (w : ℕ) → w < length ws0 → w < length ws
  shorter w less = omega arith

  longer : (w : ℕ) → w < length ws → w < length ws0
  longer w less = omega arith

  same_some : (f g : Holder) → Some f ≡ Some g → f ≡ g
  same_some f g e = cc

  pub claims_of_all : (counted : length claims ≡ length tickets) → ((i : ℕ) → i < length tickets → claim_at claims i ≡ claim_at (get_or ws (i % length ws) d).claims.items i)
      → Closing (joined h ws) → AreClaims desk.size tickets claims
  claims_of_all counted gathered closing =
      are_claims desk.size tickets (length ws0) some at (λ w. (get_or ws w d).claims.items) claims (joined h ws) counted work_at
      (λ n less. gathered n less ∙ ap (λ (k : ℕ). claim_at (get_or ws (n % k) d).claims.items n) same)
      (λ w less. joined_has h ws w d (at w) (shorter w less) (is_at w less))
      (λ e there. ⊎_elim
      (λ old. absurd (subst (In e) fresh old))
      (λ found.
      let less : found.0 < length ws0 = longer found.0 found.2 in
      let holder : found.1 ≡ at found.0 = same_some found.1 (at found.0) (sym found.3 ∙ is_at found.0 less) in
      (found.0, less, subst (λ (g : Holder). In e g.sets) holder found.4))
      (joined_from h ws d e there))
      (λ ticket w less. joined_won ticket h ws w d (at w) (shorter w less) (is_at w less))
      (λ ticket w v order less. let first : w < length ws0 = omega arith in joined_both ticket h ws w v d (at w) (at v) order (shorter v less) (is_at w first) (is_at v less))
      closing (ap (λ (l : LiveDesk). l.size) (joined_desk h ws ∙ of))
