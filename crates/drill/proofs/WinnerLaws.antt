-- A legal log has as many valid calls as there are tickets with which calls pass.
use Rattle.std.proofs.Common.{◌≡◌, ℕ, zero, suc, ◌+◌, ◌≤◌, Bool, true, false, ◌||◌, List, [], ◌∷◌, ◌++◌, ◌⊎◌, inl, inr, length, refl, sym, ◌∙◌, ap, subst, arith}
use Rattle.std.specs.Str.{bytes_eq}
use Rattle.std.specs.Cmp.Lexicographic.{bytes_decides}
use Rattle.std.proofs.lemmas.Option.{none-some, same_Some}
use Rattle.cert_store.proofs.OnceLaws.{no_more}
use Rattle.cert_store.specs.Using.{IsOnce, has}
use Rattle.replay_law.proofs.LogLaws.{valid_or_replay}
use Rattle.replay_law.proofs.Users.{valid_passes}
use Rattle.replay_law.specs.Log.{LogWinner, RowsLegal, StandsIn}
use Rattle.replay_law.specs.Round.{Round}
use Rattle.replay_law.specs.Row.{Answer, Row, Stands, Uses, valid, replay, neither}
use Rattle.drill.specs.Winners.{PassesIn, SameTickets, all_rows, more_valid, valid_count}

-- ---- the tickets of valid calls

abbrev put : Answer → List ℕ → List (List ℕ) → List (List ℕ)
put valid ticket tickets = ticket ∷ tickets
put (replay number) ticket tickets = tickets
put neither ticket tickets = tickets

abbrev valids : List Row → List (List ℕ)
valids [] = []
valids (row ∷ rows) = put row.answer row.ticket (valids rows)

put_size : (answer : Answer) (ticket : List ℕ) (tickets : List (List ℕ)) (count : ℕ) → length tickets ≡ count → length (put answer ticket tickets) ≡ more_valid answer count
put_size valid ticket tickets count e = ap suc e
put_size (replay number) ticket tickets count e = e
put_size neither ticket tickets count e = e

size_is : (rows : List Row) → length (valids rows) ≡ valid_count rows
size_is [] = refl
size_is (row ∷ rows) = put_size row.answer row.ticket (valids rows) (valid_count rows) (size_is rows)

same_text : (ticket : List ℕ) → bytes_eq ticket ticket ≡ true
same_text ticket = (bytes_decides ticket ticket).1 refl

or_right : (b c : Bool) → c ≡ true → (b || c) ≡ true
or_right true c is = refl
or_right false c is = is

has_put : (ticket : List ℕ) (answer : Answer) (own : List ℕ) (tickets : List (List ℕ)) → has ticket tickets ≡ true → has ticket (put answer own tickets) ≡ true
has_put ticket valid own tickets h = or_right (bytes_eq ticket own) (has ticket tickets) h
has_put ticket (replay number) own tickets h = h
has_put ticket neither own tickets h = h

has_own : (answer : Answer) (own : List ℕ) (tickets : List (List ℕ)) → answer ≡ valid → has own (put answer own tickets) ≡ true
has_own answer own tickets e = ap (λ (a : Answer). has own (put a own tickets)) e ∙ ap (λ b. b || has own tickets) (same_text own)

holds : (rows : List Row) (place : ℕ) (row : Row) → Stands rows place row → row.answer ≡ valid → has row.ticket (valids rows) ≡ true
holds [] place row s w = absurd (none-some row s)
holds (first ∷ rows) zero row s w =
    let is = same_Some first row s in
    ap (λ (r : Row). has r.ticket (valids (first ∷ rows))) (sym is) ∙ has_own first.answer first.ticket (valids rows) (ap (λ (r : Row). r.answer) is ∙ w)
holds (first ∷ rows) (suc place) row s w = has_put row.ticket first.answer first.ticket (valids rows) (holds rows place row s w)

-- a valid call of the ticket
record Found (ticket : List ℕ) (rows : List Row) : Type 0 where
  place : ℕ
  row : Row
  stands : Stands rows place row
  wins : row.answer ≡ valid
  same : row.ticket ≡ ticket

later : (ticket : List ℕ) (first : Row) (rows : List Row) → Found ticket rows → Found ticket (first ∷ rows)
later ticket first rows f = record { place = suc f.place; row = f.row; stands = f.stands; wins = f.wins; same = f.same }

found_test : (ticket : List ℕ) (first : Row) (rows : List Row) (t : Bool) → bytes_eq ticket first.ticket ≡ t → first.answer ≡ valid → (has ticket (valids rows) ≡ true → Found ticket rows)
    → (t || has ticket (valids rows)) ≡ true → Found ticket (first ∷ rows)
found_test ticket first rows true e w below h = record { place = 0; row = first; stands = refl; wins = w; same = sym ((bytes_decides ticket first.ticket).0 e) }
found_test ticket first rows false e w below h = later ticket first rows (below h)

found_by : (ticket : List ℕ) (first : Row) (rows : List Row) (answer : Answer) → first.answer ≡ answer → (has ticket (valids rows) ≡ true → Found ticket rows)
    → has ticket (put answer first.ticket (valids rows)) ≡ true → Found ticket (first ∷ rows)
found_by ticket first rows valid e below h = found_test ticket first rows (bytes_eq ticket first.ticket) refl e below h
found_by ticket first rows (replay number) e below h = later ticket first rows (below h)
found_by ticket first rows neither e below h = later ticket first rows (below h)

found : (ticket : List ℕ) (rows : List Row) → has ticket (valids rows) ≡ true → Found ticket rows
found ticket [] h = absurd cc
found ticket (first ∷ rows) h = found_by ticket first rows first.answer refl (found ticket rows) h

-- ---- each ticket once

-- of one ticket there is one valid call
abbrev AtMostOne : List Row → Type 0
AtMostOne rows = (place other : ℕ) (row same : Row) → Stands rows place row → Stands rows other same → row.answer ≡ valid → same.answer ≡ valid → row.ticket ≡ same.ticket → place ≡ other

not_true : (b : Bool) → (b ≡ true → ⊥) → b ≡ false
not_true true h = absurd (h refl)
not_true false h = refl

fewer : (first : Row) (rows : List Row) → AtMostOne (first ∷ rows) → AtMostOne rows
fewer first rows one place other row same s t w v e = let both = one (suc place) (suc other) row same s t w v e in omega (arith, both)

once_by : (first : Row) (rows : List Row) (answer : Answer) → first.answer ≡ answer → AtMostOne (first ∷ rows) → IsOnce (valids rows) → IsOnce (put answer first.ticket (valids rows))
once_by first rows valid e one below = (
  not_true (has first.ticket (valids rows)) (λ h.
      let f = found first.ticket rows h in
      let both = one 0 (suc f.place) first f.row refl f.stands e f.wins (sym f.same) in
      absurd (omega (arith, both))),
  below,
)
once_by first rows (replay number) e one below = below
once_by first rows neither e one below = below

once : (rows : List Row) → AtMostOne rows → IsOnce (valids rows)
once [] one = tt
once (first ∷ rows) one = once_by first rows first.answer refl one (once rows (fewer first rows one))

-- ---- places of a log, and of all its calls

abbrev offset : List Round → ℕ → ℕ
offset [] round = 0
offset (first ∷ rounds) zero = 0
offset (first ∷ rounds) (suc round) = length first.rows + offset rounds round

record Spot (rounds : List Round) (at : ℕ) (row : Row) : Type 0 where
  round : ℕ
  place : ℕ
  stands : StandsIn rounds round place row
  is : at ≡ offset rounds round + place

-- it is in the first rows or after them
record Behind (front rows : List Row) (at : ℕ) (row : Row) : Type 0 where
  place : ℕ
  stands : Stands rows place row
  is : at ≡ length front + place

halves : (front rows : List Row) (at : ℕ) (row : Row) → Stands (front ++ rows) at row → Stands front at row ⊎ Behind front rows at row
halves [] rows at row s = inr (record { place = at; stands = s; is = omega arith })
halves (first ∷ front) rows zero row s = inl s
halves (first ∷ front) rows (suc at) row s =
    elim (halves front rows at row s) [
      | inl here ↦ inl here
      | inr behind ↦ inr (record { place = behind.place; stands = behind.stands; is = ap suc behind.is ∙ plus_one (length front) behind.place })
    ]
  where
    plus_one : (a b : ℕ) → suc (a + b) ≡ suc a + b
    plus_one a b = omega arith

spot : (rounds : List Round) (at : ℕ) (row : Row) → Stands (all_rows rounds) at row → Spot rounds at row
spot [] at row s = absurd (none-some row s)
spot (first ∷ rounds) at row s =
    elim (halves first.rows (all_rows rounds) at row s) [
      | inl here ↦ record { round = 0; place = at; stands = here; is = omega arith }
      | inr behind ↦
          let more = spot rounds behind.place row behind.stands in
          record { round = suc more.round; place = more.place; stands = more.stands; is = behind.is ∙ ap (λ n. length first.rows + n) more.is ∙ sum_of (length first.rows) (offset rounds more.round) more.place }
    ]
  where
    sum_of : (a b c : ℕ) → a + (b + c) ≡ a + b + c
    sum_of a b c = omega arith

-- ---- legal rounds

is_winner : (rounds : List Round) (legal : RowsLegal rounds) (round place : ℕ) (row : Row) (ticket : List ℕ) (w : LogWinner rounds ticket) → StandsIn rounds round place row → row.answer ≡ valid
    → row.ticket ≡ ticket → (round ≡ w.round) × (place ≡ w.place)
is_winner rounds legal round place row ticket w s wins same =
    let passes = valid_passes row (legal.refused round place row s) wins in
    elim (valid_or_replay rounds ticket w round place row s (record { passes = passes; same = same })) [
      | inl one ↦ one
      | inr replayed ↦ (let both : valid ≡ replay w.winner.number = sym wins ∙ replayed in absurd cc)
    ]

at_most_one : (rounds : List Round) → RowsLegal rounds → AtMostOne (all_rows rounds)
at_most_one rounds legal place other row same s t w v e =
    let a = spot rounds place row s in
    let b = spot rounds other same t in
    let winner = legal.once a.round a.place row a.stands (valid_passes row (legal.refused a.round a.place row a.stands) w) in
    let one = is_winner rounds legal a.round a.place row row.ticket winner a.stands w refl in
    let two = is_winner rounds legal b.round b.place same row.ticket winner b.stands v (sym e) in
    a.is ∙ ap (λ n. offset rounds n + a.place) (one.0 ∙ sym two.0) ∙ ap (λ n. offset rounds b.round + n) (one.1 ∙ sym two.1) ∙ sym b.is

-- a call passes in the list of all calls
passing_at : (rows : List Row) (place : ℕ) (row : Row) (ticket : List ℕ) → Stands rows place row → Uses ticket row → PassesIn ticket rows
passing_at [] place row ticket s uses = absurd (none-some row s)
passing_at (first ∷ rows) zero row ticket s uses = inl (subst (Uses ticket) (sym (same_Some first row s)) uses)
passing_at (first ∷ rows) (suc place) row ticket s uses = inr (passing_at rows place row ticket s uses)

record Passing (ticket : List ℕ) (rows : List Row) : Type 0 where
  place : ℕ
  row : Row
  stands : Stands rows place row
  uses : Uses ticket row

passing_found : (rows : List Row) (ticket : List ℕ) → PassesIn ticket rows → Passing ticket rows
passing_found [] ticket p = absurd p
passing_found (first ∷ rows) ticket (inl uses) = record { place = 0; row = first; stands = refl; uses = uses }
passing_found (first ∷ rows) ticket (inr p) = let f = passing_found rows ticket p in record { place = suc f.place; row = f.row; stands = f.stands; uses = f.uses }

in_front : (front rows : List Row) (place : ℕ) (row : Row) → Stands front place row → Stands (front ++ rows) place row
in_front [] rows place row s = absurd (none-some row s)
in_front (first ∷ front) rows zero row s = s
in_front (first ∷ front) rows (suc place) row s = in_front front rows place row s

has_behind : (ticket : List ℕ) (front rows : List Row) → has ticket (valids rows) ≡ true → has ticket (valids (front ++ rows)) ≡ true
has_behind ticket [] rows h = h
has_behind ticket (first ∷ front) rows h = has_put ticket first.answer first.ticket (valids (front ++ rows)) (has_behind ticket front rows h)

holds_in : (rounds : List Round) (round place : ℕ) (row : Row) → StandsIn rounds round place row → row.answer ≡ valid → has row.ticket (valids (all_rows rounds)) ≡ true
holds_in [] round place row s w = absurd (none-some row s)
holds_in (first ∷ rounds) zero place row s w = holds (first.rows ++ all_rows rounds) place row (in_front first.rows (all_rows rounds) place row s) w
holds_in (first ∷ rounds) (suc round) place row s w = has_behind row.ticket first.rows (all_rows rounds) (holds_in rounds round place row s w)

-- a ticket with which a call passes has a valid call
has_winner : (rounds : List Round) → RowsLegal rounds → (ticket : List ℕ) → PassesIn ticket (all_rows rounds) → has ticket (valids (all_rows rounds)) ≡ true
has_winner rounds legal ticket p =
    let f = passing_found (all_rows rounds) ticket p in
    let s = spot rounds f.place f.row f.stands in
    let w = legal.once s.round s.place f.row s.stands f.uses.passes in
    ap (λ t. has t (valids (all_rows rounds))) (sym f.uses.same ∙ sym w.uses.same) ∙ holds_in rounds w.round w.place w.winner w.stands w.wins

-- and a valid call passes
winner_passes : (rounds : List Round) → RowsLegal rounds → (ticket : List ℕ) → has ticket (valids (all_rows rounds)) ≡ true → PassesIn ticket (all_rows rounds)
winner_passes rounds legal ticket h =
    let f = found ticket (all_rows rounds) h in
    let s = spot rounds f.place f.row f.stands in
    passing_at (all_rows rounds) f.place f.row ticket f.stands
    (record { passes = valid_passes f.row (legal.refused s.round s.place f.row s.stands) f.wins; same = f.same })

-- ---- as many

no_fewer : (rounds others : List Round) → RowsLegal rounds → RowsLegal others → ((ticket : List ℕ) → PassesIn ticket (all_rows rounds) → PassesIn ticket (all_rows others))
    → length (valids (all_rows rounds)) ≤ length (valids (all_rows others))
no_fewer rounds others legal legal_other to =
    no_more (valids (all_rows rounds)) (valids (all_rows others)) (once (all_rows rounds) (at_most_one rounds legal))
    (λ ticket h. has_winner others legal_other ticket (to ticket (winner_passes rounds legal ticket h)))

pub one_count : (rounds others : List Round) → RowsLegal rounds → RowsLegal others → SameTickets (all_rows rounds) (all_rows others)
    → valid_count (all_rows rounds) ≡ valid_count (all_rows others)
one_count rounds others legal legal_other same =
    let less = no_fewer rounds others legal legal_other same.to in
    let more = no_fewer others rounds legal_other legal same.back in
    omega (arith, less, more, size_is (all_rows rounds), size_is (all_rows others))
