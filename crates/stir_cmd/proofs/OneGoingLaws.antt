-- The same calls, answered twice in rounds over one past, in each round the first with its ticket first: each has one answer, and the same is left.
use Rattle.std.proofs.Common.{◌≡◌, ◌≢◌, ◌⊎◌, inl, inr, ℕ, zero, suc, ◌≤◌, Bool, true, false, List, [], ◌∷◌, Option, Some, None, refl, sym, ◌∙◌, ap, subst, arith}
use Rattle.std.specs.Prelude.{⊤}
use Rattle.std.proofs.lemmas.Option.{none-some, same_Some}
use Rattle.std.proofs.lemmas.Slice.Eq.{bytes_eq-Decides}
use Rattle.std.specs.List.{slice_get}
use Rattle.std.specs.Str.{bytes_eq}
use Rattle.replay_law.specs.Held.{Held, Kept, Same, kept_of, purged}
use Rattle.replay_law.specs.Log.{StandsIn}
use Rattle.replay_law.specs.Round.{Round, Rounds, Settled, Winner}
use Rattle.replay_law.specs.Row.{Answer, Row, Stands, neither, replay, valid}
use Rattle.replay_law.specs.Turn.{FirstWins}

-- ---- the same calls

-- one call, whatever was answered to it
pub record IsOneCall (row other : Row) : Type 0 where
  pub number : row.number ≡ other.number
  pub moment : row.moment ≡ other.moment
  pub ticket : row.ticket ≡ other.ticket
  pub last : row.last ≡ other.last
  pub passes : row.passes ≡ other.passes

abbrev pub AreOneCalls : List Row → List Row → Type 0
AreOneCalls [] [] = ⊤
AreOneCalls [] (other ∷ others) = ⊥
AreOneCalls (row ∷ rows) [] = ⊥
AreOneCalls (row ∷ rows) (other ∷ others) = IsOneCall row other × AreOneCalls rows others

call_turned : (row other : Row) → IsOneCall row other → IsOneCall other row
call_turned row other same = record { number = sym same.number; moment = sym same.moment; ticket = sym same.ticket; last = sym same.last; passes = sym same.passes }

calls_turned : (rows others : List Row) → AreOneCalls rows others → AreOneCalls others rows
calls_turned [] [] same = tt
calls_turned [] (other ∷ others) same = same
calls_turned (row ∷ rows) [] same = same
calls_turned (row ∷ rows) (other ∷ others) (here, more) = (call_turned row other here, calls_turned rows others more)

-- at a place where the one has a call, the other has it too
there : (rows others : List Row) → AreOneCalls rows others → (place : ℕ) (row : Row) → Stands rows place row → (other : Row) × Stands others place other × IsOneCall row other
there [] others same place row stands = absurd (none-some row stands)
there (r ∷ rows) [] same place row stands = absurd same
there (r ∷ rows) (o ∷ others) (here, more) zero row stands = (o, refl, subst (λ (x : Row). IsOneCall x o) (same_Some r row stands) here)
there (r ∷ rows) (o ∷ others) (here, more) (suc place) row stands = there rows others more place row stands

-- ---- places

pub same_or_other : (a b : ℕ) → (a ≡ b) ⊎ (a ≢ b)
same_or_other zero zero = inl refl
same_or_other zero (suc b) = inr (λ same. omega (arith, same))
same_or_other (suc a) zero = inr (λ same. omega (arith, same))
same_or_other (suc a) (suc b) = elim (same_or_other a b) [ inl same ↦ inl (ap suc same) | inr other ↦ inr (λ same. other (omega (arith, same))) ]

pub one_row : (rows : List Row) (place other : ℕ) (row winner : Row) → place ≡ other → Stands rows place row → Stands rows other winner → row ≡ winner
one_row rows place other row winner same stands there = same_Some row winner (sym stands ∙ ap (λ p. slice_get rows p) same ∙ there)

-- ---- valid calls

abbrev SomeValid : List ℕ → List Row → Type 0
SomeValid ticket rows = (place : ℕ) × (row : Row) × Stands rows place row × (row.ticket ≡ ticket) × (row.answer ≡ valid)

abbrev NoValid : List ℕ → List Row → Type 0
NoValid ticket rows = (place : ℕ) (row : Row) → Stands rows place row → row.ticket ≡ ticket → row.answer ≢ valid

answer_valid : (answer : Answer) → (answer ≡ valid) ⊎ (answer ≢ valid)
answer_valid valid = inl refl
answer_valid (replay number) = inr (λ same. absurd (cc))
answer_valid neither = inr (λ same. absurd (cc))

one_ticket : (a b : List ℕ) → (a ≡ b) ⊎ (a ≢ b)
one_ticket a b = by_test (bytes_eq a b) refl where
  by_test : (t : Bool) → bytes_eq a b ≡ t → (a ≡ b) ⊎ (a ≢ b)
  by_test true is = inl ((bytes_eq-Decides a b).0 is)
  by_test false is = inr (λ e. let same = (bytes_eq-Decides a b).1 e in let both : true ≡ false = sym same ∙ is in absurd (cc))

-- a call is a valid one with this ticket, or isn't
abbrev Fits : List ℕ → Row → Type 0
Fits ticket row = (row.ticket ≡ ticket) × (row.answer ≡ valid)

fits_or_not : (ticket : List ℕ) (row : Row) → Fits ticket row ⊎ (Fits ticket row → ⊥)
fits_or_not ticket row =
    elim (one_ticket row.ticket ticket) [
      | inl same ↦ elim (answer_valid row.answer) [ inl wins ↦ inl (same, wins) | inr loses ↦ inr (λ fits. loses fits.1) ]
      | inr other ↦ inr (λ fits. other fits.0)
    ]

none_more : (ticket : List ℕ) (row : Row) (rows : List Row) → (Fits ticket row → ⊥) → NoValid ticket rows → NoValid ticket (row ∷ rows)
none_more ticket row rows apart none zero other stands same wins =
    let is = same_Some row other stands in
    apart (ap (λ (r : Row). r.ticket) is ∙ same, ap (λ (r : Row). r.answer) is ∙ wins)
none_more ticket row rows apart none (suc place) other stands same wins = none place other stands same wins

valid_in : (ticket : List ℕ) (rows : List Row) → SomeValid ticket rows ⊎ NoValid ticket rows
valid_in ticket [] = inr (λ place row stands. absurd (none-some row stands))
valid_in ticket (row ∷ rows) =
    elim (fits_or_not ticket row) [
      | inl fits ↦ inl (0, row, refl, fits.0, fits.1)
      | inr apart ↦ elim (valid_in ticket rows) [
        | inl (place, other, stands, same, wins) ↦ inl (suc place, other, stands, same, wins)
        | inr none ↦ inr (none_more ticket row rows apart none)
      ]
    ]

-- ---- calls that are answered twice, if each ticket is won at one place

module _ (held next other_next : Held) (rows others : List Row)
    (there_too : (place : ℕ) (row : Row) → Stands rows place row → (other : Row) × Stands others place other × IsOneCall row other)
    (mine : Settled held rows next) (yours : Settled held others other_next)
    (one_place : (ticket : List ℕ) (w : Winner rows ticket) (v : Winner others ticket) → w.place ≡ v.place) where
  one_number : (ticket : List ℕ) (w : Winner rows ticket) (v : Winner others ticket) → w.winner.number ≡ v.winner.number
  one_number ticket w v =
      let (other, stands, one) = there_too w.place w.winner w.stands in
      one.number ∙ ap (λ (r : Row). r.number) (one_row others w.place v.place other v.winner (one_place ticket w v) stands v.stands)

  won : (place : ℕ) (row other : Row) → Stands rows place row → Stands others place other → IsOneCall row other → row.passes ≡ true
      → (w : Winner rows row.ticket) (v : Winner others row.ticket) → (place ≡ w.place) ⊎ (place ≢ w.place) → row.answer ≡ other.answer
  won place row other stands stands_other one passes w v (inl here) =
      ap (λ (r : Row). r.answer) (one_row rows place w.place row w.winner here stands w.stands) ∙ w.wins
      ∙ sym (ap (λ (r : Row). r.answer) (one_row others place v.place other v.winner (here ∙ one_place row.ticket w v) stands_other v.stands) ∙ v.wins)
  won place row other stands stands_other one passes w v (inr elsewhere) =
      w.others place row stands (record { passes = passes; same = refl }) elsewhere ∙ ap replay (one_number row.ticket w v)
      ∙ sym (v.others place other stands_other (record { passes = sym one.passes ∙ passes; same = sym one.ticket }) (λ is. elsewhere (is ∙ sym (one_place row.ticket w v))))

  by_held : (place : ℕ) (row other : Row) → Stands rows place row → Stands others place other → IsOneCall row other → row.passes ≡ true → (o : Option Kept)
      → held row.ticket ≡ o → row.answer ≡ other.answer
  by_held place row other stands stands_other one passes (Some kept) is =
      mine.replays place row kept stands passes is ∙ sym (yours.replays place other kept stands_other (sym one.passes ∙ passes) (ap held (sym one.ticket) ∙ is))
  by_held place row other stands stands_other one passes None is =
      let w : Winner rows row.ticket = mine.winners place row stands passes is in
      let v : Winner others row.ticket =
      subst (Winner others) (sym one.ticket) (yours.winners place other stands_other (sym one.passes ∙ passes) (ap held (sym one.ticket) ∙ is)) in
      won place row other stands stands_other one passes w v (same_or_other place w.place)

  by_passes : (place : ℕ) (row other : Row) → Stands rows place row → Stands others place other → IsOneCall row other → (t : Bool) → row.passes ≡ t → row.answer ≡ other.answer
  by_passes place row other stands stands_other one false is =
      mine.refused place row stands is ∙ sym (yours.refused place other stands_other (sym one.passes ∙ is))
  by_passes place row other stands stands_other one true is = by_held place row other stands stands_other one is (held row.ticket) refl

  pub one_answer_at : (place : ℕ) (row other : Row) → Stands rows place row → Stands others place other → row.answer ≡ other.answer
  one_answer_at place row other stands stands_other =
      let (o, stands_o, one) = there_too place row stands in
      by_passes place row other stands stands_other (subst (λ (x : Row). IsOneCall row x) (same_Some o other (sym stands_o ∙ stands_other)) one) row.passes refl

-- ---- a round

-- the valid call of a ticket isn't after that of the other answers
not_after : (rows others : List Row) (ticket : List ℕ) (w : Winner rows ticket) (v : Winner others ticket) → AreOneCalls others rows → FirstWins rows → w.place ≤ v.place
not_after rows others ticket w v same first =
    let (row, stands, one) = there others rows same v.place v.winner v.stands in
    first w.place v.place w.winner row w.stands w.wins stands (record { passes = sym one.passes ∙ v.uses.passes; same = sym one.ticket ∙ v.uses.same ∙ sym w.uses.same })

module _ (held next other_next : Held) (rows others : List Row) (same : AreOneCalls rows others) (mine : Settled held rows next) (yours : Settled held others other_next)
    (first : FirstWins rows) (first_other : FirstWins others) where
  one_place : (ticket : List ℕ) (w : Winner rows ticket) (v : Winner others ticket) → w.place ≡ v.place
  one_place ticket w v =
      let mine = not_after rows others ticket w v (calls_turned rows others same) first in
      let yours = not_after others rows ticket v w same first_other in
      omega (arith, mine, yours)

  pub one_in_round : (place : ℕ) (row other : Row) → Stands rows place row → Stands others place other → row.answer ≡ other.answer
  one_in_round = one_answer_at held next other_next rows others (there rows others same) mine yours one_place

  kept_alike : (row other : Row) → IsOneCall row other → kept_of row ≡ kept_of other
  kept_alike row other one = λ i. record { call = one.number i; last = one.last i }

  gained : (ticket : List ℕ) → SomeValid ticket rows → next ticket ≡ other_next ticket
  gained ticket (place, row, stands, is, wins) =
      let (other, stands_other, one) = there rows others same place row stands in
      let also : other.answer ≡ valid = sym (one_in_round place row other stands stands_other) ∙ wins in
      ap next (sym is) ∙ mine.gains place row stands wins ∙ ap Some (kept_alike row other one)
      ∙ sym (ap other_next (sym is ∙ one.ticket) ∙ yours.gains place other stands_other also)

  none_there : (ticket : List ℕ) → NoValid ticket rows → NoValid ticket others
  none_there ticket none place other stands is wins =
      let (row, stands_row, one) = there others rows (calls_turned rows others same) place other stands in
      none place row stands_row (sym one.ticket ∙ is) (one_in_round place row other stands_row stands ∙ wins)

  left_by : (ticket : List ℕ) → (o : Option Kept) → held ticket ≡ o → next ticket ≡ other_next ticket
  left_by ticket (Some kept) is = mine.stays ticket kept is ∙ sym (yours.stays ticket kept is)
  left_by ticket None is =
      elim (valid_in ticket rows) [
        | inl some ↦ gained ticket some
        | inr none ↦ mine.no_more ticket is none ∙ sym (yours.no_more ticket is (none_there ticket none))
      ]

  pub same_left : Same next other_next
  same_left ticket = left_by ticket (held ticket) refl

-- ---- rounds

abbrev pub AreOneRounds : List Round → List Round → Type 0
AreOneRounds [] [] = ⊤
AreOneRounds [] (other ∷ others) = ⊥
AreOneRounds (round ∷ rounds) [] = ⊥
AreOneRounds (round ∷ rounds) (other ∷ others) = (round.moment ≡ other.moment) × AreOneCalls round.rows other.rows × AreOneRounds rounds others

abbrev pub EachInOrder : List Round → Type 0
EachInOrder [] = ⊤
EachInOrder (round ∷ rounds) = FirstWins round.rows × EachInOrder rounds

abbrev pub OneAnswerIn : List Round → List Round → Type 0
OneAnswerIn rounds others = (round place : ℕ) (row other : Row) → StandsIn rounds round place row → StandsIn others round place other → row.answer ≡ other.answer

-- each call has one answer, and the same is left
pub record CameToOne (rounds others : List Round) (next other_next : Held) : Type 0 where
  pub answers : OneAnswerIn rounds others
  pub left : Same next other_next

one_round_more : (round other : Round) (rounds others : List Round) → ((place : ℕ) (row same : Row) → Stands round.rows place row → Stands other.rows place same → row.answer ≡ same.answer)
    → OneAnswerIn rounds others → OneAnswerIn (round ∷ rounds) (other ∷ others)
one_round_more round other rounds others here more zero place row same stands there = here place row same stands there
one_round_more round other rounds others here more (suc at) place row same stands there = more at place row same stands there

pub came_to_one : (rounds others : List Round) (past next other_next : Held) → AreOneRounds rounds others → Rounds past rounds next → Rounds past others other_next → EachInOrder rounds
    → EachInOrder others → CameToOne rounds others next other_next
came_to_one [] [] past next other_next same mine yours order order_other = record {
  answers = λ round place row other stands. absurd (none-some row stands);
  left = λ ticket. sym (mine ticket) ∙ yours ticket;
}
came_to_one [] (other ∷ others) past next other_next same mine yours order order_other = absurd same
came_to_one (round ∷ rounds) [] past next other_next same mine yours order order_other = absurd same
came_to_one (round ∷ rounds) (other ∷ others) past next other_next (moment, calls, more) (middle, settled, rest) (other_middle, settled_other, rest_other) (first, order) (first_other, order_other) =
    let there : Settled (purged round.moment past) other.rows other_middle =
    subst (λ (m : ℕ). Settled (purged m past) other.rows other_middle) (sym moment) settled_other in
    let answers = one_in_round (purged round.moment past) middle other_middle round.rows other.rows calls settled there first first_other in
    let left : Same middle other_middle = same_left (purged round.moment past) middle other_middle round.rows other.rows calls settled there first first_other in
    let one : other_middle ≡ middle = λ i ticket. sym (left ticket) i in
    let behind = came_to_one rounds others middle next other_next more rest (subst (λ (h : Held). Rounds h others other_next) one rest_other) order order_other in
    record { answers = one_round_more round other rounds others answers behind.answers; left = behind.left }
