-- A text is read as its tickets exactly if it has them, and refused at a line exactly if that is its bad line.
use Rattle.std.proofs.Common.{◌≡◌, ◌⊎◌, ◌↔◌, inl, inr, ℕ, ◌+◌, ◌≤◌, ◌<◌, nat_le, Bool, true, false, cond, List, [], ◌∷◌, ◌++◌, length, map, Option, Some, None, option_and_then, Result, Ok, Err, IfOk, IfErr, refl, sym, ap, ◌∙◌, subst, append_assoc, append-nil, arith}
use Rattle.std.proofs.lemmas.Bool.Decides.{nat_tests}
use Rattle.std.proofs.lemmas.List.{length-append}
use Rattle.lists.specs.Given.{Gives}
use Rattle.text_grammar.specs.FileLines.{text_lines}
use Rattle.text_grammar.specs.ReadLines.{read_lines}
use Rattle.text_grammar.specs.Rows.{EachFits}
use Rattle.text_grammar.proofs.ReadingLaws.{refuses_again, refuses_found}
use Rattle.text_grammar.proofs.RowLaws.{rows_again, rows_found}
use Rattle.stir_outside.proofs.HexLaws.{hex_is}
use Rattle.once_run.specs.Reading.{add_ticket, is_past, ticket_of, tickets_in}
use Rattle.once_run.specs.Seen.{IfLine, fault_line}
use Rattle.once_run.specs.TicketText.{HaveTickets, IsBadLine, IsTicketLine, TicketText}
use Rattle.once_run.specs.declared.fault.TicketsFault.{TicketsFault}
use Rattle.once_run.specs.declared.fault.TicketsFault.TheVariants.{Line, Memory}

-- ---- lines

ticket_is : (line ticket : List ℕ) → (ticket_of line ≡ Some ticket) ↔ IsTicketLine line ticket
unfolding ticket_of
ticket_is line ticket = hex_is 32 line ticket

abbrev said : List (ℕ × List ℕ) → List (Option (List ℕ))
said lines = map (λ line. ticket_of line.1) lines

have_found : (lines : List (ℕ × List ℕ)) (tickets : List (List ℕ)) → said lines ≡ map Some tickets → HaveTickets lines tickets
have_found [] [] e = tt
have_found [] (ticket ∷ tickets) e = absurd cc
have_found (line ∷ lines) [] e = absurd cc
have_found (line ∷ lines) (ticket ∷ tickets) e =
    let here : ticket_of line.1 ≡ Some ticket = cc in
    let more : said lines ≡ map Some tickets = cc in
    ((ticket_is line.1 ticket).0 here, have_found lines tickets more)

have_again : (lines : List (ℕ × List ℕ)) (tickets : List (List ℕ)) → HaveTickets lines tickets → said lines ≡ map Some tickets
have_again [] [] h = refl
have_again [] (ticket ∷ tickets) h = absurd h
have_again (line ∷ lines) [] h = absurd h
have_again (line ∷ lines) (ticket ∷ tickets) h =
    ap (λ (o : Option (List ℕ)). o ∷ said lines) ((ticket_is line.1 ticket).1 h.0) ∙ ap (λ (os : List (Option (List ℕ))). Some ticket ∷ os) (have_again lines tickets h.1)

-- ---- how many they are

under : (n : ℕ) → nat_le 1000000 n ≡ false → n < 1000000
under n e = grind (arith, nat_tests)

not_past : (n : ℕ) → n < 1000000 → nat_le 1000000 n ≡ false
not_past n less = grind (arith, nat_tests)

over : (n : ℕ) → nat_le 1000000 n ≡ true → 1000000 ≤ n
over n e = grind (arith, nat_tests)

full : (n : ℕ) → n ≡ 1000000 → nat_le 1000000 n ≡ true
full n e = grind (arith, nat_tests)

one_longer : (tickets : List (List ℕ)) (ticket : List ℕ) → length (tickets ++ ticket ∷ []) ≡ length tickets + 1
one_longer tickets ticket = length-append tickets (ticket ∷ [])

fits_few : (before new : List (List ℕ)) → EachFits is_past before new → length before ≤ 1000000 → length (before ++ new) ≤ 1000000
fits_few before [] fits few = subst (λ (ts : List (List ℕ)). length ts ≤ 1000000) (sym (append-nil before)) few
fits_few before (ticket ∷ new) fits few =
    let room = under (length before) fits.0 in
    let more : length (before ++ ticket ∷ []) ≤ 1000000 = omega (arith, room, one_longer before ticket) in
    subst (λ (ts : List (List ℕ)). length ts ≤ 1000000) (append_assoc before (ticket ∷ []) new) (fits_few (before ++ ticket ∷ []) new fits.1 more)

few_fits : (before new : List (List ℕ)) → length (before ++ new) ≤ 1000000 → EachFits is_past before new
few_fits before [] few = tt
few_fits before (ticket ∷ new) few =
    let sum : length (before ++ ticket ∷ new) ≡ length before + length (ticket ∷ new) = length-append before (ticket ∷ new) in
    (not_past (length before) (omega (arith, sum, few)), few_fits (before ++ ticket ∷ []) new (subst (λ (ts : List (List ℕ)). length ts ≤ 1000000) (sym (append_assoc before (ticket ∷ []) new)) few))

-- ---- lines read one after another

lines_found : (lines : List (ℕ × List ℕ)) (tickets : List (List ℕ)) → read_lines add_ticket lines [] ≡ Ok tickets → HaveTickets lines tickets × (length tickets ≤ 1000000)
lines_found lines tickets h =
    let s = rows_found ticket_of is_past lines [] tickets h in
    (subst (HaveTickets lines) (sym s.all) (have_found lines s.new s.say), subst (λ (ts : List (List ℕ)). length ts ≤ 1000000) (sym s.all) (fits_few [] s.new s.fits (omega arith)))

lines_again : (lines : List (ℕ × List ℕ)) (tickets : List (List ℕ)) → HaveTickets lines tickets → length tickets ≤ 1000000 → read_lines add_ticket lines [] ≡ Ok tickets
lines_again lines tickets have few = rows_again ticket_of is_past lines [] tickets (have_again lines tickets have) (few_fits [] tickets few)

-- ---- the text

tickets_found : (text : List ℕ) (tickets : List (List ℕ)) → tickets_in text ≡ Ok tickets → TicketText text tickets
unfolding tickets_in
tickets_found text tickets h = let found = lines_found (text_lines text) tickets h in record { lines = found.0; few = found.1 }

tickets_again : (text : List ℕ) (tickets : List (List ℕ)) → TicketText text tickets → tickets_in text ≡ Ok tickets
unfolding tickets_in
tickets_again text tickets t = lines_again (text_lines text) tickets t.lines t.few

refused_by : (line : List ℕ) (tickets : List (List ℕ)) (on : Option (List ℕ)) (past : Bool) → ticket_of line ≡ on → nat_le 1000000 (length tickets) ≡ past → length tickets ≤ 1000000
    → option_and_then (λ ticket. cond past None (Some (tickets ++ ticket ∷ []))) on ≡ None → ((ticket : List ℕ) → IsTicketLine line ticket → ⊥) ⊎ (length tickets ≡ 1000000)
refused_by line tickets None past here count few e = inl (λ ticket is. let other : ◌≡◌ {A = Option (List ℕ)} None (Some ticket) = sym here ∙ (ticket_is line ticket).1 is in absurd cc)
refused_by line tickets (Some ticket) true here count few e = inr (omega (arith, over (length tickets) count, few))
refused_by line tickets (Some ticket) false here count few e = absurd cc

none_on : (line : List ℕ) (on : Option (List ℕ)) → ticket_of line ≡ on → ((ticket : List ℕ) → IsTicketLine line ticket → ⊥) → on ≡ None
none_on line None here none = refl
none_on line (Some ticket) here none = absurd (none ticket ((ticket_is line ticket).0 here))

past_on : (tickets : List (List ℕ)) (on : Option (List ℕ)) (past : Bool) → past ≡ true → option_and_then (λ ticket. cond past None (Some (tickets ++ ticket ∷ []))) on ≡ None
past_on tickets None past e = refl
past_on tickets (Some ticket) past e = ap (λ (b : Bool). cond b None (Some (tickets ++ ticket ∷ []))) e

refused_again : (line : List ℕ) (tickets : List (List ℕ)) → ((ticket : List ℕ) → IsTicketLine line ticket → ⊥) ⊎ (length tickets ≡ 1000000) → add_ticket tickets line ≡ None
refused_again line tickets (inl none) =
    ap (λ (o : Option (List ℕ)). option_and_then (λ ticket. cond (nat_le 1000000 (length tickets)) None (Some (tickets ++ ticket ∷ []))) o) (none_on line (ticket_of line) refl none)
refused_again line tickets (inr most) = past_on tickets (ticket_of line) (nat_le 1000000 (length tickets)) (full (length tickets) most)

bad_found : (text : List ℕ) (number : ℕ) → tickets_in text ≡ Err number → IsBadLine text number
unfolding tickets_in
bad_found text number h =
    let r = refuses_found add_ticket (text_lines text) [] number h in
    let found = lines_found r.before r.reached r.read in
    record {
      before = r.before;
      tickets = r.reached;
      line = r.line;
      after = r.behind;
      split = r.split;
      read = found.0;
      few = found.1;
      refused = refused_by r.line r.reached (ticket_of r.line) (nat_le 1000000 (length r.reached)) refl refl found.1 r.refused;
    }

bad_line : (text : List ℕ) (number : ℕ) → IsBadLine text number → tickets_in text ≡ Err number
unfolding tickets_in
bad_line text number b = refuses_again add_ticket (text_lines text) [] number (record {
  before = b.before;
  line = b.line;
  behind = b.after;
  reached = b.tickets;
  split = b.split;
  read = lines_again b.before b.tickets b.read b.few;
  refused = refused_again b.line b.tickets b.refused;
})

-- ---- what a reader answers that gives this

module _ {X : Type 0} (seen : X → List (List ℕ)) (text : List ℕ) where
  pub read_found : (result : Result X TicketsFault) → Gives fault_line seen result (tickets_in text) → IfOk result (λ tickets. TicketText text (seen tickets))
  read_found (Ok tickets) gives = tickets_found text (seen tickets) gives
  read_found (Err fault) gives = tt

  pub read_bad : (result : Result X TicketsFault) → Gives fault_line seen result (tickets_in text) → IfErr result (λ fault. IfLine fault (IsBadLine text))
  read_bad (Ok tickets) gives = tt
  read_bad (Err (Line number)) gives = bad_found text number gives
  read_bad (Err Memory) gives = tt

  pub found_again : (result : Result X TicketsFault) → Gives fault_line seen result (tickets_in text) → (tickets : List (List ℕ)) → TicketText text tickets → Gives fault_line seen result (Ok tickets)
  found_again result gives tickets t = subst (Gives fault_line seen result) (tickets_again text tickets t) gives

  pub bad_again : (result : Result X TicketsFault) → Gives fault_line seen result (tickets_in text) → (number : ℕ) → IsBadLine text number → Gives fault_line seen result (Err number)
  bad_again result gives number b = subst (Gives fault_line seen result) (bad_line text number b) gives
