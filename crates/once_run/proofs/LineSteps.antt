-- A text of tickets read line by line: one ticket more, the first bad line, and the end.
use Rattle.std.proofs.Common.{◌≡◌, ℕ, nat_le, Bool, true, false, cond, List, [], ◌∷◌, ◌++◌, length, Option, Some, None, option_and_then, Result, Ok, Err, refl, sym, ap, ◌∙◌}
use Rattle.text_grammar.specs.ReadLines.{go_on, read_lines}
use Rattle.once_run.specs.Reading.{add_ticket, ticket_of}

-- what is left gives the same after a line, by what is on it and whether it is one too many
reads_on : (given : Result (List (List ℕ)) ℕ) (lines more : List (ℕ × List ℕ)) (number : ℕ) (line : List ℕ) (tickets : List (List ℕ)) (on : Option (List ℕ)) (past : Bool)
    → lines ≡ (number, line) ∷ more → ticket_of line ≡ on → nat_le 1000000 (length tickets) ≡ past → read_lines add_ticket lines tickets ≡ given
    → go_on (option_and_then (λ ticket. cond past None (Some (tickets ++ ticket ∷ []))) on) number (λ next. read_lines add_ticket more next) ≡ given
reads_on given lines more number line tickets on past is here count reads =
    sym (ap (λ (ls : List (ℕ × List ℕ)). read_lines add_ticket ls tickets) is
    ∙ (ap (λ (o : Option (List ℕ)). go_on (option_and_then (λ ticket. cond (nat_le 1000000 (length tickets)) None (Some (tickets ++ ticket ∷ []))) o) number (λ next. read_lines add_ticket more next)) here
    ∙ ap (λ (b : Bool). go_on (option_and_then (λ ticket. cond b None (Some (tickets ++ ticket ∷ []))) on) number (λ next. read_lines add_ticket more next)) count)) ∙ reads

pub one_more : (given : Result (List (List ℕ)) ℕ) (lines more : List (ℕ × List ℕ)) (number : ℕ) (line ticket : List ℕ) (tickets : List (List ℕ))
    → lines ≡ (number, line) ∷ more → Some ticket ≡ ticket_of line → nat_le 1000000 (length tickets) ≡ false → read_lines add_ticket lines tickets ≡ given
    → read_lines add_ticket more (tickets ++ ticket ∷ []) ≡ given
one_more given lines more number line ticket tickets is here count reads = reads_on given lines more number line tickets (Some ticket) false is (sym here) count reads

pub no_ticket : (given : Result (List (List ℕ)) ℕ) (lines more : List (ℕ × List ℕ)) (number : ℕ) (line : List ℕ) (tickets : List (List ℕ))
    → lines ≡ (number, line) ∷ more → None ≡ ticket_of line → read_lines add_ticket lines tickets ≡ given → given ≡ Err number
no_ticket given lines more number line tickets is here reads = sym (reads_on given lines more number line tickets None (nat_le 1000000 (length tickets)) is (sym here) refl reads)

pub one_too_many : (given : Result (List (List ℕ)) ℕ) (lines more : List (ℕ × List ℕ)) (number : ℕ) (line ticket : List ℕ) (tickets : List (List ℕ))
    → lines ≡ (number, line) ∷ more → Some ticket ≡ ticket_of line → nat_le 1000000 (length tickets) ≡ true → read_lines add_ticket lines tickets ≡ given → given ≡ Err number
one_too_many given lines more number line ticket tickets is here count reads = sym (reads_on given lines more number line tickets (Some ticket) true is (sym here) count reads)

pub all_read : (given : Result (List (List ℕ)) ℕ) (lines : List (ℕ × List ℕ)) (tickets : List (List ℕ)) → lines ≡ [] → read_lines add_ticket lines tickets ≡ given → given ≡ Ok tickets
all_read given lines tickets is reads = sym reads ∙ ap (λ (ls : List (ℕ × List ℕ)). read_lines add_ticket ls tickets) is
