-- The scan for a `<` outside of quoted strings finds the one that the pieces of the value say.
use Rattle.std.proofs.Common.{◌≡◌, ℕ, Bool, true, false, not, ◌==◌, ◌||◌, cond, List, [], ◌∷◌, ◌++◌, Option, Some, None, refl, ap, ◌∙◌, sym, append_assoc, arith, subst}
use Rattle.std.specs.List.{list_all}
use Rattle.std.specs.Option.{option_map_or}
use Rattle.std.proofs.lemmas.Option.{same_Some}
use Rattle.std.proofs.lemmas.Bool.Decides.{nat_tests}
use Rattle.sip_message.specs.declared.address.Quoting.{Quoting}
use Rattle.sip_message.specs.declared.address.Quoting.TheVariants.{Outside, Inside, Escaped}
use Rattle.sip_message.specs.Address.{address, before, behind_bracket}
use Rattle.sip_message.specs.Quoted.{IsAddress, IsBracketed, Piece, Quote, bare, ends_address, escaped, in_brackets, is_piece, is_quote, pieces_text, plain, quoted, quotes_text, without}
use Rattle.sip_message.specs.Quoting.{after, bracket_from}
use Rattle.sip_message.specs.UpTo.{UpTo}
use Rattle.sip_message.proofs.UpToLaws.{before_first, before_front, before_is, before_only, front_is, front_of, front_only}
use Rattle.std.proofs.lemmas.Bool.{and_parts}

-- ---- what is in the form is found

bare_byte : (b : ℕ) → not (b == 34 || b == 92) ≡ true → after Inside b ≡ Inside
bare_byte b h =
    let q : (b == 34) ≡ false = grind (arith, nat_tests) in
    let s : (b == 92) ≡ false = grind (arith, nat_tests) in
    rw (s, q) refl

quotes_pass : (quotes : List Quote) (more : List ℕ) → list_all is_quote quotes ≡ true → bracket_from Inside (quotes_text quotes ++ 34 ∷ more) ≡ bracket_from Outside more
quotes_pass [] more h = refl
quotes_pass (bare b ∷ others) more h =
    let t = and_parts (not (b == 34 || b == 92)) (list_all is_quote others) h in
    ap (λ (q : Quoting). bracket_from q (quotes_text others ++ 34 ∷ more)) (bare_byte b t.0) ∙ quotes_pass others more t.1
quotes_pass (escaped b ∷ others) more h = quotes_pass others more h

plain_byte : (b : ℕ) (more : List ℕ) → not (b == 34 || b == 60) ≡ true → bracket_from Outside (b ∷ more) ≡ bracket_from Outside more
plain_byte b more h =
    let q : (b == 34) ≡ false = grind (arith, nat_tests) in
    let s : (b == 60) ≡ false = grind (arith, nat_tests) in
    rw (s, q) refl

pieces_pass : (pieces : List Piece) (rest : List ℕ) → list_all is_piece pieces ≡ true → bracket_from Outside (pieces_text pieces ++ 60 ∷ rest) ≡ Some rest
pieces_pass [] rest h = refl
pieces_pass (plain b ∷ others) rest h =
    let t = and_parts (not (b == 34 || b == 60)) (list_all is_piece others) h in
    plain_byte b (pieces_text others ++ 60 ∷ rest) t.0 ∙ pieces_pass others rest t.1
pieces_pass (quoted quotes ∷ others) rest h =
    let t = and_parts (list_all is_quote quotes) (list_all is_piece others) h in
    ap (bracket_from Inside) (append_assoc (quotes_text quotes) (34 ∷ pieces_text others) (60 ∷ rest))
    ∙ quotes_pass quotes (pieces_text others ++ 60 ∷ rest) t.0
    ∙ pieces_pass others rest t.1

pub bracket_only : (value rest : List ℕ) → IsBracketed value rest → behind_bracket value ≡ Some rest
bracket_only value rest i = ap behind_bracket i.text ∙ pieces_pass i.pieces rest i.pieces_ok

-- ---- what is found is in the form

record InQuotes (text rest : List ℕ) : Type 0 where
  quotes : List Quote
  quotes_ok : list_all is_quote quotes ≡ true
  behind : List ℕ
  behind_ok : IsBracketed behind rest
  text_is : text ≡ quotes_text quotes ++ 34 ∷ behind

abbrev Found : Quoting → List ℕ → List ℕ → Type 0
Found Outside text rest = IsBracketed text rest
Found Inside text rest = InQuotes text rest
Found Escaped text rest = (b : ℕ) × (more : List ℕ) × (text ≡ b ∷ more) × InQuotes more rest

close : (more rest : List ℕ) → InQuotes more rest → IsBracketed (34 ∷ more) rest
close more rest q =
    let b = q.behind_ok in
    record {
      pieces = quoted q.quotes ∷ b.pieces;
      pieces_ok = rw (q.quotes_ok, b.pieces_ok) refl;
      text = ap (λ x. 34 ∷ x) (q.text_is ∙ ap (λ x. quotes_text q.quotes ++ 34 ∷ x) b.text ∙ sym (append_assoc (quotes_text q.quotes) (34 ∷ pieces_text b.pieces) (60 ∷ rest)));
    }

outside_by : (b : ℕ) (more rest : List ℕ) (s t : Bool) → (b == 60) ≡ s → (b == 34) ≡ t → ((q : Quoting) → bracket_from q more ≡ Some rest → Found q more rest)
    → cond s (Some more) (bracket_from (cond t Inside Outside) more) ≡ Some rest → IsBracketed (b ∷ more) rest
outside_by b more rest true t es et below h =
    let e : b ≡ 60 = grind (arith, nat_tests) in
    record { pieces = []; pieces_ok = refl; text = ap (λ x. x ∷ more) e ∙ ap (λ x. 60 ∷ x) (same_Some more rest h) }
outside_by b more rest false true es et below h =
    let e : b ≡ 34 = grind (arith, nat_tests) in
    let k = close more rest (below Inside h) in
    record { pieces = k.pieces; pieces_ok = k.pieces_ok; text = ap (λ x. x ∷ more) e ∙ k.text }
outside_by b more rest false false es et below h =
    let k = below Outside h in
    record { pieces = plain b ∷ k.pieces; pieces_ok = rw (es, et) k.pieces_ok; text = ap (λ x. b ∷ x) k.text }

inside_by : (b : ℕ) (more rest : List ℕ) (s t : Bool) → (b == 92) ≡ s → (b == 34) ≡ t → ((q : Quoting) → bracket_from q more ≡ Some rest → Found q more rest)
    → bracket_from (cond s Escaped (cond t Outside Inside)) more ≡ Some rest → InQuotes (b ∷ more) rest
inside_by b more rest true t es et below h =
    let e : b ≡ 92 = grind (arith, nat_tests) in
    let k = below Escaped h in
    let q = k.3 in
    record {
      quotes = escaped k.0 ∷ q.quotes;
      quotes_ok = q.quotes_ok;
      behind = q.behind;
      behind_ok = q.behind_ok;
      text_is = ap (λ x. x ∷ more) e ∙ ap (λ x. 92 ∷ x) (k.2 ∙ ap (λ x. k.0 ∷ x) q.text_is);
    }
inside_by b more rest false true es et below h =
    let e : b ≡ 34 = grind (arith, nat_tests) in
    record { quotes = []; quotes_ok = refl; behind = more; behind_ok = below Outside h; text_is = ap (λ x. x ∷ more) e }
inside_by b more rest false false es et below h =
    let q = below Inside h in
    record { quotes = bare b ∷ q.quotes; quotes_ok = rw (et, es) q.quotes_ok; behind = q.behind; behind_ok = q.behind_ok; text_is = ap (λ x. b ∷ x) q.text_is }

found_by : (q : Quoting) (b : ℕ) (more rest : List ℕ) → ((r : Quoting) → bracket_from r more ≡ Some rest → Found r more rest)
    → bracket_from q (b ∷ more) ≡ Some rest → Found q (b ∷ more) rest
found_by Outside b more rest below h = outside_by b more rest (b == 60) (b == 34) refl refl below h
found_by Inside b more rest below h = inside_by b more rest (b == 92) (b == 34) refl refl below h
found_by Escaped b more rest below h = (b, more, refl, below Inside h)

none_at_end : (q : Quoting) (rest : List ℕ) → bracket_from q [] ≡ Some rest → Found q [] rest
none_at_end Outside rest h = absurd cc
none_at_end Inside rest h = absurd cc
none_at_end Escaped rest h = absurd cc

found : (text rest : List ℕ) (q : Quoting) → bracket_from q text ≡ Some rest → Found q text rest
found [] rest q h = none_at_end q rest h
found (b ∷ more) rest q h = found_by q b more rest (found more rest) h

pub bracket_found : (value rest : List ℕ) → behind_bracket value ≡ Some rest → IsBracketed value rest
bracket_found value rest h = found value rest Outside h

-- ---- the address

-- without brackets the value up to its first `;`, `,`, space or tab
value_front : (value : List ℕ) → before 9 (before 32 (before 44 (before 59 value))) ≡ front_of ends_address value
value_front value =
    let one = before_first 59 value in
    let two = before_front (λ b. b == 59) 44 value (before 59 value) one in
    let three = before_front (λ b. b == 59 || b == 44) 32 value (before 44 (before 59 value)) two in
    before_front (λ b. b == 59 || b == 44 || b == 32) 9 value (before 32 (before 44 (before 59 value))) three

address_by : (value : List ℕ) (k : Option (List ℕ)) → behind_bracket value ≡ k
    → IsAddress value (option_map_or (before 62) k (before 9 (before 32 (before 44 (before 59 value)))))
address_by value (Some rest) e = in_brackets rest (bracket_found value rest e) (before_is 62 rest)
address_by value None e =
    without (λ rest i. let s = bracket_only value rest i in absurd cc) (subst (UpTo ends_address value) (sym (value_front value)) (front_is ends_address value))

pub address_is : (value : List ℕ) → IsAddress value (address value)
address_is value = address_by value (behind_bracket value) refl

none_found : (value : List ℕ) (k : Option (List ℕ)) → behind_bracket value ≡ k → ((rest : List ℕ) → IsBracketed value rest → ⊥) → ◌≡◌ {A = Option (List ℕ)} (behind_bracket value) None
none_found value None e none = e
none_found value (Some rest) e none = absurd (none rest (bracket_found value rest e))

-- and there is no other
pub address_only : (value uri : List ℕ) → IsAddress value uri → uri ≡ address value
address_only value uri (in_brackets rest i front) = let s = bracket_only value rest i in before_only 62 rest uri front ∙ rw s refl
address_only value uri (without none front) =
    let s : ◌≡◌ {A = Option (List ℕ)} (behind_bracket value) None = none_found value (behind_bracket value) refl none in
    front_only ends_address value uri front ∙ sym (value_front value) ∙ rw s refl
