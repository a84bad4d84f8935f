-- The lines of a state end with an LF, and are told apart by it.
use Rattle.std.proofs.Common.{◌≡◌, ℕ, ◌^◌, ◌<◌, ◌≤◌, ◌==◌, true, not, List, [], ◌∷◌, ◌++◌, length, codes, refl, sym, ◌∙◌, ap, arith, append_assoc}
use Rattle.std.specs.Bool.{⊤}
use Rattle.std.specs.Fmt.{decimal}
use Rattle.hex.specs.Hex.{encode_lower}
use Rattle.lists.proofs.Bytes.{all_append}
use Rattle.text_grammar.specs.Cut.{lacks}
use Rattle.text_grammar.proofs.DecimalLaws.{decimal_lacks}
use Rattle.state_text.specs.Lines.{ended_lines}
use Rattle.state_text.specs.Reading.{most_call}
use Rattle.state_text.specs.State.{EachIsEntry, Entry, IsEntry, IsState, StateView}
use Rattle.state_text.specs.StateText.{kept_line, kept_lines, lines_behind, number_line, text_of}
use Rattle.state_text.proofs.EntryLaws.{end_line}
use Rattle.state_text.proofs.LineLaws.{line_taken}
use Rattle.state_text.proofs.RowLaws.{hex_lacks}

pub record IsEnded (line : List ℕ) : Type 0 where
  pub front : List ℕ
  pub one : lacks 10 front ≡ true
  pub is : line ≡ front ++ 10 ∷ []

abbrev pub AllEnded : List (List ℕ) → Type 0
AllEnded [] = ⊤
AllEnded (line ∷ others) = IsEnded line × AllEnded others

pub lines_again : (lines : List (List ℕ)) (rest : List ℕ) → AllEnded lines → ended_lines (text_of lines ++ rest) ≡ lines ++ ended_lines rest
lines_again [] rest a = refl
lines_again (line ∷ others) rest (e, a) =
    let whole : (line ++ text_of others) ++ rest ≡ e.front ++ 10 ∷ (text_of others ++ rest) =
    append_assoc line (text_of others) rest ∙ ap (λ x. x ++ (text_of others ++ rest)) e.is ∙ append_assoc e.front (10 ∷ []) (text_of others ++ rest) in
    ap ended_lines whole ∙ line_taken e.front (text_of others ++ rest) e.one ∙ ap (λ x. x ∷ ended_lines (text_of others ++ rest)) (sym e.is) ∙ ap (λ ls. line ∷ ls) (lines_again others rest a)

both_ended : (xs ys : List (List ℕ)) → AllEnded xs → AllEnded ys → AllEnded (xs ++ ys)
both_ended [] ys a b = b
both_ended (x ∷ xs) ys (e, a) b = (e, both_ended xs ys a b)

number_ended : (name : List ℕ) (n : ℕ) → lacks 10 name ≡ true → n < 2 ^ 64 → IsEnded (number_line name n)
number_ended name n h small = record {
  front = name ++ decimal n;
  one = all_append (λ b. not (b == 10)) name (decimal n) h (decimal_lacks n 10 small refl);
  is = sym (append_assoc name (decimal n) (10 ∷ []));
}

kept_ended : (most : ℕ) (entry : Entry) → most < 2 ^ 64 → IsEntry most entry → IsEnded (kept_line entry)
kept_ended most entry low i =
    let call : lacks 10 (decimal entry.1.call) ≡ true = decimal_lacks entry.1.call 10 (omega (arith, low, i.within)) refl in
    let last : lacks 10 (decimal entry.1.last) ≡ true = decimal_lacks entry.1.last 10 (omega (arith, i.last)) refl in
    let ticket : lacks 10 (encode_lower entry.0) ≡ true = hex_lacks 10 entry.0 refl i.ticket in
    let numbers : lacks 10 (decimal entry.1.call ++ 32 ∷ decimal entry.1.last) ≡ true = all_append (λ b. not (b == 10)) (decimal entry.1.call) (32 ∷ decimal entry.1.last) call last in
    let words : lacks 10 (encode_lower entry.0 ++ 32 ∷ (decimal entry.1.call ++ 32 ∷ decimal entry.1.last)) ≡ true =
    all_append (λ b. not (b == 10)) (encode_lower entry.0) (32 ∷ (decimal entry.1.call ++ 32 ∷ decimal entry.1.last)) ticket numbers in
    record {
      front = codes "kept " ++ (encode_lower entry.0 ++ 32 ∷ (decimal entry.1.call ++ 32 ∷ decimal entry.1.last));
      one = all_append (λ b. not (b == 10)) (codes "kept ") (encode_lower entry.0 ++ 32 ∷ (decimal entry.1.call ++ 32 ∷ decimal entry.1.last)) refl words;
      is = ap (λ x. codes "kept " ++ x) (sym (append_assoc (encode_lower entry.0) (32 ∷ (decimal entry.1.call ++ 32 ∷ decimal entry.1.last)) (10 ∷ [])
          ∙ ap (λ x. encode_lower entry.0 ++ 32 ∷ x) (append_assoc (decimal entry.1.call) (32 ∷ decimal entry.1.last) (10 ∷ []))));
    }

entries_ended : (most : ℕ) (entries : List Entry) → most < 2 ^ 64 → EachIsEntry most entries → AllEnded (kept_lines entries)
entries_ended most [] low a = tt
entries_ended most (e ∷ es) low a = (kept_ended most e low a.0, entries_ended most es low a.1)

pub state_ended : (s : StateView) → IsState s → s.call ≤ most_call → length s.kept ≤ 4294967295 → AllEnded (lines_behind s)
state_ended s i low few = (
  number_ended (codes "window ") s.window refl (omega (arith, i.window)),
  (
    number_ended (codes "call ") s.call refl (omega (arith, low)),
    (
      number_ended (codes "moment ") s.moment refl (omega (arith, i.moment)),
      both_ended (kept_lines s.kept) (end_line (length s.kept) ∷ []) (entries_ended s.call s.kept (omega (arith, low)) i.entries.each)
          (number_ended (codes "end ") (length s.kept) refl (omega (arith, few)), tt),
    ),
  ),
)
