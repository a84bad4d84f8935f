-- What explains a call can be read back.
use Rattle.std.proofs.Common.{◌≡◌, ◌⊎◌, inl, inr, ℕ, zero, suc, ◌<◌, ◌^◌, nat_lt, true, false, List, [], ◌∷◌, ◌++◌, length, take, get_or, codes, append_assoc, refl, sym, ◌∙◌, ap, arith}
use Rattle.std.specs.Char.{is_ascii_digit}
use Rattle.std.specs.Fmt.{decimal}
use Rattle.std.specs.List.{list_all, prefix_len}
use Rattle.std.proofs.lemmas.Bool.{and_parts}
use Rattle.std.proofs.lemmas.Bool.Decides.{nat_tests}
use Rattle.std.proofs.lemmas.List.{append-nil, append_cancel_left, append_cancel_right}
use Rattle.text_grammar.proofs.DecimalLaws.{number_written}
use Rattle.verify_rules.specs.Code.{HasCode, code_of}
use Rattle.verify_rules.specs.declared.refusal.Place.{Place}
use Rattle.verify_rules.specs.declared.refusal.Refusal.{Refusal}
use Rattle.call_judging.specs.PlaceText.{PlaceFits, place_text}
use Rattle.call_judging.specs.RuleNumbers.{numbers_before}
use Rattle.call_judging.specs.declared.rule_numbers.TheConstants.{RULES, FIRST_ON_FILES, FIRST_ON_SIGNATURES}
use Rattle.call_judging.specs.declared.finding.Finding.{Finding}
use Rattle.call_judging.specs.declared.finding.Finding.TheVariants.{Refused, Unread, Unasked, Passes}
use Rattle.call_judging.proofs.TextBack.{code_fits, first_digit, no_text, refusal_is, same_place, same_then}
use Rattle.call_judging.specs.Explain.{broken_line, explained, ok_line, ok_lines, unread_line}
use Rattle.call_judging.specs.ToldApart.{AreToldAlike, FindingFits, IsBrokenLine, line_of}

-- ---- the words of a line

pub met_words : (number rule : ℕ) → ok_line number rule ≡ line_of (decimal number ∷ decimal rule ∷ codes "ok" ∷ [])
unfolding ok_line
met_words number rule =
    ap (λ (x : List ℕ). decimal number ++ 32 ∷ x) (sym (append_assoc (decimal rule) (codes " ok") (codes "\n")))
    ∙ sym (append_assoc (decimal number) (codes " " ++ (decimal rule ++ codes " ok")) (codes "\n"))

broken_words : (number : ℕ) (refused : Refusal)
    → broken_line number refused ≡ line_of (decimal number ∷ decimal refused.rule ∷ decimal (code_of refused.rule) ∷ place_text refused.place ∷ [])
unfolding broken_line
broken_words number refused =
    ap (λ (x : List ℕ). decimal number ++ 32 ∷ x)
    (ap (λ (x : List ℕ). decimal refused.rule ++ 32 ∷ x) (sym (append_assoc (decimal (code_of refused.rule)) (codes " " ++ place_text refused.place) (codes "\n")))
    ∙ sym (append_assoc (decimal refused.rule) (codes " " ++ (decimal (code_of refused.rule) ++ (codes " " ++ place_text refused.place))) (codes "\n")))
    ∙ sym (append_assoc (decimal number) (codes " " ++ (decimal refused.rule ++ (codes " " ++ (decimal (code_of refused.rule) ++ (codes " " ++ place_text refused.place))))) (codes "\n"))

pub broken_is : ((rule : ℕ) → HasCode rule (code_of rule)) → (number : ℕ) (refused : Refusal) → IsBrokenLine number refused (broken_line number refused)
broken_is coded number refused = record { code = code_of refused.rule; has_code = coded refused.rule; line_is = broken_words number refused }

pub unread_words : (number : ℕ) (bad : Place) → unread_line number bad ≡ line_of (decimal number ∷ codes "10" ∷ codes "unread" ∷ place_text bad ∷ [])
unfolding unread_line
unread_words number bad = sym (append_assoc (decimal number) (codes " 10 unread " ++ place_text bad) (codes "\n"))

-- ---- lines of rules that are met, and what comes after them

ok_then : (m r : ℕ) (rest : List ℕ) → ok_line m r ++ rest ≡ decimal m ++ 32 ∷ (decimal r ++ 32 ∷ (codes "ok\n" ++ rest))
unfolding ok_line
ok_then m r rest =
    append_assoc (decimal m) (codes " " ++ (decimal r ++ codes " ok\n")) rest
    ∙ ap (λ (x : List ℕ). decimal m ++ 32 ∷ x) (append_assoc (decimal r) (codes " ok\n") rest)

-- a line that isn't one of a rule that is met
record IsOther (text : List ℕ) : Type 0 where
  number : ℕ
  rule : ℕ
  tail : List ℕ
  number_fits : number < 2 ^ 64
  rule_fits : rule < 2 ^ 64
  text_is : text ≡ decimal number ++ 32 ∷ (decimal rule ++ 32 ∷ tail)
  other : get_or tail 0 0 ≡ 111 → ⊥

abbrev IsEnd : List ℕ → Type 0
IsEnd text = (text ≡ []) ⊎ IsOther text

-- the numbers are below 2 to the power of 8
abbrev AreBytes : List ℕ → Type 0
AreBytes [] = Unit {0}
AreBytes (rule ∷ others) = (rule < 256) × AreBytes others

no_end : (m r : ℕ) (rest end : List ℕ) → m < 2 ^ 64 → r < 2 ^ 64 → IsEnd end → ok_line m r ++ rest ≡ end → ⊥
no_end m r rest end low small (inl none) same = no_text (decimal m) 32 (decimal r ++ 32 ∷ (codes "ok\n" ++ rest)) (sym none ∙ sym same ∙ ok_then m r rest)
no_end m r rest end low small (inr line) same =
    let number = same_then 32 m line.number (decimal r ++ 32 ∷ (codes "ok\n" ++ rest)) (decimal line.rule ++ 32 ∷ line.tail) refl low line.number_fits
    (sym (ok_then m r rest) ∙ same ∙ line.text_is) in
    let rule = same_then 32 r line.rule (codes "ok\n" ++ rest) line.tail refl small line.rule_fits number.behind in
    line.other (ap (λ (x : List ℕ). get_or x 0 0) (sym rule.behind))

-- the line of a rule that is met, and what comes after it
record BothMet (r t : ℕ) (rest others : List ℕ) : Type 0 where
  rule : r ≡ t
  behind : rest ≡ others

both_met : (m n r t : ℕ) (rest others : List ℕ) → m < 2 ^ 64 → n < 2 ^ 64 → r < 2 ^ 64 → t < 2 ^ 64 → ok_line m r ++ rest ≡ ok_line n t ++ others → BothMet r t rest others
both_met m n r t rest others low high small narrow same =
    let number = same_then 32 m n (decimal r ++ 32 ∷ (codes "ok\n" ++ rest)) (decimal t ++ 32 ∷ (codes "ok\n" ++ others)) refl low high
    (sym (ok_then m r rest) ∙ same ∙ ok_then n t others) in
    let rule = same_then 32 r t (codes "ok\n" ++ rest) (codes "ok\n" ++ others) refl small narrow number.behind in
    record { rule = rule.number; behind = append_cancel_left (codes "ok\n") rest others rule.behind }

same_lines : (m n : ℕ) (a b e f : List ℕ) → m < 4294967296 → n < 4294967296 → AreBytes a → AreBytes b → IsEnd e → IsEnd f → ok_lines m a ++ e ≡ ok_lines n b ++ f
    → (a ≡ b) × (e ≡ f)
unfolding ok_lines
same_lines m n [] [] e f low high left right ends others same = (refl, same)
same_lines m n [] (t ∷ b) e f low high left right ends others same =
    absurd (no_end n t (ok_lines n b ++ f) e (omega (arith, high)) (omega (arith, right.0)) ends (sym (append_assoc (ok_line n t) (ok_lines n b) f) ∙ sym same))
same_lines m n (r ∷ a) [] e f low high left right ends others same =
    absurd (no_end m r (ok_lines m a ++ e) f (omega (arith, low)) (omega (arith, left.0)) others (sym (append_assoc (ok_line m r) (ok_lines m a) e) ∙ same))
same_lines m n (r ∷ a) (t ∷ b) e f low high left right ends others same =
    let here = both_met m n r t (ok_lines m a ++ e) (ok_lines n b ++ f) (omega (arith, low)) (omega (arith, high)) (omega (arith, left.0)) (omega (arith, right.0))
    (sym (append_assoc (ok_line m r) (ok_lines m a) e) ∙ same ∙ append_assoc (ok_line n t) (ok_lines n b) f) in
    let more = same_lines m n a b e f low high left.1 right.1 ends others here.behind in
    (ap (λ n. n ∷ a) here.rule ∙ ap (λ (x : List ℕ). t ∷ x) more.0, more.1)

-- ---- what comes after

abbrev behind_code : Refusal → List ℕ
behind_code refused = decimal (code_of refused.rule) ++ (codes " " ++ (place_text refused.place ++ codes "\n"))

abbrev behind_ten : Place → List ℕ
behind_ten bad = codes "unread " ++ (place_text bad ++ codes "\n")

broken_text_is : (number : ℕ) (refused : Refusal) → broken_line number refused ≡ decimal number ++ 32 ∷ (decimal refused.rule ++ 32 ∷ behind_code refused)
unfolding broken_line
broken_text_is number refused = refl

ten : codes "10" ≡ decimal 10
ten = number_written 10 (codes "10") 10 (omega arith) refl

unread_text_is : (number : ℕ) (bad : Place) → unread_line number bad ≡ decimal number ++ 32 ∷ (decimal 10 ++ 32 ∷ behind_ten bad)
unfolding unread_line
unread_text_is number bad = ap (λ (x : List ℕ). decimal number ++ 32 ∷ (x ++ 32 ∷ behind_ten bad)) ten

false_is_not_true : false ≡ true → ⊥
false_is_not_true e = cc

no_digit : (n byte : ℕ) (rest : List ℕ) → n < 2 ^ 64 → is_ascii_digit byte ≡ false → get_or (decimal n ++ rest) 0 0 ≡ byte → ⊥
no_digit n byte rest low none is = false_is_not_true (sym none ∙ sym (ap is_ascii_digit is) ∙ first_digit n rest low)

broken_end : (number : ℕ) (refused : Refusal) → number < 4294967296 → refused.rule < 256 → IsOther (broken_line number refused)
broken_end number refused low small = record {
  number = number;
  rule = refused.rule;
  tail = behind_code refused;
  number_fits = omega arith;
  rule_fits = omega arith;
  text_is = broken_text_is number refused;
  other = no_digit (code_of refused.rule) 111 (codes " " ++ (place_text refused.place ++ codes "\n")) (code_fits refused.rule) refl;
}

unread_end : (number : ℕ) (bad : Place) → number < 4294967296 → IsOther (unread_line number bad)
unread_end number bad low = record {
  number = number;
  rule = 10;
  tail = behind_ten bad;
  number_fits = omega arith;
  rule_fits = omega arith;
  text_is = unread_text_is number bad;
  other = λ (is : 117 ≡ 111). omega (arith, is);
}

-- the rules whose lines come first
abbrev met_in : Finding → List ℕ
met_in (Refused refused) = numbers_before refused.rule
met_in (Unread bad) = numbers_before FIRST_ON_FILES
met_in (Unasked bad) = numbers_before FIRST_ON_SIGNATURES
met_in (Passes pass) = RULES

abbrev end_of : ℕ → Finding → List ℕ
end_of number (Refused refused) = broken_line number refused
end_of number (Unread bad) = unread_line number bad
end_of number (Unasked bad) = []
end_of number (Passes pass) = []

end_is : (number : ℕ) (finding : Finding) → number < 4294967296 → FindingFits finding → IsEnd (end_of number finding)
end_is number (Refused refused) low fits = inr (broken_end number refused low fits.0)
end_is number (Unread bad) low fits = inr (unread_end number bad low)
end_is number (Unasked bad) low fits = inl refl
end_is number (Passes pass) low fits = inl refl

bytes_by : (numbers : List ℕ) → list_all (λ n. nat_lt n 256) numbers ≡ true → AreBytes numbers
bytes_by [] all = tt
bytes_by (rule ∷ others) all =
    let parts = and_parts (nat_lt rule 256) (list_all (λ n. nat_lt n 256) others) all in
    let here = parts.0 in
    (grind (arith, nat_tests), bytes_by others parts.1)

first_bytes : (count : ℕ) (numbers : List ℕ) → AreBytes numbers → AreBytes (take count numbers)
first_bytes zero numbers are = tt
first_bytes (suc count) [] are = tt
first_bytes (suc count) (rule ∷ others) are = (are.0, first_bytes count others are.1)

rules_bytes : AreBytes RULES
rules_bytes = bytes_by RULES refl

met_bytes : (finding : Finding) → AreBytes (met_in finding)
met_bytes (Refused refused) = first_bytes (prefix_len (λ n. nat_lt n refused.rule) RULES) RULES rules_bytes
met_bytes (Unread bad) = first_bytes 9 RULES rules_bytes
met_bytes (Unasked bad) = first_bytes 14 RULES rules_bytes
met_bytes (Passes pass) = rules_bytes

in_two : (number : ℕ) (finding : Finding) → explained number finding ≡ ok_lines number (met_in finding) ++ end_of number finding
in_two number (Refused refused) = refl
in_two number (Unread bad) = refl
in_two number (Unasked bad) = sym (append-nil (ok_lines number (numbers_before FIRST_ON_SIGNATURES)))
in_two number (Passes pass) = sym (append-nil (ok_lines number RULES))

-- ---- the number

abbrev Opens : ℕ → List ℕ → Type 0
Opens number text = (rest : List ℕ) × (text ≡ decimal number ++ 32 ∷ rest)

opens_lines : (number : ℕ) (numbers end : List ℕ) → Opens number end → Opens number (ok_lines number numbers ++ end)
unfolding ok_lines
opens_lines number [] end opens = opens
opens_lines number (rule ∷ others) end opens = (
  decimal rule ++ 32 ∷ (codes "ok\n" ++ (ok_lines number others ++ end)),
  append_assoc (ok_line number rule) (ok_lines number others) end ∙ ok_then number rule (ok_lines number others ++ end),
)

opens_met : (number rule : ℕ) (others : List ℕ) → Opens number (ok_lines number (rule ∷ others))
unfolding ok_lines
opens_met number rule others = (decimal rule ++ 32 ∷ (codes "ok\n" ++ ok_lines number others), ok_then number rule (ok_lines number others))

opens : (number : ℕ) (finding : Finding) → Opens number (explained number finding)
opens number (Refused refused) =
    opens_lines number (numbers_before refused.rule) (broken_line number refused) (decimal refused.rule ++ 32 ∷ behind_code refused, broken_text_is number refused)
opens number (Unread bad) = opens_lines number (numbers_before FIRST_ON_FILES) (unread_line number bad) (decimal 10 ++ 32 ∷ behind_ten bad, unread_text_is number bad)
opens number (Unasked bad) = opens_met number 1 _
opens number (Passes pass) = opens_met number 1 _

number_by : (m n : ℕ) (a b : List ℕ) → m < 4294967296 → n < 4294967296 → Opens m a → Opens n b → a ≡ b → m ≡ n
number_by m n a b low high (r, left) (s, right) same = (same_then 32 m n r s refl (omega arith) (omega arith) (sym left ∙ same ∙ right)).number

-- ---- what is found

same_broken : (m n : ℕ) (a b : Refusal) → m < 4294967296 → n < 4294967296 → a.rule < 256 → b.rule < 256 → PlaceFits a.place → PlaceFits b.place
    → broken_line m a ≡ broken_line n b → a ≡ b
same_broken m n a b low high small narrow left right same =
    let number = same_then 32 m n (decimal a.rule ++ 32 ∷ behind_code a) (decimal b.rule ++ 32 ∷ behind_code b) refl (omega arith) (omega arith)
    (sym (broken_text_is m a) ∙ same ∙ broken_text_is n b) in
    let rule = same_then 32 a.rule b.rule (behind_code a) (behind_code b) refl (omega arith) (omega arith) number.behind in
    let code = same_then 32 (code_of a.rule) (code_of b.rule) (place_text a.place ++ codes "\n") (place_text b.place ++ codes "\n") refl (code_fits a.rule) (code_fits b.rule) rule.behind in
    refusal_is a b rule.number (same_place a.place b.place left right (append_cancel_right (place_text a.place) (place_text b.place) (codes "\n") code.behind))

same_unread_line : (m n : ℕ) (a b : Place) → m < 4294967296 → n < 4294967296 → PlaceFits a → PlaceFits b → unread_line m a ≡ unread_line n b → a ≡ b
same_unread_line m n a b low high left right same =
    let number = same_then 32 m n (decimal 10 ++ 32 ∷ behind_ten a) (decimal 10 ++ 32 ∷ behind_ten b) refl (omega arith) (omega arith)
    (sym (unread_text_is m a) ∙ same ∙ unread_text_is n b) in
    let ten = same_then 32 10 10 (behind_ten a) (behind_ten b) refl (omega arith) (omega arith) number.behind in
    same_place a b left right
    (append_cancel_right (place_text a) (place_text b) (codes "\n") (append_cancel_left (codes "unread ") (place_text a ++ codes "\n") (place_text b ++ codes "\n") ten.behind))

broken_not_unread : (m n : ℕ) (a : Refusal) (b : Place) → m < 4294967296 → n < 4294967296 → a.rule < 256 → broken_line m a ≡ unread_line n b → ⊥
broken_not_unread m n a b low high small same =
    let number = same_then 32 m n (decimal a.rule ++ 32 ∷ behind_code a) (decimal 10 ++ 32 ∷ behind_ten b) refl (omega arith) (omega arith)
    (sym (broken_text_is m a) ∙ same ∙ unread_text_is n b) in
    let rule = same_then 32 a.rule 10 (behind_code a) (behind_ten b) refl (omega arith) (omega arith) number.behind in
    no_digit (code_of a.rule) 117 (codes " " ++ (place_text a.place ++ codes "\n")) (code_fits a.rule) refl (ap (λ (x : List ℕ). get_or x 0 0) rule.behind)

some_broken : (number : ℕ) (refused : Refusal) → [] ≡ broken_line number refused → ⊥
some_broken number refused same = no_text (decimal number) 32 (decimal refused.rule ++ 32 ∷ behind_code refused) (same ∙ broken_text_is number refused)

some_unread : (number : ℕ) (bad : Place) → [] ≡ unread_line number bad → ⊥
some_unread number bad same = no_text (decimal number) 32 (decimal 10 ++ 32 ∷ behind_ten bad) (same ∙ unread_text_is number bad)

-- only one of the two has more than 14 numbers
not_all : numbers_before FIRST_ON_SIGNATURES ≡ RULES → ⊥
not_all same = false_is_not_true (ap (λ (x : List ℕ). nat_lt 14 (length x)) same)

alike_by : (m n : ℕ) (a b : Finding) → m < 4294967296 → n < 4294967296 → FindingFits a → FindingFits b → met_in a ≡ met_in b → end_of m a ≡ end_of n b → AreToldAlike a b
alike_by m n (Refused a) (Refused b) low high left right met ends = same_broken m n a b low high left.0 right.0 left.1 right.1 ends
alike_by m n (Refused a) (Unread b) low high left right met ends = broken_not_unread m n a b low high left.0 ends
alike_by m n (Refused a) (Unasked b) low high left right met ends = some_broken m a (sym ends)
alike_by m n (Refused a) (Passes b) low high left right met ends = some_broken m a (sym ends)
alike_by m n (Unread a) (Refused b) low high left right met ends = broken_not_unread n m b a high low right.0 (sym ends)
alike_by m n (Unread a) (Unread b) low high left right met ends = same_unread_line m n a b low high left right ends
alike_by m n (Unread a) (Unasked b) low high left right met ends = some_unread m a (sym ends)
alike_by m n (Unread a) (Passes b) low high left right met ends = some_unread m a (sym ends)
alike_by m n (Unasked a) (Refused b) low high left right met ends = some_broken n b ends
alike_by m n (Unasked a) (Unread b) low high left right met ends = some_unread n b ends
alike_by m n (Unasked a) (Unasked b) low high left right met ends = tt
alike_by m n (Unasked a) (Passes b) low high left right met ends = absurd (not_all met)
alike_by m n (Passes a) (Refused b) low high left right met ends = some_broken n b ends
alike_by m n (Passes a) (Unread b) low high left right met ends = some_unread n b ends
alike_by m n (Passes a) (Unasked b) low high left right met ends = absurd (not_all (sym met))
alike_by m n (Passes a) (Passes b) low high left right met ends = tt

pub told_apart : (m n : ℕ) (a b : Finding) → m < 4294967296 → n < 4294967296 → FindingFits a → FindingFits b → explained m a ≡ explained n b → (m ≡ n) × AreToldAlike a b
told_apart m n a b low high left right same =
    let h = same_lines m n (met_in a) (met_in b) (end_of m a) (end_of n b) low high (met_bytes a) (met_bytes b) (end_is m a low left) (end_is n b high right)
    (sym (in_two m a) ∙ same ∙ in_two n b) in
    (number_by m n (explained m a) (explained n b) low high (opens m a) (opens n b) same, alike_by m n a b low high left right h.0 h.1)
