-- The output of a run that hands its state on is a state file: none of the report's lines is the first line of a state.
use Rattle.std.proofs.Common.{◌≡◌, ℕ, zero, suc, ◌+◌, ◌<◌, Bool, true, false, List, [], ◌∷◌, ◌++◌, inr, get_or, refl, sym, ◌∙◌, ap, arith, append_assoc}
use Rattle.std.specs.Prelude.{◌==◌, ◌≢◌, ◌/◌, ◌%◌, ◌&&◌, not, nat_lt, codes, if◌then◌else◌}
use Rattle.std.proofs.lemmas.List.Folds.{list_all-append}
use Rattle.std.proofs.lemmas.Bool.{ne_eqb}
use Rattle.std.proofs.lemmas.Bool.Decides.{nat_tests}
use Rattle.std.specs.Fmt.{decimal, digit_glyph, digits, digits_onto}
use Rattle.std.specs.List.{list_all}
use Rattle.log_rounds.specs.Handed.{OutputIsState}
use Rattle.state_text.specs.StateText.{AreOthers, IsOther, state_text, with_ends}
use Rattle.verify_rules.specs.Code.{code_of}
use Rattle.verify_rules.specs.declared.refusal.Place.{Place}
use Rattle.call_judging.specs.PlaceText.{place_text}
use Rattle.verify_service.specs.Report.{report, report_text, said_text, unasked_rule}
use Rattle.verify_service.specs.declared.outcome.Outcome.{Outcome}
use Rattle.verify_service.specs.declared.outcome.Outcome.TheVariants.{Valid, Refused, Replay, Unread, Unasked}

abbrev no_feed : List ℕ → Bool
no_feed = list_all (λ b. not (b == 10))

feed_free : (xs ys : List ℕ) → no_feed xs ≡ true → no_feed ys ≡ true → no_feed (xs ++ ys) ≡ true
feed_free xs ys x y = list_all-append (λ b. not (b == 10)) xs ys ∙ ap (λ t. t && no_feed ys) x ∙ y

-- ---- numbers

-- a text without LF that begins with a byte below 58, as each digit is
record IsNumeral (text : List ℕ) : Type 0 where
  first : ℕ
  others : List ℕ
  is : text ≡ first ∷ others
  low : first < 58
  one : no_feed text ≡ true

glyph_is : (d : ℕ) → d < 10 → digit_glyph false d ≡ 48 + d
glyph_is d h = let t : nat_lt d 10 ≡ true = grind (arith, nat_tests) in ap (λ b. if b then 48 + d else 87 + d) t

glyph_is_low : (d : ℕ) → d < 10 → digit_glyph false d < 58
glyph_is_low d h = omega (arith, glyph_is d h)

glyph_is_one : (d : ℕ) → d < 10 → not (digit_glyph false d == 10) ≡ true
glyph_is_one d h = ap not (ne_eqb (digit_glyph false d) 10 (λ e. omega (arith, glyph_is d h, e)))

before : (d : ℕ) (text : List ℕ) → d < 10 → no_feed text ≡ true → IsNumeral (digit_glyph false d ∷ text)
before d text low free = record {
  first = digit_glyph false d;
  others = text;
  is = refl;
  low = glyph_is_low d low;
  one = ap (λ t. t && no_feed text) (glyph_is_one d low) ∙ free;
}

either : (t : Bool) (here behind : List ℕ) → IsNumeral here → IsNumeral behind → IsNumeral (if t then here else behind)
either true here behind h b = h
either false here behind h b = b

numeral_onto : (k n : ℕ) (text : List ℕ) → IsNumeral text → IsNumeral (digits_onto k 10 false n text)
numeral_onto zero n text h = h
numeral_onto (suc k) n text h =
    let low : n % 10 < 10 = omega arith in
    let more = before (n % 10) text low h.one in
    either (n / 10 == 0) (digit_glyph false (n % 10) ∷ text) (digits_onto k 10 false (n / 10) (digit_glyph false (n % 10) ∷ text)) more
    (numeral_onto k (n / 10) (digit_glyph false (n % 10) ∷ text) more)

numeral_is : (n : ℕ) → IsNumeral (decimal n)
unfolding digits
numeral_is n =
    let low : n % 10 < 10 = omega arith in
    let one = before (n % 10) [] low refl in
    either (n / 10 == 0) (digit_glyph false (n % 10) ∷ []) (digits_onto 63 10 false (n / 10) (digit_glyph false (n % 10) ∷ [])) one
    (numeral_onto 63 (n / 10) (digit_glyph false (n % 10) ∷ []) one)

-- ---- lines

abbrev line_text : ℕ → Outcome → List ℕ
line_text number outcome = decimal number ++ (codes " " ++ said_text outcome)

place_free : (bad : Place) → no_feed (place_text bad) ≡ true
place_free bad = feed_free (decimal bad.field) (codes "." ++ decimal bad.part) (numeral_is bad.field).one (feed_free (codes ".") (decimal bad.part) refl (numeral_is bad.part).one)

said_free : (outcome : Outcome) → no_feed (said_text outcome) ≡ true
said_free Valid = refl
said_free (Refused refused) =
    let place = feed_free (codes " ") (place_text refused.place) refl (place_free refused.place) in
    let rule = feed_free (decimal refused.rule) (codes " " ++ place_text refused.place) (numeral_is refused.rule).one place in
    let behind = feed_free (codes " ") (decimal refused.rule ++ (codes " " ++ place_text refused.place)) refl rule in
    feed_free (codes "refused ") (decimal (code_of refused.rule) ++ (codes " " ++ (decimal refused.rule ++ (codes " " ++ place_text refused.place)))) refl
    (feed_free (decimal (code_of refused.rule)) (codes " " ++ (decimal refused.rule ++ (codes " " ++ place_text refused.place))) (numeral_is (code_of refused.rule)).one behind)
said_free (Replay winner) = feed_free (codes "replay 438 18 ") (decimal winner) refl (numeral_is winner).one
said_free (Unread bad) = feed_free (codes "unread - 10 ") (place_text bad) refl (place_free bad)
said_free (Unasked bad) =
    let place = feed_free (codes " ") (place_text bad) refl (place_free bad) in
    feed_free (codes "unasked - ") (decimal (unasked_rule bad.part) ++ (codes " " ++ place_text bad)) refl
    (feed_free (decimal (unasked_rule bad.part)) (codes " " ++ place_text bad) (numeral_is (unasked_rule bad.part)).one place)

line_free : (number : ℕ) (outcome : Outcome) → no_feed (line_text number outcome) ≡ true
line_free number outcome =
    feed_free (decimal number) (codes " " ++ said_text outcome) (numeral_is number).one (feed_free (codes " ") (said_text outcome) refl (said_free outcome))

not_head : (text behind : List ℕ) → IsNumeral text → text ++ behind ≢ codes "past 1"
not_head text behind h e =
    let same : h.first ∷ (h.others ++ behind) ≡ codes "past 1" = sym (ap (λ t. t ++ behind) h.is) ∙ e in
    let first : h.first ≡ 112 = ap (λ t. get_or t 0 0) same in
    omega (arith, first, h.low)

line_is_other : (number : ℕ) (outcome : Outcome) → IsOther (line_text number outcome)
line_is_other number outcome = record {
  one = line_free number outcome;
  other = not_head (decimal number) (codes " " ++ said_text outcome) (numeral_is number);
}

abbrev lines : ℕ → List Outcome → List (List ℕ)
lines number [] = []
lines number (outcome ∷ others) = line_text number outcome ∷ lines (suc number) others

lines_are_others : (number : ℕ) (outcomes : List Outcome) → AreOthers (lines number outcomes)
lines_are_others number [] = tt
lines_are_others number (outcome ∷ others) = (line_is_other number outcome, lines_are_others (suc number) others)

line_ended : (number : ℕ) (outcome : Outcome) (behind : List ℕ) → report_text number outcome ++ behind ≡ line_text number outcome ++ 10 ∷ behind
unfolding report_text
line_ended number outcome behind =
    let said = said_text outcome in
    append_assoc (decimal number) (codes " " ++ (said ++ codes "\n")) behind
    ∙ ap (λ t. decimal number ++ 32 ∷ t) (append_assoc said (codes "\n") behind)
    ∙ sym (append_assoc (decimal number) (codes " " ++ said) (10 ∷ behind))

report_is_lines : (number : ℕ) (outcomes : List Outcome) → report number outcomes ≡ with_ends (lines number outcomes)
report_is_lines number [] = refl
report_is_lines number (outcome ∷ others) =
    line_ended number outcome (report (suc number) others) ∙ ap (λ t. line_text number outcome ++ 10 ∷ t) (report_is_lines (suc number) others)

pub output_is_state : OutputIsState
output_is_state number window outcomes state behind rules call = inr (record {
  before = lines number outcomes;
  others = lines_are_others number outcomes;
  text = state_text state;
  state = record { rules = rules; call = call; is = refl };
  behind = behind;
  split = ap (λ t. t ++ (state_text state ++ behind)) (report_is_lines number outcomes);
})
