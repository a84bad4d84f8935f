-- A text is read as an answers file's rows exactly if its lines say these rows, and none signs what one before it signs.
use Rattle.std.proofs.Common.{◌≡◌, ℕ, Bool, true, false, cond, List, [], ◌∷◌, map, Option, Some, None, option_and_then, IfSome, Ok, Err, ◌↔◌, refl, sym, ap, ◌∙◌, subst}
use Rattle.std.specs.Option.{option_map}
use Rattle.std.specs.Str.{bytes_eq}
use Rattle.std.specs.Cmp.Lexicographic.{bytes_decides}
use Rattle.std.specs.Prelude.{codes}
use Rattle.text_grammar.specs.FileLines.{text_lines}
use Rattle.text_grammar.specs.LineWords.{line_words}
use Rattle.text_grammar.proofs.ReadingLaws.{refuses_found, refuses_again}
use Rattle.stir_outside.specs.KeyName.{is_name}
use Rattle.stir_outside.specs.AnswersText.{bytes_of, confirm_of, sign_of, row_of_words, row_of, signature_in, signs, is_repeated, add_row, answer_rows, SignsOnce, AnswersText, FirstBad}
use Rattle.stir_outside.specs.declared.answers.rows.Row.{Row}
use Rattle.stir_outside.specs.declared.answers.rows.Row.TheVariants.{Sign}
use Rattle.text_grammar.proofs.RowLaws.{rows_found, rows_again}

pub answers_are : (text : List ℕ) (rows : List Row) → (answer_rows text ≡ Ok rows) ↔ AnswersText text rows
unfolding answer_rows
answers_are text rows = (
  λ h. let s = rows_found row_of is_repeated (text_lines text) [] rows h in record { lines = s.say ∙ ap (map Some) (sym s.all); once = let P : List Row → Type 0 = λ rs. SignsOnce [] rs in subst P (sym s.all) s.fits },
  λ t. rows_again row_of is_repeated (text_lines text) [] rows t.lines t.once,
)

pub first_bad_is : (text : List ℕ) (number : ℕ) → (answer_rows text ≡ Err number) ↔ FirstBad text number
unfolding answer_rows
first_bad_is text number = (λ h. refuses_found add_row (text_lines text) [] number h, λ r. refuses_again add_row (text_lines text) [] number r)

-- ---- a text that is no name of a key has no signature

-- the row has nothing for the text
abbrev Without : List ℕ → Row → Type 0
Without name row = (digest : List ℕ) → signature_in name digest row ≡ None

other_name : (own name : List ℕ) (t : Bool) → bytes_eq own name ≡ t → is_name own ≡ true → is_name name ≡ false → bytes_eq own name ≡ false
other_name own name true e is other = let same = (bytes_decides own name).0 e in let both : true ≡ false = sym is ∙ ap is_name same ∙ other in absurd (cc)
other_name own name false e is other = e

sign_without : (own d made name : List ℕ) → is_name own ≡ true → is_name name ≡ false → Without name (Sign (record { name = own; digest = d }) made)
sign_without own d made name is other digest = rw (other_name own name (bytes_eq own name) refl is other) refl

then_by : {X : Type 0} (P : Row → Type 0) (o : Option X) (f : X → Option Row) → ((x : X) → IfSome (f x) P) → IfSome (option_and_then f o) P
then_by P None f h = tt
then_by P (Some x) f h = h x

map_by : {X : Type 0} (P : Row → Type 0) (o : Option X) (f : X → Row) → ((x : X) → P (f x)) → IfSome (option_map f o) P
map_by P None f h = tt
map_by P (Some x) f h = h x

choose : (P : Row → Type 0) (t : Bool) (a b : Option Row) → IfSome a P → IfSome b P → IfSome (cond t a b) P
choose P true a b x y = x
choose P false a b x y = y

named_by : (P : Row → Type 0) (own : List ℕ) (t : Bool) (f : List ℕ → Option Row) → is_name own ≡ t → (is_name own ≡ true → IfSome (f own) P) → IfSome (option_and_then f (cond t (Some own) None)) P
named_by P own true f e h = h e
named_by P own false f e h = tt

sign_of_without : (own digest signature name : List ℕ) → is_name name ≡ false → IfSome (sign_of own digest signature) (Without name)
sign_of_without own digest signature name other =
    named_by (Without name) own (is_name own) _ refl (λ is.
    then_by (Without name) (bytes_of 32 digest) _ (λ d. map_by (Without name) (bytes_of 64 signature) _ (λ s. sign_without own d s name is other)))

confirm_of_without : (key digest signature name : List ℕ) → IfSome (confirm_of key digest signature) (Without name)
confirm_of_without key digest signature name =
    then_by (Without name) _ _ (λ k. then_by (Without name) (bytes_of 32 digest) _ (λ d. map_by (Without name) (bytes_of 64 signature) _ (λ s digest. refl)))

words_without : (words : List (List ℕ)) (name : List ℕ) → is_name name ≡ false → IfSome (row_of_words words) (Without name)
words_without [] name other = tt
words_without (a ∷ []) name other = tt
words_without (a ∷ b ∷ []) name other = tt
words_without (a ∷ b ∷ c ∷ []) name other = tt
words_without (kind ∷ subject ∷ digest ∷ signature ∷ []) name other =
    choose (Without name) (bytes_eq kind (codes "confirm")) _ _ (confirm_of_without subject digest signature name)
    (choose (Without name) (bytes_eq kind (codes "sign")) _ None (sign_of_without subject digest signature name other) tt)
words_without (a ∷ b ∷ c ∷ d ∷ e ∷ more) name other = tt

line_without : (line name : List ℕ) → is_name name ≡ false → IfSome (row_of line) (Without name)
unfolding row_of
line_without line name other = then_by (Without name) (line_words line) row_of_words (λ words. words_without words name other)

here_without : (name : List ℕ) (o : Option Row) (row : Row) → o ≡ Some row → IfSome o (Without name) → Without name row
here_without name None row e w = absurd (cc)
here_without name (Some own) row e w = let same : own ≡ row = cc in let P : Row → Type 0 = Without name in subst P same w

rows_without : (lines : List (ℕ × List ℕ)) (rows : List Row) (name digest : List ℕ) → is_name name ≡ false → map (λ line. row_of line.1) lines ≡ map Some rows → signs rows name digest ≡ None
rows_without lines [] name digest other h = refl
rows_without [] (row ∷ rows) name digest other h = absurd cc
rows_without (line ∷ lines) (row ∷ rows) name digest other h =
    let here : row_of line.1 ≡ Some row = cc in
    let more : map (λ line. row_of line.1) lines ≡ map Some rows = cc in
    rw (here_without name (row_of line.1) row here (line_without line.1 name other) digest) (rows_without lines rows name digest other more)

pub none_for_other : (text : List ℕ) (rows : List Row) (name digest : List ℕ) → answer_rows text ≡ Ok rows → is_name name ≡ false → signs rows name digest ≡ None
none_for_other text rows name digest h other = rows_without (text_lines text) rows name digest other ((answers_are text rows).0 h).lines
