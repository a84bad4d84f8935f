-- The law of an Identity value, and what it says of its readers.
use Rattle.std.proofs.Common.{◌≡◌, ℕ, ◌-◌, ◌≤◌, true, false, List, [], ◌∷◌, ◌++◌, length, None, Ok, Err, refl, sym, ◌∙◌, ap, arith, codes, map, length-append, subst}
use Rattle.std.specs.Prelude.{◌==◌}
use Rattle.std.proofs.lemmas.Bool.{eq-eqb}
use Rattle.text_grammar.specs.Bytes.{is_blank, lower, is_uri_byte}
use Rattle.text_grammar.specs.Grammar.{Taking, ◌▹◌, Byte, Word, Blanks, Run}
use Rattle.text_grammar.specs.Reading.{Read, byte_at, word_at, skip, run_at}
use Rattle.lists.specs.Steps.{◌>>=◌}
use Rattle.text_grammar.proofs.Laws.{Law, law_reads, law_same, place_of_stops, one_value}
use Rattle.text_grammar.proofs.Pieces.{law_mark, law_word}
use Rattle.text_grammar.proofs.Runs.{law_blanks, law_run}
use Rattle.identity_header.specs.Parts.{Parts, is_digest_byte}
use Rattle.identity_header.specs.FieldText.{Params, InfoText, FieldText, FieldPlace}
use Rattle.identity_header.specs.Read.{placed, read}
use Rattle.identity_header.specs.Reading.{params_up_to, params_at, head_at, field_at}
use Rattle.identity_header.proofs.Heads.{byte_head, blanks_head, no_blank, not_of}
use Rattle.identity_header.proofs.Turns.{same_bound}
use Rattle.identity_header.proofs.States.{Rest}
use Rattle.identity_header.proofs.ParamLaw.{assoc, bind_same, law_rest}

-- before the parameters
abbrev start : List ℕ → List ℕ → Parts
start token info = record { token = token; info = info; alg = None; ppt = None }

params_law : (n : ℕ) (token info : List ℕ) → Law Parts n (params_at (start token info)) (Params token info)
unfolding params_at
params_law n token info =
    law_same Parts n (params_at (start token info)) (Rest (start token info)) (Params token info)
    (λ f t r. record { params = r.params; is_text = r.is_text; token = r.adds.token; info = r.adds.info; alg = r.adds.alg; ppt = r.adds.ppt; no_more = r.adds.no_more })
    (λ f t m. record { params = m.params; is_text = m.is_text; adds = record { token = m.token; info = m.info; alg = m.alg; ppt = m.ppt; no_more = m.no_more } })
    (law_reads Parts n (params_up_to n (start token info)) (params_at (start token info)) (Rest (start token info))
    (λ t h. same_bound (length t) n (start token info) t (omega arith) h) (law_rest n (start token info)))

abbrev behind_word : List ℕ → List ℕ → Read Parts
behind_word token t = byte_at 61 (skip is_blank t) >>= (λ u. byte_at 60 (skip is_blank u)
    >>= (λ v. run_at is_uri_byte 2048 v >>= (λ x. byte_at 62 x.1 >>= params_at (start token x.0))))

abbrev behind_token : List ℕ → List ℕ → Read Parts
behind_token token t = byte_at 59 (skip is_blank t) >>= (λ u. word_at (codes "info") (skip is_blank u) >>= behind_word token)

uri_law : (n : ℕ) (token : List ℕ)
    → Law Parts n (λ v. run_at is_uri_byte 2048 v >>= (λ x. byte_at 62 x.1 >>= params_at (start token x.0)))
    (λ f. Taking (Run is_uri_byte 2048) (λ uri. Byte 62 ▹ Params token uri f))
uri_law n token = law_run Parts n is_uri_byte 2048 97 (λ uri t. byte_at 62 t >>= params_at (start token uri)) (λ uri f. Byte 62 ▹ Params token uri f)
    (omega arith) refl (λ a f x u m. ap is_uri_byte (byte_head 62 x _ u m))
    (λ a h. law_mark Parts n 62 (params_at (start token a)) (Params token a) (params_law n token a))

-- blanks, a byte that isn't blank, and what comes after it
mark_law : (n c : ℕ) (r : List ℕ → Read Parts) (N : Parts → List ℕ → Type 0) → is_blank c ≡ false → Law Parts n r N
    → Law Parts n (λ t. byte_at c (skip is_blank t) >>= r) (λ f. Blanks ▹ Byte c ▹ N f)
mark_law n c r N h l = law_blanks Parts n (λ t. byte_at c t >>= r) (λ f. Byte c ▹ N f)
    (λ f x u m. ap is_blank (byte_head c x _ u m) ∙ h) (law_mark Parts n c r N l)

first_letter : (x : ℕ) (u : List ℕ) (N : List ℕ → Type 0) → (Word (codes "info") ▹ N) (x ∷ u) → (lower x == 105) ≡ true
first_letter x u N m = by_piece m.piece m.is_piece m.split
  where
    by_piece : (a : List ℕ) → map lower a ≡ codes "info" → x ∷ u ≡ a ++ m.rest → (lower x == 105) ≡ true
    by_piece [] h e = absurd (cc)
    by_piece (y ∷ a) h e =
        let same : x ≡ y = cc in
        let head : lower y ≡ 105 = cc in
        eq-eqb (lower x) 105 (ap lower same ∙ head)

word_law : (n : ℕ) (token : List ℕ) → Law Parts n (λ t. word_at (codes "info") (skip is_blank t) >>= behind_word token)
    (λ f. Blanks ▹ Word (codes "info") ▹ Blanks ▹ Byte 61 ▹ Blanks ▹ Byte 60
    ▹ Taking (Run is_uri_byte 2048) (λ uri. Byte 62 ▹ Params token uri f))
word_law n token = law_blanks Parts n (λ t. word_at (codes "info") t >>= behind_word token)
    (λ f. Word (codes "info") ▹ Blanks ▹ Byte 61 ▹ Blanks ▹ Byte 60 ▹ Taking (Run is_uri_byte 2048) (λ uri. Byte 62 ▹ Params token uri f))
    (λ f x u m. no_blank (λ b. lower b == 105) x refl refl (first_letter x u _ m))
    (law_word Parts n (codes "info") (behind_word token) _ refl
    (mark_law n 61 (λ u. byte_at 60 (skip is_blank u) >>= (λ v. run_at is_uri_byte 2048 v >>= (λ x. byte_at 62 x.1 >>= params_at (start token x.0)))) _ refl
    (mark_law n 60 _ _ refl (uri_law n token))))

token_law : (n : ℕ) → Law Parts n (λ t. run_at is_digest_byte 8192 t >>= (λ x. behind_token x.0 x.1)) FieldText
unfolding FieldText
token_law n = law_run Parts n is_digest_byte 8192 97 behind_token (λ digest f. InfoText digest f) (omega arith) refl
    (λ a f x u m. not_of is_digest_byte 59 x refl refl refl (blanks_head 59 x _ u m))
    (λ a h. mark_law n 59 (λ u. word_at (codes "info") (skip is_blank u) >>= behind_word a) _ refl (word_law n a))

-- the steps of the reader of what comes before the parameters
abbrev made : List ℕ → List ℕ → List ℕ → Read (Parts × List ℕ)
made token info rest = Ok (start token info, rest)

abbrev angle_step : List ℕ → List ℕ × List ℕ → Read (Parts × List ℕ)
angle_step token x = byte_at 62 x.1 >>= made token x.0

abbrev uri_step : List ℕ → List ℕ → Read (Parts × List ℕ)
uri_step token v = run_at is_uri_byte 2048 v >>= angle_step token

abbrev open_step : List ℕ → List ℕ → Read (Parts × List ℕ)
open_step token u = byte_at 60 (skip is_blank u) >>= uri_step token

abbrev equals_step : List ℕ → List ℕ → Read (Parts × List ℕ)
equals_step token t = byte_at 61 (skip is_blank t) >>= open_step token

abbrev word_step : List ℕ → List ℕ → Read (Parts × List ℕ)
word_step token u = word_at (codes "info") (skip is_blank u) >>= equals_step token

abbrev token_step : List ℕ × List ℕ → Read (Parts × List ℕ)
token_step x = byte_at 59 (skip is_blank x.1) >>= word_step x.0

abbrev finish : Parts × List ℕ → Read Parts
finish x = params_at x.0 x.1

uri_same : (token v : List ℕ) → (uri_step token v >>= finish) ≡ (run_at is_uri_byte 2048 v >>= (λ x. byte_at 62 x.1 >>= params_at (start token x.0)))
uri_same token v =
    assoc (run_at is_uri_byte 2048 v) (angle_step token) finish
    ∙ bind_same (run_at is_uri_byte 2048 v) _ _ (λ x. assoc (byte_at 62 x.1) (made token x.0) finish)

word_same : (token t : List ℕ) → (equals_step token t >>= finish) ≡ behind_word token t
word_same token t =
    assoc (byte_at 61 (skip is_blank t)) (open_step token) finish
    ∙ bind_same (byte_at 61 (skip is_blank t)) _ _ (λ u. assoc (byte_at 60 (skip is_blank u)) (uri_step token) finish
    ∙ bind_same (byte_at 60 (skip is_blank u)) _ _ (λ v. uri_same token v))

token_same : (x : List ℕ × List ℕ) → (token_step x >>= finish) ≡ behind_token x.0 x.1
token_same x =
    assoc (byte_at 59 (skip is_blank x.1)) (word_step x.0) finish
    ∙ bind_same (byte_at 59 (skip is_blank x.1)) _ _ (λ u. assoc (word_at (codes "info") (skip is_blank u)) (equals_step x.0) finish
    ∙ bind_same (word_at (codes "info") (skip is_blank u)) _ _ (λ t. word_same x.0 t))

field_same : (value : List ℕ) → field_at value ≡ (run_at is_digest_byte 8192 value >>= (λ x. behind_token x.0 x.1))
unfolding field_at head_at
field_same value =
    assoc (run_at is_digest_byte 8192 value) token_step finish ∙ bind_same (run_at is_digest_byte 8192 value) _ _ token_same

pub law_field : (n : ℕ) → Law Parts n field_at FieldText
law_field n = law_reads Parts n (λ t. run_at is_digest_byte 8192 t >>= (λ x. behind_token x.0 x.1)) field_at FieldText (λ t h. field_same t) (token_law n)

-- what is read is in the grammar
pub field_found : (value : List ℕ) (f : Parts) → field_at value ≡ Ok f → FieldText f value
field_found value f e = (law_field (length value)).found value f (omega arith) e

-- what is in the grammar is read
pub field_again : (value : List ℕ) (f : Parts) → FieldText f value → field_at value ≡ Ok f
field_again value f m = (law_field (length value)).again value f (omega arith) m

-- the longest prefix that some value begins with ends where the reader can't go on
pub field_stops : (value left : List ℕ) → field_at value ≡ Err left → FieldPlace value (length value - length left)
field_stops value left e = place_of_stops Parts FieldText value left ((law_field (length value)).stops value left (omega arith) e)

pub field_left : (value left : List ℕ) → field_at value ≡ Err left → length left ≤ length value
field_left value left e =
    let s = (law_field (length value)).stops value left (omega arith) e in
    omega (arith, ap (λ (t : List ℕ). length t) s.split, length-append s.front left)

-- A value has its four parts in one way.
pub one_reading : (value : List ℕ) (f g : Parts) → FieldText f value → FieldText g value → f ≡ g
one_reading value f g a b = one_value Parts (length value) field_at FieldText value f g (omega arith) (law_field (length value)) a b

-- what can't be read is not in the grammar
pub field_refused : (value left : List ℕ) (f : Parts) → field_at value ≡ Err left → FieldText f value → ⊥
field_refused value left f e m =
    let h : ◌≡◌ {A = Read Parts} (Err left) (Ok f) = sym e ∙ field_again value f m in absurd (cc)

-- ---- the same of what is read or where it stops

found_of : (text : List ℕ) (f : Parts) (r : Read Parts) → field_at text ≡ r → placed (length text) r ≡ Ok f → FieldText f text
found_of text f (Ok g) e h =
    let same : g ≡ f = cc in
    subst (λ p. FieldText p text) same (field_found text g e)
found_of text f (Err left) e h = absurd cc

pub read_found : (text : List ℕ) (f : Parts) → read text ≡ Ok f → FieldText f text
read_found text f h = found_of text f (field_at text) refl h

pub read_again : (text : List ℕ) (f : Parts) → FieldText f text → read text ≡ Ok f
read_again text f m = ap (placed (length text)) (field_again text f m)
