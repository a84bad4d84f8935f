-- The spelling of parts that are in their rows is in one line, without blanks at its ends.
use Rattle.std.proofs.Common.{◌≡◌, ℕ, ◌<◌, ◌≤◌, Bool, true, false, not, ◌==◌, cond, List, [], ◌∷◌, ◌++◌, length, reverse, Option, Some, None, IfSome, refl, sym, ap, subst, ◌∙◌, append_assoc, arith, codes}
use Rattle.std.specs.List.{list_all}
use Rattle.std.proofs.lemmas.Bool.{and_parts}
use Rattle.std.proofs.lemmas.Bool.Decides.{nat_tests}
use Rattle.std.proofs.lemmas.List.{append-nil, reverse-append}
use Rattle.text_grammar.specs.Bytes.{is_blank, is_uri_byte}
use Rattle.text_grammar.specs.Grammar.{Any}
use Rattle.identity_header.specs.OneLine.{IsOneLine, begins_blank}
use Rattle.identity_header.specs.Parts.{InRows, Parts, is_bare_byte, is_digest_byte, is_quoted_byte}
use Rattle.identity_header.specs.Spelling.{is_bare, param_text, spelling, value_text}
use Rattle.lists.proofs.Bytes.{each, all_append}

-- ---- a test that every byte of every part passes

record Passes (p : ℕ → Bool) : Type 0 where
  digest : (b : ℕ) → is_digest_byte b ≡ true → p b ≡ true
  uri : (b : ℕ) → is_uri_byte b ≡ true → p b ≡ true
  quoted : (b : ℕ) → is_quoted_byte b ≡ true → p b ≡ true
  quote : p 34 ≡ true
  info : list_all p (codes ";info=<") ≡ true
  close : list_all p (codes ">") ≡ true
  alg : list_all p (codes ";alg=") ≡ true
  ppt : list_all p (codes ";ppt=") ≡ true

value_by : (p : ℕ → Bool) (value : List ℕ) (t : Bool) → p 34 ≡ true → list_all p value ≡ true → list_all p (cond t value (34 ∷ (value ++ 34 ∷ []))) ≡ true
value_by p value true quote h = h
value_by p value false quote h = rw (quote, all_append p value (34 ∷ []) h (rw quote refl)) refl

param_passes : (p : ℕ → Bool) (name : List ℕ) (value : Option (List ℕ)) → Passes p → list_all p name ≡ true → IfSome value (Any is_quoted_byte) → list_all p (param_text name value) ≡ true
param_passes p name None passes n h = refl
param_passes p name (Some value) passes n h =
    all_append p name (value_text value) n (value_by p value (is_bare value) passes.quote (each is_quoted_byte p passes.quoted value h))

spelling_passes : (p : ℕ → Bool) (f : Parts) → Passes p → InRows f → list_all p (spelling f) ≡ true
unfolding spelling
spelling_passes p f passes r =
    let one = all_append p f.token (codes ";info=<") (each is_digest_byte p passes.digest f.token r.token.each) passes.info in
    let two = all_append p (f.token ++ codes ";info=<") f.info one (each is_uri_byte p passes.uri f.info r.info.each) in
    let three = all_append p (f.token ++ codes ";info=<" ++ f.info) (codes ">") two passes.close in
    let four = all_append p (f.token ++ codes ";info=<" ++ f.info ++ codes ">") (param_text (codes ";alg=") f.alg) three (param_passes p (codes ";alg=") f.alg passes passes.alg r.alg) in
    all_append p (f.token ++ codes ";info=<" ++ f.info ++ codes ">" ++ param_text (codes ";alg=") f.alg) (param_text (codes ";ppt=") f.ppt) four
    (param_passes p (codes ";ppt=") f.ppt passes passes.ppt r.ppt)

-- no control byte is in it
no_control : (byte : ℕ) → byte < 32 → Passes (λ b. not (b == byte))
no_control byte low =
    let quoted : (b : ℕ) → is_quoted_byte b ≡ true → not (b == byte) ≡ true = λ b h. grind (arith, nat_tests) in
    let literal : (text : List ℕ) → list_all is_quoted_byte text ≡ true → list_all (λ b. not (b == byte)) text ≡ true = each is_quoted_byte (λ b. not (b == byte)) quoted in
    record {
      digest = λ b h. grind (arith, nat_tests);
      uri = λ b h. grind (arith, nat_tests);
      quoted = quoted;
      quote = grind (arith, nat_tests);
      info = literal (codes ";info=<") refl;
      close = literal (codes ">") refl;
      alg = literal (codes ";alg=") refl;
      ppt = literal (codes ";ppt=") refl;
    }

-- ---- the first byte

digest_no_blank : (b : ℕ) → is_digest_byte b ≡ true → is_blank b ≡ false
digest_no_blank b h = grind (arith, nat_tests)

first_of : (token rest : List ℕ) → 1 ≤ length token → list_all is_digest_byte token ≡ true → begins_blank (token ++ rest) ≡ false
first_of [] rest some h = absurd (omega arith)
first_of (b ∷ bs) rest some h = digest_no_blank b (and_parts (is_digest_byte b) (list_all is_digest_byte bs) h).0

-- ---- the last byte

record Ended (text : List ℕ) : Type 0 where
  front : List ℕ
  last : ℕ
  split : text ≡ front ++ last ∷ []
  no_blank : is_blank last ≡ false

behind : (xs ys : List ℕ) → Ended ys → Ended (xs ++ ys)
behind xs ys e = record {
  front = xs ++ e.front;
  last = e.last;
  split = ap (λ (t : List ℕ). xs ++ t) e.split ∙ sym (append_assoc xs e.front (e.last ∷ []));
  no_blank = e.no_blank;
}

bare_no_blank : (b : ℕ) → is_bare_byte b ≡ true → is_blank b ≡ false
bare_no_blank b h = grind (arith, nat_tests)

bare_ended : (value : List ℕ) → 1 ≤ length value → list_all is_bare_byte value ≡ true → Ended value
bare_ended [] some h = absurd (omega arith)
bare_ended (b ∷ []) some h = record { front = []; last = b; split = refl; no_blank = bare_no_blank b (and_parts (is_bare_byte b) true h).0 }
bare_ended (b ∷ c ∷ more) some h =
    behind (b ∷ []) (c ∷ more) (bare_ended (c ∷ more) (omega arith) (and_parts (is_bare_byte b) (list_all is_bare_byte (c ∷ more)) h).1)

some_by : (value : List ℕ) → not (length value == 0) ≡ true → 1 ≤ length value
some_by [] h = absurd cc
some_by (b ∷ bs) h = omega arith

value_ended_by : (value : List ℕ) (t : Bool) → is_bare value ≡ t → Ended (cond t value (34 ∷ (value ++ 34 ∷ [])))
value_ended_by value true e =
    let parts = and_parts (not (length value == 0)) (list_all is_bare_byte value) e in
    bare_ended value (some_by value parts.0) parts.1
value_ended_by value false e = behind (34 ∷ value) (34 ∷ []) (record { front = []; last = 34; split = refl; no_blank = refl })

param_ended : (text name : List ℕ) (value : Option (List ℕ)) → Ended text → Ended (text ++ param_text name value)
param_ended text name None e = subst Ended (sym (append-nil text)) e
param_ended text name (Some value) e = behind text (name ++ value_text value) (behind name (value_text value) (value_ended_by value _ refl))

spelling_ended : (f : Parts) → Ended (spelling f)
unfolding spelling
spelling_ended f =
    param_ended (f.token ++ codes ";info=<" ++ f.info ++ codes ">" ++ param_text (codes ";alg=") f.alg) (codes ";ppt=") f.ppt
    (param_ended (f.token ++ codes ";info=<" ++ f.info ++ codes ">") (codes ";alg=") f.alg
    (behind (f.token ++ codes ";info=<" ++ f.info) (codes ">") (record { front = []; last = 62; split = refl; no_blank = refl })))

last_no_blank : (text : List ℕ) → Ended text → begins_blank (reverse text) ≡ false
last_no_blank text e = ap (λ (t : List ℕ). begins_blank (reverse t)) e.split ∙ ap begins_blank (reverse-append e.front (e.last ∷ [])) ∙ e.no_blank

-- ---- the whole

token_first : (f : Parts) → spelling f ≡ f.token ++ (codes ";info=<" ++ (f.info ++ (codes ">" ++ (param_text (codes ";alg=") f.alg ++ param_text (codes ";ppt=") f.ppt))))
unfolding spelling
token_first f = simp append_assoc refl

spelled_front : (f : Parts) → InRows f → begins_blank (spelling f) ≡ false
spelled_front f r = ap begins_blank (token_first f) ∙ first_of f.token _ r.token.some r.token.each

pub one_line : (f : Parts) (text : List ℕ) → InRows f → text ≡ spelling f → IsOneLine text
one_line f text r e = subst IsOneLine (sym e) (record {
  no_return = spelling_passes (λ b. not (b == 13)) f (no_control 13 (omega arith)) r;
  no_feed = spelling_passes (λ b. not (b == 10)) f (no_control 10 (omega arith)) r;
  front = spelled_front f r;
  end = last_no_blank (spelling f) (spelling_ended f);
})
