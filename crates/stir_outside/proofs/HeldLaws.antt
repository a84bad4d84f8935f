-- What is held, with one row more.
use Rattle.std.proofs.Common.{◌≡◌, ℕ, Bool, true, false, not, ◌||◌, cond, List, [], ◌∷◌, ◌++◌, Option, Some, None, is_some, Ok, refl, sym, ap, ◌∙◌}
use Rattle.std.specs.Bool.{MatchBool}
use Rattle.std.specs.List.{list_any}
use Rattle.std.specs.Map.{lookup}
use Rattle.std.specs.Option.{option_or}
use Rattle.std.specs.Str.{bytes_eq}
use Rattle.std.specs.Cmp.Lexicographic.{bytes_decides}
use Rattle.std.proofs.Math.Bool.{or-false}
use Rattle.std.proofs.lemmas.List.Folds.{list_any-append}
use Rattle.stir_outside.specs.AnswersText.{confirms, says, signature_in, signs, is_repeated, add_row, answer_rows}
use Rattle.stir_outside.specs.Held.{Held, same_triple, same_order, held_for, HoldsRows, Reached, AnswersOf}
use Rattle.stir_outside.specs.KeyName.{is_name}
use Rattle.stir_outside.proofs.AnswerLaws.{none_for_other}
use Rattle.text_grammar.specs.FileLines.{text_lines}
use Rattle.text_grammar.specs.ReadLines.{read_lines}
use Rattle.text_grammar.proofs.ReachedLaws.{all_given}
use Rattle.stir_outside.specs.declared.answers.rows.Triple.{Triple}
use Rattle.stir_outside.specs.declared.answers.rows.Order.{Order}
use Rattle.stir_outside.specs.declared.answers.rows.Row.{Row}
use Rattle.stir_outside.specs.declared.answers.rows.Row.TheVariants.{Confirm, Sign}
use Rattle.lists.proofs.Options.{or_none}
use Rattle.lists.proofs.Tests.{or_more}
use Rattle.std.proofs.lemmas.Bool.{and_parts}

abbrev triple_of : List ℕ → List ℕ → List ℕ → Triple
triple_of key digest signature = record { key = key; digest = digest; signature = signature }

abbrev order_of : List ℕ → List ℕ → Order
order_of name digest = record { name = name; digest = digest }

-- ---- a triple more

says_push : (rows : List Row) (triple : Triple) (key digest signature : List ℕ)
    → says (rows ++ Confirm triple ∷ []) key digest signature ≡ (says rows key digest signature || (same_triple triple (triple_of key digest signature) || false))
says_push rows triple key digest signature = list_any-append (confirms key digest signature) rows (Confirm triple ∷ [])

signs_append : (rows more : List Row) (name digest : List ℕ) → signs (rows ++ more) name digest ≡ option_or (signs rows name digest) (signs more name digest)
signs_append [] more name digest = refl
signs_append (row ∷ rows) more name digest = ap (option_or (signature_in name digest row)) (signs_append rows more name digest) ∙ sym (option_or_assoc (signature_in name digest row) (signs rows name digest) (signs more name digest))
  where
    option_or_assoc : (a b c : Option (List ℕ)) → option_or (option_or a b) c ≡ option_or a (option_or b c)
    option_or_assoc None b c = refl
    option_or_assoc (Some x) b c = refl

pub holds_triple : (rows : List Row) (triple : Triple) (old new : Held)
    → ((q : Triple) → list_any (same_triple q) new.triples ≡ cond (same_triple triple q) true (list_any (same_triple q) old.triples))
    → new.signatures ≡ old.signatures → HoldsRows rows old → HoldsRows (rows ++ Confirm triple ∷ []) new
holds_triple rows triple old new put kept holds = record {
  says = λ key digest signature.
      let q = triple_of key digest signature in
      put q ∙ ap (cond (same_triple triple q) true) (holds.says key digest signature) ∙ or_more (says rows key digest signature) (same_triple triple q) ∙ sym (says_push rows triple key digest signature);
  signs = λ name digest.
      ap (λ (es : List (Order × List ℕ)). lookup (same_order (order_of name digest)) es) kept ∙ holds.signs name digest
      ∙ sym (signs_append rows (Confirm triple ∷ []) name digest ∙ or_none (signs rows name digest));
}

-- ---- a signature more

same_is : (order : Order) (name digest : List ℕ) → same_order order (order_of name digest) ≡ true → (order.name ≡ name) × (order.digest ≡ digest)
same_is order name digest h =
    let k = and_parts (bytes_eq order.name name) (bytes_eq order.digest digest) h in
    ((bytes_decides order.name name).0 k.0, (bytes_decides order.digest digest).0 k.1)

signs_push : (rows : List Row) (order : Order) (made name digest : List ℕ)
    → signs (rows ++ Sign order made ∷ []) name digest ≡ option_or (signs rows name digest) (option_or (cond (same_order order (order_of name digest)) (Some made) None) None)
signs_push rows order made name digest = signs_append rows (Sign order made ∷ []) name digest

pushed_by : (rows : List Row) (order : Order) (made name digest : List ℕ) (t : Bool) → same_order order (order_of name digest) ≡ t → signs rows order.name order.digest ≡ None
    → cond t (Some made) (signs rows name digest) ≡ signs (rows ++ Sign order made ∷ []) name digest
pushed_by rows order made name digest true e none =
    let same = same_is order name digest e in
    let absent : signs rows name digest ≡ None = sym (ap (λ n. signs rows n digest) same.0) ∙ sym (ap (λ d. signs rows order.name d) same.1) ∙ none in
    sym (signs_push rows order made name digest ∙ rw (absent, e) refl)
pushed_by rows order made name digest false e none =
    sym (signs_push rows order made name digest ∙ rw e (or_none (signs rows name digest)))

says_same : (rows : List Row) (order : Order) (made key digest signature : List ℕ) → says (rows ++ Sign order made ∷ []) key digest signature ≡ says rows key digest signature
says_same rows order made key digest signature = list_any-append (confirms key digest signature) rows (Sign order made ∷ []) ∙ or-false (says rows key digest signature)

abbrev PutsOrder : Order → List ℕ → Held → Held → Type 0
PutsOrder order made old new = (q : Order) → lookup (same_order q) new.signatures ≡ cond (same_order order q) (Some made) (lookup (same_order q) old.signatures)

added : (rows : List Row) (order : Order) (made : List ℕ) (old new : Held) → PutsOrder order made old new → new.triples ≡ old.triples → HoldsRows rows old
    → signs rows order.name order.digest ≡ None → HoldsRows (rows ++ Sign order made ∷ []) new
added rows order made old new put kept holds none = record {
  says = λ key digest signature.
      ap (λ (ts : List Triple). list_any (same_triple (triple_of key digest signature)) ts) kept ∙ holds.says key digest signature ∙ sym (says_same rows order made key digest signature);
  signs = λ name digest.
      let q = order_of name digest in
      put q ∙ ap (cond (same_order order q) (Some made)) (holds.signs name digest) ∙ pushed_by rows order made name digest (same_order order q) refl none;
}

pub holds_signature : (rows : List Row) (order : Order) (made : List ℕ) (old new : Held) (before : Option (List ℕ)) (is_new : Bool)
    → before ≡ held_for old order.name order.digest → is_some before ≡ not is_new → PutsOrder order made old new → new.triples ≡ old.triples → HoldsRows rows old
    → MatchBool is_new ((is_repeated rows (Sign order made) ≡ false) × HoldsRows (rows ++ Sign order made ∷ []) new) (is_repeated rows (Sign order made) ≡ true)
holds_signature rows order made old new None true e n put kept holds =
    let none : signs rows order.name order.digest ≡ None = sym (e ∙ holds.signs order.name order.digest) in
    (ap is_some none, added rows order made old new put kept holds none)
holds_signature rows order made old new None false e n put kept holds = absurd (cc)
holds_signature rows order made old new (Some x) true e n put kept holds = absurd (cc)
holds_signature rows order made old new (Some x) false e n put kept holds = ap is_some (sym (e ∙ holds.signs order.name order.digest))

-- ---- a file

pub none_read : (text : List ℕ) (lines : List (ℕ × List ℕ)) (held : Held) → lines ≡ text_lines text → HoldsRows [] held → Reached text lines held
unfolding answer_rows
none_read text lines held e holds = record { rows = []; holds = holds; reads = ap (λ (ls : List (ℕ × List ℕ)). read_lines add_row ls []) e }

signed_by : (text : List ℕ) (rows : List Row) (held : Held) (name digest : List ℕ) (t : Bool) → is_name name ≡ t → answer_rows text ≡ Ok rows → HoldsRows rows held
    → cond t (held_for held name digest) None ≡ signs rows name digest
signed_by text rows held name digest true e read holds = holds.signs name digest
signed_by text rows held name digest false e read holds = sym (none_for_other text rows name digest read e)

pub all_read : (text : List ℕ) (lines : List (ℕ × List ℕ)) (held : Held) → lines ≡ [] → Reached text lines held → AnswersOf text held
all_read text lines held e reached =
    let read : answer_rows text ≡ Ok reached.rows = all_given add_row HoldsRows (answer_rows text) lines held e reached in
    record {
      rows = reached.rows;
      read = read;
      says = λ i key digest signature. reached.holds.says key digest signature i;
      signs = λ i name digest. signed_by text reached.rows held name digest (is_name name) refl read reached.holds i;
    }
