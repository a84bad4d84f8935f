-- The lines of no question, of one, and of some and then others.
use Rattle.std.proofs.Common.{◌≡◌, ℕ, Bool, true, false, not, cond, List, [], ◌∷◌, ◌++◌, append_assoc, append-nil, refl, sym, ◌∙◌, ap, subst}
use Rattle.std.specs.List.{list_any}
use Rattle.lists.proofs.Tests.{or_more}
use Rattle.std.proofs.lemmas.List.Folds.{list_any-append}
use Rattle.cert_store.specs.Rules.{QuestionView}
use Rattle.call_judging.specs.AskLines.{ask_line, ask_lines}
use Rattle.single_calls.specs.Asks.{fresh, is_same, unless_asked, was_asked}
use Rattle.single_calls.specs.Written.{Holds, Writes, is_held, same_triple, triple_of}
use Rattle.single_calls.specs.declared.written.Triple.{Triple}
use Rattle.single_calls.proofs.FreshLaws.{fresh_lines}

pub writes_none : (held : List Triple) (text : List ℕ) → Writes held held text text []
writes_none held text = record {
  holds = λ before h. subst (Holds held) (sym (append-nil before)) h;
  lines = λ before h. sym (append-nil text);
}

pub writes_both : (held mid now : List Triple) (text text_mid text_now : List ℕ) (xs ys : List QuestionView) → Writes held mid text text_mid xs → Writes mid now text_mid text_now ys
    → Writes held now text text_now (xs ++ ys)
writes_both held mid now text text_mid text_now xs ys one other = record {
  holds = λ before h. subst (Holds now) (append_assoc before xs ys) (other.holds (before ++ xs) (one.holds before h));
  lines = λ before h.
      other.lines (before ++ xs) (one.holds before h) ∙ ap (λ (x : List ℕ). x ++ ask_lines (fresh (before ++ xs) ys)) (one.lines before h)
      ∙ append_assoc text (ask_lines (fresh before xs)) (ask_lines (fresh (before ++ xs) ys))
      ∙ ap (λ (x : List ℕ). text ++ x) (sym (fresh_lines before xs ys));
}

-- ---- one question

-- a set of triples that has one more
abbrev Puts : List Triple → List Triple → Triple → Type 0
Puts held now triple = (q : Triple) → list_any (same_triple q) now ≡ cond (same_triple triple q) true (list_any (same_triple q) held)

holds_more : (held now : List Triple) (asked : QuestionView) → Puts held now (triple_of asked) → (before : List QuestionView) → Holds held before → Holds now (before ++ asked ∷ [])
holds_more held now asked put before h other =
    put (triple_of other) ∙ ap (cond (is_same asked other) true) (h other) ∙ or_more (was_asked before other) (is_same asked other)
    ∙ sym (list_any-append (λ (one : QuestionView). is_same one other) before (asked ∷ []))

-- it was asked before
pub writes_old : (held now : List Triple) (text : List ℕ) (asked : QuestionView) → Puts held now (triple_of asked) → is_held held asked ≡ true
    → Writes held now text text (asked ∷ [])
writes_old held now text asked put old = record {
  holds = holds_more held now asked put;
  lines = λ before h.
      sym (append-nil text) ∙ ap (λ t. text ++ ask_lines (unless_asked t asked [])) (sym (sym (h asked) ∙ old));
}

-- its line was written
pub writes_new : (held now : List Triple) (text text_now line : List ℕ) (asked : QuestionView) → Puts held now (triple_of asked) → is_held held asked ≡ false
    → line ≡ ask_line asked → text_now ≡ text ++ line → Writes held now text text_now (asked ∷ [])
writes_new held now text text_now line asked put new is pushed = record {
  holds = holds_more held now asked put;
  lines = λ before h.
      pushed ∙ ap (λ (x : List ℕ). text ++ x) (is ∙ sym (append-nil (ask_line asked)))
      ∙ ap (λ t. text ++ ask_lines (unless_asked t asked [])) (sym (sym (h asked) ∙ new));
}

-- ---- what a set says of a triple that was put into it

pub was_held : (added before : Bool) → added ≡ not before → added ≡ false → before ≡ true
was_held added true is old = refl
was_held added false is old = absurd (cc)

pub was_new : (added before : Bool) → added ≡ not before → added ≡ true → before ≡ false
was_new added true is new = absurd (cc)
was_new added false is new = refl
