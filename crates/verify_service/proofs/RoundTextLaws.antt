-- Which texts a round has, and that those of its first calls come first.
use Rattle.std.proofs.Common.{◌≡◌, ℕ, Bool, true, false, cond, ◌||◌, List, [], ◌∷◌, ◌++◌, refl, sym, ap, ◌∙◌, append_assoc, append-nil}
use Rattle.std.proofs.Math.Bool.{or-false}
use Rattle.std.specs.Str.{bytes_eq}
use Rattle.cert_store.specs.Files.{Files}
use Rattle.cert_store.specs.Holding.{Chains}
use Rattle.cert_store.specs.Using.{has}
use Rattle.verify_service.specs.Needed.{BeginsWith, is_needed, needed, once, round_texts}
use Rattle.verify_service.proofs.FewLaws.{has_more}
use Rattle.verify_service.proofs.TestLaws.{same_text}
use Rattle.verify_service.proofs.NeededLaws.{filter_more, once_more}

-- ---- the same texts

or_again : (b c : Bool) → (c ≡ true → b ≡ true) → b ≡ (b || c)
or_again true c law = refl
or_again false true law = law refl
or_again false false law = refl

or_assoc : (b c d : Bool) → ((b || c) || d) ≡ (b || (c || d))
or_assoc true c d = refl
or_assoc false c d = refl

here_already : (z x : List ℕ) (found : List (List ℕ)) → has x found ≡ true → bytes_eq z x ≡ true → has z found ≡ true
here_already z x found is same = ap (λ t. has t found) (same_text z x same) ∙ is

has_by : (b : Bool) (z x : List ℕ) (found xs : List (List ℕ)) → has x found ≡ b → has z (once found xs) ≡ (has z found || has z xs)
    → has z (once (found ++ x ∷ []) xs) ≡ (has z (found ++ x ∷ []) || has z xs)
    → has z (cond b (once found xs) (once (found ++ x ∷ []) xs)) ≡ (has z found || (bytes_eq z x || has z xs))
has_by true z x found xs is one other =
    one ∙ ap (λ b. b || has z xs) (or_again (has z found) (bytes_eq z x) (here_already z x found is)) ∙ or_assoc (has z found) (bytes_eq z x) (has z xs)
has_by false z x found xs is one other = other ∙ ap (λ b. b || has z xs) (has_more z x found) ∙ or_assoc (has z found) (bytes_eq z x) (has z xs)

once_has : (z : List ℕ) (found xs : List (List ℕ)) → has z (once found xs) ≡ (has z found || has z xs)
once_has z found [] = sym (or-false (has z found))
once_has z found (x ∷ xs) = has_by (has x found) z x found xs refl (once_has z found xs) (once_has z (found ++ x ∷ []) xs)

pub round_has : (files : Files) (held : Chains) (texts : List (List ℕ)) (x5u : List ℕ) → has x5u (round_texts files held texts) ≡ has x5u (needed files held texts)
round_has files held texts x5u = once_has x5u [] (needed files held texts)

-- ---- in the order in which they first appear

begins_by : (b : Bool) (x : List ℕ) (found xs : List (List ℕ)) → BeginsWith found (once found xs) → BeginsWith (found ++ x ∷ []) (once (found ++ x ∷ []) xs)
    → BeginsWith found (cond b (once found xs) (once (found ++ x ∷ []) xs))
begins_by true x found xs one other = one
begins_by false x found xs one other = record { others = x ∷ other.others; all_are = other.all_are ∙ append_assoc found (x ∷ []) other.others }

once_begins : (found xs : List (List ℕ)) → BeginsWith found (once found xs)
once_begins found [] = record { others = []; all_are = sym (append-nil found) }
once_begins found (x ∷ xs) = begins_by (has x found) x found xs (once_begins found xs) (once_begins (found ++ x ∷ []) xs)

pub round_first : (files : Files) (held : Chains) (texts others : List (List ℕ)) → BeginsWith (round_texts files held texts) (round_texts files held (texts ++ others))
round_first files held texts others =
    let more = once_begins (round_texts files held texts) (needed files held others) in
    record {
      others = more.others;
      all_are = ap (once []) (sym (filter_more (is_needed files held) texts others)) ∙ sym (once_more [] (needed files held texts) (needed files held others)) ∙ more.all_are;
    }
