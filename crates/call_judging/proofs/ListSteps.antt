-- One piece more of a list that is put together piece by piece.
use Rattle.std.proofs.Common.{◌≡◌, List, [], ◌++◌, append_assoc, append-nil, sym, ◌∙◌, ap}
use Rattle.cert_store.specs.Rules.{QuestionView}

pub more_left : (mid now left this rest all : List QuestionView) → left ≡ this ++ rest → mid ++ left ≡ all → now ≡ mid ++ this → now ++ rest ≡ all
more_left mid now left this rest all split so pushed =
    ap (λ (x : List QuestionView). x ++ rest) pushed ∙ append_assoc mid this rest ∙ ap (λ (x : List QuestionView). mid ++ x) (sym split) ∙ so

pub no_more : (now left all : List QuestionView) → left ≡ [] → now ++ left ≡ all → now ≡ all
no_more now left all none so = sym (append-nil now) ∙ sym (ap (λ (x : List QuestionView). now ++ x) none) ∙ so
