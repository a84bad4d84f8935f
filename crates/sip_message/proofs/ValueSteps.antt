-- A value put together part by part is its parts joined.
use Rattle.std.proofs.Common.{◌≡◌, ℕ, not, List, [], ◌∷◌, ◌++◌, map, filter, refl, ◌∙◌, append_assoc}
use Rattle.text_grammar.specs.Bytes.{is_empty}
use Rattle.sip_message.specs.Value.{extended, joined, trimmed, value_after, value_of}

abbrev some_of : List (List ℕ) → List (List ℕ)
some_of parts = filter (λ part. not (is_empty part)) parts

join_onto : (v p : List ℕ) (parts : List (List ℕ)) → joined ((v ++ 32 ∷ p) ∷ parts) ≡ joined (v ∷ p ∷ parts)
join_onto v p [] = refl
join_onto v p (q ∷ qs) = append_assoc v (32 ∷ p) (32 ∷ joined (q ∷ qs))

step : (v p : List ℕ) (parts : List (List ℕ)) → joined (some_of (extended v p ∷ parts)) ≡ joined (some_of (v ∷ p ∷ parts))
step [] [] parts = refl
step [] (b ∷ bs) parts = refl
step (a ∷ as_) [] parts = refl
step (a ∷ as_) (b ∷ bs) parts = join_onto (a ∷ as_) (b ∷ bs) (some_of parts)

alone : (v : List ℕ) → v ≡ joined (some_of (v ∷ []))
alone [] = refl
alone (b ∷ bs) = refl

all_parts : (v : List ℕ) (texts : List (List ℕ)) → value_after v texts ≡ joined (some_of (v ∷ map trimmed texts))
all_parts v [] = alone v
all_parts v (text ∷ others) = all_parts (extended v (trimmed text)) others ∙ step v (trimmed text) (map trimmed others)

pub value_joined : (rest : List ℕ) (texts : List (List ℕ)) → value_after (trimmed rest) texts ≡ value_of rest texts
value_joined rest texts = all_parts (trimmed rest) texts
