-- Texts in a set, as the list of them.
use Rattle.std.proofs.Common.{◌≡◌, ℕ, ◌||◌, Bool, true, false, cond, List, [], ◌∷◌, ◌++◌, map, length, refl, ap, ◌∙◌, Vec}
use Rattle.std.specs.List.{list_any}
use Rattle.std.specs.Str.{bytes_eq}
use Rattle.std.specs.Vec.{vec_items}
use Rattle.std.proofs.lemmas.List.{length-map, map_push}
use Rattle.verify_service.specs.Needed.{once}

pub text_among : {Y : Type 0} (text : List ℕ) (keys : List (Vec ℕ Y)) → list_any (λ key. bytes_eq text (vec_items key)) keys ≡ list_any (bytes_eq text) (map vec_items keys)
text_among text [] = refl
text_among text (key ∷ keys) = ap (λ b. bytes_eq text (vec_items key) || b) (text_among text keys)

pub text_count : {Y : Type 0} (keys : List (Vec ℕ Y)) → length (map vec_items keys) ≡ length keys
text_count keys = length-map keys vec_items

added_by : {Y : Type 0} (b : Bool) (keys : List (Vec ℕ Y)) (key : Vec ℕ Y) → map vec_items (cond b keys (keys ++ key ∷ [])) ≡ cond b (map vec_items keys) (map vec_items keys ++ vec_items key ∷ [])
added_by true keys key = refl
added_by false keys key = map_push vec_items keys key

-- the texts after one was put in
pub text_added : {Y : Type 0} (keys : List (Vec ℕ Y)) (key : Vec ℕ Y)
    → map vec_items (cond (list_any (λ other. bytes_eq (vec_items key) (vec_items other)) keys) keys (keys ++ key ∷ [])) ≡ once (map vec_items keys) (vec_items key ∷ [])
text_added keys key =
    added_by (list_any (λ other. bytes_eq (vec_items key) (vec_items other)) keys) keys key
    ∙ ap (λ b. cond b (map vec_items keys) (map vec_items keys ++ vec_items key ∷ [])) (text_among (vec_items key) keys)
