-- What was read of the texts, one text more.
use Rattle.std.proofs.Common.{◌≡◌, ℕ, zero, suc, ◌+◌, List, [], ◌∷◌, ◌++◌, take, Option, Some, sym, ap, ◌∙◌, subst, arith}
use Rattle.std.specs.List.{slice_get}
use Rattle.std.proofs.lemmas.Option.{same_Some}
use Rattle.cert_store.specs.declared.world.World.{World as Materials}
use Rattle.stir_outside.specs.Files.{Files}
use Rattle.call_judging.specs.Fetched.{IsFetched}
use Rattle.verify_service.specs.Judging.{EachPair}
use Rattle.call_judging.specs.declared.fetching.Fetched.{Fetched}
use Rattle.verify_service.proofs.ListLaws.{each_more}

-- the elements up to an index, and the one there
pub take_stands : {X : Type 0} (xs : List X) (i : ℕ) (x : X) → slice_get xs i ≡ Some x → take (i + 1) xs ≡ take i xs ++ x ∷ []
take_stands [] i x is = absurd cc
take_stands (y ∷ ys) zero x is = ap (λ z. z ∷ []) (same_Some y x is)
take_stands (y ∷ ys) (suc i) x is =
    let next : suc i + 1 ≡ suc (i + 1) = omega arith in ap (λ n. take n (y ∷ ys)) next ∙ ap (λ l. y ∷ l) (take_stands ys i x is)

pub fetched_next : (told told_now : Option Files) (materials : Materials) (texts : List (List ℕ)) (files : List Fetched) (i : ℕ) (x5u : List ℕ) (file : Fetched) → told_now ≡ told
    → slice_get texts i ≡ Some x5u → EachPair (IsFetched told materials) (take i texts) files → IsFetched told_now materials x5u file
    → EachPair (IsFetched told materials) (take (i + 1) texts) (files ++ file ∷ [])
fetched_next told told_now materials texts files i x5u file same stands each here =
    subst (λ (ts : List (List ℕ)). EachPair (IsFetched told materials) ts (files ++ file ∷ [])) (sym (take_stands texts i x5u stands))
    (each_more (IsFetched told materials) (take i texts) files x5u file each (subst (λ (t : Option Files). IsFetched t materials x5u file) same here))
