-- What is known of the chains of a call, asked for one by one.
use Rattle.std.proofs.Common.{◌≡◌, ℕ, zero, suc, ◌+◌, ◌<◌, ◌≤◌, List, [], ◌∷◌, ◌++◌, length, map, take, set, slice_get, Some, refl, sym, ap, ◌∙◌, arith}
use Rattle.std.proofs.lemmas.List.{length-map, length-set, length-take, map-append, take_all, take_more_set}
use Rattle.std.proofs.lemmas.Option.{same_Some}
use Rattle.verify_rules.specs.States.{State, seen}
use Rattle.verify_rules.specs.declared.chains.ChainState.{ChainState}

-- nine places, of which those up to this one have what is known
pub record Asked (states : List State) (i : ℕ) (held : List ChainState) : Type 0 where
  pub size : length held ≡ 9
  pub same : map seen (take i held) ≡ take i states

pub none_yet : (states : List State) (held : List ChainState) → length held ≡ 9 → Asked states 0 held
none_yet states held e = record { size = e; same = refl }

taken : (states : List State) (i : ℕ) (one : State) → slice_get states i ≡ Some one → take (i + 1) states ≡ take i states ++ one ∷ []
taken [] i one h = absurd cc
taken (s ∷ states) zero one h = ap (λ (x : State). x ∷ []) (same_Some s one h)
taken (s ∷ states) (suc i) one h = let n : suc i + 1 ≡ suc (i + 1) = omega arith in rw n (ap (λ (xs : List State). s ∷ xs) (taken states i one h))

pub one_more : (states : List State) (i : ℕ) (held : List ChainState) (one : ChainState) → i < 9 → slice_get states i ≡ Some (seen one) → Asked states i held
    → Asked states (i + 1) (set held i one)
one_more states i held one below e known =
    let size = known.size in
    record {
      size = length-set held i one ∙ known.size;
      same =
          ap (λ (xs : List ChainState). map seen xs) (take_more_set held i one (omega (arith, size, below)))
          ∙ map-append seen (take i held) (one ∷ []) ∙ ap (λ (xs : List State). xs ++ seen one ∷ []) known.same ∙ sym (taken states i (seen one) e);
    }

pub all_of : (states : List State) (count i : ℕ) (held : List ChainState) → count ≡ length states → count ≤ i → i ≤ count → Asked states i held
    → map seen (take count held) ≡ states
all_of states count i held e low high known =
    let same : count ≡ i = omega (arith, low, high) in
    ap (λ n. map seen (take n held)) same ∙ known.same ∙ take_all i states (omega (arith, e, low))

pub nine : (states : List State) (count i : ℕ) (held : List ChainState) → count ≡ length states → length states ≤ 9 → Asked states i held → (count ≤ 9) × (length held ≡ 9)
nine states count i held e few known = (omega (arith, e, few), known.size)

pub counted : (count : ℕ) (held : List ChainState) → count ≤ 9 → length held ≡ 9 → count ≡ length (map seen (take count held))
counted count held few size =
    let mapped = length-map (take count held) seen in
    let cut = length-take count held in
    omega (arith, mapped, cut, few, size)

pub at : (count : ℕ) (held : List ChainState) (i : ℕ) (one : ChainState) → i < count → slice_get held i ≡ Some one → slice_get (map seen (take count held)) i ≡ Some (seen one)
at zero held i one below e = absurd (omega arith)
at (suc count) [] i one below e = absurd cc
at (suc count) (h ∷ held) zero one below e = ap (λ (x : ChainState). Some (seen x)) (same_Some h one e)
at (suc count) (h ∷ held) (suc i) one below e = at count held i one (omega arith) e
