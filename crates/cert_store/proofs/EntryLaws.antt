-- The entries of the cache's map are the chains that a contract sees: what goes first, what is put, and that each x5u has one.
use Rattle.std.proofs.Common.{◌≡◌, ℕ, ◌-◌, Bool, true, false, cond, ◌||◌, List, [], ◌∷◌, take, is_some, Option, Some, None, refl, sym, ap, ◌∙◌}
use Rattle.std.specs.Cmp.Lexicographic.{bytes_decides}
use Rattle.std.specs.List.{AllByRecursion, IsDistinct}
use Rattle.std.specs.Map.{keys_of, lookup_entry, remove_entry}
use Rattle.std.proofs.lemmas.Map.Keys.{IsDistinct-head, IsDistinct-tail}
use Rattle.std.specs.Option.{option_map, option_map_or}
use Rattle.std.specs.Str.{bytes_eq}
use Rattle.lru.specs.LruCache.{lru_cache, promoted, put_entries}
use Rattle.lru.proofs.CallerLemmas.{Contains-lookup_entry}
use Rattle.cert_store.specs.Holding.{Chains, chain_of, in_front, put_in, touched}
use Rattle.cert_store.specs.Judged.{JudgedView}
use Rattle.cert_store.specs.Using.{IsOnce, has, names}

abbrev Entry : Type 0
Entry = List ℕ × JudgedView

entry_by : (b : Bool) (e : Entry) (o : Option JudgedView) (p : Option Entry) → o ≡ option_map (λ e. e.1) p → cond b (Some e.1) o ≡ option_map (λ e. e.1) (cond b (Some e) p)
entry_by true e o p same = refl
entry_by false e o p same = same

entry_of : (t : List ℕ) (es : Chains) → chain_of t es ≡ option_map (λ e. e.1) (lookup_entry (bytes_eq t) es)
entry_of t [] = refl
entry_of t (e ∷ es) = entry_by (bytes_eq t e.0) e (chain_of t es) (lookup_entry (bytes_eq t) es) (entry_of t es)

-- ---- a chain is used

front_by : (t : List ℕ) (es : Chains) (o : Option Entry) → lookup_entry (bytes_eq t) es ≡ o
    → option_map_or (λ e. e ∷ remove_entry (bytes_eq t) es) o es ≡ in_front t es (option_map (λ e. e.1) o)
front_by t es None at = refl
front_by t es (Some e) at =
    let passes : bytes_eq t e.0 ≡ true = (Contains-lookup_entry (bytes_eq t) es e at).1 in
    ap (λ (k : List ℕ). (k, e.1) ∷ remove_entry (bytes_eq t) es) (sym ((bytes_decides t e.0).0 passes))

pub promoted_held : (t : List ℕ) (es : Chains) → promoted (bytes_eq t) es ≡ touched t es
promoted_held t es = front_by t es (lookup_entry (bytes_eq t) es) refl ∙ ap (in_front t es) (sym (entry_of t es))

-- ---- a chain is put

put_by : (key : List ℕ) (j : JudgedView) (es : Chains) (capacity : ℕ) (o : Option Entry) → lookup_entry (bytes_eq key) es ≡ o
    → option_map_or (λ e. (e.0, j) ∷ remove_entry (bytes_eq key) es) o ((key, j) ∷ take (capacity - 1) es)
    ≡ (key, j) ∷ cond (is_some (option_map (λ e. e.1) o)) (remove_entry (bytes_eq key) es) (take (capacity - 1) es)
put_by key j es capacity None at = refl
put_by key j es capacity (Some e) at =
    let passes : bytes_eq key e.0 ≡ true = (Contains-lookup_entry (bytes_eq key) es e at).1 in
    ap (λ (k : List ℕ). (k, j) ∷ remove_entry (bytes_eq key) es) (sym ((bytes_decides key e.0).0 passes))

pub put_held : (key : List ℕ) (j : JudgedView) (es : Chains) (capacity : ℕ) → put_entries bytes_eq (lru_cache es capacity) key j ≡ put_in key j (record { entries = es; capacity = capacity })
put_held key j es capacity =
    put_by key j es capacity (lookup_entry (bytes_eq key) es) refl
    ∙ ap (λ (o : Option JudgedView). (key, j) ∷ cond (is_some o) (remove_entry (bytes_eq key) es) (take (capacity - 1) es)) (sym (entry_of key es))

-- ---- each x5u has one

none_held : (t : List ℕ) (es : Chains) → AllByRecursion (λ key. bytes_eq t key ≡ false) (keys_of es) → has t (names es) ≡ false
none_held t [] none = refl
none_held t (e ∷ es) none = ap (λ b. b || has t (names es)) none.0 ∙ none_held t es none.1

pub once_held : (es : Chains) → IsDistinct bytes_eq (keys_of es) → IsOnce (names es)
once_held [] distinct = tt
once_held (e ∷ es) distinct = (none_held e.0 es (IsDistinct-head bytes_eq (e.0) (keys_of es) distinct), once_held es (IsDistinct-tail bytes_eq (e.0) (keys_of es) distinct))
