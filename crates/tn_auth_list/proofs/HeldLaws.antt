-- What is held of a group, and of the groups of a map's entries.
use Rattle.std.proofs.Common.{rules, ◌≡◌, ℕ, ◌↔◌, Bool, true, false, cond, List, [], ◌∷◌, ◌++◌, Option, Some, None, refl, sym, ap, subst, ◌∙◌}
use Rattle.std.specs.Map.{lookup, update_all, keys_of}
use Rattle.std.specs.Ordering.{nat_cmp, eq_by_cmp}
use Rattle.std.specs.Cmp.{eq_by_cmp_equiv}
use Rattle.std.specs.Cmp.Lexicographic.{slice_cmp, nat_list_cmp_total, texts_ties}
use Rattle.std.specs.BTreeMap.{BTreeMap, get, IsOrdered}
use Rattle.std.specs.Str.{bytes_eq}
use Rattle.std.proofs.lemmas.Map.{update_all_push}
use Rattle.std.proofs.lemmas.Map.Keys.{IsDistinct-from_sorted}
use Rattle.std.proofs.lemmas.Map.Made.{update_all_none}
use Rattle.tn_values.specs.NumberSet.{SetView, SetHolds, set_of}
use Rattle.tn_auth_list.specs.CodeGroups.{HeldFrom}
use Rattle.tn_auth_list.specs.GroupView.{GroupView}
use Rattle.tn_auth_list.specs.declared.table_groups.Held.{Held}
use Rattle.tn_auth_list.specs.declared.table_groups.Held.TheVariants.{These}

pub set_for : (group : GroupView) (set : SetView) → group.all ≡ false
    → ((number : List ℕ) → SetHolds set number ↔ SetHolds (set_of group.spans group.singles) number) → HeldFrom (Some group) (Some (These set))
set_for group set e same rows code is = record {
  names = is.names;
  all = search (rules, is.all.1);
  holds = λ number. let group_holds = is.holds number in let set_holds = same number in search (rules, group_holds.0, group_holds.1, set_holds.0, set_holds.1);
}

abbrev same : List ℕ → List ℕ → Bool
same = eq_by_cmp (slice_cmp nat_cmp)

-- the group of a code among entries, the last if a code comes twice
abbrev pub group_among : List (List ℕ × GroupView) → List ℕ → Option GroupView
group_among entries code = update_all same (λ _. None) entries code

-- one entry more
pub held_push : (entries : List (List ℕ × GroupView)) (code : List ℕ) (group : GroupView) (held : Held) (old new : BTreeMap (List ℕ) Held)
    → ((q : List ℕ) → HeldFrom (group_among entries q) (get (slice_cmp nat_cmp) old q)) → HeldFrom (Some group) (Some held)
    → ((q : List ℕ) → get (slice_cmp nat_cmp) new q ≡ cond (same code q) (Some held) (get (slice_cmp nat_cmp) old q))
    → (q : List ℕ) → HeldFrom (group_among (entries ++ (code, group) ∷ []) q) (get (slice_cmp nat_cmp) new q)
held_push entries code group held old new before h put q =
    subst (λ o. HeldFrom o (get (slice_cmp nat_cmp) new q)) (update_all_push same (λ _. None) (group_among entries) entries (code, group) q refl)
    (subst (λ o. HeldFrom (cond (same code q) (Some group) (group_among entries q)) o) (sym (put q)) (by (same code q)))
  where
    by : (t : Bool) → HeldFrom (cond t (Some group) (group_among entries q)) (cond t (Some held) (get (slice_cmp nat_cmp) old q))
    by true = h
    by false = before q

-- a map's entries name each code once
pub group_among_all : (groups : BTreeMap (List ℕ) GroupView) (entries : List (List ℕ × GroupView)) → entries ≡ groups.entries → IsOrdered (slice_cmp nat_cmp) groups
    → (code : List ℕ) → group_among entries code ≡ get (slice_cmp nat_cmp) groups code
group_among_all groups entries all o code = ap (λ (es : List (List ℕ × GroupView)). group_among es code) all
    ∙ update_all_none (eq_by_cmp_equiv nat_list_cmp_total) same (λ x y. refl) groups.entries code (IsDistinct-from_sorted (slice_cmp nat_cmp) (keys_of groups.entries) o)

-- a code is found by its bytes
pub get_by_bytes : (held : BTreeMap (List ℕ) Held) (code : List ℕ) → get (slice_cmp nat_cmp) held code ≡ lookup (bytes_eq code) held.entries
get_by_bytes held code = ap (λ (eq : List ℕ → Bool). lookup eq held.entries) (sym (λ i. λ key. texts_ties code key i))
