-- What one row more gives its code and leaves to the others, and whether there is room for it.
use Rattle.std.proofs.Common.{rules, ◌≡◌, ℕ, ◌+◌, ◌⊎◌, ◌↔◌, inl, inr, Bool, true, false, not, cond, List, [], ◌∷◌, ◌++◌, length, is_some, Option, Some, unwrap_or, Any, Contains, Decides, refl, sym, ap, subst, ◌∙◌, arith}
use Rattle.std.specs.Ordering.{nat_cmp}
use Rattle.std.specs.Cmp.Lexicographic.{slice_cmp, texts_ties}
use Rattle.std.specs.Map.{lookup}
use Rattle.std.specs.BTreeMap.{BTreeMap, get, is_at, btree_map_len}
use Rattle.std.proofs.lemmas.Bool.Decides.{Decides-at, not_from_Decides, same_from_decides}
use Rattle.std.proofs.lemmas.List.Elements.{Contains-append_left, Contains-push, Contains-push_cases}
use Rattle.std.proofs.lemmas.List.Quantifiers.{Any-push}
use Rattle.std.proofs.lemmas.Slice.Eq.{bytes_eq-Decides}
use Rattle.tn_values.specs.Span.{SpanHolds}
use Rattle.tn_auth_list.specs.CodeTable.{SomeOf, HoldsNumber, code_count, is_all, is_past, is_within}
use Rattle.tn_auth_list.specs.CodeGroups.{no_group, with_gives, GroupHolds, IsGroupOf, IsGroups, PutsRow, has_room}
use Rattle.tn_auth_list.specs.GroupView.{GroupView}
use Rattle.tn_auth_list.specs.declared.table_rows.Gives.{Gives}
use Rattle.tn_auth_list.specs.declared.table_rows.Gives.TheVariants.{All, Range, Single}
use Rattle.tn_auth_list.specs.declared.table_rows.Row.{Row}
use Rattle.tn_auth_list.specs.declared.table_groups.Groups.{Groups}
use Rattle.tn_auth_list.proofs.CountLaws.{named, codes_push, given_push, limits, fits}
use Rattle.std.specs.declared.alloc.Global.{Global}

-- ---- a list with one more

some_push : {X : Type 0} (P : X → Type 0) (xs : List X) (x : X) → SomeOf P (xs ++ x ∷ []) ↔ (SomeOf P xs ⊎ P x)
some_push P [] x = search rules
some_push P (y ∷ xs) x = let more = some_push P xs x in search (rules, more.0, more.1)

any_push : {X : Type 0} (P : X → Type 0) (xs : List X) (x : X) → Any P (xs ++ x ∷ []) ↔ (Any P xs ⊎ P x)
any_push P xs x = (
  λ a. elim (Contains-push_cases xs x a.1 (a.0, a.2, a.3)) [ inl c ↦ inl (c.0, a.1, c.1, c.2, a.4) | inr e ↦ inr (subst P (sym e) a.4) ],
  λ s. elim s [ inl a ↦ let c = Contains-append_left xs (x ∷ []) a.1 (a.0, a.2, a.3) in (c.0, a.1, c.1, c.2, a.4) | inr p ↦ Any-push P xs x p ],
)

contains_push : {X : Type 0} (xs : List X) (x y : X) → Contains (xs ++ x ∷ []) y ↔ (Contains xs y ⊎ (x ≡ y))
contains_push xs x y = (
  Contains-push_cases xs x y,
  λ s. elim s [ inl c ↦ Contains-append_left xs (x ∷ []) y c | inr e ↦ subst (Contains (xs ++ x ∷ [])) e (Contains-push xs x) ],
)

-- ---- a group with one row more

all_more : (group : GroupView) (gives : Gives) → ((with_gives group gives).all ≡ true) ↔ ((group.all ≡ true) ⊎ (gives ≡ All))
all_more group All = search rules
all_more group (Range span) = search rules
all_more group (Single number) = search rules

holds_more : (group : GroupView) (gives : Gives) (number : List ℕ) → GroupHolds (with_gives group gives) number ↔ (GroupHolds group number ⊎ HoldsNumber gives number)
holds_more group All number = search rules
holds_more group (Range span) number = let more = any_push (λ span. SpanHolds span number) group.spans span in search (rules, more.0, more.1)
holds_more group (Single single) number = let more = contains_push group.singles single number in search (rules, more.0, more.1)

-- two facts that mean the same still do when each has one case more
grows : {A B C D E F : Type 0} → (A ↔ B) → (C ↔ (A ⊎ E)) → (D ↔ (B ⊎ F)) → (E ↔ F) → (C ↔ D)
grows s a b e = search (rules, s.0, s.1, a.0, a.1, b.0, b.1, e.0, e.1)

-- the same when the one has a case more that never holds
stays : {A B D F : Type 0} → (A ↔ B) → (D ↔ (B ⊎ F)) → (F → ⊥) → (A ↔ D)
stays s b never = search (rules, s.0, s.1, b.0, b.1)

-- a code's group with one row more, by whether the row names the code
code_push : (rows : List Row) (row : Row) (code : List ℕ) (own group : Option GroupView) (t : Bool)
    → Decides t (row.code ≡ code) → IsGroupOf rows row.code own → IsGroupOf rows code group
    → IsGroupOf (rows ++ row ∷ []) code (cond t (Some (with_gives (unwrap_or own no_group) row.gives)) group)
code_push rows row code own group true d own_is is =
    subst (λ c. IsGroupOf (rows ++ row ∷ []) c (Some (with_gives (unwrap_or own no_group) row.gives))) (d.0 refl) (record {
      names = (λ e. (some_push _ rows row).1 (inr refl), λ n. refl);
      all = grows own_is.all (all_more (unwrap_or own no_group) row.gives) (some_push _ rows row) (λ e. (refl, e), λ e. e.1);
      holds = λ number. grows (own_is.holds number) (holds_more (unwrap_or own no_group) row.gives number) (some_push _ rows row) (λ h. (refl, h), λ h. h.1);
    })
code_push rows row code own group false d own_is is =
    let apart = not_from_Decides false d refl in record {
      names = stays is.names (some_push _ rows row) apart;
      all = stays is.all (some_push _ rows row) (λ s. apart s.0);
      holds = λ number. stays (is.holds number) (some_push _ rows row) (λ g. apart g.0);
    }

-- ---- the groups of all rows

none_held : (number : List ℕ) → GroupHolds no_group number → ⊥
none_held number (inl e) = cc
none_held number (inr (inl a)) = omega (arith, a.2)
none_held number (inr (inr c)) = omega (arith, c.1)

-- no rows, and no groups
pub no_rows : (alloc : Global) (by_code : BTreeMap (List ℕ) GroupView) → by_code.entries ≡ [] → IsGroups [] (record { alloc = alloc; by_code = by_code; given = 0 })
unfolding is_within
no_rows alloc by_code empty = record {
  held = λ code. subst (λ (es : List (List ℕ × GroupView)). IsGroupOf [] code (lookup (is_at (slice_cmp nat_cmp code)) es)) (sym empty) (search (rules, none_held));
  codes = ap (λ (es : List (List ℕ × GroupView)). length es) empty;
  given = refl;
  within = refl;
}

-- how many codes are held with one row more
codes_held : (rows : List Row) (row : Row) (groups : Groups) → IsGroups rows groups
    → code_count (rows ++ row ∷ []) ≡ btree_map_len groups.by_code + cond (is_some (get (slice_cmp nat_cmp) groups.by_code row.code)) 0 1
codes_held rows row groups is =
    let known = same_from_decides _ _ (is.held row.code).names (named rows row.code) in
    let codes = is.codes in
    codes_push rows row ∙ cc

-- there is room for a row exactly if the rows with it are within the limits
pub room_is : (rows : List Row) (row : Row) (groups : Groups) → IsGroups rows groups → has_room groups row ≡ is_within (rows ++ row ∷ [])
unfolding is_within
room_is rows row groups is =
    let within = (limits rows).0 is.within in
    let codes = fits (btree_map_len groups.by_code) _ 20000 _ (codes_held rows row groups is) (omega (arith, within.0, is.codes)) in
    let given = fits groups.given _ 200000 (is_all row.gives) (omega (arith, given_push rows row, is.given)) (omega (arith, within.1, is.given)) in
    rw (codes, given) refl

-- the row was added, and counted if it gives a range or a number
pub groups_push : (rows : List Row) (row : Row) (old new : Groups) → IsGroups rows old → has_room old row ≡ true
    → PutsRow old.by_code new.by_code row → new.given ≡ old.given + cond (is_all row.gives) 0 1 → (is_past rows row ≡ false) × IsGroups (rows ++ row ∷ []) new
groups_push rows row old new is room put count =
    let more : IsGroups (rows ++ row ∷ []) new = record {
      held = λ code. subst (IsGroupOf (rows ++ row ∷ []) code) (sym (put.groups.0 code))
          (code_push rows row code _ _ _ (Decides-at _ _ (sym (texts_ties row.code code)) (bytes_eq-Decides row.code code)) (is.held row.code) (is.held code));
      codes = put.count ∙ sym (codes_held rows row old is);
      given = omega (arith, count, is.given, given_push rows row);
      within = sym (room_is rows row old is) ∙ room;
    } in
    (ap not more.within, more)
