-- Two states that keep the same for each ticket are one: their tickets rise.
use Rattle.std.proofs.Common.{◌≡◌, ◌≢◌, ℕ, Bool, true, false, List, [], ◌∷◌, Option, Some, None, refl, sym, ap, ◌∙◌, subst}
use Rattle.std.proofs.lemmas.Cmp.{nat_list_cmp_total, tied_itself}
use Rattle.std.proofs.lemmas.Option.{none-some, same_Some}
use Rattle.std.proofs.lemmas.Slice.Eq.{bytes_eq-Decides}
use Rattle.std.specs.Cmp.Lexicographic.{bytes_decides, slice_cmp, texts_ties}
use Rattle.std.specs.Map.{lookup}
use Rattle.std.specs.Ordering.{is_eq, is_lt, nat_cmp, ordering_reverse}
use Rattle.std.specs.Str.{bytes_eq}
use Rattle.std.specs.declared.cmp.Ordering.{Ordering}
use Rattle.std.specs.declared.cmp.Ordering.TheVariants.{Equal, Greater, Less}
use Rattle.state_text.specs.State.{Entry, Rises, StateView}

-- ---- the order of tickets

abbrev IsBelow : List ℕ → List ℕ → Type 0
IsBelow a b = slice_cmp nat_cmp a b ≡ Less

less_is : (o : Ordering) → is_lt o ≡ true → o ≡ Less
less_is Less is = refl
less_is Equal is = (let both : true ≡ false = sym is in absurd (cc))
less_is Greater is = (let both : true ≡ false = sym is in absurd (cc))

is_below : (a b : List ℕ) → is_lt (slice_cmp nat_cmp a b) ≡ true → IsBelow a b
is_below a b is = less_is (slice_cmp nat_cmp a b) is

apart : (a b : List ℕ) → IsBelow a b → a ≢ b
apart a b is same =
    let itself : slice_cmp nat_cmp a a ≡ Equal = tied_itself nat_list_cmp_total a in
    let less : slice_cmp nat_cmp a a ≡ Less = subst (λ x. slice_cmp nat_cmp a x ≡ Less) (sym same) is in
    let both : Less ≡ Equal = sym less ∙ itself in absurd (cc)

above : (a b : List ℕ) → slice_cmp nat_cmp a b ≡ Greater → IsBelow b a
above a b is = nat_list_cmp_total.antisymm b a ∙ ap ordering_reverse is

unequal : (a b : List ℕ) → a ≢ b → bytes_eq a b ≡ false
unequal a b other = by_test (bytes_eq a b) refl where
  by_test : (t : Bool) → bytes_eq a b ≡ t → t ≡ false
  by_test true is = absurd (other ((bytes_eq-Decides a b).0 is))
  by_test false is = refl

-- ---- what is kept for a ticket

-- of the first entry
kept_first : (entry : Entry) (entries : List Entry) → lookup (bytes_eq entry.0) (entry ∷ entries) ≡ Some entry.1
kept_first entry entries = let itself : bytes_eq entry.0 entry.0 ≡ true = (bytes_eq-Decides entry.0 entry.0).1 refl in rw itself refl

-- nothing for one below all
none_above : (ticket before : List ℕ) (entries : List Entry) → IsBelow ticket before → Rises (Some before) entries → lookup (bytes_eq ticket) entries ≡ None
none_above ticket before [] less rise = refl
none_above ticket before (entry ∷ entries) less rise =
    let further = nat_list_cmp_total.trans ticket before entry.0 less (is_below before entry.0 rise.0) in
    rw (unequal ticket entry.0 (apart ticket entry.0 further)) (none_above ticket entry.0 entries further rise.1)

none_at : (ticket : List ℕ) (entries : List Entry) → Rises (Some ticket) entries → lookup (bytes_eq ticket) entries ≡ None
none_at ticket [] rise = refl
none_at ticket (entry ∷ entries) rise =
    let below = is_below ticket entry.0 rise.0 in
    rw (unequal ticket entry.0 (apart ticket entry.0 below)) (none_above ticket entry.0 entries below rise.1)

none_below : (ticket : List ℕ) (entry : Entry) (entries : List Entry) → IsBelow ticket entry.0 → Rises (Some entry.0) entries → lookup (bytes_eq ticket) (entry ∷ entries) ≡ None
none_below ticket entry entries less rise = rw (unequal ticket entry.0 (apart ticket entry.0 less)) (none_above ticket entry.0 entries less rise)

-- ---- two lists that rise

abbrev KeepOne : List Entry → List Entry → Type 0
KeepOne entries others = (ticket : List ℕ) → lookup (bytes_eq ticket) entries ≡ lookup (bytes_eq ticket) others

-- the first of the one isn't below that of the other
not_below : (entry other : Entry) (entries others : List Entry) → Rises (Some other.0) others → KeepOne (entry ∷ entries) (other ∷ others) → IsBelow entry.0 other.0 → ⊥
not_below entry other entries others rise same less =
    none-some entry.1 (sym (none_below entry.0 other others less rise) ∙ sym (same entry.0) ∙ kept_first entry entries)

one_ticket : (entry other : Entry) (entries others : List Entry) → Rises (Some entry.0) entries → Rises (Some other.0) others → KeepOne (entry ∷ entries) (other ∷ others)
    → (o : Ordering) → slice_cmp nat_cmp entry.0 other.0 ≡ o → entry.0 ≡ other.0
one_ticket entry other entries others rise rise_other same Less is = absurd (not_below entry other entries others rise_other same is)
one_ticket entry other entries others rise rise_other same Equal is = (bytes_decides entry.0 other.0).0 (texts_ties entry.0 other.0 ∙ ap is_eq is)
one_ticket entry other entries others rise rise_other same Greater is =
    absurd (not_below other entry others entries rise (λ ticket. sym (same ticket)) (above entry.0 other.0 is))

-- of the entries after the first the same is kept
more_by : (entry other : Entry) (entries others : List Entry) → Rises (Some entry.0) entries → Rises (Some other.0) others → entry.0 ≡ other.0
    → KeepOne (entry ∷ entries) (other ∷ others) → (ticket : List ℕ) (t : Bool) → bytes_eq ticket entry.0 ≡ t → lookup (bytes_eq ticket) entries ≡ lookup (bytes_eq ticket) others
more_by entry other entries others rise rise_other one same ticket true is =
    let here : ticket ≡ entry.0 = (bytes_eq-Decides ticket entry.0).0 is in
    let mine : lookup (bytes_eq ticket) entries ≡ None = subst (λ x. lookup (bytes_eq x) entries ≡ None) (sym here) (none_at entry.0 entries rise) in
    let yours : lookup (bytes_eq ticket) others ≡ None = subst (λ x. lookup (bytes_eq x) others ≡ None) (sym (here ∙ one)) (none_at other.0 others rise_other) in
    mine ∙ sym yours
more_by entry other entries others rise rise_other one same ticket false is =
    let also : bytes_eq ticket other.0 ≡ false = ap (bytes_eq ticket) (sym one) ∙ is in
    let mine : lookup (bytes_eq ticket) (entry ∷ entries) ≡ lookup (bytes_eq ticket) entries = rw is refl in
    let yours : lookup (bytes_eq ticket) (other ∷ others) ≡ lookup (bytes_eq ticket) others = rw also refl in
    sym mine ∙ same ticket ∙ yours

pub one_list : (before also : Option (List ℕ)) (entries others : List Entry) → Rises before entries → Rises also others → KeepOne entries others → entries ≡ others
one_list before also [] [] rise rise_other same = refl
one_list before also [] (other ∷ others) rise rise_other same = absurd (none-some other.1 (same other.0 ∙ kept_first other others))
one_list before also (entry ∷ entries) [] rise rise_other same = absurd (none-some entry.1 (sym (same entry.0) ∙ kept_first entry entries))
one_list before also (entry ∷ entries) (other ∷ others) rise rise_other same =
    let ticket = one_ticket entry other entries others rise.1 rise_other.1 same (slice_cmp nat_cmp entry.0 other.0) refl in
    let kept : entry.1 ≡ other.1 =
    same_Some entry.1 other.1 (sym (kept_first entry entries) ∙ same entry.0 ∙ ap (λ x. lookup (bytes_eq x) (other ∷ others)) ticket ∙ kept_first other others) in
    let more = one_list (Some entry.0) (Some other.0) entries others rise.1 rise_other.1
    (λ x. more_by entry other entries others rise.1 rise_other.1 ticket same x (bytes_eq x entry.0) refl) in
    λ i. (ticket i, kept i) ∷ more i

-- ---- two states

pub one_state : (mine yours : StateView) → mine.window ≡ yours.window → mine.call ≡ yours.call → mine.moment ≡ yours.moment → mine.kept ≡ yours.kept → mine ≡ yours
one_state mine yours window call moment kept = λ i. record { window = window i; call = call i; moment = moment i; kept = kept i }
