-- Entries of tickets that rise are entries of different tickets, so that a past of them keeps each.
use Rattle.std.proofs.Common.{◌≡◌, ◌≢◌, ℕ, zero, suc, ◌+◌, ◌<◌, Bool, true, false, List, [], ◌∷◌, ◌++◌, get_or, length, take, Option, Some, None, refl, sym, ap, ◌∙◌, subst, arith}
use Rattle.std.proofs.lemmas.Cmp.{nat_list_cmp_total, tied_itself}
use Rattle.std.proofs.lemmas.Option.{none-some, same_Some}
use Rattle.std.proofs.lemmas.Slice.Eq.{bytes_eq-Decides}
use Rattle.std.specs.Cmp.Lexicographic.{slice_cmp}
use Rattle.std.specs.List.{slice_get}
use Rattle.std.specs.Map.{lookup}
use Rattle.std.specs.Option.{option_map}
use Rattle.std.specs.Ordering.{is_lt, nat_cmp}
use Rattle.std.specs.Str.{bytes_eq}
use Rattle.std.specs.declared.cmp.Ordering.{Ordering}
use Rattle.std.specs.declared.cmp.Ordering.TheVariants.{Less, Equal, Greater}
use Rattle.replay_desk.specs.Past.{PastView, found, unless_below}
use Rattle.state_text.specs.State.{EachIsEntry, EachIsKept, Entry, IsEntry, IsKept, Rises, StateView}
use Rattle.state_text.specs.declared.kept.Kept.{Kept}
use Rattle.replay_law.specs.Held.{purged}
use Rattle.verify_service.specs.Handing.{IsStateOf, kept_by}
use Rattle.verify_service.specs.Rows.{held, kept_of_past}
use Rattle.verify_service.specs.Service.{EachKept, ServiceView}
use Rattle.verify_service.proofs.PastLaws.{held_purged}

-- ---- the order of tickets

less_is : (o : Ordering) → is_lt o ≡ true → o ≡ Less
less_is Less is = refl
less_is Equal is = (let both : true ≡ false = sym is in absurd (cc))
less_is Greater is = (let both : true ≡ false = sym is in absurd (cc))

is_below : (a b : List ℕ) → is_lt (slice_cmp nat_cmp a b) ≡ true → slice_cmp nat_cmp a b ≡ Less
is_below a b is = less_is (slice_cmp nat_cmp a b) is

apart : (a b : List ℕ) → slice_cmp nat_cmp a b ≡ Less → a ≢ b
apart a b is same =
    let itself : slice_cmp nat_cmp a a ≡ Equal = tied_itself nat_list_cmp_total a in
    let less : slice_cmp nat_cmp a a ≡ Less = subst (λ x. slice_cmp nat_cmp a x ≡ Less) (sym same) is in
    let both : Less ≡ Equal = sym less ∙ itself in absurd (cc)

unequal : (a b : List ℕ) → a ≢ b → bytes_eq a b ≡ false
unequal a b other = by_test (bytes_eq a b) refl where
  by_test : (t : Bool) → bytes_eq a b ≡ t → t ≡ false
  by_test true is = absurd (other ((bytes_eq-Decides a b).0 is))
  by_test false is = refl

itself : (a : List ℕ) → bytes_eq a a ≡ true
itself a = (bytes_eq-Decides a a).1 refl

-- ---- each is found by its ticket, and before it none is

-- one that comes later is above this one
stands_above : (before : List ℕ) (es : List Entry) (at : ℕ) (e : Entry) → Rises (Some before) es → slice_get es at ≡ Some e → slice_cmp nat_cmp before e.0 ≡ Less
stands_above before [] at e rise is = absurd (none-some e is)
stands_above before (x ∷ es) zero e rise is = subst (λ (y : Entry). slice_cmp nat_cmp before y.0 ≡ Less) (same_Some x e is) (is_below before x.0 rise.0)
stands_above before (x ∷ es) (suc at) e rise is =
    nat_list_cmp_total.trans before x.0 e.0 (is_below before x.0 rise.0) (stands_above x.0 es at e rise.1 is)

pub found_each : (before : Option (List ℕ)) (es : List Entry) (at : ℕ) (e : Entry) → Rises before es → slice_get es at ≡ Some e → lookup (bytes_eq e.0) es ≡ Some e.1
found_each before [] at e rise is = absurd (none-some e is)
found_each before (x ∷ es) zero e rise is =
    subst (λ (y : Entry). lookup (bytes_eq y.0) (x ∷ es) ≡ Some y.1) (same_Some x e is) (rw (itself x.0) refl)
found_each before (x ∷ es) (suc at) e rise is =
    let other : bytes_eq e.0 x.0 ≡ false = unequal e.0 x.0 (λ same. apart x.0 e.0 (stands_above x.0 es at e rise.1 is) (sym same)) in
    rw other (found_each (Some x.0) es at e rise.1 is)

pub free_before : (before : Option (List ℕ)) (es : List Entry) (at : ℕ) (e : Entry) → Rises before es → slice_get es at ≡ Some e → lookup (bytes_eq e.0) (take at es) ≡ None
free_before before [] at e rise is = absurd (none-some e is)
free_before before (x ∷ es) zero e rise is = refl
free_before before (x ∷ es) (suc at) e rise is =
    let other : bytes_eq e.0 x.0 ≡ false = unequal e.0 x.0 (λ same. apart x.0 e.0 (stands_above x.0 es at e rise.1 is) (sym same)) in
    rw other (free_before (Some x.0) es at e rise.1 is)

-- ---- one more is kept

pub stands : {X : Type 0} → (xs : List X) (i : ℕ) (d : X) → i < length xs → slice_get xs i ≡ Some (get_or xs i d)
stands [] i d within = absurd (omega arith)
stands (x ∷ xs) zero d within = refl
stands (x ∷ xs) (suc i) d within = stands xs i d (omega arith)

more_by : (ticket : List ℕ) (x e : Entry) (es : List Entry) (t : Bool) → bytes_eq ticket x.0 ≡ t → lookup (bytes_eq ticket) (x ∷ es) ≡ None
    → (lookup (bytes_eq ticket) es ≡ None → lookup (bytes_eq ticket) (es ++ e ∷ []) ≡ lookup (bytes_eq ticket) (e ∷ []))
    → lookup (bytes_eq ticket) (x ∷ (es ++ e ∷ [])) ≡ lookup (bytes_eq ticket) (e ∷ [])
more_by ticket x e es true is none more = (let there : lookup (bytes_eq ticket) (x ∷ es) ≡ Some x.1 = rw is refl in absurd (none-some x.1 (sym none ∙ there)))
more_by ticket x e es false is none more = (let rest : lookup (bytes_eq ticket) (x ∷ es) ≡ lookup (bytes_eq ticket) es = rw is refl in rw is (more (sym rest ∙ none)))

lookup_more : (ticket : List ℕ) (es : List Entry) (e : Entry) → lookup (bytes_eq ticket) es ≡ None → lookup (bytes_eq ticket) (es ++ e ∷ []) ≡ lookup (bytes_eq ticket) (e ∷ [])
lookup_more ticket [] e none = refl
lookup_more ticket (x ∷ es) e none = more_by ticket x e es (bytes_eq ticket x.0) refl none (λ rest. lookup_more ticket es e rest)

same_by : (ticket : List ℕ) (x e : Entry) (es : List Entry) (t : Bool) → bytes_eq ticket x.0 ≡ t → lookup (bytes_eq ticket) (es ++ e ∷ []) ≡ lookup (bytes_eq ticket) es
    → lookup (bytes_eq ticket) (x ∷ (es ++ e ∷ [])) ≡ lookup (bytes_eq ticket) (x ∷ es)
same_by ticket x e es true is more = rw is refl
same_by ticket x e es false is more = rw is more

lookup_same : (ticket : List ℕ) (es : List Entry) (e : Entry) → bytes_eq ticket e.0 ≡ false → lookup (bytes_eq ticket) (es ++ e ∷ []) ≡ lookup (bytes_eq ticket) es
lookup_same ticket [] e other = rw other refl
lookup_same ticket (x ∷ es) e other = same_by ticket x e es (bytes_eq ticket x.0) refl (lookup_same ticket es e other)

pub kept_next : (es : List Entry) (at : ℕ) (e : Entry) (mid now : PastView) → Rises None es → slice_get es at ≡ Some e → take (at + 1) es ≡ take at es ++ e ∷ []
    → ((ticket : List ℕ) → found mid ticket ≡ lookup (bytes_eq ticket) (take at es)) → found now e.0 ≡ Some e.1
    → ((other : List ℕ) → other ≢ e.0 → found now other ≡ found mid other) → (ticket : List ℕ) → found now ticket ≡ lookup (bytes_eq ticket) (take (at + 1) es)
kept_next es at e mid now rise is more before added others ticket = by_test (bytes_eq ticket e.0) refl where
  by_test : (t : Bool) → bytes_eq ticket e.0 ≡ t → found now ticket ≡ lookup (bytes_eq ticket) (take (at + 1) es)
  by_test true same =
      let one : ticket ≡ e.0 = (bytes_eq-Decides ticket e.0).0 same in
      let free : lookup (bytes_eq ticket) (take at es) ≡ None = subst (λ x. lookup (bytes_eq x) (take at es) ≡ None) (sym one) (free_before None es at e rise is) in
      let last : lookup (bytes_eq ticket) (e ∷ []) ≡ Some e.1 = rw same refl in
      ap (found now) one ∙ added ∙ sym (ap (lookup (bytes_eq ticket)) more ∙ lookup_more ticket (take at es) e free ∙ last)
  by_test false other =
      others ticket (λ one. let same = (bytes_eq-Decides ticket e.0).1 one in let both : true ≡ false = sym same ∙ other in absurd (cc))
      ∙ before ticket ∙ sym (ap (lookup (bytes_eq ticket)) more ∙ lookup_same ticket (take at es) e other)

pub free_here : (es : List Entry) (at : ℕ) (e : Entry) (mid : PastView) → Rises None es → slice_get es at ≡ Some e
    → ((ticket : List ℕ) → found mid ticket ≡ lookup (bytes_eq ticket) (take at es)) → found mid e.0 ≡ None
free_here es at e mid rise is before = before e.0 ∙ free_before None es at e rise is

-- ---- bounds, both ways

kept_at : (call : ℕ) (e : Entry) (es : List Entry) (ticket : List ℕ) (kept : Kept) (t : Bool) → bytes_eq ticket e.0 ≡ t → IsEntry call e → lookup (bytes_eq ticket) (e ∷ es) ≡ Some kept
    → (lookup (bytes_eq ticket) es ≡ Some kept → IsKept call kept) → IsKept call kept
kept_at call e es ticket kept true same one is more =
    let here : lookup (bytes_eq ticket) (e ∷ es) ≡ Some e.1 = rw same refl in
    subst (IsKept call) (same_Some e.1 kept (sym here ∙ is)) (record { some = one.some; within = one.within; last = one.last })
kept_at call e es ticket kept false other one is more = (let there : lookup (bytes_eq ticket) (e ∷ es) ≡ lookup (bytes_eq ticket) es = rw other refl in more (sym there ∙ is))

entry_at : (call : ℕ) (es : List Entry) (ticket : List ℕ) (kept : Kept) → EachIsEntry call es → lookup (bytes_eq ticket) es ≡ Some kept → IsKept call kept
entry_at call [] ticket kept each is = absurd (none-some kept is)
entry_at call (e ∷ es) ticket kept each is = kept_at call e es ticket kept (bytes_eq ticket e.0) refl each.0 is (λ rest. entry_at call es ticket kept each.1 rest)

-- what a state keeps is within its bounds
pub restored_kept : (call : ℕ) (es : List Entry) (past : PastView) → EachIsEntry call es → ((ticket : List ℕ) → found past ticket ≡ lookup (bytes_eq ticket) es) → EachKept call past
restored_kept call es past each same = λ ticket kept is. entry_at call es ticket kept each (sym (same ticket) ∙ is)

each_is_kept : (call : ℕ) (es : List Entry) → ((at : ℕ) (e : Entry) → slice_get es at ≡ Some e → IsKept call e.1) → EachIsKept call es
each_is_kept call [] these = tt
each_is_kept call (e ∷ es) these = (these 0 e refl, each_is_kept call es (λ at x is. these (suc at) x is))

-- and so is what a service keeps, as a list
pub listed_kept : (call : ℕ) (es : List Entry) (past : PastView) → EachKept call past → Rises None es → ((ticket : List ℕ) → lookup (bytes_eq ticket) es ≡ found past ticket) → EachIsKept call es
listed_kept call es past each rise same = each_is_kept call es (λ at e is. each e.0 e.1 (sym (same e.0) ∙ found_each None es at e rise is))

-- ---- the state of a service

pub state_of_service : (seen service : ServiceView) (next : PastView) (state : StateView) (entries : List Entry) (window : ℕ) → seen ≡ service → window ≡ service.settings.past
    → state ≡ record { window = window; call = seen.number; moment = seen.moment; kept = entries } → ((ticket : List ℕ) → found next ticket ≡ unless_below seen.moment (found seen.past ticket))
    → ((ticket : List ℕ) → lookup (bytes_eq ticket) entries ≡ found next ticket) → IsStateOf service state
state_of_service seen service next state entries window same past is purges listed = record {
  window = ap (λ (s : StateView). s.window) is ∙ past;
  call = ap (λ (s : StateView). s.call) is ∙ ap (λ (s : ServiceView). s.number) same;
  moment = ap (λ (s : StateView). s.moment) is ∙ ap (λ (s : ServiceView). s.moment) same;
  kept = λ ticket.
      subst (λ (s : ServiceView). purged s.moment (held s.past) ticket ≡ held next ticket) same (held_purged seen.moment seen.past next purges ticket)
      ∙ ap (option_map kept_of_past) (sym (listed ticket)) ∙ ap (λ (s : StateView). kept_by s.kept ticket) (sym is);
}
