-- Entries tried one after another.
use Rattle.std.proofs.Common.{◌≡◌, ℕ, zero, suc, ◌+◌, ◌-◌, ◌^◌, ◌<◌, ◌&&◌, true, false, List, [], ◌∷◌, ◌++◌, length, take, drop, get_or, Option, Some, None, Ok, nat_le, refl, sym, ◌∙◌, ap, subst, arith}
use Rattle.std.specs.List.{slice_get}
use Rattle.std.specs.Option.{option_map}
use Rattle.std.proofs.lemmas.Bool.{and_parts}
use Rattle.std.proofs.lemmas.Bool.Decides.{nat_tests}
use Rattle.state_text.specs.Reading.{entries_in, follows, last_ticket, most_last}
use Rattle.state_text.specs.State.{AreEntries, EachIsEntry, EachIsKept, Entry, IsEntry, IsKept, IsTicket, Rises, is_above}
use Rattle.state_text.proofs.EntryLaws.{entries_found}

abbrev last_from : Option (List ℕ) → List Entry → Option (List ℕ)
last_from before [] = before
last_from before (e ∷ es) = last_from (Some e.0) es

last_same : (e : Entry) (es : List Entry) → last_from (Some e.0) es ≡ last_ticket (e ∷ es)
last_same e [] = refl
last_same e (f ∷ es) =
    let one : suc (suc (length es)) - 1 ≡ suc (suc (length es) - 1) = omega arith in
    last_same f es ∙ sym (ap (λ n. option_map (λ (x : Entry). x.0) (slice_get (e ∷ f ∷ es) n)) one)

last_is : (es : List Entry) → last_from None es ≡ last_ticket es
last_is [] = refl
last_is (e ∷ es) = last_same e es

each_behind : (call : ℕ) (es : List Entry) (e : Entry) → EachIsEntry call es → IsEntry call e → EachIsEntry call (es ++ e ∷ [])
each_behind call [] e a i = (i, tt)
each_behind call (f ∷ es) e a i = (a.0, each_behind call es e a.1 i)

rise_behind : (before : Option (List ℕ)) (es : List Entry) (e : Entry) → Rises before es → is_above (last_from before es) e.0 ≡ true → Rises before (es ++ e ∷ [])
rise_behind before [] e a above = (above, tt)
rise_behind before (f ∷ es) e a above = (a.0, rise_behind (Some f.0) es e a.1 above)

one_behind : (call : ℕ) (before : Option (List ℕ)) (es : List Entry) (e : Entry) → AreEntries call before es → IsEntry call e → is_above (last_from before es) e.0 ≡ true → AreEntries call before (es ++ e ∷ [])
one_behind call before es e a i above = record { each = each_behind call es e a.each i; rise = rise_behind before es e a.rise above }

each_at : (call : ℕ) (es : List Entry) (e : Entry) (others : List Entry) → EachIsEntry call (es ++ e ∷ others) → IsEntry call e
each_at call [] e others a = a.0
each_at call (f ∷ es) e others a = each_at call es e others a.1

rise_at : (before : Option (List ℕ)) (es : List Entry) (e : Entry) (others : List Entry) → Rises before (es ++ e ∷ others) → is_above (last_from before es) e.0 ≡ true
rise_at before [] e others a = a.0
rise_at before (f ∷ es) e others a = rise_at (Some f.0) es e others a.1

entry_at : (call : ℕ) (before : Option (List ℕ)) (es : List Entry) (e : Entry) (others : List Entry) → AreEntries call before (es ++ e ∷ others) → IsEntry call e × (is_above (last_from before es) e.0 ≡ true)
entry_at call before es e others a = (each_at call es e others a.each, rise_at before es e others a.rise)

-- the test, taken apart and put together
follows_is : (call : ℕ) (before : List Entry) (e : Entry) → IsTicket e.0 → follows call before e ≡ true → IsEntry call e × (is_above (last_ticket before) e.0 ≡ true)
follows_is call before e t h =
    let a = and_parts (nat_le 1 e.1.call && nat_le e.1.call call && nat_le e.1.last most_last) (is_above (last_ticket before) e.0) h in
    let b = and_parts (nat_le 1 e.1.call && nat_le e.1.call call) (nat_le e.1.last most_last) a.0 in
    let c = and_parts (nat_le 1 e.1.call) (nat_le e.1.call call) b.0 in
    (record { ticket = t; some = grind (arith, nat_tests, c.0); within = grind (arith, nat_tests, c.1); last = grind (arith, nat_tests, b.1) }, a.1)

follows_kept : (call : ℕ) (before : List Entry) (e : Entry) → IsKept call e.1 → is_above (last_ticket before) e.0 ≡ true → follows call before e ≡ true
follows_kept call before e i above =
    let some : nat_le 1 e.1.call ≡ true = grind (arith, nat_tests, i.some) in
    let within : nat_le e.1.call call ≡ true = grind (arith, nat_tests, i.within) in
    let last : nat_le e.1.last most_last ≡ true = grind (arith, nat_tests, i.last) in
    rw (some, within, last) above

follows_of : (call : ℕ) (before : List Entry) (e : Entry) → IsEntry call e → is_above (last_ticket before) e.0 ≡ true → follows call before e ≡ true
follows_of call before e i above = follows_kept call before e (record { some = i.some; within = i.within; last = i.last }) above

kept_at : (call : ℕ) (es : List Entry) (e : Entry) (others : List Entry) → EachIsKept call (es ++ e ∷ others) → IsKept call e.1
kept_at call [] e others a = a.0
kept_at call (f ∷ es) e others a = kept_at call es e others a.1

split_at : (xs : List Entry) (i : ℕ) (d : Entry) → i < length xs → xs ≡ take i xs ++ get_or xs i d ∷ drop (i + 1) xs
split_at [] i d h = absurd (omega arith)
split_at (x ∷ xs) zero d h = refl
split_at (x ∷ xs) (suc i) d h = let one : suc i + 1 ≡ suc (i + 1) = omega arith in rw one (ap (λ l. x ∷ l) (split_at xs i d (omega (arith, h))))

taken_more : (xs : List Entry) (i : ℕ) (d : Entry) → i < length xs → take (i + 1) xs ≡ take i xs ++ get_or xs i d ∷ []
taken_more [] i d h = absurd (omega arith)
taken_more (x ∷ xs) zero d h = refl
taken_more (x ∷ xs) (suc i) d h = let one : suc i + 1 ≡ suc (i + 1) = omega arith in rw one (ap (λ l. x ∷ l) (taken_more xs i d (omega (arith, h))))

pub entries_more : (call : ℕ) (kept before : List Entry) (i : ℕ) (e d : Entry) → i < length kept → e ≡ get_or kept i d → before ≡ take i kept → IsTicket e.0 → follows call before e ≡ true
    → AreEntries call None (take i kept) → AreEntries call None (take (i + 1) kept)
entries_more call kept before i e d h is b t f a =
    let g = follows_is call (take i kept) e t (ap (λ x. follows call x e) (sym b) ∙ f) in
    subst (AreEntries call None) (ap (λ x. take i kept ++ x ∷ []) is ∙ sym (taken_more kept i d h))
    (one_behind call None (take i kept) e a g.0 (ap (λ l. is_above l e.0) (last_is (take i kept)) ∙ g.1))

pub entries_not : (call : ℕ) (kept before : List Entry) (i : ℕ) (e d : Entry) → i < length kept → e ≡ get_or kept i d → before ≡ take i kept → follows call before e ≡ false → AreEntries call None kept → ⊥
entries_not call kept before i e d h is b f a =
    let at = entry_at call None (take i kept) e (drop (i + 1) kept) (subst (AreEntries call None) (split_at kept i d h ∙ ap (λ x. take i kept ++ x ∷ drop (i + 1) kept) (sym is)) a) in
    let passes = follows_of call (take i kept) e at.0 (ap (λ l. is_above l e.0) (sym (last_is (take i kept))) ∙ at.1) in
    let both : true ≡ false = sym passes ∙ ap (λ x. follows call x e) (sym b) ∙ f in
    cc

-- what is refused isn't of such calls, or doesn't rise
pub kept_not : (call : ℕ) (kept before : List Entry) (i : ℕ) (e d : Entry) → i < length kept → e ≡ get_or kept i d → before ≡ take i kept → follows call before e ≡ false → EachIsKept call kept → Rises None kept
    → false ≡ true
kept_not call kept before i e d h is b f each rise =
    let split : kept ≡ take i kept ++ e ∷ drop (i + 1) kept = split_at kept i d h ∙ ap (λ x. take i kept ++ x ∷ drop (i + 1) kept) (sym is) in
    let one = kept_at call (take i kept) e (drop (i + 1) kept) (subst (EachIsKept call) split each) in
    let above = rise_at None (take i kept) e (drop (i + 1) kept) (subst (Rises None) split rise) in
    let passes = follows_kept call (take i kept) e one (ap (λ l. is_above l e.0) (sym (last_is (take i kept))) ∙ above) in
    sym f ∙ ap (λ x. follows call x e) b ∙ passes

pub read_are : (most number : ℕ) (lines : List (List ℕ)) (found : List Entry) → most < 2 ^ 64 → entries_in most number [] lines ≡ Ok found → AreEntries most None found
read_are most number lines found low h = let f = entries_found most number [] lines found low h in subst (AreEntries most None) (sym f.all) f.are
