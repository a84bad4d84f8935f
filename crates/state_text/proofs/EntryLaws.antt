-- The entries of a state and its end are read as what they write, and so are only these.
use Rattle.std.proofs.Common.{◌≡◌, ℕ, suc, ◌-◌, ◌^◌, ◌<◌, ◌≤◌, ◌==◌, Bool, true, false, cond, List, [], ◌∷◌, ◌++◌, length, Option, Some, None, Ok, Err, codes, refl, sym, ◌∙◌, ap, subst, arith, append_assoc, append-nil, length-append}
use Rattle.std.specs.List.{slice_get}
use Rattle.std.specs.Option.{option_map}
use Rattle.std.proofs.lemmas.Bool.Decides.{nat_tests}
use Rattle.state_text.specs.Reading.{ends, entries_in, entry_or_end, is_count, kept_on, last_ticket, number_on}
use Rattle.state_text.specs.State.{AreEntries, Entry, is_above}
use Rattle.state_text.specs.StateText.{kept_line, kept_lines, number_line}
use Rattle.state_text.proofs.RowLaws.{FoundEntry, end_not_kept, kept_again, kept_found, number_again, number_found}

-- the line after so many entries
abbrev pub end_line : ℕ → List ℕ
end_line count = number_line (codes "end ") count

last_at : (before : List Entry) (entry : Entry) → slice_get (before ++ entry ∷ []) (length before) ≡ Some entry
last_at [] entry = refl
last_at (b ∷ bs) entry = last_at bs entry

pub last_of_more : (before : List Entry) (entry : Entry) → last_ticket (before ++ entry ∷ []) ≡ Some entry.0
last_of_more before entry =
    let size : length (before ++ entry ∷ []) - 1 ≡ length before = omega (arith, length-append before (entry ∷ [])) in
    ap (λ n. option_map (λ (e : Entry). e.0) (slice_get (before ++ entry ∷ []) n)) size ∙ ap (option_map (λ (e : Entry). e.0)) (last_at before entry)

-- ---- what is written is read

pub ends_again : (before : List Entry) → length before ≤ 4294967295 → ends before (end_line (length before)) ≡ true
ends_again before few =
    let read = number_again (codes "end ") 4294967295 (length before) (omega arith) few in
    let same : (length before == length before) ≡ true = grind (arith, nat_tests) in
    ap (is_count (length before)) read ∙ same

pub entries_again : (most number : ℕ) (before entries : List Entry) (more : List (List ℕ)) → most < 2 ^ 64 → AreEntries most (last_ticket before) entries → length (before ++ entries) ≤ 4294967295
    → entries_in most number before (kept_lines entries ++ end_line (length (before ++ entries)) ∷ more) ≡ Ok (before ++ entries)
entries_again most number before [] more low are few =
    let same : before ++ [] ≡ before = append-nil before in
    let size : length (before ++ []) ≡ length before = ap length same in
    let end : ends before (end_line (length before)) ≡ true = ends_again before (omega (arith, few, size)) in
    rw (same, end_not_kept most (length before), end) refl
entries_again most number before (e ∷ es) more low are few =
    let joined : (before ++ e ∷ []) ++ es ≡ before ++ e ∷ es = append_assoc before (e ∷ []) es in
    let others : AreEntries most (Some e.0) es = record { each = are.each.1; rise = are.rise.1 } in
    let next : AreEntries most (last_ticket (before ++ e ∷ [])) es = subst (λ t. AreEntries most t es) (sym (last_of_more before e)) others in
    let rest = entries_again most (suc number) (before ++ e ∷ []) es more low next (subst (λ x. length x ≤ 4294967295) (sym joined) few) in
    let read = kept_again most e low are.each.0 in
    rw (read, are.rise.0) (subst (λ x. entries_in most (suc number) (before ++ e ∷ []) (kept_lines es ++ end_line (length x) ∷ more) ≡ Ok x) joined rest)

-- ---- what is read was written

pub record FoundEntries (most : ℕ) (before : List Entry) (lines : List (List ℕ)) (found : List Entry) : Type 0 where
  pub entries : List Entry
  pub all : found ≡ before ++ entries
  pub are : AreEntries most (last_ticket before) entries
  pub more : List (List ℕ)
  pub split : lines ≡ kept_lines entries ++ end_line (length found) ∷ more

count_is : (count : ℕ) (o : Option ℕ) → is_count count o ≡ true → o ≡ Some count
count_is count None h = absurd cc
count_is count (Some n) h = let same : n ≡ count = grind (arith, nat_tests) in ap (λ x. Some x) same

end_by : (most number : ℕ) (before : List Entry) (line : List ℕ) (others : List (List ℕ)) (found : List Entry) (t : Bool) → ends before line ≡ t → cond t (Ok before) (Err number) ≡ Ok found
    → FoundEntries most before (line ∷ others) found
end_by most number before line others found true e h =
    let same : before ≡ found = cc in
    let n = number_found (codes "end ") 4294967295 line (length before) (omega arith) (count_is (length before) (number_on (codes "end ") 4294967295 line) e) in
    record { entries = []; all = sym same ∙ sym (append-nil before); are = record { each = tt; rise = tt }; more = others; split = ap (λ l. l ∷ others) (n.0 ∙ ap (λ (x : List Entry). end_line (length x)) same) }
end_by most number before line others found false e h = absurd cc

entry_by : (most number : ℕ) (before : List Entry) (line : List ℕ) (others : List (List ℕ)) (found : List Entry) → most < 2 ^ 64 → (entry : Entry) → FoundEntry most line entry
    → ((b : List Entry) → entries_in most (suc number) b others ≡ Ok found → FoundEntries most b others found)
    → (t : Bool) → is_above (last_ticket before) entry.0 ≡ t → cond t (entries_in most (suc number) (before ++ entry ∷ []) others) (Err number) ≡ Ok found
    → FoundEntries most before (line ∷ others) found
entry_by most number before line others found low entry f below true e h =
    let r = below (before ++ entry ∷ []) h in
    let others_are : AreEntries most (Some entry.0) r.entries = subst (λ t. AreEntries most t r.entries) (last_of_more before entry) r.are in
    record {
      entries = entry ∷ r.entries;
      all = r.all ∙ append_assoc before (entry ∷ []) r.entries;
      are = record { each = (f.is, others_are.each); rise = (e, others_are.rise) };
      more = r.more;
      split = ap (λ l. l ∷ others) f.text ∙ ap (λ ls. kept_line entry ∷ ls) r.split;
    }
entry_by most number before line others found low entry f below false e h = absurd cc

line_by : (most number : ℕ) (before : List Entry) (line : List ℕ) (others : List (List ℕ)) (found : List Entry) → most < 2 ^ 64
    → ((b : List Entry) → entries_in most (suc number) b others ≡ Ok found → FoundEntries most b others found)
    → (o : Option Entry) → kept_on most line ≡ o → entry_or_end number before line (λ entries. entries_in most (suc number) entries others) o ≡ Ok found
    → FoundEntries most before (line ∷ others) found
line_by most number before line others found low below None e h = end_by most number before line others found (ends before line) refl h
line_by most number before line others found low below (Some entry) e h =
    entry_by most number before line others found low entry (kept_found most line entry low e) below (is_above (last_ticket before) entry.0) refl h

pub entries_found : (most number : ℕ) (before : List Entry) (lines : List (List ℕ)) (found : List Entry) → most < 2 ^ 64 → entries_in most number before lines ≡ Ok found → FoundEntries most before lines found
entries_found most number before [] found low h = absurd cc
entries_found most number before (line ∷ others) found low h =
    line_by most number before line others found low (λ b e. entries_found most (suc number) b others found low e) (kept_on most line) refl h
