-- Calls that are judged twice in one world have one summary.
use Rattle.std.proofs.Common.{◌≡◌, ℕ, suc, ◌+◌, Bool, true, false, ◌||◌, List, [], ◌∷◌, inl, inr, length, refl, sym, ◌∙◌, ap, subst, arith}
use Rattle.std.specs.List.{list_any}
use Rattle.std.proofs.lemmas.Option.{same_Some}
use Rattle.call_log.specs.Entry.{Entry}
use Rattle.replay_law.specs.Row.{Uses}
use Rattle.verify_rules.specs.Call.{Call}
use Rattle.verify_rules.specs.World.{World}
use Rattle.verify_rules.specs.declared.refusal.Refusal.{Refusal}
use Rattle.verify_rules.specs.declared.settings.Settings.{Settings}
use Rattle.verify_service.specs.Causes.{is_unasked, is_unread}
use Rattle.verify_service.specs.Judging.{EachJudged, IsJudged, call_in}
use Rattle.verify_service.specs.Rows.{passes, row_of, rows_of}
use Rattle.verify_service.specs.declared.outcome.Outcome.{Outcome}
use Rattle.verify_service.specs.declared.outcome.Outcome.TheVariants.{Valid, Refused, Replay, Unread, Unasked}
use Rattle.drill.specs.Summary.{JudgedWhole, as_refused, as_replay, as_valid, count_as, summary}
use Rattle.drill.specs.Winners.{PassesIn, all_rows, more_valid, valid_count}
use Rattle.drill.proofs.WinnerLaws.{one_count}

-- ---- one call

-- both pass, or both are refused by the same code
record Alike (one other : Outcome) : Type 0 where
  pass : passes one ≡ passes other
  code : (code : ℕ) → as_refused code one ≡ as_refused code other

refused_alike : (one other : Refusal) → one ≡ other → Alike (Refused one) (Refused other)
refused_alike one other e = record { pass = refl; code = λ code. ap (λ (r : Refusal). as_refused code (Refused r)) e }

alike : (world : World) (call : Call) (one other : Outcome) → IsJudged world call one → IsJudged world call other → is_unread one ≡ false → is_unasked one ≡ false → is_unread other ≡ false
    → is_unasked other ≡ false → Alike one other
alike world call (Unread bad) other j k r a s b = absurd cc
alike world call (Unasked bad) other j k r a s b = absurd cc
alike world call Valid (Unread bad) j k r a s b = absurd cc
alike world call Valid (Unasked bad) j k r a s b = absurd cc
alike world call (Refused refused) (Unread bad) j k r a s b = absurd cc
alike world call (Refused refused) (Unasked bad) j k r a s b = absurd cc
alike world call (Replay winner) (Unread bad) j k r a s b = absurd cc
alike world call (Replay winner) (Unasked bad) j k r a s b = absurd cc
alike world call Valid Valid j k r a s b = record { pass = refl; code = λ code. refl }
alike world call Valid (Refused refused) j k r a s b = absurd (let both = sym j ∙ k in cc)
alike world call Valid (Replay winner) j k r a s b = record { pass = refl; code = λ code. refl }
alike world call (Refused refused) Valid j k r a s b = absurd (let both = sym k ∙ j in cc)
alike world call (Refused refused) (Refused other) j k r a s b = refused_alike refused other (same_Some refused other (sym j ∙ k))
alike world call (Refused refused) (Replay winner) j k r a s b = absurd (let both = sym k ∙ j in cc)
alike world call (Replay winner) Valid j k r a s b = record { pass = refl; code = λ code. refl }
alike world call (Replay winner) (Refused refused) j k r a s b = absurd (let both = sym j ∙ k in cc)
alike world call (Replay winner) (Replay other) j k r a s b = record { pass = refl; code = λ code. refl }

-- ---- all calls

abbrev EachAlike : List Outcome → List Outcome → Type 0
EachAlike [] [] = Unit {0}
EachAlike [] (other ∷ others) = ⊥
EachAlike (one ∷ ones) [] = ⊥
EachAlike (one ∷ ones) (other ∷ others) = Alike one other × EachAlike ones others

none_of : (a b : Bool) → (a || b) ≡ false → (a ≡ false) × (b ≡ false)
none_of true b h = absurd cc
none_of false b h = (refl, h)

each_alike : (world : World) (settings : Settings) (calls : List Entry) (ones others : List Outcome) → EachJudged settings world calls ones → EachJudged settings world calls others
    → list_any is_unread ones ≡ false → list_any is_unasked ones ≡ false → list_any is_unread others ≡ false → list_any is_unasked others ≡ false → EachAlike ones others
each_alike world settings [] [] [] j k r a s b = tt
each_alike world settings [] [] (other ∷ others) j k r a s b = absurd k
each_alike world settings [] (one ∷ ones) others j k r a s b = absurd j
each_alike world settings (call ∷ calls) [] others j k r a s b = absurd j
each_alike world settings (call ∷ calls) (one ∷ ones) [] j k r a s b = absurd k
each_alike world settings (call ∷ calls) (one ∷ ones) (other ∷ others) j k r a s b =
    let unread_one = none_of (is_unread one) (list_any is_unread ones) r in
    let unasked_one = none_of (is_unasked one) (list_any is_unasked ones) a in
    let unread_other = none_of (is_unread other) (list_any is_unread others) s in
    let unasked_other = none_of (is_unasked other) (list_any is_unasked others) b in
    (alike world (call_in settings call) one other j.0 k.0 unread_one.0 unasked_one.0 unread_other.0 unasked_other.0, each_alike world settings calls ones others j.1 k.1 unread_one.1 unasked_one.1 unread_other.1 unasked_other.1)

same_length : (ones others : List Outcome) → EachAlike ones others → length ones ≡ length others
same_length [] [] e = refl
same_length [] (other ∷ others) e = absurd e
same_length (one ∷ ones) [] e = absurd e
same_length (one ∷ ones) (other ∷ others) e = ap suc (same_length ones others e.1)

same_codes : (code : ℕ) (ones others : List Outcome) → EachAlike ones others → count_as (as_refused code) ones ≡ count_as (as_refused code) others
same_codes code [] [] e = refl
same_codes code [] (other ∷ others) e = absurd e
same_codes code (one ∷ ones) [] e = absurd e
same_codes code (one ∷ ones) (other ∷ others) e =
    ap (λ n. n + count_as (as_refused code) ones) (e.0.code code) ∙ ap (λ n. as_refused code other + n) (same_codes code ones others e.1)

-- ---- those that pass

abbrev as_passing : Bool → ℕ
as_passing true = 1
as_passing false = 0

one_passing : (one : Outcome) → as_valid one + as_replay one ≡ as_passing (passes one)
one_passing Valid = refl
one_passing (Refused refused) = refl
one_passing (Replay winner) = refl
one_passing (Unread bad) = refl
one_passing (Unasked bad) = refl

same_passing : (ones others : List Outcome) → EachAlike ones others → count_as as_valid ones + count_as as_replay ones ≡ count_as as_valid others + count_as as_replay others
same_passing [] [] e = refl
same_passing [] (other ∷ others) e = absurd e
same_passing (one ∷ ones) [] e = absurd e
same_passing (one ∷ ones) (other ∷ others) e =
    let rest = same_passing ones others e.1 in
    let here = one_passing one ∙ ap as_passing e.0.pass ∙ sym (one_passing other) in
    omega (arith, rest, here)

uses_alike : (settings : Settings) (call : Entry) (one other : Outcome) (ticket : List ℕ) → passes one ≡ passes other → Uses ticket (row_of settings call one) → Uses ticket (row_of settings call other)
uses_alike settings call one other ticket e uses = record { passes = sym e ∙ uses.passes; same = uses.same }

same_tickets : (settings : Settings) (calls : List Entry) (ones others : List Outcome) (ticket : List ℕ) → EachAlike ones others → PassesIn ticket (rows_of settings calls ones)
    → PassesIn ticket (rows_of settings calls others)
same_tickets settings [] ones others ticket e p = absurd p
same_tickets settings (call ∷ calls) [] others ticket e p = absurd p
same_tickets settings (call ∷ calls) (one ∷ ones) [] ticket e p = absurd e
same_tickets settings (call ∷ calls) (one ∷ ones) (other ∷ others) ticket e (inl uses) = inl (uses_alike settings call one other ticket e.0.pass uses)
same_tickets settings (call ∷ calls) (one ∷ ones) (other ∷ others) ticket e (inr p) = inr (same_tickets settings calls ones others ticket e.1 p)

turned : (ones others : List Outcome) → EachAlike ones others → EachAlike others ones
turned [] [] e = tt
turned [] (other ∷ others) e = absurd e
turned (one ∷ ones) [] e = absurd e
turned (one ∷ ones) (other ∷ others) e = (record { pass = sym e.0.pass; code = λ code. sym (e.0.code code) }, turned ones others e.1)

-- ---- valid calls, as rows and as outcomes

one_more : (settings : Settings) (call : Entry) (one : Outcome) (count : ℕ) → more_valid (row_of settings call one).answer count ≡ as_valid one + count
one_more settings call Valid count = omega arith
one_more settings call (Refused refused) count = omega arith
one_more settings call (Replay winner) count = omega arith
one_more settings call (Unread bad) count = omega arith
one_more settings call (Unasked bad) count = omega arith

counted : (world : World) (settings : Settings) (calls : List Entry) (ones : List Outcome) → EachJudged settings world calls ones → valid_count (rows_of settings calls ones) ≡ count_as as_valid ones
counted world settings [] [] j = refl
counted world settings [] (one ∷ ones) j = absurd j
counted world settings (call ∷ calls) [] j = absurd j
counted world settings (call ∷ calls) (one ∷ ones) j =
    one_more settings call one (valid_count (rows_of settings calls ones)) ∙ ap (λ n. as_valid one + n) (counted world settings calls ones j.1)

-- ---- the summary

summary_by : (ones others : List Outcome) → length ones ≡ length others → count_as as_valid ones ≡ count_as as_valid others → count_as as_replay ones ≡ count_as as_replay others
    → ((code : ℕ) → count_as (as_refused code) ones ≡ count_as (as_refused code) others) → summary ones ≡ summary others
summary_by ones others n v r c = rw (n, v, r, c 403, c 428, c 437, c 438) refl

pub one_summary : (world : World) (settings : Settings) (calls : List Entry) (ones others : List Outcome) → JudgedWhole world settings calls ones → JudgedWhole world settings calls others
    → summary ones ≡ summary others
one_summary world settings calls ones others j k =
    let each = each_alike world settings calls ones others j.each k.each j.read j.asked k.read k.asked in
    let to : (ticket : List ℕ) → PassesIn ticket (all_rows j.rounds) → PassesIn ticket (all_rows k.rounds) =
    λ ticket p. subst (PassesIn ticket) (sym k.cut) (same_tickets settings calls ones others ticket each (subst (PassesIn ticket) j.cut p)) in
    let back : (ticket : List ℕ) → PassesIn ticket (all_rows k.rounds) → PassesIn ticket (all_rows j.rounds) =
    λ ticket p. subst (PassesIn ticket) (sym j.cut) (same_tickets settings calls others ones ticket (turned ones others each) (subst (PassesIn ticket) k.cut p)) in
    let valid : count_as as_valid ones ≡ count_as as_valid others =
    sym (counted world settings calls ones j.each) ∙ ap valid_count (sym j.cut)
    ∙ one_count j.rounds k.rounds j.legal k.legal (record { to = to; back = back })
    ∙ ap valid_count k.cut ∙ counted world settings calls others k.each in
    let passing = same_passing ones others each in
    let replay : count_as as_replay ones ≡ count_as as_replay others = omega (arith, valid, passing) in
    summary_by ones others (same_length ones others each) valid replay (λ code. same_codes code ones others each)
