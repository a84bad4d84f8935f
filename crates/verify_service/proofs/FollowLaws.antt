-- The test whether calls follow on means that they do.
use Rattle.std.proofs.Common.{◌≡◌, ℕ, ◌<◌, ◌≤◌, nat_lt, nat_le, Bool, true, false, ◌&&◌, IsTrue, ◌↔◌, List, [], ◌∷◌, length, drop, get_or, ◌+◌, refl, sym, ap, ◌∙◌, arith}
use Rattle.std.proofs.lemmas.Bool.{and_from, and_parts}
use Rattle.std.proofs.lemmas.Bool.Decides.{nat_tests}
use Rattle.std.proofs.lemmas.List.{drop_more}
use Rattle.call_log.specs.Entry.{Entry}
use Rattle.text_grammar.specs.Moment.{last_second}
use Rattle.verify_service.specs.Service.{EachFollows, Follow, Follows, all_follow, follows_on}
use Rattle.verify_service.proofs.TestLaws.{false_is_not_true}

follows_said : (number moment : ℕ) (entry : Entry) → follows_on number moment entry ≡ true → Follows number moment entry
follows_said number moment entry is =
    let one = and_parts (nat_lt number entry.number && nat_lt entry.number 4294967295 && nat_le moment entry.moment) (nat_le entry.moment last_second) is in
    let two = and_parts (nat_lt number entry.number && nat_lt entry.number 4294967295) (nat_le moment entry.moment) one.0 in
    let three = and_parts (nat_lt number entry.number) (nat_lt entry.number 4294967295) two.0 in
    record {
      above = (let h : nat_lt number entry.number ≡ true = three.0 in grind (arith, nat_tests));
      below = (let h : nat_lt entry.number 4294967295 ≡ true = three.1 in grind (arith, nat_tests));
      not_before = (let h : nat_le moment entry.moment ≡ true = two.1 in grind (arith, nat_tests));
      within = (let h : nat_le entry.moment last_second ≡ true = one.1 in grind (arith, nat_tests));
    }

says_follows : (number moment : ℕ) (entry : Entry) → Follows number moment entry → follows_on number moment entry ≡ true
says_follows number moment entry h =
    let a : nat_lt number entry.number ≡ true = grind (arith, nat_tests, h.above) in
    let b : nat_lt entry.number 4294967295 ≡ true = grind (arith, nat_tests, h.below) in
    let c : nat_le moment entry.moment ≡ true = grind (arith, nat_tests, h.not_before) in
    let d : nat_le entry.moment last_second ≡ true = grind (arith, nat_tests, h.within) in
    and_from (nat_lt number entry.number && nat_lt entry.number 4294967295 && nat_le moment entry.moment) (nat_le entry.moment last_second)
    (and_from (nat_lt number entry.number && nat_lt entry.number 4294967295) (nat_le moment entry.moment)
    (and_from (nat_lt number entry.number) (nat_lt entry.number 4294967295) a b) c) d

all_said : (number moment : ℕ) (entries : List Entry) → all_follow number moment entries ≡ true → EachFollows number moment entries
all_said number moment [] is = tt
all_said number moment (e ∷ entries) is =
    let parts = and_parts (follows_on number moment e) (all_follow e.number e.moment entries) is in
    (follows_said number moment e parts.0, all_said e.number e.moment entries parts.1)

says_all : (number moment : ℕ) (entries : List Entry) → EachFollows number moment entries → all_follow number moment entries ≡ true
says_all number moment [] each = refl
says_all number moment (e ∷ entries) each = and_from (follows_on number moment e) (all_follow e.number e.moment entries) (says_follows number moment e each.0) (says_all e.number e.moment entries each.1)

-- of 1 to 256 calls the test says whether they follow
pub follow_means : (number moment : ℕ) (entries : List Entry) (answer : Bool) → answer ≡ all_follow number moment entries → 1 ≤ length entries → length entries ≤ 256
    → IsTrue answer ↔ Follow number moment entries
follow_means number moment entries answer is some few = (
  λ so. record { some = some; few = few; each = all_said number moment entries (sym is ∙ so) },
  λ follow. is ∙ says_all number moment entries follow.each,
)

-- none or more than 256 don't
pub follow_none : (number moment : ℕ) (entries : List Entry) → length entries ≡ 0 → IsTrue false ↔ Follow number moment entries
follow_none number moment entries none = (λ so. absurd (false_is_not_true so), λ follow. absurd (let some : 1 ≤ length entries = follow.some in omega arith))

pub follow_many : (number moment : ℕ) (entries : List Entry) → 256 < length entries → IsTrue false ↔ Follow number moment entries
follow_many number moment entries many = (λ so. absurd (false_is_not_true so), λ follow. absurd (let few : length entries ≤ 256 = follow.few in omega arith))

-- ---- the test, call by call

left_is : (number moment : ℕ) (entries : List Entry) (i : ℕ) (entry d : Entry) (all : Bool) → all_follow number moment (drop i entries) ≡ all → i < length entries
    → entry ≡ get_or entries i d → (follows_on number moment entry && all_follow entry.number entry.moment (drop (i + 1) entries)) ≡ all
left_is number moment entries i entry d all left within is =
    ap (all_follow number moment) (ap (λ (e : Entry). e ∷ drop (i + 1) entries) is ∙ sym (drop_more entries i d within)) ∙ left

pub follows_more : (number moment : ℕ) (entries : List Entry) (i : ℕ) (entry d : Entry) (all : Bool) → all_follow number moment (drop i entries) ≡ all → i < length entries
    → entry ≡ get_or entries i d → follows_on number moment entry ≡ true → all_follow entry.number entry.moment (drop (i + 1) entries) ≡ all
follows_more number moment entries i entry d all left within is so =
    ap (λ t. t && all_follow entry.number entry.moment (drop (i + 1) entries)) (sym so) ∙ left_is number moment entries i entry d all left within is

pub follows_not : (number moment : ℕ) (entries : List Entry) (i : ℕ) (entry d : Entry) (all : Bool) → all_follow number moment (drop i entries) ≡ all → i < length entries
    → entry ≡ get_or entries i d → follows_on number moment entry ≡ false → false ≡ all
follows_not number moment entries i entry d all left within is not_so =
    ap (λ t. t && all_follow entry.number entry.moment (drop (i + 1) entries)) (sym not_so) ∙ left_is number moment entries i entry d all left within is
