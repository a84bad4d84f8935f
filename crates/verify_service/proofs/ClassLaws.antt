-- The classes that calls were given.
use Rattle.std.proofs.Common.{◌≡◌, ◌≢◌, ℕ, zero, suc, ◌+◌, ◌-◌, ◌<◌, ◌≤◌, ◌==◌, ◌||◌, Bool, true, false, cond, List, [], ◌∷◌, ◌++◌, drop, get_or, set, length, map, is_some, unwrap_or, Option, Some, None, refl, sym, ap, ◌∙◌, subst, arith, get_or-set_same, get_or-set_other, ◌⊎◌, inl, inr, max}
use Rattle.std.proofs.lemmas.Bool.Decides.{nat_tests}
use Rattle.std.proofs.lemmas.Option.{same_Some}
use Rattle.std.specs.Cmp.Lexicographic.{bytes_decides}
use Rattle.std.specs.List.{slice_get}
use Rattle.std.specs.Str.{bytes_eq}
use Rattle.call_log.specs.Entry.{Entry}
use Rattle.cert_store.specs.Using.{IsOnce, has}
use Rattle.replay_desk.specs.Holder.{DeskId}
use Rattle.verify_rules.specs.declared.settings.Settings.{Settings}
use Rattle.state_text.specs.State.{IsKept}
use Rattle.verify_service.specs.Adding.{kept_as}
use Rattle.verify_service.specs.Classes.{AreGivenClasses, IsGivenClass, IsTicketOf, tickets_in}
use Rattle.verify_service.specs.Judging.{EachPair, call_in}
use Rattle.verify_service.specs.Needed.{once}
use Rattle.verify_service.specs.Prepared.{AreScreened, AreUpTo, HasWords, HaveClass, IsClass, classes_of, numbers_of}
use Rattle.verify_service.specs.Ready.{AreClassed, AreNumbered, HasRoom, class_in, is_passed, ticket_in}
use Rattle.verify_service.specs.Screening.{IsReady, IsScreening, is_open, readings_in, last_in}
use Rattle.verify_service.specs.Service.{EachFollows, last_entry, last_moment_of, last_number, moment_or, number_or}
use Rattle.verify_service.specs.declared.screening.ReadyCall.{ReadyCall}
use Rattle.verify_service.specs.declared.screening.Screening.{Screening}
use Rattle.verify_service.specs.declared.screening.Screening.TheVariants.{Open, Refused, Passed}
use Rattle.verify_service.proofs.FewLaws.{once_each, once_most}
use Rattle.verify_service.proofs.ListLaws.{each_length}

true_is_not_false : true ≡ false → ⊥
true_is_not_false e = cc

-- ---- what is at an index

within_list : {X : Type 0} → (xs : List X) (i : ℕ) (x : X) → slice_get xs i ≡ Some x → i < length xs
within_list [] i x is = absurd cc
within_list (y ∷ ys) zero x is = omega arith
within_list (y ∷ ys) (suc i) x is = let less = within_list ys i x is in omega arith

item_is : {X : Type 0} → (xs : List X) (i : ℕ) (x d : X) → slice_get xs i ≡ Some x → get_or xs i d ≡ x
item_is [] i x d is = absurd cc
item_is (y ∷ ys) zero x d is = same_Some y x is
item_is (y ∷ ys) (suc i) x d is = item_is ys i x d is

or_true : (b : Bool) → (b || true) ≡ true
or_true true = refl
or_true false = refl

has_there : (xs : List (List ℕ)) (i : ℕ) (x : List ℕ) → slice_get xs i ≡ Some x → has x xs ≡ true
has_there [] i x is = absurd cc
has_there (y ∷ ys) zero x is = ap (λ b. b || has x ys) ((bytes_decides x y).1 (sym (same_Some y x is)))
has_there (y ∷ ys) (suc i) x is = ap (λ b. bytes_eq x y || b) (has_there ys i x is) ∙ or_true (bytes_eq x y)

not_again : {P : Type 0} → (y : List ℕ) (ys : List (List ℕ)) (j : ℕ) (x : List ℕ) → has y ys ≡ false → y ≡ x → slice_get ys j ≡ Some x → P
not_again y ys j x none same is = absurd (true_is_not_false (sym (has_there ys j x is) ∙ ap (λ t. has t ys) (sym same) ∙ none))

one_place : (xs : List (List ℕ)) (i j : ℕ) (x : List ℕ) → IsOnce xs → slice_get xs i ≡ Some x → slice_get xs j ≡ Some x → i ≡ j
one_place [] i j x once one other = absurd cc
one_place (y ∷ ys) zero zero x once one other = refl
one_place (y ∷ ys) zero (suc j) x once one other = not_again y ys j x once.0 (same_Some y x one) other
one_place (y ∷ ys) (suc i) zero x once one other = not_again y ys i x once.0 (same_Some y x other) one
one_place (y ∷ ys) (suc i) (suc j) x once one other = ap suc (one_place ys i j x once.1 one other)

-- ---- classes and tickets

given_at : (count : ℕ) (olds news : List ReadyCall) (g : AreGivenClasses count olds news) (at : ℕ) (call : ReadyCall) → slice_get news at ≡ Some call
    → IsGivenClass g.tickets (get_or olds at call) call
given_at count olds news g at call is =
    let less : at < length news = within_list news at call is in
    let same : length news ≡ length olds = g.same in
    let within : at < length olds = omega arith in
    subst (λ (c : ReadyCall). IsGivenClass g.tickets (get_or olds at call) c) (item_is news at call call is) (g.each at call within)

pub are_classed : (count : ℕ) (olds news : List ReadyCall) → AreGivenClasses count olds news → AreClassed news
are_classed count olds news g = record {
  one_ticket = λ at other call second is second_is passed second_passed same.
      let one = (given_at count olds news g at call is).ticket passed in
      let two = (given_at count olds news g other second second_is).ticket second_passed in
      same_Some (ticket_in call.screening) (ticket_in second.screening) (sym one ∙ ap (slice_get g.tickets) same ∙ two);
  one_class = λ at other call second is second_is passed second_passed same.
      let one = (given_at count olds news g at call is).ticket passed in
      let two = (given_at count olds news g other second second_is).ticket second_passed in
      one_place g.tickets (class_in call) (class_in second) (ticket_in second.screening) g.once (one ∙ ap (λ (t : List ℕ). Some t) same) two;
}

class_below : (count : ℕ) (olds news : List ReadyCall) (g : AreGivenClasses count olds news) (at : ℕ) (call : ReadyCall) → slice_get news at ≡ Some call
    → is_passed call.screening ≡ true → class_in call < count
class_below count olds news g at call is passed =
    let less : class_in call < length g.tickets = within_list g.tickets (class_in call) (ticket_in call.screening) ((given_at count olds news g at call is).ticket passed) in
    let many : length g.tickets ≡ count = g.counted in
    omega arith

pub has_room : (count spare : ℕ) (olds news : List ReadyCall) → AreGivenClasses count olds news → count ≤ spare → HasRoom news spare
has_room count spare olds news g room = record {
  classes = count;
  each = λ at call is passed. class_below count olds news g at call is passed;
  room = room;
}

-- ---- the calls stay what they are

ready_still : (settings : Settings) (entry : Entry) (tickets : List (List ℕ)) (old new : ReadyCall) → IsReady settings entry old → IsGivenClass tickets old new → IsReady settings entry new
ready_still settings entry tickets old new ready given = record {
  number = given.number ∙ ready.number;
  moment = given.moment ∙ ready.moment;
  screening = subst (λ (s : Screening). IsScreening (call_in settings entry) s) (sym given.screening) ready.screening;
  known = ap is_open given.screening ∙ ready.known;
  few = subst (λ (s : Screening). length (readings_in s) ≤ 9) (sym given.screening) ready.few;
  last = subst (λ (s : Screening). last_in s ≤ 253402387199) (sym given.screening) ready.last;
}

each_moved : {A B : Type 0} → (R : A → B → Type 0) (T : B → B → Type 0) → ((x : A) (o n : B) → R x o → T o n → R x n) → (xs : List A) (os ns : List B) → EachPair R xs os
    → length ns ≡ length os → ((at : ℕ) (d : B) → at < length os → T (get_or os at d) (get_or ns at d)) → EachPair R xs ns
each_moved R T law [] [] [] each same moved = tt
each_moved R T law [] [] (n ∷ ns) each same moved = absurd (omega arith)
each_moved R T law [] (o ∷ os) ns each same moved = absurd each
each_moved R T law (x ∷ xs) [] ns each same moved = absurd each
each_moved R T law (x ∷ xs) (o ∷ os) [] each same moved = absurd (omega arith)
each_moved R T law (x ∷ xs) (o ∷ os) (n ∷ ns) each same moved =
    (law x o n each.0 (moved 0 o (omega arith)), each_moved R T law xs os ns each.1 (omega arith) (λ at d less. moved (suc at) d (omega arith)))

pub classes_ready : (settings : Settings) (count : ℕ) (entries : List Entry) (olds news : List ReadyCall) → EachPair (IsReady settings) entries olds → AreGivenClasses count olds news
    → EachPair (IsReady settings) entries news
classes_ready settings count entries olds news each g =
    each_moved (IsReady settings) (IsGivenClass g.tickets) (λ entry old new. ready_still settings entry g.tickets old new) entries olds news each g.same g.each

-- ---- the call of the log that is there

beside : {A B P : Type 0} → (R : A → B → Type 0) (xs : List A) (ys : List B) (i : ℕ) (y : B) → EachPair R xs ys → slice_get ys i ≡ Some y
    → ((x : A) → slice_get xs i ≡ Some x → R x y → P) → P
beside R [] [] i y each is next = absurd cc
beside R [] (b ∷ ys) i y each is next = absurd each
beside R (a ∷ xs) [] i y each is next = absurd each
beside R (a ∷ xs) (b ∷ ys) zero y each is next = next a refl (subst (R a) (same_Some b y is) each.0)
beside R (a ∷ xs) (b ∷ ys) (suc i) y each is next = beside R xs ys i y each.1 is next

number_below : (number moment : ℕ) (entries : List Entry) (i : ℕ) (entry : Entry) → EachFollows number moment entries → slice_get entries i ≡ Some entry → entry.number < 4294967295
number_below number moment [] i entry each is = absurd cc
number_below number moment (e ∷ entries) zero entry each is = subst (λ (x : Entry). x.number < 4294967295) (same_Some e entry is) each.0.below
number_below number moment (e ∷ entries) (suc i) entry each is = number_below e.number e.moment entries i entry each.1 is

number_above : (number moment : ℕ) (entries : List Entry) (i : ℕ) (entry : Entry) → EachFollows number moment entries → slice_get entries i ≡ Some entry → number < entry.number
number_above number moment [] i entry each is = absurd cc
number_above number moment (e ∷ entries) zero entry each is = subst (λ (x : Entry). number < x.number) (same_Some e entry is) each.0.above
number_above number moment (e ∷ entries) (suc i) entry each is =
    let further : e.number < entry.number = number_above e.number e.moment entries i entry each.1 is in
    let first : number < e.number = each.0.above in
    omega arith

apart : {P : Type 0} → (e a b : Entry) (moment : ℕ) (entries : List Entry) (j : ℕ) → EachFollows e.number moment entries → e ≡ a → slice_get entries j ≡ Some b → a.number ≡ b.number → P
apart e a b moment entries j each is other same =
    let above : e.number < b.number = number_above e.number moment entries j b each other in
    let first : e.number ≡ a.number = ap (λ (x : Entry). x.number) is in
    absurd (omega arith)

one_number : (number moment : ℕ) (entries : List Entry) (i j : ℕ) (a b : Entry) → EachFollows number moment entries → slice_get entries i ≡ Some a → slice_get entries j ≡ Some b
    → a.number ≡ b.number → i ≡ j
one_number number moment [] i j a b each one other same = absurd cc
one_number number moment (e ∷ entries) zero zero a b each one other same = refl
one_number number moment (e ∷ entries) zero (suc j) a b each one other same = apart e a b e.moment entries j each.1 (same_Some e a one) other same
one_number number moment (e ∷ entries) (suc i) zero a b each one other same = apart e b a e.moment entries i each.1 (same_Some e b other) one (sym same)
one_number number moment (e ∷ entries) (suc i) (suc j) a b each one other same = ap suc (one_number e.number e.moment entries i j a b each.1 one other same)

pub numbered : (settings : Settings) (number moment : ℕ) (entries : List Entry) (calls : List ReadyCall) → EachFollows number moment entries → EachPair (IsReady settings) entries calls → AreNumbered calls
numbered settings number moment entries calls follow each = λ at other call second is second_is same.
    beside (IsReady settings) entries calls at call each is (λ one one_is one_ready.
    beside (IsReady settings) entries calls other second each second_is (λ two two_is two_ready.
    one_number number moment entries at other one two follow one_is two_is (sym one_ready.number ∙ same ∙ two_ready.number)))

-- ---- what is owed for the desk

class_by : (b : Bool) (class : Option ℕ) (words : ℕ) → is_some class ≡ b → (b ≡ true → unwrap_or class 0 < words) → 1 ≤ words → unwrap_or class 0 < words
class_by true class words is below some = below refl
class_by false None words is below some = omega arith
class_by false (Some n) words is below some = absurd (true_is_not_false is)

pub have_class : (settings : Settings) (number moment count : ℕ) (desk : DeskId) (entries : List Entry) (olds news : List ReadyCall) → EachFollows number moment entries
    → EachPair (IsReady settings) entries olds → AreGivenClasses count olds news → count ≤ desk.words → 1 ≤ desk.words → HaveClass desk news
have_class settings number moment count desk entries olds news follow each g many some = λ at call is.
    beside (IsReady settings) entries news at call (classes_ready settings count entries olds news each g) is (λ entry entry_is ready. record {
      known = ready.known;
      classed = (given_at count olds news g at call is).some;
      class = class_by (is_passed call.screening) call.class desk.words (given_at count olds news g at call is).some
          (λ passed. let less : class_in call < count = class_below count olds news g at call is passed in omega arith) some;
      number = (let below : entry.number < 4294967295 = number_below number moment entries at entry follow entry_is in let same : call.number ≡ entry.number = ready.number in omega arith);
    })

-- ---- the last call

abbrev number_in : Entry → ℕ
number_in entry = entry.number

numbers_are : (settings : Settings) (entries : List Entry) (calls : List ReadyCall) → EachPair (IsReady settings) entries calls → numbers_of calls ≡ map number_in entries
numbers_are settings [] [] each = refl
numbers_are settings [] (call ∷ calls) each = absurd each
numbers_are settings (entry ∷ entries) [] each = absurd each
numbers_are settings (entry ∷ entries) (call ∷ calls) each =
    ap (λ n. n ∷ numbers_of calls) each.0.number ∙ ap (λ (l : List ℕ). entry.number ∷ l) (numbers_are settings entries calls each.1)

number_at : (number : ℕ) (entries : List Entry) (i : ℕ) → i < length entries → slice_get (map number_in entries) i ≡ Some (number_or number (slice_get entries i))
number_at number [] i within = absurd (omega arith)
number_at number (e ∷ entries) zero within = refl
number_at number (e ∷ entries) (suc i) within = number_at number entries i (omega arith)

-- the last call is that of those after the first, if there are any
last_behind : (x y : Entry) (ys : List Entry) → last_entry (x ∷ y ∷ ys) ≡ last_entry (y ∷ ys)
last_behind x y ys = let e : length (x ∷ y ∷ ys) - 1 ≡ suc (length (y ∷ ys) - 1) = omega arith in ap (slice_get (x ∷ y ∷ ys)) e

last_front : (number : ℕ) (x : Entry) (xs : List Entry) → last_number number (x ∷ xs) ≡ last_number x.number xs
last_front number x [] = refl
last_front number x (y ∷ ys) = ap (number_or number) (last_behind x y ys) ∙ last_front number y ys ∙ sym (last_front x.number y ys)

pub rises_to : (number moment : ℕ) (entries : List Entry) → EachFollows number moment entries → number ≤ last_number number entries
rises_to number moment [] each = omega arith
rises_to number moment (e ∷ entries) each =
    let above : number < e.number = each.0.above in
    let more : e.number ≤ last_number e.number entries = rises_to e.number e.moment entries each.1 in
    subst (λ n. number ≤ n) (sym (last_front number e entries)) (omega arith)

last_moment_front : (moment : ℕ) (x : Entry) (xs : List Entry) → last_moment_of moment (x ∷ xs) ≡ last_moment_of x.moment xs
last_moment_front moment x [] = refl
last_moment_front moment x (y ∷ ys) = ap (moment_or moment) (last_behind x y ys) ∙ last_moment_front moment y ys ∙ sym (last_moment_front x.moment y ys)

-- the last call comes by the end of the year 9999
pub moments_within : (number moment : ℕ) (entries : List Entry) → EachFollows number moment entries → moment ≤ 253402300799 → last_moment_of moment entries ≤ 253402300799
moments_within number moment [] each within = within
moments_within number moment (e ∷ entries) each within =
    subst (λ n. n ≤ 253402300799) (sym (last_moment_front moment e entries)) (moments_within e.number e.moment entries each.1 each.0.within)

number_upto : (number moment : ℕ) (entries : List Entry) (i : ℕ) (entry : Entry) → EachFollows number moment entries → slice_get entries i ≡ Some entry → entry.number ≤ last_number number entries
number_upto number moment [] i entry each is = absurd cc
number_upto number moment (e ∷ entries) zero entry each is =
    subst (λ n. entry.number ≤ n) (sym (last_front number e entries))
    (subst (λ (x : Entry). x.number ≤ last_number e.number entries) (same_Some e entry is) (rises_to e.number e.moment entries each.1))
number_upto number moment (e ∷ entries) (suc i) entry each is =
    subst (λ n. entry.number ≤ n) (sym (last_front number e entries)) (number_upto e.number e.moment entries i entry each.1 is)

are_upto : (settings : Settings) (number moment : ℕ) (entries : List Entry) (calls : List ReadyCall) → EachFollows number moment entries → EachPair (IsReady settings) entries calls
    → AreUpTo (last_number number entries) calls
are_upto settings number moment entries calls follow each = λ at call is.
    beside (IsReady settings) entries calls at call each is (λ entry entry_is ready.
    let same : call.number ≡ entry.number = ready.number in
    let above : number < entry.number = number_above number moment entries at entry follow entry_is in
    let upto : entry.number ≤ last_number number entries = number_upto number moment entries at entry follow entry_is in
    (omega arith, subst (λ n. n ≤ last_number number entries) (sym same) upto))

pub last_screened : (settings : Settings) (number moment : ℕ) (entries : List Entry) (calls : List ReadyCall) → 1 ≤ length entries → EachFollows number moment entries
    → EachPair (IsReady settings) entries calls → AreScreened settings (last_number number entries) calls
last_screened settings number moment entries calls some follow each = record {
  entries = entries;
  screened = each;
  last = ap (λ (l : List ℕ). slice_get l (length calls - 1)) (numbers_are settings entries calls each)
      ∙ ap (λ n. slice_get (map number_in entries) (n - 1)) (each_length (IsReady settings) entries calls each)
      ∙ number_at number entries (length entries - 1) (omega arith);
  upto = are_upto settings number moment entries calls follow each;
}

-- what is kept of each such call is within its bounds
pub are_kept : (settings : Settings) (number : ℕ) (calls : List ReadyCall) → AreScreened settings number calls
    → (at : ℕ) (call : ReadyCall) → slice_get calls at ≡ Some call → IsKept number (kept_as call)
are_kept settings number calls screened = λ at call is.
    let bounds = screened.upto at call is in
    beside (IsReady settings) screened.entries calls at call screened.screened is (λ entry entry_is ready. record { some = bounds.0; within = bounds.1; last = ready.last })

-- ---- one call more is given its class

front_stays : (xs ys : List (List ℕ)) (i : ℕ) (x : List ℕ) → slice_get xs i ≡ Some x → slice_get (xs ++ ys) i ≡ Some x
front_stays [] ys i x is = absurd cc
front_stays (z ∷ xs) ys zero x is = is
front_stays (z ∷ xs) ys (suc i) x is = front_stays xs ys i x is

stays_by : (b : Bool) (f g xs : List (List ℕ)) (i : ℕ) (x : List ℕ) → slice_get (once f xs) i ≡ Some x → slice_get (once g xs) i ≡ Some x → slice_get (cond b (once f xs) (once g xs)) i ≡ Some x
stays_by true f g xs i x one other = one
stays_by false f g xs i x one other = other

-- the text at an index stays when texts are added
once_stays : (found xs : List (List ℕ)) (i : ℕ) (x : List ℕ) → slice_get found i ≡ Some x → slice_get (once found xs) i ≡ Some x
once_stays found [] i x is = is
once_stays found (y ∷ ys) i x is =
    stays_by (has y found) found (found ++ y ∷ []) ys i x (once_stays found ys i x is) (once_stays (found ++ y ∷ []) ys i x (front_stays found (y ∷ []) i x is))

still_given : (tickets more : List (List ℕ)) (old new : ReadyCall) → IsGivenClass tickets old new → IsGivenClass (once tickets more) old new
still_given tickets more old new given = record {
  number = given.number;
  moment = given.moment;
  screening = given.screening;
  some = given.some;
  ticket = λ passed. once_stays tickets more (class_in new) (ticket_in new.screening) (given.ticket passed);
}

-- at most one ticket is added
one_ticket : (screening : Screening) → length (tickets_in screening) ≤ 1
one_ticket Open = omega arith
one_ticket (Refused refused) = omega arith
one_ticket (Passed screened) = omega arith

pub few_next : (tickets : List (List ℕ)) (screening : Screening) (now : List (List ℕ)) (at : ℕ) → now ≡ once tickets (tickets_in screening) → length tickets ≤ at → length now ≤ at + 1
few_next tickets screening now at is few =
    let most : length (once tickets (tickets_in screening)) ≤ length tickets + length (tickets_in screening) = once_most tickets (tickets_in screening) in
    let one : length (tickets_in screening) ≤ 1 = one_ticket screening in
    let same : length now ≡ length (once tickets (tickets_in screening)) = ap length is in
    omega arith

pub once_next : (tickets : List (List ℕ)) (screening : Screening) (now : List (List ℕ)) → now ≡ once tickets (tickets_in screening) → IsOnce tickets → IsOnce now
once_next tickets screening now is each = subst IsOnce (sym is) (once_each tickets (tickets_in screening) each)

first_of_rest : (calls : List ReadyCall) (at : ℕ) (d : ReadyCall) → get_or (drop at calls) 0 d ≡ get_or calls at d
first_of_rest [] zero d = refl
first_of_rest [] (suc at) d = refl
first_of_rest (c ∷ calls) zero d = refl
first_of_rest (c ∷ calls) (suc at) d = first_of_rest calls at d

same_call : (calls : List ReadyCall) (at : ℕ) (a b : ReadyCall) → at < length calls → get_or calls at a ≡ get_or calls at b
same_call [] at a b within = absurd (omega arith)
same_call (c ∷ calls) zero a b within = refl
same_call (c ∷ calls) (suc at) a b within = same_call calls at a b (omega arith)

abbrev with_class : ReadyCall → Option ℕ → ReadyCall
with_class call class = record call { class = class }

given_here : (tickets : List (List ℕ)) (old : ReadyCall) (class : Option ℕ) → is_some class ≡ is_passed old.screening
    → (is_passed old.screening ≡ true → slice_get tickets (unwrap_or class 0) ≡ Some (ticket_in old.screening)) → IsGivenClass tickets old (with_class old class)
given_here tickets old class some ticket = record { number = refl; moment = refl; screening = refl; some = some; ticket = ticket }

given_by : (tickets more : List (List ℕ)) (calls before : List ReadyCall) (at k : ℕ) (new d : ReadyCall) (t : Bool) → (k == at) ≡ t → at < length calls
    → IsGivenClass (once tickets more) (get_or before at d) new → (k < at → IsGivenClass tickets (get_or before k d) (get_or calls k d)) → k < at + 1
    → IsGivenClass (once tickets more) (get_or before k d) (get_or (set calls at new) k d)
given_by tickets more calls before at k new d true is within here there below =
    let same : at ≡ k = grind (arith, nat_tests) in
    subst (λ n. IsGivenClass (once tickets more) (get_or before n d) (get_or (set calls at new) n d)) same
    (subst (λ (c : ReadyCall). IsGivenClass (once tickets more) (get_or before at d) c) (sym (get_or-set_same calls at new d within)) here)
given_by tickets more calls before at k new d false is within here there below =
    let apart : k ≢ at = grind (arith, nat_tests) in
    subst (λ (c : ReadyCall). IsGivenClass (once tickets more) (get_or before k d) c) (sym (get_or-set_other calls at k new d apart))
    (still_given tickets more (get_or before k d) (get_or calls k d) (there (omega arith)))

pub given_next : (tickets now : List (List ℕ)) (calls before : List ReadyCall) (at : ℕ) (r s : ReadyCall) (class : Option ℕ) → at < length calls → drop at calls ≡ drop at before
    → now ≡ once tickets (tickets_in (get_or calls at r).screening) → is_some class ≡ is_passed (get_or calls at r).screening
    → (is_passed (get_or calls at r).screening ≡ true → slice_get now (unwrap_or class 0) ≡ Some (ticket_in (get_or calls at r).screening))
    → ((k : ℕ) (d : ReadyCall) → k < at → IsGivenClass tickets (get_or before k d) (get_or calls k d))
    → (k : ℕ) (d : ReadyCall) → k < at + 1 → IsGivenClass now (get_or before k d) (get_or (set calls at (record (get_or calls at s) { class = class })) k d)
given_next tickets now calls before at r s class within rest is some ticket given k d below =
    let old : ReadyCall = get_or calls at r in
    let new : ReadyCall = with_class old class in
    let more : List (List ℕ) = tickets_in old.screening in
    let same : old ≡ get_or before at d =
    same_call calls at r d within ∙ sym (first_of_rest calls at d) ∙ ap (λ (l : List ReadyCall). get_or l 0 d) rest ∙ first_of_rest before at d in
    let own : IsGivenClass now old new = given_here now old class some ticket in
    let here : IsGivenClass (once tickets more) (get_or before at d) new =
    subst (λ (o : ReadyCall). IsGivenClass (once tickets more) o new) same (subst (λ (ts : List (List ℕ)). IsGivenClass ts old new) is own) in
    subst (λ (o : ReadyCall). IsGivenClass now (get_or before k d) (get_or (set calls at (with_class o class)) k d)) (same_call calls at r s within)
    (subst (λ (ts : List (List ℕ)). IsGivenClass ts (get_or before k d) (get_or (set calls at new) k d)) (sym is)
    (given_by tickets more calls before at k new d (k == at) refl within here (given k d) below))

-- ---- each ticket is that of a call

abbrev Uses : List (List ℕ) → ℕ → List ReadyCall → Type 0
Uses tickets count calls = (i : ℕ) (ticket : List ℕ) → slice_get tickets i ≡ Some ticket → IsTicketOf count calls ticket

in_pushed : (xs : List (List ℕ)) (x : List ℕ) (i : ℕ) (y : List ℕ) → slice_get (xs ++ x ∷ []) i ≡ Some y → (slice_get xs i ≡ Some y) ⊎ (x ≡ y)
in_pushed [] x zero y is = inr (same_Some x y is)
in_pushed [] x (suc i) y is = absurd cc
in_pushed (z ∷ xs) x zero y is = inl is
in_pushed (z ∷ xs) x (suc i) y is = in_pushed xs x i y is

still_used : (count : ℕ) (calls : List ReadyCall) (ticket : List ℕ) → IsTicketOf count calls ticket → IsTicketOf (count + 1) calls ticket
still_used count calls ticket used = (used.0, (let less = used.1 in omega arith), used.2)

pushed_used : (tickets : List (List ℕ)) (ticket : List ℕ) (at : ℕ) (before : List ReadyCall) (b : Bool) → Uses tickets at before → IsTicketOf (at + 1) before ticket
    → Uses (cond b tickets (tickets ++ ticket ∷ [])) (at + 1) before
pushed_used tickets ticket at before true used here i other is = still_used at before other (used i other is)
pushed_used tickets ticket at before false used here i other is = by (in_pushed tickets ticket i other is)
  where
    by : (slice_get tickets i ≡ Some other) ⊎ (ticket ≡ other) → IsTicketOf (at + 1) before other
    by (inl old) = still_used at before other (used i other old)
    by (inr new) = subst (IsTicketOf (at + 1) before) new here

used_by : (tickets : List (List ℕ)) (at : ℕ) (before : List ReadyCall) (screening : Screening) → ((d : ReadyCall) → (get_or before at d).screening ≡ screening) → Uses tickets at before
    → Uses (once tickets (tickets_in screening)) (at + 1) before
used_by tickets at before Open own used = λ i ticket is. still_used at before ticket (used i ticket is)
used_by tickets at before (Refused refused) own used = λ i ticket is. still_used at before ticket (used i ticket is)
used_by tickets at before (Passed screened) own used =
    pushed_used tickets (ticket_in (Passed screened)) at before (has (ticket_in (Passed screened)) tickets) used (at, (omega arith), (λ d. (ap is_passed (own d), ap ticket_in (own d))))

pub used_next : (tickets now : List (List ℕ)) (calls before : List ReadyCall) (at : ℕ) (r : ReadyCall) → at < length calls → drop at calls ≡ drop at before
    → now ≡ once tickets (tickets_in (get_or calls at r).screening) → Uses tickets at before → Uses now (at + 1) before
used_next tickets now calls before at r within rest is used =
    let same : (d : ReadyCall) → (get_or before at d).screening ≡ (get_or calls at r).screening = λ d.
    ap (λ (c : ReadyCall). c.screening) (sym (first_of_rest before at d) ∙ ap (λ (l : List ReadyCall). get_or l 0 d) (sym rest) ∙ first_of_rest calls at d ∙ same_call calls at d r within) in
    subst (λ (ts : List (List ℕ)). Uses ts (at + 1) before) (sym is) (used_by tickets at before (get_or calls at r).screening same used)

-- ---- a word of the desk for each class

there_at : {X : Type 0} → (xs : List X) (i : ℕ) → i < length xs → (x : X) × (slice_get xs i ≡ Some x)
there_at [] i less = absurd (omega arith)
there_at (x ∷ xs) zero less = (x, refl)
there_at (x ∷ xs) (suc i) less = there_at xs i (omega arith)

some_of : (class : Option ℕ) (i : ℕ) → is_some class ≡ true → unwrap_or class 0 ≡ i → class ≡ Some i
some_of None i some is = absurd cc
some_of (Some class) i some is = ap (λ n. Some n) is

mapped_to : (calls : List ReadyCall) (at : ℕ) (call : ReadyCall) → slice_get calls at ≡ Some call → slice_get (classes_of calls) at ≡ Some call.class
mapped_to [] at call is = absurd cc
mapped_to (c ∷ calls) zero call is = ap (λ (x : ReadyCall). Some x.class) (same_Some c call is)
mapped_to (c ∷ calls) (suc at) call is = mapped_to calls at call is

mapped_from : (calls : List ReadyCall) (at class : ℕ) → slice_get (classes_of calls) at ≡ Some (Some class) → (call : ReadyCall) × (slice_get calls at ≡ Some call) × (call.class ≡ Some class)
mapped_from [] at class is = absurd cc
mapped_from (c ∷ calls) zero class is = (c, refl, same_Some c.class (Some class) is)
mapped_from (c ∷ calls) (suc at) class is = mapped_from calls at class is

class_used : (count : ℕ) (olds news : List ReadyCall) (g : AreGivenClasses count olds news) (class : ℕ) → class < count → IsClass (classes_of news) class
class_used count olds news g class less =
    let within : class < length g.tickets = (let many = g.counted in omega arith) in
    let found = there_at g.tickets class within in
    let used = g.used class found.0 found.1 in
    let below : used.0 < length news = (let same = g.same in let first = used.1 in omega arith) in
    let there = there_at news used.0 below in
    let call : ReadyCall = there.0 in
    let given = given_at count olds news g used.0 call there.1 in
    let of = used.2 call in
    let passed : is_passed call.screening ≡ true = ap is_passed given.screening ∙ of.0 in
    let ticket : slice_get g.tickets (class_in call) ≡ Some found.0 = given.ticket passed ∙ ap (λ t. Some t) (ap ticket_in given.screening ∙ of.1) in
    let same : class_in call ≡ class = one_place g.tickets (class_in call) class found.0 g.once ticket found.1 in
    (used.0, mapped_to news used.0 call there.1 ∙ ap (λ (c : Option ℕ). Some c) (some_of call.class class (given.some ∙ passed) same))

some_is : (class : Option ℕ) (i : ℕ) → class ≡ Some i → (is_some class ≡ true) × (unwrap_or class 0 ≡ i)
some_is class i is = (ap is_some is, ap (λ c. unwrap_or c 0) is)

class_within : (count : ℕ) (olds news : List ReadyCall) → AreGivenClasses count olds news → (class : ℕ) → IsClass (classes_of news) class → class < count
class_within count olds news g class of =
    let found = mapped_from news of.0 class of.1 in
    let call : ReadyCall = found.0 in
    let given = given_at count olds news g of.0 call found.1 in
    let is = some_is call.class class found.2 in
    let below : class_in call < count = class_below count olds news g of.0 call found.1 (sym given.some ∙ is.0) in
    let same : class_in call ≡ class = is.1 in
    omega arith

pub has_words : (count : ℕ) (olds news : List ReadyCall) (desk : DeskId) → AreGivenClasses count olds news → desk.words ≡ max count 1 → HasWords desk (classes_of news)
has_words zero olds news desk g words = record {
  each = λ class of. (let none : class < 0 = class_within zero olds news g class of in absurd (omega arith));
  no_more = λ class less. inr (words, (λ other of. (let none : other < 0 = class_within zero olds news g other of in absurd (omega arith))));
}
has_words (suc count) olds news desk g words = record {
  each = λ class of. (let below : class < suc count = class_within (suc count) olds news g class of in omega (arith, words, below));
  no_more = λ class less. inl (class_used (suc count) olds news g class (omega (arith, words, less)));
}
