-- Bytes are one log, and a log is made of its first call and the log after it.
use Rattle.std.proofs.Common.{◌≡◌, ℕ, ◌+◌, ◌*◌, ◌≤◌, List, [], ◌∷◌, ◌++◌, length, Option, Some, None, IfNone, Result, Ok, Err, refl, sym, ◌∙◌, ap, subst, arith, inl, inr, append-nil, append_assoc}
use Rattle.std.specs.Io.KnownBytes.{Consumes, IsAtEnd}
use Rattle.call_log.proofs.HeaderLaws.{headed_append, headed_size, headed_some, one_head}
use Rattle.std.proofs.lemmas.Fmt.{length-decimal-le}
use Rattle.call_log.specs.Entry.{Entry, entry_text, headed, most_entries}
use Rattle.call_log.specs.Fault.{BeginsBackward, IsBackward, IsGrammar, IsMany, Knows, Shows}
use Rattle.call_log.specs.HandsOut.{HandsCall, HandsNone, HandsOutOf}
use Rattle.call_log.specs.Log.{AreCalls, IsNext, LogText, NoEntry, Passed, after, after_all, entry_texts}
use Rattle.call_log.specs.Reading.{Finds}
use Rattle.call_log.specs.Reads.{Reads}
use Rattle.call_log.specs.declared.fault.LogFault.{LogFault}
use Rattle.call_log.specs.declared.fault.LogFault.TheVariants.{Grammar, Backward, Many, Source, Memory}

-- ---- one call

same_front : (a b x y : List ℕ) → length a ≡ length b → a ++ x ≡ b ++ y → (a ≡ b) × (x ≡ y)
same_front [] [] x y l e = (refl, e)
same_front [] (c ∷ b) x y l e = absurd (omega (arith, l))
same_front (c ∷ a) [] x y l e = absurd (omega (arith, l))
same_front (c ∷ a) (d ∷ b) x y l e =
    let k = same_front a b x y (omega (arith, l)) (cc) in
    let first : c ≡ d = cc in
    let rest : a ≡ b = k.0 in
    (cc, k.1)

same_call : (c d : Entry) → c.number ≡ d.number → c.moment ≡ d.moment → c.message ≡ d.message → c ≡ d
same_call c d number moment message = λ i. record { number = number i; moment = moment i; message = message i }

-- the next call and what comes after it are found again
one_call : (passed : Passed) (c d : Entry) (x y : List ℕ) → IsNext passed c → IsNext passed d → entry_text c ++ x ≡ entry_text d ++ y → (c ≡ d) × (x ≡ y)
one_call passed c d x y nc nd e =
    let whole : headed c.moment (length c.message) (c.message ++ x) ≡ headed d.moment (length d.message) (d.message ++ y) = sym (headed_append c.moment (length c.message) c.message x) ∙ e ∙ headed_append d.moment (length d.message) d.message y in
    let k = one_head c.moment (length c.message) d.moment (length d.message) (c.message ++ x) (d.message ++ y) nc.moment_within nc.length_within nd.moment_within nd.length_within whole in
    let m = same_front c.message d.message x y k.1 k.2 in
    (same_call c d (nc.numbered ∙ sym nd.numbered) k.0 m.0, m.1)

-- ---- the whole log

one_by : (passed : Passed) (calls others : List Entry) (rest behind : List ℕ) → AreCalls passed calls → AreCalls passed others → NoEntry (after_all passed calls) rest → NoEntry (after_all passed others) behind
    → entry_texts calls ++ rest ≡ entry_texts others ++ behind → (calls ≡ others) × (rest ≡ behind)
one_by passed [] [] rest behind a b n m e = (refl, e)
one_by passed [] (d ∷ ds) rest behind a b n m e = absurd (n d (entry_texts ds ++ behind) b.0 (e ∙ append_assoc (entry_text d) (entry_texts ds) behind))
one_by passed (c ∷ cs) [] rest behind a b n m e = absurd (m c (entry_texts cs ++ rest) a.0 (sym e ∙ append_assoc (entry_text c) (entry_texts cs) rest))
one_by passed (c ∷ cs) (d ∷ ds) rest behind a b n m e =
    let k = one_call passed c d (entry_texts cs ++ rest) (entry_texts ds ++ behind) a.0 b.0 (sym (append_assoc (entry_text c) (entry_texts cs) rest) ∙ e ∙ append_assoc (entry_text d) (entry_texts ds) behind) in
    let same : c ≡ d = k.0 in
    let Follow : Entry → Type 0 = λ x. AreCalls (after passed x) ds in
    let Ends : Entry → Type 0 = λ x. NoEntry (after_all (after passed x) ds) behind in
    let t = one_by (after passed c) cs ds rest behind a.1 (subst Follow (sym same) b.1) n (subst Ends (sym same) m) k.1 in
    let tail : cs ≡ ds = t.0 in
    (cc, t.1)

pub one_log : (passed : Passed) (bytes : List ℕ) (calls others : List Entry) (rest behind : List ℕ) → LogText passed bytes calls rest → LogText passed bytes others behind → (calls ≡ others) × (rest ≡ behind)
one_log passed bytes calls others rest behind l m = one_by passed calls others rest behind l.follow m.follow l.longest m.longest (sym l.text ∙ m.text)

longer_by : (passed : Passed) (calls others : List Entry) (rest behind : List ℕ) → AreCalls passed calls → AreCalls passed others → NoEntry (after_all passed calls) rest
    → entry_texts calls ++ rest ≡ entry_texts others ++ behind → length others ≤ length calls
longer_by passed calls [] rest behind a b n e = omega arith
longer_by passed [] (d ∷ ds) rest behind a b n e = absurd (n d (entry_texts ds ++ behind) b.0 (e ∙ append_assoc (entry_text d) (entry_texts ds) behind))
longer_by passed (c ∷ cs) (d ∷ ds) rest behind a b n e =
    let k = one_call passed c d (entry_texts cs ++ rest) (entry_texts ds ++ behind) a.0 b.0 (sym (append_assoc (entry_text c) (entry_texts cs) rest) ∙ e ∙ append_assoc (entry_text d) (entry_texts ds) behind) in
    let Follow : Entry → Type 0 = λ x. AreCalls (after passed x) ds in
    let t = longer_by (after passed c) cs ds rest behind a.1 (subst Follow (sym k.0) b.1) n k.1 in
    omega (arith, t)

pub no_longer : (passed : Passed) (bytes : List ℕ) (calls others : List Entry) (rest behind : List ℕ) → LogText passed bytes calls rest → AreCalls passed others → bytes ≡ entry_texts others ++ behind → length others ≤ length calls
no_longer passed bytes calls others rest behind l follow e = longer_by passed calls others rest behind l.follow follow l.longest (sym l.text ∙ e)

-- ---- what the reader's answers say of the log

no_calls : (passed : Passed) (bytes : List ℕ) → NoEntry passed bytes → LogText passed bytes [] bytes
no_calls passed bytes none = record { text = refl; follow = tt; longest = none }

nil_no_entry : (passed : Passed) → NoEntry passed []
nil_no_entry passed = λ call behind next e. headed_some call.moment (length call.message) (call.message ++ behind) (sym (headed_append call.moment (length call.message) call.message behind) ∙ sym e)

many_no_entry : (passed : Passed) (bytes : List ℕ) → passed.count ≡ most_entries → NoEntry passed bytes
many_no_entry passed bytes full = λ call behind next e. omega (arith, full, next.room)

backward_no_entry : (passed : Passed) (bytes : List ℕ) → BeginsBackward passed bytes → NoEntry passed bytes
backward_no_entry passed bytes b = λ call behind next e.
    let whole : headed b.moment b.said b.behind ≡ headed call.moment (length call.message) (call.message ++ behind) = sym b.text ∙ e ∙ headed_append call.moment (length call.message) call.message behind in
    let k = one_head b.moment b.said call.moment (length call.message) b.behind (call.message ++ behind) b.moment_within b.length_within next.moment_within next.length_within whole in
    omega (arith, k.0, b.below, next.not_backward)

-- what is known of the bytes taken holds of all that were left
shown : (P : List ℕ → Type 0) (bytes taken : List ℕ) (now : Option (List ℕ)) → Consumes (Some bytes) now taken → Shows P taken now → P bytes
shown P bytes taken None c s = absurd c
shown P bytes taken (Some more) c (inl s) = subst P (sym c) (s.settled more)
shown P bytes taken (Some more) c (inr s) = subst P (sym (c ∙ ap (λ x. taken ++ x) s.ended ∙ append-nil taken)) s.holds

hands_none : (passed : Passed) (bytes taken : List ℕ) (now : Option (List ℕ)) (fault : LogFault) → Consumes (Some bytes) now taken → Knows passed taken now fault → HandsNone passed bytes fault
hands_none passed bytes taken now (Grammar place) c k = let g = shown (IsGrammar passed place) bytes taken now c k in record { log = no_calls passed bytes g.no_entry; has = g }
hands_none passed bytes taken now (Backward place) c k = let g = shown (IsBackward passed place) bytes taken now c k in record { log = no_calls passed bytes (backward_no_entry passed bytes g.backward); has = g }
hands_none passed bytes taken now (Many place) c k = let g = shown (IsMany passed place) bytes taken now c k in record { log = no_calls passed bytes (many_no_entry passed bytes g.full); has = g }
hands_none passed bytes taken now Source c k = tt
hands_none passed bytes taken now Memory c k = tt

hands_call : (passed : Passed) (bytes : List ℕ) (now : Option (List ℕ)) (call : Entry) → IsNext passed call → Consumes (Some bytes) now (entry_text call) → HandsCall passed bytes now call
hands_call passed bytes None call next c = absurd c
hands_call passed bytes (Some behind) call next c = record {
  behind = behind;
  left = refl;
  goes_on = λ others rest l. record {
    text = c ∙ ap (λ x. entry_text call ++ x) l.text ∙ sym (append_assoc (entry_text call) (entry_texts others) rest);
    follow = (next, l.follow);
    longest = l.longest;
  };
}

hands_end : (passed : Passed) (bytes : List ℕ) (now : Option (List ℕ)) → Consumes (Some bytes) now [] → IsAtEnd now → LogText passed bytes [] []
hands_end passed bytes None c end = absurd c
hands_end passed bytes (Some behind) c end = record { text = c ∙ end; follow = tt; longest = nil_no_entry passed }

hands_by : (passed : Passed) (left now : Option (List ℕ)) (result : Result (Option Entry) LogFault) → Reads passed left now result → HandsOutOf passed left now result
hands_by passed None now result r = tt
hands_by passed (Some bytes) now (Ok (Some call)) r = hands_call passed bytes now call r.next r.taken
hands_by passed (Some bytes) now (Ok None) r = hands_end passed bytes now r.none_taken r.ended
hands_by passed (Some bytes) now (Err fault) r = hands_none passed bytes r.taken now fault r.consumed r.known

pub hands_out : (stopped : Option LogFault) (passed : Passed) (left now : Option (List ℕ)) (result : Result (Option Entry) LogFault) → IfNone stopped (Reads passed left now result) → IfNone stopped (HandsOutOf passed left now result)
hands_out None passed left now result r = hands_by passed left now result r
hands_out (Some fault) passed left now result r = tt

-- what is found after nothing is what is read
pub reads : (passed : Passed) (left now : Option (List ℕ)) (result : Result (Option Entry) LogFault) → Finds passed [] left now result → Reads passed left now result
reads passed left now (Ok (Some call)) f = record { next = f.next; taken = subst (Consumes left now) f.whole f.consumed }
reads passed left now (Ok None) f = record { none_taken = f.none_taken; ended = f.ended }
reads passed left now (Err fault) f = record { taken = f.taken; consumed = f.consumed; known = f.known }

-- an entry is at most so long
pub entry_short : (passed : Passed) (call : Entry) → IsNext passed call → length (entry_text call) ≤ 131093
entry_short passed call next =
    let moment = length-decimal-le 12 call.moment (omega arith) (omega (arith, next.moment_within)) (omega (arith, next.moment_within)) in
    let said = length-decimal-le 6 (length call.message) (omega arith) (omega (arith, next.length_within)) (omega (arith, next.length_within)) in
    omega (arith, headed_size call.moment (length call.message) call.message, moment, said, next.length_within)

pub size_short : (passed : Passed) (call found : Entry) (size : ℕ) → IsNext passed found → call ≡ found → size ≡ length (entry_text call) → size ≤ 131093
size_short passed call found size next same e = omega (arith, e, ap (λ (x : Entry). length (entry_text x)) same, entry_short passed found next)

-- one more call keeps the bounds
pub bounds : (passed now : Passed) (call found : Entry) → now ≡ after passed call → IsNext passed found → call ≡ found → passed.number ≤ 4000000000 + passed.count → passed.place ≤ 131093 * passed.count
    → (now.count ≤ 1000000) × (now.number ≤ 4000000000 + now.count) × (now.place ≤ 131093 * now.count)
bounds passed now call found e next same number place =
    let count : now.count ≡ passed.count + 1 = ap (λ (p : Passed). p.count) e in
    let at : now.place ≡ passed.place + length (entry_text call) = ap (λ (p : Passed). p.place) e in
    let numbered : now.number ≡ passed.number + 1 = ap (λ (p : Passed). p.number) e ∙ ap (λ (x : Entry). x.number) same ∙ next.numbered in
    let short = size_short passed call found (length (entry_text call)) next same refl in
    (omega (arith, count, next.room), omega (arith, count, numbered, number), omega (arith, count, at, short, place))

-- what holds in any case holds if there is no fault
pub where_none : {P : Type 0} (stopped : Option LogFault) → P → IfNone stopped P
where_none None p = p
where_none (Some fault) p = tt
