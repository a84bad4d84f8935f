-- One call more.
use Rattle.std.proofs.Common.{◌≡◌, ℕ, zero, suc, ◌-◌, ◌*◌, ◌%◌, true, false, List, [], ◌∷◌, ◌++◌, length, refl, sym, ap, ◌∙◌, arith, append_assoc}
use Rattle.std.specs.List.{flat_map}
use Rattle.std.proofs.lemmas.List.{append-nil}
use Rattle.std.proofs.lemmas.List.Concat.{flat_map-append}
use Rattle.call_log.specs.Entry.{Entry, entry_text, headed}
use Rattle.call_log.specs.Log.{entry_texts}
use Rattle.stir_drill.specs.Calls.{call_at, calls_of, drawn_at, entry_of, log_of, message_after, message_at}
use Rattle.stir_drill.specs.Change.{change_of_call, is_confirmed, repeats}
use Rattle.passport_json.specs.Signing.{Ticket}
use Rattle.stir_drill.specs.Certificates.{leaf, point}
use Rattle.stir_drill.specs.Draw.{drawn, next, state}
use Rattle.stir_drill.specs.Holds.{Holds, OneMore}
use Rattle.stir_drill.specs.Message.{message_of, moment_of, signature_of, signing_of}
use Rattle.stir_drill.specs.World.{answer_line, answers_of, call_triple, call_triples, chain_triples, triple, triples_of}
use Rattle.stir_drill.specs.declared.calls.Calls.{Calls}
use Rattle.stir_drill.specs.declared.change.Change.{Change}
use Rattle.stir_drill.specs.declared.change.Change.TheVariants.{Plain, Repeats, Unsigned, Stale, Unconfirmed, Outside}
use Rattle.stir_drill.specs.declared.drawn.Drawn.{Drawn}
use Rattle.stir_drill.proofs.EntryLaws.{headed_behind}

entries_more : (calls : List Entry) (call : Entry) → entry_texts (calls ++ call ∷ []) ≡ entry_texts calls ++ entry_text call
entries_more [] call = append-nil (entry_text call)
entries_more (first ∷ calls) call = ap (λ x. entry_text first ++ x) (entries_more calls call)
    ∙ sym (append_assoc (entry_text first) (entry_texts calls) (entry_text call))

-- the log ends with the last message
pub record Ends (log message : List ℕ) : Type 0 where
  pub front : List ℕ
  pub split : log ≡ front ++ message

ends_with : (seed n : ℕ) → Ends (log_of seed n) (message_at seed n)
unfolding calls_of message_at
ends_with seed zero = record { front = []; split = refl }
ends_with seed (suc n) = record {
  front = entry_texts (calls_of seed n) ++ headed (moment_of (suc n)) (length (message_at seed (suc n))) [];
  split = entries_more (calls_of seed n) (call_at seed (suc n))
      ∙ ap (λ x. entry_texts (calls_of seed n) ++ x)
      (sym (headed_behind (moment_of (suc n)) (length (message_at seed (suc n))) (message_at seed (suc n))))
      ∙ sym (append_assoc (entry_texts (calls_of seed n)) (headed (moment_of (suc n)) (length (message_at seed (suc n))) []) (message_at seed (suc n)));
}

log_more : (seed n : ℕ) → log_of seed (suc n) ≡ log_of seed n ++ entry_of (drawn_at seed (suc n)) (message_at seed n)
unfolding calls_of message_at
log_more seed n = entries_more (calls_of seed n) (call_at seed (suc n))

answers_more : (seed n : ℕ) → answers_of seed (suc n) ≡ answers_of seed n ++ flat_map answer_line (triples_of (drawn_at seed (suc n)))
unfolding call_triples
answers_more seed n =
    ap (flat_map answer_line) (sym (append_assoc chain_triples (call_triples seed n) (triples_of (drawn_at seed (suc n)))))
    ∙ flat_map-append answer_line (chain_triples ++ call_triples seed n) (triples_of (drawn_at seed (suc n)))

state_more : (seed n : ℕ) → state seed (2 * suc n) ≡ next (next (state seed (2 * n)))
unfolding state
state_more seed n = let e : 2 * suc n ≡ suc (suc (2 * n)) = omega arith in ap (state seed) e

state_between : (seed n : ℕ) → state seed (2 * suc n - 1) ≡ next (state seed (2 * n))
unfolding state
state_between seed n = let e : 2 * suc n - 1 ≡ suc (2 * n) = omega arith in ap (state seed) e

-- what the code draws is what the call is
pub drawn_is : (seed before number first second kind line : ℕ) (change : Change) → number ≡ suc before → first ≡ next (state seed (2 * before)) → second ≡ next first
    → kind ≡ drawn first % 8 → line ≡ drawn second % 10000 → change ≡ change_of_call number kind
    → drawn_at seed (suc before) ≡ record { number = number; change = change; line = line }
drawn_is seed before number first second kind line change n f s k l c =
    let one : first ≡ state seed (2 * suc before - 1) = f ∙ sym (state_between seed before) in
    let two : second ≡ state seed (2 * suc before) = s ∙ ap next f ∙ sym (state_more seed before) in
    let at_line : line ≡ drawn (state seed (2 * suc before)) % 10000 = l ∙ ap (λ x. drawn x % 10000) two in
    let at_kind : kind ≡ drawn (state seed (2 * suc before - 1)) % 8 = k ∙ ap (λ x. drawn x % 8) one in
    let at_change : change ≡ change_of_call (suc before) (drawn (state seed (2 * suc before - 1)) % 8)
    = c ∙ ap (λ x. change_of_call x kind) n ∙ ap (change_of_call (suc before)) at_kind in
    let make : ℕ → Change → ℕ → Drawn = λ x y z. record { number = x; change = y; line = z } in
    sym (ap (λ x. make x change line) n ∙ ap (λ x. make (suc before) x line) at_change
    ∙ ap (λ x. make (suc before) (change_of_call (suc before) (drawn (state seed (2 * suc before - 1)) % 8)) x) at_line)

pub message_own : (call : Drawn) (before : List ℕ) → repeats call.change ≡ false → message_after call before ≡ message_of call
message_own call before own = rw own refl

message_repeated : (call : Drawn) (before : List ℕ) → repeats call.change ≡ true → message_after call before ≡ before
message_repeated call before again = rw again refl

none_confirmed : (change : Change) → repeats change ≡ true → is_confirmed change ≡ false
none_confirmed Plain h = absurd cc
none_confirmed Repeats h = refl
none_confirmed Unsigned h = absurd cc
none_confirmed Stale h = absurd cc
none_confirmed Unconfirmed h = absurd cc
none_confirmed Outside h = absurd cc

no_triple : (call : Drawn) → repeats call.change ≡ true → triples_of call ≡ []
no_triple call again = let e = none_confirmed call.change again in rw e refl

-- a call that repeats a message, and one that doesn't
pub repeated_one : (call : Drawn) (old new : Calls) → repeats call.change ≡ true → new.state ≡ old.state → new.last ≡ old.last
    → new.answers.items ≡ old.answers.items
    → ((front message : List ℕ) → old.log.items ≡ front ++ message → old.last ≡ length message
    → new.log.items ≡ old.log.items ++ headed (moment_of call.number) (length message) message) → OneMore call old new
repeated_one call old new again s l a made = record {
  state = s;
  entry = λ front before split size. made front before split size
      ∙ ap (λ x. old.log.items ++ headed (moment_of call.number) (length x) x) (sym (message_repeated call before again));
  last = λ before size. l ∙ size ∙ ap length (sym (message_repeated call before again));
  answers = a ∙ sym (append-nil old.answers.items) ∙ ap (λ x. old.answers.items ++ flat_map answer_line x) (sym (no_triple call again));
}

pub own_one : (call : Drawn) (old new : Calls) → repeats call.change ≡ false → new.state ≡ old.state → new.last ≡ length (message_of call)
    → new.answers.items ≡ old.answers.items ++ flat_map answer_line (triples_of call)
    → new.log.items ≡ old.log.items ++ headed (moment_of call.number) (length (message_of call)) (message_of call) → OneMore call old new
own_one call old new own s l a made = record {
  state = s;
  entry = λ front before split size. made
      ∙ ap (λ x. old.log.items ++ headed (moment_of call.number) (length x) x) (sym (message_own call before own));
  last = λ before size. l ∙ ap length (sym (message_own call before own));
  answers = a;
}

pub one_more : (seed before : ℕ) (call : Drawn) (old new : Calls) → Holds seed before old → drawn_at seed (suc before) ≡ call
    → (drawing : Calls) → drawing.state ≡ next (next old.state) → drawing.log.items ≡ old.log.items
    → drawing.answers.items ≡ old.answers.items → drawing.last ≡ old.last → OneMore call drawing new → Holds seed (suc before) new
unfolding message_at
one_more seed before call old new holds is drawing s g w t more =
    let stands = ends_with seed before in
    record {
      state_is = more.state ∙ s ∙ ap (λ x. next (next x)) holds.state_is ∙ sym (state_more seed before);
      log_is = more.entry stands.front (message_at seed before) (g ∙ holds.log_is ∙ stands.split) (t ∙ holds.last_is)
          ∙ ap (λ x. x ++ entry_of call (message_at seed before)) (g ∙ holds.log_is)
          ∙ ap (λ x. log_of seed before ++ entry_of x (message_at seed before)) (sym is)
          ∙ sym (log_more seed before);
      answers_are = more.answers ∙ ap (λ x. x ++ flat_map answer_line (triples_of call)) (w ∙ holds.answers_are)
          ∙ ap (λ x. answers_of seed before ++ flat_map answer_line (triples_of x)) (sym is)
          ∙ sym (answers_more seed before);
      last_is = more.last (message_at seed before) (t ∙ holds.last_is) ∙ ap (λ x. length (message_after x (message_at seed before))) (sym is);
    }

-- before the first
pub none_yet : (seed : ℕ) (calls : Calls) → calls.state ≡ seed → calls.log.items ≡ [] → calls.answers.items ≡ flat_map answer_line chain_triples
    → calls.last ≡ 0 → Holds seed 0 calls
unfolding calls_of call_triples message_at state
none_yet seed calls s l a e = record { state_is = s; log_is = l; answers_are = a; last_is = e }

-- the line of a call whose signature is confirmed
pub confirmed_by : (call : Drawn) (answers answers_now key digest signing signature : List ℕ) → is_confirmed call.change ≡ true
    → key ≡ point leaf.byte → digest ≡ Ticket signing → signing ≡ signing_of call → signature ≡ signature_of call.number
    → answers_now ≡ answers ++ answer_line (triple key digest signature) → answers_now ≡ answers ++ flat_map answer_line (triples_of call)
confirmed_by call answers answers_now key digest signing signature has k d s g n =
    n ∙ ap (λ x. answers ++ answer_line (triple x digest signature)) k
    ∙ ap (λ x. answers ++ answer_line (triple (point leaf.byte) x signature)) (d ∙ ap Ticket s)
    ∙ ap (λ x. answers ++ answer_line (triple (point leaf.byte) (Ticket (signing_of call)) x)) g
    ∙ ap (λ x. answers ++ x) (sym (append-nil (answer_line (call_triple call))))
    ∙ ap (λ x. answers ++ x) (one_line call has)
  where
    one_line : (call : Drawn) → is_confirmed call.change ≡ true → flat_map answer_line (call_triple call ∷ []) ≡ flat_map answer_line (triples_of call)
    one_line call has = rw has refl
