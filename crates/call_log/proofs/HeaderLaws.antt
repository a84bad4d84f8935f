-- A header is written by one moment and one length alone, and which bytes are none.
use Rattle.std.proofs.Common.{◌≡◌, ◌≢◌, ℕ, ◌+◌, ◌^◌, ◌<◌, ◌≤◌, Bool, true, false, nat_lt, List, [], ◌∷◌, ◌++◌, length, replicate, refl, sym, ◌∙◌, ap, arith, append-nil, append_assoc, length-append}
use Rattle.std.specs.Char.{is_ascii_digit}
use Rattle.std.specs.Fmt.{decimal}
use Rattle.std.proofs.lemmas.Bool.Decides.{nat_tests}
use Rattle.std.proofs.lemmas.Fmt.{decimal_injective, length-decimal-le}
use Rattle.std.proofs.lemmas.List.{length-replicate}
use Rattle.call_log.proofs.DigitLaws.{decimal_digits, no_other, seam}
use Rattle.call_log.specs.Entry.{Entry, entry_text, headed, most_entries, most_message_length}
use Rattle.call_log.specs.Fault.{BeginsBackward, IsGrammar}
use Rattle.call_log.specs.Log.{NoEntry, Passed}
use Rattle.call_log.specs.Number.{BeginsNumber, IsNumber, NoNumber}
use Rattle.call_log.specs.declared.digits.Digits.{Digits}
use Rattle.text_grammar.specs.Moment.{last_second}

-- the bytes don't begin with a header within its limits
abbrev pub NoHead : List ℕ → Type 0
NoHead bytes = (moment said : ℕ) (behind : List ℕ) → moment ≤ last_second → said ≤ most_message_length → bytes ≡ headed moment said behind → ⊥

-- a header and what comes after it, in one piece
pub headed_append : (moment said : ℕ) (behind more : List ℕ) → headed moment said behind ++ more ≡ headed moment said (behind ++ more)
unfolding headed
headed_append moment said behind more =
    ap (λ x. 64 ∷ x) (append_assoc (decimal moment) (32 ∷ (decimal said ++ 10 ∷ behind)) more ∙ ap (λ x. decimal moment ++ 32 ∷ x) (append_assoc (decimal said) (10 ∷ behind) more))

pub headed_parts : (moment said : ℕ) (more : List ℕ) → 64 ∷ ((decimal moment ++ 32 ∷ []) ++ (decimal said ++ 10 ∷ more)) ≡ headed moment said more
unfolding headed
headed_parts moment said more = ap (λ x. 64 ∷ x) (append_assoc (decimal moment) (32 ∷ []) (decimal said ++ 10 ∷ more))

-- a header says one moment and one length
pub one_head : (moment said moment' said' : ℕ) (behind behind' : List ℕ) → moment ≤ last_second → said ≤ most_message_length → moment' ≤ last_second → said' ≤ most_message_length
    → headed moment said behind ≡ headed moment' said' behind' → (moment ≡ moment') × (said ≡ said') × (behind ≡ behind')
unfolding headed
one_head moment said moment' said' behind behind' m s m' s' e =
    let tail : decimal moment ++ 32 ∷ (decimal said ++ 10 ∷ behind) ≡ decimal moment' ++ 32 ∷ (decimal said' ++ 10 ∷ behind') = cc in
    let first = seam (decimal moment) (decimal moment') (decimal said ++ 10 ∷ behind) (decimal said' ++ 10 ∷ behind') 32 32 (decimal_digits moment (omega (arith, m))) (decimal_digits moment' (omega (arith, m'))) refl refl tail in
    let second = seam (decimal said) (decimal said') behind behind' 10 10 (decimal_digits said (omega (arith, s))) (decimal_digits said' (omega (arith, s'))) refl refl first.2 in
    (decimal_injective moment moment' (omega (arith, m)) (omega (arith, m')) first.0, decimal_injective said said' (omega (arith, s)) (omega (arith, s')) second.0, second.2)

-- ---- bytes that are no header

pub no_head_nil : NoHead []
unfolding headed
no_head_nil = λ moment said behind m s e. cc

pub no_head_first : (byte : ℕ) (more : List ℕ) → byte ≢ 64 → NoHead (byte ∷ more)
unfolding headed
no_head_first byte more other = λ moment said behind m s e. other (cc)

pub no_head_moment : (bytes : List ℕ) → NoNumber last_second 32 bytes → NoHead (64 ∷ bytes)
unfolding headed
no_head_moment bytes none = λ moment said behind m s e. none moment (decimal said ++ 10 ∷ behind) m (cc)

pub no_head_length : (moment : ℕ) (bytes : List ℕ) → moment ≤ last_second → NoNumber most_message_length 10 bytes → NoHead (64 ∷ ((decimal moment ++ 32 ∷ []) ++ bytes))
unfolding headed
no_head_length moment bytes within none = λ moment' said behind m s e.
    let tail : (decimal moment ++ 32 ∷ []) ++ bytes ≡ decimal moment' ++ 32 ∷ (decimal said ++ 10 ∷ behind) = cc in
    let rest = seam (decimal moment) (decimal moment') bytes (decimal said ++ 10 ∷ behind) 32 32 (decimal_digits moment (omega (arith, within))) (decimal_digits moment' (omega (arith, m))) refl refl (sym (append_assoc (decimal moment) (32 ∷ []) bytes) ∙ tail) in
    none said behind s rest.2

-- what goes on to a number has no byte after one
pub no_number : (most last : ℕ) (bytes : List ℕ) → most < 2 ^ 40 → is_ascii_digit last ≡ false → BeginsNumber most bytes → NoNumber most last bytes
no_number most last bytes low m b = λ number behind within e.
    no_other (decimal b.number) (decimal number) (behind ++ b.more) last (decimal_digits b.number (omega (arith, b.within))) m (sym b.whole ∙ ap (λ x. x ++ b.more) e ∙ append_assoc (decimal number) (last ∷ behind) b.more)

pub no_entry : (passed : Passed) (bytes : List ℕ) → NoHead bytes → NoEntry passed bytes
no_entry passed bytes none = λ call behind next e. none call.moment (length call.message) (call.message ++ behind) next.moment_within next.length_within (e ∙ headed_append call.moment (length call.message) call.message behind)

pub bad_head : (passed : Passed) (place : ℕ) (bytes : List ℕ) → place ≡ passed.place → passed.count < most_entries → bytes ≢ [] → NoHead bytes → IsGrammar passed place bytes
bad_head passed place bytes at room some none = record {
  at = at;
  room = room;
  some = some;
  not_backward = λ b. none b.moment b.said b.behind b.moment_within b.length_within b.text;
  no_entry = no_entry passed bytes none;
}

-- ---- bytes that go on to a header are not settled yet

abbrev zeros : ℕ → List ℕ
zeros n = replicate n 0

opens_by : (passed : Passed) (place moment said : ℕ) (bytes : List ℕ) (t : Bool) → nat_lt moment passed.moment ≡ t → moment ≤ last_second → said ≤ most_message_length → bytes ≡ headed moment said (zeros said) → IsGrammar passed place bytes → ⊥
opens_by passed place moment said bytes true e m s text g = g.not_backward (record { moment = moment; said = said; behind = zeros said; text = text; moment_within = m; length_within = s; below = grind (arith, nat_tests) })
opens_by passed place moment said bytes false e m s text g =
    let size : length (zeros said) ≡ said = length-replicate said 0 in
    g.no_entry (record { number = passed.number + 1; moment = moment; message = zeros said }) [] (record {
      room = g.room;
      numbered = refl;
      not_backward = grind (arith, nat_tests);
      moment_within = m;
      length_within = omega (arith, size, s);
    }) (text ∙ ap (λ x. headed moment x (zeros said)) (sym size) ∙ sym (append-nil (headed moment (length (zeros said)) (zeros said))))

pub opens : (passed : Passed) (place moment said : ℕ) (front more : List ℕ) → moment ≤ last_second → said ≤ most_message_length → front ++ more ≡ headed moment said [] → ((rest : List ℕ) → IsGrammar passed place (front ++ rest)) → ⊥
opens passed place moment said front more m s e all =
    opens_by passed place moment said (front ++ (more ++ zeros said)) (nat_lt moment passed.moment) refl m s (sym (append_assoc front more (zeros said)) ∙ ap (λ x. x ++ zeros said) e ∙ headed_append moment said [] (zeros said)) (all (more ++ zeros said))

-- ---- a header whose message is cut off

pub no_head_short : (said : ℕ) (message bytes behind : List ℕ) → length bytes < said → said ≡ length message → bytes ≡ message ++ behind → ⊥
no_head_short said message bytes behind less same e = omega (arith, less, same, ap length e, length-append message behind)

pub short_entry : (passed : Passed) (moment said : ℕ) (bytes : List ℕ) → moment ≤ last_second → said ≤ most_message_length → length bytes < said → NoEntry passed (headed moment said bytes)
short_entry passed moment said bytes m s less = λ call behind next e.
    let k = one_head moment said call.moment (length call.message) bytes (call.message ++ behind) m s next.moment_within next.length_within (e ∙ headed_append call.moment (length call.message) call.message behind) in
    no_head_short said call.message bytes behind less k.1 k.2

pub not_backward : (passed : Passed) (moment said : ℕ) (bytes : List ℕ) → moment ≤ last_second → said ≤ most_message_length → passed.moment ≤ moment → BeginsBackward passed (headed moment said bytes) → ⊥
not_backward passed moment said bytes m s forward b =
    let k = one_head moment said b.moment b.said bytes b.behind m s b.moment_within b.length_within b.text in
    omega (arith, forward, b.below, k.0)

pub headed_some : (moment said : ℕ) (bytes : List ℕ) → headed moment said bytes ≢ []
unfolding headed
headed_some moment said bytes = λ e. cc

-- a header without its LF is none yet
pub no_end : (passed : Passed) (moment said : ℕ) → moment ≤ last_second → said ≤ most_message_length → BeginsBackward passed (((64 ∷ (decimal moment ++ 32 ∷ [])) ++ decimal said) ++ []) → ⊥
unfolding headed
no_end passed moment said m s b =
    let whole : 64 ∷ ((decimal moment ++ 32 ∷ []) ++ decimal said) ≡ headed b.moment b.said b.behind = sym (append-nil ((64 ∷ (decimal moment ++ 32 ∷ [])) ++ decimal said)) ∙ b.text in
    let tail : (decimal moment ++ 32 ∷ []) ++ decimal said ≡ decimal b.moment ++ 32 ∷ (decimal b.said ++ 10 ∷ b.behind) = cc in
    let rest = seam (decimal moment) (decimal b.moment) (decimal said) (decimal b.said ++ 10 ∷ b.behind) 32 32 (decimal_digits moment (omega (arith, m))) (decimal_digits b.moment (omega (arith, b.moment_within))) refl refl (sym (append_assoc (decimal moment) (32 ∷ []) (decimal said)) ∙ tail) in
    no_other (decimal said) (decimal b.said) b.behind 10 (decimal_digits said (omega (arith, s))) refl rest.2

-- ---- how many bytes an entry has

pub entry_size : (moment said : Digits) → IsNumber last_second moment → IsNumber most_message_length said → (moment.count ≤ 12) × (said.count ≤ 6)
entry_size moment said m s = (
  omega (arith, m.size, length-decimal-le 12 moment.value (omega arith) (omega (arith, m.within)) (omega (arith, m.within))),
  omega (arith, s.size, length-decimal-le 6 said.value (omega arith) (omega (arith, s.within)) (omega (arith, s.within))),
)

pub headed_size : (moment said : ℕ) (behind : List ℕ) → length (headed moment said behind) ≡ 3 + length (decimal moment) + length (decimal said) + length behind
unfolding headed
headed_size moment said behind = omega (arith, length-append (decimal moment) (32 ∷ (decimal said ++ 10 ∷ behind)), length-append (decimal said) (10 ∷ behind))

pub size_of : (call : Entry) (number : ℕ) (moment said : Digits) (message : List ℕ) → call ≡ record { number = number; moment = moment.value; message = message } → length message ≡ said.value
    → moment.count ≡ length (decimal moment.value) → said.count ≡ length (decimal said.value) → 3 + moment.count + said.count + said.value ≡ length (entry_text call)
size_of call number moment said message e size m s =
    let text : length (entry_text call) ≡ length (headed moment.value (length message) message) = ap (λ (x : Entry). length (entry_text x)) e in
    let same : length (decimal (length message)) ≡ length (decimal said.value) = ap (λ x. length (decimal x)) size in
    omega (arith, text, headed_size moment.value (length message) message, same, size, m, s)
