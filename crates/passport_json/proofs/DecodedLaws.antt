-- What a text is the base64url encoding of is what it decodes to, and that is bytes.
use Rattle.std.proofs.Common.{◌≡◌, ℕ, zero, suc, ◌+◌, ◌*◌, ◌/◌, ◌==◌, ◌<◌, ◌⊎◌, Bool, true, false, cond, List, [], ◌∷◌, ◌++◌, length, take, drop, Option, Some, None, Ok, Err, refl, subst, arith, inl, inr}
use Rattle.std.specs.Prelude.{slice_index}
use Rattle.std.proofs.lemmas.List.{get_or-drop}
use Rattle.base64.proofs.Decoding.{IsLeftover, IsLeftover_next}
use Rattle.base64.proofs.EngineFacts.{decode_of_strict}
use Rattle.base64.proofs.Tables.{IsDecodeTable_from, are_tables_inverse}
use Rattle.base64.specs.Decode.{IsDecodeTable, decode_group, decode_outcome, decoded_bytes, group_bytes, group_error, groups_before_last, groups_bytes, groups_error, lone_error, no_leftover, or_else, push_leftover, scan_bytes, scan_last, scan_steps, suffix_bytes, symbol_error}
use Rattle.base64.specs.Engines.{url_safe_no_pad}
use Rattle.base64.specs.GeneralPurpose.{IsBytes, decode_of}
use Rattle.base64.specs.declared.decode.DecodeError.{DecodeError}
use Rattle.base64.specs.declared.decode.DecodeError.TheVariants.{InvalidByte}
use Rattle.passport_json.specs.Base64.{IsBase64}

-- ---- bytes

appended : (xs ys : List ℕ) → IsBytes xs → IsBytes ys → IsBytes (xs ++ ys)
appended [] ys h k i = k i
appended (x ∷ xs) ys h k zero = h 0
appended (x ∷ xs) ys h k (suc i) = appended xs ys (λ j. h (suc j)) k i

taken : (n : ℕ) (xs : List ℕ) → IsBytes xs → IsBytes (take n xs)
taken zero xs h i = omega arith
taken (suc n) [] h i = omega arith
taken (suc n) (x ∷ xs) h zero = h 0
taken (suc n) (x ∷ xs) h (suc i) = taken n xs (λ j. h (suc j)) i

none : IsBytes []
none i = omega arith

-- ---- a group of four symbols

group_fits : (m0 m1 m2 m3 : ℕ) → m0 < 64 → m1 < 64 → m2 < 64 → m3 < 64 → IsBytes (decode_group m0 m1 m2 m3)
group_fits m0 m1 m2 m3 a b c d zero = omega arith
group_fits m0 m1 m2 m3 a b c d (suc zero) = omega arith
group_fits m0 m1 m2 m3 a b c d (suc (suc zero)) = omega arith
group_fits m0 m1 m2 m3 a b c d (suc (suc (suc i))) = omega arith

both_none : (x y : Option DecodeError) → or_else x y ≡ None → (x ≡ None) × (y ≡ None)
both_none None y h = (refl, h)
both_none (Some e) y h = absurd cc

symbol_by : (value : ℕ) (error : DecodeError) (t : Bool) → (value == 255) ≡ t → cond t (Some error) None ≡ None → (value ≡ 255) ⊎ (value < 64) → value < 64
symbol_by value error true e h k = absurd cc
symbol_by value error false e h (inl last) = absurd (let same : (value == 255) ≡ true = rw last refl in cc)
symbol_by value error false e h (inr small) = small

symbol : (dec s : List ℕ) (i : ℕ) → IsDecodeTable dec → IsBytes s → symbol_error dec s i ≡ None → slice_index dec (slice_index s i) < 64
symbol dec s i table bytes h = symbol_by (slice_index dec (slice_index s i)) (InvalidByte i (slice_index s i)) _ refl h (table (slice_index s i) (bytes i))

one_group : (dec s : List ℕ) (i : ℕ) → IsDecodeTable dec → IsBytes s → group_error dec s i ≡ None → IsBytes (group_bytes dec s i)
one_group dec s i table bytes h =
    let first = both_none (symbol_error dec s i) (or_else (symbol_error dec s (i + 1)) (or_else (symbol_error dec s (i + 2)) (symbol_error dec s (i + 3)))) h in
    let second = both_none (symbol_error dec s (i + 1)) (or_else (symbol_error dec s (i + 2)) (symbol_error dec s (i + 3))) first.1 in
    let third = both_none (symbol_error dec s (i + 2)) (symbol_error dec s (i + 3)) second.1 in
    group_fits (slice_index dec (slice_index s i)) (slice_index dec (slice_index s (i + 1))) (slice_index dec (slice_index s (i + 2))) (slice_index dec (slice_index s (i + 3)))
    (symbol dec s i table bytes first.0) (symbol dec s (i + 1) table bytes second.0) (symbol dec s (i + 2) table bytes third.0) (symbol dec s (i + 3) table bytes third.1)

groups : (dec s : List ℕ) (q : ℕ) → IsDecodeTable dec → IsBytes s → groups_error dec s q ≡ None → IsBytes (groups_bytes dec s q)
unfolding groups_error groups_bytes
groups dec s zero table bytes h = none
groups dec s (suc q) table bytes h =
    let parts = both_none (groups_error dec s q) (group_error dec s (4 * q)) h in
    appended (groups_bytes dec s q) (group_bytes dec s (4 * q)) (groups dec s q table bytes parts.0) (one_group dec s (4 * q) table bytes parts.1)

-- ---- the last group

scanned_by : (dec : List ℕ) (pad at : ℕ) (bs : List ℕ) (i b : ℕ) (st : _) (fin : _) (r : _) → IsDecodeTable dec → IsLeftover st i → b < 256
    → push_leftover dec pad at st i b ≡ r → ((next : _) → IsLeftover next (i + 1) → scan_steps dec pad at (Ok next) (i + 1) bs ≡ Ok fin → (k : ℕ) → slice_index fin.morsels k < 64)
    → scan_steps dec pad at r (i + 1) bs ≡ Ok fin → (k : ℕ) → slice_index fin.morsels k < 64
unfolding scan_steps
scanned_by dec pad at bs i b st fin (Ok next) table held byte e below h = below next (IsLeftover_next dec pad at st i b next table held byte e) h
scanned_by dec pad at bs i b st fin (Err error) table held byte e below h = absurd cc

scanned : (dec : List ℕ) (pad at : ℕ) (bs : List ℕ) (i : ℕ) (st : _) (fin : _) → IsDecodeTable dec → IsBytes bs → IsLeftover st i
    → scan_steps dec pad at (Ok st) i bs ≡ Ok fin → (k : ℕ) → slice_index fin.morsels k < 64
unfolding scan_steps
scanned dec pad at [] i st fin table bytes held h = let same : st ≡ fin = cc in subst (λ x. (k : ℕ) → slice_index x.morsels k < 64) same held.3
scanned dec pad at (b ∷ bs) i st fin table bytes held h =
    scanned_by dec pad at bs i b st fin (push_leftover dec pad at st i b) table held (bytes 0) refl
    (λ next kept more. scanned dec pad at bs (i + 1) next fin table (λ k. bytes (suc k)) kept more) h

zeros : (k : ℕ) → slice_index (0 ∷ 0 ∷ 0 ∷ 0 ∷ []) k < 64
zeros zero = omega arith
zeros (suc zero) = omega arith
zeros (suc (suc zero)) = omega arith
zeros (suc (suc (suc zero))) = omega arith
zeros (suc (suc (suc (suc k)))) = omega arith

last_by : (dec s : List ℕ) (pad at : ℕ) (r : _) → IsDecodeTable dec → IsBytes s → scan_last dec pad at s ≡ r → IsBytes (scan_bytes r)
last_by dec s pad at (Err error) table bytes e = none
last_by dec s pad at (Ok st) table bytes e =
    let behind : IsBytes (drop at s) = λ k. rw (get_or-drop at s k 0) (bytes (at + k)) in
    let small = scanned dec pad at (drop at s) 0 no_leftover st table behind (omega arith, omega arith, omega arith, zeros) e in
    taken (st.morsels_count * 6 / 8) (decode_group (slice_index st.morsels 0) (slice_index st.morsels 1) (slice_index st.morsels 2) (slice_index st.morsels 3))
    (group_fits (slice_index st.morsels 0) (slice_index st.morsels 1) (slice_index st.morsels 2) (slice_index st.morsels 3) (small 0) (small 1) (small 2) (small 3))

all_groups : (dec s : List ℕ) (pad : ℕ) → IsDecodeTable dec → IsBytes s → groups_error dec s (groups_before_last (length s)) ≡ None → IsBytes (decoded_bytes dec pad s)
all_groups dec s pad table bytes h =
    let q : ℕ = groups_before_last (length s) in
    appended (groups_bytes dec s q) (suffix_bytes dec pad (4 * q) s) (groups dec s q table bytes h) (last_by dec s pad (4 * q) (scan_last dec pad (4 * q) s) table bytes refl)

-- ---- the texts

outcome : (error : Option DecodeError) (given bytes : List ℕ) → decode_outcome error given ≡ Ok bytes → (error ≡ None) × (given ≡ bytes)
outcome None given bytes h = let same : given ≡ bytes = cc in (refl, same)
outcome (Some error) given bytes h = absurd cc

pub base64_found : (text bytes : List ℕ) → IsBytes text → decode_of url_safe_no_pad text ≡ Ok bytes → IsBase64 text bytes
base64_found text bytes typed h =
    let dec : List ℕ = url_safe_no_pad.decode_table in
    let q : ℕ = groups_before_last (length text) in
    let table = IsDecodeTable_from url_safe_no_pad.encode_table dec (are_tables_inverse url_safe_no_pad.encode_table dec url_safe_no_pad.padding.value url_safe_no_pad.tables) in
    let parts = outcome _ (decoded_bytes dec url_safe_no_pad.padding.value text) bytes h in
    let behind = both_none (lone_error dec url_safe_no_pad.padding.value text) _ parts.0 in
    let front = both_none (groups_error dec text q) _ behind.1 in
    record {
      are_bytes = subst IsBytes parts.1 (all_groups dec text url_safe_no_pad.padding.value table typed front.0);
      encoded = decode_of_strict url_safe_no_pad text bytes (refl, refl) typed h;
    }
