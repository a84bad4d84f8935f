-- What is held of a chain map: one row more, up to the limit, and at the end.
use Rattle.std.proofs.Common.{◌≡◌, ℕ, ◌<◌, ◌≤◌, Bool, true, false, not, nat_le, cond, List, [], ◌∷◌, ◌++◌, length, Option, Some, None, is_some, Err, refl, sym, ap, ◌∙◌, subst, arith, Vec}
use Rattle.std.specs.Bool.{MatchBool}
use Rattle.std.specs.Cmp.Lexicographic.{bytes_decides, nat_list_eq_equiv}
use Rattle.std.specs.Map.{lookup, IsKeyTest, AreApart, KeepsOthers}
use Rattle.std.specs.Option.{option_map, option_or}
use Rattle.std.specs.Str.{bytes_eq}
use Rattle.std.specs.String.{string_bytes}
use Rattle.std.specs.Vec.{vec_items}
use Rattle.std.specs.declared.string.String.{String}
use Rattle.std.proofs.lemmas.Bool.Decides.{nat_tests}
use Rattle.text_grammar.specs.FileLines.{file_lines}
use Rattle.cert_store.specs.ChainMap.{Row, file_in, is_repeated, within_limit, map_rows, listed, MapOf, FaultOf}
use Rattle.cert_store.specs.Files.{Files, files_in}
use Rattle.cert_store.specs.MapReading.{HoldsRows, Adds, FirstRead, FirstFault}
use Rattle.cert_store.specs.declared.map.MapFault.{MapFault}
use Rattle.cert_store.specs.declared.map.MapFault.TheVariants.{Line, Memory}
use Rattle.lists.proofs.Options.{or_none}

-- ---- the entries of a map by their bytes

abbrev Entries : Type 0 → Type 0 → Type 0
Entries Y Z = List (Vec ℕ Y × String Z)

-- the text that is kept for the x5u
abbrev pub kept : {Y Z : Type 0} → Entries Y Z → List ℕ → Option (String Z)
kept entries x5u = lookup (λ key. bytes_eq x5u (vec_items key)) entries

seen_by : {Z : Type 0} (t : Bool) (file : String Z) (rest : Option (String Z)) → cond t (Some (string_bytes file)) (option_map string_bytes rest) ≡ option_map string_bytes (cond t (Some file) rest)
seen_by true file rest = refl
seen_by false file rest = refl

-- what is listed for an x5u is what is kept for it
pub listed_is : {Y Z : Type 0} (entries : List (Vec ℕ Y × String Z)) (x5u : List ℕ) → listed (files_in entries) x5u ≡ option_map string_bytes (kept entries x5u)
listed_is [] x5u = refl
listed_is (entry ∷ entries) x5u =
    ap (cond (bytes_eq x5u (vec_items entry.0)) (Some (string_bytes entry.1))) (listed_is entries x5u)
    ∙ seen_by (bytes_eq x5u (vec_items entry.0)) entry.1 (kept entries x5u)

others : {K X : Type 0} (eq : K → K → Bool) (test : K → Bool) (old new : List (K × X)) → KeepsOthers eq test old new
    → (other : K → Bool) → IsKeyTest eq other → AreApart test other → lookup other new ≡ lookup other old
unfolding KeepsOthers
others eq test old new h = h

-- a look-up gives what is listed
pub found_is : {Y Z : Type 0} (entries : List (Vec ℕ Y × String Z)) (held : Files) (x5u : List ℕ) (found : Option (String Z)) → files_in entries ≡ held → found ≡ kept entries x5u
    → option_map string_bytes found ≡ listed held x5u
found_is entries held x5u found e h = ap (option_map string_bytes) h ∙ sym (listed_is entries x5u) ∙ ap (λ (files : Files). listed files x5u) e

-- ---- a row more

apart : (bs cs ks : List ℕ) → bytes_eq bs cs ≡ false → bytes_eq bs ks ≡ true → bytes_eq cs ks ≡ false
apart bs cs ks n y = nat_list_eq_equiv.symm cs ks ∙ sym (nat_list_eq_equiv.congr bs ks cs y) ∙ n

-- the file was put at the key's bytes, and the other x5us have what they had
abbrev Puts : {Y Z : Type 0} → Vec ℕ Y → String Z → Entries Y Z → Entries Y Z → Type 0
Puts key file old new = (kept new (vec_items key) ≡ Some file)
    × KeepsOthers (λ a b. bytes_eq (vec_items a) (vec_items b)) (λ own. bytes_eq (vec_items key) (vec_items own)) old new

put_by : {Y Z : Type 0} (key : Vec ℕ Y) (file : String Z) (old new : List (Vec ℕ Y × String Z)) (x5u : List ℕ) (t : Bool) → bytes_eq (vec_items key) x5u ≡ t → Puts key file old new
    → kept new x5u ≡ cond t (Some file) (kept old x5u)
put_by key file old new x5u true e put = ap (kept new) (sym ((bytes_decides (vec_items key) x5u).0 e)) ∙ put.0
put_by key file old new x5u false e put =
    others (λ a b. bytes_eq (vec_items a) (vec_items b)) (λ own. bytes_eq (vec_items key) (vec_items own)) old new put.1 (λ own. bytes_eq x5u (vec_items own))
    (λ a b. nat_list_eq_equiv.congr x5u (vec_items a) (vec_items b)) (λ own. apart (vec_items key) x5u (vec_items own) e)

or_by : (t : Bool) (file : List ℕ) (rest more : Option (List ℕ)) → cond t (Some file) (option_or rest more) ≡ option_or (cond t (Some file) rest) more
or_by true file rest more = refl
or_by false file rest more = refl

file_push : (rows : List Row) (row : Row) (x5u : List ℕ) → file_in (rows ++ row ∷ []) x5u ≡ option_or (file_in rows x5u) (cond (bytes_eq row.x5u x5u) (Some row.file) None)
file_push [] row x5u = refl
file_push (own ∷ rows) row x5u =
    ap (cond (bytes_eq own.x5u x5u) (Some own.file)) (file_push rows row x5u)
    ∙ or_by (bytes_eq own.x5u x5u) own.file (file_in rows x5u) (cond (bytes_eq row.x5u x5u) (Some row.file) None)

pushed_by : (rows : List Row) (row : Row) (x5u : List ℕ) (t : Bool) → bytes_eq row.x5u x5u ≡ t → file_in rows row.x5u ≡ None
    → cond t (Some row.file) (file_in rows x5u) ≡ file_in (rows ++ row ∷ []) x5u
pushed_by rows row x5u true e none =
    let absent : file_in rows x5u ≡ None = sym (ap (file_in rows) ((bytes_decides row.x5u x5u).0 e)) ∙ none in
    sym (file_push rows row x5u ∙ rw (absent, e) refl)
pushed_by rows row x5u false e none = sym (file_push rows row x5u ∙ rw e (or_none (file_in rows x5u)))

holds_more : {Y Z : Type 0} (rows : List Row) (row : Row) (key : Vec ℕ Y) (file : String Z) (old new : List (Vec ℕ Y × String Z)) → vec_items key ≡ row.x5u → string_bytes file ≡ row.file
    → Puts key file old new → HoldsRows rows (files_in old) → file_in rows row.x5u ≡ None → HoldsRows (rows ++ row ∷ []) (files_in new)
holds_more rows row key file old new k f put holds none = record {
  files = λ x5u.
      let t = bytes_eq (vec_items key) x5u in
      listed_is new x5u
      ∙ ap (option_map string_bytes) (put_by key file old new x5u t refl put)
      ∙ sym (seen_by t file (kept old x5u))
      ∙ ap (cond t (Some (string_bytes file))) (sym (listed_is old x5u) ∙ holds.files x5u)
      ∙ ap (λ b. cond (bytes_eq b x5u) (Some (string_bytes file)) (file_in rows x5u)) k
      ∙ ap (λ b. cond (bytes_eq row.x5u x5u) (Some b) (file_in rows x5u)) f
      ∙ pushed_by rows row x5u (bytes_eq row.x5u x5u) refl none;
}

-- what the rows say of the row's x5u is what was kept for it
was_listed : {Y Z : Type 0} (rows : List Row) (row : Row) (key : Vec ℕ Y) (old : List (Vec ℕ Y × String Z)) (before : Option (String Z)) → vec_items key ≡ row.x5u
    → before ≡ kept old (vec_items key) → HoldsRows rows (files_in old) → option_map string_bytes before ≡ file_in rows row.x5u
was_listed rows row key old before k b holds =
    ap (option_map string_bytes) (b ∙ ap (kept old) k) ∙ sym (listed_is old row.x5u) ∙ holds.files row.x5u

adds_by : {Y Z : Type 0} (rows : List Row) (row : Row) (key : Vec ℕ Y) (file : String Z) (old new : List (Vec ℕ Y × String Z)) (before : Option (String Z)) (is_new : Bool)
    → vec_items key ≡ row.x5u → string_bytes file ≡ row.file → before ≡ kept old (vec_items key) → is_some before ≡ not is_new → Puts key file old new → HoldsRows rows (files_in old)
    → MatchBool is_new ((is_repeated rows row ≡ false) × HoldsRows (rows ++ row ∷ []) (files_in new)) (is_repeated rows row ≡ true)
adds_by rows row key file old new None true k f b n put holds =
    let none : file_in rows row.x5u ≡ None = sym (was_listed rows row key old None k b holds) in
    (ap is_some none, holds_more rows row key file old new k f put holds none)
adds_by rows row key file old new None false k f b n put holds = absurd (cc)
adds_by rows row key file old new (Some x) true k f b n put holds = absurd (cc)
adds_by rows row key file old new (Some x) false k f b n put holds = ap is_some (sym (was_listed rows row key old (Some x) k b holds))

pub adds_row : {Y Z : Type 0} (row : Row) (key : Vec ℕ Y) (file : String Z) (old new : List (Vec ℕ Y × String Z)) (before : Option (String Z)) (is_new : Bool) (held : Files)
    → files_in old ≡ held → vec_items key ≡ row.x5u → string_bytes file ≡ row.file → before ≡ kept old (vec_items key) → is_some before ≡ not is_new
    → (kept new (vec_items key) ≡ Some file) × KeepsOthers (λ a b. bytes_eq (vec_items a) (vec_items b)) (λ own. bytes_eq (vec_items key) (vec_items own)) old new
    → Adds held (files_in new) row is_new
adds_row row key file old new before is_new held e k f b n put rows holds =
    adds_by rows row key file old new before is_new k f b n put (subst (λ (files : Files). HoldsRows rows files) (sym e) holds)

-- ---- at the end

pub first_fault : (text : List ℕ) (fault : MapFault) → FirstFault text fault → FaultOf text fault
unfolding map_rows
first_fault text (Line number) h = ap (within_limit text) h
first_fault text Memory h = tt

pub past_limit : (text : List ℕ) (count : ℕ) (held : Files) → FirstRead text held → count ≡ length (file_lines text) → 50000 < count → map_rows text ≡ Err 50001
unfolding map_rows
past_limit text count held first c more =
    let past : nat_le (length (file_lines text)) 50000 ≡ false = grind (arith, nat_tests) in
    ap (within_limit text) first.read ∙ rw past refl

pub all_read : (text : List ℕ) (count : ℕ) (held : Files) → FirstRead text held → count ≡ length (file_lines text) → count ≤ 50000 → MapOf text held
unfolding map_rows
all_read text count held first c few =
    let within : nat_le (length (file_lines text)) 50000 ≡ true = grind (arith, nat_tests) in
    record { rows = first.rows; read = ap (within_limit text) first.read ∙ rw within refl; files = first.holds.files }
