-- What is kept for which x5u, by the bytes of the keys.
use denote.Ref.{Bor}
use Rattle.std.proofs.Common.{◌≡◌, ℕ, Bool, true, false, cond, List, [], ◌∷◌, length, Option, Some, None, refl, sym, ap, ◌∙◌, arith, Vec}
use Rattle.std.specs.Cmp.Lexicographic.{bytes_decides, nat_list_eq_equiv}
use Rattle.std.specs.Map.{lookup, AreApart, IsKeyTest, KeepsOthers}
use Rattle.std.specs.Option.{option_copied, option_map}
use Rattle.std.specs.Str.{bytes_eq}
use Rattle.std.specs.Vec.{vec_items}
use Rattle.call_judging.specs.Chains.{state_of}
use Rattle.verify_service.specs.Kept.{Keeps, Kept, kept_in, kept_state}
use Rattle.call_judging.specs.declared.chains.ChainStatus.{ChainStatus}

abbrev pub stored : {Y : Type 0} → List (Vec ℕ Y × ChainStatus) → List ℕ → Option ChainStatus
stored entries x = lookup (λ key. bytes_eq x (vec_items key)) entries

seen_by : (t : Bool) (chain : ChainStatus) (rest : Option ChainStatus) → cond t (Some (state_of chain)) (option_map state_of rest) ≡ option_map state_of (cond t (Some chain) rest)
seen_by true chain rest = refl
seen_by false chain rest = refl

pub kept_is : {Y : Type 0} (entries : List (Vec ℕ Y × ChainStatus)) (x : List ℕ) → kept_state x (kept_in entries) ≡ option_map state_of (stored entries x)
kept_is [] x = refl
kept_is (entry ∷ entries) x =
    ap (cond (bytes_eq x (vec_items entry.0)) (Some (state_of entry.1))) (kept_is entries x) ∙ seen_by (bytes_eq x (vec_items entry.0)) entry.1 (stored entries x)

-- a round that keeps none
pub none_kept : {Y : Type 0} (entries : List (Vec ℕ Y × ChainStatus)) (x : List ℕ) → length entries ≡ 0 → None ≡ kept_state x (kept_in entries)
none_kept [] x none = refl
none_kept (entry ∷ entries) x none = absurd (omega arith)

others : {K X : Type 0} (eq : K → K → Bool) (test : K → Bool) (old new : List (K × X)) → KeepsOthers eq test old new
    → (other : K → Bool) → IsKeyTest eq other → AreApart test other → lookup other new ≡ lookup other old
unfolding KeepsOthers
others eq test old new h = h

apart : (bs cs ks : List ℕ) → bytes_eq bs cs ≡ false → bytes_eq bs ks ≡ true → bytes_eq cs ks ≡ false
apart bs cs ks n y = nat_list_eq_equiv.symm cs ks ∙ sym (nat_list_eq_equiv.congr bs ks cs y) ∙ n

abbrev pub Puts : {Y : Type 0} → Vec ℕ Y → ChainStatus → List (Vec ℕ Y × ChainStatus) → List (Vec ℕ Y × ChainStatus) → Type 0
Puts key chain old new = (stored new (vec_items key) ≡ Some chain)
    × KeepsOthers (λ a b. bytes_eq (vec_items a) (vec_items b)) (λ own. bytes_eq (vec_items key) (vec_items own)) old new

put_by : {Y : Type 0} (key : Vec ℕ Y) (chain : ChainStatus) (old new : List (Vec ℕ Y × ChainStatus)) (x : List ℕ) (t : Bool) → bytes_eq (vec_items key) x ≡ t → Puts key chain old new
    → stored new x ≡ cond t (Some chain) (stored old x)
put_by key chain old new x true e put = ap (stored new) (sym ((bytes_decides (vec_items key) x).0 e)) ∙ put.0
put_by key chain old new x false e put =
    others (λ a b. bytes_eq (vec_items a) (vec_items b)) (λ own. bytes_eq (vec_items key) (vec_items own)) old new put.1 (λ own. bytes_eq x (vec_items own))
    (λ a b. nat_list_eq_equiv.congr x (vec_items a) (vec_items b)) (λ own. apart (vec_items key) x (vec_items own) e)

pub keeps : {Y : Type 0} (key : Vec ℕ Y) (chain : ChainStatus) (old new : List (Vec ℕ Y × ChainStatus)) (kept : Kept) → kept_in old ≡ kept → Puts key chain old new
    → Keeps (vec_items key) (state_of chain) kept (kept_in new)
keeps key chain old new kept is put = λ x.
    kept_is new x ∙ ap (option_map state_of) (put_by key chain old new x (bytes_eq (vec_items key) x) refl put)
    ∙ sym (seen_by (bytes_eq (vec_items key) x) chain (stored old x)) ∙ ap (cond (bytes_eq (vec_items key) x) (Some (state_of chain))) (sym (kept_is old x) ∙ ap (kept_state x) is)

pub seen_copied : (found : Option (Bor ChainStatus)) → option_map (λ one. state_of one.now) found ≡ option_map state_of (option_copied found)
seen_copied None = refl
seen_copied (Some one) = refl
