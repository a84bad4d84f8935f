-- The chains that a round judged, from what is known of its texts.
use Rattle.std.proofs.Common.{◌≡◌, ℕ, ◌||◌, inl, inr, Bool, true, false, cond, List, [], ◌∷◌, filter, length, Option, Some, None, refl, sym, ap, ◌∙◌, arith}
use Rattle.std.proofs.lemmas.Option.{same_Some}
use Rattle.std.specs.Str.{bytes_eq}
use Rattle.cert_store.specs.Holding.{Chains, chain_of}
use Rattle.cert_store.specs.Judged.{JudgedView}
use Rattle.cert_store.specs.Using.{AreAmong, IsOnce, has, names}
use Rattle.verify_rules.specs.States.{State, have, long, no_chain, unread}
use Rattle.verify_service.specs.Reads.{certificates_in}
use Rattle.verify_service.specs.RoundRead.{all_certificates, is_judged}
use Rattle.verify_service.proofs.StoreAllLaws.{IsPair}
use Rattle.verify_service.proofs.TestLaws.{false_is_not_true, or_right, same_text}

or_step : (b c d : Bool) → (c ≡ true → d ≡ true) → (b || c) ≡ true → (b || d) ≡ true
or_step true c d law is = refl
or_step false c d law is = law is

abbrev pub judged_first : List ℕ → State → Chains → Chains
judged_first x5u (have judged) chains = (x5u, judged) ∷ chains
judged_first x5u no_chain chains = chains
judged_first x5u long chains = chains
judged_first x5u unread chains = chains

-- the judged chains of these texts
abbrev pub judged_chains : List (List ℕ) → List State → Chains
judged_chains [] states = []
judged_chains (x ∷ xs) [] = []
judged_chains (x ∷ xs) (s ∷ ss) = judged_first x s (judged_chains xs ss)

-- ---- their texts

named_first : (z x : List ℕ) (s : State) (chains : Chains) (xs : List (List ℕ)) → (has z (names chains) ≡ true → has z xs ≡ true) → has z (names (judged_first x s chains)) ≡ true
    → has z (x ∷ xs) ≡ true
named_first z x (have judged) chains xs law is = or_step (bytes_eq z x) (has z (names chains)) (has z xs) law is
named_first z x no_chain chains xs law is = or_right (bytes_eq z x) (has z xs) (law is)
named_first z x long chains xs law is = or_right (bytes_eq z x) (has z xs) (law is)
named_first z x unread chains xs law is = or_right (bytes_eq z x) (has z xs) (law is)

pub judged_among : (texts : List (List ℕ)) (states : List State) → AreAmong (names (judged_chains texts states)) texts
judged_among [] states z is = is
judged_among (x ∷ xs) [] z is = absurd (false_is_not_true is)
judged_among (x ∷ xs) (s ∷ ss) z is = named_first z x s (judged_chains xs ss) xs (judged_among xs ss z) is

not_has : (x : List ℕ) (xs ys : List (List ℕ)) → (has x xs ≡ true → has x ys ≡ true) → has x ys ≡ false → has x xs ≡ false
not_has x xs ys law none = by (has x xs) refl
  where
    by : (b : Bool) → has x xs ≡ b → has x xs ≡ false
    by true is = absurd (false_is_not_true (sym none ∙ law is))
    by false is = is

once_first : (x : List ℕ) (s : State) (chains : Chains) (xs : List (List ℕ)) → (has x (names chains) ≡ true → has x xs ≡ true) → has x xs ≡ false → IsOnce (names chains)
    → IsOnce (names (judged_first x s chains))
once_first x (have judged) chains xs law none once = (not_has x (names chains) xs law none, once)
once_first x no_chain chains xs law none once = once
once_first x long chains xs law none once = once
once_first x unread chains xs law none once = once

pub judged_once : (texts : List (List ℕ)) (states : List State) → IsOnce texts → IsOnce (names (judged_chains texts states))
judged_once [] states once = tt
judged_once (x ∷ xs) [] once = tt
judged_once (x ∷ xs) (s ∷ ss) once = once_first x s (judged_chains xs ss) xs (judged_among xs ss x) once.0 (judged_once xs ss once.1)

-- ---- what they are

pair_by : (z x : List ℕ) (judged one : JudgedView) (xs : List (List ℕ)) (ss : List State) (chains : Chains) (b : Bool) → bytes_eq z x ≡ b
    → (chain_of z chains ≡ Some one → IsPair z (have one) xs ss) → cond b (Some judged) (chain_of z chains) ≡ Some one → IsPair z (have one) (x ∷ xs) (have judged ∷ ss)
pair_by z x judged one xs ss chains true same law is = inl (same_text z x same, ap have (sym (same_Some judged one is)))
pair_by z x judged one xs ss chains false same law is = inr (law is)

none_is_some : (one : JudgedView) → ◌≡◌ {A = Option JudgedView} None (Some one) → ⊥
none_is_some one e = cc

pub judged_pair : (texts : List (List ℕ)) (states : List State) (z : List ℕ) (one : JudgedView) → chain_of z (judged_chains texts states) ≡ Some one → IsPair z (have one) texts states
judged_pair [] states z one is = absurd (none_is_some one is)
judged_pair (x ∷ xs) [] z one is = absurd (none_is_some one is)
judged_pair (x ∷ xs) (have judged ∷ ss) z one is = pair_by z x judged one xs ss (judged_chains xs ss) (bytes_eq z x) refl (judged_pair xs ss z one) is
judged_pair (x ∷ xs) (no_chain ∷ ss) z one is = inr (judged_pair xs ss z one is)
judged_pair (x ∷ xs) (long ∷ ss) z one is = inr (judged_pair xs ss z one is)
judged_pair (x ∷ xs) (unread ∷ ss) z one is = inr (judged_pair xs ss z one is)

-- ---- how many

pub judged_count : (texts : List (List ℕ)) (states : List State) → length states ≡ length texts
    → length (filter is_judged states) ≡ length (judged_chains texts states)
judged_count [] [] same = refl
judged_count [] (s ∷ ss) same = absurd (omega arith)
judged_count (x ∷ xs) [] same = refl
judged_count (x ∷ xs) (have judged ∷ ss) same = (let more = judged_count xs ss (omega arith) in omega arith)
judged_count (x ∷ xs) (no_chain ∷ ss) same = judged_count xs ss (omega arith)
judged_count (x ∷ xs) (long ∷ ss) same = judged_count xs ss (omega arith)
judged_count (x ∷ xs) (unread ∷ ss) same = judged_count xs ss (omega arith)

pub judged_certificates : (texts : List (List ℕ)) (states : List State) → length states ≡ length texts → all_certificates states ≡ certificates_in (judged_chains texts states)
judged_certificates [] [] same = refl
judged_certificates [] (s ∷ ss) same = absurd (omega arith)
judged_certificates (x ∷ xs) [] same = refl
judged_certificates (x ∷ xs) (have judged ∷ ss) same = (let more = judged_certificates xs ss (omega arith) in omega arith)
judged_certificates (x ∷ xs) (no_chain ∷ ss) same = (let more = judged_certificates xs ss (omega arith) in omega arith)
judged_certificates (x ∷ xs) (long ∷ ss) same = (let more = judged_certificates xs ss (omega arith) in omega arith)
judged_certificates (x ∷ xs) (unread ∷ ss) same = (let more = judged_certificates xs ss (omega arith) in omega arith)
