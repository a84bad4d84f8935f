-- How often rounds read files: the bound of several is that of each, one after the other.
use Rattle.std.proofs.Common.{◌≡◌, ℕ, ◌+◌, ◌≤◌, Bool, true, false, ◌||◌, List, [], ◌∷◌, ◌++◌, length, refl, sym, ◌∙◌, ap, append_assoc, append-nil, arith, subst}
use Rattle.std.specs.Str.{bytes_eq}
use Rattle.call_log.specs.Entry.{Entry}
use Rattle.cert_store.specs.Files.{Files as ChainFiles}
use Rattle.cert_store.specs.Holding.{Chains}
use Rattle.cert_store.specs.Using.{AreAmong, has, names}
use Rattle.log_rounds.proofs.RoundLaws.{calls_both}
use Rattle.log_rounds.proofs.TextLaws.{texts_unheld}
use Rattle.log_rounds.specs.Judge.{JudgeConfig, JudgeState}
use Rattle.log_rounds.specs.Reads.{ReadsNamed}
use Rattle.log_rounds.specs.Rounds.{Round, calls_in}
use Rattle.stir_outside.proofs.CountLaws.{not_risen_before, not_risen_behind}
use Rattle.stir_outside.specs.Count.{NotRisen}
use Rattle.verify_rules.specs.declared.settings.Settings.{Settings}
use Rattle.verify_service.specs.Judging.{call_in}
use Rattle.verify_service.specs.Needed.{named, named_in, round_texts}
use Rattle.verify_service.specs.Reads.{ReadOnce, ReadsFew, unheld}
use Rattle.verify_service.specs.declared.outcome.Outcome.{Outcome}

-- ---- the texts of calls, one after another

has_front : (x : List ℕ) (xs ys : List (List ℕ)) → has x xs ≡ true → has x (xs ++ ys) ≡ true
has_front x [] ys h = absurd (cc)
has_front x (y ∷ xs) ys h = by_first (bytes_eq x y) (has x xs) (has x (xs ++ ys)) (has_front x xs ys) h
  where
    by_first : (here some more : Bool) → (some ≡ true → more ≡ true) → (here || some) ≡ true → (here || more) ≡ true
    by_first true some more f e = refl
    by_first false some more f e = f e

has_behind : (x : List ℕ) (xs ys : List (List ℕ)) → has x ys ≡ true → has x (xs ++ ys) ≡ true
has_behind x [] ys h = h
has_behind x (y ∷ xs) ys h = or_more (bytes_eq x y) (has x (xs ++ ys)) (has_behind x xs ys h)
  where
    or_more : (here more : Bool) → more ≡ true → (here || more) ≡ true
    or_more true more e = refl
    or_more false more e = e

named_both : (settings : Settings) (xs ys : List Entry) → named settings (xs ++ ys) ≡ named settings xs ++ named settings ys
named_both settings [] ys = refl
named_both settings (x ∷ xs) ys = ap (λ t. named_in (call_in settings x) ++ t) (named_both settings xs ys) ∙ sym (append_assoc (named_in (call_in settings x)) (named settings xs) (named settings ys))

named_front : (settings : Settings) (x5u : List ℕ) (xs ys : List Entry) → has x5u (named settings xs) ≡ true → has x5u (named settings (xs ++ ys)) ≡ true
named_front settings x5u xs ys h = subst (λ t. has x5u t ≡ true) (sym (named_both settings xs ys)) (has_front x5u (named settings xs) (named settings ys) h)

named_behind : (settings : Settings) (x5u : List ℕ) (xs ys : List Entry) → has x5u (named settings ys) ≡ true → has x5u (named settings (xs ++ ys)) ≡ true
named_behind settings x5u xs ys h = subst (λ t. has x5u t ≡ true) (sym (named_both settings xs ys)) (has_behind x5u (named settings xs) (named settings ys) h)

-- ---- the bound

reads_both : (settings : Settings) (chains : ChainFiles) (xs ys : List Entry) (held mid now : List (List ℕ)) (reads reads_mid reads_now : ℕ) → ReadsFew settings chains xs held mid reads reads_mid
    → ReadsFew settings chains ys mid now reads_mid reads_now → ReadsFew settings chains (xs ++ ys) held now reads reads_now
reads_both settings chains xs ys held mid now reads reads_mid reads_now f g = λ texts are.
    let first : ReadOnce texts held mid reads reads_mid = f texts (record { few = are.few; named = λ x5u n l. are.named x5u (named_front settings x5u xs ys n) l; held_among = are.held_among }) in
    let then : ReadOnce texts mid now reads_mid reads_now = g texts (record { few = are.few; named = λ x5u n l. are.named x5u (named_behind settings x5u xs ys n) l; held_among = first.among }) in
    record { fewer = omega (arith, first.fewer, then.fewer); among = then.among }

pub few_none : (config : JudgeConfig) (chains : ChainFiles) (a : JudgeState) → NotRisen a.provider a.provider → ReadsFew config.settings chains [] a.held a.held a.reads a.reads
few_none config chains a quiet = λ texts are. record { fewer = omega arith; among = are.held_among }

-- of a round by itself
pub few_one : (config : JudgeConfig) (chains : ChainFiles) (a b : JudgeState) (calls : List Entry) (outcomes : List Outcome) → (NotRisen a.provider b.provider → ReadsFew config.settings chains calls a.held b.held a.reads b.reads)
    → NotRisen a.provider b.provider → ReadsFew config.settings chains (calls_in (record { calls = calls; outcomes = outcomes } ∷ [])) a.held b.held a.reads b.reads
few_one config chains a b calls outcomes f quiet = subst (λ t. ReadsFew config.settings chains t a.held b.held a.reads b.reads) (sym (append-nil calls)) (f quiet)

pub few_both : (config : JudgeConfig) (chains : ChainFiles) (a b c : JudgeState) (xs ys : List Round) → a.provider ≤ b.provider → b.provider ≤ c.provider
    → (NotRisen a.provider b.provider → ReadsFew config.settings chains (calls_in xs) a.held b.held a.reads b.reads) → (NotRisen b.provider c.provider → ReadsFew config.settings chains (calls_in ys) b.held c.held b.reads c.reads)
    → NotRisen a.provider c.provider → ReadsFew config.settings chains (calls_in (xs ++ ys)) a.held c.held a.reads c.reads
few_both config chains a b c xs ys p q f g quiet =
    subst (λ t. ReadsFew config.settings chains t a.held c.held a.reads c.reads) (sym (calls_both xs ys))
    (reads_both config.settings chains (calls_in xs) (calls_in ys) a.held b.held c.held a.reads b.reads c.reads
    (f (not_risen_before a.provider b.provider c.provider p q quiet)) (g (not_risen_behind a.provider b.provider c.provider p q quiet)))

-- ---- if no chain was held at first

none_held : (texts : List (List ℕ)) → unheld texts [] ≡ length texts
none_held [] = refl
none_held (x ∷ xs) = omega (arith, none_held xs)

among_none : (texts : List (List ℕ)) → AreAmong [] texts
among_none texts x h = absurd (cc)

pub few_named : (config : JudgeConfig) (chains : ChainFiles) (a b : JudgeState) (calls : List Entry) → a.held ≡ [] → ReadsFew config.settings chains calls a.held b.held a.reads b.reads → ReadsNamed config.settings chains calls a.reads b.reads
few_named config chains a b calls none few = λ texts have.
    let from_none : ReadsFew config.settings chains calls [] b.held a.reads b.reads = subst (λ t. ReadsFew config.settings chains calls t b.held a.reads b.reads) none few in
    let once = from_none texts (record { few = have.few; named = have.named; held_among = among_none texts }) in
    omega (arith, once.fewer, none_held texts)

-- ---- of calls that were begun, and weren't answered

-- if no chain was held at first, and these are all that was read since
pub few_begun : (settings : Settings) (chains : ChainFiles) (before held : Chains) (xs calls : List Entry) (reads mid now : ℕ) → names before ≡ [] → ReadsFew settings chains xs (names before) (names held) reads mid
    → now ≤ mid + length (round_texts chains held (named settings calls)) → ReadsNamed settings chains (xs ++ calls) reads now
few_begun settings chains before held xs calls reads mid now none few most = λ texts have.
    let from_none : ReadsFew settings chains xs [] (names held) reads mid = subst (λ t. ReadsFew settings chains xs t (names held) reads mid) none few in
    let once = from_none texts (record { few = have.few; named = λ x5u n l. have.named x5u (named_front settings x5u xs calls n) l; held_among = among_none texts }) in
    let more = texts_unheld chains held (named settings calls) texts (λ x5u n l. have.named x5u (named_behind settings x5u xs calls n) l) in
    omega (arith, once.fewer, none_held texts, more, most)

-- the same of fewer calls
pub fewer_named : (settings : Settings) (chains : ChainFiles) (xs ys : List Entry) (reads now : ℕ) → ReadsNamed settings chains xs reads now → ReadsNamed settings chains (xs ++ ys) reads now
fewer_named settings chains xs ys reads now few texts have = few texts (record { few = have.few; named = λ x5u n l. have.named x5u (named_front settings x5u xs ys n) l })
