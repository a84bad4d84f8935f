-- What a value comes to is what its row says, both ways.
use Rattle.std.proofs.Common.{unwrap_or, ◌≡◌, ℕ, ◌<◌, ◌≤◌, ◌^◌, ◌==◌, Bool, true, false, cond, List, [], ◌∷◌, ◌++◌, codes, Option, Some, None, option_and_then, refl, sym, ◌∙◌, ap, subst, arith}
use Rattle.std.proofs.lemmas.Bool.Decides.{nat_tests}
use Rattle.std.proofs.lemmas.Option.{cond_some, same_Some}
use Rattle.text_grammar.specs.Decimal.{number_up_to}
use Rattle.text_grammar.proofs.DecimalLaws.{number_only, number_within, number_written}
use Rattle.tn_values.specs.Local.{LocalView, is_local, local_of}
use Rattle.stir_words.specs.Rows.{EachMeans, Means, Number, NumberOr, OptionRow, Text, TextOf, TextOr, Writes, local_rows}
use Rattle.stir_words.specs.Table.{Given}
use Rattle.stir_words.specs.Values.{country_of, local_in, number_or, text_if, unless_none}

-- ---- texts

pub text_again : (text : List ℕ) (value : Option (List ℕ)) → Means (Text text) value → value ≡ Some text
text_again text None h = absurd h
text_again text (Some found) h = ap Some h

pub text_means : (text : List ℕ) (value : Option (List ℕ)) → value ≡ Some text → Means (Text text) value
text_means text None h = absurd cc
text_means text (Some found) h = same_Some found text h

pub fits_means : (fits : List ℕ → Bool) (text : List ℕ) (value : Option (List ℕ)) → option_and_then (text_if fits) value ≡ Some text → Means (TextOf fits text) value
fits_means fits text None h = absurd cc
fits_means fits text (Some found) h =
    let parts = cond_some (fits found) found text h in (parts.1, subst (λ (x : List ℕ). fits x ≡ true) parts.1 parts.0)

pub fits_again : (fits : List ℕ → Bool) (text : List ℕ) (value : Option (List ℕ)) → Means (TextOf fits text) value → option_and_then (text_if fits) value ≡ Some text
fits_again fits text None h = absurd h
fits_again fits text (Some found) h = ap (text_if fits) h.0 ∙ ap (λ (t : Bool). cond t (Some text) None) h.1

pub fits_parts : (fits : List ℕ → Bool) (text : List ℕ) (value : Option (List ℕ)) → Means (TextOf fits text) value → (value ≡ Some text) × (fits text ≡ true)
fits_parts fits text None h = absurd h
fits_parts fits text (Some found) h = (ap Some h.0, h.1)

-- ---- numbers

writes : (least most number : ℕ) (text : List ℕ) → most < 2 ^ 64 → least ≤ number → number_up_to most text ≡ Some number → Writes text least most number
writes least most number text small low h = record { digits = number_written most text number small h; low = low; high = number_within most text number h }

written : (least most number : ℕ) (text : List ℕ) → most < 2 ^ 64 → Writes text least most number → number_up_to most text ≡ Some number
written least most number text small w = number_only most text number small w.high w.digits

pub number_means : (most number : ℕ) (value : Option (List ℕ)) → most < 2 ^ 64 → option_and_then (number_up_to most) value ≡ Some number → Means (Number 0 most number) value
number_means most number None small h = absurd cc
number_means most number (Some text) small h = writes 0 most number text small (omega arith) h

pub number_again : (least most number : ℕ) (value : Option (List ℕ)) → most < 2 ^ 64 → Means (Number least most number) value
    → option_and_then (number_up_to most) value ≡ Some number
number_again least most number None small h = absurd h
number_again least most number (Some text) small h = written least most number text small h

pub or_means : (other most number : ℕ) (value : Option (List ℕ)) → most < 2 ^ 64 → number_or other most value ≡ Some number → Means (NumberOr other 0 most number) value
or_means other most number None small h = sym (same_Some other number h)
or_means other most number (Some text) small h = writes 0 most number text small (omega arith) h

pub or_again : (other least most number : ℕ) (value : Option (List ℕ)) → most < 2 ^ 64 → Means (NumberOr other least most number) value → number_or other most value ≡ Some number
or_again other least most number None small h = ap Some (sym h)
or_again other least most number (Some text) small h = written least most number text small h

-- ---- numbers that aren't 0

unless_by : (found number : ℕ) (t : Bool) → (found == 0) ≡ t → cond t None (Some found) ≡ Some number → (found ≡ number) × (1 ≤ number)
unless_by found number true e h = absurd cc
unless_by found number false e h = let same = same_Some found number h in (same, subst (λ (n : ℕ). 1 ≤ n) same (grind (arith, nat_tests)))

unless_some : (found : Option ℕ) (number : ℕ) → unless_none found ≡ Some number → (found ≡ Some number) × (1 ≤ number)
unless_some None number h = absurd cc
unless_some (Some found) number h = let parts = unless_by found number (found == 0) refl h in (ap Some parts.0, parts.1)

unless_again : (found : Option ℕ) (number : ℕ) → found ≡ Some number → 1 ≤ number → unless_none found ≡ Some number
unless_again found number is low =
    let no_zero : (number == 0) ≡ false = grind (arith, nat_tests) in ap unless_none is ∙ ap (λ (t : Bool). cond t None (Some number)) no_zero

pub some_or_means : (other most number : ℕ) (value : Option (List ℕ)) → most < 2 ^ 64 → unless_none (number_or other most value) ≡ Some number
    → Means (NumberOr other 1 most number) value
some_or_means other most number None small h = let parts = unless_some (Some other) number h in sym (same_Some other number parts.0)
some_or_means other most number (Some text) small h =
    let parts = unless_some (number_up_to most text) number h in writes 1 most number text small parts.1 parts.0

pub some_or_again : (other most number : ℕ) (value : Option (List ℕ)) → most < 2 ^ 64 → 1 ≤ other → Means (NumberOr other 1 most number) value
    → unless_none (number_or other most value) ≡ Some number
some_or_again other most number None small low h =
    let some : 1 ≤ number = subst (λ (n : ℕ). 1 ≤ n) (sym h) low in unless_again (Some other) number (ap Some (sym h)) some
some_or_again other most number (Some text) small low h = unless_again (number_up_to most text) number (written 1 most number text small h) h.low

pub some_means : (most number : ℕ) (value : Option (List ℕ)) → most < 2 ^ 64 → unless_none (option_and_then (number_up_to most) value) ≡ Some number
    → Means (Number 1 most number) value
some_means most number None small h = absurd cc
some_means most number (Some text) small h = let parts = unless_some (number_up_to most text) number h in writes 1 most number text small parts.1 parts.0

pub some_again : (most number : ℕ) (value : Option (List ℕ)) → most < 2 ^ 64 → Means (Number 1 most number) value
    → unless_none (option_and_then (number_up_to most) value) ≡ Some number
some_again most number None small h = absurd h
some_again most number (Some text) small h = unless_again (number_up_to most text) number (written 1 most number text small h) h.low

-- ---- the local numbering

record LocalParts (country : List ℕ) (national : Option ℕ) (l : LocalView) : Type 0 where
  length_is : national ≡ Some l.national
  country_is : country ≡ l.country
  fits : is_local l.country l.national ≡ true

local_by : (country : List ℕ) (national : ℕ) (l : LocalView) (t : Bool) → is_local country national ≡ t
    → cond t (Some (record { country = country; national = national })) None ≡ Some l → LocalParts country (Some national) l
local_by country national l true e h =
    let made : LocalView = record { country = country; national = national } in
    let same : made ≡ l = cc in
    record { length_is = ap (λ (x : LocalView). Some x.national) same; country_is = ap (λ (x : LocalView). x.country) same; fits = subst (λ (x : LocalView). is_local x.country x.national ≡ true) same e }
local_by country national l false e h = absurd cc

local_parts : (country : List ℕ) (national : Option ℕ) (l : LocalView) → option_and_then (λ n. local_of country n) national ≡ Some l → LocalParts country national l
local_parts country None l h = absurd cc
local_parts country (Some national) l h = local_by country national l (is_local country national) refl h

or_text : (fits : List ℕ → Bool) (other text : List ℕ) (value : Option (List ℕ)) → unwrap_or value other ≡ text → fits text ≡ true → Means (TextOr fits other text) value
or_text fits other text None e h = (sym e, h)
or_text fits other text (Some found) e h = (e, h)

or_text_again : (fits : List ℕ → Bool) (other text : List ℕ) (value : Option (List ℕ)) → Means (TextOr fits other text) value
    → (unwrap_or value other ≡ text) × (fits text ≡ true)
or_text_again fits other text None h = (sym h.0, h.1)
or_text_again fits other text (Some found) h = h

pub local_means : (given : Given) (l : LocalView) → local_in given ≡ Some l → EachMeans given (local_rows l)
local_means given l h =
    let parts = local_parts (country_of given) (number_or 10 14 (given (codes "national"))) l h in (
      or_text (λ country. is_local country l.national) (codes "1") l.country (given (codes "country")) parts.country_is parts.fits,
      (or_means 10 14 l.national (given (codes "national")) (omega arith) parts.length_is, tt),
    )

local_made : (country : List ℕ) (national : Option ℕ) (l : LocalView) → national ≡ Some l.national → country ≡ l.country → is_local l.country l.national ≡ true
    → option_and_then (λ n. local_of country n) national ≡ Some l
local_made country national l n c fits = rw (n, c, fits) refl

pub local_again : (given : Given) (l : LocalView) → EachMeans given (local_rows l) → local_in given ≡ Some l
local_again given l h =
    let country = or_text_again (λ country. is_local country l.national) (codes "1") l.country (given (codes "country")) h.0 in
    local_made (country_of given) (number_or 10 14 (given (codes "national"))) l (or_again 10 0 14 l.national (given (codes "national")) (omega arith) h.1.0)
    country.0 country.1

-- ---- rows one after the other

pub both_mean : (given : Given) (first others : List OptionRow) → EachMeans given first → EachMeans given others → EachMeans given (first ++ others)
both_mean given [] others a b = b
both_mean given (row ∷ first) others a b = (a.0, both_mean given first others a.1 b)

pub split_mean : (given : Given) (first others : List OptionRow) → EachMeans given (first ++ others) → EachMeans given first × EachMeans given others
split_mean given [] others h = (tt, h)
split_mean given (row ∷ first) others h = let rest = split_mean given first others h.1 in ((h.0, rest.0), rest.1)
