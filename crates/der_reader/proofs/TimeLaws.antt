-- Laws of the readers of a time: they give the moment whose text it is, and no other.
use Rattle.std.proofs.Common.{◌≡◌, ℕ, ◌+◌, ◌-◌, ◌*◌, ◌/◌, ◌%◌, ◌<◌, ◌≤◌, Bool, true, false, cond, nat_lt, ◌==◌, ◌&&◌, List, [], ◌∷◌, ◌++◌, length, get_or, ℤ, pos, lit≤, Result, Ok, Err, IfOk, refl, sym, ap, subst, inl, inr, ◌⊎◌, ◌∙◌, arith}
use Rattle.std.proofs.lemmas.Bool.Decides.{nat_tests}
use Rattle.std.proofs.lemmas.Int.{ints}
use Rattle.jiff_core.specs.Calendar.{days_in_month}
use Rattle.der_reader.specs.declared.moment.Moment.{Moment}
use Rattle.der_reader.specs.declared.fault.DerFault.{DerFault}
use Rattle.der_reader.specs.Moment.{IsMoment, seconds_of}
use Rattle.der_reader.specs.Time.{TimeText, UtcTimeText, GeneralizedTimeText, is_digit, two, text_after_year, two_front, moment_at, utc_moment, generalized_moment, moment_of, time_of}
use Rattle.der_reader.specs.Tags.{utc_time_tag, generalized_time_tag}
use Rattle.der_reader.proofs.MomentLaws.{seconds_again, seconds_found}
use Rattle.lists.proofs.StepLaws.{after, came, taken}

-- ---- two digits

fronts : (a b a' b' : ℕ) (r r' : List ℕ) → a ≡ a' → b ≡ b' → r ≡ r' → ◌≡◌ {A = List ℕ} (a ∷ b ∷ r) (a' ∷ b' ∷ r')
fronts a b a' b' r r' p q s = cc

digits_are : (a b n : ℕ) → (48 ≤ a) × (a ≤ 57) × (48 ≤ b) × (b ≤ 57) → (a - 48) * 10 + (b - 48) ≡ n
    → (n < 100) × (a ≡ 48 + n / 10) × (b ≡ 48 + n % 10)
digits_are a b n d e = (omega arith, omega arith, omega arith)

two_found : (text : List ℕ) (p : ℕ × List ℕ) → two_front text ≡ Ok p → (p.0 < 100) × (text ≡ two p.0 ++ p.1)
unfolding two_front
two_found [] p e = absurd (grind (arith, nat_tests))
two_found (a ∷ []) p e = absurd (grind (arith, nat_tests))
two_found (a ∷ b ∷ rest) p e =
    let t = taken _ _ p _ e in
    let number : (a - 48) * 10 + (b - 48) ≡ p.0 = ap (λ (p : ℕ × List ℕ). p.0) t.1 in
    let behind : rest ≡ p.1 = ap (λ (p : ℕ × List ℕ). p.1) t.1 in
    let d = digits_are a b p.0 (passed a b _ t.0) number in
    (d.0, fronts a b _ _ rest p.1 d.1 d.2 behind)
  where
    passed : (a b : ℕ) (l : Bool) → l && is_digit a && is_digit b ≡ true → (48 ≤ a) × (a ≤ 57) × (48 ≤ b) × (b ≤ 57)
    passed a b l e = (grind (arith, nat_tests), grind (arith, nat_tests), grind (arith, nat_tests), grind (arith, nat_tests))

gave : (a b n : ℕ) (rest : List ℕ) → 48 ≤ a → a ≤ 57 → 48 ≤ b → b ≤ 57 → (a - 48) * 10 + (b - 48) ≡ n → two_front (a ∷ b ∷ rest) ≡ Ok (n, rest)
unfolding two_front
gave a b n rest h k l m e = grind (arith, nat_tests)

two_again : (n : ℕ) (rest : List ℕ) → n < 100 → two_front (two n ++ rest) ≡ Ok (n, rest)
two_again n rest l = gave (48 + n / 10) (48 + n % 10) n rest (omega arith) (omega arith) (omega arith) (omega arith) (omega arith)

-- ---- a moment

record HasDigits (m : Moment) : Type 0 where
  month : m.month < 100
  day : m.day < 100
  hour : m.hour < 100
  minute : m.minute < 100
  second : m.second < 100

-- the end of a time
zone : (text : List ℕ) → (length text == 1) && (get_or text 0 0 == 90) ≡ true → text ≡ 90 ∷ []
zone [] e = absurd (grind (arith, nat_tests))
zone (a ∷ []) e = let is : a ≡ 90 = grind (arith, nat_tests) in ap (λ a. a ∷ []) is
zone (a ∷ b ∷ rest) e = absurd (grind (arith, nat_tests))

moment_found : (year : ℕ) (text : List ℕ) (m : Moment) → moment_at year text ≡ Ok m → (m.year ≡ year) × (text ≡ text_after_year m)
unfolding moment_at
moment_found year text m e =
    let a = came (two_front text) _ m e in
    let b = came (two_front a.0.1) _ m a.2 in
    let c = came (two_front b.0.1) _ m b.2 in
    let d = came (two_front c.0.1) _ m c.2 in
    let f = came (two_front d.0.1) _ m d.2 in
    let t = taken _ _ m _ f.2 in
    let ta = (two_found text a.0 a.1).1 in
    let tb = (two_found a.0.1 b.0 b.1).1 in
    let tc = (two_found b.0.1 c.0 c.1).1 in
    let td = (two_found c.0.1 d.0 d.1).1 in
    let tf = (two_found d.0.1 f.0 f.1).1 in
    let tz = zone f.0.1 t.0 in
    let P : Moment → Type 0 = λ m. (m.year ≡ year) × (text ≡ text_after_year m) in
    subst P t.1 (
      refl,
      ta ∙ ap (λ r. two a.0.0 ++ r) (tb ∙ ap (λ r. two b.0.0 ++ r) (tc ∙ ap (λ r. two c.0.0 ++ r)
          (td ∙ ap (λ r. two d.0.0 ++ r) (tf ∙ ap (λ r. two f.0.0 ++ r) tz)))),
    )

moment_again : (m : Moment) → HasDigits m → moment_at m.year (text_after_year m) ≡ Ok m
unfolding moment_at
moment_again m h =
    after _ _ _ _ (two_again m.month _ h.month)
    (after _ _ _ _ (two_again m.day _ h.day)
    (after _ _ _ _ (two_again m.hour _ h.hour)
    (after _ _ _ _ (two_again m.minute _ h.minute)
    (after _ _ _ _ (two_again m.second _ h.second) refl))))

-- ---- the two forms

utc_found : (text : List ℕ) (m : Moment) → utc_moment text ≡ Ok m → UtcTimeText text m
unfolding utc_moment
utc_found text m e =
    let a = came (two_front text) _ m e in
    let ta = two_found text a.0 a.1 in
    let year = moment_found _ a.0.1 m a.2 in
    let y = years a.0.0 ta.0 in
    record {
      from_1950 = omega (arith, y.0, year.0);
      to_2049 = omega (arith, y.1, year.0);
      text = ta.1 ∙ ap (λ r. two a.0.0 ++ r) year.1 ∙ ap (λ n. two n ++ text_after_year m) (sym (ap (λ y. y % 100) year.0 ∙ y.2));
    }
  where
    years : (n : ℕ) → n < 100 → (1950 ≤ cond (nat_lt n 50) (2000 + n) (1900 + n)) × (cond (nat_lt n 50) (2000 + n) (1900 + n) < 2050) × (cond (nat_lt n 50) (2000 + n) (1900 + n) % 100 ≡ n)
    years n l = (grind (arith, nat_tests), grind (arith, nat_tests), grind (arith, nat_tests))

utc_again : (text : List ℕ) (m : Moment) → HasDigits m → UtcTimeText text m → utc_moment text ≡ Ok m
unfolding utc_moment
utc_again text m h t =
    ap utc_moment t.text ∙
    after _ _ _ _ (two_again (m.year % 100) (text_after_year m) (omega arith))
    (ap (λ y. moment_at y (text_after_year m)) (year m.year t.from_1950 t.to_2049) ∙ moment_again m h)
  where
    year : (y : ℕ) → 1950 ≤ y → y < 2050 → cond (nat_lt (y % 100) 50) (2000 + y % 100) (1900 + y % 100) ≡ y
    year y l u = grind (arith, nat_tests)

generalized_found : (text : List ℕ) (m : Moment) → generalized_moment text ≡ Ok m → GeneralizedTimeText text m
unfolding generalized_moment
generalized_found text m e =
    let a = came (two_front text) _ m e in
    let b = came (two_front a.0.1) _ m a.2 in
    let ta = two_found text a.0 a.1 in
    let tb = two_found a.0.1 b.0 b.1 in
    let year = moment_found _ b.0.1 m b.2 in
    let high : m.year / 100 ≡ a.0.0 = omega (arith, year.0, ta.0, tb.0) in
    let low : m.year % 100 ≡ b.0.0 = omega (arith, year.0, ta.0, tb.0) in
    record {
      text = ta.1 ∙ ap (λ r. two a.0.0 ++ r) (tb.1 ∙ ap (λ r. two b.0.0 ++ r) year.1)
          ∙ ap (λ n. two n ++ (two b.0.0 ++ text_after_year m)) (sym high)
          ∙ ap (λ n. two (m.year / 100) ++ (two n ++ text_after_year m)) (sym low);
    }

generalized_again : (text : List ℕ) (m : Moment) → HasDigits m → m.year < 10000 → GeneralizedTimeText text m → generalized_moment text ≡ Ok m
unfolding generalized_moment
generalized_again text m h l t =
    let is : m.year / 100 * 100 + m.year % 100 ≡ m.year = omega arith in
    ap generalized_moment t.text ∙
    after _ _ _ _ (two_again (m.year / 100) (two (m.year % 100) ++ text_after_year m) (omega arith))
    (after _ _ _ _ (two_again (m.year % 100) (text_after_year m) (omega arith))
    (ap (λ y. moment_at y (text_after_year m)) is ∙ moment_again m h))

-- ---- the laws

-- no month has more than 31 days
month_days : (y : ℤ) (m : ℕ) → days_in_month y m ≤ 31
month_days y m = short _ _ _
  where
    short : (a b c : Bool) → cond a (cond b 29 28) (cond c 30 31) ≤ 31
    short true true c = lit≤ tt
    short true false c = lit≤ tt
    short false b true = lit≤ tt
    short false b false = lit≤ tt

-- what exists has digits
moment_digits : (m : Moment) → IsMoment m → HasDigits m × (m.year < 10000)
moment_digits m h =
    let days = month_days (pos m.year) m.month in (
      record {
        month = omega (arith, ints, h.date);
        day = omega (arith, ints, h.date, days);
        hour = omega (arith, h.hour);
        minute = omega (arith, h.minute);
        second = omega (arith, h.second);
      },
      omega (arith, ints, h.date),
    )

-- the two forms, by their tags
forms : (tag : ℕ) (content : List ℕ) (m : Moment) → moment_of tag content ≡ Ok m
    → ((tag ≡ utc_time_tag) × (utc_moment content ≡ Ok m)) ⊎ ((tag ≡ generalized_time_tag) × (generalized_moment content ≡ Ok m))
unfolding moment_of
forms tag content m e = grind (arith, nat_tests)

pub time_found : (tag : ℕ) (content : List ℕ) (s : ℤ) → time_of tag content ≡ Ok s → TimeText tag content s
unfolding time_of
time_found tag content s e =
    let a = came (moment_of tag content) _ s e in
    let seconds = seconds_found a.0 s a.2 in
    record {
      moment = a.0;
      exists = seconds.0;
      form = elim (forms tag content a.0 a.1) [
        | inl f ↦ inl (f.0, utc_found content a.0 f.1)
        | inr f ↦ inr (f.0, generalized_found content a.0 f.1)
      ];
      value = seconds.1;
    }

pub time_again : (tag : ℕ) (content : List ℕ) (s : ℤ) → TimeText tag content s → time_of tag content ≡ Ok s
unfolding time_of moment_of
time_again tag content s t =
    let d = moment_digits t.moment t.exists in
    let read : moment_of tag content ≡ Ok t.moment = elim t.form [
      | inl f ↦ ap (λ tag. moment_of tag content) f.0 ∙ utc_again content t.moment d.0 f.1
      | inr f ↦ ap (λ tag. moment_of tag content) f.0 ∙ generalized_again content t.moment d.0 d.1 f.1
    ] in
    after (moment_of tag content) t.moment (λ m. seconds_of m) (Ok s) read (seconds_again t.moment t.exists ∙ ap (λ s. let r : Result ℤ DerFault = Ok s in r) (sym t.value))

-- the same of an answer
pub time_answer_found : (tag : ℕ) (content : List ℕ) (r : Result ℤ DerFault) → r ≡ time_of tag content → IfOk r (TimeText tag content)
time_answer_found tag content (Ok s) e = time_found tag content s (sym e)
time_answer_found tag content (Err f) e = tt

pub time_answer_again : (tag : ℕ) (content : List ℕ) (r : Result ℤ DerFault) → r ≡ time_of tag content
    → (s : ℤ) → TimeText tag content s → r ≡ Ok s
time_answer_again tag content r e s t = e ∙ time_again tag content s t
