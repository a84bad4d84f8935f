-- What the digits read so far and the next byte come to together.
use Rattle.std.proofs.Common.{◌≡◌, ◌≢◌, ℕ, ◌+◌, ◌-◌, ◌^◌, ◌<◌, ◌≤◌, false, List, [], ◌∷◌, ◌++◌, length, Option, Some, None, refl, sym, ◌∙◌, ap, subst, arith, inl, inr, append-nil, append_assoc, length-append}
use Rattle.std.specs.Char.{is_ascii_digit}
use Rattle.std.specs.Fmt.{decimal}
use Rattle.std.specs.Io.KnownBytes.{Consumes, IsAtEnd}
use Rattle.std.proofs.KnownBytes.{Consumes-nil, Consumes-trans}
use Rattle.std.proofs.lemmas.Fmt.{decimal_nonempty, length-decimal-le, length-decimal-le_succ}
use Rattle.std.proofs.lemmas.List.{nil_from_length}
use Rattle.call_log.proofs.DigitLaws.{decimal_digits, seam}
use Rattle.call_log.specs.Number.{AreDigits, BeginsNumber, FailsInNumber, GoesOn, NoNumber, TakesNoNumber, TakesNumber}
use Rattle.call_log.specs.declared.digits.Digits.{Digits}

-- the digits were taken
pub record Took (most : ℕ) (left left_now : Option (List ℕ)) (digits : Digits) : Type 0 where
  pub bytes : List ℕ
  pub taken : Consumes left left_now bytes
  pub are : AreDigits most digits bytes

pub took_none : (most : ℕ) (left : Option (List ℕ)) → Took most left left (record { value = 0; count = 0 })
took_none most left = record { bytes = []; taken = Consumes-nil left; are = record { within = omega arith; size = refl; written = inl (refl, refl) } }

pub took_more : (most byte : ℕ) (left mid now : Option (List ℕ)) (digits more : Digits) → Took most left mid digits → Consumes mid now (byte ∷ []) → GoesOn most digits byte (Some more) → Took most left now more
took_more most byte left mid now digits more t c goes = record { bytes = t.bytes ++ byte ∷ []; taken = Consumes-trans left mid now t.bytes (byte ∷ []) t.taken c; are = goes t.bytes t.are }

pub value_within : (most : ℕ) (left now : Option (List ℕ)) (digits : Digits) → Took most left now digits → digits.value ≤ most
value_within most left now digits t = t.are.within

length_by : (most : ℕ) (digits : Digits) (bytes : List ℕ) → most < 2 ^ 40 → AreDigits most digits bytes → (digits.count ≤ digits.value + 1) × (digits.count ≤ 13)
length_by most digits bytes low are =
    elim are.written [
      | inl none ↦ (omega (arith, are.size, ap length none.0), omega (arith, are.size, ap length none.0))
      | inr some ↦ (
        omega (arith, are.size, ap length some, length-decimal-le_succ digits.value (omega (arith, are.within))),
        omega (arith, are.size, ap length some, length-decimal-le 13 digits.value (omega arith) (omega (arith, are.within)) (omega (arith, are.within))),
      )
    ]

pub few_digits : (most : ℕ) (left now : Option (List ℕ)) (digits : Digits) → most < 2 ^ 40 → Took most left now digits → (digits.count ≤ digits.value + 1) × (digits.count ≤ 13)
few_digits most left now digits low t = length_by most digits t.bytes low t.are

begun : (most : ℕ) (digits : Digits) (bytes : List ℕ) → AreDigits most digits bytes → BeginsNumber most bytes
begun most digits bytes are =
    elim are.written [
      | inl none ↦ record { number = 0; more = decimal 0; within = omega arith; whole = ap (λ x. x ++ decimal 0) none.0 }
      | inr some ↦ record { number = digits.value; more = []; within = are.within; whole = append-nil bytes ∙ some }
    ]

-- the byte after the number came
pub number_taken : (most last : ℕ) (left mid now : Option (List ℕ)) (digits : Digits) → Took most left mid digits → Consumes mid now (last ∷ []) → digits.count ≢ 0 → TakesNumber most last left now digits
number_taken most last left mid now digits t c some =
    let text : t.bytes ≡ decimal digits.value = elim t.are.written [ inl none ↦ absurd (some (t.are.size ∙ ap length none.0)) | inr here ↦ here ] in
    record {
      number = record { within = t.are.within; size = t.are.size ∙ ap length text };
      taken = subst (λ x. Consumes left now (x ++ last ∷ [])) text (Consumes-trans left mid now t.bytes (last ∷ []) t.taken c);
    }

no_first : (most last : ℕ) (more : List ℕ) → most < 2 ^ 40 → is_ascii_digit last ≡ false → NoNumber most last (last ∷ more)
no_first most last more low m = λ number behind within e.
    let none : [] ≡ decimal number = (seam [] (decimal number) more behind last last refl (decimal_digits number (omega arith)) m m e).0 in
    omega (arith, decimal_nonempty number (omega arith), ap length none)

-- the byte came before any digit
pub no_digit : (most last : ℕ) (left mid now : Option (List ℕ)) (digits : Digits) → most < 2 ^ 40 → is_ascii_digit last ≡ false → Took most left mid digits → Consumes mid now (last ∷ []) → digits.count ≡ 0
    → TakesNoNumber most last left now
no_digit most last left mid now digits low m t c none =
    let empty : t.bytes ≡ [] = nil_from_length t.bytes (sym t.are.size ∙ none) in
    record {
      bytes = t.bytes ++ last ∷ [];
      taken = Consumes-trans left mid now t.bytes (last ∷ []) t.taken c;
      breaks = inl (record {
        front = t.bytes;
        byte = last;
        split = refl;
        begun = begun most digits t.bytes t.are;
        settled = λ more. subst (λ x. NoNumber most last ((x ++ last ∷ []) ++ more)) (sym empty) (no_first most last more low m);
      });
    }

-- with this byte the number breaks off
pub breaks_off : (most byte last : ℕ) (left mid now : Option (List ℕ)) (digits : Digits) → is_ascii_digit last ≡ false → Took most left mid digits → Consumes mid now (byte ∷ []) → byte ≢ last
    → GoesOn most digits byte None → TakesNoNumber most last left now
breaks_off most byte last left mid now digits m t c other goes = record {
  bytes = t.bytes ++ byte ∷ [];
  taken = Consumes-trans left mid now t.bytes (byte ∷ []) t.taken c;
  breaks = inl (record {
    front = t.bytes;
    byte = byte;
    split = refl;
    begun = begun most digits t.bytes t.are;
    settled = λ more. subst (NoNumber most last) (sym (append_assoc t.bytes (byte ∷ []) more)) (goes t.bytes more last t.are m other);
  });
}

joined : (left mid now : Option (List ℕ)) (bytes : List ℕ) → Consumes left mid bytes → Consumes mid now [] → Consumes left now bytes
joined left mid now bytes t c = subst (Consumes left now) (append-nil bytes) (Consumes-trans left mid now bytes [] t c)

-- nothing more came
pub number_ended : (most last : ℕ) (left mid now : Option (List ℕ)) (digits : Digits) → Took most left mid digits → Consumes mid now [] → IsAtEnd now → TakesNoNumber most last left now
number_ended most last left mid now digits t c end = record {
  bytes = t.bytes;
  taken = joined left mid now t.bytes t.taken c;
  breaks = inr (record { ended = end; begun = begun most digits t.bytes t.are });
}

-- the source failed
pub number_failed : (most : ℕ) (left mid now : Option (List ℕ)) (digits : Digits) → Took most left mid digits → Consumes mid now [] → FailsInNumber most left now
number_failed most left mid now digits t c = record { bytes = t.bytes; taken = joined left mid now t.bytes t.taken c; begun = begun most digits t.bytes t.are }

-- a further digit brings the number nearer its end
pub nearer : (most byte : ℕ) (left now : Option (List ℕ)) (digits more : Digits) → most < 2 ^ 40 → Took most left now digits → GoesOn most digits byte (Some more) → 14 - more.count < 14 - digits.count
nearer most byte left now digits more low t goes =
    let are : AreDigits most more (t.bytes ++ byte ∷ []) = goes t.bytes t.are in
    let few = (length_by most more (t.bytes ++ byte ∷ []) low are).1 in
    let longer : more.count ≡ digits.count + 1 = omega (arith, are.size, t.are.size, length-append t.bytes (byte ∷ [])) in
    omega (arith, few, longer)
