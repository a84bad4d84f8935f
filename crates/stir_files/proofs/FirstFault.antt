-- If a shelf tells its files, the reading ends at the first fault of these.
use Rattle.std.proofs.Common.{◌≡◌, ℕ, ◌≤◌, ◌⊎◌, inl, inr, true, false, nat_lt, List, [], ◌∷◌, length, Option, Some, None, Ok, Err, refl, sym, ◌∙◌, ap, arith}
use Rattle.std.proofs.lemmas.Bool.Decides.{nat_tests}
use Rattle.std.specs.Option.{option_map, option_or}
use Rattle.stir_outside.specs.Files.{Files, IsLonger, file}
use Rattle.stir_files.specs.Inputs.{Holds, file_of, files_named}
use Rattle.stir_files.specs.Named.{FaultSays, IsOutside, NamedFile, Passes, Stop, StopsAt, fault_in, first_fault, stop_in}
use Rattle.stir_files.specs.Stop.{Truly, stop_of}
use Rattle.stir_files.specs.declared.fault.FileFault.{FileFault}
use Rattle.stir_files.specs.declared.fault.FileFault.TheVariants.{Missing, Long, Failed, Refused, NoList, Memory}
use Rattle.stir_files.specs.declared.input_file.InputFile.{InputFile}
use Rattle.stir_files.specs.declared.inputs.Inputs.{Inputs}
use Rattle.stir_files.specs.declared.stop.FileError.{FileError}
use Rattle.stir_files.proofs.ListSteps.{passes}

abbrev stop_at : NamedFile → FileFault → Stop
stop_at named fault = record { name = named.name; fault = fault }

-- what a file with this content comes to
abbrev stop_with : NamedFile → Option (List ℕ) → Option Stop
stop_with named held = option_map (stop_at named) (fault_in named held)

short_passes : (named : NamedFile) (content : List ℕ) → length content ≤ named.limit → named.refused content ≡ None → stop_with named (Some content) ≡ None
short_passes named content short fits = let t : nat_lt named.limit (length content) ≡ false = grind (arith, nat_tests) in rw (t, fits) refl

short_refused : (named : NamedFile) (content : List ℕ) (fault : FileFault) → length content ≤ named.limit → named.refused content ≡ Some fault → stop_with named (Some content) ≡ Some (stop_at named fault)
short_refused named content fault short refused = let t : nat_lt named.limit (length content) ≡ false = grind (arith, nat_tests) in rw (t, refused) refl

longer : (named : NamedFile) (held : Option (List ℕ)) → IsLonger named.limit held → stop_with named held ≡ Some (stop_at named Long)
longer named None h = absurd h
longer named (Some content) h = let t : nat_lt named.limit (length content) ≡ true = grind (arith, nat_tests) in rw t refl

pub passed_on : (files : Files) (named : NamedFile) (others : List NamedFile) → Passes (Some files) named → first_fault files (named ∷ others) ≡ first_fault files others
passed_on files named others p =
    ap (λ k. option_or k (first_fault files others)) (ap (stop_with named) p.told ∙ short_passes named p.content p.short p.holds)

-- a fault that is the file's own is the one that its content has
says_truly : (files : Files) (named : NamedFile) (fault : FileFault) → FaultSays (Some files) named fault → (stop_in files named ≡ Some (stop_at named fault)) ⊎ IsOutside fault
says_truly files named Missing h = inl (ap (stop_with named) h)
says_truly files named Long h = inl (longer named (file named.name files) h)
says_truly files named Failed h = inr tt
says_truly files named (Refused place) h = inl (ap (stop_with named) h.told ∙ short_refused named h.content (Refused place) h.short h.holds)
says_truly files named NoList h = inl (ap (stop_with named) h.told ∙ short_refused named h.content NoList h.short h.holds)
says_truly files named Memory h = inr tt

here : (files : Files) (named : NamedFile) (others : List NamedFile) (stop : Stop) → stop.name ≡ named.name
    → (stop_in files named ≡ Some (stop_at named stop.fault)) ⊎ IsOutside stop.fault → (first_fault files (named ∷ others) ≡ Some stop) ⊎ IsOutside stop.fault
here files named others stop same (inl found) =
    inl (ap (λ k. option_or k (first_fault files others)) found ∙ ap (λ (x : List ℕ). Some (record { name = x; fault = stop.fault })) (sym same))
here files named others stop same (inr outside) = inr outside

behind : (files : Files) (named : NamedFile) (others : List NamedFile) (stop : Stop) → Passes (Some files) named
    → (first_fault files others ≡ Some stop) ⊎ IsOutside stop.fault → (first_fault files (named ∷ others) ≡ Some stop) ⊎ IsOutside stop.fault
behind files named others stop p (inl found) = inl (passed_on files named others p ∙ found)
behind files named others stop p (inr outside) = inr outside

told_stop : (files : Files) (named : List NamedFile) (stop : Stop) → StopsAt (Some files) named stop → (first_fault files named ≡ Some stop) ⊎ IsOutside stop.fault
told_stop files [] stop h = absurd h
told_stop files (first ∷ others) stop (inl h) = here files first others stop h.0 (says_truly files first stop.fault h.1)
told_stop files (first ∷ others) stop (inr h) = behind files first others stop h.0 (told_stop files others stop h.1)

pub truly_stopped : (X : Type 0) (files : Option Files) (named : List NamedFile) (stop : FileError) → StopsAt files named (stop_of stop) → Truly {X = X} files named (Err stop)
truly_stopped X None named stop h = tt
truly_stopped X (Some files) named stop h = told_stop files named (stop_of stop) h

-- ---- all were read

none_in : (files : Files) (named : List InputFile) (inputs : Inputs) → Holds (Some files) named inputs → first_fault files (files_named named) ≡ None
none_in files [] inputs h = refl
none_in files (file ∷ others) inputs h = passed_on files (file_of file) (files_named others) (passes (Some files) inputs file h.0) ∙ none_in files others inputs h.1

pub truly_read : (files : Option Files) (named : List InputFile) (inputs : Inputs) → Holds files named inputs → Truly files (files_named named) (Ok inputs)
truly_read None named inputs h = tt
truly_read (Some files) named inputs h = none_in files named inputs h

-- whatever is made of what was read
pub truly_same : (X Y : Type 0) (files : Option Files) (named : List NamedFile) (x : X) (y : Y) → Truly files named (Ok x) → Truly files named (Ok y)
truly_same X Y None named x y h = tt
truly_same X Y (Some files) named x y h = h
