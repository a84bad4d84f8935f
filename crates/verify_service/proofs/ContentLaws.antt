-- What is asked for the files of a round's texts.
use Rattle.std.proofs.Common.{◌≡◌, ◌≢◌, ℕ, suc, ◌+◌, ◌*◌, ◌<◌, ◌≤◌, ◌%◌, ◌==◌, Bool, true, false, cond, List, [], ◌∷◌, ◌++◌, drop, filter, get_or, length, map, take, is_some, Option, Some, None, if◌then◌else◌, refl, sym, ap, ◌∙◌, subst, arith}
use Rattle.std.proofs.lemmas.Bool.Decides.{nat_tests}
use Rattle.std.proofs.lemmas.List.{drop_more}
use Rattle.std.specs.List.{slice_get}
use Rattle.cert_store.specs.declared.world.World.{World as Materials}
use Rattle.stir_outside.specs.Count.{AtMost}
use Rattle.stir_outside.specs.Files.{Files}
use Rattle.stir_outside.proofs.CountLaws.{none_at}
use Rattle.call_judging.specs.Fetched.{IsContent, bytes_in, chain_size, is_read_file}
use Rattle.call_judging.specs.declared.fetching.Fetched.{Fetched}
use Rattle.call_judging.specs.declared.fetching.Fetched.TheVariants as fetched
use Rattle.verify_service.specs.Causes.{AreCounted}
use Rattle.verify_service.specs.Contents.{AsksFew, Contents, HasContents, chain_sizes}
use Rattle.verify_service.specs.Judging.{EachPair}
use Rattle.verify_service.specs.RoundRead.{own_of}
use Rattle.verify_service.specs.WorkerChains.{own_sizes}
use Rattle.verify_service.proofs.FetchedLaws.{take_stands}
use Rattle.verify_service.proofs.ListLaws.{each_more}

-- ---- at most six certificates each

abbrev pub SizeLaw : Type 0
SizeLaw = (bytes : Option (List ℕ)) → chain_size bytes ≤ 6

pub six_each : SizeLaw → (contents : Contents) → chain_sizes contents ≤ 6 * length (filter is_some contents)
six_each law [] = omega arith
six_each law (None ∷ others) = let more = six_each law others in omega (arith, more)
six_each law (Some bytes ∷ others) = let one = law (Some bytes) in let more = six_each law others in omega (arith, one, more)

-- ---- nothing was read

abbrev nothing_of : List (List ℕ) → Contents
nothing_of [] = []
nothing_of (x ∷ texts) = None ∷ nothing_of texts

nothing_each : (told : Option Files) (materials : Materials) (texts : List (List ℕ)) → EachPair (IsContent told materials) texts (nothing_of texts)
nothing_each told materials [] = tt
nothing_each told materials (x ∷ texts) = (tt, nothing_each told materials texts)

nothing_some : (texts : List (List ℕ)) → length (filter is_some (nothing_of texts)) ≡ 0
nothing_some [] = refl
nothing_some (x ∷ texts) = nothing_some texts

-- nothing was asked either
pub nothing_read : (told : Option Files) (materials : Materials) (texts : List (List ℕ)) (reads reads_now count : ℕ) (asks asks_now : ℕ → ℕ) → reads ≤ reads_now
    → ((w : ℕ) → w < count → asks_now w ≡ asks w)
    → HasContents told materials texts reads reads_now (λ contents. (w : ℕ) → w < count → AsksFew w count 0 (asks w) (asks_now w) contents)
nothing_read told materials texts reads reads_now count asks asks_now stayed same = record {
  contents = nothing_of texts;
  each = nothing_each told materials texts;
  counted = subst (λ n. AtMost n reads reads_now) (sym (nothing_some texts)) (none_at reads reads_now stayed);
  asked = λ w less. let e = same w less in omega (arith, e);
}

-- ---- files that were fetched

-- of each text what was fetched for it, one text more
pub content_next : (told told_now : Option Files) (materials : Materials) (texts : List (List ℕ)) (files : List Fetched) (i : ℕ) (x5u : List ℕ) (file : Fetched) → told_now ≡ told
    → slice_get texts i ≡ Some x5u → EachPair (λ x one. IsContent told materials x (bytes_in one)) (take i texts) files → IsContent told_now materials x5u (bytes_in file)
    → EachPair (λ x one. IsContent told materials x (bytes_in one)) (take (i + 1) texts) (files ++ file ∷ [])
content_next told told_now materials texts files i x5u file same stands each here =
    subst (λ (ts : List (List ℕ)). EachPair (λ x one. IsContent told materials x (bytes_in one)) ts (files ++ file ∷ [])) (sym (take_stands texts i x5u stands))
    (each_more (λ x one. IsContent told materials x (bytes_in one)) (take i texts) files x5u file each
    (subst (λ (t : Option Files). IsContent t materials x5u (bytes_in file)) same here))

content_each : (told : Option Files) (materials : Materials) (texts : List (List ℕ)) (files : List Fetched)
    → EachPair (λ x one. IsContent told materials x (bytes_in one)) texts files → EachPair (IsContent told materials) texts (map bytes_in files)
content_each told materials [] [] each = tt
content_each told materials [] (file ∷ files) each = absurd each
content_each told materials (x ∷ texts) [] each = absurd each
content_each told materials (x ∷ texts) (file ∷ files) each = (each.0, content_each told materials texts files each.1)

content_some : (files : List Fetched) → length (filter is_some (map bytes_in files)) ≡ length (filter is_read_file files)
content_some [] = refl
content_some (fetched.Bytes bytes ∷ files) = ap suc (content_some files)
content_some (fetched.Missing ∷ files) = content_some files
content_some (fetched.TooLong ∷ files) = content_some files
content_some (fetched.Unread ∷ files) = content_some files

pub fetched_read : (told : Option Files) (materials : Materials) (texts : List (List ℕ)) (files read : List Fetched) (reads reads_now count : ℕ) (asks asks_now : ℕ → ℕ) → read ≡ files
    → EachPair (λ x one. IsContent told materials x (bytes_in one)) texts files → AreCounted is_read_file files reads reads_now
    → ((w : ℕ) → w < count → asks_now w ≤ asks w + own_sizes w count 0 read)
    → HasContents told materials texts reads reads_now (λ contents. (w : ℕ) → w < count → AsksFew w count 0 (asks w) (asks_now w) contents)
fetched_read told materials texts files read reads reads_now count asks asks_now are each counted most = record {
  contents = map bytes_in files;
  each = content_each told materials texts files each;
  counted = subst (λ n. AtMost n reads reads_now) (sym (content_some files)) counted.most;
  asked = λ w less. let few = most w less in let same = ap (own_sizes w count 0) are in omega (arith, few, same);
}

-- ---- a worker's own files, one after another

own_by : (b : Bool) (bytes : Option (List ℕ)) (others : Contents) → chain_sizes (cond b (bytes ∷ others) others) ≡ (if b then chain_size bytes else 0) + chain_sizes others
own_by true bytes others = refl
own_by false bytes others = omega arith

-- what may be asked for the files from a place on, by whether the file there is the worker's own, and those after it
left_step : (index count place : ℕ) (files : List Fetched) (file d : Fetched) → place < length files → file ≡ get_or files place d
    → own_sizes index count place (drop place files)
    ≡ (if place % count == index then chain_size (bytes_in file) else 0) + own_sizes index count (place + 1) (drop (place + 1) files)
left_step index count place files file d within is =
    let next : place + 1 ≡ suc place = omega arith in
    ap (own_sizes index count place) (drop_more files place d within ∙ ap (λ (f : Fetched). f ∷ drop (place + 1) files) (sym is))
    ∙ own_by (place % count == index) (bytes_in file) (own_of index count (suc place) (map bytes_in (drop (place + 1) files)))
    ∙ ap (λ n. cond (place % count == index) (chain_size (bytes_in file)) 0 + own_sizes index count n (drop (place + 1) files)) (sym next)

pub left_own : (index count place : ℕ) (files : List Fetched) (file d : Fetched) → place < length files → file ≡ get_or files place d → place % count ≡ index
    → own_sizes index count place (drop place files) ≡ chain_size (bytes_in file) + own_sizes index count (place + 1) (drop (place + 1) files)
left_own index count place files file d within is own =
    let test : (place % count == index) ≡ true = grind (arith, nat_tests) in
    left_step index count place files file d within is
    ∙ ap (λ b. cond b (chain_size (bytes_in file)) 0 + own_sizes index count (place + 1) (drop (place + 1) files)) test

pub left_other : (index count place : ℕ) (files : List Fetched) (file d : Fetched) → place < length files → file ≡ get_or files place d → place % count ≢ index
    → own_sizes index count place (drop place files) ≡ 0 + own_sizes index count (place + 1) (drop (place + 1) files)
left_other index count place files file d within is other =
    let test : (place % count == index) ≡ false = grind (arith, nat_tests) in
    left_step index count place files file d within is
    ∙ ap (λ b. cond b (chain_size (bytes_in file)) 0 + own_sizes index count (place + 1) (drop (place + 1) files)) test

-- ---- over other words for the same

-- the texts may be said otherwise, and the providers asked later no more than for so many PASSporTs
pub asked_later : (told : Option Files) (materials other : Materials) (texts same : List (List ℕ)) (reads reads_now count : ℕ) (asks mid now passports : ℕ → ℕ) → materials ≡ other → texts ≡ same
    → ((w : ℕ) → w < count → now w ≤ mid w + passports w)
    → HasContents told materials texts reads reads_now (λ contents. (w : ℕ) → w < count → AsksFew w count 0 (asks w) (mid w) contents)
    → HasContents told other same reads reads_now (λ contents. (w : ℕ) → w < count → AsksFew w count (passports w) (asks w) (now w) contents)
asked_later told materials other texts same reads reads_now count asks mid now passports judged_by are later has = record {
  contents = has.contents;
  each = subst (λ (ts : List (List ℕ)). EachPair (IsContent told other) ts has.contents) are
      (subst (λ (m : Materials). EachPair (IsContent told m) texts has.contents) judged_by has.each);
  counted = has.counted;
  asked = λ w less. let first = has.asked w less in let second = later w less in omega (arith, first, second);
}

-- the texts may be said otherwise
pub asked_as : (told : Option Files) (materials : Materials) (texts same : List (List ℕ)) (reads reads_now count : ℕ) (asks now : ℕ → ℕ) → texts ≡ same
    → HasContents told materials texts reads reads_now (λ contents. (w : ℕ) → w < count → AsksFew w count 0 (asks w) (now w) contents)
    → HasContents told materials same reads reads_now (λ contents. (w : ℕ) → w < count → AsksFew w count 0 (asks w) (now w) contents)
asked_as told materials texts same reads reads_now count asks now are has = asked_later told materials materials texts same reads reads_now count asks now now (λ w. 0) refl are (λ w less. omega arith) has

-- and nothing be asked later
pub asked_still : (told : Option Files) (materials : Materials) (texts same : List (List ℕ)) (reads reads_now count : ℕ) (asks mid now : ℕ → ℕ) → texts ≡ same → ((w : ℕ) → w < count → now w ≡ mid w)
    → HasContents told materials texts reads reads_now (λ contents. (w : ℕ) → w < count → AsksFew w count 0 (asks w) (mid w) contents)
    → HasContents told materials same reads reads_now (λ contents. (w : ℕ) → w < count → AsksFew w count 0 (asks w) (now w) contents)
asked_still told materials texts same reads reads_now count asks mid now are still has =
    asked_later told materials materials texts same reads reads_now count asks mid now (λ w. 0) refl are (λ w less. let e = still w less in omega (arith, e)) has
