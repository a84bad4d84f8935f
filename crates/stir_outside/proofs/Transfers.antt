-- What the reads and writes of a loop do together.
use Rattle.std.proofs.Common.{◌≡◌, ◌+◌, ◌<◌, min, length, arith, ℕ, List, [], ◌∷◌, ◌++◌, slice_index_or, slice_set, Option, refl, sym, ◌∙◌, ap, append_assoc, append-nil, take, drop, take-append-drop, subst, Some, None}
use Rattle.std.proofs.lemmas.List.{drop-drop, drop_all, drop_more, length-drop}
use Rattle.std.specs.Io.KnownBytes.{Appends, Consumes, Keeps}
use Rattle.std.proofs.KnownBytes.{Appends-nil, Appends-trans, Consumes-nil, Consumes-trans}
use Rattle.stir_outside.specs.Told.{Takes, AppendsFront}

pub takes_none : (left : Option (List ℕ)) (held : List ℕ) → Takes left left held held
takes_none left held = record { taken = []; behind = sym (append-nil held); from_front = Consumes-nil left }

-- what a further read consumed comes after what was taken before
pub takes_more : (left mid now : Option (List ℕ)) (held before after bytes : List ℕ) → Takes left mid held before → Consumes mid now bytes → after ≡ before ++ bytes → Takes left now held after
takes_more left mid now held before after bytes t c e =
    record { taken = t.taken ++ bytes; behind = e ∙ ap (λ x. x ++ bytes) t.behind ∙ append_assoc held t.taken bytes; from_front = Consumes-trans left mid now t.taken bytes t.from_front c }

-- what comes before the rest of the text was written
pub record WrittenBefore (written written_now : Option (List ℕ)) (text rest : List ℕ) : Type 0 where
  pub front : List ℕ
  pub split : text ≡ front ++ rest
  pub appended : Appends written written_now front

pub written_none : (written : Option (List ℕ)) (text : List ℕ) → WrittenBefore written written text text
written_none written text = record { front = []; split = refl; appended = Appends-nil written }

-- a further write appended a prefix of the rest
pub written_more : (written mid now : Option (List ℕ)) (text rest : List ℕ) (count : ℕ) → WrittenBefore written mid text rest → Appends mid now (take count rest) → WrittenBefore written now text (drop count rest)
written_more written mid now text rest count w a =
    record {
      front = w.front ++ take count rest;
      split = w.split ∙ ap (λ x. w.front ++ x) (sym (take-append-drop count rest)) ∙ sym (append_assoc w.front (take count rest) (drop count rest));
      appended = Appends-trans written mid now w.front (take count rest) w.appended a;
    }

pub written_all : (written now : Option (List ℕ)) (text : List ℕ) → WrittenBefore written now text [] → Appends written now text
written_all written now text w = let e : text ≡ w.front = w.split ∙ append-nil w.front in subst (Appends written now) (sym e) w.appended

kept_appends : (a b c : Option (List ℕ)) (bytes : List ℕ) → Appends a b bytes → Keeps b c → Appends a c bytes
kept_appends None b c bytes p k = tt
kept_appends (Some x) None c bytes p k = absurd p
kept_appends (Some x) (Some y) None bytes p k = absurd k
kept_appends (Some x) (Some y) (Some z) bytes p k = k ∙ p

-- a write that failed kept what was written, and that is a prefix of the text
pub written_front : (written mid now : Option (List ℕ)) (text rest : List ℕ) → WrittenBefore written mid text rest → Keeps mid now → AppendsFront written now text
written_front written mid now text rest w k = record { front = w.front; rest = rest; split = w.split; appended = kept_appends written mid now w.front w.appended k }

-- the first bytes of what was left, taken from it
pub consumed : (items buf : List ℕ) (taken count : ℕ) → take count buf ≡ take count (drop taken items) → drop taken items ≡ take count buf ++ drop (taken + count) items
consumed items buf taken count e = sym (take-append-drop count (drop taken items)) ∙ ap (λ x. x ++ drop count (drop taken items)) (sym e) ∙ ap (λ x. take count buf ++ x) (drop-drop count taken items)

-- a read that gives nothing although there is room has nothing left
pub nothing_left : (items : List ℕ) (room taken count : ℕ) → count ≡ min room (length (drop taken items)) → count ≡ 0 → 0 < room → drop (taken + count) items ≡ []
nothing_left items room taken count e zero some = drop_all (taken + count) items (omega (arith, length-drop taken items))

-- one byte given, the first of what was left
pub one_given : (items buf : List ℕ) (taken byte : ℕ) → taken < length items → byte ≡ slice_index_or items taken byte → 0 < length buf
    → drop taken items ≡ take 1 (slice_set buf 0 byte) ++ drop (taken + 1) items
one_given items [] taken byte h e some = absurd (omega arith)
one_given items (x ∷ xs) taken byte h e some = drop_more items taken byte h ∙ ap (λ b. b ∷ drop (taken + 1) items) (sym e)
