-- Calls that are read after one another, and those of a batch.
use Rattle.std.proofs.Common.{◌≡◌, ℕ, ◌+◌, ◌<◌, ◌≤◌, List, [], ◌∷◌, ◌++◌, length, Option, Some, None, Result, Ok, Err, refl, ap, ◌∙◌, sym, subst, arith, append-nil, append_assoc, inl, inr}
use Rattle.std.specs.Io.KnownBytes.{Consumes}
use Rattle.std.proofs.KnownBytes.{Consumes-nil, Consumes-trans}
use Rattle.std.specs.declared.alloc.AllocError.{AllocError}
use Rattle.call_log.specs.Entry.{Entry, entry_text}
use Rattle.call_log.specs.HandsOut.{HandsOutOf}
use Rattle.call_log.specs.Log.{AreCalls, Passed, after, after_all, entry_texts}
use Rattle.call_log.specs.Reads.{ReadsEntry}
use Rattle.call_log.specs.declared.fault.LogFault.{LogFault}
use Rattle.call_log.specs.declared.fault.LogFault.TheVariants.{Grammar, Backward, Many}
use Rattle.log_run.specs.Commands.{Follow, StandsOn}
use Rattle.log_run.specs.Reading.{CallsRead, FaultyAt, ReadBatch, ReadBehind, ReadCalls, ReadFull, ReadLast}
use Rattle.log_run.specs.declared.ends.RunError.{RunError}
use Rattle.log_run.specs.declared.ends.Next.{Next}
use Rattle.log_run.specs.declared.ends.Next.TheVariants.{More, Whole, Fault}

-- ---- lists of calls

pub after_all_append : (passed : Passed) (xs ys : List Entry) → after_all passed (xs ++ ys) ≡ after_all (after_all passed xs) ys
after_all_append passed [] ys = refl
after_all_append passed (x ∷ xs) ys = after_all_append (after passed x) xs ys

pub calls_append : (passed : Passed) (xs ys : List Entry) → AreCalls passed xs → AreCalls (after_all passed xs) ys → AreCalls passed (xs ++ ys)
calls_append passed [] ys a b = b
calls_append passed (x ∷ xs) ys a b = (a.0, calls_append (after passed x) xs ys a.1 b)

pub texts_append : (xs ys : List Entry) → entry_texts (xs ++ ys) ≡ entry_texts xs ++ entry_texts ys
texts_append [] ys = refl
texts_append (x ∷ xs) ys = ap (λ t. entry_text x ++ t) (texts_append xs ys) ∙ sym (append_assoc (entry_text x) (entry_texts xs) (entry_texts ys))

pub counted : (passed : Passed) (calls : List Entry) → (after_all passed calls).count ≡ passed.count + length calls
counted passed [] = omega arith
counted passed (x ∷ xs) = omega (arith, counted (after passed x) xs)

pub no_calls : (calls : List Entry) → length calls ≡ 0 → calls ≡ []
no_calls [] e = refl
no_calls (call ∷ others) e = absurd (omega (arith, e))

-- ---- what was read

pub read_nothing : (passed : Passed) (left : Option (List ℕ)) → ReadCalls passed left left passed []
read_nothing passed left = record { follow = tt; consumed = Consumes-nil left; moves = refl }

pub read_none : (passed : Passed) (left : Option (List ℕ)) (calls : List Entry) → calls ≡ [] → ReadCalls passed left left passed calls
read_none passed left calls e = subst (ReadCalls passed left left passed) (sym e) (read_nothing passed left)

pub read_both : (a b c : Passed) (left mid now : Option (List ℕ)) (xs ys : List Entry) → ReadCalls a left mid b xs → ReadCalls b mid now c ys → ReadCalls a left now c (xs ++ ys)
read_both a b c left mid now xs ys r s = record {
  follow = calls_append a xs ys r.follow (subst (λ p. AreCalls p ys) r.moves s.follow);
  consumed = subst (Consumes left now) (sym (texts_append xs ys)) (Consumes-trans left mid now (entry_texts xs) (entry_texts ys) r.consumed s.consumed);
  moves = s.moves ∙ ap (λ p. after_all p ys) r.moves ∙ sym (after_all_append a xs ys);
}

pub read_one : (a b : Passed) (left now : Option (List ℕ)) (call : Entry) → ReadsEntry a left now call → b ≡ after a call → ReadCalls a left now b (call ∷ [])
read_one a b left now call r e = record {
  follow = (r.next, tt);
  consumed = subst (Consumes left now) (sym (append-nil (entry_text call))) r.taken;
  moves = e;
}

pub read_more : (a b c : Passed) (left mid now : Option (List ℕ)) (xs ys : List Entry) (call : Entry) → ReadCalls a left mid b xs → ReadsEntry b mid now call → c ≡ after b call → ys ≡ xs ++ call ∷ [] → ReadCalls a left now c ys
read_more a b c left mid now xs ys call r one e grown = subst (ReadCalls a left now c) (sym grown) (read_both a b c left mid now xs (call ∷ []) r (read_one b c mid now call one e))

-- ---- a batch

pub read_full : (most : ℕ) (a b : Passed) (left now : Option (List ℕ)) (calls : List Entry) → ReadCalls a left now b calls → length calls ≡ most → ReadFull most a left now b calls
read_full most a b left now calls r e = record { read = r; full = e }

pub read_last : (most : ℕ) (a b : Passed) (left mid now : Option (List ℕ)) (calls : List Entry) (result : Result (Option Entry) LogFault) → ReadCalls a left mid b calls → length calls < most → ReadBehind b mid now result
    → ReadLast most a left now calls result
read_last most a b left mid now calls result r few behind = record { mid = b; mid_left = mid; read = r; few = few; behind = behind }

-- the calls of a batch, full or not
pub calls_read : (most : ℕ) (before now : Passed) (left left_now : Option (List ℕ)) (calls : List Entry) (next : Next) → ReadBatch {E = AllocError} most before left left_now now calls (Ok next) → CallsRead before left calls
calls_read most before now left left_now calls More r = record { mid = now; mid_left = left_now; read = r.read }
calls_read most before now left left_now calls Whole r = record { mid = r.mid; mid_left = r.mid_left; read = r.read }
calls_read most before now left left_now calls (Fault fault) r = record { mid = r.mid; mid_left = r.mid_left; read = r.read }

pub few_read : (most : ℕ) (before now : Passed) (left left_now : Option (List ℕ)) (calls : List Entry) (next : Next) → ReadBatch {E = AllocError} most before left left_now now calls (Ok next) → length calls ≤ most
few_read most before now left left_now calls More r = omega (arith, r.full)
few_read most before now left left_now calls Whole r = omega (arith, r.few)
few_read most before now left left_now calls (Fault fault) r = omega (arith, r.few)

-- after a full batch
pub more_read : (most : ℕ) (before now : Passed) (left left_now : Option (List ℕ)) (calls : List Entry) → ReadFull most before left left_now now calls → now.count ≡ before.count + most
more_read most before now left left_now calls r = ap (λ (p : Passed). p.count) r.read.moves ∙ counted before calls ∙ ap (λ n. before.count + n) r.full

-- the command may answer the calls that were read, if it is at the place before them
pub read_follow : (most : ℕ) (Stands : Passed → Type 0) (before now : Passed) (left left_now : Option (List ℕ)) (calls : List Entry) (next : Next) → Stands before → before.number ≤ 4000000000 + before.count
    → ReadBatch {E = AllocError} most before left left_now now calls (Ok next) → Follow Stands calls
read_follow most Stands before now left left_now calls next stands room r =
    record { passed = before; stands = stands; follow = (calls_read most before now left left_now calls next r).read.follow; room = room }

-- and after a full batch it is at the place after it
pub stands_read : (most : ℕ) (Stands Stands_now : Passed → Type 0) (before now : Passed) (left left_now : Option (List ℕ)) (calls : List Entry) → Stands before → StandsOn Stands Stands_now calls
    → ReadFull most before left left_now now calls → Stands_now now
stands_read most Stands Stands_now before now left left_now calls stands on r = subst Stands_now (sym r.read.moves) (on before stands r.read.follow)

-- a full batch is one after which it goes on
pub is_more : (most : ℕ) (before now : Passed) (left left_now : Option (List ℕ)) (calls : List Entry) (next : Next) → ReadBatch {E = AllocError} most before left left_now now calls (Ok next)
    → ◌≡◌ {A = Result Next RunError} (Ok next) (Ok More) → ReadFull most before left left_now now calls
is_more most before now left left_now calls More r e = r
is_more most before now left left_now calls Whole r e = absurd cc
is_more most before now left left_now calls (Fault fault) r e = absurd cc

-- under another name of how many calls a batch has
pub read_as : (one other : ℕ) (before now : Passed) (left left_now : Option (List ℕ)) (calls : List Entry) (next : Next) → one ≡ other → ReadBatch {E = AllocError} one before left left_now now calls (Ok next)
    → ReadBatch {E = AllocError} other before left left_now now calls (Ok next)
read_as one other before now left left_now calls next same r = subst (λ (m : ℕ). ReadBatch {E = AllocError} m before left left_now now calls (Ok next)) same r

-- ---- a fault of the log is at its place

pub at_grammar : (passed : Passed) (left now : Option (List ℕ)) (place : ℕ) → HandsOutOf passed left now (Err (Grammar place)) → FaultyAt passed left place
at_grammar passed None now place h = tt
at_grammar passed (Some rest) now place h = (h.log, inl h.has)

pub at_backward : (passed : Passed) (left now : Option (List ℕ)) (place : ℕ) → HandsOutOf passed left now (Err (Backward place)) → FaultyAt passed left place
at_backward passed None now place h = tt
at_backward passed (Some rest) now place h = (h.log, inr (inl h.has))

pub at_many : (passed : Passed) (left now : Option (List ℕ)) (place : ℕ) → HandsOutOf passed left now (Err (Many place)) → FaultyAt passed left place
at_many passed None now place h = tt
at_many passed (Some rest) now place h = (h.log, inr (inr h.has))
