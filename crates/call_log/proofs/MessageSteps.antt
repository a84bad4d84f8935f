-- What the bytes of a message read so far and the next byte come to together.
use Rattle.std.proofs.Common.{◌≡◌, ℕ, ◌<◌, List, [], ◌++◌, length, Option, sym, subst, append-nil}
use Rattle.std.specs.Io.KnownBytes.{Consumes}
use Rattle.std.proofs.KnownBytes.{Consumes-nil, Consumes-trans}
use Rattle.call_log.specs.Bytes.{TakesFewer, TakesPiece, TakesSome}

pub none_taken : (left : Option (List ℕ)) (items : List ℕ) → items ≡ [] → Consumes left left items
none_taken left items e = subst (Consumes left left) (sym e) (Consumes-nil left)

pub piece_taken : (most count : ℕ) (left mid now : Option (List ℕ)) (items after : List ℕ) → Consumes left mid items → TakesPiece most mid now items after count → Consumes left now after
piece_taken most count left mid now items after t p = subst (Consumes left now) (sym p.behind) (Consumes-trans left mid now items p.piece t p.taken)

pub fewer_taken : (said : ℕ) (left mid now : Option (List ℕ)) (items : List ℕ) → Consumes left mid items → Consumes mid now [] → length items < said → TakesFewer said left now
fewer_taken said left mid now items t c less = record { bytes = items; taken = subst (Consumes left now) (append-nil items) (Consumes-trans left mid now items [] t c); fewer = less }

pub nothing_taken : (left : Option (List ℕ)) → TakesSome left left
nothing_taken left = record { bytes = []; taken = Consumes-nil left }

pub some_taken : (left mid now : Option (List ℕ)) (items : List ℕ) → Consumes left mid items → Consumes mid now [] → TakesSome left now
some_taken left mid now items t c = record { bytes = items ++ []; taken = Consumes-trans left mid now items [] t c }
