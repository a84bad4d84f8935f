-- What the entries left give is what all of them give.
use Rattle.std.proofs.Common.{◌≡◌, map, drop}
use Rattle.stir_outside.specs.Files.{file}
use Rattle.stir_outside.proofs.memory.shelf.find.Given as goal

abbrev pub invariant-loop-key : goal.invariant-loop-key
invariant-loop-key l = file l.name (map (λ entry. (entry.0.items, entry.1.items)) (drop l.key-index l.files)) ≡ file l.name (map (λ entry. (entry.0.items, entry.1.items)) l.files)
