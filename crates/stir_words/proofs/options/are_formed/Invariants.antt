use Rattle.std.proofs.Common.{◌≡◌, drop, false}
use Rattle.stir_words.specs.Options.{are_formed}
use Rattle.stir_words.specs.Seen.{texts}
use Rattle.stir_words.proofs.options.are_formed.Given as goal

-- what is left is formed exactly if all is
abbrev pub invariant-loop-word : goal.invariant-loop-word
invariant-loop-word l = are_formed l.waits (texts (drop l.word-index l.words)) ≡ are_formed false (texts l.words)
