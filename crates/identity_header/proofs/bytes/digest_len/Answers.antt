-- What each block tells of the count.
use Rattle.std.proofs.Common.{rules, ◌≡◌, ◌+◌, ◌-◌, length, arith}
use Rattle.std.specs.List.{prefix_len}
use Rattle.std.proofs.lemmas.List.Sums.{prefix_len-le-length}
use Rattle.identity_header.specs.Parts.{is_digest_byte}
use Rattle.text_grammar.proofs.BlockLaws.{block_on}
use Rattle.identity_header.proofs.bytes.digest_len.Goals as goal

pub returns-then-count-lt-BLOCK-clause-count : goal.returns-then-count-lt-BLOCK-clause-count
returns-then-count-lt-BLOCK-clause-count c =
    (block_on is_digest_byte c.args.text.now c.whole.place _ c.whole.invariant.so_far c.digest_block_len-count.ensures).1 c.if-count-lt-BLOCK.true

pub whole-preserved : goal.whole-preserved
whole-preserved c =
    let on = block_on is_digest_byte c.args.text.now c.whole.place _ c.whole.invariant.so_far c.digest_block_len-count.ensures in
    record { so_far = omega (arith, on.0, c.if-count-lt-BLOCK.false) }

counted : (c : goal.After-digest_block_len) → length c.args.text.now - 32 + c.digest_block_len.result ≡ prefix_len is_digest_byte c.args.text.now
counted c =
    (block_on is_digest_byte c.args.text.now _ _ (omega (arith, c.whole.invariant.so_far, c.whole-test.false)) c.digest_block_len.ensures).2
    (omega (arith, c.if-text-lt-BLOCK.false))

pub returns-clause-within : goal.returns-clause-within
returns-clause-within c = omega (arith, counted c, prefix_len-le-length is_digest_byte c.args.text.now)

pub overflow_add-result-2 : goal.overflow_add-result-2
overflow_add-result-2 c = let within = returns-clause-within c in search rules

pub returns-clause-count : goal.returns-clause-count
returns-clause-count c = counted c
