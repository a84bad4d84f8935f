-- What is copied is the first bytes of what is left, and nothing only if nothing is left.
use Rattle.std.proofs.Common.{◌≡◌, drop, ap, sym, ◌∙◌, length, min, take}
use Rattle.stir_outside.proofs.Transfers.{consumed, nothing_left}
use Rattle.stir_outside.proofs.memory.source.SourceMemSource.read.Goals as goal

pub returns-clause-bytes : goal.returns-clause-bytes
returns-clause-bytes c =
    let items = c.self.inside.bytes.items in
    let back : c.split_at.result.1.now ≡ drop c.self.inside.taken items = c.split_at.ensures.back ∙ ap (drop c.self.inside.taken) c.as_slice.ensures.value in
    let copied : take c.copy_front-count.result c.copy_front-count.new.to ≡ take c.copy_front-count.result (drop c.self.inside.taken items) = c.copy_front-count.ensures.copied ∙ ap (take c.copy_front-count.result) back in
    let count : c.copy_front-count.result ≡ min (length c.args.buf.now) (length (drop c.self.inside.taken items)) = c.copy_front-count.ensures.count ∙ ap (λ x. min (length c.args.buf.now) (length x)) back in (
      ap (λ s. s.left) (sym c.self.view_is) ∙ consumed items c.copy_front-count.new.to c.self.inside.taken c.copy_front-count.result copied,
      λ zero some. nothing_left items (length c.args.buf.now) c.self.inside.taken c.copy_front-count.result count zero c.requires,
    )
