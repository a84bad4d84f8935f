-- One file more was read.
use Rattle.std.proofs.Common.{◌≡◌, ◌+◌, [], ◌∷◌, ◌++◌, List, length, filter, take, ap, sym, ◌∙◌, subst, arith}
use Rattle.stir_outside.proofs.CountLaws.{go_on}
use Rattle.verify_service.specs.Causes.{AreCounted}
use Rattle.call_judging.specs.Fetched.{IsContent, IsFetched, bytes_in, is_read_file, is_unread_file}
use Rattle.verify_service.specs.Judging.{EachPair}
use Rattle.call_judging.specs.declared.fetching.Fetched.{Fetched}
use Rattle.verify_service.proofs.CountLaws.{counted_more, filter_more}
use Rattle.verify_service.proofs.ContentLaws.{content_next}
use Rattle.verify_service.proofs.FetchedLaws.{fetched_next}
use Rattle.verify_service.proofs.chain_files.fetch_all.Goals as goal

pub texts-preserved : goal.texts-preserved
texts-preserved g c =
    let pushed : c.push.new.self.items ≡ c.texts.files.items ++ c.in_ok-file.file ∷ [] = c.in_ok-push.ensures.items in
    let before = g.S.Shelf.counts c.args.shelf.now in
    let mid = g.S.Shelf.counts c.texts.shelf in
    let now = g.S.Shelf.counts c.fetch.new.shelf in
    record {
      end = c.texts.invariant.end;
      counted = (let one = c.in_ok-push.ensures.len in let other = c.texts.invariant.counted in omega arith);
      fetched = subst (λ (fs : List Fetched). EachPair (IsFetched (g.S.Shelf.files c.args.shelf.now) c.args.world.now) (take (c.texts.index + 1) c.args.texts.now) fs) (sym pushed)
          (fetched_next (g.S.Shelf.files c.args.shelf.now) (g.S.Shelf.files c.texts.shelf) c.args.world.now c.args.texts.now c.texts.files.items c.texts.index c.text.result.now c.in_ok-file.file
          c.texts.invariant.same_files c.text.ensures c.texts.invariant.fetched c.in_ok-file.ensures.fetched);
      contents = subst (λ (fs : List Fetched). EachPair (λ x5u file. IsContent (g.S.Shelf.files c.args.shelf.now) c.args.world.now x5u (bytes_in file)) (take (c.texts.index + 1) c.args.texts.now) fs)
          (sym pushed)
          (content_next (g.S.Shelf.files c.args.shelf.now) (g.S.Shelf.files c.texts.shelf) c.args.world.now c.args.texts.now c.texts.files.items c.texts.index c.text.result.now c.in_ok-file.file
          c.texts.invariant.same_files c.text.ensures c.texts.invariant.contents c.in_ok-file.ensures.content);
      rose = subst (λ (fs : List Fetched). AreCounted is_read_file fs before.reads now.reads) (sym pushed)
          (counted_more is_read_file c.texts.files.items c.in_ok-file.file before.reads mid.reads now.reads c.texts.invariant.counts.reads.never_falls
          c.in_ok-file.ensures.shelf.counts.reads.never_falls c.texts.invariant.rose c.in_ok-file.ensures.rose);
      unread = subst (λ (fs : List Fetched). AreCounted is_unread_file fs before.faults now.faults) (sym pushed)
          (counted_more is_unread_file c.texts.files.items c.in_ok-file.file before.faults mid.faults now.faults c.texts.invariant.counts.faults.never_falls
          c.in_ok-file.ensures.shelf.counts.faults.never_falls c.texts.invariant.unread c.in_ok-file.ensures.unread);
      read = (let grown = ap (λ (fs : List Fetched). length (filter is_read_file fs)) pushed ∙ filter_more is_read_file c.texts.files.items c.in_ok-file.file in
          let so_far = c.texts.invariant.read in let one = c.in_ok-file.ensures.read in omega arith);
      reads = (let one = c.texts.invariant.reads in let other = c.in_ok-file.ensures.reads in omega arith);
      tries = (let one = c.texts.invariant.tries in let other = c.in_ok-file.ensures.tries in omega arith);
      same_files = c.in_ok-file.ensures.shelf.files ∙ c.texts.invariant.same_files;
      counts = go_on before mid now c.texts.invariant.counts c.in_ok-file.ensures.shelf.counts;
    }
