-- Reading back is the law that each element that some bytes begin with is what `next_at` gives.
use Rattle.std.proofs.Common.{arith}
use Rattle.std.proofs.lemmas.Grind.{common_steps}
use Rattle.der_reader.proofs.PutLaws.{added_reads_back, added_short}
use Rattle.der_reader.proofs.write.put.Goals as goal

pub returns-clause-reads_back : goal.returns-clause-reads_back
returns-clause-reads_back c = added_reads_back c.args.out.now.items c.extend_from_slice.new.self.items c.args.tag c.args.content.now c.extend_from_slice.result (grind (arith, common_steps))

pub returns-clause-short : goal.returns-clause-short
returns-clause-short c = added_short c.args.out.now.items c.extend_from_slice.new.self.items c.args.tag c.args.content.now c.extend_from_slice.result (grind (arith, common_steps))
