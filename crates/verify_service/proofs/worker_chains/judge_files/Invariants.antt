-- The chains that were judged so far.
use Rattle.std.proofs.Common.{◌≡◌, ◌+◌, ◌≤◌, drop, take}
use Rattle.verify_service.specs.WorkerChains.{ChainsCounted, EachOwn, own_sizes}
use Rattle.verify_service.proofs.worker_chains.judge_files.Given as goal

abbrev pub invariant-files : goal.invariant-files
invariant-files g l = record {
  judged : EachOwn l.world (g.P.Provider.says l.fn.provider) l.index l.count 0 (take l.place l.files) l.judged.items;
  asked : ChainsCounted (g.P.Provider.asks l.fn.provider) (g.P.Provider.asks l.provider) (g.P.Provider.faults l.fn.provider) (g.P.Provider.faults l.provider) l.judged.items;
  most : g.P.Provider.asks l.provider + own_sizes l.index l.count l.place (drop l.place l.files) ≤ g.P.Provider.asks l.fn.provider + own_sizes l.index l.count 0 l.files;
  same_signs : g.P.Provider.signs l.provider ≡ g.P.Provider.signs l.fn.provider;
  same_says : g.P.Provider.says l.provider ≡ g.P.Provider.says l.fn.provider;
}
