-- The texts of the calls so far.
use Rattle.std.proofs.Common.{◌≡◌, take}
use Rattle.verify_service.specs.Needed.{all_named, needed, once, touch_all}
use Rattle.verify_service.proofs.texts.gather_calls.Given as goal

abbrev pub invariant-calls : goal.invariant-calls
invariant-calls l = record {
  texts : l.texts ≡ once l.fn.texts (needed l.chains l.fn.cache.entries (all_named (take l.call-index l.calls)));
  held : l.cache ≡ record l.fn.cache { entries = touch_all (all_named (take l.call-index l.calls)) l.fn.cache.entries };
}
