-- The texts of the PASSporTs so far.
use Rattle.std.proofs.Common.{◌≡◌, length, take}
use Rattle.verify_service.specs.Needed.{needed, once, touch_all, x5us}
use Rattle.verify_service.proofs.texts.gather_passports.Given as goal

abbrev pub invariant-passports : goal.invariant-passports
invariant-passports l = record {
  end : l.i-end ≡ length l.screened.readings;
  texts : l.texts ≡ once l.fn.texts (needed l.chains l.fn.cache.entries (x5us (take l.i l.screened.readings)));
  held : l.cache ≡ record l.fn.cache { entries = touch_all (x5us (take l.i l.screened.readings)) l.fn.cache.entries };
}
