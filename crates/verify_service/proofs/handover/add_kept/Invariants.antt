-- The entries so far are kept, and there is room for those that are left.
use Rattle.std.proofs.Common.{◌≡◌, ◌≤◌, ◌+◌, ℕ, List, length, take}
use Rattle.std.specs.Map.{lookup}
use Rattle.std.specs.Str.{bytes_eq}
use Rattle.replay_desk.specs.Past.{found}
use Rattle.verify_service.proofs.handover.add_kept.Given as goal

abbrev pub invariant-entries : goal.invariant-entries
invariant-entries l = record {
  end : l.index-end ≡ length l.kept;
  kept_so_far : (ticket : List ℕ) → found l.past ticket ≡ lookup (bytes_eq ticket) (take l.index l.kept);
  room : length l.kept ≤ l.past.spare + l.index;
}
