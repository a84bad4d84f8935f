-- What the crates above cite of trails, full levels and wins.
use Rattle.std.proofs.Common.{◌≡◌, ℕ, ◌<◌, List, ◌++◌, refl}
use Rattle.live_desk.specs.Lists.{In}
use Rattle.live_desk.specs.Ticket.{pieces}
use Rattle.live_desk.specs.Views.{set_of}
use Rattle.live_desk.specs.Trail.{FullAt, SetLast}
use Rattle.live_desk.specs.Laws.{wins, won}
use Rattle.live_desk.specs.declared.view.SetWord.{SetWord}
use Rattle.live_desk.specs.declared.view.SeenWord.{SeenWord}
use Rattle.live_desk.proofs.Sums.{in_count, in_left, in_right}
use Rattle.live_desk.proofs.Searches.{trail_left, trail_right}
use Rattle.live_desk.proofs.Meaning.{is_wins}

pub full_left : (size : ℕ) (ticket : List ℕ) (sets more : List SetWord) (seen further : List SeenWord) (level : ℕ) → FullAt size ticket sets seen level → FullAt size ticket (sets ++ more) (seen ++ further) level
full_left size ticket sets more seen further level full = record {
  parent = full.parent;
  trail = trail_left sets more seen further (pieces ticket) level full.parent full.trail;
  each = λ slot within. let found = full.each slot within in (found.0, in_left _ seen further found.1, found.2);
}

pub full_right : (size : ℕ) (ticket : List ℕ) (sets more : List SetWord) (seen further : List SeenWord) (level : ℕ) → FullAt size ticket sets seen level → FullAt size ticket (more ++ sets) (further ++ seen) level
full_right size ticket sets more seen further level full = record {
  parent = full.parent;
  trail = trail_right sets more seen further (pieces ticket) level full.parent full.trail;
  each = λ slot within. let found = full.each slot within in (found.0, in_right _ further seen found.1, found.2);
}

-- a set of a ticket at the last level counts
pub won_here : (ticket : List ℕ) (e : SetWord) (sets : List SetWord) → In e sets → e.level ≡ 5 → e.ticket ≡ ticket → 0 < won ticket sets
won_here ticket e sets there level same = in_count (wins ticket) e sets there (is_wins ticket e level same)

pub set_won : (ticket : List ℕ) (sets : List SetWord) (seen : List SeenWord) → SetLast ticket sets seen → 0 < won ticket sets
set_won ticket sets seen last = won_here ticket (set_of 5 last.slot _ ticket) sets last.set refl refl
