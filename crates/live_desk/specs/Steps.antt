-- What the steps of a live desk do to a seat's view, and what a seat knows after each (this project's own rule).
use Rattle.std.specs.Prelude.{◌≡◌, ◌≢◌, ℕ, suc, ◌+◌, ◌-◌, ◌/◌, ◌%◌, List, [], ◌∷◌, ◌++◌}
use mathlib.Core.Option.{Option, none, some}
use Rattle.atomic_table.specs.Table.{Me, Step}
use Rattle.live_desk.specs.Lists.{whole}
use Rattle.live_desk.specs.Views.{blank_of, seen_of, set_of}
use Rattle.live_desk.specs.Known.{Known}
use Rattle.live_desk.specs.declared.view.View.{View}

-- the view of the first seat
abbrev pub first_view : ℕ → View
first_view size = record { size = size; sets = []; seen = []; blanks = []; share = whole; steps = 0 }

-- what a split leaves of a view; it loads a word
abbrev pub left_part : View → View
left_part v = record {
  size = v.size;
  sets = v.sets;
  seen = v.seen;
  blanks = v.blanks;
  share = v.share - v.share / 2;
  steps = suc v.steps;
}

-- what a split gives to the new seat
abbrev pub right_part : View → View
right_part v = record { size = v.size; sets = []; seen = []; blanks = []; share = v.share / 2; steps = 0 }

-- two views as one; a join loads a word
abbrev pub both : View → View → View
both v w = record {
  size = v.size;
  sets = v.sets ++ w.sets;
  seen = v.seen ++ w.seen;
  blanks = v.blanks ++ w.blanks;
  share = v.share + w.share;
  steps = suc (v.steps + w.steps);
}

-- what is left of a seat that was joined away
abbrev pub spent_view : View
spent_view = record { size = 0; sets = []; seen = []; blanks = []; share = 0; steps = 0 }

-- a view with a set more
abbrev pub with_set : ℕ → ℕ → ℕ → List ℕ → View → View
with_set level slot word ticket v = record {
  size = v.size;
  sets = set_of level slot word ticket ∷ v.sets;
  seen = v.seen;
  blanks = v.blanks;
  share = v.share;
  steps = suc v.steps;
}

-- a view with a found word more
abbrev pub with_seen : ℕ → ℕ → ℕ → View → View
with_seen level slot word v = record {
  size = v.size;
  sets = v.sets;
  seen = seen_of level slot word ∷ v.seen;
  blanks = v.blanks;
  share = v.share;
  steps = suc v.steps;
}

-- a view with a found 0 more
abbrev pub with_blank : ℕ → ℕ → View → View
with_blank level slot v = record {
  size = v.size;
  sets = v.sets;
  seen = v.seen;
  blanks = blank_of level slot ∷ v.blanks;
  share = v.share;
  steps = suc v.steps;
}

-- a view with a step more
abbrev pub with_look : View → View
with_look v =
    record { size = v.size; sets = v.sets; seen = v.seen; blanks = v.blanks; share = v.share; steps = suc v.steps }

-- what the seat with this view knows
abbrev pub KnownOf : View → Type 0
KnownOf v = Known v.size v.sets v.seen v.share

-- the ticket that a step was told
abbrev pub told : Option (List ℕ) → List ℕ
told none = []
told (some ticket) = ticket

-- A look adds to the count of steps alone
pub record Looks (s : Step (List ℕ)) (before : Me (List ℕ) View) (found : ℕ) (after : Me (List ℕ) View) : Type 0 where
  pub looked : after.0 ≡ with_look before.0
  pub slots : after.1 ≡ before.1
  pub known : KnownOf after.0

-- An exchange of a word that is 0 for a ticket's code. A word that was 0 joins what was set, and any other what was
-- seen. The table counts words through all levels, so that level and slot are quotient and remainder by the size
pub record Exchanges (s : Step (List ℕ)) (before : Me (List ℕ) View) (found : ℕ)
    (after : Me (List ℕ) View) : Type 0 where
  pub won : found ≡ 0
      → after.0 ≡ with_set (s.word / before.0.size) (s.word % before.0.size) s.second (told s.said) before.0
  pub lost : found ≢ 0 → after.0 ≡ with_seen (s.word / before.0.size) (s.word % before.0.size) found before.0
  pub slots : after.1 ≡ before.1
  pub known : KnownOf after.0

-- A load. A nonzero word joins what was seen, and a slot that was 0 the blanks
pub record Loads (s : Step (List ℕ)) (before : Me (List ℕ) View) (found : ℕ) (after : Me (List ℕ) View) : Type 0 where
  pub blank : found ≡ 0 → after.0 ≡ with_blank (s.word / before.0.size) (s.word % before.0.size) before.0
  pub seen : found ≢ 0 → after.0 ≡ with_seen (s.word / before.0.size) (s.word % before.0.size) found before.0
  pub slots : after.1 ≡ before.1
  pub known : KnownOf after.0
