-- A seat as its holder sees it (this project's own rule).
use Rattle.std.specs.Prelude.{ℕ, ◌+◌, ◌-◌, ◌/◌, suc, List, [], ◌++◌}
use Rattle.atomic_table.specs.Seated.{TableId}
use Rattle.live_desk.specs.Lists.{more_by, whole}
use Rattle.live_desk.specs.Known.{Known}
use Rattle.live_desk.specs.declared.view.SetWord.{SetWord}
use Rattle.live_desk.specs.declared.view.SeenWord.{SeenWord}
use Rattle.live_desk.specs.declared.view.Blank.{Blank}
use Rattle.live_desk.specs.declared.view.View.{View}

-- Which table it is, and how many slots a level has. No two desks are one
pub record LiveDesk : Type 0 where
  pub table : TableId
  pub size : ℕ

-- The desk of a seat, the words that it set, the words and the zeros that it found, and its share; and how many steps
-- on words were made with it and with those that were joined to it
pub record Holder : Type 0 where
  pub desk : LiveDesk
  pub sets : List SetWord
  pub seen : List SeenWord
  pub blanks : List Blank
  pub share : ℕ
  pub steps : ℕ

-- a seat's view, at its table
abbrev pub holder : TableId → View → Holder
holder table v = record {
  desk = record { table = table; size = v.size };
  sets = v.sets;
  seen = v.seen;
  blanks = v.blanks;
  share = v.share;
  steps = v.steps;
}

-- the seat that a new desk comes with
abbrev pub first_of : LiveDesk → Holder
first_of desk = record { desk = desk; sets = []; seen = []; blanks = []; share = whole; steps = 0 }

-- what a split leaves of a seat; it loads a word
abbrev pub left_of : Holder → Holder
left_of h = record {
  desk = h.desk;
  sets = h.sets;
  seen = h.seen;
  blanks = h.blanks;
  share = h.share - h.share / 2;
  steps = suc h.steps;
}

-- the new seat of a split
abbrev pub right_of : Holder → Holder
right_of h = record { desk = h.desk; sets = []; seen = []; blanks = []; share = h.share / 2; steps = 0 }

-- all that both have; a join loads a word twice
abbrev pub both_of : Holder → Holder → Holder
both_of h other = record {
  desk = h.desk;
  sets = h.sets ++ other.sets;
  seen = h.seen ++ other.seen;
  blanks = h.blanks ++ other.blanks;
  share = h.share + other.share;
  steps = suc (suc (h.steps + other.steps));
}

-- the seat after it set and found these, the last first, each by a step
abbrev pub gained : List SetWord → List SeenWord → List Blank → Holder → Holder
gained sets seen blanks h = record {
  desk = h.desk;
  sets = sets ++ h.sets;
  seen = seen ++ h.seen;
  blanks = blanks ++ h.blanks;
  share = h.share;
  steps = more_by blanks (more_by sets (more_by seen h.steps));
}

-- what holds of each seat at every moment
abbrev pub Settled : Holder → Type 0
Settled h = Known h.desk.size h.sets h.seen h.share
