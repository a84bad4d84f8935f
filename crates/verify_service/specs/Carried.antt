-- What a contract sees of a round that was carried out: of its outcomes, its classes, its desk and the one seat of
-- this.
use Rattle.std.specs.Prelude.{◌≡◌, ◌≢◌, ◌<◌, ◌↔◌, ℕ, List, Option, Some, None}
use Rattle.std.specs.List.{slice_get}
use Rattle.call_log.specs.Entry.{Entry}
use Rattle.cert_store.specs.Rules.{Says}
use Rattle.replay_desk.specs.Holder.{DeskId, Holder}
use Rattle.live_desk.specs.Lists.{In}
use Rattle.replay_desk.specs.Past.{PastView}
use Rattle.replay_law.specs.Held.{Held}
use Rattle.replay_law.specs.Round.{Settled}
use Rattle.replay_law.specs.Turn.{FirstWins}
use Rattle.stir_outside.specs.Files.{Files}
use Rattle.verify_rules.specs.Rules.{early_rules, first}
use Rattle.verify_rules.specs.declared.settings.Settings.{Settings}
use Rattle.call_judging.specs.Judging.{ticket_or_none}
use Rattle.verify_service.specs.Judging.{EachPair, IsJudgedWhere, call_in}
use Rattle.verify_service.specs.Ready.{Basis}
use Rattle.verify_service.specs.RightChains.{AreRightHeld}
use Rattle.verify_service.specs.Rows.{EachOwed, held, rows_of}
use Rattle.verify_service.specs.declared.outcome.Outcome.{Outcome}
use Rattle.verify_service.specs.declared.outcome.Outcome.TheVariants.{Valid, Replay}

-- what comes of each call; the class of its ticket, if the rules of the call don't refuse it; and the desk on which the
-- calls claimed, with its one seat
pub record CarriedView : Type 0 where
  pub outcomes : List Outcome
  pub classes : List (Option ℕ)
  pub desk : DeskId
  pub seat : Holder

-- A call has no class exactly if the rules of the call refuse it. Two calls that they don't refuse have one class
-- exactly if they have one ticket.
pub record AreClasses (settings : Settings) (entries : List Entry) (classes : List (Option ℕ)) : Type 0 where
  pub refused : (at : ℕ) (entry : Entry) → slice_get entries at ≡ Some entry
      → (slice_get classes at ≡ Some None) ↔ (first early_rules (call_in settings entry) ≢ None)
  pub same : (at other : ℕ) (entry second : Entry) → slice_get entries at ≡ Some entry
      → slice_get entries other ≡ Some second → first early_rules (call_in settings entry) ≡ None
      → first early_rules (call_in settings second) ≡ None → (slice_get classes at ≡ slice_get classes other)
      ↔ (ticket_or_none (call_in settings entry) ≡ ticket_or_none (call_in settings second))

-- The pair is the class and the number of a call that is valid.
pub record IsValidPair (entries : List Entry) (classes : List (Option ℕ)) (outs : List Outcome)
    (p : ℕ × ℕ) : Type 0 where
  pub at : ℕ
  pub entry : Entry
  pub stands : slice_get entries at ≡ Some entry
  pub class : slice_get classes at ≡ Some (Some p.0)
  pub number : entry.number ≡ p.1
  pub valid : slice_get outs at ≡ Some Valid

-- The pair is the class and the winner of a call that is a replay, whose ticket the past hasn't.
pub record IsReplayPair (settings : Settings) (past : Held) (entries : List Entry) (classes : List (Option ℕ))
    (outs : List Outcome) (p : ℕ × ℕ) : Type 0 where
  pub at : ℕ
  pub entry : Entry
  pub stands : slice_get entries at ≡ Some entry
  pub class : slice_get classes at ≡ Some (Some p.0)
  pub replay : slice_get outs at ≡ Some (Replay p.1)
  pub free : past (ticket_or_none (call_in settings entry)) ≡ None

-- The wins of the seat are exactly the pairs of the valid calls, and its losses those of the replays whose ticket the
-- past hasn't.
pub record HasPairs (settings : Settings) (past : Held) (entries : List Entry) (classes : List (Option ℕ))
    (outs : List Outcome) (seat : Holder) : Type 0 where
  pub wins : (p : ℕ × ℕ) → In p seat.wins ↔ IsValidPair entries classes outs p
  pub losses : (p : ℕ × ℕ) → In p seat.losses ↔ IsReplayPair settings past entries classes outs p

-- The outcomes are what the rules say of the calls of the log, over any files for which the chains of the round are
-- right, if all providers say the same; and calls that pass are known again by what was signed.
pub record AreRuled (on : Basis) (settings : Settings) (entries : List Entry) (says : ℕ → Says) (workers : ℕ)
    (outs : List Outcome) : Type 0 where
  pub judged : (told : Option Files) (all : Says) → ((w : ℕ) → w < workers → says w ≡ all)
      → AreRightHeld told on.materials all on.held on.kept
      → EachPair (λ entry outcome. IsJudgedWhere told on.materials all (call_in settings entry) outcome) entries outs
  pub owed : EachOwed settings entries outs

-- What the calls of the log came to in a round on so many workers: their classes, and the wins and losses of the seat;
-- of the calls that pass with one ticket one is valid and each other is a replay of it, over the past of which `next`
-- is left; and with one worker it is the first.
pub record Carries (settings : Settings) (entries : List Entry) (workers : ℕ) (past next : PastView)
    (round : CarriedView) : Type 0 where
  pub classes : AreClasses settings entries round.classes
  pub pairs : HasPairs settings (held past) entries round.classes round.outcomes round.seat
  pub settled : Settled (held past) (rows_of settings entries round.outcomes) (held next)
  pub first : workers ≡ 1 → FirstWins (rows_of settings entries round.outcomes)
