-- What a service hands on to the next run, and what it goes on from (this project's own rule).
use Rattle.std.specs.Prelude.{◌≡◌, List, []}
use Rattle.std.specs.Map.{lookup}
use Rattle.std.specs.Option.{option_map}
use Rattle.std.specs.Str.{bytes_eq}
use Rattle.cert_store.specs.declared.world.World.{World as Materials}
use Rattle.replay_law.specs.Held.{Held, Same, purged}
use Rattle.state_text.specs.State.{Entry as Passed, StateView}
use Rattle.verify_rules.specs.declared.settings.Settings.{Settings}
use Rattle.verify_service.specs.Rows.{held, kept_of_past}
use Rattle.verify_service.specs.Service.{ServiceView}

-- what these entries keep for each ticket
abbrev pub kept_by : List Passed → Held
kept_by entries ticket = option_map kept_of_past (lookup (bytes_eq ticket) entries)

-- A service that was told this, and goes on from this state.
pub record IsRestored (settings : Settings) (materials : Materials) (state : StateView)
    (service : ServiceView) : Type 0 where
  pub settings_are : service.settings ≡ settings
  pub chains : service.chains ≡ materials.chains
  pub anchors : service.anchors ≡ materials.anchors
  pub table : service.table ≡ materials.table
  pub past : Same (kept_by state.kept) (held service.past)
  pub no_chain : service.held.entries ≡ []
  pub capacity : service.held.capacity ≡ 4096
  pub number : service.number ≡ state.call
  pub moment : service.moment ≡ state.moment

-- What a service hands on: by what window it judges, its last call, and what a purge by the moment of that call leaves
-- of its past.
pub record IsStateOf (service : ServiceView) (state : StateView) : Type 0 where
  pub window : state.window ≡ service.settings.past
  pub call : state.call ≡ service.number
  pub moment : state.moment ≡ service.moment
  pub kept : Same (purged service.moment (held service.past)) (kept_by state.kept)

-- What stays of it.
pub record HandsOn (service now : ServiceView) : Type 0 where
  -- its past is purged by the moment of its last call,
  pub past : Same (purged service.moment (held service.past)) (held now.past)
  -- the chains that it holds and its last call stay,
  pub chains_held : now.held ≡ service.held
  pub number : now.number ≡ service.number
  pub moment : now.moment ≡ service.moment
