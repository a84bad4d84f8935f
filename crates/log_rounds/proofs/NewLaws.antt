-- A service as it was made: what it was told, that it holds no chain, and that a new one has judged no call.
use Rattle.std.proofs.Common.{◌≡◌, ℕ, List, [], Option, None, refl, sym, ap, subst}
use Rattle.std.proofs.lemmas.Option.{none-some}
use Rattle.cert_store.specs.Holding.{Chains}
use Rattle.cert_store.specs.Rules.{Says}
use Rattle.cert_store.specs.Using.{names}
use Rattle.cert_store.specs.declared.world.World.{World as Materials}
use Rattle.log_rounds.specs.Judged.{StandsAtFirst}
use Rattle.log_rounds.specs.Verifier.{basis_by, state_by}
use Rattle.stir_outside.specs.Files.{Counts, Files}
use Rattle.stir_outside.specs.Held.{Held}
use Rattle.verify_rules.specs.declared.settings.Settings.{Settings}
use Rattle.verify_service.specs.RightChains.{AreRightHeld}
use Rattle.verify_service.specs.Rows.{held}
use Rattle.verify_service.specs.Service.{HoldsRight, IsNew, ServiceView, materials_of}

pub stands_at_first : (settings : Settings) (materials : Materials) (service : ServiceView) (counts : Counts) → IsNew settings materials service → StandsAtFirst (state_by service counts)
stands_at_first settings materials service counts new = record { past = λ i ticket. by_ticket ticket i; held = ap names new.held; number = new.number; moment = new.moment }
  where
    by_ticket : (ticket : List ℕ) → held service.past ticket ≡ None
    by_ticket ticket = rw (new.past ticket) refl

-- a service that holds no chain holds what is right
pub trusts_none : (service : ServiceView) (files : Option Files) (says : Says) → service.held.entries ≡ [] → HoldsRight files says service
trusts_none service files says none = subst (λ (x : Chains). AreRightHeld files (materials_of service) says x []) (sym none)
    (record { cached = λ x5u judged e. absurd (none-some judged e); others = λ x5u state e. absurd (none-some state e) })

-- by what it judges is what it was told
pub told_basis : (settings : Settings) (workers : ℕ) (materials : Materials) (answers : Held) (service : ServiceView) → service.settings ≡ settings → service.chains ≡ materials.chains
    → service.anchors ≡ materials.anchors → service.table ≡ materials.table → basis_by service answers workers ≡ record { settings = settings; materials = materials; answers = answers; workers = workers }
told_basis settings workers materials answers service set chains anchors table = λ i. record {
  settings = set i;
  materials = record { chains = chains i; anchors = anchors i; table = table i };
  answers = answers;
  workers = workers;
}
