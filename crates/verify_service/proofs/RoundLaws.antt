-- A round, from what was carried out after the past was purged.
use Rattle.std.proofs.Common.{◌≡◌, List, [], ◌∷◌, length, Option, Some, None, refl, ap, sym, ◌∙◌, subst, arith}
use Rattle.call_log.specs.Entry.{Entry}
use Rattle.cert_store.specs.Rules.{Says}
use Rattle.cert_store.specs.declared.world.World.{World as Materials}
use Rattle.delegation.specs.Coverage.{Table}
use Rattle.replay_law.specs.Held.{Held, Same, purged}
use Rattle.replay_law.specs.Law.{SameIsOne}
use Rattle.replay_law.specs.Round.{RoundSettled, Settled, first_moment, round_of}
use Rattle.stir_outside.specs.Files.{Files}
use Rattle.verify_rules.specs.declared.settings.Settings.{Settings}
use Rattle.verify_service.specs.Judging.{EachPair, IsJudgedWhere, call_in}
use Rattle.verify_service.specs.Rows.{rows_of}
use Rattle.verify_service.specs.Service.{AreJudged, IsSameConfig, ServiceView, first_moment_of, materials_of}
use Rattle.verify_service.specs.declared.outcome.Outcome.{Outcome}
use Rattle.x509_profile.specs.View.{CertView}

-- ---- judged

-- over files that are told
pub all_judged : (told : Option Files) (service : ServiceView) (says : Says) (entries : List Entry) (outcomes : List Outcome)
    → EachPair (λ entry outcome. IsJudgedWhere told (materials_of service) says (call_in service.settings entry) outcome) entries outcomes → AreJudged told service says entries outcomes
all_judged None service says entries outcomes each = tt
all_judged (Some files) service says entries outcomes each = each

by_parts : (chains chains_now : Files) (anchors anchors_now : List CertView) (table table_now : Table) → chains ≡ chains_now → anchors ≡ anchors_now → table ≡ table_now
    → ◌≡◌ {A = Materials} (record { chains = chains; anchors = anchors; table = table }) (record { chains = chains_now; anchors = anchors_now; table = table_now })
by_parts chains chains_now anchors anchors_now table table_now one two three = cc

-- what is judged by is what the service was told
pub materials_same : (service now : ServiceView) (materials : Materials) → IsSameConfig service now → materials.chains ≡ now.chains → materials.anchors ≡ now.anchors
    → materials.table ≡ now.table → materials ≡ materials_of service
materials_same service now materials told chains anchors table =
    by_parts materials.chains service.chains materials.anchors service.anchors materials.table service.table (chains ∙ told.chains) (anchors ∙ told.anchors) (table ∙ told.table)

-- ---- settled

first_moment_is : (settings : Settings) (entries : List Entry) (outcomes : List Outcome) → length outcomes ≡ length entries
    → first_moment (rows_of settings entries outcomes) ≡ first_moment_of entries
first_moment_is settings [] outcomes same = refl
first_moment_is settings (e ∷ entries) [] same = absurd (omega arith)
first_moment_is settings (e ∷ entries) (o ∷ outcomes) same = refl

-- what is purged before the first call is the past that the round is settled over
pub purged_first : SameIsOne → (settings : Settings) (past mid : Held) (entries : List Entry) (outcomes : List Outcome) → length outcomes ≡ length entries
    → Same (purged (first_moment_of entries) past) mid → mid ≡ purged (first_moment (rows_of settings entries outcomes)) past
purged_first same_is_one settings past mid entries outcomes counted purge =
    sym (same_is_one (purged (first_moment_of entries) past) mid purge) ∙ ap (λ m. purged m past) (sym (first_moment_is settings entries outcomes counted))

pub round_settled : SameIsOne → (settings : Settings) (past mid next : Held) (entries : List Entry) (outcomes : List Outcome) → length outcomes ≡ length entries
    → Same (purged (first_moment_of entries) past) mid → Settled mid (rows_of settings entries outcomes) next → RoundSettled past (round_of (rows_of settings entries outcomes)) next
round_settled same_is_one settings past mid next entries outcomes counted purge settled =
    subst (λ (h : Held). Settled h (rows_of settings entries outcomes) next) (purged_first same_is_one settings past mid entries outcomes counted purge) settled
