-- Why there is no world, from what is at fault of it.
use Rattle.std.proofs.Common.{List, inl, inr, sym, subst}
use Rattle.delegation.specs.Anchors.{AnchorText}
use Rattle.verify_rules.specs.Settings.{SettingsView}
use Rattle.x509_profile.specs.View.{CertView}
use Rattle.open_calls.specs.Worlds.{AreNoAnchors, AreSettings, GivenWorld, IsFaultFor, IsFaulty, IsNoTable}
use Rattle.open_calls.specs.declared.world.WorldFault.{WorldFault}
use Rattle.open_calls.specs.declared.world.WorldFault.TheVariants as faults

pub anchors_faulty : (given : GivenWorld) (settings : SettingsView) (fault : WorldFault) → AreSettings given settings → IsFaultFor faults.Anchors (AreNoAnchors given.anchors) fault
    → IsFaulty given fault
anchors_faulty given settings fault set (inl (is, cause)) = subst (IsFaulty given) (sym is) (record { settings = settings; set = set }, cause)
anchors_faulty given settings fault set (inr is) = subst (IsFaulty given) (sym is) tt

pub table_faulty : (given : GivenWorld) (settings : SettingsView) (anchors : List CertView) (fault : WorldFault) → AreSettings given settings → AnchorText given.anchors anchors
    → IsFaultFor faults.Table (IsNoTable given.table) fault → IsFaulty given fault
table_faulty given settings anchors fault set read (inl (is, cause)) =
    subst (IsFaulty given) (sym is) (record { settings = settings; set = set }, record { certificates = anchors; read = read }, cause)
table_faulty given settings anchors fault set read (inr is) = subst (IsFaulty given) (sym is) tt
