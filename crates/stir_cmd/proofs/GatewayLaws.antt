-- What `retarget` promises.
use Rattle.std.proofs.Common.{ℕ, inl, inr, List, Option, arith}
use Rattle.stir_outside.specs.Files.{Files}
use Rattle.retarget.specs.Hop.{HopView}
use Rattle.stir_cmd.specs.Sending.{PlaceView}
use Rattle.stir_words.specs.Order.{RetargetingView}
use Rattle.stir_cmd.specs.Gateway.{GatewayGives, GatewayRefuses, gateway_answering, gateway_course, gateway_over, hop_by, place_by}
use Rattle.stir_cmd.proofs.InputLaws.{Decides, IsAnswer, keeps_shelf}
use Rattle.stir_cmd.proofs.Keeps.{KeepsAll}
use Rattle.stir_cmd.proofs.OverFilesLaws.{over_keeps}

gives : (place : PlaceView) (hop : HopView) (told : Option Files) (before now : ℕ) (bytes text : List ℕ) (status : ℕ) → GatewayGives place hop told before now bytes text status → IsAnswer status
gives place hop told before now bytes text status (inl out) = inl (omega (arith, out.said))
gives place hop told before now bytes text status (inr (inl sends)) = inl (omega (arith, sends.said))
gives place hop told before now bytes text status (inr (inr holds)) = inl (omega (arith, holds.said))

refuses : (text : List ℕ) (status : ℕ) → GatewayRefuses text status → IsAnswer status
refuses text status said = inl (omega (arith, said.1))

decides : (place : PlaceView) (hop : HopView) (told : Option Files) (before now : ℕ) → Decides (gateway_answering place hop told before now)
decides place hop told before now = record { gives = gives place hop told before now; refuses = refuses }

pub keeps_all : (words : RetargetingView) → KeepsAll (gateway_course words)
keeps_all words =
    over_keeps (gateway_over words) (λ materials.
    keeps_shelf (λ before now. gateway_answering (place_by words materials) (hop_by words) before.files before.counts.faults now.counts.faults)
    (λ before now. decides (place_by words materials) (hop_by words) before.files before.counts.faults now.counts.faults))
