-- What `sign` and `divert` promise.
use Rattle.std.proofs.Common.{ℕ, inl, inr, List, arith}
use Rattle.auth_service.specs.Order.{OrderView}
use Rattle.stir_files.specs.declared.signing.SigningMaterials.{SigningMaterials}
use Rattle.stir_cmd.specs.Signing.{SignCommand, SignGives, SignRefuses, sign_answering, sign_course, sign_over}
use Rattle.stir_cmd.proofs.InputLaws.{Decides, IsAnswer, keeps_input}
use Rattle.stir_cmd.proofs.Keeps.{KeepsAll}
use Rattle.stir_cmd.proofs.OverFilesLaws.{over_keeps}

gives : (order : OrderView) (materials : SigningMaterials) (bytes text : List ℕ) (status : ℕ) → SignGives order materials bytes text status → IsAnswer status
gives order materials bytes text status (inl signs) = inl (omega (arith, signs.said))
gives order materials bytes text status (inr refuses) = inl (omega (arith, refuses.said))

refuses : (text : List ℕ) (status : ℕ) → SignRefuses text status → IsAnswer status
refuses text status said = inl (omega (arith, said.1))

decides : (order : OrderView) (materials : SigningMaterials) → Decides (sign_answering order materials)
decides order materials = record { gives = gives order materials; refuses = refuses }

pub keeps_all : (command : SignCommand) → KeepsAll (sign_course command)
keeps_all command = over_keeps (sign_over command) (λ materials. keeps_input (sign_answering command.order materials) (decides command.order materials))
