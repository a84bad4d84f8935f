-- The commands `sign` and `divert`: what they answer to a message.
use Rattle.std.specs.Prelude.{unwrap_or, ◌≡◌, ⊤, ℕ, ◌⊎◌, true, List, [], ◌++◌, codes, is_some, Option, Some, None}
use Rattle.std.specs.Prelude.{Result, Ok, Err}
use Rattle.hex.specs.Hex.{encode_lower}
use Rattle.auth_service.specs.Answer.{decided}
use Rattle.auth_service.specs.Causes.{IsCaused}
use Rattle.auth_service.specs.Order.{HolderView, OrderView, shape_of, shape_of_diversion}
use Rattle.auth_service.specs.Outcome.{IsSigned}
use Rattle.auth_service.specs.Signed.{signed}
use Rattle.auth_service.specs.declared.fault.SignFault.{SignFault}
use Rattle.auth_service.specs.declared.fault.SignFault.TheVariants as faults
use Rattle.stir_files.specs.Named.{NamedFile}
use Rattle.stir_files.specs.Signing.{SigningOf, signing_files}
use Rattle.stir_files.specs.declared.signing.HolderMaterials.{HolderMaterials}
use Rattle.stir_files.specs.declared.signing.SigningMaterials.{SigningMaterials}
use Rattle.stir_outside.specs.Held.{held_signs}
use Rattle.stir_words.specs.Order.{DivertingView, HolderNames, SigningView}
use Rattle.stir_cmd.specs.Course.{Course}
use Rattle.stir_cmd.specs.Input.{Answering, answering_by, input_course}
use Rattle.stir_cmd.specs.OverFiles.{OverFiles, over_files}

-- ---- what is ordered

-- what is to be signed of the message, and the names of the files that are read before it
pub record SignCommand : Type 0 where
  pub order : OrderView
  pub answers : List ℕ
  pub holder : Option HolderNames

-- the origin of a call, in the form that the words say
abbrev pub signing_command : SigningView → SignCommand
signing_command words = record {
  order = record {
    shape = shape_of words.form;
    key = words.signer.key;
    x5u = words.signer.x5u;
    iat = words.signer.iat;
    local = words.signer.local;
  };
  answers = words.signer.answers;
  holder = words.signer.holder;
}

-- the diversion of a call from the number that the words say
abbrev pub diverting_command : DivertingView → SignCommand
diverting_command words = record {
  order = record { shape = shape_of_diversion words.earlier; key = words.signer.key; x5u = words.signer.x5u; iat = words.signer.iat; local = words.signer.local };
  answers = words.signer.answers;
  holder = words.signer.holder;
}

abbrev pub files_named : SignCommand → List NamedFile
files_named command = signing_files command.answers command.holder

-- the holder of the key as the signer takes it: the list of its certificate, and what the codes in it stand for
abbrev pub holder_by : Option HolderMaterials → Option HolderView
holder_by None = None
holder_by (Some holder) = Some (record { entries = unwrap_or holder.leaf.list []; table = holder.table })

-- the holder's certificate, if one is named, has a list
abbrev pub HasList : Option HolderMaterials → Type 0
HasList None = ⊤
HasList (Some holder) = is_some holder.leaf.list ≡ true

-- ---- what is signed of bytes

-- the message that is written by what the files say, or the first of the faults 1 to 4
abbrev pub signed_by : OrderView → SigningMaterials → List ℕ → Result (List ℕ) SignFault
signed_by order materials bytes = signed bytes order (holder_by materials.holder) (held_signs materials.answers)

-- this message is written, and what is promised of it holds
pub record GivesMessage (order : OrderView) (holder : Option HolderView) (signs : List ℕ → List ℕ → Option (List ℕ))
    (bytes out : List ℕ) : Type 0 where
  pub gives : signed bytes order holder signs ≡ Ok out
  pub says : IsSigned bytes order holder signs out

-- it is one of the four faults that message, order, holder and key decide
abbrev pub IsDecided : SignFault → Type 0
IsDecided fault = decided fault ≡ Some fault

-- this fault comes, and it has its cause
pub record GivesFault (order : OrderView) (holder : Option HolderView) (signs : List ℕ → List ℕ → Option (List ℕ))
    (bytes : List ℕ) (fault : SignFault) : Type 0 where
  pub decided : IsDecided fault
  pub gives : signed bytes order holder signs ≡ Err fault
  pub caused : IsCaused bytes order holder signs fault

-- why nothing is written of bytes that were read; running out of memory is free
abbrev pub GivesWhy : OrderView → Option HolderView → (List ℕ → List ℕ → Option (List ℕ)) → List ℕ → SignFault → Type 0
GivesWhy order holder signs bytes faults.Form = GivesFault order holder signs bytes faults.Form
GivesWhy order holder signs bytes faults.NoNumber = GivesFault order holder signs bytes faults.NoNumber
GivesWhy order holder signs bytes faults.Authority = GivesFault order holder signs bytes faults.Authority
GivesWhy order holder signs bytes (faults.NoSignature digest) =
    GivesFault order holder signs bytes (faults.NoSignature digest)
GivesWhy order holder signs bytes faults.Provider = ⊥
GivesWhy order holder signs bytes faults.Memory = ⊤

-- the faults that are answered by a line, or as memory that ran out: the provider of an answers file never fails
abbrev pub HasLine : SignFault → Type 0
HasLine faults.Form = ⊤
HasLine faults.NoNumber = ⊤
HasLine faults.Authority = ⊤
HasLine (faults.NoSignature digest) = ⊤
HasLine faults.Provider = ⊥
HasLine faults.Memory = ⊤

-- ---- what is written

-- the key has no signature for this digest
abbrev pub unsigned_line : List ℕ → List ℕ → List ℕ
unsigned_line key digest = codes "no signature " ++ (key ++ (codes " " ++ (encode_lower digest ++ codes "\n")))

-- the message can't be read, or isn't of the form that is signed
abbrev pub form_line : List ℕ
form_line = codes "sign fault 1\n"

-- the line of a fault; those that the provider and memory decide don't come here
abbrev pub fault_line : List ℕ → SignFault → List ℕ
fault_line key faults.Form = form_line
fault_line key faults.NoNumber = codes "sign fault 2\n"
fault_line key faults.Authority = codes "sign fault 3\n"
fault_line key (faults.NoSignature digest) = unsigned_line key digest
fault_line key faults.Provider = []
fault_line key faults.Memory = []

-- a fault is answered so
pub record RefusedFor (key : List ℕ) (fault : SignFault) (text : List ℕ) (status : ℕ) : Type 0 where
  pub decides : IsDecided fault
  pub line : text ≡ fault_line key fault
  pub said : status ≡ 1

-- ---- what the commands answer to a message

-- the message is signed, and what is signed of it is written
pub record SignsMessage (order : OrderView) (materials : SigningMaterials) (bytes text : List ℕ)
    (status : ℕ) : Type 0 where
  pub said : status ≡ 0
  pub gave : GivesMessage order (holder_by materials.holder) (held_signs materials.answers) bytes text

-- one of the faults 1 to 4 comes, and its line is written
pub record RefusesMessage (order : OrderView) (materials : SigningMaterials) (bytes text : List ℕ)
    (status : ℕ) : Type 0 where
  pub said : status ≡ 1
  pub fault : SignFault
  pub refuses : GivesFault order (holder_by materials.holder) (held_signs materials.answers) bytes fault
  pub line : text ≡ fault_line order.key fault

abbrev pub SignGives : OrderView → SigningMaterials → List ℕ → List ℕ → ℕ → Type 0
SignGives order materials bytes text status =
    SignsMessage order materials bytes text status ⊎ RefusesMessage order materials bytes text status

-- bytes that are more than a message has are no message
abbrev pub SignRefuses : List ℕ → ℕ → Type 0
SignRefuses text status = (text ≡ form_line) × (status ≡ 1)

-- a message of at most 65,535 bytes
abbrev pub sign_answering : OrderView → SigningMaterials → Answering
sign_answering order materials = answering_by 65535 (SignGives order materials) SignRefuses

-- ---- the whole

abbrev pub sign_over : SignCommand → OverFiles
sign_over command = record {
  named = files_named command;
  Read = SigningMaterials;
  Stands = λ files materials. SigningOf files command.answers command.holder materials;
  course = λ materials. input_course (sign_answering command.order materials);
}

-- what `sign` and `divert` promise
abbrev pub sign_course : SignCommand → Course
sign_course command = over_files (sign_over command)
