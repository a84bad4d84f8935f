-- What is answered, given that it is what is read of the bytes.
use Rattle.std.proofs.Common.{◌≡◌, ℕ, ◌≤◌, List, length, Result, Ok, Err, IfOk}
use Rattle.sip_message.specs.declared.fault.FormFault.{FormFault}
use Rattle.sip_message.specs.declared.fault.MessageFault.{MessageFault}
use Rattle.sip_message.specs.declared.fault.MessageFault.TheVariants.{Form, Memory}
use Rattle.sip_message.specs.Answer.{IfForm, IsFault}
use Rattle.sip_message.specs.Form.{FormOf}
use Rattle.sip_message.specs.Head.{Head}
use Rattle.sip_message.specs.Message.{MessageView}
use Rattle.sip_message.specs.Reading.{read}
use Rattle.sip_message.specs.Seen.{Gives, IsOkUnlessMemory}
use Rattle.sip_message.proofs.FormLaws.{form_read, read_fault, read_found}
use Rattle.sip_message.proofs.HeadLaws.{head_read}
use Rattle.sip_message.proofs.PlaceLaws.{place_within}

pub answers_head : (bytes : List ℕ) (answer : Result MessageView MessageFault) → Gives (λ (message : MessageView). message) answer (read bytes) → IfOk answer (λ message. Head bytes message)
answers_head bytes (Ok message) r = read_found bytes message r
answers_head bytes (Err fault) r = tt

pub answers_only : (bytes : List ℕ) (answer : Result MessageView MessageFault) (m : MessageView) → Gives (λ (message : MessageView). message) answer (read bytes) → Head bytes m → IsOkUnlessMemory answer (λ found. found ≡ m)
answers_only bytes (Ok message) m r h = let k = head_read bytes m h in let e : read bytes ≡ Ok message = r in cc
answers_only bytes (Err (Form fault)) m r h = let k = head_read bytes m h in let e : read bytes ≡ Err fault = r in absurd cc
answers_only bytes (Err Memory) m r h = tt

pub answers_fault : (bytes : List ℕ) (answer : Result MessageView MessageFault) → Gives (λ (message : MessageView). message) answer (read bytes) → IfForm answer (λ fault. FormOf bytes fault)
answers_fault bytes (Ok message) r = tt
answers_fault bytes (Err (Form fault)) r = read_fault bytes fault r
answers_fault bytes (Err Memory) r = tt

pub answers_only_fault : (bytes : List ℕ) (answer : Result MessageView MessageFault) (f : FormFault) → Gives (λ (message : MessageView). message) answer (read bytes) → FormOf bytes f → IsFault answer f
answers_only_fault bytes (Ok message) f r h = let k = form_read bytes f h in let e : read bytes ≡ Ok message = r in absurd cc
answers_only_fault bytes (Err (Form fault)) f r h = let k = form_read bytes f h in let e : read bytes ≡ Err fault = r in cc
answers_only_fault bytes (Err Memory) f r h = tt

pub answers_place : (bytes : List ℕ) (answer : Result MessageView MessageFault) → Gives (λ (message : MessageView). message) answer (read bytes) → IfForm answer (λ fault. fault.place ≤ length bytes)
answers_place bytes (Ok message) r = tt
answers_place bytes (Err (Form fault)) r = place_within bytes fault (read_fault bytes fault r)
answers_place bytes (Err Memory) r = tt
