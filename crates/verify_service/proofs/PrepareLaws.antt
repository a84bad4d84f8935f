-- A round that is prepared, from the calls that were screened and the classes that they were given.
use Rattle.std.proofs.Common.{◌≡◌, ℕ, ◌≤◌, ◌<◌, Bool, List, Option, ◌++◌, drop, length, max, take, sym, ap, ◌∙◌, subst, arith}
use Rattle.call_log.specs.Entry.{Entry}
use Rattle.cert_store.specs.Holding.{Chains, Holding}
use Rattle.cert_store.specs.declared.world.World.{World as Materials}
use Rattle.replay_desk.specs.Holder.{DeskId, Holder}
use Rattle.replay_desk.specs.Past.{PastView}
use Rattle.stir_outside.specs.Files.{Files}
use Rattle.verify_rules.specs.declared.settings.Settings.{Settings}
use Rattle.verify_service.specs.Classes.{AreGivenClasses}
use Rattle.verify_service.specs.Judging.{EachPair}
use Rattle.verify_service.specs.Kept.{Kept}
use Rattle.verify_service.specs.Needed.{all_named, named, round_texts}
use Rattle.verify_service.specs.Carried.{AreClasses}
use Rattle.verify_service.specs.Contents.{AsksFew, HasContents}
use Rattle.verify_service.specs.Prepared.{AreSeats, HasWords, HaveClass, IsPrepared, classes_of}
use Rattle.verify_service.specs.Ready.{AreClassed, HasRoom}
use Rattle.verify_service.specs.RightChains.{FailAtQuestions}
use Rattle.verify_service.specs.RoundRead.{texts_of}
use Rattle.verify_service.specs.Screening.{IsReady}
use Rattle.verify_service.specs.Service.{AreOfRound, IsSameConfig, ServiceView, materials_of, texts_in}
use Rattle.verify_service.specs.declared.screening.ReadyCall.{ReadyCall}
use Rattle.verify_service.proofs.CallRowLaws.{ScreenedLaws}
use Rattle.verify_service.proofs.ClassLaws.{are_classed, classes_ready, has_room, has_words, have_class, numbered}
use Rattle.verify_service.proofs.ContentLaws.{asked_later}
use Rattle.verify_service.proofs.EntryClassLaws.{are_classes}
use Rattle.verify_service.proofs.ListLaws.{each_length}
use Rattle.verify_service.proofs.ReadyLaws.{written_back}
use Rattle.verify_service.proofs.RoundAllLaws.{named_most}
use Rattle.verify_service.proofs.RoundHeldLaws.{NamedLaw}
use Rattle.verify_service.proofs.RoundLaws.{materials_same}

-- the calls were lent as a slice, which had its classes given, and was written back
module _ (settings : Settings) (entries : List Entry) (count : ℕ) (olds lent now : List ReadyCall) (len : ℕ) (all : len ≡ length olds) (begun : lent ≡ olds) (counted : length now ≡ length lent)
    (each : EachPair (IsReady settings) entries olds) (classed : AreGivenClasses count lent now) where
  abbrev placed : List ReadyCall
  placed = take len (now ++ drop (length now) olds)

  same : placed ≡ now
  same = written_back olds now len all (counted ∙ ap length begun)

  given : AreGivenClasses count olds now
  given = subst (λ cs. AreGivenClasses count cs now) begun classed

  pub placed_ready : EachPair (IsReady settings) entries placed
  placed_ready = subst (λ cs. EachPair (IsReady settings) entries cs) (sym same) (classes_ready settings count entries olds now each given)

  pub placed_room : HasRoom placed (length entries)
  placed_room =
      let size = each_length (IsReady settings) entries olds each in
      let few = given.few in
      subst (λ cs. HasRoom cs (length entries)) (sym same) (has_room count (length entries) olds now given (omega arith))

  -- its texts are those that its calls name
  pub placed_texts : NamedLaw → (materials : Materials) (held : Chains) (calls : List ReadyCall) → calls ≡ placed
      → texts_of materials held calls ≡ round_texts materials.chains held (named settings entries)
  placed_texts law materials held calls is =
      ap (λ cs. texts_of materials held cs) is ∙ ap (λ ts. round_texts materials.chains held ts) (law settings entries placed placed_ready)

  -- the calls name at most nine texts each
  pub placed_named : length entries ≤ 256 → length (all_named placed) ≤ 4096
  placed_named few = let most = named_most settings entries placed placed_ready in omega arith

  pub placed_prepared : (desk : DeskId) (seats : List Holder) (kept : Kept) → AreOfRound entries → count ≤ desk.words → 1 ≤ desk.words → FailAtQuestions kept → AreSeats desk seats
      → IsPrepared placed kept desk seats
  placed_prepared desk seats kept round many some questions own =
      subst (λ cs. IsPrepared cs kept desk seats) (sym same) (record {
        some = (let size = each_length (IsReady settings) entries olds each in let size_now = given.same in let one = round.follow.some in omega arith);
        few = (let size = each_length (IsReady settings) entries olds each in let size_now = given.same in let most = round.follow.few in omega arith);
        classes = have_class settings round.number round.moment count desk entries olds now round.follow.each each given many some;
        classed = are_classed count olds now given;
        numbered = numbered settings round.number round.moment entries now round.follow.each (classes_ready settings count entries olds now each given);
        questions = questions;
        own = own;
      })

  -- a call has no class exactly if the rules of the call refuse it, and two others have one class exactly if they have one ticket
  pub placed_classes : ScreenedLaws → (desk : DeskId) → AreOfRound entries → count ≤ desk.words → 1 ≤ desk.words → AreClasses settings entries (classes_of placed)
  placed_classes laws desk round many some =
      let own = have_class settings round.number round.moment count desk entries olds now round.follow.each each given many some in
      are_classes settings entries placed laws placed_ready (subst AreClassed (sym same) (are_classed count olds now given))
      (λ at call stands. (subst (HaveClass desk) (sym same) own at call stands).classed)

  -- the desk has one word for each class, and one if there is no class
  pub placed_words : (desk : DeskId) → desk.words ≡ max count 1 → HasWords desk (classes_of placed)
  placed_words desk words = subst (λ cs. HasWords desk (classes_of cs)) (sym same) (has_words count olds now desk given words)

-- ---- over what a service was told and holds

pub record IsOver (service : ServiceView) (settings : Settings) (materials : Materials) (held : Holding) : Type 0 where
  pub told : materials ≡ materials_of service
  pub holds : held ≡ service.held
  pub set : settings ≡ service.settings

-- a service that has begun the round is it still
pub is_over : (service now : ServiceView) (settings : Settings) (materials : Materials) (held : Holding) (past : PastView) (number moment : ℕ) (begun : Bool)
    → record { settings = settings; chains = materials.chains; anchors = materials.anchors; table = materials.table; past = past; held = held; number = number; moment = moment; begun = begun } ≡ now
    → IsSameConfig service now → now.held ≡ service.held → IsOver service settings materials held
is_over service now settings materials held past number moment begun is config same = record {
  told = materials_same service now materials config (ap (λ (s : ServiceView). s.chains) is) (ap (λ (s : ServiceView). s.anchors) is) (ap (λ (s : ServiceView). s.table) is);
  holds = ap (λ (s : ServiceView). s.held) is ∙ same;
  set = ap (λ (s : ServiceView). s.settings) is ∙ config.settings;
}

pub asked_over : (told : Option Files) (service : ServiceView) (settings : Settings) (materials : Materials) (held : Holding) (entries : List Entry) (reads reads_now count : ℕ) (asks now : ℕ → ℕ)
    → IsOver service settings materials held
    → HasContents told materials (round_texts materials.chains held.entries (named settings entries)) reads reads_now (λ contents. (w : ℕ) → w < count → AsksFew w count 0 (asks w) (now w) contents)
    → HasContents told (materials_of service) (texts_in service entries) reads reads_now (λ contents. (w : ℕ) → w < count → AsksFew w count 0 (asks w) (now w) contents)
asked_over told service settings materials held entries reads reads_now count asks now over has =
    asked_later told materials (materials_of service) _ _ reads reads_now count asks now now (λ w. 0) over.told
    (ap (λ (m : Materials). round_texts m.chains held.entries (named settings entries)) over.told
    ∙ ap (λ (h : Holding). round_texts service.chains h.entries (named settings entries)) over.holds
    ∙ ap (λ (s : Settings). round_texts service.chains service.held.entries (named s entries)) over.set)
    (λ w less. omega arith) has
