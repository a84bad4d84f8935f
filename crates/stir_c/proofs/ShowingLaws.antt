-- What is told of a chain of certificates that is shown.
use Rattle.std.proofs.Common.{◌≡◌, ◌≢◌, ℕ, ◌≤◌, List, Result, Ok, Err, IfErr, IfOk, sym, ap, subst, arith}
use Rattle.stir_c.specs.Showing.{IsNoChain, IsShown, IsWhyUnshown, ShownInto, ShowsMore, ToldShown, input_of}
use Rattle.stir_c.specs.declared.showing.Unshown.{Unshown}
use Rattle.stir_c.specs.declared.showing.Unshown.TheVariants as unshown
use Rattle.stir_c.specs.declared.said.Said.{Said}
use Rattle.stir_c.specs.declared.writing.Text.{Text}
use Rattle.stir_c.proofs.TextLaws.{high_unwritten, no_middle, text_into, text_kinds, text_more}
use Rattle.stir_c.proofs.ToldLaws.{faulty_kind, input_kind}

-- ---- what is told

pub kinds_told : (came : Result Text Unshown) (before now : List ℕ) (said : Said) → ToldShown came before now said → said.kind ≤ 4
kinds_told (Ok text) before now said so = text_kinds text.bytes.items before now said so
kinds_told (Err why) before now said so = subst (λ (s : Said). s.kind ≤ 4) (sym so.told_is) (let low = input_kind (input_of why) in omega (arith, low))

pub never_refused : (came : Result Text Unshown) (before now : List ℕ) (said : Said) → ToldShown came before now said → said.kind ≢ 1
never_refused (Ok text) before now said so one = no_middle text.bytes.items before now said so (omega (arith, one)) (omega (arith, one))
never_refused (Err why) before now said so one =
    faulty_kind (input_of why) (let is = subst (λ (s : Said). s.kind ≡ 1) so.told_is one in omega (arith, is))

pub shown_told : (bytes : List ℕ) (came : Result Text Unshown) (before now : List ℕ) (said : Said) → IfOk came (λ text. IsShown bytes text.bytes.items) → ToldShown came before now said
    → said.kind ≡ 0 → ShownInto bytes before now said
shown_told bytes (Ok text) before now said by so zero =
    let into = text_into text.bytes.items before now said so zero in
    record { lines = text.bytes.items; shown = by; size_is = into.0; text = into.1 }
shown_told bytes (Err why) before now said by so zero =
    absurd (faulty_kind (input_of why) (let is = subst (λ (s : Said). s.kind ≡ 0) so.told_is zero in omega (arith, is)))

pub room_told : (bytes : List ℕ) (came : Result Text Unshown) (before now : List ℕ) (said : Said) → IfOk came (λ text. IsShown bytes text.bytes.items) → ToldShown came before now said
    → said.kind ≡ 4 → ShowsMore bytes before said
room_told bytes (Ok text) before now said by so four =
    let more = text_more text.bytes.items before now said so four in
    record { lines = text.bytes.items; shown = by; size_is = more.0; more = more.1 }
room_told bytes (Err why) before now said by so four =
    absurd (let low = input_kind (input_of why) in let is = subst (λ (s : Said). s.kind ≡ 4) so.told_is four in omega (arith, low, is))

pub fault_told : (bytes : List ℕ) (came : Result Text Unshown) (before now : List ℕ) (said : Said) → IfErr came (IsWhyUnshown bytes)
    → ToldShown came before now said → said.kind ≡ 2 → (said.input ≡ 7) × IsNoChain bytes
fault_told bytes (Ok text) before now said by so two = absurd (no_middle text.bytes.items before now said so (omega (arith, two)) (omega (arith, two)))
fault_told bytes (Err unshown.Certificate) before now said by so two = (ap (λ (s : Said). s.input) so.told_is, by)
fault_told bytes (Err unshown.Memory) before now said by so two =
    absurd (let is = subst (λ (s : Said). s.kind ≡ 2) so.told_is two in omega (arith, is))

pub was_told : (came : Result Text Unshown) (before now : List ℕ) (said : Said) → ToldShown came before now said → 1 ≤ said.kind → now ≡ before
was_told (Ok text) before now said so high = high_unwritten text.bytes.items before now said so high
was_told (Err why) before now said so high = so.as_was
