-- A start line has just the method and the URI that are read from it.
use Rattle.std.proofs.Common.{◌≡◌, ℕ, true, not, ◌==◌, ◌&&◌, List, ◌∷◌, ◌++◌, Some, refl, ap, ◌∙◌, option_and_then, subst}
use Rattle.std.specs.List.{list_all}
use Rattle.std.proofs.lemmas.Option.{cond_some, option_and_then_some}
use Rattle.text_grammar.specs.Cut.{cut, lacks}
use Rattle.text_grammar.proofs.CutLaws.{cut_again, cut_found}
use Rattle.sip_message.specs.HeadAlphabet.{is_name, is_target, is_target_byte}
use Rattle.text_grammar.specs.Bytes.{is_empty, is_name_byte}
use Rattle.sip_message.specs.StartLine.{IsStartLine, is_version, method_of, start_line, target_of}
use Rattle.sip_message.proofs.Bytes.{name_no_space, target_no_space}
use Rattle.std.proofs.lemmas.Bool.{and_parts}
use Rattle.lists.proofs.Bytes.{each}

form : (line method rest uri version : List ℕ) (parts : List ℕ × List ℕ) → line ≡ method ++ 32 ∷ rest → rest ≡ uri ++ 32 ∷ version
    → target_of method (uri, version) ≡ Some parts → IsStartLine line parts.0 parts.1
form line method rest uri version parts e1 e2 h =
    let c = cond_some (is_name method && is_target uri && is_version version) (method, uri) parts h in
    let p = and_parts (is_name method && is_target uri) (is_version version) c.0 in
    let q = and_parts (is_name method) (is_target uri) p.0 in
    let start : IsStartLine line method uri = record { version = version; method_ok = q.0; uri_ok = q.1; version_ok = p.1; text = e1 ∙ ap (λ x. method ++ 32 ∷ x) e2 } in
    subst (λ (x : List ℕ × List ℕ). IsStartLine line x.0 x.1) c.1 start

pub start_found : (line : List ℕ) (parts : List ℕ × List ℕ) → start_line line ≡ Some parts → IsStartLine line parts.0 parts.1
start_found line parts h =
    option_and_then_some method_of (cut 32 line) parts h (λ first e1 h1.
    option_and_then_some (target_of first.0) (cut 32 first.1) parts h1 (λ second e2 h2.
    form line first.0 first.1 second.0 second.1 parts (cut_found 32 line first e1) (cut_found 32 first.1 second e2) h2))

name_lacks : (name : List ℕ) → is_name name ≡ true → lacks 32 name ≡ true
name_lacks name h = each is_name_byte (λ b. not (b == 32)) name_no_space name (and_parts (not (is_empty name)) (list_all is_name_byte name) h).1

target_lacks : (uri : List ℕ) → is_target uri ≡ true → lacks 32 uri ≡ true
target_lacks uri h = each is_target_byte (λ b. not (b == 32)) target_no_space uri (and_parts (not (is_empty uri)) (list_all is_target_byte uri) h).1

pub start_only : (line method uri : List ℕ) → IsStartLine line method uri → start_line line ≡ Some (method, uri)
start_only line method uri i =
    let m : is_name method ≡ true = i.method_ok in
    let u : is_target uri ≡ true = i.uri_ok in
    let v : is_version i.version ≡ true = i.version_ok in
    let end : target_of method (uri, i.version) ≡ Some (method, uri) = rw (m, u, v) refl in
    ap start_line i.text
    ∙ ap (option_and_then method_of) (cut_again 32 method (uri ++ 32 ∷ i.version) (name_lacks method m))
    ∙ ap (option_and_then (target_of method)) (cut_again 32 uri i.version (target_lacks uri u))
    ∙ end
