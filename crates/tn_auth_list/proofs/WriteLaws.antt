-- Laws of writing entry after entry.
use Rattle.std.proofs.Common.{◌≡◌, ℕ, ◌<◌, ◌≤◌, ◌&&◌, nat_le, true, List, length, take, take_all, get_or, ◌++◌, ◌+◌, refl, sym, ap, ◌∙◌, arith}
use Rattle.std.proofs.lemmas.Bool.{and_parts}
use Rattle.std.proofs.lemmas.Bool.Decides.{nat_tests}
use Rattle.std.proofs.lemmas.Grind.{common_steps}
use Rattle.std.specs.Cmp.Derive.{both_true}
use Rattle.std.specs.List.{list_all, flat_map}
use Rattle.der_reader.specs.Elem.{element_text}
use Rattle.der_reader.specs.Tags.{sequence_tag}
use Rattle.tn_auth_list.specs.declared.entries.Entry.{Entry}
use Rattle.tn_auth_list.specs.Entry.{is_typed, is_list}
use Rattle.tn_auth_list.specs.ListText.{ListText, entry_text}
use Rattle.tn_auth_list.proofs.ListLaws.{entries_are, entries_length}

-- so many are written, and are what their type makes sure of
pub record Written (content : List ℕ) (entries : List Entry) (index : ℕ) : Type 0 where
  pub text : content ≡ flat_map entry_text (take index entries)
  pub each : list_all is_typed (take index entries) ≡ true

pub one_written : (content after : List ℕ) (entries : List Entry) (index : ℕ) (entry : Entry) → Written content entries index
    → index < length entries → entry ≡ get_or entries index entry → after ≡ content ++ entry_text entry → is_typed entry ≡ true
    → Written after entries (index + 1)
one_written content after entries index entry w l e a is =
    record { text = grind (arith, common_steps, w.text, e, a); each = grind (arith, common_steps, w.each, e, is) }

-- all are
pub text_written : (text content now : List ℕ) (entries : List Entry) (index : ℕ) → Written content entries index → length entries ≤ index
    → text ≡ element_text sequence_tag now → now ≡ content → is_list entries ≡ true → ListText text entries
unfolding is_list
text_written text content now entries index w end e n l =
    let all : take index entries ≡ entries = take_all index entries end in
    let tests = and_parts (nat_le 1 (length entries) && nat_le (length entries) 1000) _ l in
    record {
      text = e ∙ ap (element_text sequence_tag) (n ∙ w.text ∙ ap (flat_map entry_text) all);
      some = grind (arith, nat_tests, tests.0);
      most = grind (arith, nat_tests, tests.0);
      each = entries_are entries ∙ both_true tests.1 (sym (ap (list_all is_typed) all) ∙ w.each);
    }

pub content_short : (content now : List ℕ) (entries : List Entry) (index : ℕ) → Written content entries index → length entries ≤ index
    → now ≡ content → is_list entries ≡ true → length now ≤ 65535
content_short content now entries index w end n l =
    let is = text_written _ content now entries index w end refl n l in
    omega (arith, ap length (n ∙ w.text ∙ ap (flat_map entry_text) (take_all index entries end)), entries_length entries is.each, is.most)
