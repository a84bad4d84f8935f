-- What the words of a command come to.
use Rattle.std.proofs.Common.{unwrap_or, ◌≡◌, ℕ, ◌<◌, ◌≤◌, ◌^◌, true, false, cond, List, [], Option, Some, None, is_some, Result, Err, option_and_then, refl, sym, ◌∙◌, ap, subst, arith}
use Rattle.text_grammar.specs.Decimal.{number_up_to}
use Rattle.text_grammar.proofs.DecimalLaws.{number_within}
use Rattle.stir_words.specs.Options.{Pair, are_options, options_in, pairs_of}
use Rattle.stir_words.specs.Order.{OrderView, order_by, order_with}
use Rattle.stir_words.specs.Seen.{Orders}
use Rattle.stir_words.specs.Table.{Given, accepts, given_by, options_of}
use Rattle.stir_words.specs.ClapRules.{IsParsed}
use Rattle.stir_words.specs.declared.commands.Command.{Command}
use Rattle.stir_words.specs.declared.fault.WordsFault.{WordsFault}
use Rattle.stir_words.specs.declared.fault.WordsFault.TheVariants as words_fault
use Rattle.stir_words.specs.declared.order.Order.{Order}

-- what a command comes to with the options that it is given
abbrev pub if_accepted : Command → List Pair → Option OrderView
if_accepted command pairs = cond (accepts (options_of command) pairs) (order_with command (given_by pairs)) None

pub all_found : (k : Option (List Pair)) → is_some k ≡ true → k ≡ Some (unwrap_or k [])
all_found None h = absurd cc
all_found (Some pairs) h = refl

none_found : (k : Option (List Pair)) → is_some k ≡ false → k ≡ None
none_found None h = refl
none_found (Some pairs) h = absurd cc

pub no_options : (command : Command) (words : List (List ℕ)) → are_options words ≡ false → order_by command words ≡ None
no_options command words h = ap (option_and_then (if_accepted command)) (none_found (pairs_of words) h)

given : (command : Command) (words : List (List ℕ)) → are_options words ≡ true → order_by command words ≡ if_accepted command (options_in words)
given command words h = ap (option_and_then (if_accepted command)) (all_found (pairs_of words) h)

-- what the values of the options come to, if the table accepts them
pub ordered : (command : Command) (words : List (List ℕ)) (values : Given) (result : Result Order WordsFault) → are_options words ≡ true
    → (accepts (options_of command) (options_in words) ≡ true) × (values ≡ given_by (options_in words)) → Orders (order_with command values) result
    → Orders (order_by command words) result
ordered command words values result h accepted is =
    let some : if_accepted command (options_in words) ≡ order_with command (given_by (options_in words)) = rw accepted.0 refl in
    let same : order_with command values ≡ order_by command words = ap (order_with command) accepted.1 ∙ sym (given command words h ∙ some) in
    subst (λ (order : Option OrderView). Orders order result) same is

pub refused : (command : Command) (words : List (List ℕ)) (fault : WordsFault) → are_options words ≡ true
    → IsParsed (options_of command) (options_in words) (Err fault) → Orders (order_by command words) (Err fault)
refused command words words_fault.Refused h not_accepted =
    let none : if_accepted command (options_in words) ≡ None = rw not_accepted refl in given command words h ∙ none
refused command words words_fault.Memory h wanted = tt

-- a number of at most 14 is one of eight bits
pub is_small : (text : List ℕ) (n : ℕ) → Some n ≡ number_up_to 14 text → n < 2 ^ 8
is_small text n h = let small : n ≤ 14 = number_within 14 text n (sym h) in omega arith

-- a number of at most 100,000 is one of 32 bits
pub is_count : (text : List ℕ) (n : ℕ) → Some n ≡ number_up_to 100000 text → n < 2 ^ 32
is_count text n h = let few : n ≤ 100000 = number_within 100000 text n (sym h) in omega arith

pub within_memory : (text : List ℕ) (count : ℕ) → Some count ≡ number_up_to 100000 text → count ≤ 100000
within_memory text count h = number_within 100000 text count (sym h)

-- a number of at most 1,048,576 is one of 32 bits
pub is_slots : (text : List ℕ) (n : ℕ) → Some n ≡ number_up_to 1048576 text → n < 2 ^ 32
is_slots text n h = let few : n ≤ 1048576 = number_within 1048576 text n (sym h) in omega arith

pub within_level : (text : List ℕ) (n : ℕ) → number_up_to 1048576 text ≡ Some n → n ≤ 1048576
within_level text n h = number_within 1048576 text n h

pub within_eight : (text : List ℕ) (n : ℕ) → number_up_to 8 text ≡ Some n → n ≤ 8
within_eight text n h = number_within 8 text n h

pub within_a_day : (text : List ℕ) (seconds : ℕ) → number_up_to 86400 text ≡ Some seconds → seconds ≤ 86400
within_a_day text seconds h = number_within 86400 text seconds h
