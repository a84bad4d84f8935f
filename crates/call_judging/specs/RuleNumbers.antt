-- The numbers of the rules by which a call is judged by itself.
use Rattle.std.specs.Prelude.{ℕ, nat_lt, List, map, take_while}
use Rattle.verify_rules.specs.Rules.{Rule}
use Rattle.call_judging.specs.declared.rule_numbers.TheConstants.{RULES}

abbrev pub numbers_of : List Rule → List ℕ
numbers_of rules = map (λ (rule : Rule). rule.number) rules

-- those of the rules that are tried before the one of this number
abbrev pub numbers_before : ℕ → List ℕ
numbers_before rule = take_while (λ n. nat_lt n rule) RULES
