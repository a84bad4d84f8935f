-- With a byte that is refused no number goes on, and any other is a further digit.
use Rattle.std.proofs.Common.{sym, ◌∙◌}
use Rattle.call_log.proofs.DigitLaws.{foreign, goes_on, leading_zero, too_large}
use Rattle.call_log.proofs.digits.Digits.with.Goals as goal

pub returns-then-not-is_ascii_digit : goal.returns-then-not-is_ascii_digit
returns-then-not-is_ascii_digit c = λ bytes more last are m other. foreign c.args.most c.args.byte last c.args.self bytes more c.requires.most (sym c.is_ascii_digit.ensures.value ∙ c.if-not-is_ascii_digit.true) are m other

pub returns-then-is_zero : goal.returns-then-is_zero
returns-then-is_zero c = λ bytes more last are m other. leading_zero c.args.most c.args.byte last c.args.self bytes more c.requires.most (sym c.is_ascii_digit.ensures.value ∙ c.if-not-is_ascii_digit.false) (sym c.is_zero.ensures ∙ c.if-is_zero.true) are m

pub returns-then-value-most : goal.returns-then-value-most
returns-then-value-most c = λ bytes more last are m other. too_large c.args.most c.args.byte last c.args.self bytes more c.requires.most (sym c.is_ascii_digit.ensures.value ∙ c.if-not-is_ascii_digit.false) (sym c.is_zero.ensures ∙ c.if-is_zero.false) c.if-value-most.true are m

pub returns : goal.returns
returns c = λ bytes are. goes_on c.args.most c.args.byte c.args.self bytes c.requires.most (sym c.is_ascii_digit.ensures.value ∙ c.if-not-is_ascii_digit.false) (sym c.is_zero.ensures ∙ c.if-is_zero.false) c.if-value-most.false are
