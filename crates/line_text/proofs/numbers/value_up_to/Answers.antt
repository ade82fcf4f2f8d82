use Rattle.std.proofs.Common.{arith, min}
use Rattle.std.specs.Str.Parse.{digits_value}
use Rattle.line_text.proofs.NumberSteps.{capped_more}
use Rattle.line_text.proofs.numbers.value_up_to.Goals as goal

pub loop-digit-preserved : goal.loop-digit-preserved
loop-digit-preserved c =
    capped_more c.args.cap c.loop-digit.number c.with_digit_up_to-number.result (min (digits_value 10 c.args.digits.now) c.args.cap) c.loop-digit.digit-index c.args.digits.now
    (omega arith) c.loop-digit.invariant c.with_digit_up_to-number.ensures
