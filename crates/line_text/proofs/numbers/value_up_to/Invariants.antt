use Rattle.std.proofs.Common.{min, drop}
use Rattle.std.specs.Str.Parse.{digits_value}
use Rattle.line_text.proofs.NumberSteps.{IsOn}
use Rattle.line_text.proofs.numbers.value_up_to.Given as goal

abbrev pub invariant-loop-digit : goal.invariant-loop-digit
invariant-loop-digit l = IsOn l.cap l.number (min (digits_value 10 l.digits) l.cap) (drop l.digit-index l.digits)
