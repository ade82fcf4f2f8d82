use Rattle.std.proofs.Common.{◌∙◌, sym, ap, arith}
use Rattle.std.specs.Str.{all_ascii_digits}
use Rattle.tool_words.proofs.NumberLaws.{number_long, number_unlike, number_parsed, number_unparsed}
use Rattle.tool_words.proofs.numbers.long_number.Goals as goal

pub returns-then-text-gt20 : goal.returns-then-text-gt20
returns-then-text-gt20 c = sym (number_long _ _ c.args.text.now (omega arith))

pub returns-then-not-is_digits : goal.returns-then-not-is_digits
returns-then-not-is_digits c =
    let unlike = ap all_ascii_digits (sym c.as_bytes.ensures.value) ∙ sym c.if-not-is_digits.ensures in
    sym (number_unlike _ _ c.args.text.now (omega arith) unlike)

pub returns-in-Ok : goal.returns-in-Ok
returns-in-Ok c =
    let digits = ap all_ascii_digits (sym c.as_bytes.ensures.value) ∙ sym c.if-not-is_digits.ensures in
    c.within.ensures ∙ sym (number_parsed _ _ _ c.args.text.now c.parse.result c.in-Ok.is (omega arith) digits c.parse.ensures.value.0)

pub returns-in-Err : goal.returns-in-Err
returns-in-Err c =
    let digits = ap all_ascii_digits (sym c.as_bytes.ensures.value) ∙ sym c.if-not-is_digits.ensures in
    sym (number_unparsed _ _ c.args.text.now c.parse.result _ c.in-Err.is (omega arith) digits (omega arith) c.parse.ensures.value.0)
