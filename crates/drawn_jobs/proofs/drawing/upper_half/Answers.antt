-- The upper half has 32 bits.
use Rattle.std.proofs.Common.{◌/◌, ◌∙◌, arith, rules, FitsSigned, to_z-of_z}
use Rattle.std.specs.Int.{w32}
use Rattle.drawn_jobs.proofs.DrawingLaws.{wrapped}
use Rattle.drawn_jobs.proofs.drawing.upper_half.Goals as goal

pub returns : goal.returns
returns c =
    let fits : FitsSigned w32 c.cast_signed.result = search rules in
    to_z-of_z fits ∙ c.cast_signed.ensures ∙ wrapped (c.args.state / 4294967296) (omega (arith, c.ranges.state.fits))
