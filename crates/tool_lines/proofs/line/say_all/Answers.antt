use Rattle.std.proofs.Common.{◌<◌, IsTrue, length, sym, subst, ◌∙◌, arith}
use Rattle.tool_lines.proofs.PartsLaws.{one_said, part_failed}
use Rattle.tool_lines.proofs.line.say_all.Goals as goal

pub returns-in-Err-clause-says : goal.returns-in-Err-clause-says
returns-in-Err-clause-says g c = λ told.
    let lt : c.loop-part.part-index < length c.args.parts.now = omega (arith, c.loop-part-test.true) in
    part_failed (g.E.Sink.state c.args.err.now) (g.E.Sink.state c.loop-part.err) (g.E.Sink.state c.say_part.new.err) c.args.parts.now c.loop-part.part-index _ lt (c.loop-part.invariant.said told) (c.in-Err.ensures.says (subst IsTrue (sym c.loop-part.invariant.told) told))

pub loop-part-preserved : goal.loop-part-preserved
loop-part-preserved g c =
    let lt : c.loop-part.part-index < length c.args.parts.now = omega (arith, c.loop-part-test.true) in
    record {
      told = c.in-Ok.ensures.tells.told ∙ c.loop-part.invariant.told;
      faults = c.in-Ok.ensures.tells.faults ∙ c.loop-part.invariant.faults;
      said = λ told. one_said (g.E.Sink.state c.args.err.now) (g.E.Sink.state c.loop-part.err) (g.E.Sink.state c.say_part.new.err) c.args.parts.now c.loop-part.part-index _ lt (c.loop-part.invariant.said told) (c.in-Ok.ensures.says (subst IsTrue (sym c.loop-part.invariant.told) told));
    }
