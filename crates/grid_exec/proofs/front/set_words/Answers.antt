use Rattle.std.proofs.Common.{◌≡◌}
use Rattle.grid_exec.specs.Reading.{standing}
use Rattle.grid_exec.proofs.FrontLines.{known_load, known_fill, load_line_filled, fill_line_filled}
use Rattle.grid_exec.proofs.front.set_words.Goals as goal

pub load-requires : goal.load-requires
load-requires g c = known_load c.args.held.declared c.args.l.now.line c.in-Load.array c.in-Load.file c.in-Load.is c.requires.known

pub fill-requires : goal.fill-requires
fill-requires g c = known_fill c.args.held.declared c.args.l.now.line c.in-Fill.array c.in-Fill.a c.in-Fill.b c.in-Fill.c c.in-Fill.d c.in-Fill.is c.requires.known

pub returns-in-Load-clause-done : goal.returns-in-Load-clause-done
returns-in-Load-clause-done g c = λ before reads.
    load_line_filled c.load.result before c.args.l.now c.in-Load.array c.in-Load.file c.args.plan.now (standing c.args.held c.args.plan.now) c.in-Load.is (c.load.ensures.done before c.args.plan.now reads)

pub returns-in-Ok-clause-done : goal.returns-in-Ok-clause-done
returns-in-Ok-clause-done g c = λ before reads.
    fill_line_filled before c.args.l.now c.in-Fill.array c.in-Fill.a c.in-Fill.b c.in-Fill.c c.in-Fill.d c.filling_of-filling.result c.args.plan.now c.args.held c.in-Ok.held c.in-Fill.is c.filling_of-filling.ensures (c.in-Ok.ensures.done c.args.plan.now)
