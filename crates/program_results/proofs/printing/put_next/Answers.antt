use Rattle.std.proofs.Common.{[], ◌∷◌}
use Rattle.std.specs.Fmt.{signed_decimal}
use Rattle.program_results.specs.Printing.{value_at}
use Rattle.program_results.proofs.PouringLaws.{front_more}
use Rattle.program_results.proofs.printing.put_next.Goals as goal

pub returns-in-Err-clause-pours : goal.returns-in-Err-clause-pours
returns-in-Err-clause-pours g c = λ told. front_more (g.O.Sink.state c.args.out.now) (g.O.Sink.state c.put.new.out) c.args.pen.now (32 ∷ []) (signed_decimal (value_at (g.C.Cells.matrix c.args.cells.now) c.args.i c.args.j)) (c.in-Err.ensures.pours told)
