use Rattle.std.proofs.Common.{[], ◌∷◌}
use Rattle.std.specs.Fmt.{decimal}
use Rattle.program_results.proofs.PouringLaws.{front_more}
use Rattle.program_results.proofs.printing.put_number.Goals as goal

pub returns-in-Err-clause-pours : goal.returns-in-Err-clause-pours
returns-in-Err-clause-pours g c = λ told. front_more (g.O.Sink.state c.args.out.now) (g.O.Sink.state c.put.new.out) c.args.pen.now (32 ∷ []) (decimal c.args.number) (c.in-Err.ensures.pours told)
