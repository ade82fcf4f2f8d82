use Rattle.std.proofs.Common.{arith}
use Rattle.std.proofs.lemmas.Bool.Decides.{nat_tests}
use Rattle.index_tools.specs.Spread.{spread}
use Rattle.index_tools.proofs.Counts.{below_formula}
use Rattle.index_tools.proofs.indices.numroc.Goals as goal

pub returns-then-distance-last-clause-count : goal.returns-then-distance-last-clause-count
returns-then-distance-last-clause-count c = grind (arith, nat_tests, below_formula (spread c.args.nb c.args.isrcproc c.args.nprocs) c.args.iproc c.args.n c.requires.block c.requires.source c.requires.process)

pub returns-then-distance-last-2-clause-count : goal.returns-then-distance-last-2-clause-count
returns-then-distance-last-2-clause-count c = grind (arith, nat_tests, below_formula (spread c.args.nb c.args.isrcproc c.args.nprocs) c.args.iproc c.args.n c.requires.block c.requires.source c.requires.process)

pub returns-else-distance-last-2-clause-count : goal.returns-else-distance-last-2-clause-count
returns-else-distance-last-2-clause-count c = grind (arith, nat_tests, below_formula (spread c.args.nb c.args.isrcproc c.args.nprocs) c.args.iproc c.args.n c.requires.block c.requires.source c.requires.process)
