use Rattle.std.proofs.Common.{take, FitsSigned}
use Rattle.std.specs.List.{AllByRecursion}
use Rattle.std.specs.Int.{w32}
use Rattle.drawn_jobs.proofs.cells.each_fits.Given as goal

abbrev pub invariant-loop-word : goal.invariant-loop-word
invariant-loop-word l = AllByRecursion (FitsSigned w32) (take l.word-index l.words)
