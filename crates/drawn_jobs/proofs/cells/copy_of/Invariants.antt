use Rattle.std.proofs.Common.{◌≡◌, ◌*◌, take}
use Rattle.drawn_jobs.proofs.cells.copy_of.Given as goal

abbrev pub invariant-loop-j : goal.invariant-loop-j
invariant-loop-j l = record { words : l.words.items ≡ take (l.j * l.cells.lld) l.cells.words }
