use Rattle.std.proofs.Common.{◌≡◌}
use Rattle.file_tools.specs.Lists.{texts_of, names_by}
use Rattle.file_tools.proofs.names.piece_names.Given as goal

abbrev pub invariant-loop-k : goal.invariant-loop-k
invariant-loop-k l = texts_of l.names.items ≡ names_by l.prefix l.npcol l.k
