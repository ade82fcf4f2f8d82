use Rattle.std.proofs.Common.{take}
use Rattle.std.specs.FinMap.{empty}
use Rattle.store_io.specs.Entries.{files_of}
use Rattle.store_io.proofs.EntryLaws.{Found}
use Rattle.store_io.proofs.entries.find.Given as goal

abbrev pub invariant-loop-entry : goal.invariant-loop-entry
invariant-loop-entry l = Found l.heap (files_of empty l.heap (take l.entry-index l.entries)) l.name l.found
