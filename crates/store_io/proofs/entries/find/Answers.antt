use Rattle.store_io.proofs.EntryLaws.{found_none}
use Rattle.store_io.proofs.entries.find.Goals as goal

pub loop-entry-init : goal.loop-entry-init
loop-entry-init c = found_none _ c.args.entries.now _
