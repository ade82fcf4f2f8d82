-- What `check` and `run` leave of a program that was read, or wasn't.
use Rattle.std.proofs.Common.{ℕ, IsTrue, List, Option, Result}
use Rattle.store_io.specs.Outside.{Outside, Poured}
use Rattle.grid_lang.specs.declared.line.Numbered.{Numbered}
use Rattle.program_file.specs.declared.reading.ProgramErr.{ProgramErr}
use Rattle.program_file.specs.declared.reading.ProgramErr.TheVariants as program
use Rattle.command_walks.specs.Walk.{Walk, Comes}
use Rattle.command_walks.specs.Following.{ReadsOn, StopsWith}
use Rattle.program_walks.specs.ProgramWalks.{program_walk}
use Rattle.program_walks.specs.Following.{program_status, program_line}
use Rattle.file_tools.specs.Causes.{of_program}
use Rattle.file_tools.specs.Troubles.{Follows, Stops}
use Rattle.file_tools.specs.declared.trouble.Trouble.{Trouble}
use Rattle.file_tools.proofs.FollowLaws.{follows_by}

-- what a command leaves of a program that was read
pub read_on : {X : Type 0} (r : Result X Trouble) (name : List ℕ) (next : List Numbered → Walk) (lines : List Numbered) (names : Option (List (List ℕ))) (old mid new : Outside) (before after : Poured)
    → ((f : List Numbered → Walk) → IsTrue old.told → Comes (program_walk name f) old.files (f lines)) → ReadsOn old mid → Follows r (next lines) names mid new before after → Follows r (program_walk name next) names old new before after
read_on r name next lines names old mid new before after comes on then = follows_by r (program_walk name next) (next lines) names old mid new before after (comes next) on then

-- and of one that wasn't
pub program_stops : (e : ProgramErr) (name : List ℕ) (next : List Numbered → Walk) (names : Option (List (List ℕ))) (old new : Outside)
    → ((f : List Numbered → Walk) (ns : Option (List (List ℕ))) → StopsWith (program_status e) (program_line name e) (program_walk name f) ns old new) → Stops (of_program name e) (program_walk name next) names old new
program_stops program.Missing name next names old new stops = stops next names
program_stops program.Failed name next names old new stops = stops next names
program_stops (program.Bad line what) name next names old new stops = stops next names
program_stops program.NoMemory name next names old new stops = stops next names
