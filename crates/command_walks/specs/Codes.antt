-- The exit status of the program.
use Rattle.std.specs.Prelude.{ℕ}
use Rattle.command_walks.specs.declared.status.Status.{Status}
use Rattle.command_walks.specs.declared.status.Status.TheVariants.{Done, Refused, Words, Store, NoMemory, Sink}

abbrev pub code_of : Status → ℕ
code_of Done = 0
code_of Refused = 1
code_of Words = 2
code_of Store = 3
code_of NoMemory = 4
code_of Sink = 5
