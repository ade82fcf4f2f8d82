-- What reading a part of a file does to a store.
use Rattle.std.specs.Prelude.{Result, Ok, Err}
use Rattle.store_io.specs.Outside.{Outside, HasFailed}
use Rattle.text_io.specs.Reading.{OnlyReads, SameButLeft}
use Rattle.text_io.specs.declared.halt.Halt.{Halt}
use Rattle.text_io.specs.declared.halt.Halt.TheVariants.{Bad, Failed, Memory}

-- what a halt does to a store
abbrev pub Leaves : {E : Type 0} → Halt E → Outside → Outside → Type 0
Leaves (Bad e) old new = SameButLeft old new
Leaves Failed old new = OnlyReads old new × HasFailed old new
Leaves Memory old new = SameButLeft old new

-- reading a part of a file
abbrev pub Reads : {X E : Type 0} → Result X (Halt E) → Outside → Outside → Type 0
Reads (Ok x) old new = SameButLeft old new
Reads (Err halt) old new = Leaves halt old new
