-- Taking the bytes of an open input, a piece at a time.
use Rattle.std.specs.Prelude.{◌≡◌, ℕ, ◌<◌, ◌≤◌, List, [], ◌++◌, length, Bool, true, false, Result, Ok, Err}
use Rattle.store_io.specs.Outside.{Outside, HasFailed}
use Rattle.text_io.specs.Reading.{SameButLeft, OnlyReads}
use Rattle.program_file.specs.declared.bytes.Halt.{Halt}
use Rattle.program_file.specs.declared.bytes.Halt.TheVariants.{Failed, NoMemory}

-- why taking bytes stopped, and what it leaves as it was
abbrev pub Stops : Halt → Outside → Outside → Type 0
Stops Failed old new = OnlyReads old new × HasFailed old new
Stops NoMemory old new = SameButLeft old new

abbrev pub Takes : {X : Type 0} → Result X Halt → Outside → Outside → Type 0
Takes (Ok x) old new = SameButLeft old new
Takes (Err halt) old new = Stops halt old new

-- the bytes that are gathered and those that are left are the same, and there are more of the first; or the input has ended
abbrev pub Gathers : Bool → (old new : List ℕ) → (left rest : List ℕ) → Type 0
Gathers true old new left rest = new ++ rest ≡ old ++ left
Gathers false old new left rest = (new ≡ old) × (left ≡ []) × (rest ≡ [])
