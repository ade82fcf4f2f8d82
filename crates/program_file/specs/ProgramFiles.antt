-- The program of a file, and why there is none.
use Rattle.std.specs.Prelude.{◌≡◌, ℕ, List, Some, None, Result, Ok, Err, take, drop}
use Rattle.std.specs.FinMap.{get}
use Rattle.store_io.specs.Outside.{Outside, Files, SameCounts, HasFailed, HasMissed}
use Rattle.line_text.specs.Formats.{read_text}
use Rattle.grid_lang.specs.declared.line.Numbered.{Numbered}
use Rattle.grid_lang.specs.Programs.{grid_format, IsProgramText, IsProgramFault}
use Rattle.grid_lang.specs.Answers.{fault_at}
use Rattle.program_file.specs.declared.reading.ProgramErr.{ProgramErr}
use Rattle.program_file.specs.declared.reading.ProgramErr.TheVariants.{Missing, Failed, Bad, NoMemory}

-- the most bytes of a file that are looked at: 4,096 lines of 1,024 bytes, each with a carriage return and a line end, and one byte more
unfoldable pub most_bytes : ℕ
most_bytes = 4202497

-- They decide: a longer file has a line that passes a limit, or an earlier fault, among them.
abbrev pub AreEnough : Type 0
AreEnough = (bytes : List ℕ) → read_text grid_format (take most_bytes bytes) ≡ read_text grid_format bytes

-- the file is held, and its bytes are so
abbrev pub Holds : Files → List ℕ → (List ℕ → Type 0) → Type 0
Holds files name P = (bytes : List ℕ) × (get files name ≡ Some bytes) × P bytes

-- what each answer says of the files of a store that tells
abbrev pub IsUnread : ProgramErr → Files → List ℕ → Type 0
IsUnread Missing files name = get files name ≡ None
IsUnread (Bad line what) files name = Holds files name (λ bytes. IsProgramFault bytes (fault_at line what))
IsUnread Failed files name = Unit {0}
IsUnread NoMemory files name = Unit {0}

abbrev pub IsRead : Result (List Numbered) ProgramErr → Files → List ℕ → Type 0
IsRead (Ok program) files name = Holds files name (λ bytes. IsProgramText bytes program)
IsRead (Err e) files name = IsUnread e files name

-- no byte after the most was read
abbrev pub IsReadSoFar : Result (List Numbered) ProgramErr → Files → List ℕ → (left : List ℕ) → Type 0
IsReadSoFar (Ok program) files name left = Holds files name (λ bytes. left ≡ drop most_bytes bytes)
IsReadSoFar (Err (Bad line what)) files name left = Holds files name (λ bytes. left ≡ drop most_bytes bytes)
IsReadSoFar (Err other) files name left = Unit {0}

-- why each answer came, by the counts
abbrev pub Because : ProgramErr → Outside → Outside → Type 0
Because Missing old new = HasMissed old new
Because Failed old new = HasFailed old new
Because (Bad line what) old new = SameCounts old new
Because NoMemory old new = SameCounts old new

abbrev pub HasReason : {X : Type 0} → Result X ProgramErr → Outside → Outside → Type 0
HasReason (Ok x) old new = SameCounts old new
HasReason (Err e) old new = Because e old new
