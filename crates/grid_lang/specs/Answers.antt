-- What the reader of programs answers.
use Rattle.std.specs.Prelude.{◌≡◌, ℕ, List, Result, Ok, Err}
use Rattle.line_text.specs.Formats.{Refusal}
use Rattle.grid_lang.specs.declared.fault.LangFault.{LangFault}
use Rattle.grid_lang.specs.declared.fault.LangErr.{LangErr}
use Rattle.grid_lang.specs.declared.fault.LangErr.TheVariants as err
use Rattle.grid_lang.specs.declared.halt.Halt.{Halt}
use Rattle.grid_lang.specs.declared.halt.Halt.TheVariants as halt
use Rattle.grid_lang.specs.declared.line.Numbered.{Numbered}
use Rattle.grid_lang.specs.Programs.{IsProgramFault}

-- a fault and its line
abbrev pub fault_at : ℕ → LangFault → Refusal LangFault
fault_at n what = record { line = n; fault = what }

-- the error of a halt at a line
abbrev pub IsStop : LangErr → ℕ → Halt → Type 0
IsStop e n (halt.Bad what) = e ≡ err.Bad n what
IsStop e n halt.NoMemory = e ≡ err.NoMemory

-- it is what the text is read to, or out of memory
abbrev pub IsRead : Result (List Numbered) (Refusal LangFault) → Result (List Numbered) LangErr → Type 0
IsRead asked (Ok program) = asked ≡ Ok program
IsRead asked (Err (err.Bad n what)) = asked ≡ Err (fault_at n what)
IsRead asked (Err err.NoMemory) = Unit {0}

-- an error that isn't out of memory tells the fault of the bytes
abbrev pub TellsFault : List ℕ → LangErr → Type 0
TellsFault bytes (err.Bad n what) = IsProgramFault bytes (fault_at n what)
TellsFault bytes err.NoMemory = Unit {0}

-- the answer is this program, or out of memory
abbrev pub IsProgramOr : Result (List Numbered) LangErr → List Numbered → Type 0
IsProgramOr (Ok program) lines = program ≡ lines
IsProgramOr (Err (err.Bad n what)) lines = ⊥
IsProgramOr (Err err.NoMemory) lines = Unit {0}

-- the answer is this fault, or out of memory
abbrev pub IsFaultOr : Result (List Numbered) LangErr → Refusal LangFault → Type 0
IsFaultOr (Ok program) refusal = ⊥
IsFaultOr (Err (err.Bad n what)) refusal = fault_at n what ≡ refusal
IsFaultOr (Err err.NoMemory) refusal = Unit {0}
