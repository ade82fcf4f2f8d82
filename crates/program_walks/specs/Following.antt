-- With what status and line a command stops that can't read a program, or can't do a line of it.
use Rattle.std.specs.Prelude.{ℕ, List}
use Rattle.program_file.specs.declared.reading.ProgramErr.{ProgramErr}
use Rattle.program_file.specs.declared.reading.ProgramErr.TheVariants.{Missing, Failed, Bad, NoMemory}
use Rattle.tool_lines.specs.Texts.{missing, store_fault, at_line, out_of_memory}
use Rattle.command_walks.specs.declared.status.Status.{Status}
use Rattle.command_walks.specs.declared.status.Status.TheVariants as status
use Rattle.program_walks.specs.ProgramTexts.{lang_fault_text}

abbrev pub program_status : ProgramErr → Status
program_status Missing = status.Store
program_status Failed = status.Store
program_status (Bad line what) = status.Refused
program_status NoMemory = status.NoMemory

abbrev pub program_line : (name : List ℕ) → ProgramErr → List ℕ
program_line name Missing = missing name
program_line name Failed = store_fault name
program_line name (Bad line what) = at_line name line (lang_fault_text what)
program_line name NoMemory = out_of_memory
