-- What planning a program answers.
use Rattle.std.specs.Prelude.{◌≡◌, IsTrue, List, Result, Ok, Err}
use Rattle.store_io.specs.Outside.{Outside}
use Rattle.mm_text.specs.Loading.{Refuses}
use Rattle.grid_lang.specs.declared.line.Numbered.{Numbered}
use Rattle.program_meaning.specs.ProgramState.{ProgramState, begun}
use Rattle.program_meaning.specs.WithFiles.{Reaches, IsRefusedAt, IsReadAt}
use Rattle.grid_exec.specs.declared.err.ExecErr.{ExecErr}
use Rattle.grid_exec.specs.declared.err.ExecErr.TheVariants as err
use Rattle.grid_exec.specs.JobView.{JobView}
use Rattle.grid_exec.specs.Jobs.{IsJobOf}
use Rattle.grid_exec.specs.Reading.{IsOfFile}

-- the job of the state that the program leaves; or its first refused line; or the first LOAD line whose file gives no matrix, with the reason. Out of memory may stand in the place of any answer
abbrev pub IsProgramAnswer : Result JobView ExecErr → Outside → List Numbered → Type 0
IsProgramAnswer (Ok job) store program = (s : ProgramState) × Reaches store (begun 0) program s × IsJobOf job s program
IsProgramAnswer (Err (err.Bad number fault)) store program = IsRefusedAt store program number fault
IsProgramAnswer (Err (err.Load name e)) store program = IsReadAt store program name × (IsTrue store.told → Refuses e store.files name) × IsOfFile e
IsProgramAnswer (Err err.NoMemory) store program = Unit {0}
