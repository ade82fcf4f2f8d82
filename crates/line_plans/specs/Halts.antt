-- Refusals of calls as those of lines.
use Rattle.proc_grid.specs.declared.grid_err.GridErr.{GridErr}
use Rattle.proc_grid.specs.declared.grid_err.GridErr.TheVariants as grid_err
use Rattle.scope_ops.specs.declared.scope_err.ScopeErr.{ScopeErr}
use Rattle.scope_ops.specs.declared.scope_err.ScopeErr.TheVariants as scope_err
use Rattle.program_meaning.specs.declared.fault.ExecFault.TheVariants as fault
use Rattle.line_plans.specs.declared.halt.Halt.{Halt}
use Rattle.line_plans.specs.declared.halt.Halt.TheVariants.{Fault, NoMemory}

-- want of memory is told as such, every other refusal as the line's fault
abbrev pub scope_halt_of : ScopeErr → Halt
scope_halt_of scope_err.NoMemory = NoMemory
scope_halt_of e = Fault (fault.Scope e)

abbrev pub grid_halt_of : GridErr → Halt
grid_halt_of grid_err.NoMemory = NoMemory
grid_halt_of e = Fault (fault.Grid e)
