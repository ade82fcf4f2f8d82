-- What setting words of an array makes of the arrays of all ranks.
use Rattle.std.specs.Prelude.{◌≡◌, ℕ, ◌==◌, ◌&&◌, not, List, slice_get, Option, Some, None, Result, Ok, Err}
use Rattle.line_text.specs.FaultTables.{when}
use Rattle.descriptor.specs.Bounds.{part}
use Rattle.descriptor.specs.declared.spread.Spread.{Spread}
use Rattle.mm_text.specs.declared.cells.Whole.{Whole}
use Rattle.msg_core.specs.Plans.{PlanView}
use Rattle.pack_words.specs.declared.rank_op.RankOp.{RankOp}
use Rattle.pack_words.specs.LocalCells.{LocalCells}
use Rattle.program_meaning.specs.declared.fault.ExecFault.{ExecFault}
use Rattle.program_meaning.specs.declared.fault.ExecFault.TheVariants as fault
use Rattle.program_meaning.specs.Filling.{Filling}
use Rattle.program_meaning.specs.Declarations.{filled}
use Rattle.line_plans.specs.declared.declared.Declared.{Declared}
use Rattle.line_plans.specs.Standing.{state_of}
use Rattle.grid_exec.specs.Holding.{resting, HoldsArrays}

-- FILL leaves these arrays
pub record IsFilledTo (d : Declared) (f : Filling) (array : ℕ) (old new : List (List LocalCells)) : Type 0 where
  pub holds : HoldsArrays d.shapes new
  pub done : (p : PlanView RankOp) → state_of d p (resting new) ≡ filled f array (slice_get d.spreads.items array) (state_of d p (resting old))

-- the fault of a matrix of another size than the array
abbrev pub size_fault : Whole → Spread → Option ExecFault
size_fault m spread = when (not (m.rows == part spread.desc.m && m.columns == part spread.desc.n)) (fault.Size m.rows m.columns (part spread.desc.m) (part spread.desc.n))

abbrev pub fault_in : Result (Unit {0}) ExecFault → Option ExecFault
fault_in (Ok done) = None
fault_in (Err f) = Some f
