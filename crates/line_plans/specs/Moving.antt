-- What is known of a move's arguments, and what its call answers.
use Rattle.std.specs.Prelude.{◌≡◌, ℕ, Some, Result, Ok, Err, slice_get, pos, OnOk}
use Rattle.std.specs.List.{find}
use Rattle.proc_grid.specs.Grid.{Grid, IsGrid}
use Rattle.proc_grid.specs.Held.{context_at}
use Rattle.descriptor.specs.declared.spread.Spread.{Spread}
use Rattle.descriptor.specs.declared.moves.MrArgs.{MrArgs}
use Rattle.descriptor.specs.declared.moves.Moved.{Moved}
use Rattle.descriptor.specs.declared.moves.MrErr.{MrErr}
use Rattle.descriptor.specs.declared.moves.MrErr.TheVariants as mr_err
use Rattle.msg_core.specs.Plans.{PlanView}
use Rattle.pack_words.specs.declared.rank_op.RankOp.{RankOp}
use Rattle.pack_words.specs.GridState.{GridState}
use Rattle.pack_words.specs.GridShapes.{ShapesView}
use Rattle.pack_words.specs.GridPlans.{IsOf}
use Rattle.grid_lang.specs.declared.line.Mr.{Mr}
use Rattle.program_meaning.specs.declared.fault.ExecFault.TheVariants as fault
use Rattle.program_meaning.specs.ProgramState.{or_no_spread}
use Rattle.program_meaning.specs.Exchanges.{waits, pairs_between}
use Rattle.line_plans.specs.declared.declared.Declared.{Declared}
use Rattle.line_plans.specs.declared.halt.Halt.{Halt}
use Rattle.line_plans.specs.declared.halt.Halt.TheVariants.{Fault, NoMemory}
use Rattle.program_meaning.specs.Sound.{IsSpreadOut}
use Rattle.line_plans.specs.Standing.{IsCounted}
use Rattle.line_plans.specs.Waits.{IsHeldUp, AreQuiet}

-- the arguments of a move line
abbrev pub arguments : Declared → Mr → MrArgs
arguments d mr = record {
  m = mr.m;
  n = mr.n;
  a = mr.a;
  ia = mr.ia;
  ja = mr.ja;
  desca = or_no_spread (slice_get d.spreads.items mr.a);
  b = mr.b;
  ib = mr.ib;
  jb = mr.jb;
  descb = or_no_spread (slice_get d.spreads.items mr.b);
  ictxt = pos mr.grid;
}

-- the line's two arrays are declared with a spread
abbrev pub AreSpread : Declared → Mr → Type 0
AreSpread d mr = ((s : Spread) × (slice_get d.spreads.items mr.a ≡ Some (Some s))) × ((s : Spread) × (slice_get d.spreads.items mr.b ≡ Some (Some s)))

-- they are those, of two arrays that are spread
pub record ArgsAre (d : Declared) (args : MrArgs) (mr : Mr) : Type 0 where
  pub args_are : args ≡ arguments d mr
  pub source : IsSpreadOut d.contexts d.shapes args.a args.desca
  pub target : IsSpreadOut d.contexts d.shapes args.b args.descb

-- what a call's answer makes of its line's
abbrev pub IsMoveAnswer : Result Moved MrErr → Result (Unit {0}) Halt → ℕ → Type 0
IsMoveAnswer (Ok moved) r words = IsCounted r words
IsMoveAnswer (Err (mr_err.Info i)) r words = r ≡ Err (Fault (fault.Info i))
IsMoveAnswer (Err mr_err.SameArray) r words = r ≡ Err (Fault fault.SameArray)
IsMoveAnswer (Err mr_err.TooManyOps) r words = r ≡ Err (Fault fault.TooManyOps)
IsMoveAnswer (Err mr_err.NoMemory) r words = r ≡ Err NoMemory

-- of the grids of a move's arrays no message waits, or the first that does is told
pub record IsMoveQuiet (r : Result (Unit {0}) Halt) (d : Declared) (p : PlanView RankOp) (args : MrArgs) : Type 0 where
  pub quiet : (a b : Grid) → context_at d.contexts args.desca.desc.ctxt ≡ Some a → context_at d.contexts args.descb.desc.ctxt ≡ Some b → OnOk r (AreQuiet p a.ranks b.ranks × IsGrid a × IsGrid b)
  pub done : (a b : Grid) → context_at d.contexts args.desca.desc.ctxt ≡ Some a → context_at d.contexts args.descb.desc.ctxt ≡ Some b → (v : ShapesView) (state : GridState) → IsOf v p state → IsHeldUp r (find (waits state) (pairs_between a.ranks b.ranks))
