-- What a program has declared and done so far.
use Rattle.std.specs.Prelude.{ℕ, ◌^◌, nat_lt, List, [], Option, None, Some, replicate, ℤ, pos, slice_get}
use Rattle.line_text.specs.FaultTables.{when}
use Rattle.proc_grid.specs.Grid.{Grid}
use Rattle.proc_grid.specs.Held.{context_at}
use Rattle.descriptor.specs.declared.spread.Spread.{Spread}
use Rattle.pack_words.specs.GridState.{GridState}
use Rattle.pack_words.specs.GridShapes.{ShapesView}
use Rattle.program_meaning.specs.declared.fault.ExecFault.{ExecFault}
use Rattle.program_meaning.specs.declared.fault.ExecFault.TheVariants as fault

-- Grids and arrays have numbers, in the order of declaration: grids by themselves, ARRAY and MATRIX together.
pub record ProgramState : Type 0 where
  pub grids : List Grid
  -- the sizes of every array on every rank
  pub shapes : ShapesView
  -- how each ARRAY is spread; a MATRIX isn't
  pub spreads : List (Option Spread)
  -- the arrays of all ranks, and the messages that wait
  pub state : GridState
  -- all operations and messages so far, and all words of the arrays and of the messages so far
  pub operations : ℕ
  pub messages : ℕ
  pub words : ℕ

-- so many ranks, no grid, no array, no message
abbrev pub begun : ℕ → ProgramState
begun ranks = record {
  grids = [];
  shapes = record { ranks = ranks; count = 0; sizes = [] };
  spreads = [];
  state = record { arrays = replicate ranks []; waits = λ from to. [] };
  operations = 0;
  messages = 0;
  words = 0;
}

-- the grid of that number; one that isn't declared has no places
abbrev pub or_no_grid : Option Grid → Grid
or_no_grid None = record { nprow = 0; npcol = 0; ranks = [] }
or_no_grid (Some g) = g

abbrev pub grid_at : ProgramState → ℤ → Grid
grid_at s n = or_no_grid (context_at s.grids n)

-- how the array of that number is spread; of one that isn't an ARRAY nothing is told, and no check passes it
abbrev pub no_spread : Spread
no_spread = record { desc = record { dtype = pos 0; ctxt = pos 0; m = pos 0; n = pos 0; mb = pos 0; nb = pos 0; rsrc = pos 0; csrc = pos 0; lld = pos 0 }; llds = [] }

abbrev pub or_no_spread : Option (Option Spread) → Spread
or_no_spread None = no_spread
or_no_spread (Some None) = no_spread
or_no_spread (Some (Some spread)) = spread

abbrev pub spread_at : ProgramState → ℕ → Spread
spread_at s array = or_no_spread (slice_get s.spreads array)

-- the most words of a job, and the fault of more
abbrev pub large_fault : ℕ → Option ExecFault
large_fault words = when (nat_lt (2 ^ 26) words) (fault.TooLarge words)
