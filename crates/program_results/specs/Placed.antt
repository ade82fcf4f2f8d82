-- Where the matrix of an ARRAY lies, and the matrices that are written of it.
use Rattle.std.specs.Prelude.{ℕ, ◌/◌, ◌%◌, List, [], Option, None, Some, map, slice_get, slice_index_or}
use Rattle.proc_grid.specs.Grid.{Grid}
use Rattle.proc_grid.specs.Held.{context_at}
use Rattle.index_tools.specs.Home.{Layout}
use Rattle.descriptor.specs.Good.{layout_of}
use Rattle.descriptor.specs.declared.spread.Spread.{Spread}
use Rattle.pack_words.specs.LocalCells.{LocalCells, zeros}
use Rattle.mm_grammar.specs.Matrix.{Matrix}
use Rattle.mm_text.specs.LocalMatrix.{local_matrix}
use Rattle.mr2d.specs.Homes.{Arrays, cells_of}
use Rattle.spread_cells.specs.Joining.{joined}
use Rattle.piece_grammar.specs.Head.{Head}
use Rattle.piece_grammar.specs.PlainPiece.{piece_text}
use Rattle.program_meaning.specs.ProgramState.{or_no_grid}

-- how a matrix is spread over a grid, and the ranks of the grid, row by row
pub record Placed : Type 0 where
  pub layout : Layout
  pub ranks : List ℕ

-- of an ARRAY; a MATRIX isn't spread
abbrev pub placed_of : List Grid → Option Spread → Option Placed
placed_of grids None = None
placed_of grids (Some spread) = let g = or_no_grid (context_at grids spread.desc.ctxt) in Some (record { layout = layout_of spread g; ranks = g.ranks })

-- the place of the array of that number; one that isn't an ARRAY has no elements
abbrev pub nowhere : Placed
nowhere = record { layout = record { rows = 0; columns = 0; mb = 0; nb = 0; rsrc = 0; csrc = 0; nprow = 0; npcol = 0 }; ranks = [] }

abbrev pub or_nowhere : Option (Option Placed) → Placed
or_nowhere None = nowhere
or_nowhere (Some None) = nowhere
or_nowhere (Some (Some x)) = x

abbrev pub placed_at : List (Option Placed) → ℕ → Placed
placed_at places array = or_nowhere (slice_get places array)

-- the arrays of that number on these ranks
abbrev pub arrays_on : Arrays → ℕ → List ℕ → List LocalCells
arrays_on arrays array ranks = map (λ rank. cells_of arrays rank array) ranks

-- the whole matrix: each element is the word at its home
abbrev pub whole_matrix : Arrays → ℕ → Placed → Matrix
whole_matrix arrays array x = joined x.layout (arrays_on arrays array x.ranks)

-- process k of the grid, counted by rows, stands in this process row and column
abbrev pub row_of : Layout → ℕ → ℕ
row_of l k = k / l.npcol

abbrev pub column_of : Layout → ℕ → ℕ
column_of l k = k % l.npcol

-- what the piece of process k says of its place, where its local array has this leading dimension
abbrev pub head_of : Layout → (k lld : ℕ) → Head
head_of l k lld = record {
  nprow = l.nprow;
  npcol = l.npcol;
  prow = row_of l k;
  pcol = column_of l k;
  m = l.rows;
  n = l.columns;
  mb = l.mb;
  nb = l.nb;
  rsrc = l.rsrc;
  csrc = l.csrc;
  lld = lld;
}

-- the local array of process k
abbrev pub cells_on : Arrays → ℕ → Placed → ℕ → LocalCells
cells_on arrays array x k = slice_index_or (arrays_on arrays array x.ranks) k (zeros 1 0)

-- the text of its piece
unfoldable pub text_of_piece : Layout → ℕ → LocalCells → List ℕ
text_of_piece l k cells = piece_text (head_of l k cells.lld) (local_matrix cells)
