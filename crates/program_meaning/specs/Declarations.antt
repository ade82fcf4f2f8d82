-- What declarations do, and why one is refused.
use Rattle.std.specs.Prelude.{ℕ, ◌+◌, ◌*◌, ◌/◌, ◌^◌, ◌==◌, ◌&&◌, ◌||◌, not, nat_lt, max, List, [], ◌∷◌, ◌++◌, length, map, sum_by, replicate, slice_index, slice_index_or, Option, None, Some, Result, Ok, ℤ, pos}
use Rattle.std.specs.List.{range_with_len}
use Rattle.std.specs.Option.{option_map, option_or}
use Rattle.line_text.specs.FaultTables.{when, first_fault, unless_fault}
use Rattle.index_tools.specs.Home.{local_columns}
use Rattle.mm_grammar.specs.Matrix.{Matrix}
use Rattle.proc_grid.specs.FirstOf.{first_of}
use Rattle.proc_grid.specs.Grid.{Grid, place_of}
use Rattle.proc_grid.specs.Refusals.{shape_refusal, place_refusal, dealt_grid}
use Rattle.proc_grid.specs.declared.grid_err.GridErr.TheVariants.{BadLead}
use Rattle.proc_grid.specs.declared.world.Order.{Order}
use Rattle.descriptor.specs.Bounds.{part, least_lld}
use Rattle.descriptor.specs.Good.{layout_of, lld_of}
use Rattle.descriptor.specs.InfoOf.{info_of}
use Rattle.descriptor.specs.Entries.{descinit_entries}
use Rattle.descriptor.specs.declared.info.Info.{Info}
use Rattle.descriptor.specs.declared.spread.Spread.{Spread}
use Rattle.pack_words.specs.LocalCells.{LocalCells, zeros}
use Rattle.mr2d.specs.Calls.{spread_array}
use Rattle.program_meaning.specs.declared.fault.ExecFault.{ExecFault}
use Rattle.program_meaning.specs.declared.fault.ExecFault.TheVariants as fault
use Rattle.program_meaning.specs.ProgramState.{ProgramState, grid_at, spread_at, large_fault}
use Rattle.program_meaning.specs.Filling.{Filling, with_written, fills_array, fills_matrix, loads_matrix}

-- ---- grids

abbrev pub with_grid : Grid → ProgramState → ProgramState
with_grid g s = record s { grids = s.grids ++ g ∷ [] }

-- GRID: the ranks from 0 on, dealt out by rows or by columns
abbrev pub grid_line : Order → ℕ → ℕ → ProgramState → Result ProgramState ExecFault
grid_line order nprow npcol s = unless_fault (option_map fault.Grid (shape_refusal s.shapes.ranks nprow npcol)) (Ok (with_grid (dealt_grid order nprow npcol) s))

-- MAP: the ranks that it lists, row by row
abbrev pub map_fault : ℕ → ℕ → ℕ → List ℕ → Option ExecFault
map_fault world nprow npcol ranks = option_map fault.Grid (option_or (shape_refusal world nprow npcol) (first_of (place_refusal world ranks) (nprow * npcol)))

abbrev pub map_line : ℕ → ℕ → List ℕ → ProgramState → Result ProgramState ExecFault
map_line nprow npcol ranks s = unless_fault (map_fault s.shapes.ranks nprow npcol ranks) (Ok (with_grid (record { nprow = nprow; npcol = npcol; ranks = ranks }) s))

-- ---- arrays

-- each rank has one array more, of its size, all of whose words are 0
abbrev pub with_zeros : List (ℕ × ℕ) → List (List LocalCells) → List (List LocalCells)
with_zeros sizes [] = []
with_zeros [] (mine ∷ rest) = mine ∷ rest
with_zeros (size ∷ sizes) (mine ∷ rest) = (mine ++ zeros size.0 size.1 ∷ []) ∷ with_zeros sizes rest

-- the words of an array on all ranks
abbrev pub words_in : List (ℕ × ℕ) → ℕ
words_in sizes = sum_by (λ size. size.0 * size.1) sizes

-- one array more, of these sizes by rank
unfoldable pub with_array : Option Spread → List (ℕ × ℕ) → ProgramState → ProgramState
with_array spread sizes s = record s {
  shapes = record { ranks = s.shapes.ranks; count = s.shapes.count + 1; sizes = s.shapes.sizes ++ sizes };
  spreads = s.spreads ++ spread ∷ [];
  state = record { arrays = with_zeros sizes s.state.arrays; waits = s.state.waits };
  words = s.words + words_in sizes;
}

-- one array more, where its own fault is none and the words are not too many
abbrev pub array_unless : Option ExecFault → Option Spread → List (ℕ × ℕ) → ProgramState → Result ProgramState ExecFault
array_unless own spread sizes s = unless_fault (first_fault (own ∷ large_fault (s.words + words_in sizes) ∷ [])) (Ok (with_array spread sizes s))

-- MATRIX: on every rank an array of LLD rows and COLS columns
abbrev pub matrix_line : ℕ → ℕ → ProgramState → Result ProgramState ExecFault
matrix_line lld cols s = array_unless (when (lld == 0 || nat_lt (2 ^ 24) lld) (fault.Grid BadLead)) None (replicate s.shapes.ranks (lld, cols)) s

-- the words of an ARRAY line, but for its name: its grid, M, N, MB, NB, RSRC, CSRC, and LLD where it stands there
pub record ArrayWords : Type 0 where
  pub grid : ℕ
  pub m : ℤ
  pub n : ℤ
  pub mb : ℤ
  pub nb : ℤ
  pub rsrc : ℤ
  pub csrc : ℤ
  pub lld : Option ℤ

-- the leading dimension on a process of process row p: as the line says, or the least
abbrev pub lead_on : ArrayWords → ℕ → ℕ → Option ℤ → ℤ
lead_on w nprow p None = pos (least_lld (part w.m) (part w.mb) (part w.rsrc) nprow p)
lead_on w nprow p (Some lld) = lld

-- those of all processes, row by row
abbrev pub leads_on : ArrayWords → Grid → List ℤ
leads_on w g = map (λ k. lead_on w g.nprow (k / g.npcol) w.lld) (range_with_len 0 (g.nprow * g.npcol))

-- the descriptor, with the leading dimension of each process
unfoldable pub spread_of : ArrayWords → Grid → Spread
spread_of w g = record {
  desc = record { dtype = pos 1; ctxt = pos w.grid; m = w.m; n = w.n; mb = w.mb; nb = w.nb; rsrc = w.rsrc; csrc = w.csrc; lld = slice_index_or (leads_on w g) 0 (pos 0) };
  llds = leads_on w g;
}

-- what DESCINIT finds on the k-th process, row by row
abbrev pub process_info : List Grid → ArrayWords → Grid → ℕ → Option Info
process_info grids w g k = info_of (descinit_entries grids w.m w.n w.mb w.nb w.rsrc w.csrc (pos w.grid) (lead_on w g.nprow (k / g.npcol) w.lld) (slice_index g.ranks k))

-- the array on a rank of the grid, by its place there; any other rank has one without columns
abbrev pub size_by : Spread → Grid → Option (ℕ × ℕ) → ℕ × ℕ
size_by spread g None = (1, 0)
size_by spread g (Some at) = (lld_of spread g at.0 at.1, max 1 (local_columns (layout_of spread g) at.1))

abbrev pub sizes_over : Spread → Grid → ℕ → List (ℕ × ℕ)
sizes_over spread g ranks = map (λ r. size_by spread g (place_of g r)) (range_with_len 0 ranks)

-- ARRAY: a matrix spread over a grid; refused as DESCINIT refuses the first process, row by row, that it refuses
abbrev pub array_line : ArrayWords → ProgramState → Result ProgramState ExecFault
array_line w s =
    let g = grid_at s (pos w.grid) in
    let info = first_of (process_info s.grids w g) (length g.ranks) in
    array_unless (option_map fault.Info info) (Some (spread_of w g)) (sizes_over (spread_of w g) g s.shapes.ranks) s

-- ---- words of arrays

-- what FILL does to an array: to an ARRAY by how it is spread, to a MATRIX by rows and columns
abbrev pub filled : Filling → ℕ → Option (Option Spread) → ProgramState → ProgramState
filled f array None s = s
filled f array (Some None) s = record s { state = with_written array (fills_matrix f (slice_index_or s.shapes.sizes (array * s.shapes.ranks) (1, 0)).0) s.state }
filled f array (Some (Some spread)) s = record s { state = with_written array (fills_array f (spread_array array spread (grid_at s spread.desc.ctxt))) s.state }

-- what the files of LOAD lines hold; None of a file that isn't looked at
abbrev pub Loads : Type 0
Loads = List ℕ → Option Matrix

-- LOAD: the elements are those of the file's matrix, which has the array's size
abbrev pub load_line : Option Matrix → ℕ → ProgramState → Result ProgramState ExecFault
load_line None array s = Ok s
load_line (Some m) array s =
    let spread = spread_at s array in
    let rows = part spread.desc.m in
    let columns = part spread.desc.n in
    unless_fault (when (not (m.rows == rows && m.columns == columns)) (fault.Size m.rows m.columns rows columns))
    (Ok (record s { state = with_written array (loads_matrix m (spread_array array spread (grid_at s spread.desc.ctxt))) s.state }))
