-- The entries of each check, in the order in which they are looked at.
-- ScaLAPACK Users' Guide, "Array Descriptor for In-core Dense Matrices"; ScaLAPACK TOOLS, DESCINIT and CHK1MAT.
use Rattle.std.specs.Prelude.{ℕ, ◌+◌, ◌-◌, ◌*◌, ◌^◌, ◌==◌, ◌||◌, Bool, not, List, [], ◌∷◌, ◌++◌, is_none, ℤ}
use Rattle.proc_grid.specs.Grid.{Grid}
use Rattle.proc_grid.specs.Held.{context_at}
use Rattle.descriptor.specs.InfoOf.{Entry, entry}
use Rattle.descriptor.specs.Bounds.{is_outside, starts_outside, part, rows_of, columns_of, row_of, lacks_rank, least_lld, has_bad_lld, lacks_grid}
use Rattle.descriptor.specs.declared.seat.Seat.{Seat}
use Rattle.descriptor.specs.declared.spread.Spread.{Spread}
use Rattle.descriptor.specs.declared.moves.MrArgs.{MrArgs}

-- the sizes and the blocks of a matrix
abbrev pub size_entries : ℤ → ℤ → ℤ → ℤ → List Entry
size_entries m n mb nb =
    entry (is_outside m 0 (2 ^ 24)) 2 ∷ (entry (is_outside n 0 (2 ^ 24)) 3 ∷ (entry (is_outside mb 1 (2 ^ 24)) 4 ∷ (entry (is_outside nb 1 (2 ^ 24)) 5 ∷ [])))

-- the sources on a grid, and the leading dimension for a process of process row `row` that has of so many rows in such blocks
abbrev pub source_entries : ℕ → ℕ → ℕ → ℕ → ℕ → ℤ → ℤ → ℤ → List Entry
source_entries nprow npcol row rows block irsrc icsrc lld =
    entry (is_outside irsrc 0 (nprow - 1)) 6
    ∷ (entry (is_outside icsrc 0 (npcol - 1)) 7 ∷ (entry (is_outside lld (least_lld rows block (part irsrc) nprow row) (2 ^ 24)) 9 ∷ []))

-- DESCINIT: the sizes, the blocks, the context, the sources, and the leading dimension for the rank's process
abbrev pub descinit_entries : List Grid → ℤ → ℤ → ℤ → ℤ → ℤ → ℤ → ℤ → ℤ → ℕ → List Entry
descinit_entries held m n mb nb irsrc icsrc ictxt lld rank =
    let grid = context_at held ictxt in
    size_entries m n mb nb ++ (entry (lacks_rank grid rank) 8 ∷ source_entries (rows_of grid) (columns_of grid) (row_of grid rank) (part m) (part mb) irsrc icsrc lld)

-- DESCINIT at a seat: the same without the context
abbrev pub seat_entries : Seat → ℤ → ℤ → ℤ → ℤ → ℤ → ℤ → ℤ → List Entry
seat_entries seat m n mb nb irsrc icsrc lld = size_entries m n mb nb ++ source_entries seat.nprow seat.npcol seat.row (part m) (part mb) irsrc icsrc lld

-- the extents of a submatrix
unfoldable pub extent_entries : ℤ → ℕ → ℤ → ℕ → List Entry
extent_entries m mpos n npos = entry (is_outside m 0 (2 ^ 24)) mpos ∷ (entry (is_outside n 0 (2 ^ 24)) npos ∷ [])

-- the nine entries of a descriptor that is argument `descpos`
unfoldable pub desc_entries : List Grid → Spread → ℕ → List Entry
desc_entries held spread descpos =
    let desc = spread.desc in
    let grid = context_at held desc.ctxt in
    entry (is_outside desc.dtype 1 1) (100 * descpos + 1)
    ∷ (entry (is_none grid) (100 * descpos + 2)
    ∷ (entry (is_outside desc.m 0 (2 ^ 24)) (100 * descpos + 3)
    ∷ (entry (is_outside desc.n 0 (2 ^ 24)) (100 * descpos + 4)
    ∷ (entry (is_outside desc.mb 1 (2 ^ 24)) (100 * descpos + 5)
    ∷ (entry (is_outside desc.nb 1 (2 ^ 24)) (100 * descpos + 6)
    ∷ (entry (is_outside desc.rsrc 0 (rows_of grid - 1)) (100 * descpos + 7)
    ∷ (entry (is_outside desc.csrc 0 (columns_of grid - 1)) (100 * descpos + 8)
    ∷ (entry (has_bad_lld spread.llds (part desc.m) (part desc.mb) (part desc.rsrc) (rows_of grid) (columns_of grid)) (100 * descpos + 9)
    ∷ []))))))))

-- the starts of an m by n submatrix, which stand before the descriptor among the arguments
unfoldable pub start_entries : ℤ → ℤ → ℤ → ℤ → Spread → ℕ → List Entry
start_entries m n i j spread descpos =
    entry (starts_outside i m spread.desc.m) (descpos - 2) ∷ (entry (starts_outside j n spread.desc.n) (descpos - 1) ∷ [])

-- a descriptor and the starts in its matrix
unfoldable pub matrix_entries : List Grid → ℤ → ℤ → ℤ → ℤ → Spread → ℕ → List Entry
matrix_entries held m n i j spread descpos = desc_entries held spread descpos ++ start_entries m n i j spread descpos

-- CHK1MAT
abbrev pub chk1mat_entries : List Grid → ℤ → ℕ → ℤ → ℕ → ℤ → ℤ → Spread → ℕ → List Entry
chk1mat_entries held m mpos n npos ia ja spread descpos = extent_entries m mpos n npos ++ matrix_entries held m n ia ja spread descpos

-- the context that has all processes of two grids
unfoldable pub common_entries : List Grid → ℤ → ℤ → ℤ → ℕ → List Entry
common_entries held ictxt first second place =
    entry (lacks_grid (context_at held ictxt) (context_at held first) || lacks_grid (context_at held ictxt) (context_at held second)) place ∷ []

-- PIGEMR2D, whose arguments M, N, A, IA, JA, DESCA, B, IB, JB, DESCB, ICTXT have the places 1 to 11; `shift` more
-- arguments stand before them
abbrev pub move_entries : List Grid → MrArgs → ℕ → List Entry
move_entries held args shift =
    extent_entries args.m (1 + shift) args.n (2 + shift)
    ++ (matrix_entries held args.m args.n args.ia args.ja args.desca (6 + shift)
    ++ (matrix_entries held args.m args.n args.ib args.jb args.descb (10 + shift)
    ++ common_entries held args.ictxt args.desca.desc.ctxt args.descb.desc.ctxt (11 + shift)))

abbrev pub gemr2d_entries : List Grid → MrArgs → List Entry
gemr2d_entries held args = move_entries held args 0

-- a letter that isn't U or L, or isn't N or U, in either case
unfoldable pub is_bad_uplo : ℕ → Bool
is_bad_uplo c = not (c == 85 || c == 117 || c == 76 || c == 108)

unfoldable pub is_bad_diag : ℕ → Bool
is_bad_diag c = not (c == 78 || c == 110 || c == 85 || c == 117)

-- PITRMR2D: UPLO and DIAG, and then the arguments of PIGEMR2D
abbrev pub trmr2d_entries : List Grid → ℕ → ℕ → MrArgs → List Entry
trmr2d_entries held uplo diag args = entry (is_bad_uplo uplo) 1 ∷ (entry (is_bad_diag diag) 2 ∷ move_entries held args 2)
