-- A matrix as the pieces of a distribution, and the matrix that pieces are.
use Rattle.std.specs.Prelude.{◌≡◌, ℕ, ◌*◌, ◌/◌, ◌%◌, ◌<◌, ℤ, List, [], ◌∷◌, map}
use Rattle.std.specs.List.{range_with_len}
use Rattle.fold_ops.specs.Fold.{total}
use Rattle.index_tools.specs.Home.{Layout}
use Rattle.mm_grammar.specs.Matrix.{Matrix}
use Rattle.piece_grammar.specs.Head.{Piece, layout_of}
use Rattle.mr2d.specs.Homes.{Arrays, cells_of}
use Rattle.spread_cells.specs.Spreading.{piece_cells}
use Rattle.spread_cells.specs.Joining.{joined}
use Rattle.piece_moves.specs.Distribution.{Distribution, layout_over, head_over}
use Rattle.piece_moves.specs.PieceMove.{array_of}

-- the local array of piece k, by rows of the grid: the rows and the columns of the matrix that lie there
abbrev pub cells_at : Distribution → Matrix → ℕ → Matrix
cells_at d m k = piece_cells m (layout_over d m.rows m.columns) (k / d.npcol) (k % d.npcol)

abbrev pub piece_at : Distribution → Matrix → ℕ → Piece
piece_at d m k = record { head = head_over d m.rows m.columns k; words = (cells_at d m k).values }

-- all pieces, by rows of the grid
abbrev pub pieces_of : Distribution → Matrix → List Piece
pieces_of d m = map (piece_at d m) (range_with_len 0 (d.nprow * d.npcol))

-- how a matrix is spread, as its first piece tells; without pieces it is empty
abbrev pub layout_by : List Piece → Layout
layout_by [] = record { rows = 0; columns = 0; mb = 0; nb = 0; rsrc = 0; csrc = 0; nprow = 0; npcol = 0 }
layout_by (first ∷ more) = layout_of first.head

-- the whole matrix: each element is the word at its home
abbrev pub whole_of : List Piece → Matrix
whole_of ps = joined (layout_by ps) (map array_of ps)

-- piece k of a moved matrix of so many rows and columns: array 1 of its rank
abbrev pub piece_after : Distribution → (rows columns : ℕ) → Arrays → ℕ → Piece
piece_after d rows columns arrays k = record { head = head_over d rows columns k; words = (cells_of arrays k 1).words }

-- the sum of all words of the first pieces of a moved matrix, so many
abbrev pub sum_after : Arrays → ℕ → ℤ
sum_after arrays count = total (map (λ k. total (cells_of arrays k 1).words) (range_with_len 0 count))

-- these arrays have the sizes of the pieces
pub record HavePieces (d : Distribution) (rows columns : ℕ) (arrays : Arrays) : Type 0 where
  pub each : (k : ℕ) → k < d.nprow * d.npcol → cells_of arrays k 1 ≡ array_of (piece_after d rows columns arrays k)
