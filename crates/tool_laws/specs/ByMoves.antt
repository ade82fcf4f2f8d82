-- `split`, `join` and `move` as plain moves: the one definition that says where elements go.
use Rattle.std.specs.Prelude.{◌≡◌, ◌*◌, ◌^◌, ◌≤◌, List, length, map}
use Rattle.std.specs.List.{range_with_len}
use Rattle.pack_words.specs.LocalCells.{LocalCells}
use Rattle.mm_grammar.specs.Matrix.{Matrix}
use Rattle.piece_grammar.specs.Head.{Piece}
use Rattle.piece_file.specs.Gathering.{AreTurns}
use Rattle.tool_words.specs.Within.{IsTarget}
use Rattle.mr2d.specs.Homes as homes
use Rattle.mr2d.specs.Moves.{plain_move}
use Rattle.piece_moves.specs.PieceMove.{first_of, state_after, move_words}
use Rattle.move_laws.specs.Ends.{file_cells}
use Rattle.move_laws.specs.Starts.{arrays_on, split_state, split_move, join_state, join_move}
use Rattle.file_tools.specs.Target.{Target}
use Rattle.file_tools.specs.SplitWalk.{layout_of, cells_of, job_words, saves_of}
use Rattle.piece_moves.specs.PieceMove.{array_of}
use Rattle.file_tools.specs.JoinWalk.{layout_by, whole_of, join_words}
use Rattle.file_tools.specs.SplitWalk.{distribution_of}
use Rattle.file_tools.specs.MoveWalk.{saves_moved}

-- the matrix that a piece's file holds, as a local array
abbrev pub local_of : Matrix → LocalCells
local_of m = record { lld = m.rows; cols = m.columns; words = m.values }

pub record AreMoves : Type 0 where
  -- the pieces that a split within the limit saves are what the plain move makes of the matrix on a 1 by 1 grid
  pub split : (t : Target) (m : Matrix) → IsTarget t.nprow t.npcol t.mb t.nb → length m.values ≡ m.rows * m.columns → job_words t m.rows m.columns ≤ 2 ^ 26
      → map (λ k. local_of (cells_of t m k)) (range_with_len 0 (t.nprow * t.npcol)) ≡ arrays_on 1 (plain_move (split_move m (layout_of t m.rows m.columns)) (split_state m (layout_of t m.rows m.columns)))
  -- the matrix that a join within the limit saves is what the plain move makes of the pieces on a 1 by 1 grid
  pub join : (ps : List Piece) → AreTurns ps → join_words ps ≤ 2 ^ 26
      → file_cells (whole_of ps) ≡ homes.cells_of (plain_move (join_move (layout_by ps) (map array_of ps)) (join_state (layout_by ps) (map array_of ps))).arrays 0 1
  -- a move within the limit saves what a split of the joined matrix would
  pub move : (t : Target) (ps : List Piece) → IsTarget t.nprow t.npcol t.mb t.nb → AreTurns ps → move_words ps (distribution_of t) ≤ 2 ^ 26
      → saves_moved t (first_of ps).m (first_of ps).n (state_after ps (distribution_of t)).arrays ≡ saves_of t (whole_of ps)
