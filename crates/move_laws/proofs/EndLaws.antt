-- Splits and joins are moves.
use Rattle.std.specs.Prelude.{◌≡◌, ℕ, ◌+◌, ◌*◌, ◌<◌, pos, List, length, slice_index_or}
use Rattle.std.proofs.Common.{sym, ap, ◌∙◌, refl, arith}
use Rattle.proc_grid.specs.Grid.{Grid}
use Rattle.index_tools.specs.Spread.{owner, local}
use Rattle.index_tools.specs.Home.{Layout, Home, home, row_spread, column_spread}
use Rattle.index_tools.proofs.HomeLemmas.{owner_below}
use Rattle.pack_words.specs.LocalCells.{LocalCells}
use Rattle.pack_words.specs.GridState.{GridState}
use Rattle.mm_grammar.specs.Matrix.{Matrix}
use Rattle.spread_cells.specs.Joining.{array_at, joined}
use Rattle.spread_cells.specs.JoiningBack.{local_array}
use Rattle.spread_cells.proofs.JoiningLaws.{joined_at, joined_length}
use Rattle.mr2d.specs.Homes.{SpreadArray, Arrays, rank_of, cells_of}
use Rattle.mr2d.specs.Moves.{plain_move}
use Rattle.move_laws.specs.WholeMoves.{whole_move, Holds, HoldsPieces, IsMoveStart, IsPieceStart, IsGridOf}
use Rattle.move_laws.specs.Ends.{file_layout, file_cells, file_array, IsSplitStart, IsJoinStart}
use Rattle.move_laws.proofs.MoveLaws.{piece_is_spread, moved_piece}
use Rattle.move_laws.proofs.FileLaws.{file_is_layout, file_home, file_word, one_piece_is}

place_below : (r c i j : ℕ) → i < r → j < c → j * r + i < r * c
place_below r c i j low left = grind arith

-- the array of a file holds its matrix
file_holds : (m : Matrix) (one : Grid) (a : ℕ) (arrays : Arrays) → IsGridOf one (file_layout m) → length m.values ≡ m.rows * m.columns → cells_of arrays (rank_of one 0 0) a ≡ file_cells m → Holds (file_array a one m) arrays m
file_holds m one a arrays grid count is = record {
  spread = piece_is_spread a one (file_layout m) grid (file_is_layout m);
  rows = refl;
  columns = refl;
  elements = λ i j low left.
      ap (λ (h : Home). slice_index_or (cells_of arrays (rank_of one h.row h.column) a).words h.place (pos 0)) (file_home m i j low)
      ∙ ap (λ (c : LocalCells). slice_index_or c.words (j * m.rows + i) (pos 0)) is
      ∙ file_word m (j * m.rows + i) count (place_below m.rows m.columns i j low left);
}

pub split_start : (m : Matrix) (one : Grid) (a : ℕ) (b : SpreadArray) (arrays : Arrays) → IsSplitStart m one a b arrays → IsMoveStart m (file_array a one m) b arrays
split_start m one a b arrays w = record { source = file_holds m one a arrays w.grid w.count w.source; target = w.target; rows = w.rows; columns = w.columns; apart = w.apart }

pub split_moves : (m : Matrix) (one : Grid) (a : ℕ) (b : SpreadArray) (s : GridState) → IsSplitStart m one a b s.arrays → (p q : ℕ) → p < b.layout.nprow → q < b.layout.npcol
    → cells_of (plain_move (whole_move m (file_array a one m) b) s).arrays (rank_of b.grid p q) b.array ≡ local_array m b.layout p q
split_moves m one a b s w p q hp hq = moved_piece m (file_array a one m) b s (split_start m one a b s.arrays w) p q hp hq

-- pieces hold the joined matrix
pieces_hold : (pieces : List LocalCells) (a : SpreadArray) (arrays : Arrays) → HoldsPieces a arrays pieces → Holds a arrays (joined a.layout pieces)
pieces_hold pieces a arrays w = record {
  spread = w.spread;
  rows = refl;
  columns = refl;
  elements = λ i j low left.
      let l : Layout = a.layout in
      let p : owner (row_spread l) i < l.nprow = owner_below (row_spread l) i (let c = w.spread.layout.row_source in omega arith) in
      let q : owner (column_spread l) j < l.npcol = owner_below (column_spread l) j (let c = w.spread.layout.column_source in omega arith) in
      ap (λ (c : LocalCells). slice_index_or c.words (home l a.llds i j).place (pos 0)) (w.pieces_are (owner (row_spread l) i) (owner (column_spread l) j) p q)
      ∙ ap (λ n. slice_index_or (array_at l pieces (owner (row_spread l) i) (owner (column_spread l) j)).words (local (column_spread l) j * n + local (row_spread l) i) (pos 0)) (w.leads_are (owner (row_spread l) i) (owner (column_spread l) j) p q)
      ∙ sym (joined_at l pieces i j low left);
}

piece_start : (pieces : List LocalCells) (a b : SpreadArray) (arrays : Arrays) → IsPieceStart pieces a b arrays → IsMoveStart (joined a.layout pieces) a b arrays
piece_start pieces a b arrays w = record { source = pieces_hold pieces a arrays w.source; target = w.target; rows = w.rows; columns = w.columns; apart = w.apart }

pub pieces_move : (pieces : List LocalCells) (a b : SpreadArray) (s : GridState) → IsPieceStart pieces a b s.arrays → (p q : ℕ) → p < b.layout.nprow → q < b.layout.npcol
    → cells_of (plain_move (whole_move (joined a.layout pieces) a b) s).arrays (rank_of b.grid p q) b.array ≡ local_array (joined a.layout pieces) b.layout p q
pieces_move pieces a b s w p q hp hq = moved_piece (joined a.layout pieces) a b s (piece_start pieces a b s.arrays w) p q hp hq

pub join_moves : (pieces : List LocalCells) (a : SpreadArray) (one : Grid) (b : ℕ) (s : GridState) → IsJoinStart pieces a one b s.arrays
    → cells_of (plain_move (whole_move (joined a.layout pieces) a (file_array b one (joined a.layout pieces))) s).arrays (rank_of one 0 0) b ≡ file_cells (joined a.layout pieces)
join_moves pieces a one b s w =
    pieces_move pieces a (file_array b one (joined a.layout pieces)) s (record { source = w.source; target = w.target; rows = refl; columns = refl; apart = w.apart }) 0 0 (omega arith) (omega arith)
    ∙ one_piece_is (joined a.layout pieces) (joined_length a.layout pieces)
