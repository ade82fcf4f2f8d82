-- The pieces of a matrix, moved to another distribution: PIGEMR2D between two grids that are dealt out by rows, in a world of as
-- many ranks as the larger of them has. ScaLAPACK REDIST, PIGEMR2D.
use Rattle.std.specs.Prelude.{ℕ, zero, suc, ◌+◌, ◌*◌, nat_lt, max, ℤ, pos, List, [], ◌∷◌, map, slice_index_or, if◌then◌else◌}
use Rattle.std.specs.List.{range_with_len}
use Rattle.proc_grid.specs.Refusals.{dealt_grid}
use Rattle.proc_grid.specs.declared.world.Order.TheVariants.{R}
use Rattle.descriptor.specs.declared.moves.MrArgs.{MrArgs}
use Rattle.descriptor.specs.declared.spread.Spread.{Spread}
use Rattle.descriptor.specs.declared.desc.Desc.{Desc}
use Rattle.pack_words.specs.declared.shape.Shape.TheVariants.{Ge}
use Rattle.pack_words.specs.LocalCells.{LocalCells, zeros}
use Rattle.pack_words.specs.GridState.{GridState}
use Rattle.piece_grammar.specs.Head.{Head, Piece, array_columns, array_words}
use Rattle.piece_grammar.specs.Pieces.{words_of}
use Rattle.mr2d.specs.Homes.{cells_of}
use Rattle.mr2d.specs.Moves.{Move, plain_move}
use Rattle.mr2d.specs.Calls.{move_of}
use Rattle.piece_moves.specs.Distribution.{Distribution, head_over}

-- the head of the first piece, which tells the grid, the matrix and the blocks of all
abbrev pub first_of : List Piece → Head
first_of [] = record { nprow = 0; npcol = 0; prow = 0; pcol = 0; m = 0; n = 0; mb = 0; nb = 0; rsrc = 0; csrc = 0; lld = 0 }
first_of (p ∷ more) = p.head

-- as many ranks as the larger grid has
abbrev pub ranks_for : Head → Distribution → ℕ
ranks_for h d = max (h.nprow * h.npcol) (d.nprow * d.npcol)

-- a descriptor that names a context, with the leading dimension of the first process
abbrev pub desc_for : (context : ℕ) → Head → Desc
desc_for context h = record {
  dtype = pos 1;
  ctxt = pos context;
  m = pos h.m;
  n = pos h.n;
  mb = pos h.mb;
  nb = pos h.nb;
  rsrc = pos h.rsrc;
  csrc = pos h.csrc;
  lld = pos h.lld;
}

-- the pieces keep their own descriptor; context 0 has all ranks, 1 the grid of the pieces, and 2 the other grid
abbrev pub llds_from : List Piece → List ℤ
llds_from ps = map (λ p. pos p.head.lld) ps

abbrev pub llds_to : Head → Distribution → List ℤ
llds_to h d = map (λ k. pos (head_over d h.m h.n k).lld) (range_with_len 0 (d.nprow * d.npcol))

abbrev pub spread_from : List Piece → Spread
spread_from ps = record { desc = desc_for 1 (first_of ps); llds = llds_from ps }

abbrev pub spread_to : Head → Distribution → Spread
spread_to h d = record { desc = desc_for 2 (head_over d h.m h.n 0); llds = llds_to h d }

-- array 0 is that of the pieces, and array 1 that of the moved ones
abbrev pub args_for : List Piece → Distribution → MrArgs
args_for ps d = record {
  m = pos (first_of ps).m;
  n = pos (first_of ps).n;
  a = 0;
  ia = pos 1;
  ja = pos 1;
  desca = spread_from ps;
  b = 1;
  ib = pos 1;
  jb = pos 1;
  descb = spread_to (first_of ps) d;
  ictxt = pos 0;
}

abbrev pub move_for : List Piece → Distribution → Move
move_for ps d = move_of Ge (args_for ps d) (dealt_grid R (first_of ps).nprow (first_of ps).npcol) (dealt_grid R d.nprow d.npcol)

-- the local array of a piece
abbrev pub array_of : Piece → LocalCells
array_of p = record { lld = p.head.lld; cols = array_columns p.head; words = p.words }

-- what a rank holds before the move: its piece, and zeros where its words will be moved to
abbrev pub zeros_for : Head → Distribution → ℕ → LocalCells
zeros_for h d r = if nat_lt r (d.nprow * d.npcol) then zeros (head_over d h.m h.n r).lld (array_columns (head_over d h.m h.n r)) else zeros 1 0

abbrev pub held_before : List Piece → Distribution → ℕ → List LocalCells
held_before ps d r = slice_index_or (map array_of ps) r (zeros 1 0) ∷ zeros_for (first_of ps) d r ∷ []

abbrev pub state_before : List Piece → Distribution → GridState
state_before ps d = record { arrays = map (held_before ps d) (range_with_len 0 (ranks_for (first_of ps) d)); waits = λ from to. [] }

-- the state after the plain move
abbrev pub state_after : List Piece → Distribution → GridState
state_after ps d = plain_move (move_for ps d) (state_before ps d)

-- the local array of piece k after the move, by rows of the other grid
abbrev pub array_after : List Piece → Distribution → ℕ → LocalCells
array_after ps d k = cells_of (state_after ps d).arrays k 1

-- the words of the first local arrays of a matrix of so many rows and columns
unfoldable pub words_over : (rows columns : ℕ) → Distribution → ℕ → ℕ
words_over rows columns d zero = 0
words_over rows columns d (suc k) = words_over rows columns d k + array_words (head_over d rows columns k)

-- the words of a job: those of the local arrays of both grids, and all that moves
abbrev pub move_words : List Piece → Distribution → ℕ
move_words ps d = words_of ps + words_over (first_of ps).m (first_of ps).n d (d.nprow * d.npcol) + (first_of ps).m * (first_of ps).n
