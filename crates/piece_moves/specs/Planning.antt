-- What stands before a move is planned.
use Rattle.std.specs.Prelude.{◌≡◌, ◌*◌, ◌^◌, ◌≤◌, List, [], ◌∷◌, map}
use Rattle.proc_grid.specs.Grid.{Grid}
use Rattle.proc_grid.specs.Refusals.{dealt_grid}
use Rattle.proc_grid.specs.declared.world.Order.TheVariants.{R}
use Rattle.descriptor.specs.declared.moves.MrArgs.{MrArgs}
use Rattle.pack_words.specs.RankOps.{RankState}
use Rattle.pack_words.specs.GridState.{arrays_held}
use Rattle.pack_words.specs.GridShapes.{ShapesView, HasShapes}
use Rattle.pack_words.specs.GridPlans.{first_grid}
use Rattle.piece_grammar.specs.Head.{Piece}
use Rattle.piece_file.specs.Gathering.{AreTurns}
use Rattle.piece_moves.specs.Distribution.{Distribution}
use Rattle.piece_moves.specs.PieceMove.{first_of, ranks_for, args_for, state_before, move_words}

-- a grid of at most 64 processes, and blocks that hold something
pub record IsDistribution (d : Distribution) : Type 0 where
  pub rows : 1 ≤ d.nprow
  pub few_rows : d.nprow ≤ 64
  pub columns : 1 ≤ d.npcol
  pub few_columns : d.npcol ≤ 64
  pub grid : d.nprow * d.npcol ≤ 64
  pub row_block : 1 ≤ d.mb
  pub row_block_fits : d.mb ≤ 2 ^ 24
  pub column_block : 1 ≤ d.nb
  pub column_block_fits : d.nb ≤ 2 ^ 24

-- the contexts of a move: all ranks, the grid of the pieces, and the other grid
abbrev pub contexts_of : List Piece → Distribution → List Grid
contexts_of ps d = dealt_grid R 1 (ranks_for (first_of ps) d) ∷ dealt_grid R (first_of ps).nprow (first_of ps).npcol ∷ dealt_grid R d.nprow d.npcol ∷ []

-- The memories of the ranks hold the pieces, and the arguments, contexts and shapes are those of their move.
pub record IsPrepared (ps : List Piece) (d : Distribution) (args : MrArgs) (contexts : List Grid) (v : ShapesView) (nodes : List RankState) : Type 0 where
  pub turns : AreTurns ps
  pub to : IsDistribution d
  pub few : move_words ps d ≤ 2 ^ 26
  pub args_are : args ≡ args_for ps d
  pub contexts_are : contexts ≡ contexts_of ps d
  pub arrays_are : map arrays_held nodes ≡ (state_before ps d).arrays
  pub ranks_are : v.ranks ≡ ranks_for (first_of ps) d
  pub two : v.count ≡ 2
  pub shapes : HasShapes v (first_grid nodes)
