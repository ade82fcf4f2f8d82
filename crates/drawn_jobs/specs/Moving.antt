-- A square matrix that is moved whole between two distributions.
use Rattle.std.specs.Prelude.{ℕ}
use Rattle.proc_grid.specs.Refusals.{dealt_grid}
use Rattle.proc_grid.specs.declared.world.Order.TheVariants.{R}
use Rattle.pack_words.specs.declared.shape.Shape.TheVariants.{Ge}
use Rattle.mr2d.specs.Homes.{SpreadArray}
use Rattle.mr2d.specs.Moves.{Move}
use Rattle.move_laws.specs.WholeMoves.{piece_array}
use Rattle.piece_moves.specs.Distribution.{Distribution, layout_over}

-- the array of that number, spread over a grid whose ranks are dealt out by rows
abbrev pub dealt_array : ℕ → Distribution → (size : ℕ) → SpreadArray
dealt_array array d size = piece_array array (dealt_grid R d.nprow d.npcol) (layout_over d size size)

-- all rows and columns, from one array to another
abbrev pub move_between : (size : ℕ) → SpreadArray → SpreadArray → Move
move_between size a b = record { cut = record { shape = Ge; m = size; n = size }; a = a; ia = 0; ja = 0; b = b; ib = 0; jb = 0 }
