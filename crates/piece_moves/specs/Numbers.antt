-- The numbers of a move of a whole matrix: its meets, messages and copies.
use Rattle.std.specs.Prelude.{ℕ, ◌*◌, List}
use Rattle.block_meet.specs.Numbers.{run_count}
use Rattle.block_meet.specs.Meets.{rows_of, columns_of}
use Rattle.mr2d.specs.Moves.{Move}
use Rattle.mr2d.specs.Sides.{side_of}
use Rattle.descriptor.specs.declared.moves.Moved.{Moved}
use Rattle.move_numbers.specs.MoveNumbers.{move_messages, move_copies}
use Rattle.piece_grammar.specs.Head.{Piece}
use Rattle.piece_moves.specs.Distribution.{Distribution}
use Rattle.piece_moves.specs.PieceMove.{first_of, ranks_for, move_for}

-- a whole matrix has a meet for each run of its rows and each run of its columns
abbrev pub meets_of_whole : Move → ℕ
meets_of_whole mv =
    run_count (rows_of (side_of mv.a) mv.ia) (rows_of (side_of mv.b) mv.ib) mv.cut.m * run_count (columns_of (side_of mv.a) mv.ja) (columns_of (side_of mv.b) mv.jb) mv.cut.n

-- what a move of pieces tells of itself
abbrev pub numbers_for : List Piece → Distribution → Moved
numbers_for ps d = record {
  meets = meets_of_whole (move_for ps d);
  messages = move_messages (move_for ps d) (ranks_for (first_of ps) d);
  copies = move_copies (move_for ps d) (ranks_for (first_of ps) d);
}
