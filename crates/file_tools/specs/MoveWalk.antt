-- What `move` does: its walk over the files.
use Rattle.std.specs.Prelude.{ℕ, ◌*◌, List, [], ◌∷◌, codes}
use Rattle.std.specs.Fmt.{decimal}
use Rattle.line_text.specs.Lines.{ended}
use Rattle.mm_text.specs.LocalMatrix.{local_matrix}
use Rattle.descriptor.specs.declared.moves.Moved.{Moved}
use Rattle.piece_grammar.specs.Head.{Piece}
use Rattle.piece_grammar.specs.PlainPiece.{piece_text}
use Rattle.mr2d.specs.Homes.{Arrays, cells_of}
use Rattle.piece_moves.specs.PieceMove.{first_of, state_after, move_words}
use Rattle.piece_moves.specs.Numbers.{numbers_for}
use Rattle.file_tools.specs.Target.{Target}
use Rattle.tool_lines.specs.Texts.{joined}
use Rattle.save_list.specs.Save.{Save, numbered}
use Rattle.command_walks.specs.Walk.{Walk, Ends, within_limit}
use Rattle.command_walks.specs.ReadingWalks.{pieces_walk}
use Rattle.file_tools.specs.SplitWalk.{distribution_of, head_of, name_of}

-- piece k of a matrix of so many rows and columns, whose local array stands with number 1 on rank k, is saved under its name
abbrev pub save_moved : Target → (rows columns : ℕ) → Arrays → ℕ → Save
save_moved t rows columns arrays k = record { name = name_of t k; text = piece_text (head_of t rows columns k) (local_matrix (cells_of arrays k 1)) }

abbrev pub saves_moved : Target → (rows columns : ℕ) → Arrays → List Save
saves_moved t rows columns arrays = numbered (save_moved t rows columns arrays) (t.nprow * t.npcol)

-- the numbers of a move as its output
abbrev pub numbers_line : Moved → List ℕ
numbers_line moved = ended (joined (codes "meets " ∷ decimal moved.meets ∷ codes " messages " ∷ decimal moved.messages ∷ codes " copies " ∷ decimal moved.copies ∷ []))

-- a move saves the arrays of the plain move, and tells its numbers
abbrev pub end_walk : Target → List Piece → Walk
end_walk t ps = Ends (saves_moved t (first_of ps).m (first_of ps).n (state_after ps (distribution_of t)).arrays) (numbers_line (numbers_for ps (distribution_of t)))

-- if it is within the limit
abbrev pub moved_walk : Target → List Piece → Walk
moved_walk t ps = within_limit (move_words ps (distribution_of t)) (end_walk t ps)

-- `move` reads the pieces, and saves the moved ones
abbrev pub move_walk : (prefix : List ℕ) → Target → Walk
move_walk prefix t = pieces_walk prefix (moved_walk t)
