-- Walks that read a matrix, or all pieces of a prefix, and go on with them.
use Rattle.std.specs.Prelude.{ℕ, zero, suc, ◌-◌, List, [], ◌∷◌, ◌++◌, Result, Ok, Err}
use Rattle.mm_grammar.specs.Matrix.{Matrix}
use Rattle.mm_grammar.specs.Width.{width32}
use Rattle.mm_grammar.specs.Faults.{Refusal}
use Rattle.mm_grammar.specs.Reading.{read_text}
use Rattle.piece_grammar.specs.Head.{Piece}
use Rattle.piece_grammar.specs.Faults as pieces
use Rattle.piece_grammar.specs.Turn.{Turn}
use Rattle.piece_grammar.specs.Pieces.{turn_behind, name_of, wanted}
use Rattle.piece_grammar.specs.PieceReading.{read_text as read_piece_text}
use Rattle.tool_lines.specs.Texts.{at_line}
use Rattle.tool_lines.specs.FaultTexts.{matrix_fault_text, piece_fault_text}
use Rattle.command_walks.specs.Walk.{Walk, Reads, Refuses}
use Rattle.command_walks.specs.declared.status.Status.TheVariants.{Refused}

-- the matrix of a file, or what is wrong with its text
abbrev pub with_matrix : (name : List ℕ) → Result Matrix Refusal → (Matrix → Walk) → Walk
with_matrix name (Ok m) next = next m
with_matrix name (Err r) next = Refuses (at_line name r.line (matrix_fault_text r.fault)) Refused

-- the file of this name is read, and is a text of a matrix
unfoldable pub matrix_walk : (name : List ℕ) → (next : Matrix → Walk) → Walk
matrix_walk name next = Reads name (λ bytes. with_matrix name (read_text width32 bytes) next)

-- the piece of a file, or what is wrong with its text
abbrev pub with_piece : (name : List ℕ) → Result Piece pieces.Refusal → (Piece → Walk) → Walk
with_piece name (Ok p) next = next p
with_piece name (Err r) next = Refuses (at_line name r.line (piece_fault_text r.fault)) Refused

-- the file of this turn is read, and is its piece
unfoldable pub piece_walk : (prefix : List ℕ) → Turn → (next : Piece → Walk) → Walk
piece_walk prefix turn next = Reads (name_of prefix turn) (λ bytes. with_piece (name_of prefix turn) (read_piece_text turn bytes) next)

-- so many pieces more after these
unfoldable pub pieces_on : (prefix : List ℕ) → (left : ℕ) → (before : List Piece) → (next : List Piece → Walk) → Walk
pieces_on prefix zero before next = next before
pieces_on prefix (suc left) before next = piece_walk prefix (turn_behind before) (λ p. pieces_on prefix left (before ++ p ∷ []) next)

-- the pieces of a prefix: the first, which says how many there are, and then the others by rows of the grid
unfoldable pub pieces_walk : (prefix : List ℕ) → (next : List Piece → Walk) → Walk
pieces_walk prefix next = piece_walk prefix (turn_behind []) (λ first. pieces_on prefix (wanted first.head - 1) (first ∷ []) next)
