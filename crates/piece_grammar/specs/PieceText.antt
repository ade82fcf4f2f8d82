-- Piece text: a matrix file of a general matrix with one line more after its banner, which tells the head; the matrix is the local array.
use Rattle.std.specs.Prelude.{◌≡◌, ℕ, false, List, ◌∷◌, Some, None}
use Rattle.mm_grammar.specs.Width.{width32}
use Rattle.mm_grammar.specs.FileLines.{Line, file_lines, line_fault}
use Rattle.mm_grammar.specs.Symmetry.{General}
use Rattle.mm_grammar.specs.MatrixText.{IsBannerLine, IsAccepted}
use Rattle.piece_grammar.specs.Head.{Head, Piece, array_of}
use Rattle.piece_grammar.specs.Desc.{desc_of, desc_of_head, is_off_grid, desc_info}
use Rattle.piece_grammar.specs.Turn.{Turn, HasTurn}

-- The line says the head, whose process is one of its grid, and `descinit` accepts the head's numbers for this process.
pub record IsDescLine (head : Head) (line : Line) : Type 0 where
  pub fits : line_fault false line ≡ None
  pub says : desc_of line.text ≡ Some (desc_of_head head)
  pub on_grid : is_off_grid (desc_of_head head) ≡ false
  pub good : desc_info (desc_of_head head) ≡ None

-- the lines are a text of the piece: the banner, the head's line, and the rest of a file of the local array
pub record IsPiece (lines : List Line) (p : Piece) : Type 0 where
  pub banner : Line
  pub desc : Line
  pub rest : List Line
  pub whole : lines ≡ banner ∷ desc ∷ rest
  pub is_banner : IsBannerLine General banner
  pub is_desc : IsDescLine p.head desc
  pub array : IsAccepted width32 (banner ∷ rest) (array_of p)

-- the bytes are a text of the piece
abbrev pub IsPieceText : List ℕ → Piece → Type 0
IsPieceText bytes p = IsPiece (file_lines bytes) p

-- and it is the turn of this piece
pub record IsPieceAt (turn : Turn) (lines : List Line) (p : Piece) : Type 0 where
  pub piece : IsPiece lines p
  pub turn_is : HasTurn turn p.head

abbrev pub IsPieceTextAt : Turn → List ℕ → Piece → Type 0
IsPieceTextAt turn bytes p = IsPieceAt turn (file_lines bytes) p
