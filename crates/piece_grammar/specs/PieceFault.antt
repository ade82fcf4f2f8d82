-- Piece fault: the first line that can't stand at its place, with the first row of the table that it meets.
use Rattle.std.specs.Prelude.{◌≡◌, ℕ, ◌+◌, ◌^◌, ◌≤◌, List, [], ◌∷◌}
use Rattle.line_text.specs.FormatMeaning.{IsRefused}
use Rattle.line_text.specs.FormatLaws as laws
use Rattle.mm_grammar.specs.Width.{width32}
use Rattle.mm_grammar.specs.FileLines.{Line, file_lines}
use Rattle.mm_grammar.specs.Symmetry.{General}
use Rattle.mm_grammar.specs.MatrixText.{IsBannerLine}
use Rattle.mm_grammar.specs.Place as at
use Rattle.mm_grammar.specs.MatrixFault as matrix
use Rattle.piece_grammar.specs.Head.{Head, array_columns, array_words}
use Rattle.piece_grammar.specs.Faults.{Refusal}
use Rattle.piece_grammar.specs.Turn.{Turn, Agrees}
use Rattle.piece_grammar.specs.PieceText.{IsDescLine, IsPieceAt}
use Rattle.piece_grammar.specs.Place.{Place, AtBanner, AtDesc, Behind}
use Rattle.piece_grammar.specs.FaultTable.{piece_faults}
use Rattle.piece_grammar.specs.PieceReading.{piece_format}

-- only the banner
pub record HasBanner (lines : List Line) : Type 0 where
  pub banner : Line
  pub whole : lines ≡ banner ∷ []
  pub is_banner : IsBannerLine General banner

-- the size line, where it was passed, gives the local array, and there is room for its words
abbrev pub HasArray : Turn → Head → at.Place → Type 0
HasArray turn head at.AtBanner = Unit {0}
HasArray turn head (at.AtSize kind) = Unit {0}
HasArray turn head (at.AtValues header stored) = (header.rows ≡ head.lld) × (header.columns ≡ array_columns head) × (turn.before + array_words head ≤ 2 ^ 26)

-- the banner, the line of a head whose turn it is, and lines that stand in the parts of the array's file
pub record Stands (turn : Turn) (lines : List Line) (head : Head) (place : at.Place) : Type 0 where
  pub banner : Line
  pub desc : Line
  pub rest : List Line
  pub whole : lines ≡ banner ∷ desc ∷ rest
  pub is_banner : IsBannerLine General banner
  pub is_desc : IsDescLine head desc
  pub row : head.prow ≡ turn.prow
  pub column : head.pcol ≡ turn.pcol
  pub agrees : Agrees turn.first head
  pub leads : matrix.LeadsTo width32 (banner ∷ rest) place
  pub array : HasArray turn head place

-- the lines stand in the parts of a piece, and the place is what comes after them
abbrev pub LeadsTo : Turn → List Line → Place → Type 0
LeadsTo turn lines AtBanner = lines ≡ []
LeadsTo turn lines AtDesc = HasBanner lines
LeadsTo turn lines (Behind head place) = Stands turn lines head place

-- the line and the fault of the bytes, where it is the turn of a piece
abbrev pub IsPieceFault : Turn → List ℕ → Refusal → Type 0
IsPieceFault turn bytes refusal = IsRefused (piece_faults turn) (LeadsTo turn) (file_lines bytes) refusal

-- Reading gives the piece, or the fault, and gives it exactly there.
abbrev pub IsReading : Turn → Type 0
IsReading turn = laws.IsReading (piece_format turn) (piece_faults turn) (LeadsTo turn) (IsPieceAt turn)

-- At each turn a file is exactly one piece or has exactly one fault, and never both.
abbrev pub IsDecided : Turn → Type 0
IsDecided turn = laws.IsDecided (piece_format turn) (piece_faults turn) (LeadsTo turn) (IsPieceAt turn)

-- No line of a fault, and no early end, is part of a piece: the lines up to it continue to no piece.
abbrev pub IsFirst : Turn → Type 0
IsFirst turn = laws.IsFirst (piece_faults turn) (LeadsTo turn) (IsPieceAt turn)
