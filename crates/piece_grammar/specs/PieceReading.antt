-- Reading a piece line by line: the piece, or the first line that can't stand at its place and why.
use Rattle.std.specs.Prelude.{ℕ, List, [], ◌∷◌, Option, Some, None, Result, Ok, Err, false}
use Rattle.std.specs.Option.{option_map}
use Rattle.line_text.specs.Lines.{whole_lines}
use Rattle.line_text.specs.Formats as formats
pub use Rattle.line_text.specs.Formats.{refused_at, and_then}
pub use Rattle.line_text.specs.FaultTables.{unless_fault}
use Rattle.mm_grammar.specs.Width.{width32}
use Rattle.mm_grammar.specs.Matrix.{Matrix}
use Rattle.mm_grammar.specs.Faults.{Fault as MatrixFault, Banner, Symmetry as SymmetryFault}
use Rattle.mm_grammar.specs.FileLines.{Line, file_lines, lines_behind, line_fault}
use Rattle.mm_grammar.specs.Symmetry.{General}
use Rattle.mm_grammar.specs.Parts.{banner_of}
use Rattle.mm_grammar.specs.Place as at
use Rattle.mm_grammar.specs.Reading as matrix
use Rattle.piece_grammar.specs.Head.{Head, Piece}
use Rattle.piece_grammar.specs.Desc.{Desc, desc_of, head_of}
use Rattle.piece_grammar.specs.Faults.{Fault, Mm, DescLine, Refusal}
use Rattle.piece_grammar.specs.Turn.{Turn}
use Rattle.piece_grammar.specs.Place.{Place, AtBanner, AtDesc, Behind}
use Rattle.piece_grammar.specs.FaultTable.{when, first_fault, names_another, desc_rows, size_at, array_rows}

-- a step of the array's file, its fault, or the first of these faults
abbrev pub passed : List (Option Fault) → (at.Place → Place) → Result at.Place MatrixFault → Result Place Fault
passed more place (Ok next) = unless_fault (first_fault more) (Ok (place next))
passed more place (Err fault) = Err (Mm fault)

abbrev pub desc_step : Turn → Option Desc → Result Place Fault
desc_step turn None = Err DescLine
desc_step turn (Some d) = unless_fault (first_fault (desc_rows turn (Some d))) (Ok (Behind (head_of d) (at.AtSize General)))

-- what a line makes of the place where it stands: the next place, or the first fault
unfoldable pub step : Turn → Place → Line → Result Place Fault
step turn AtBanner line = passed (when (names_another (banner_of line.text)) (Mm SymmetryFault) ∷ []) (λ next. AtDesc) (matrix.step width32 at.AtBanner line)
step turn AtDesc line = unless_fault (option_map Mm (line_fault false line)) (desc_step turn (desc_of line.text))
step turn (Behind head place) line = passed (array_rows turn head (size_at place line.text)) (Behind head) (matrix.step width32 place line)

abbrev pub ended_array : Head → Result Matrix MatrixFault → Result Piece Fault
ended_array head (Ok m) = Ok (record { head = head; words = m.values })
ended_array head (Err fault) = Err (Mm fault)

-- what the file's end makes of the place: the piece, or what is missing
unfoldable pub at_end : Place → Result Piece Fault
at_end AtBanner = Err (Mm Banner)
at_end AtDesc = Err DescLine
at_end (Behind head place) = ended_array head (matrix.at_end place)

-- Pieces as a format of lines: the number of a line isn't looked at.
abbrev pub piece_format : Turn → formats.Format Place Line Piece Fault
piece_format turn = record { lines_of = file_lines; start = AtBanner; step = λ n place line. step turn place line; finish = at_end }

-- the lines from this number on, at this place
abbrev pub read_on : Turn → (line : ℕ) → Place → List Line → Result Piece Refusal
read_on turn n place lines = formats.read_on (piece_format turn) n place lines

-- the bytes of a file after so many others, from the line of this number on, at this place
abbrev pub read_behind : Turn → (line : ℕ) → Place → (before : ℕ) → List ℕ → Result Piece Refusal
read_behind turn n place before bytes = read_on turn n place (lines_behind before (whole_lines bytes))

-- the piece of a file, or its fault
abbrev pub read_text : Turn → List ℕ → Result Piece Refusal
read_text turn bytes = formats.read_text (piece_format turn) bytes
