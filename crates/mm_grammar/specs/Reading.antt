-- Reading a matrix file line by line: the matrix, or the first line that can't stand at its place and why.
use Rattle.std.specs.Prelude.{ℕ, List, [], ◌∷◌, ◌++◌, ◌||◌, length, Result, Ok, Err, false, ◌==◌, if◌then◌else◌}
use Rattle.line_text.specs.Lines.{whole_lines}
use Rattle.line_text.specs.Words.{words}
use Rattle.line_text.specs.Formats as formats
pub use Rattle.line_text.specs.Formats.{refused_at, and_then}
pub use Rattle.line_text.specs.FaultTables.{unless_fault}
use Rattle.mm_grammar.specs.Width.{Width}
use Rattle.mm_grammar.specs.Matrix.{Matrix}
use Rattle.mm_grammar.specs.Faults.{Fault, Banner, Size, TooMany, TooFew, Refusal}
use Rattle.mm_grammar.specs.FileLines.{Line, file_lines, lines_behind, line_fault}
use Rattle.mm_grammar.specs.Parts.{wanted, is_blank_line, is_comment, banner_of, size_words, value_words}
use Rattle.mm_grammar.specs.MatrixText.{matrix_of}
use Rattle.mm_grammar.specs.Place.{Place, AtBanner, AtSize, AtValues}

-- the place behind a step, or its fault
abbrev pub then_at : {X : Type 0} → (X → Place) → Result X Fault → Result Place Fault
then_at place (Ok x) = Ok (place x)
then_at place (Err fault) = Err fault

-- what a line makes of the place where it stands: the next place, or the first fault in the order FileLong, LineLong, NotText, Banner,
-- Field, Symmetry, Size, TooMany, Value, Range
unfoldable pub step : Width → Place → Line → Result Place Fault
step width AtBanner line = unless_fault (line_fault false line) (then_at AtSize (banner_of line.text))
step width (AtSize kind) line =
    unless_fault (line_fault (is_comment line.text) line)
    (if is_comment line.text || is_blank_line line.text then Ok (AtSize kind)
    else then_at (λ header. AtValues header []) (size_words width kind (words line.text)))
step width (AtValues header stored) line =
    unless_fault (line_fault false line)
    (if is_blank_line line.text then Ok (AtValues header stored)
    else (if length stored == wanted header then Err (TooMany (wanted header))
    else then_at (λ v. AtValues header (stored ++ v ∷ [])) (value_words width header.symmetry (words line.text))))

-- what the file's end makes of the place: the matrix, or what is missing
unfoldable pub at_end : Place → Result Matrix Fault
at_end AtBanner = Err Banner
at_end (AtSize kind) = Err Size
at_end (AtValues header stored) = if length stored == wanted header then Ok (matrix_of header stored) else Err (TooFew (length stored) (wanted header))

-- Matrix files as a format of lines: the number of a line isn't looked at.
abbrev pub matrix_format : Width → formats.Format Place Line Matrix Fault
matrix_format width = record { lines_of = file_lines; start = AtBanner; step = λ n place line. step width place line; finish = at_end }

-- the lines from this number on, at this place
abbrev pub read_on : Width → (line : ℕ) → Place → List Line → Result Matrix Refusal
read_on width n place lines = formats.read_on (matrix_format width) n place lines

-- the bytes of a file behind so many others, from the line of this number on, at this place
abbrev pub read_behind : Width → (line : ℕ) → Place → (before : ℕ) → List ℕ → Result Matrix Refusal
read_behind width n place before bytes = read_on width n place (lines_behind before (whole_lines bytes))

-- the matrix of a file, or its fault
abbrev pub read_text : Width → List ℕ → Result Matrix Refusal
read_text width bytes = formats.read_text (matrix_format width) bytes
