-- Matrix text: the five parts of a matrix file in their order, as a relation between all its lines and the matrix.
-- The form is the array format of Matrix Market (Boisvert, Pozo, Remington: The Matrix Market Exchange Formats) with integers.
use Rattle.std.specs.Prelude.{◌≡◌, ℕ, true, false, ◌⊎◌, ℤ, List, [], ◌∷◌, ◌++◌, ◌||◌, length, None, Ok}
use Rattle.std.specs.List.{AllByRecursion}
use Rattle.line_text.specs.Words.{words}
use Rattle.mm_grammar.specs.Width.{Width}
use Rattle.mm_grammar.specs.Matrix.{Matrix}
use Rattle.mm_grammar.specs.FileLines.{Line, file_lines, line_fault}
use Rattle.mm_grammar.specs.Symmetry.{Symmetry}
use Rattle.mm_grammar.specs.Expansion.{expanded}
use Rattle.mm_grammar.specs.Parts.{Header, wanted, is_blank_line, is_comment, banner_of, size_words, value_words}

-- the banner
pub record IsBannerLine (symmetry : Symmetry) (line : Line) : Type 0 where
  pub fits : line_fault false line ≡ None
  pub names : banner_of line.text ≡ Ok symmetry

-- a comment, which may hold any bytes, or a blank line
pub record IsBetweenLine (line : Line) : Type 0 where
  pub fits : line_fault (is_comment line.text) line ≡ None
  pub says_nothing : (is_comment line.text || is_blank_line line.text) ≡ true

-- the size line
pub record IsSizeLine (width : Width) (header : Header) (line : Line) : Type 0 where
  pub fits : line_fault false line ≡ None
  pub no_comment : is_comment line.text ≡ false
  pub gives : size_words width header.symmetry (words line.text) ≡ Ok header

-- the line of one value
pub record IsValueLine (width : Width) (header : Header) (value : ℤ) (line : Line) : Type 0 where
  pub fits : line_fault false line ≡ None
  pub gives : value_words width header.symmetry (words line.text) ≡ Ok value

pub record IsBlankLine (line : Line) : Type 0 where
  pub fits : line_fault false line ≡ None
  pub blank : is_blank_line line.text ≡ true

-- the values, one a line, with blank lines anywhere
abbrev pub HoldsValues : Width → Header → List Line → List ℤ → Type 0
HoldsValues width header [] values = values ≡ []
HoldsValues width header (line ∷ lines) values =
    (IsBlankLine line × HoldsValues width header lines values)
    ⊎ ((value : ℤ) × (more : List ℤ) × (values ≡ value ∷ more) × IsValueLine width header value line × HoldsValues width header lines more)

-- the banner, the lines between, the size line, and behind it these lines
pub record Opens (width : Width) (lines : List Line) (header : Header) (body : List Line) : Type 0 where
  pub banner : Line
  pub between : List Line
  pub size : Line
  pub whole : lines ≡ banner ∷ (between ++ size ∷ body)
  pub is_banner : IsBannerLine header.symmetry banner
  pub are_between : AllByRecursion IsBetweenLine between
  pub is_size_line : IsSizeLine width header size

-- the matrix of stored values
abbrev pub matrix_of : Header → List ℤ → Matrix
matrix_of header stored = record { rows = header.rows; columns = header.columns; values = expanded header.symmetry header.columns stored }

-- the lines are the five parts in their order, with these values stored
pub record HasParts (width : Width) (lines : List Line) (header : Header) (stored : List ℤ) : Type 0 where
  pub body : List Line
  pub opens : Opens width lines header body
  pub holds : HoldsValues width header body stored
  pub count : length stored ≡ wanted header

-- the lines are a text of the matrix
pub record IsAccepted (width : Width) (lines : List Line) (m : Matrix) : Type 0 where
  pub header : Header
  pub stored : List ℤ
  pub parts : HasParts width lines header stored
  pub matrix : m ≡ matrix_of header stored

-- the bytes are a text of the matrix
abbrev pub IsMatrixText : Width → List ℕ → Matrix → Type 0
IsMatrixText width bytes m = IsAccepted width (file_lines bytes) m
