-- Matrix fault: the first line that can't continue an accepted text, with the first of its faults.
use Rattle.std.specs.Prelude.{◌≡◌, ℕ, ◌≤◌, ℤ, List, [], ◌∷◌, length}
use Rattle.std.specs.List.{AllByRecursion}
use Rattle.line_text.specs.FormatMeaning.{IsRefused}
use Rattle.line_text.specs.FormatLaws as laws
use Rattle.mm_grammar.specs.Width.{Width}
use Rattle.mm_grammar.specs.Faults.{Refusal}
use Rattle.mm_grammar.specs.FileLines.{Line, file_lines}
use Rattle.mm_grammar.specs.Symmetry.{Symmetry}
use Rattle.mm_grammar.specs.Parts.{Header, wanted}
use Rattle.mm_grammar.specs.MatrixText.{IsBannerLine, IsBetweenLine, HoldsValues, Opens, IsAccepted}
use Rattle.mm_grammar.specs.Place.{Place, AtBanner, AtSize, AtValues}
use Rattle.mm_grammar.specs.FaultTable.{matrix_faults}
use Rattle.mm_grammar.specs.Reading.{matrix_format}

-- the banner and lines between
pub record Begins (lines : List Line) (symmetry : Symmetry) : Type 0 where
  pub banner : Line
  pub between : List Line
  pub whole : lines ≡ banner ∷ between
  pub is_banner : IsBannerLine symmetry banner
  pub are_between : AllByRecursion IsBetweenLine between

-- all parts up to some of the values
pub record Holds (width : Width) (lines : List Line) (header : Header) (stored : List ℤ) : Type 0 where
  pub body : List Line
  pub opens : Opens width lines header body
  pub holds : HoldsValues width header body stored
  pub count : length stored ≤ wanted header

-- the lines stand in the parts, and the place is what comes behind them
abbrev pub LeadsTo : Width → List Line → Place → Type 0
LeadsTo width lines AtBanner = lines ≡ []
LeadsTo width lines (AtSize kind) = Begins lines kind
LeadsTo width lines (AtValues header stored) = Holds width lines header stored

-- the line and the fault of the bytes
abbrev pub IsMatrixFault : Width → List ℕ → Refusal → Type 0
IsMatrixFault width bytes refusal = IsRefused (matrix_faults width) (LeadsTo width) (file_lines bytes) refusal

-- Reading gives the matrix, or the fault, and gives it exactly there.
abbrev pub IsReading : Width → Type 0
IsReading width = laws.IsReading (matrix_format width) (matrix_faults width) (LeadsTo width) (IsAccepted width)

-- Each file is a text of exactly one matrix or has exactly one fault, and never both.
abbrev pub IsDecided : Width → Type 0
IsDecided width = laws.IsDecided (matrix_format width) (matrix_faults width) (LeadsTo width) (IsAccepted width)

-- The line of a fault is the first that continues to no text.
abbrev pub IsFirst : Width → Type 0
IsFirst width = laws.IsFirst (matrix_faults width) (LeadsTo width) (IsAccepted width)
