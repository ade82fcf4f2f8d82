-- How far a file has to be good before a reader may want memory for its values.
use Rattle.std.specs.Prelude.{◌≡◌, ℕ, ℤ, List, ◌∷◌, ◌++◌}
use Rattle.mm_grammar.specs.Width.{Width}
use Rattle.mm_grammar.specs.FileLines.{Line, file_lines}
use Rattle.mm_grammar.specs.Parts.{Header}
use Rattle.mm_grammar.specs.MatrixFault.{Holds}

-- the banner, the size line and at least one value stand in lines that aren't refused
pub record HasFirstValue (width : Width) (bytes : List ℕ) : Type 0 where
  pub before : List Line
  pub behind : List Line
  pub whole : file_lines bytes ≡ before ++ behind
  pub header : Header
  pub first : ℤ
  pub more : List ℤ
  pub holds : Holds width before header (first ∷ more)
