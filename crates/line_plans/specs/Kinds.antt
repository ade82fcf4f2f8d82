-- Which lines declare, which set words of arrays, and which are exchanges and results.
use Rattle.grid_lang.specs.declared.line.Line.{Line}
use Rattle.grid_lang.specs.declared.line.Line.TheVariants.{Ranks, Grid, Map, Array, Matrix, Load, Fill, Save, SavePieces, PrintArray, PrintMatrix}
use Rattle.line_plans.specs.declared.kind.Kind.{Kind}
use Rattle.line_plans.specs.declared.kind.Kind.TheVariants as kind

abbrev pub kind_of_line : Line → Kind
kind_of_line (Ranks n) = kind.World
kind_of_line (Grid order nprow npcol) = kind.Declaration
kind_of_line (Map nprow npcol ranks) = kind.Declaration
kind_of_line (Array name g m n mb nb rsrc csrc lld) = kind.Declaration
kind_of_line (Matrix name lld cols) = kind.Declaration
kind_of_line (Load x file) = kind.Words
kind_of_line (Fill y a b c d) = kind.Words
kind_of_line (Save x file) = kind.Outcome
kind_of_line (SavePieces x prefix) = kind.Outcome
kind_of_line (PrintArray x) = kind.Outcome
kind_of_line (PrintMatrix v rank) = kind.Outcome
kind_of_line other = kind.Exchange
