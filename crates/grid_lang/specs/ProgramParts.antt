-- The parts of an accepted program.
use Rattle.std.specs.Prelude.{◌≡◌, ℕ, List, ◌∷◌, ◌++◌}
use Rattle.std.specs.List.{AllByRecursion}
use Rattle.grid_lang.specs.declared.part.Part.{Part}
use Rattle.grid_lang.specs.declared.part.Part.TheVariants.{Opening, Declarations, Exchanges, Results}
use Rattle.grid_lang.specs.declared.line.Line.{Line}
use Rattle.grid_lang.specs.declared.line.Line.TheVariants.{Ranks, Grid, Map, Array, Matrix, Load, Fill, Save, SavePieces, PrintArray, PrintMatrix}
use Rattle.grid_lang.specs.declared.line.Numbered.{Numbered}
use Rattle.grid_lang.specs.Programs.{IsProgramText}

-- the part of a line
abbrev pub part_of_line : Line → Part
part_of_line (Ranks n) = Opening
part_of_line (Grid order nprow npcol) = Declarations
part_of_line (Map nprow npcol ranks) = Declarations
part_of_line (Array name g m n mb nb rsrc csrc lld) = Declarations
part_of_line (Matrix name lld cols) = Declarations
part_of_line (Load x file) = Declarations
part_of_line (Fill y a b c d) = Declarations
part_of_line (Save x file) = Results
part_of_line (SavePieces x prefix) = Results
part_of_line (PrintArray x) = Results
part_of_line (PrintMatrix v rank) = Results
part_of_line other = Exchanges

abbrev pub AreOf : Part → List Numbered → Type 0
AreOf part program = AllByRecursion (λ l. part_of_line l.line ≡ part) program

-- RANKS, and after it declarations, exchanges and results
pub record HasParts (program : List Numbered) : Type 0 where
  pub ranks : Numbered
  pub declarations : List Numbered
  pub exchanges : List Numbered
  pub results : List Numbered
  pub whole : program ≡ ranks ∷ (declarations ++ (exchanges ++ results))
  pub opens : part_of_line ranks.line ≡ Opening
  pub declare : AreOf Declarations declarations
  pub exchange : AreOf Exchanges exchanges
  pub result : AreOf Results results

-- each program has these parts
abbrev pub HaveParts : Type 0
HaveParts = (bytes : List ℕ) (program : List Numbered) → IsProgramText bytes program → HasParts program
