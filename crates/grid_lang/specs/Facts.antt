-- What holds of the lines of every program.
use Rattle.std.specs.Prelude.{◌≡◌, ℕ, ◌+◌, ◌*◌, ◌^◌, ◌<◌, ◌≤◌, Bool, true, false, List, [], ◌∷◌, ◌++◌, length, Option, Some, None, slice_get}
use Rattle.route_tree.specs.Parents.{HasBranches}
use Rattle.grid_lang.specs.declared.part.Part.{Part}
use Rattle.grid_lang.specs.declared.part.Part.TheVariants.{Opening}
use Rattle.grid_lang.specs.declared.line.Line.{Line}
use Rattle.grid_lang.specs.declared.line.Line.TheVariants.{Ranks, Grid, Map, Array, Matrix, Load, Fill, Send, Recv, Bcast, Sum, Amx, Amn, Barrier, Gemr2d, Trmr2d, Save, SavePieces, PrintArray, PrintMatrix}
use Rattle.grid_lang.specs.declared.line.Numbered.{Numbered}
use Rattle.grid_lang.specs.Parts.{may_stand, reached_by}
use Rattle.grid_lang.specs.ProgramParts.{part_of_line, HasParts}

-- What is known before a line: the part that was reached, the number of ranks and of grids, and of each array by its number
-- whether it is an ARRAY; the others are MATRIX.
pub record Known : Type 0 where
  pub reached : Part
  pub ranks : ℕ
  pub grids : ℕ
  pub arrays : List Bool

-- nothing is declared
abbrev pub nothing_known : Known
nothing_known = record { reached = Opening; ranks = 0; grids = 0; arrays = [] }

-- what a line declares
unfoldable pub declared_after : Known → Line → Known
declared_after k (Ranks n) = record k { ranks = n }
declared_after k (Grid order nprow npcol) = record k { grids = k.grids + 1 }
declared_after k (Map nprow npcol ranks) = record k { grids = k.grids + 1 }
declared_after k (Array name g m n mb nb rsrc csrc lld) = record k { arrays = k.arrays ++ true ∷ [] }
declared_after k (Matrix name lld cols) = record k { arrays = k.arrays ++ false ∷ [] }
declared_after k other = k

-- what is known after a line, and after some lines
abbrev pub known_after : Known → Line → Known
known_after k line = record (declared_after k line) { reached = reached_by (part_of_line line) }

abbrev pub known_after_all : Known → List Numbered → Known
known_after_all k [] = k
known_after_all k (l ∷ more) = known_after_all (known_after k l.line) more

-- the number of a declared grid, of an array of either kind, of an ARRAY, of a MATRIX
abbrev pub IsGrid : Known → ℕ → Type 0
IsGrid k g = g < k.grids

abbrev pub IsEither : Known → ℕ → Type 0
IsEither k y = y < length k.arrays

abbrev pub IsArray : Known → ℕ → Type 0
IsArray k x = slice_get k.arrays x ≡ Some true

abbrev pub IsMatrix : Known → ℕ → Type 0
IsMatrix k v = slice_get k.arrays v ≡ Some false

-- RA and CA, where they stand there
abbrev pub AreEither : Known → Option (ℕ × ℕ) → Type 0
AreEither k None = Unit {0}
AreEither k (Some places) = IsEither k places.0 × IsEither k places.1

abbrev pub IsWithin : ℕ → ℕ → Type 0
IsWithin n most = (1 ≤ n) × (n ≤ most)

-- What a line keeps: its grids and arrays are declared before it and of the kind that it takes, its topology has branches, and it
-- passes no limit.
unfoldable pub Keeps : Known → Line → Type 0
Keeps k (Ranks n) = IsWithin n 64
Keeps k (Grid order nprow npcol) = k.grids < 16
Keeps k (Map nprow npcol ranks) = (k.grids < 16) × (length ranks ≡ nprow * npcol)
Keeps k (Array name g m n mb nb rsrc csrc lld) = IsGrid k g × (length k.arrays < 64)
Keeps k (Matrix name lld cols) = IsWithin lld (2 ^ 24) × IsWithin cols (2 ^ 24) × (length k.arrays < 64)
Keeps k (Load x file) = IsArray k x
Keeps k (Fill y a b c d) = IsEither k y
Keeps k (Send g p q area rdest cdest tri) = IsGrid k g × IsEither k area.array
Keeps k (Recv g p q area rsrc csrc tri) = IsGrid k g × IsEither k area.array
Keeps k (Bcast g scope top rsrc csrc area tri) = IsGrid k g × HasBranches top × IsEither k area.array
Keeps k (Sum g scope top dest area) = IsGrid k g × HasBranches top × IsEither k area.array
Keeps k (Amx g scope top dest area rc) = IsGrid k g × HasBranches top × IsEither k area.array × AreEither k rc
Keeps k (Amn g scope top dest area rc) = IsGrid k g × HasBranches top × IsEither k area.array × AreEither k rc
Keeps k (Barrier g scope) = IsGrid k g
Keeps k (Gemr2d mr) = IsArray k mr.a × IsArray k mr.b × IsGrid k mr.grid
Keeps k (Trmr2d uplo diag mr) = IsArray k mr.a × IsArray k mr.b × IsGrid k mr.grid
Keeps k (Save x file) = IsArray k x
Keeps k (SavePieces x prefix) = IsArray k x
Keeps k (PrintArray x) = IsArray k x
Keeps k (PrintMatrix v rank) = IsMatrix k v × (rank < k.ranks)

-- each line stands in its part and keeps this, after what is known before it
abbrev pub AreSound : Known → List Numbered → Type 0
AreSound k [] = Unit {0}
AreSound k (l ∷ more) = (may_stand k.reached (part_of_line l.line) ≡ true) × Keeps k l.line × AreSound (known_after k l.line) more

-- A program: RANKS of 1 to 64 ranks, then declarations, exchanges and results; its lines are sound one after the other, and at
-- most as many as a text has.
pub record IsSound (program : List Numbered) : Type 0 where
  pub parts : HasParts program
  pub lines : AreSound nothing_known program
  pub few : length program ≤ 4096
