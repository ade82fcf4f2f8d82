-- What holds of the results of a program before and after its run.
use Rattle.std.specs.Prelude.{◌≡◌, ℕ, ◌+◌, ◌*◌, ◌<◌, ◌≤◌, ◌^◌, List, [], length, Option, Some, slice_get, slice_index, slice_index_or, is_some, true}
use Rattle.std.specs.List.{AllByRecursion}
use Rattle.proc_grid.specs.Grid.{Grid}
use Rattle.proc_grid.specs.Held.{context_at}
use Rattle.descriptor.specs.Good.{IsGood}
use Rattle.descriptor.specs.declared.spread.Spread.{Spread}
use Rattle.index_tools.specs.Home.{local_rows, local_columns}
use Rattle.mr2d.specs.Homes.{Arrays, cells_of}
use Rattle.grid_lang.specs.declared.line.Line.{Line}
use Rattle.grid_lang.specs.declared.line.Line.TheVariants.{Save, SavePieces, PrintArray, PrintMatrix}
use Rattle.grid_lang.specs.declared.line.Numbered.{Numbered}
use Rattle.program_results.specs.Placed.{Placed}
use Rattle.program_results.specs.EndsView.{EndsView}
use Rattle.program_results.specs.declared.file.Source.{Source}
use Rattle.program_results.specs.declared.file.Source.TheVariants.{Whole, Piece}
use Rattle.program_results.specs.declared.file.Print.{Print}
use Rattle.program_results.specs.declared.file.Print.TheVariants as print

-- ---- before

-- an ARRAY is spread over a grid that is declared, as its entries say
pub record IsGoodOn (grids : List Grid) (spread : Spread) : Type 0 where
  pub known : is_some (context_at grids spread.desc.ctxt) ≡ true
  pub good : (g : Grid) → context_at grids spread.desc.ctxt ≡ Some g → IsGood spread g

-- each ARRAY is
abbrev pub AreGood : List Grid → List (Option Spread) → Type 0
AreGood grids spreads = (array : ℕ) (spread : Spread) → slice_get spreads array ≡ Some (Some spread) → IsGoodOn grids spread

-- the array of that number is an ARRAY
abbrev pub IsArray : List (Option Spread) → ℕ → Type 0
IsArray spreads array = (spread : Spread) × (slice_get spreads array ≡ Some (Some spread))

-- A result line asks for arrays that are there. There are so many ranks.
abbrev pub AsksFor : (ranks : ℕ) → List (Option Spread) → Line → Type 0
AsksFor ranks spreads (Save array file) = IsArray spreads array
AsksFor ranks spreads (SavePieces array prefix) = IsArray spreads array
AsksFor ranks spreads (PrintArray array) = IsArray spreads array
AsksFor ranks spreads (PrintMatrix array rank) = (array < length spreads) × (rank < ranks)
AsksFor ranks spreads other = Unit {0}

pub record AskFor (ranks : ℕ) (spreads : List (Option Spread)) (lines : List Numbered) : Type 0 where
  pub each : AllByRecursion (λ l. AsksFor ranks spreads l.line) lines
  pub few : length lines ≤ 4096

-- ---- what is asked

-- the array of that number is an ARRAY, whose place is known
abbrev pub HasPlace : List (Option Placed) → ℕ → Type 0
HasPlace places array = (x : Placed) × (slice_get places array ≡ Some (Some x))

-- and the process is one of its grid
abbrev pub HasProcess : List (Option Placed) → (array process : ℕ) → Type 0
HasProcess places array process = (x : Placed) × (slice_get places array ≡ Some (Some x)) × (process < x.layout.nprow * x.layout.npcol)

abbrev pub HasSource : List (Option Placed) → Source → Type 0
HasSource places (Whole array) = HasPlace places array
HasSource places (Piece array process) = HasProcess places array process

abbrev pub HasPrint : List (Option Placed) → Print → Type 0
HasPrint places (print.Array array) = HasPlace places array
HasPrint places (print.Matrix array rank) = Unit {0}

-- the places of all that is to be written whole or in pieces are known
pub record IsEnds (e : EndsView) : Type 0 where
  pub files : AllByRecursion (λ f. HasSource e.places f.source) e.files
  pub prints : AllByRecursion (HasPrint e.places) e.prints
  pub few : length e.files ≤ 2 ^ 18

-- ---- after

-- a rank has the array of that number
pub record HasCells (arrays : Arrays) (rank array : ℕ) : Type 0 where
  pub rank_below : rank < length arrays
  pub array_below : array < length (slice_index_or arrays rank [])

-- the rank of the process (p, q)
abbrev pub rank_at : Placed → (p q : ℕ) → ℕ
rank_at x p q = slice_index x.ranks (p * x.layout.npcol + q)

-- it has the array, with room for the rows and columns that lie there
pub record HasPart (arrays : Arrays) (array : ℕ) (x : Placed) (p q : ℕ) : Type 0 where
  pub there : HasCells arrays (rank_at x p q) array
  pub rows : local_rows x.layout p ≤ (cells_of arrays (rank_at x p q) array).lld
  pub columns : local_columns x.layout q ≤ (cells_of arrays (rank_at x p q) array).cols

-- so has the rank of each process
abbrev pub HoldsParts : Arrays → ℕ → Placed → Type 0
HoldsParts arrays array x = (p q : ℕ) → p < x.layout.nprow → q < x.layout.npcol → HasPart arrays array x p q

abbrev pub HoldsPrint : Arrays → Print → Type 0
HoldsPrint arrays (print.Array array) = Unit {0}
HoldsPrint arrays (print.Matrix array rank) = HasCells arrays rank array

-- the arrays are there of which the results tell
pub record Fits (e : EndsView) (arrays : Arrays) : Type 0 where
  pub spread : (array : ℕ) (x : Placed) → slice_get e.places array ≡ Some (Some x) → HoldsParts arrays array x
  pub printed : AllByRecursion (HoldsPrint arrays) e.prints
