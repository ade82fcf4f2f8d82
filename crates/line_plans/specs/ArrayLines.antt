-- The processes of an ARRAY line.
use Rattle.std.specs.Prelude.{◌≡◌, ℕ, ◌^◌, ◌<◌, ◌≤◌, List, length, Option, Some, None, ℤ, pos}
use Rattle.std.specs.List.{AllByRecursion}
use Rattle.proc_grid.specs.FirstOf.{first_of}
use Rattle.proc_grid.specs.Held.{context_at}
use Rattle.descriptor.specs.declared.spread.Spread.{Spread}
use Rattle.line_plans.specs.Fitting.{FitsSizes}
use Rattle.proc_grid.specs.Grid.{Grid}
use Rattle.descriptor.specs.Bounds.{part, least_lld}
use Rattle.descriptor.specs.InfoOf.{Entry}
use Rattle.descriptor.specs.Entries.{descinit_entries}
use Rattle.descriptor.specs.declared.info.Info.{Info}
use Rattle.program_meaning.specs.declared.fault.ExecFault.TheVariants as fault
use Rattle.program_meaning.specs.Declarations.{ArrayWords, lead_on, process_info, spread_of, sizes_over, words_in}
use Rattle.line_plans.specs.declared.array_line.ArrayLine.{ArrayLine}
use Rattle.line_plans.specs.declared.halt.Halt.{Halt}
use Rattle.line_plans.specs.declared.halt.Halt.TheVariants.{Fault, NoMemory}

-- the line's words, as the definitions take them
abbrev pub words_of : ArrayLine → ArrayWords
words_of l = record { grid = l.grid; m = l.m; n = l.n; mb = l.mb; nb = l.nb; rsrc = l.rsrc; csrc = l.csrc; lld = l.lld }

-- DESCINIT's entries on the process of a rank, with this leading dimension
abbrev pub entries_on : List Grid → ArrayWords → ℤ → ℕ → List Entry
entries_on held w lld rank = descinit_entries held w.m w.n w.mb w.nb w.rsrc w.csrc (pos w.grid) lld rank

-- a number from a lowest to a highest
pub record IsNumber (value : ℤ) (low high : ℕ) : Type 0 where
  pub number : value ≡ pos (part value)
  pub least : low ≤ part value
  pub most : part value ≤ high

-- numbers that DESCINIT passes
pub record IsGoodLine (w : ArrayWords) (g : Grid) : Type 0 where
  pub rows : IsNumber w.m 0 (2 ^ 24)
  pub columns : IsNumber w.n 0 (2 ^ 24)
  pub row_block : IsNumber w.mb 1 (2 ^ 24)
  pub column_block : IsNumber w.nb 1 (2 ^ 24)
  pub row_source : IsNumber w.rsrc 0 63
  pub row_below : part w.rsrc < g.nprow
  pub column_source : IsNumber w.csrc 0 63
  pub column_below : part w.csrc < g.npcol

-- each process has a leading dimension that DESCINIT passes: at least that of its rows
pub record HasLeads (w : ArrayWords) (g : Grid) : Type 0 where
  pub each : (p q : ℕ) → p < g.nprow → q < g.npcol → IsNumber (lead_on w g.nprow p w.lld) (least_lld (part w.m) (part w.mb) (part w.rsrc) g.nprow p) (2 ^ 24)

-- the number of a bad entry is told; out of memory may stand in its place
abbrev pub IsInfoHalt : Halt → Option Info → Type 0
IsInfoHalt NoMemory o = Unit {0}
IsInfoHalt (Fault (fault.Info i)) o = o ≡ Some i
IsInfoHalt (Fault other) o = ⊥

-- a leading dimension from 1 to 2^24, and at most as many columns
pub record HasLead (size : ℕ × ℕ) : Type 0 where
  pub least : 1 ≤ size.0
  pub most : size.0 ≤ 2 ^ 24
  pub columns : size.1 ≤ 2 ^ 24

-- how the line's array is spread over its grid, and its sizes by rank
pub record IsMeasured (held : List Grid) (ranks : ℕ) (w : ArrayWords) (spread : Spread) (sizes : List (ℕ × ℕ)) (words : ℕ) : Type 0 where
  pub grid : Grid
  pub known : context_at held (pos w.grid) ≡ Some grid
  pub passed : first_of (process_info held w grid) (length grid.ranks) ≡ None
  pub spread_is : spread ≡ spread_of w grid
  pub sizes_are : sizes ≡ sizes_over (spread_of w grid) grid ranks
  pub words_are : words ≡ words_in sizes
  pub words_fit : words ≤ 2 ^ 60
  pub leads : AllByRecursion HasLead sizes
  pub fits : FitsSizes held ranks sizes spread

-- DESCINIT refuses a process of the line's grid
abbrev pub IsRefusedArray : Halt → List Grid → ArrayWords → Type 0
IsRefusedArray NoMemory held w = Unit {0}
IsRefusedArray (Fault (fault.Info i)) held w = (g : Grid) × (context_at held (pos w.grid) ≡ Some g) × (first_of (process_info held w g) (length g.ranks) ≡ Some i)
IsRefusedArray (Fault other) held w = ⊥
