-- The indices that a process owns, as the code lists them.
use Rattle.std.specs.Prelude.{ℕ, ◌<◌, List, length, map, slice_index}
use Rattle.std.specs.Global.{Vec}
use Rattle.std.specs.List.{range_with_len}
use Rattle.index_tools.specs.Spread.{Spread, IsIndexAt}
use Rattle.spread_cells.specs.Spreading.{owned}

-- place k holds the index with k of the process's indices below it
abbrev pub AreOwned : Spread → ℕ → List ℕ → Type 0
AreOwned s process indices = (k : ℕ) → k < length indices → IsIndexAt s process k (slice_index indices k)

-- the lists in a list of vectors
abbrev pub lists_of : List (Vec ℕ) → List (List ℕ)
lists_of vs = map (λ v. v.items) vs

-- the indices below n that the first processes own, process by process
abbrev pub owned_by : Spread → (n processes : ℕ) → List (List ℕ)
owned_by s n processes = map (λ process. owned s process n) (range_with_len 0 processes)
