-- The local arrays of a grid's ranks.
use Rattle.std.proofs.Common.{◌≡◌, ℕ, zero, suc, ◌+◌, ◌*◌, ◌/◌, ◌%◌, ◌<◌, List, [], ◌∷◌, length, get_or, refl, ap, ◌∙◌, arith}
use Rattle.std.specs.Prelude.{slice_index}
use Rattle.std.proofs.Math.Nat.{mod-lt, div-lt_iff_lt-mul}
use Rattle.std.proofs.lemmas.Nat.{div-add-mod', mul-add-lt}
use Rattle.pack_words.specs.LocalCells.{zeros}
use Rattle.mr2d.specs.Homes.{Arrays, cells_of}
use Rattle.spread_cells.specs.Joining.{array_at}
use Rattle.program_results.specs.Placed.{Placed, arrays_on, cells_on}
use Rattle.program_results.specs.Standing.{rank_at}

cells_are : (arrays : Arrays) (array : ℕ) (ranks : List ℕ) (k : ℕ) → k < length ranks → cells_of arrays (slice_index ranks k) array ≡ get_or (arrays_on arrays array ranks) k (zeros 1 0)
cells_are arrays array [] k lt = absurd (omega arith)
cells_are arrays array (r ∷ ranks) zero lt = refl
cells_are arrays array (r ∷ ranks) (suc k) lt = cells_are arrays array ranks k (omega arith)

-- that of process (p, q) is the array of its rank
pub part_is : (arrays : Arrays) (array : ℕ) (x : Placed) (p q : ℕ) → length x.ranks ≡ x.layout.nprow * x.layout.npcol → p < x.layout.nprow → q < x.layout.npcol → cells_of arrays (rank_at x p q) array ≡ array_at x.layout (arrays_on arrays array x.ranks) p q
part_is arrays array x p q filled row column = cells_are arrays array x.ranks (p * x.layout.npcol + q) (omega (arith, filled, mul-add-lt p x.layout.npcol q x.layout.nprow row column))

-- and that of process k
pub piece_is : (arrays : Arrays) (array : ℕ) (x : Placed) (k : ℕ) → length x.ranks ≡ x.layout.nprow * x.layout.npcol → k < x.layout.nprow * x.layout.npcol → cells_of arrays (rank_at x (k / x.layout.npcol) (k % x.layout.npcol)) array ≡ cells_on arrays array x k
piece_is arrays array x k filled lt =
    ap (λ (n : ℕ). cells_of arrays (slice_index x.ranks n) array) (div-add-mod' k x.layout.npcol)
    ∙ cells_are arrays array x.ranks k (omega (arith, filled, lt))

-- the process row and column of process k
pub row_below : (nprow npcol k : ℕ) → 0 < npcol → k < nprow * npcol → k / npcol < nprow
row_below nprow npcol k some lt = (div-lt_iff_lt-mul some).1 lt

pub column_below : (npcol k : ℕ) → 0 < npcol → k % npcol < npcol
column_below npcol k some = mod-lt k some
