-- When a grid is refused, and the places of a new one. A User's Guide to the BLACS, BLACS_GRIDINIT and BLACS_GRIDMAP.
use Rattle.std.specs.Prelude.{ℕ, ◌<◌, ◌≤◌, ◌+◌, ◌-◌, ◌*◌, ◌/◌, ◌%◌, ◌==◌, ◌||◌, Bool, nat_lt, nat_le, List, length, take, slice_index, Option, None, Some, if◌then◌else◌}
use Rattle.std.specs.List.{list_any}
use Rattle.std.specs.Option.{option_or}
use Rattle.proc_grid.specs.FirstOf.{first_of}
use Rattle.proc_grid.specs.Grid.{Grid, grid_by}
use Rattle.proc_grid.specs.declared.grid_err.GridErr.{GridErr}
use Rattle.proc_grid.specs.declared.grid_err.GridErr.TheVariants.{BadShape, TooMany, BadLead, NoProcess, Twice}
use Rattle.proc_grid.specs.declared.world.Order.{Order}
use Rattle.proc_grid.specs.declared.world.Order.TheVariants.{R, C}

-- the order that a letter names, in either case
abbrev pub order_of : ℕ → Option Order
order_of c = if c == 82 || c == 114 then Some R else if c == 67 || c == 99 then Some C else None

-- a number of process rows or columns that no grid has
abbrev pub is_bad_extent : ℕ → Bool
is_bad_extent n = n == 0 || nat_lt 64 n

-- a shape that no grid has, or one with more places than there are ranks
abbrev pub shape_refusal : ℕ → ℕ → ℕ → Option GridErr
shape_refusal ranks nprow npcol =
    if is_bad_extent nprow || is_bad_extent npcol then Some (BadShape nprow npcol)
    else if nat_lt ranks (nprow * npcol) then Some (TooMany (nprow * npcol) ranks)
    else None

-- what is known of a shape that is not refused
pub record FitsShape (ranks nprow npcol : ℕ) : Type 0 where
  pub some_rows : 0 < nprow
  pub few_rows : nprow ≤ 64
  pub some_columns : 0 < npcol
  pub few_columns : npcol ≤ 64
  pub places : nprow * npcol ≤ ranks
  pub few_ranks : ranks ≤ 64

-- the rank at (p, q) where the ranks are dealt out by rows, or by columns
abbrev pub dealt_rank : Order → ℕ → ℕ → ℕ → ℕ → ℕ
dealt_rank R nprow npcol p q = p * npcol + q
dealt_rank C nprow npcol p q = q * nprow + p

-- the place of a rank where the ranks are dealt out by rows, or by columns
abbrev pub dealt_place : Order → ℕ → ℕ → ℕ → ℕ × ℕ
dealt_place R nprow npcol rank = (rank / npcol, rank % npcol)
dealt_place C nprow npcol rank = (rank % nprow, rank / nprow)

abbrev pub dealt_grid : Order → ℕ → ℕ → Grid
dealt_grid order nprow npcol = grid_by nprow npcol (dealt_rank order nprow npcol)

-- the grid that a map by columns names, where each column takes `lead` entries
abbrev pub mapped_grid : List ℕ → ℕ → ℕ → ℕ → Grid
mapped_grid usermap lead nprow npcol = grid_by nprow npcol (λ p q. slice_index usermap (q * lead + p))

-- columns that are too short for the rows, or a map that ends before its last place
abbrev pub lead_refusal : List ℕ → ℕ → ℕ → ℕ → Option GridErr
lead_refusal usermap lead nprow npcol = if nat_lt lead nprow || nat_lt (length usermap) (lead * (npcol - 1) + nprow) then Some BadLead else None

-- The place with the number k is bad where its rank isn't there, or stands at an earlier place.
abbrev pub place_refusal : ℕ → List ℕ → ℕ → Option GridErr
place_refusal ranks places k =
    if nat_le ranks (slice_index places k) then Some (NoProcess (slice_index places k))
    else if list_any (λ rank. rank == slice_index places k) (take k places) then Some (Twice (slice_index places k))
    else None

-- the first refusal of a map: of its shape, of its leading dimension, or of its first bad place in row-major order
abbrev pub map_refusal : ℕ → List ℕ → ℕ → ℕ → ℕ → Option GridErr
map_refusal ranks usermap lead nprow npcol =
    option_or (shape_refusal ranks nprow npcol)
    (option_or (lead_refusal usermap lead nprow npcol)
    (first_of (place_refusal ranks (mapped_grid usermap lead nprow npcol).ranks) (nprow * npcol)))
