-- The check at a seat is that of DESCINIT there.
use Rattle.std.proofs.Common.{◌≡◌, ℕ, List, Option, Some, ℤ, refl}
use Rattle.proc_grid.specs.Grid.{Grid, place_of}
use Rattle.proc_grid.specs.Held.{context_at}
use Rattle.descriptor.specs.InfoOf.{info_of}
use Rattle.descriptor.specs.Entries.{descinit_entries, seat_entries}
use Rattle.descriptor.specs.declared.seat.Seat.{Seat}

-- Where a rank of a context has this seat, DESCINIT finds for it what the check at the seat does.
pub at_seat : (held : List Grid) (m n mb nb irsrc icsrc ictxt lld : ℤ) (rank : ℕ) (g : Grid) (seat : Seat) (q : ℕ) → context_at held ictxt ≡ Some g → place_of g rank ≡ Some (seat.row, q) → seat.nprow ≡ g.nprow → seat.npcol ≡ g.npcol
    → info_of (descinit_entries held m n mb nb irsrc icsrc ictxt lld rank) ≡ info_of (seat_entries seat m n mb nb irsrc icsrc lld)
at_seat held m n mb nb irsrc icsrc ictxt lld rank g seat q context place rows columns = rw (context, place, rows, columns) refl
