-- The seat is one of the grid, and what `descinit` finds there is the INFO of the head.
use Rattle.std.proofs.Common.{refl}
use Rattle.descriptor.specs.declared.seat.Seat.{Seat}
use Rattle.piece_file.specs.HeadView.{head_view}
use Rattle.piece_file.specs.Asking.{desc_view}
use Rattle.piece_file.proofs.CheckSteps.{is_seat, info_there}
use Rattle.piece_file.proofs.checks.entry_info.Goals as goal

pub invariant_of-seat : goal.invariant_of-seat
invariant_of-seat c =
    let is = is_seat (desc_view c.args.desc.now) (head_view c.args.head.now) c.requires.same c.requires.on_grid in
    record { few = is.0; some_columns = is.1; row_below = is.2 }

pub returns : goal.returns
returns c =
    let h = c.args.head.now in
    let is = is_seat (desc_view c.args.desc.now) (head_view h) c.requires.same c.requires.on_grid in
    let seat : Seat = record { nprow = h.nprow; npcol = h.npcol; row = h.prow; few = is.0; some_columns = is.1; row_below = is.2 } in
    info_there (desc_view c.args.desc.now) (head_view h) seat c.info_at.result c.requires.same c.requires.on_grid refl refl refl c.info_at.ensures
