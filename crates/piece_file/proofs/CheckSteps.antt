-- The checks of a head's line, by what the code finds.
use Rattle.std.proofs.Common.{◌≡◌, ℕ, ◌<◌, ◌≤◌, true, false, pos, [], ◌∷◌, Option, Some, None, refl, sym, ap, subst, ◌∙◌}
use Rattle.proc_grid.specs.Grid.{place_of}
use Rattle.proc_grid.specs.Refusals.{dealt_grid, dealt_rank}
use Rattle.proc_grid.specs.declared.world.Order.TheVariants.{R}
use Rattle.descriptor.specs.Bounds.{part}
use Rattle.descriptor.specs.InfoOf.{info_of}
use Rattle.descriptor.specs.Entries.{seat_entries}
use Rattle.descriptor.specs.declared.seat.Seat.{Seat}
use Rattle.descriptor.proofs.SeatLaws.{at_seat}
use Rattle.descriptor.specs.declared.info.Info.{Info}
use Rattle.piece_grammar.specs.Desc.{Desc, is_off_grid, desc_info, head_of}
use Rattle.piece_grammar.specs.Faults.{DescLine, Disagree, DescEntry, WrongPlace}
use Rattle.piece_grammar.specs.Turn.{Turn}
use Rattle.piece_grammar.specs.FaultTable.{first_fault, disagrees, is_elsewhere, desc_rows}
use Rattle.piece_grammar.specs.Head.{Head}
use Rattle.piece_grammar.proofs.Heads.{IsOnGrid, on_grid, here, agreed, none_met}
use Rattle.piece_grammar.proofs.GoodHeads.{tested, place_dealt}
use Rattle.piece_file.specs.Asking.{IsAsked}

-- what `descinit` finds of the numbers at the seat of their process
pub info_there : (d : Desc) (h : Head) (seat : Seat) (info : Option Info) → h ≡ head_of d → is_off_grid d ≡ false → seat.nprow ≡ h.nprow → seat.npcol ≡ h.npcol → seat.row ≡ h.prow
    → info ≡ info_of (seat_entries seat d.m d.n d.mb d.nb d.rsrc d.csrc d.lld) → info ≡ desc_info d
info_there d h seat info same off rows columns row is =
    let on : IsOnGrid d = on_grid d off in
    let grid = dealt_grid R (part d.nprow) (part d.npcol) in
    let rank : ℕ = dealt_rank R (part d.nprow) (part d.npcol) (part d.prow) (part d.pcol) in
    let place : place_of grid rank ≡ Some (part d.prow, part d.pcol) = place_dealt (part d.nprow) (part d.npcol) (part d.prow) (part d.pcol) on.some_rows on.few_rows on.some_columns on.few_columns on.few on.row on.column in
    let here : seat.row ≡ part d.prow = row ∙ ap (λ (x : Head). x.prow) same in
    let seated : place_of grid rank ≡ Some (seat.row, part d.pcol) = place ∙ ap (λ (p : ℕ). Some (p, part d.pcol)) (sym here) in
    is ∙ sym (at_seat (grid ∷ []) d.m d.n d.mb d.nb d.rsrc d.csrc (pos 0) d.lld rank grid seat (part d.pcol) refl seated (rows ∙ ap (λ (x : Head). x.nprow) same) (columns ∙ ap (λ (x : Head). x.npcol) same))

-- the process is one of the grid
pub is_seat : (d : Desc) (h : Head) → h ≡ head_of d → is_off_grid d ≡ false → (h.nprow ≤ 64) × (0 < h.npcol) × (h.prow < h.nprow)
is_seat d h same off =
    let on : IsOnGrid d = on_grid d off in
    subst (λ (x : Head). (x.nprow ≤ 64) × (0 < x.npcol) × (x.prow < x.nprow)) (sym same) (on.few_rows, on.some_columns, on.row)

-- ---- the rows of the line

pub row_grid : (turn : Turn) (d : Desc) → is_off_grid d ≡ true → first_fault (desc_rows turn (Some d)) ≡ Some DescLine
row_grid turn d off = rw off refl

pub row_differs : (turn : Turn) (d : Desc) → is_off_grid d ≡ false → disagrees turn.first d ≡ true → first_fault (desc_rows turn (Some d)) ≡ Some Disagree
row_differs turn d off other = rw (off, other) refl

pub row_entry : (turn : Turn) (d : Desc) (info : Info) → is_off_grid d ≡ false → disagrees turn.first d ≡ false → Some info ≡ desc_info d → first_fault (desc_rows turn (Some d)) ≡ Some (DescEntry info)
row_entry turn d info off same is = let e : desc_info d ≡ Some info = sym is in rw (off, same, e) refl

pub row_elsewhere : (turn : Turn) (d : Desc) → is_off_grid d ≡ false → disagrees turn.first d ≡ false → None ≡ desc_info d → is_elsewhere turn d ≡ true → first_fault (desc_rows turn (Some d)) ≡ Some WrongPlace
row_elsewhere turn d off same is other = let e : desc_info d ≡ None = sym is in rw (off, same, e, other) refl

-- no row is met, and the head is the one that is asked for
pub finds_head : (turn : Turn) (d : Desc) (h : Head) → is_off_grid d ≡ false → disagrees turn.first d ≡ false → None ≡ desc_info d → is_elsewhere turn d ≡ false → h ≡ head_of d
    → (h ≡ head_of d) × (first_fault (desc_rows turn (Some d)) ≡ None) × IsAsked turn h
finds_head turn d h off same is place e =
    let p = here turn d place in (
      e,
      none_met turn d (record { on_grid = off; agrees = same; good = sym is; place = place }),
      subst (λ (x : Head). IsAsked turn x) (sym e) (record { is_head = (tested.passed d off (sym is)).0; row = p.0; column = p.1; agrees = agreed turn.first d same }),
    )
