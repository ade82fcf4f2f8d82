use Rattle.std.proofs.Common.{◌≡◌, None, take}
use Rattle.proc_grid.specs.FirstOf.{first_of}
use Rattle.proc_grid.specs.Refusals.{mapped_grid, place_refusal}
use Rattle.proc_grid.proofs.making.read_map.Given as goal

abbrev pub invariant-loop-place : goal.invariant-loop-place
invariant-loop-place l = record {
  read : take l.place l.places ≡ take l.place (mapped_grid l.usermap l.ldumap l.nprow l.npcol).ranks;
  good : first_of (place_refusal l.world.ranks (mapped_grid l.usermap l.ldumap l.nprow l.npcol).ranks) l.place ≡ None;
}
