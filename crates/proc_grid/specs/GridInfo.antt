-- What a rank learns of a grid. A User's Guide to the BLACS, BLACS_GRIDINFO.
use Rattle.std.specs.Prelude.{ℕ, Option, None, Some, pos, negsuc}
use Rattle.proc_grid.specs.Grid.{Grid, place_of}
use Rattle.proc_grid.specs.declared.context.GridInfo.{GridInfo}

-- the shape with the rank's place, or four times -1
abbrev pub info_at : Grid → Option (ℕ × ℕ) → GridInfo
info_at g None = record { nprow = negsuc 0; npcol = negsuc 0; myrow = negsuc 0; mycol = negsuc 0 }
info_at g (Some place) = record { nprow = pos g.nprow; npcol = pos g.npcol; myrow = pos place.0; mycol = pos place.1 }

abbrev pub gridinfo_of : Grid → ℕ → GridInfo
gridinfo_of g rank = info_at g (place_of g rank)
