-- The regions that are held.
use Rattle.std.specs.Prelude.{◌≡◌, List, slice_index_or}
use Rattle.pack_words.specs.declared.cut.Cut.{Cut}
use Rattle.pack_words.specs.declared.region.Region.{Region}
use Rattle.pack_words.specs.declared.shape.Shape.{Shape}
use Rattle.pack_words.specs.declared.held_regions.HeldRegions.{HeldRegions}
use Rattle.pack_words.specs.declared.held_regions.HeldRegions.TheVariants.{One, Whole, Listed, Crossed}
use Rattle.pack_words.specs.Packing.{no_region, selected_count}

-- the list that is held
abbrev pub regions_held : HeldRegions → List Region
regions_held (One region) = region
regions_held (Whole shape region count) = region
regions_held (Listed list) = list.items
regions_held (Crossed crossed) = crossed.value

-- the cut of that shape that has the region's size
abbrev pub cut_of_size : Shape → Region → Cut
cut_of_size shape r = record { shape = shape; m = r.rows; n = r.cols }

-- the count that is kept is that of the region
abbrev pub IsCounted : HeldRegions → Type 0
IsCounted (One region) = Unit {0}
IsCounted (Whole shape region count) = count ≡ selected_count (cut_of_size shape (slice_index_or region 0 no_region)) region
IsCounted (Listed list) = Unit {0}
IsCounted (Crossed crossed) = Unit {0}
