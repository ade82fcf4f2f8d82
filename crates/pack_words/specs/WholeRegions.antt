-- Rectangles of a local array whose elements are all taken, by columns.
use Rattle.std.specs.Prelude.{◌≡◌, ◌*◌, ◌^◌, ◌≤◌, ℤ, List, [], ◌∷◌}
use Rattle.pack_words.specs.declared.cut.Cut.{Cut}
use Rattle.pack_words.specs.declared.shape.Shape.TheVariants.{Ge}
use Rattle.pack_words.specs.declared.region.Region.{Region}
use Rattle.pack_words.specs.LocalCells.{LocalCells}
use Rattle.pack_words.specs.Packing.{packed, unpacked}

-- the whole matrix that has the region's size
abbrev pub whole_cut : Region → Cut
whole_cut r = record { shape = Ge; m = r.rows; n = r.cols }

-- the region is such a matrix, of at most 2^26 elements
pub record IsWhole (r : Region) : Type 0 where
  pub first_row : r.i0 ≡ 0
  pub first_column : r.j0 ≡ 0
  pub most : r.rows * r.cols ≤ 2 ^ 26

-- the words of all its elements, by columns
abbrev pub whole_words : Region → LocalCells → List ℤ
whole_words r c = packed (whole_cut r) (r ∷ []) c

-- the array after these words are assigned to all its elements, by columns
abbrev pub with_whole_words : Region → List ℤ → LocalCells → LocalCells
with_whole_words r ws c = unpacked (whole_cut r) (r ∷ []) ws c

-- the region of that size that begins at the array's first row and column
abbrev pub corner : Region → Region
corner r = record { li = 0; lj = 0; rows = r.rows; cols = r.cols; i0 = 0; j0 = 0 }
