-- Parts of local arrays, and when they fit.
use Rattle.std.specs.Prelude.{ℕ, ◌+◌, ◌-◌, Bool, ◌&&◌, nat_le}
use Rattle.pack_words.specs.declared.cut.Cut.{Cut}
use Rattle.pack_words.specs.declared.shape.Shape.{Shape}
use Rattle.scope_ops.specs.declared.part.Part.{Part}
use Rattle.scope_ops.specs.declared.part.Spot.{Spot}

-- an m by n part from row i and column j on, counted from 1, lies in an array of that size
abbrev pub fits_at : ℕ × ℕ → ℕ → ℕ → ℕ → ℕ → Bool
fits_at size i j m n = nat_le 1 i && nat_le 1 j && nat_le (i - 1 + m) size.0 && nat_le (j - 1 + n) size.1

abbrev pub fits : ℕ × ℕ → Part → Bool
fits size part = fits_at size part.i part.j part.m part.n

-- the part of the same rows and columns that begins at a spot
abbrev pub part_from : Spot → Part → Part
part_from spot part = record { array = spot.array; i = spot.i; j = spot.j; m = part.m; n = part.n }

-- the shape in a matrix of the part's rows and columns
abbrev pub cut_of : Shape → Part → Cut
cut_of shape part = record { shape = shape; m = part.m; n = part.n }
