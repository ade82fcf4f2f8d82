-- The operations of parts, and what is known of a part and its ranks once they are looked at.
use Rattle.std.specs.Prelude.{◌≡◌, ℕ, ◌<◌, ◌≤◌, true, Option, List, [], ◌∷◌}
use Rattle.proc_grid.specs.Grid.{Grid, rank_of}
use Rattle.pack_words.specs.declared.shape.Shape.{Shape}
use Rattle.pack_words.specs.declared.region.Region.{Region}
use Rattle.pack_words.specs.declared.rank_op.RankOp.{RankOp}
use Rattle.pack_words.specs.declared.rank_op.RankOp.TheVariants.{Put, Get}
use Rattle.pack_words.specs.RankOps.{AreMoved}
use Rattle.pack_words.specs.GridShapes.{ShapesView, IsSize, shape_of}
use Rattle.pack_words.specs.Parts.{part_region}
use Rattle.scope_ops.specs.declared.part.Part.{Part}
use Rattle.scope_ops.specs.declared.scope_err.ScopeErr.{ScopeErr}
use Rattle.scope_ops.specs.Parts.{fits, cut_of}
use Rattle.scope_ops.specs.Refusals.{point_fault}

-- the part as one region
abbrev pub regions_of : Shape → Part → List Region
regions_of shape part = part_region (cut_of shape part) part.i part.j ∷ []

-- its selected elements are sent
abbrev pub put_of : ℕ → Shape → Part → RankOp
put_of to shape part = Put to part.array (regions_of shape part) (cut_of shape part)

-- a message is received into them
abbrev pub get_of : ℕ → Shape → Part → RankOp
get_of from shape part = Get from part.array (regions_of shape part) (cut_of shape part)

-- the part begins at a row and a column that are counted from 1, and it selects at most 2^26 elements
pub record IsGoodPart (shape : Shape) (part : Part) : Type 0 where
  pub row : 1 ≤ part.i
  pub column : 1 ≤ part.j
  pub moved : AreMoved (cut_of shape part) (regions_of shape part)

-- the part fits an array of that size
pub record Fits (size : ℕ × ℕ) (part : Part) : Type 0 where
  pub size_is : IsSize size
  pub fits_is : fits size part ≡ true

-- both places are in the grid, with these ranks, and the part fits the first
pub record IsPoint (g : Grid) (v : ShapesView) (me other : ℕ × ℕ) (part : Part) (ranks : ℕ × ℕ) : Type 0 where
  pub me_is : rank_of g me ≡ ranks.0
  pub other_is : rank_of g other ≡ ranks.1
  pub me_within : ranks.0 < v.ranks
  pub other_within : ranks.1 < v.ranks
  pub part_fits : Fits (shape_of v ranks.0 part.array) part
  pub no_fault : (later : Option ScopeErr) → point_fault g v me other part later ≡ later
