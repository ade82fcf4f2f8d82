-- Before the first exchange each rank holds exactly the arrays that are declared.
use Rattle.std.specs.Prelude.{◌≡◌, ℕ, ◌+◌, ◌<◌, List, [], length, slice_index_or}
use Rattle.pack_words.specs.GridState.{GridState}
use Rattle.pack_words.specs.GridShapes.{ShapesView, shape_of}

pub record IsExact (v : ShapesView) (s : GridState) : Type 0 where
  pub each : (r : ℕ) → r < v.ranks → length (slice_index_or s.arrays r []) ≡ v.count

-- the shapes with one array more, of these sizes by rank
pub record HasMore (v w : ShapesView) (sizes : List (ℕ × ℕ)) : Type 0 where
  pub ranks : w.ranks ≡ v.ranks
  pub count : w.count ≡ v.count + 1
  pub here : (r : ℕ) → r < v.ranks → shape_of w r v.count ≡ slice_index_or sizes r (1, 0)
  pub others : (r a : ℕ) → r < v.ranks → a < v.count → shape_of w r a ≡ shape_of v r a
