-- Which places operations write.
use Rattle.std.specs.Prelude.{◌≡◌, ◌≢◌, ℕ, ◌==◌, ◌&&◌, Bool, Option, Some, None, List, [], ◌∷◌, ◌++◌, map, count_by}
use Rattle.std.specs.List.{flat_map}
use Rattle.pack_words.specs.declared.cut.Cut.{Cut}
use Rattle.pack_words.specs.declared.region.Region.{Region}
use Rattle.pack_words.specs.declared.rank_op.RankOp.{RankOp}
use Rattle.pack_words.specs.declared.rank_op.RankOp.TheVariants.{Put, Get, Copy, LoadAcc, PutAcc, JoinAcc, GetAcc, StoreAcc, Pulse}
use Rattle.pack_words.specs.declared.coords.Coords.{Coords}
use Rattle.pack_words.specs.WholeRegions.{whole_cut, corner}
use Rattle.pack_words.specs.LocalCells.{place}
use Rattle.pack_words.specs.Packing.{spots}
use Rattle.mr2d.specs.Homes.{RankPlace, rank_place, Arrays, cells_of}
use Rattle.mr2d.specs.Moves.{Move, IsElement, home_b, is_same_place}

-- a place of the array of a number, on a rank
pub record Target : Type 0 where
  pub array : ℕ
  pub at : RankPlace

-- the places of the selected elements of these regions, in a rank's array of that number
abbrev pub places_in : Arrays → ℕ → ℕ → Cut → List Region → List Target
places_in arrays rank array cut rs = map (λ p. record { array = array; at = rank_place rank (place (cells_of arrays rank array).lld p.0 p.1) }) (spots cut rs)

-- the places of all elements of a region
abbrev pub places_of : Arrays → ℕ → ℕ → Region → List Target
places_of arrays rank array r = places_in arrays rank array (whole_cut r) (r ∷ [])

-- the places of the coordinates, where they are stored
abbrev pub coord_targets : Arrays → ℕ → Region → Option Coords → List Target
coord_targets arrays rank r None = []
coord_targets arrays rank r (Some c) = places_of arrays rank c.ra (corner r) ++ places_of arrays rank c.ca (corner r)

-- The places that an operation writes, one for each word: a receive and a copy write into one array of their own rank, and
-- so does the accumulator's store, which can have two more for coordinates.
abbrev pub op_targets : Arrays → ℕ → RankOp → List Target
op_targets arrays rank (Put to a rs cut) = []
op_targets arrays rank (Get from b ts cut) = places_in arrays rank b cut ts
op_targets arrays rank (Copy a rs b ts cut) = places_in arrays rank b cut ts
op_targets arrays rank (LoadAcc a r k) = []
op_targets arrays rank (PutAcc to n pairs) = []
op_targets arrays rank (JoinAcc from n fold) = []
op_targets arrays rank (GetAcc from n pairs) = []
op_targets arrays rank (StoreAcc a r coords) = places_of arrays rank a r ++ coord_targets arrays rank r coords
op_targets arrays rank (Pulse peer sends) = []

abbrev pub targets_of : Arrays → List (ℕ × RankOp) → List Target
targets_of arrays xs = flat_map (λ x. op_targets arrays x.0 x.1) xs

abbrev pub is_target : ℕ → RankPlace → Target → Bool
is_target array at x = (x.array == array) && is_same_place x.at at

-- how many words operations write at a place
abbrev pub target_count : Arrays → ℕ → RankPlace → List (ℕ × RankOp) → ℕ
target_count arrays array at xs = count_by (is_target array at) (targets_of arrays xs)

-- Each home in B of a selected element is a target of exactly one of the operations, which writes it once and is its owner's;
-- no other place is a target.
pub record AreTargets (mv : Move) (arrays : Arrays) (xs : List (ℕ × RankOp)) : Type 0 where
  pub once : (i j : ℕ) → IsElement mv i j → target_count arrays mv.b.array (home_b mv i j) xs ≡ 1
  pub no_other : (array : ℕ) (at : RankPlace) → (array ≡ mv.b.array → (i j : ℕ) → IsElement mv i j → home_b mv i j ≢ at) → target_count arrays array at xs ≡ 0
