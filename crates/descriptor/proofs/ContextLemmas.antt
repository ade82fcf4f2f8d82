-- Ranks in a context.
use Rattle.std.proofs.Common.{◌≡◌, ℕ, ◌<◌, ◌&&◌, Bool, true, false, nat_lt, cond, Option, None, Some, slice_get, refl, arith}
use Rattle.std.proofs.lemmas.Bool.Decides.{nat_tests}
use Rattle.proc_grid.specs.Grid.{Grid, IsGrid, place_of, place_number}
use Rattle.proc_grid.proofs.GridLemmas.{rank_at-place_of}

-- The place of a rank is one of the grid's.
pub seat_below : (g : Grid) (rank p q : ℕ) → place_of g rank ≡ Some (p, q) → IsGrid g → (p < g.nprow) × (q < g.npcol)
seat_below g rank p q e w = let h = held (nat_lt p g.nprow) (nat_lt q g.npcol) (slice_get g.ranks (place_number g.npcol p q)) (rank_at-place_of g p q rank w e) in (below _ _ h.0, below _ _ h.1)
  where
    below : (a b : ℕ) → nat_lt a b ≡ true → a < b
    below a b h = grind (arith, nat_tests)

    held : (a b : Bool) (o : Option ℕ) → cond (a && b) o None ≡ Some rank → (a ≡ true) × (b ≡ true)
    held true true o h = (refl, refl)
    held true false o h = cc
    held false b o h = cc
