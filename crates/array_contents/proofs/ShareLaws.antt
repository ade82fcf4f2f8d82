-- The shares of the ranks: lists of rows and columns of the matrix.
use Rattle.std.specs.Prelude.{◌≡◌, ℕ, ◌*◌, ◌<◌, ◌≤◌, ℤ, List, [], length, map, Option, None, Some, slice_get, slice_index, slice_index_or}
use Rattle.std.specs.Global.{Vec}
use Rattle.std.specs.List.{range_with_len}
use Rattle.std.proofs.Common.{refl, sym, ap, ◌∙◌, subst, arith}
use Rattle.std.proofs.lemmas.List.{get_or-map}
use Rattle.std.proofs.lemmas.List.FromFn.{get_or-map-range_with_len}
use Rattle.index_tools.specs.Spread.{Spread}
use Rattle.index_tools.specs.Home.{Layout, row_spread, column_spread}
use Rattle.proc_grid.specs.Grid.{Grid, IsGrid, place_of}
use Rattle.spread_cells.specs.Spreading.{owned}
use Rattle.spread_cells.specs.Owned.{lists_of, owned_by}
use Rattle.spread_cells.proofs.OwnedLists.{lists_length, list_is}
use Rattle.mr2d.proofs.BetweenLaws.{IsPlaceOf, place_is}
use Rattle.array_contents.specs.declared.shares.Shares.{Shares}
use Rattle.array_contents.specs.declared.local_words.Source.{Source}
use Rattle.array_contents.specs.declared.local_words.Source.TheVariants.{Fill, Load}
use Rattle.array_contents.specs.LocalWords.{IsFrom, IsColumn}
use Rattle.array_contents.specs.Shares.{rows_by, columns_by, AreShares, IsSized}
use Rattle.array_contents.proofs.PlaceLaws.{owned_below, got_below}

-- a rank's place is one of the lists
pub row_inside : (l : Layout) (g : Grid) (shares : Shares) (r p q : ℕ) → IsGrid g → l.nprow ≡ g.nprow → AreShares l shares → place_of g r ≡ Some (p, q) → p < length shares.rows.items
row_inside l g shares r p q w same are e =
    let h : IsPlaceOf g r p q = place_is g r p q w e in
    let low = h.row in
    omega (arith, low, same, lists_length (row_spread l) l.rows l.nprow shares.rows.items are.rows)

pub column_inside : (l : Layout) (g : Grid) (shares : Shares) (r p q : ℕ) → IsGrid g → l.npcol ≡ g.npcol → AreShares l shares → place_of g r ≡ Some (p, q) → q < length shares.columns.items
column_inside l g shares r p q w same are e =
    let h : IsPlaceOf g r p q = place_is g r p q w e in
    let low = h.column in
    omega (arith, low, same, lists_length (column_spread l) l.columns l.npcol shares.columns.items are.columns)

-- a list of all is that of its process
list_at : (s : Spread) (n processes k : ℕ) (vs : List (Vec ℕ)) (v : Vec ℕ) → lists_of vs ≡ owned_by s n processes → k < length vs → v ≡ slice_index_or vs k v → v.items ≡ owned s k n
list_at s n processes k vs v e lt is =
    let low : k < processes = omega (arith, lt, lists_length s n processes vs e) in
    ap (λ (w : Vec ℕ). w.items) is ∙ sym (get_or-map (λ (w : Vec ℕ). w.items) vs k v [] lt) ∙ list_is s n processes k (lists_of vs) e low

pub rows_are : (l : Layout) (g : Grid) (shares : Shares) (r p q : ℕ) (v : Vec ℕ) → AreShares l shares → place_of g r ≡ Some (p, q) → p < length shares.rows.items → v ≡ slice_index_or shares.rows.items p v → v.items ≡ rows_by l (place_of g r)
rows_are l g shares r p q v are e lt is = list_at (row_spread l) l.rows l.nprow p shares.rows.items v are.rows lt is ∙ ap (rows_by l) (sym e)

pub columns_are : (l : Layout) (g : Grid) (shares : Shares) (r p q : ℕ) (v : Vec ℕ) → AreShares l shares → place_of g r ≡ Some (p, q) → q < length shares.columns.items → v ≡ slice_index_or shares.columns.items q v → v.items ≡ columns_by l (place_of g r)
columns_are l g shares r p q v are e lt is = list_at (column_spread l) l.columns l.npcol q shares.columns.items v are.columns lt is ∙ ap (columns_by l) (sym e)

-- such rows and columns are the matrix's
pub from_shares : (source : Source) (l : Layout) (o : Option (ℕ × ℕ)) (lld j : ℕ) → IsSized l source → length (rows_by l o) ≤ lld → IsFrom source (rows_by l o) (slice_get (columns_by l o) j) lld
from_shares (Fill f) l o lld j sized le = le
from_shares (Load whole) l o lld j sized le = (le, λ k lt. row o k lt, column o (slice_get (columns_by l o) j) refl)
  where
    row : (o : Option (ℕ × ℕ)) (k : ℕ) → k < length (rows_by l o) → slice_index (rows_by l o) k < whole.now.rows
    row None k lt = absurd (omega (arith, lt))
    row (Some at) k lt = omega (arith, owned_below (row_spread l) at.0 l.rows k lt, sized.0)

    below : (o : Option (ℕ × ℕ)) (k : ℕ) → slice_get (columns_by l o) j ≡ Some k → k < whole.now.columns
    below None k e = absurd (none k e)
      where
        none : (k : ℕ) → slice_get [] j ≡ Some k → ⊥
        none k e = cc
    below (Some at) k e = omega (arith, got_below (column_spread l) at.1 l.columns j k e, sized.1)

    column : (o : Option (ℕ × ℕ)) (x : Option ℕ) → slice_get (columns_by l o) j ≡ x → IsColumn whole.now.columns x
    column o None e = tt
    column o (Some k) e = below o k e
