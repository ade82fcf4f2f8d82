-- Places and ranks of a grid, and grids by a function of the place.
use Rattle.std.proofs.Common.{◌≡◌, ℕ, ◌+◌, ◌*◌, ◌/◌, ◌%◌, ◌<◌, ◌≤◌, ◌==◌, ◌&&◌, Bool, true, false, cond, nat_eq, nat_lt, List, [], ◌∷◌, ◌++◌, length, map, slice_get, slice_index, Option, None, Some, position, sym, ap, ◌∙◌, subst, refl, arith}
use Rattle.std.specs.List.{range_with_len, position_or_len}
use Rattle.std.specs.Option.{option_map}
use Rattle.std.proofs.Math.Nat.{mod-lt}
use Rattle.std.proofs.lemmas.Nat.{div-mul-add, mod-mul-add, div-add-mod', mul-add-lt, same_from_place, div_below}
use Rattle.std.proofs.lemmas.Bool.Decides.{nat_tests}
use Rattle.std.proofs.lemmas.List.FromFn.{length-map-range_with_len, get_or-map-range_with_len, map-range_with_len_more}
use Rattle.std.proofs.lemmas.List.Quantifiers.{position-Some}
use Rattle.std.proofs.lemmas.List.Sums.{position_or_len_is}
use Rattle.std.proofs.lemmas.Option.{slice_get-get_or, same_Some, some_pair_parts}
use Rattle.proc_grid.specs.Refusals.{FitsShape, dealt_rank, dealt_place, dealt_grid}
use Rattle.proc_grid.specs.declared.world.Order.{Order}
use Rattle.proc_grid.specs.declared.world.Order.TheVariants.{R, C}
use Rattle.proc_grid.specs.Grid.{Grid, IsGrid, grid_by, rank_at, place_of, place_number}

-- A number of the row-major order is that of one place.
pub place_number-below : (g : Grid) (p q : ℕ) → IsGrid g → p < g.nprow → q < g.npcol → place_number g.npcol p q < length g.ranks
place_number-below g p q w hp hq = let low : p * g.npcol + q < g.npcol * g.nprow = mul-add-lt p g.npcol q g.nprow hp hq in let f = w.filled in omega arith

-- Each place of a grid has a rank.
pub rank_at-some : (g : Grid) (p q : ℕ) → IsGrid g → p < g.nprow → q < g.npcol → rank_at g p q ≡ Some (slice_index g.ranks (place_number g.npcol p q))
rank_at-some g p q w hp hq = tested (nat_lt p g.nprow) (nat_lt q g.npcol) _ _ (tests p g.nprow hp) (tests q g.npcol hq) (slice_get-get_or g.ranks (place_number g.npcol p q) 0 (place_number-below g p q w hp hq))
  where
    tests : (a b : ℕ) → a < b → nat_lt a b ≡ true
    tests a b h = grind (arith, nat_tests)

    tested : (b c : Bool) (o : Option ℕ) (r : ℕ) → b ≡ true → c ≡ true → o ≡ Some r → cond (b && c) o None ≡ Some r
    tested true true o r f g e = e
    tested true false o r f g e = cc
    tested false c o r f g e = cc

-- A rank that stands at a place of a grid has that place.
pub place_of-rank : (g : Grid) (p q : ℕ) → IsGrid g → p < g.nprow → q < g.npcol → place_of g (slice_index g.ranks (place_number g.npcol p q)) ≡ Some (p, q)
place_of-rank g p q w hp hq =
    let k : ℕ = place_number g.npcol p q in
    let low : k < length g.ranks = place_number-below g p q w hp hq in
    let first : position_or_len (λ r. r == slice_index g.ranks k) g.ranks ≡ k = position_or_len_is _ g.ranks k 0 (omega arith) (λ j h. differs _ _ (λ e. let s : j ≡ k = w.distinct j k (omega arith) low e in omega arith)) (λ h. same _) in
    let found : position (λ r. r == slice_index g.ranks k) g.ranks ≡ Some k = ap (λ m. cond (nat_lt m (length g.ranks)) (Some m) None) first ∙ chosen _ k (below k _ low) in
    ap (option_map (λ m. (m / g.npcol, m % g.npcol))) found ∙ parts (div-mul-add p g.npcol q hq) (mod-mul-add p g.npcol q hq)
  where
    differs : (a b : ℕ) → (a ≡ b → ⊥) → nat_eq a b ≡ false
    differs a b f = grind (arith, nat_tests)

    same : (a : ℕ) → nat_eq a a ≡ true
    same a = grind (arith, nat_tests)

    below : (a b : ℕ) → a < b → nat_lt a b ≡ true
    below a b h = grind (arith, nat_tests)

    chosen : (b : Bool) (m : ℕ) → b ≡ true → cond b (Some m) None ≡ Some m
    chosen true m e = refl
    chosen false m e = cc

    parts : {a b : ℕ} → a ≡ p → b ≡ q → ◌≡◌ {A = Option (ℕ × ℕ)} (Some (a, b)) (Some (p, q))
    parts e f = cc

-- So a place leads to its rank and back.
pub place_of-rank_at : (g : Grid) (p q rank : ℕ) → IsGrid g → rank_at g p q ≡ Some rank → place_of g rank ≡ Some (p, q)
place_of-rank_at g p q rank w e = by_tests (nat_lt p g.nprow) (nat_lt q g.npcol) refl refl
  where
    true_lt : (a b : ℕ) → nat_lt a b ≡ true → a < b
    true_lt a b h = grind (arith, nat_tests)

    inside : p < g.nprow → q < g.npcol → place_of g rank ≡ Some (p, q)
    inside hp hq = let r : rank ≡ slice_index g.ranks (place_number g.npcol p q) = same_Some _ _ (sym e ∙ rank_at-some g p q w hp hq) in ap (place_of g) r ∙ place_of-rank g p q w hp hq

    outside : (b c : Bool) (o : Option ℕ) → b && c ≡ false → cond (b && c) o None ≡ Some rank → ⊥
    outside true true o f h = cc
    outside true false o f h = cc
    outside false c o f h = cc

    false_second : (b c : Bool) → c ≡ false → b && c ≡ false
    false_second true c h = h
    false_second false c h = refl

    false_first : (b c : Bool) → b ≡ false → b && c ≡ false
    false_first true c h = cc
    false_first false c h = refl

    by_tests : (b c : Bool) → nat_lt p g.nprow ≡ b → nat_lt q g.npcol ≡ c → place_of g rank ≡ Some (p, q)
    by_tests true true f h = inside (true_lt _ _ f) (true_lt _ _ h)
    by_tests true false f h = absurd (outside (nat_lt p g.nprow) (nat_lt q g.npcol) (slice_get g.ranks (place_number g.npcol p q)) (false_second _ _ h) e)
    by_tests false c f h = absurd (outside (nat_lt p g.nprow) (nat_lt q g.npcol) (slice_get g.ranks (place_number g.npcol p q)) (false_first _ _ f) e)

-- And a rank leads to its place and back.
pub rank_at-place_of : (g : Grid) (p q rank : ℕ) → IsGrid g → place_of g rank ≡ Some (p, q) → rank_at g p q ≡ Some rank
rank_at-place_of g p q rank w e = by_position (position (λ r. r == rank) g.ranks) refl
  where
    is_equal : (a b : ℕ) → nat_eq a b ≡ true → a ≡ b
    is_equal a b h = grind (arith, nat_tests)

    at : (k : ℕ) → position (λ r. r == rank) g.ranks ≡ Some k → (k / g.npcol ≡ p) × (k % g.npcol ≡ q) → rank_at g p q ≡ Some rank
    at k f h =
        let found = position-Some (λ r. r == rank) g.ranks k 0 f in
        let some : 0 < g.npcol = w.some_columns in
        let column : q < g.npcol = subst (λ n. n < g.npcol) h.1 (mod-lt k some) in
        let row : p < g.nprow = subst (λ n. n < g.nprow) h.0 (div_below k g.npcol g.nprow some (let fill = w.filled in let low = found.0 in omega arith)) in
        let number : place_number g.npcol p q ≡ k = sym (ap (λ n. n * g.npcol + q) h.0) ∙ ap (λ n. k / g.npcol * g.npcol + n) (sym h.1) ∙ div-add-mod' k g.npcol in
        rank_at-some g p q w row column ∙ ap (λ n. Some (slice_index g.ranks n)) number ∙ ap Some (is_equal _ _ found.1)

    by_position : (o : Option ℕ) → position (λ r. r == rank) g.ranks ≡ o → rank_at g p q ≡ Some rank
    by_position None f = absurd (none (ap (option_map (λ k. (k / g.npcol, k % g.npcol))) (sym f) ∙ e))
      where
        none : ◌≡◌ {A = Option (ℕ × ℕ)} None (Some (p, q)) → ⊥
        none h = cc
    by_position (Some k) f = at k f (some_pair_parts (k / g.npcol) p (k % g.npcol) q (ap (option_map (λ k. (k / g.npcol, k % g.npcol))) (sym f) ∙ e))

-- In a grid by a function of the place the rank at each place is the function's.
pub slice_index-grid_by : (nprow npcol : ℕ) (at : ℕ → ℕ → ℕ) (p q : ℕ) → p < nprow → q < npcol → slice_index (grid_by nprow npcol at).ranks (place_number npcol p q) ≡ at p q
slice_index-grid_by nprow npcol at p q hp hq =
    get_or-map-range_with_len (λ k. at (k / npcol) (k % npcol)) 0 (nprow * npcol) (p * npcol + q) (p * npcol + q) 0 (let low = mul-add-lt p npcol q nprow hp hq in omega arith) (omega arith)
    ∙ ap (λ n. at n ((p * npcol + q) % npcol)) (div-mul-add p npcol q hq) ∙ ap (at p) (mod-mul-add p npcol q hq)

pub rank_at-grid_by : (nprow npcol : ℕ) (at : ℕ → ℕ → ℕ) (p q : ℕ) → IsGrid (grid_by nprow npcol at) → p < nprow → q < npcol → rank_at (grid_by nprow npcol at) p q ≡ Some (at p q)
rank_at-grid_by nprow npcol at p q w hp hq = rank_at-some (grid_by nprow npcol at) p q w hp hq ∙ ap Some (slice_index-grid_by nprow npcol at p q hp hq)

-- the rank with a number of the row-major order
pub number-grid_by : (nprow npcol : ℕ) (at : ℕ → ℕ → ℕ) (k : ℕ) → k < nprow * npcol → slice_index (grid_by nprow npcol at).ranks k ≡ at (k / npcol) (k % npcol)
number-grid_by nprow npcol at k h = get_or-map-range_with_len (λ k. at (k / npcol) (k % npcol)) 0 (nprow * npcol) k k 0 h (omega arith)

pub length-grid_by : (nprow npcol : ℕ) (at : ℕ → ℕ → ℕ) → length (grid_by nprow npcol at).ranks ≡ nprow * npcol
length-grid_by nprow npcol at = length-map-range_with_len (λ k. at (k / npcol) (k % npcol)) 0 (nprow * npcol)

-- A function of the place that gives ranks, and different ones at different places, makes a grid.
pub grid_by-is : (nprow npcol : ℕ) (at : ℕ → ℕ → ℕ) → 0 < nprow → nprow ≤ 64 → 0 < npcol → npcol ≤ 64 → nprow * npcol ≤ 64
    → ((p q : ℕ) → p < nprow → q < npcol → at p q < 64) → ((p q i j : ℕ) → p < nprow → q < npcol → i < nprow → j < npcol → at p q ≡ at i j → (p ≡ i) × (q ≡ j)) → IsGrid (grid_by nprow npcol at)
grid_by-is nprow npcol at hr fr hc fc few below apart =
    let size : length (grid_by nprow npcol at).ranks ≡ nprow * npcol = length-grid_by nprow npcol at in
    record {
      some_rows = hr;
      few_rows = fr;
      some_columns = hc;
      few_columns = fc;
      filled = size;
      few = omega arith;
      ranks_below = λ k h. let low : k < nprow * npcol = omega arith in subst (λ r. r < 64) (sym (number-grid_by nprow npcol at k low)) (below _ _ (row k low) (column k));
      distinct = λ j k hj hk e.
          let lj : j < nprow * npcol = omega arith in
          let lk : k < nprow * npcol = omega arith in
          joined j k (apart _ _ _ _ (row j lj) (column j) (row k lk) (column k) (sym (number-grid_by nprow npcol at j lj) ∙ e ∙ number-grid_by nprow npcol at k lk));
    }
  where
    row : (k : ℕ) → k < nprow * npcol → k / npcol < nprow
    row k h = div_below k npcol nprow hc h

    column : (k : ℕ) → k % npcol < npcol
    column k = mod-lt k hc

    joined : (j k : ℕ) → (j / npcol ≡ k / npcol) × (j % npcol ≡ k % npcol) → j ≡ k
    joined j k h = sym (div-add-mod' j npcol) ∙ ap (λ n. n * npcol + j % npcol) h.0 ∙ ap (λ n. k / npcol * npcol + n) h.1 ∙ div-add-mod' k npcol

-- One element more of a list by a function of the index, as a loop that pushes makes it.
pub map-range_pushed : (f : ℕ → ℕ) (items grown : List ℕ) (k n : ℕ) → grown ≡ items ++ f k ∷ [] → items ≡ map f (range_with_len 0 k) → n ≡ k + 1 → grown ≡ map f (range_with_len 0 n)
map-range_pushed f items grown k n g e s = g ∙ ap (λ xs. xs ++ f k ∷ []) e ∙ sym (map-range_with_len_more f 0 k k (omega arith)) ∙ ap (λ m. map f (range_with_len 0 m)) (sym s)

-- the rank at a number of the row-major order, where ranks are dealt out by rows, is that number
pub dealt_by_rows : (nprow npcol k : ℕ) → k ≡ dealt_rank R nprow npcol (k / npcol) (k % npcol)
dealt_by_rows nprow npcol k = sym (div-add-mod' k npcol)

-- A rank that is dealt out is below the number of places.
pub dealt_rank-below : (order : Order) (nprow npcol p q : ℕ) → p < nprow → q < npcol → dealt_rank order nprow npcol p q < nprow * npcol
dealt_rank-below R nprow npcol p q hp hq = let low : p * npcol + q < npcol * nprow = mul-add-lt p npcol q nprow hp hq in omega arith
dealt_rank-below C nprow npcol p q hp hq = mul-add-lt q nprow p npcol hq hp

-- Ranks that are dealt out make a grid.
pub dealt_grid-is : (order : Order) (ranks nprow npcol : ℕ) → FitsShape ranks nprow npcol → IsGrid (dealt_grid order nprow npcol)
dealt_grid-is order ranks nprow npcol f =
    let places = f.places in
    let few = f.few_ranks in
    grid_by-is nprow npcol (dealt_rank order nprow npcol) f.some_rows f.few_rows f.some_columns f.few_columns (omega arith) (λ p q hp hq. let low = dealt_rank-below order nprow npcol p q hp hq in omega arith) (apart order)
  where
    turned : {A B : Type 0} → A × B → B × A
    turned w = (w.1, w.0)

    apart : (order : Order) (p q i j : ℕ) → p < nprow → q < npcol → i < nprow → j < npcol → dealt_rank order nprow npcol p q ≡ dealt_rank order nprow npcol i j → (p ≡ i) × (q ≡ j)
    apart R p q i j hp hq hi hj e = same_from_place p q i j npcol hq hj e
    apart C p q i j hp hq hi hj e = turned (same_from_place q p j i nprow hp hi e)

-- The same for a list of ranks that is known to be the grid's.
pub dealt_list-is : (order : Order) (ranks nprow npcol : ℕ) (items : List ℕ) → FitsShape ranks nprow npcol → items ≡ (dealt_grid order nprow npcol).ranks → IsGrid (record { nprow = nprow; npcol = npcol; ranks = items })
dealt_list-is order ranks nprow npcol items f e = subst (λ xs. IsGrid (record { nprow = nprow; npcol = npcol; ranks = xs })) (sym e) (dealt_grid-is order ranks nprow npcol f)

-- Each rank that is dealt out stands at its place.
pub dealt_place-is : (order : Order) (ranks nprow npcol : ℕ) (g : Grid) → FitsShape ranks nprow npcol → g ≡ dealt_grid order nprow npcol → (rank : ℕ) → rank < nprow * npcol → place_of g rank ≡ Some (dealt_place order nprow npcol rank)
dealt_place-is R ranks nprow npcol g f e rank h =
    let w = dealt_grid-is R ranks nprow npcol f in
    let hc = f.some_columns in
    ap (λ x. place_of x rank) e
    ∙ place_of-rank_at (dealt_grid R nprow npcol) (rank / npcol) (rank % npcol) rank w
    (rank_at-grid_by nprow npcol (dealt_rank R nprow npcol) (rank / npcol) (rank % npcol) w (div_below rank npcol nprow hc h) (mod-lt rank hc) ∙ ap Some (div-add-mod' rank npcol))
dealt_place-is C ranks nprow npcol g f e rank h =
    let w = dealt_grid-is C ranks nprow npcol f in
    let hr = f.some_rows in
    ap (λ x. place_of x rank) e
    ∙ place_of-rank_at (dealt_grid C nprow npcol) (rank % nprow) (rank / nprow) rank w
    (rank_at-grid_by nprow npcol (dealt_rank C nprow npcol) (rank % nprow) (rank / nprow) w (mod-lt rank hr) (div_below rank nprow npcol hr (let t : rank < npcol * nprow = omega arith in t)) ∙ ap Some (div-add-mod' rank nprow))

-- Each rank of the grid is one of the world's.
pub dealt_grid-below : (order : Order) (ranks nprow npcol : ℕ) (g : Grid) → FitsShape ranks nprow npcol → g ≡ dealt_grid order nprow npcol → (k : ℕ) → k < length g.ranks → slice_index g.ranks k < ranks
dealt_grid-below order ranks nprow npcol g f e k h =
    let size = length-grid_by nprow npcol (dealt_rank order nprow npcol) in
    let same : length g.ranks ≡ length (dealt_grid order nprow npcol).ranks = ap (λ (x : Grid). length x.ranks) e in
    let low : k < nprow * npcol = omega arith in
    let hc = f.some_columns in
    let rank = dealt_rank-below order nprow npcol _ _ (div_below k npcol nprow hc low) (mod-lt k hc) in
    let here : slice_index g.ranks k ≡ dealt_rank order nprow npcol (k / npcol) (k % npcol) = ap (λ (x : Grid). slice_index x.ranks k) e ∙ number-grid_by nprow npcol (dealt_rank order nprow npcol) k low in
    let places = f.places in
    omega arith

pub same_grid : (nprow npcol : ℕ) (xs ys : List ℕ) → xs ≡ ys → (let g : Grid = record { nprow = nprow; npcol = npcol; ranks = xs } in g) ≡ record { nprow = nprow; npcol = npcol; ranks = ys }
same_grid nprow npcol xs ys e = ap (λ zs. let g : Grid = record { nprow = nprow; npcol = npcol; ranks = zs } in g) e
