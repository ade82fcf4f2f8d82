-- The arrays of a program's shapes are those of which its results tell.
use Rattle.std.proofs.Common.{◌≡◌, ℕ, zero, suc, ◌+◌, ◌*◌, ◌<◌, ◌≤◌, true, max, List, [], ◌∷◌, ◌++◌, Option, Some, None, length, slice_get, refl, sym, ap, subst, ◌∙◌, arith}
use Rattle.std.specs.Prelude.{map, is_some}
use Rattle.std.specs.List.{AllByRecursion, flat_map, range_with_len}
use Rattle.index_tools.specs.Home.{local_rows, local_columns}
use Rattle.proc_grid.specs.Grid.{Grid}
use Rattle.proc_grid.specs.Held.{context_at}
use Rattle.descriptor.specs.Good.{layout_of, lld_of, IsGood}
use Rattle.descriptor.specs.declared.spread.Spread.{Spread}
use Rattle.msg_core.proofs.Lists.{within_get}
use Rattle.pack_words.specs.LocalCells.{LocalCells}
use Rattle.pack_words.specs.GridState.{GridState}
use Rattle.pack_words.specs.GridShapes.{ShapesView, shape_of, HasShapes}
use Rattle.pack_words.proofs.Shaped.{IsHeld, is_held}
use Rattle.mr2d.specs.Homes.{cells_of, rank_of, HasShape}
use Rattle.mr2d.specs.Calls.{spread_array}
use Rattle.grid_lang.specs.declared.line.Line.{Line}
use Rattle.grid_lang.specs.declared.line.Line.TheVariants.{Save, SavePieces, PrintArray, PrintMatrix}
use Rattle.grid_lang.specs.declared.line.Numbered.{Numbered}
use Rattle.program_meaning.specs.ProgramState.{or_no_grid}
use Rattle.program_meaning.specs.Sound.{IsSpreadOut, IsSound}
use Rattle.program_results.specs.Placed.{Placed, placed_of, placed_at}
use Rattle.program_results.specs.EndsView.{ends_of, line_files, program_files, piece_file_of, line_prints, program_prints}
use Rattle.program_results.specs.Standing.{IsArray, AsksFor, AskFor, AreGood, HasPlace, HasSource, HasPrint, IsEnds, HasCells, HoldsParts, HoldsPrint, Fits}
use Rattle.program_results.specs.declared.file.File.{File}
use Rattle.program_results.proofs.FileLaws.{place_is}

-- ---- all items of gathered lists

all_of_two : {X : Type 0} (P : X → Type 0) (xs ys : List X) → AllByRecursion P xs → AllByRecursion P ys → AllByRecursion P (xs ++ ys)
all_of_two P [] ys left right = right
all_of_two P (x ∷ xs) ys left right = (left.0, all_of_two P xs ys left.1 right)

all_gathered : {X Y : Type 0} (P : Y → Type 0) (Q : X → Type 0) (f : X → List Y) (xs : List X) → ((x : X) → Q x → AllByRecursion P (f x)) → AllByRecursion Q xs → AllByRecursion P (flat_map f xs)
all_gathered P Q f [] each all = tt
all_gathered P Q f (x ∷ xs) each all = all_of_two P (f x) (flat_map f xs) (each x all.0) (all_gathered P Q f xs each all.1)

all_numbered : {X : Type 0} (P : X → Type 0) (f : ℕ → X) (from n : ℕ) → ((k : ℕ) → k < from + n → P (f k)) → AllByRecursion P (map f (range_with_len from n))
all_numbered P f from zero each = tt
all_numbered P f from (suc n) each = (each from (omega arith), all_numbered P f (from + 1) n (λ k lt. each k (omega (arith, lt))))

-- ---- the places of arrays

mapped_get : {X Y : Type 0} (f : X → Y) (xs : List X) (k : ℕ) (x : X) → slice_get xs k ≡ Some x → slice_get (map f xs) k ≡ Some (f x)
mapped_get f [] k x is = cc
mapped_get f (y ∷ xs) zero x is = let same : y ≡ x = cc in ap (λ z. Some (f z)) same
mapped_get f (y ∷ xs) (suc k) x is = mapped_get f xs k x is

-- where an ARRAY lies
abbrev placed : List Grid → Spread → Placed
placed grids spread = let g = or_no_grid (context_at grids spread.desc.ctxt) in record { layout = layout_of spread g; ranks = g.ranks }

has_place : (grids : List Grid) (spreads : List (Option Spread)) (array : ℕ) → IsArray spreads array → HasPlace (map (placed_of grids) spreads) array
has_place grids spreads array is = (placed grids is.0, mapped_get (placed_of grids) spreads array (Some is.0) is.1)

-- ---- what is asked

files_of_line : (grids : List Grid) (ranks : ℕ) (spreads : List (Option Spread)) (l : Line) → AsksFor ranks spreads l → AllByRecursion (λ f. HasSource (map (placed_of grids) spreads) f.source) (line_files (map (placed_of grids) spreads) l)
files_of_line grids ranks spreads (Save array file) asks = (has_place grids spreads array asks, tt)
files_of_line grids ranks spreads (SavePieces array prefix) asks =
    let places = map (placed_of grids) spreads in
    let here = has_place grids spreads array asks in
    let x = placed_at places array in
    let at : slice_get places array ≡ Some (Some x) = here.1 ∙ ap (λ (y : Placed). Some (Some y)) (sym (place_is places array here.0 here.1)) in
    all_numbered (λ (f : File). HasSource places f.source) (piece_file_of array x prefix) 0 (x.layout.nprow * x.layout.npcol) (λ k lt. let low : k < x.layout.nprow * x.layout.npcol = omega (arith, lt) in (x, at, low))
files_of_line grids ranks spreads other asks = tt

prints_of_line : (grids : List Grid) (ranks : ℕ) (spreads : List (Option Spread)) (l : Line) → AsksFor ranks spreads l → AllByRecursion (HasPrint (map (placed_of grids) spreads)) (line_prints l)
prints_of_line grids ranks spreads (PrintArray array) asks = (has_place grids spreads array asks, tt)
prints_of_line grids ranks spreads (PrintMatrix array rank) asks = (tt, tt)
prints_of_line grids ranks spreads other asks = tt

-- all that is asked for has a place
pub is_ends : (grids : List Grid) (ranks : ℕ) (spreads : List (Option Spread)) (lines : List Numbered) → AskFor ranks spreads lines → length (program_files (map (placed_of grids) spreads) lines) ≤ 64 * length lines → IsEnds (ends_of grids spreads lines)
unfolding ends_of program_files program_prints
is_ends grids ranks spreads lines asked few =
    let Q : Numbered → Type 0 = λ l. AsksFor ranks spreads l.line in
    let places = map (placed_of grids) spreads in
    record {
      files = all_gathered (λ (f : File). HasSource places f.source) Q (λ l. line_files places l.line) lines (λ l asks. files_of_line grids ranks spreads l.line asks) asked.each;
      prints = all_gathered (HasPrint places) Q (λ l. line_prints l.line) lines (λ l asks. prints_of_line grids ranks spreads l.line asks) asked.each;
      few = omega (arith, few, asked.few);
    }

-- ---- what is held after

-- a rank has an array of the shapes
has_cells : (v : ShapesView) (g : GridState) (rank array : ℕ) → HasShapes v g → rank < v.ranks → array < v.count → HasCells g.arrays rank array
has_cells v g rank array shaped low less =
    let h : IsHeld v g rank array = is_held v g rank array shaped low less in
    record {
      rank_below = within_get g.arrays rank h.arrays h.here;
      array_below = subst (λ (cs : List LocalCells). array < length cs) (sym h.arrays_are) (within_get h.arrays array h.cells h.at);
    }

-- the array of a spread, on a grid, with its rows and columns
holds_parts : (v : ShapesView) (g : GridState) (array : ℕ) (spread : Spread) (grid : Grid) → IsGood spread grid → HasShape (spread_array array spread grid) v → HasShapes v g → HoldsParts g.arrays array (record { layout = layout_of spread grid; ranks = grid.ranks })
holds_parts v g array spread grid good has shaped p q row column =
    let r = rank_of grid p q in
    let low : r < v.ranks = has.ranks p q row column in
    let h : IsHeld v g r array = is_held v g r array shaped low has.array in
    let size : shape_of v r array ≡ (lld_of spread grid p q, max 1 (local_columns (layout_of spread grid) q)) = has.sizes p q row column in
    let lead : (cells_of g.arrays r array).lld ≡ lld_of spread grid p q = ap (λ (c : LocalCells). c.lld) h.cells_are ∙ h.lead ∙ ap (λ (x : ℕ × ℕ). x.0) size in
    let wide : (cells_of g.arrays r array).cols ≡ max 1 (local_columns (layout_of spread grid) q) = ap (λ (c : LocalCells). c.cols) h.cells_are ∙ h.columns ∙ ap (λ (x : ℕ × ℕ). x.1) size in
    let room : local_rows (layout_of spread grid) p ≤ lld_of spread grid p q = good.room.rows_fit p q row column in
    record {
      there = has_cells v g r array shaped low has.array;
      rows = subst (λ (n : ℕ). local_rows (layout_of spread grid) p ≤ n) (sym lead) room;
      columns = subst (λ (n : ℕ). local_columns (layout_of spread grid) q ≤ n) (sym wide) (at_most (local_columns (layout_of spread grid) q));
    }
  where
    at_most : (n : ℕ) → n ≤ max 1 n
    at_most n = omega arith

-- a place that is known is that of an ARRAY
placed_from : (grids : List Grid) (spreads : List (Option Spread)) (array : ℕ) (x : Placed) → slice_get (map (placed_of grids) spreads) array ≡ Some (Some x) → (spread : Spread) × (slice_get spreads array ≡ Some (Some spread)) × (placed grids spread ≡ x)
placed_from grids [] array x is = cc
placed_from grids (None ∷ spreads) zero x is = cc
placed_from grids (Some spread ∷ spreads) zero x is = let same : placed grids spread ≡ x = cc in (spread, refl, same)
placed_from grids (s ∷ spreads) (suc array) x is = placed_from grids spreads array x is

a_grid : (found : Option Grid) → is_some found ≡ true → (g : Grid) × (found ≡ Some g)
a_grid None known = cc
a_grid (Some g) known = (g, refl)

array_parts : (grids : List Grid) (v : ShapesView) (spreads : List (Option Spread)) (g : GridState) → IsSound grids v spreads → HasShapes v g → (array : ℕ) (x : Placed) → slice_get (map (placed_of grids) spreads) array ≡ Some (Some x) → HoldsParts g.arrays array x
array_parts grids v spreads g sound has array x is =
    let from = placed_from grids spreads array x is in
    let spread : Spread = from.0 in
    let s : IsSpreadOut grids v array spread = sound.spread_out array spread from.1 in
    let found = a_grid (context_at grids spread.desc.ctxt) s.known in
    let grid : Grid = found.0 in
    let y : Placed = record { layout = layout_of spread grid; ranks = grid.ranks } in
    let same : y ≡ x = ap (λ (o : Option Grid). let h = or_no_grid o in let z : Placed = record { layout = layout_of spread h; ranks = h.ranks } in z) (sym found.1) ∙ from.2 in
    subst (λ (z : Placed). HoldsParts g.arrays array z) same (holds_parts v g array spread grid (s.good grid found.1) (s.sizes grid found.1) has)

prints_held : (v : ShapesView) (spreads : List (Option Spread)) (g : GridState) → length spreads ≡ v.count → HasShapes v g → (l : Line) → AsksFor v.ranks spreads l → AllByRecursion (HoldsPrint g.arrays) (line_prints l)
prints_held v spreads g counted has (PrintArray array) asks = (tt, tt)
prints_held v spreads g counted has (PrintMatrix array rank) asks = (has_cells v g rank array has asks.1 (omega (arith, asks.0, counted)), tt)
prints_held v spreads g counted has other asks = tt

-- In a state of the shapes the arrays are there of which the results of a program tell.
pub fits : (grids : List Grid) (v : ShapesView) (spreads : List (Option Spread)) (lines : List Numbered) (g : GridState) → IsSound grids v spreads → AskFor v.ranks spreads lines → HasShapes v g → Fits (ends_of grids spreads lines) g.arrays
unfolding ends_of program_prints
fits grids v spreads lines g sound asked has = record {
  spread = array_parts grids v spreads g sound has;
  printed = all_gathered (HoldsPrint g.arrays) (λ (l : Numbered). AsksFor v.ranks spreads l.line) (λ l. line_prints l.line) lines (λ l asks. prints_held v spreads g sound.one_each has l.line asks) asked.each;
}

-- a sound spread is good on its grid
pub are_good : (grids : List Grid) (v : ShapesView) (spreads : List (Option Spread)) → IsSound grids v spreads → AreGood grids spreads
are_good grids v spreads sound array spread is = let s : IsSpreadOut grids v array spread = sound.spread_out array spread is in record { known = s.known; good = s.good }
