-- What the lines of a program ask for, line by line.
use Rattle.std.proofs.Common.{◌≡◌, ℕ, ◌+◌, ◌*◌, ◌<◌, ◌≤◌, List, [], ◌∷◌, ◌++◌, Option, Some, None, length, take, get_or, refl, sym, ap, ◌∙◌, append_assoc, append-nil, arith}
use Rattle.std.specs.Prelude.{map, IfSome}
use Rattle.std.specs.List.{range_with_len}
use Rattle.std.proofs.lemmas.List.{take_all}
use Rattle.std.proofs.lemmas.List.FromFn.{map-range_with_len_more}
use Rattle.index_tools.specs.Home.{Layout}
use Rattle.proc_grid.specs.Grid.{Grid}
use Rattle.proc_grid.specs.Held.{context_at}
use Rattle.descriptor.specs.Good.{layout_of}
use Rattle.descriptor.specs.declared.spread.Spread.{Spread}
use Rattle.grid_lang.specs.declared.line.Line.{Line}
use Rattle.grid_lang.specs.declared.line.Line.TheVariants.{SavePieces}
use Rattle.grid_lang.specs.declared.line.Numbered.{Numbered}
use Rattle.program_meaning.specs.ProgramState.{or_no_grid}
use Rattle.program_results.specs.Placed.{Placed, placed_of, placed_at, nowhere}
use Rattle.program_results.specs.Results.{array_named, array_names}
use Rattle.program_results.specs.EndsView.{piece_file_of, line_files, program_files, line_prints, program_prints}
use Rattle.program_results.specs.Standing.{IsGoodOn, AreGood}
use Rattle.program_results.specs.declared.file.File.{File}
use Rattle.program_results.specs.declared.file.Print.{Print}
use Rattle.program_results.proofs.ListLaws.{flat_next, map_next, is_there}

-- ---- places

-- that of a grid which was found
pub place_made : (grids : List Grid) (spread : Spread) (g : Grid) (l : Layout) (p : Placed) → context_at grids spread.desc.ctxt ≡ Some g → l ≡ layout_of spread g → p ≡ record { layout = l; ranks = g.ranks } → Some p ≡ placed_of grids (Some spread)
place_made grids spread g l p found here is =
    let f : Option Grid → Option Placed = λ o. Some (record { layout = layout_of spread (or_no_grid o); ranks = (or_no_grid o).ranks }) in
    ap Some is ∙ ap (λ (m : Layout). let q : Placed = record { layout = m; ranks = g.ranks } in Some q) here ∙ sym (ap f found)

pub places_more : (grids : List Grid) (spreads : List (Option Spread)) (k : ℕ) (s : Option Spread) (places : List (Option Placed)) (p : Option Placed) → k < length spreads → s ≡ get_or spreads k s → places ≡ map (placed_of grids) (take k spreads) → p ≡ placed_of grids s → places ++ p ∷ [] ≡ map (placed_of grids) (take (k + 1) spreads)
places_more grids spreads k s places p lt is before here =
    ap (λ (ps : List (Option Placed)). ps ++ p ∷ []) before ∙ ap (λ (q : Option Placed). map (placed_of grids) (take k spreads) ++ q ∷ []) here ∙ sym (map_next (placed_of grids) spreads k s lt is)

pub places_all : (grids : List Grid) (spreads : List (Option Spread)) (k : ℕ) (places : List (Option Placed)) → length spreads ≤ k → places ≡ map (placed_of grids) (take k spreads) → places ≡ map (placed_of grids) spreads
places_all grids spreads k places le before = before ∙ ap (map (placed_of grids)) (take_all k spreads le)

-- the next of them may be made
pub good_next : (grids : List Grid) (spreads : List (Option Spread)) (k : ℕ) (s : Option Spread) → AreGood grids spreads → k < length spreads → s ≡ get_or spreads k s → IfSome s (λ x. IsGoodOn grids x)
good_next grids spreads k None good lt is = tt
good_next grids spreads k (Some x) good lt is = good k x (is_there spreads k (Some x) lt is)

-- ---- names

pub names_more : (lines : List Numbered) (k : ℕ) (l : Numbered) (old new : List (List ℕ)) → k < length lines → l ≡ get_or lines k l → old ≡ array_names (take k lines) → new ≡ old ++ array_named l.line → new ≡ array_names (take (k + 1) lines)
names_more lines k l old new lt is before then = then ∙ ap (λ (ns : List (List ℕ)). ns ++ array_named l.line) before ∙ sym (flat_next (λ (x : Numbered). array_named x.line) lines k l lt is)

pub names_all : (lines : List Numbered) (k : ℕ) (names : List (List ℕ)) → length lines ≤ k → names ≡ array_names (take k lines) → names ≡ array_names lines
names_all lines k names le before = before ∙ ap array_names (take_all k lines le)

-- ---- pieces

pub pieces_more : (array : ℕ) (x : Placed) (prefix : List ℕ) (k : ℕ) (start old : List File) (f : File) → old ≡ start ++ map (piece_file_of array x prefix) (range_with_len 0 k) → f ≡ piece_file_of array x prefix k → old ++ f ∷ [] ≡ start ++ map (piece_file_of array x prefix) (range_with_len 0 (k + 1))
pieces_more array x prefix k start old f before here =
    ap (λ (fs : List File). fs ++ f ∷ []) before ∙ append_assoc start (map (piece_file_of array x prefix) (range_with_len 0 k)) (f ∷ [])
    ∙ ap (λ (fs : List File). start ++ fs) (ap (λ (g : File). map (piece_file_of array x prefix) (range_with_len 0 k) ++ g ∷ []) here ∙ sym (map-range_with_len_more (piece_file_of array x prefix) 0 k k (omega arith)))

-- ---- files

-- an array without a place has no pieces
pub files_same : (places : List (Option Placed)) (array : ℕ) (prefix : List ℕ) (l : Line) (files : List File) → l ≡ SavePieces array prefix → placed_at places array ≡ nowhere → files ≡ files ++ line_files places l
files_same places array prefix l files is none =
    let f : Placed → List File = λ x. map (piece_file_of array x prefix) (range_with_len 0 (x.layout.nprow * x.layout.npcol)) in
    sym (append-nil files) ∙ ap (λ (fs : List File). files ++ fs) (sym (ap f none)) ∙ ap (λ (m : Line). files ++ line_files places m) (sym is)

pub files_more : (places : List (Option Placed)) (lines : List Numbered) (k : ℕ) (l : Numbered) (old new : List File) → k < length lines → l ≡ get_or lines k l → old ≡ program_files places (take k lines) → new ≡ old ++ line_files places l.line → new ≡ program_files places (take (k + 1) lines)
unfolding program_files
files_more places lines k l old new lt is before then = then ∙ ap (λ (fs : List File). fs ++ line_files places l.line) before ∙ sym (flat_next (λ (x : Numbered). line_files places x.line) lines k l lt is)

pub files_none : (places : List (Option Placed)) → (let none : List File = [] in none) ≡ program_files places []
unfolding program_files
files_none places = refl

pub files_all : (places : List (Option Placed)) (lines : List Numbered) (k : ℕ) (files : List File) → length lines ≤ k → files ≡ program_files places (take k lines) → files ≡ program_files places lines
files_all places lines k files le before = before ∙ ap (program_files places) (take_all k lines le)

-- ---- prints

pub prints_more : (lines : List Numbered) (k : ℕ) (l : Numbered) (old new : List Print) → k < length lines → l ≡ get_or lines k l → old ≡ program_prints (take k lines) → new ≡ old ++ line_prints l.line → new ≡ program_prints (take (k + 1) lines)
unfolding program_prints
prints_more lines k l old new lt is before then = then ∙ ap (λ (ps : List Print). ps ++ line_prints l.line) before ∙ sym (flat_next (λ (x : Numbered). line_prints x.line) lines k l lt is)

pub prints_none : (let none : List Print = [] in none) ≡ program_prints []
unfolding program_prints
prints_none = refl

pub prints_all : (lines : List Numbered) (k : ℕ) (prints : List Print) → length lines ≤ k → prints ≡ program_prints (take k lines) → prints ≡ program_prints lines
prints_all lines k prints le before = before ∙ ap program_prints (take_all k lines le)
