-- What the code sets on each rank is what FILL and LOAD say.
use Rattle.std.specs.Prelude.{◌≡◌, ◌⊎◌, ℕ, zero, suc, ◌+◌, ◌*◌, ◌/◌, ◌%◌, ◌<◌, ◌≤◌, ℤ, pos, List, [], ◌∷◌, length, map, Option, None, Some, slice_get, slice_index_or, slice_set, drop}
use Rattle.std.specs.Global.{Vec}
use Rattle.std.proofs.Common.{refl, sym, ap, ◌∙◌, subst, inl, inr, arith}
use Rattle.std.proofs.lemmas.Bool.{cases_lt}
use Rattle.std.proofs.lemmas.List.{map-set, get_or-map, length-map, set_past, drop-set-lt, get_or-drop, drop-drop}
use Rattle.proc_grid.specs.Grid.{Grid, IsGrid, place_of}
use Rattle.descriptor.specs.Good.{IsGood}
use Rattle.descriptor.specs.declared.spread.Spread.{Spread}
use Rattle.index_tools.specs.Home.{Layout, row_spread, column_spread}
use Rattle.spread_cells.specs.Spreading.{owned}
use Rattle.spread_cells.proofs.OwnedLemmas.{length-owned}
use Rattle.pack_words.specs.LocalCells.{LocalCells, zeros}
use Rattle.pack_words.specs.GridState.{GridState}
use Rattle.mr2d.specs.Homes.{SpreadArray, RankPlace, rank_place, rank_of, cells_of, IsSpread, HasArray, HaveArrays}
use Rattle.mr2d.specs.Calls.{spread_array}
use Rattle.mr2d.proofs.BetweenLaws.{IsPlaceOf, place_is}
use Rattle.mm_text.specs.Loading.{matrix_of}
use Rattle.scope_ops.specs.Lines.{numbered_from}
use Rattle.program_meaning.specs.Filling.{Writing, word_or, element_filled, element_here, written_cells, with_written, fills_array, fills_matrix, loads_matrix}
use Rattle.array_contents.specs.declared.filling.Filling.{Filling}
use Rattle.array_contents.specs.declared.local_words.Source.{Source}
use Rattle.array_contents.specs.declared.local_words.Source.TheVariants.{Fill, Load}
use Rattle.array_contents.specs.Columns.{filling_of, element_in, filled_word, placed_word, loaded_word, value_at}
use Rattle.array_contents.specs.Passes.{from_here}
use Rattle.array_contents.specs.LocalWords.{spread_word, local_word, place_word}
use Rattle.array_contents.specs.declared.local_words.LocalWords.{LocalWords}
use Rattle.array_contents.specs.Shares.{rows_by, columns_by, HoldRows}
use Rattle.array_contents.specs.Contents.{arrays_of, with_cells, Writes, HaveLead, HasRoomFor}
use Rattle.array_contents.specs.RankWords.{spread_cells, spread_rank, placed_cells, placed_rank}
use Rattle.array_contents.proofs.PassLaws.{pass_more, numbered_same}
use Rattle.array_contents.proofs.PlaceLaws.{here_is, none_outside}

-- the word of an element, or of a place that is the home of none
element_word : Source → Option (ℕ × ℕ) → ℤ → ℤ
element_word (Fill f) e word = word_or (element_filled (filling_of f)) f.d e
element_word (Load whole) e word = word_or (value_at whole.now.words.items whole.now.rows) word e

abbrev pub source_writing : Source → SpreadArray → Writing
source_writing (Fill f) s = fills_array (filling_of f) s
source_writing (Load whole) s = loads_matrix (matrix_of whole.now) s

word_is : (source : Source) (rows : List ℕ) (column : Option ℕ) (i : ℕ) (word : ℤ) → spread_word source rows column i word ≡ element_word source (element_in (slice_get rows i) column) word
unfolding element_word
word_is (Fill f) rows column i word = refl
word_is (Load whole) rows column i word = refl

writing_is : (source : Source) (s : SpreadArray) (r x : ℕ) (word : ℤ) → source_writing source s r x word ≡ element_word source (element_here s (rank_place r x)) word
unfolding element_word
writing_is (Fill f) s r x word = refl
writing_is (Load whole) s r x word = refl

-- functions of two numbers that give the same are one
same_function : (f g : ℕ → ℤ → ℤ) → ((x : ℕ) (word : ℤ) → f x word ≡ g x word) → f ≡ g
same_function f g h = λ t x word. h x word t

-- the words of one rank's array
pub cells_are : (source : Source) (s : SpreadArray) (r : ℕ) (c : LocalCells) → IsSpread s → ((p q : ℕ) → place_of s.grid r ≡ Some (p, q) → c.lld ≡ s.llds p q)
    → spread_cells source s.layout (place_of s.grid r) c ≡ written_cells (source_writing source s r) c
cells_are source s r c w lead =
    ap (λ (f : ℕ → ℤ → ℤ). written_cells f c)
    (same_function (λ x word. spread_word source (rows_by s.layout (place_of s.grid r)) (slice_get (columns_by s.layout (place_of s.grid r)) (x / c.lld)) (x % c.lld) word) (source_writing source s r) (at (place_of s.grid r) refl))
  where
    no_element : (o : Option ℕ) → element_in None o ≡ None
    no_element o = refl

    at : (o : Option (ℕ × ℕ)) → place_of s.grid r ≡ o → (x : ℕ) (word : ℤ) → spread_word source (rows_by s.layout (place_of s.grid r)) (slice_get (columns_by s.layout (place_of s.grid r)) (x / c.lld)) (x % c.lld) word ≡ source_writing source s r x word
    at None e x word =
        ap (λ o. spread_word source (rows_by s.layout o) (slice_get (columns_by s.layout o) (x / c.lld)) (x % c.lld) word) e
        ∙ word_is source [] None (x % c.lld) word
        ∙ ap (λ o. element_word source o word) (sym (none_outside s r x w e))
        ∙ sym (writing_is source s r x word)
    at (Some (p, q)) e x word =
        let h : IsPlaceOf s.grid r p q = place_is s.grid r p q w.grid e in
        ap (λ o. spread_word source (rows_by s.layout o) (slice_get (columns_by s.layout o) (x / c.lld)) (x % c.lld) word) e
        ∙ word_is source (owned (row_spread s.layout) p s.layout.rows) (slice_get (owned (column_spread s.layout) q s.layout.columns) (x / c.lld)) (x % c.lld) word
        ∙ ap (λ o. element_word source o word) (sym (here_is s p q c.lld x w h.row h.column (sym (lead p q e))))
        ∙ ap (λ k. element_word source (element_here s (rank_place k x)) word) h.is
        ∙ sym (writing_is source s r x word)

-- a rank's arrays
rank_is : (array : ℕ) (f g : LocalCells → LocalCells) (mine : List LocalCells) → (array < length mine → f (slice_index_or mine array (zeros 1 0)) ≡ g (slice_index_or mine array (zeros 1 0))) → with_cells array f mine ≡ with_cells array g mine
rank_is array f g mine e = step (cases_lt array (length mine))
  where
    step : (array < length mine) ⊎ (length mine ≤ array) → with_cells array f mine ≡ with_cells array g mine
    step (inl lt) = ap (λ c. slice_set mine array c) (e lt)
    step (inr past) = set_past mine array (f (slice_index_or mine array (zeros 1 0))) past ∙ sym (set_past mine array (g (slice_index_or mine array (zeros 1 0))) past)

-- functions that do one thing to each element of a list do one thing to the list
numbered_at : {X : Type 0} (k : ℕ) (f g : ℕ → X → X) (d : X) (xs : List X) → ((i : ℕ) → i < length xs → f (k + i) (slice_index_or xs i d) ≡ g (k + i) (slice_index_or xs i d)) → numbered_from k f xs ≡ numbered_from k g xs
numbered_at k f g d [] e = refl
numbered_at {X = X} k f g d (x ∷ xs) e =
    let here : k + 0 ≡ k = omega arith in
    ap (λ y. y ∷ numbered_from (suc k) f xs) (subst (λ (n : ℕ). f n x ≡ g n x) here (e 0 (omega arith)))
    ∙ ap (λ l. g k x ∷ l) (numbered_at (suc k) f g d xs (λ i lt. subst (λ (n : ℕ). f n (slice_index_or xs i d) ≡ g n (slice_index_or xs i d)) (next k i) (e (suc i) (omega arith))))
  where
    next : (k i : ℕ) → k + suc i ≡ suc k + i
    next k i = omega arith

numbered_all : {X : Type 0} (f g : ℕ → X → X) (d : X) (xs : List X) → ((i : ℕ) → i < length xs → f i (slice_index_or xs i d) ≡ g i (slice_index_or xs i d)) → numbered_from 0 f xs ≡ numbered_from 0 g xs
numbered_all {X = X} f g d xs e = numbered_at 0 f g d xs (λ i lt. subst (λ (n : ℕ). f n (slice_index_or xs i d) ≡ g n (slice_index_or xs i d)) (from_zero i) (e i lt))
  where
    from_zero : (i : ℕ) → i ≡ 0 + i
    from_zero i = omega arith

-- all ranks
pub spread_writes : (array : ℕ) (source : Source) (s : SpreadArray) (old new : List (List LocalCells)) → IsSpread s → s.array ≡ array → HaveArrays s old → new ≡ numbered_from 0 (spread_rank array source s.layout s.grid) old → Writes array (source_writing source s) old new
unfolding with_written
spread_writes array source s old new w number have e = λ st same.
    ap (λ (css : List (List LocalCells)). numbered_from 0 (λ r cs. with_cells array (written_cells (source_writing source s r)) cs) css) same
    ∙ sym (numbered_all (spread_rank array source s.layout s.grid) (λ r cs. with_cells array (written_cells (source_writing source s r)) cs) [] old
    (λ r lt. rank_is array (spread_cells source s.layout (place_of s.grid r)) (written_cells (source_writing source s r)) (slice_index_or old r [])
    (λ here. cells_are source s r (slice_index_or (slice_index_or old r []) array (zeros 1 0)) w (lead r))))
    ∙ sym e
  where
    lead : (r p q : ℕ) → place_of s.grid r ≡ Some (p, q) → (cells_of old r array).lld ≡ s.llds p q
    lead r p q is =
        let h : IsPlaceOf s.grid r p q = place_is s.grid r p q w.grid is in
        ap (λ (k : ℕ). (cells_of old k array).lld) (sym h.is) ∙ ap (λ (a : ℕ). (cells_of old (rank_of s.grid p q) a).lld) (sym number) ∙ (have.each p q h.row h.column).lead

-- a rank's array that isn't spread
pub placed_writes : (array lld : ℕ) (f : Filling) (old new : List (List LocalCells)) → HaveLead array lld old → new ≡ numbered_from 0 (placed_rank array f) old → Writes array (fills_matrix (filling_of f) lld) old new
unfolding with_written
placed_writes array lld f old new have e = λ st same.
    ap (λ (css : List (List LocalCells)). numbered_from 0 (λ r cs. with_cells array (written_cells (fills_matrix (filling_of f) lld r)) cs) css) same
    ∙ sym (numbered_all (placed_rank array f) (λ r cs. with_cells array (written_cells (fills_matrix (filling_of f) lld r)) cs) [] old
    (λ r lt. rank_is array (placed_cells f r) (written_cells (fills_matrix (filling_of f) lld r)) (slice_index_or old r []) (λ here. is r (slice_index_or (slice_index_or old r []) array (zeros 1 0)) (have r here))))
    ∙ sym e
  where
    is : (r : ℕ) (c : LocalCells) → c.lld ≡ lld → placed_cells f r c ≡ written_cells (fills_matrix (filling_of f) lld r) c
    is r c lead = ap (λ (n : ℕ). written_cells (λ x word. placed_word f r (x / n) (x % n) word) c) lead

-- a well spread array over a grid
pub is_spread : (array : ℕ) (spread : Spread) (g : Grid) → IsGrid g → IsGood spread g → IsSpread (spread_array array spread g)
is_spread array spread g grid good = record { grid = grid; rows = refl; columns = refl; layout = good.layout; room = good.room }

-- columns of the arrays of a spread matrix have a word for each row there
pub hold_rows : (s : SpreadArray) (array : ℕ) (arrays : List (List LocalCells)) → IsSpread s → s.array ≡ array → HaveArrays s arrays → HoldRows s.layout s.grid array arrays
hold_rows s array arrays w number have = λ r here. at r (place_of s.grid r) refl
  where
    at : (r : ℕ) (o : Option (ℕ × ℕ)) → place_of s.grid r ≡ o → length (rows_by s.layout (place_of s.grid r)) ≤ (cells_of arrays r array).lld
    at r None e = subst (λ (o : Option (ℕ × ℕ)). length (rows_by s.layout o) ≤ (cells_of arrays r array).lld) (sym e) (omega arith)
    at r (Some (p, q)) e =
        let h : IsPlaceOf s.grid r p q = place_is s.grid r p q w.grid e in
        let lead : (cells_of arrays r array).lld ≡ s.llds p q =
        ap (λ (k : ℕ). (cells_of arrays k array).lld) (sym h.is) ∙ ap (λ (a : ℕ). (cells_of arrays (rank_of s.grid p q) a).lld) (sym number) ∙ (have.each p q h.row h.column).lead in
        let room = w.room.rows_fit p q (subst (λ n. p < n) (sym w.rows) h.row) (subst (λ n. q < n) (sym w.columns) h.column) in
        subst (λ (o : Option (ℕ × ℕ)). length (rows_by s.layout o) ≤ (cells_of arrays r array).lld) (sym e) (omega (arith, length-owned (row_spread s.layout) p s.layout.rows, room, lead))

-- ---- the loop over the ranks

pub rank_more : (g : ℕ → List LocalCells → List LocalCells) (ranks : List (Vec LocalCells)) (k : ℕ) (v d : Vec LocalCells) → k < length ranks → v.items ≡ g k (slice_index_or ranks k d).items
    → from_here (k + 1) g (arrays_of (slice_set ranks k v)) ≡ from_here k g (arrays_of ranks)
rank_more g ranks k v d lt e =
    ap (λ (css : List (List LocalCells)). from_here (k + 1) g css) (map-set (λ (mine : Vec LocalCells). mine.items) ranks k v)
    ∙ pass_more g (arrays_of ranks) k [] v.items (subst (λ n. k < n) (sym (length-map ranks (λ (mine : Vec LocalCells). mine.items))) lt)
    (e ∙ ap (g k) (sym (get_or-map (λ (mine : Vec LocalCells). mine.items) ranks k d [] lt)))

-- a rank that wasn't reached has what it had
pub rank_left : (old now : List (Vec LocalCells)) (k : ℕ) (d : Vec LocalCells) → drop k now ≡ drop k old → k < length now → k < length old → (slice_index_or now k d).items ≡ slice_index_or (arrays_of old) k []
rank_left old now k d e lt low =
    let zero_more : k + 0 ≡ k = omega arith in
    ap (λ (v : Vec LocalCells). v.items) (ap (λ n. slice_index_or now n d) (sym zero_more) ∙ sym (get_or-drop k now 0 d) ∙ ap (λ (l : List (Vec LocalCells)). slice_index_or l 0 d) e ∙ get_or-drop k old 0 d ∙ ap (λ n. slice_index_or old n d) zero_more)
    ∙ sym (get_or-map (λ (mine : Vec LocalCells). mine.items) old k d [] low)

pub still_left : (old now : List (Vec LocalCells)) (k : ℕ) (v : Vec LocalCells) → drop k now ≡ drop k old → drop (k + 1) (slice_set now k v) ≡ drop (k + 1) old
still_left old now k v e =
    drop-set-lt (k + 1) now k v (omega arith) ∙ sym (drop-drop 1 k now) ∙ ap (λ (l : List (Vec LocalCells)). drop 1 l) e ∙ drop-drop 1 k old

-- room for the arrays of before is room for that of a rank which wasn't reached
pub room_at : (array room : ℕ) (old now : List (Vec LocalCells)) (k : ℕ) (mine : Vec LocalCells) → mine ≡ slice_index_or now k mine → drop k now ≡ drop k old → k < length now → length now ≡ length old → HasRoomFor array (arrays_of old) room
    → array < length mine.items → (slice_index_or mine.items array (zeros 1 0)).lld ≤ room
room_at array room old now k mine is e lt long has here =
    let same : mine.items ≡ slice_index_or (arrays_of old) k [] = ap (λ (v : Vec LocalCells). v.items) is ∙ rank_left old now k mine e lt (omega (arith, lt, long)) in
    subst (λ (cs : List LocalCells). (slice_index_or cs array (zeros 1 0)).lld ≤ room) (sym same) (has k (subst (λ (cs : List LocalCells). array < length cs) same here))

-- and its columns have a word for each row there
pub rows_held : (l : Layout) (g : Grid) (array : ℕ) (old now : List (Vec LocalCells)) (k : ℕ) (mine : Vec LocalCells) → mine ≡ slice_index_or now k mine → drop k now ≡ drop k old → k < length now → length now ≡ length old → HoldRows l g array (arrays_of old)
    → array < length mine.items → length (rows_by l (place_of g k)) ≤ (slice_index_or mine.items array (zeros 1 0)).lld
rows_held l g array old now k mine is e lt long has here =
    let same : mine.items ≡ slice_index_or (arrays_of old) k [] = ap (λ (v : Vec LocalCells). v.items) is ∙ rank_left old now k mine e lt (omega (arith, lt, long)) in
    subst (λ (cs : List LocalCells). length (rows_by l (place_of g k)) ≤ (slice_index_or cs array (zeros 1 0)).lld) (sym same) (has k (subst (λ (cs : List LocalCells). array < length cs) same here))

-- one rank more is done
pub rank_done : (g : ℕ → List LocalCells → List LocalCells) (now : List (Vec LocalCells)) (k : ℕ) (mine after : Vec LocalCells) → k < length now → mine ≡ slice_index_or now k mine → after.items ≡ g k mine.items
    → from_here (k + 1) g (arrays_of (slice_set now k after)) ≡ from_here k g (arrays_of now)
rank_done g now k mine after lt is e = rank_more g now k after mine lt (e ∙ ap (λ (v : Vec LocalCells). g k v.items) is)

-- what is set by the words of a rank is the same where these are
pub same_cells : (array : ℕ) (by : LocalWords) (word : ℕ → ℕ → ℤ → ℤ) (mine : List LocalCells) → ((j i : ℕ) (w : ℤ) → local_word by j i w ≡ word j i w)
    → with_cells array (λ c. written_cells (place_word by c.lld) c) mine ≡ with_cells array (λ c. written_cells (λ x w. word (x / c.lld) (x % c.lld) w) c) mine
same_cells array by word mine e =
    let c : LocalCells = slice_index_or mine array (zeros 1 0) in
    ap (λ (f : ℕ → ℤ → ℤ). slice_set mine array (written_cells f c)) (same_function (place_word by c.lld) (λ x w. word (x / c.lld) (x % c.lld) w) (λ x w. e (x / c.lld) (x % c.lld) w))
