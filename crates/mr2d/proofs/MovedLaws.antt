-- The move of the elements of some pairs: it is there, and it is determined.
use Rattle.std.specs.Prelude.{◌≡◌, ◌≢◌, ◌⊎◌, ℕ, zero, suc, ◌+◌, ◌<◌, ◌≤◌, ◌==◌, ◌&&◌, Bool, true, false, ℤ, pos, List, [], ◌∷◌, length, map, slice_index_or, slice_set, Some, None}
use Rattle.std.specs.List.{range_with_len, filter}
use Rattle.std.proofs.Common.{sym, ap, ◌∙◌, subst, refl, inl, inr, arith}
use Rattle.std.proofs.lemmas.Bool.Decides.{nat_tests}
use Rattle.std.proofs.lemmas.List.{ext_get_or, length-map, get_or-map, get_or_past, get_or-set_same, get_or-set_other, set_past, same_lists}
use Rattle.std.proofs.lemmas.List.FromFn.{get_or-map-range_with_len, length-map-range_with_len}
use Rattle.pack_words.specs.Selected.{is_selected}
use Rattle.pack_words.specs.LocalCells.{LocalCells, zeros}
use Rattle.pack_words.specs.GridState.{GridState}
use Rattle.mr2d.specs.Homes.{RankPlace, rank_place, Arrays, cells_of, word_in, HaveArrays}
use Rattle.mr2d.specs.Moves.{Move, home_a, home_b, IsElement, IsMove, frame_of, frames_of, elements, Test, is_done, every_pair, IsMovedFor, IsPlainMove, plain_move, is_same_place, element_at, word_for, moved_cells, moved_rank, moved_for}
use Rattle.mr2d.specs.Pairs.{IsAmong}
use Rattle.mr2d.proofs.Among.{among_map, among_map_back, among_flat_map, among_flat_map_back, among_filter, among_filter_back, among_range, among_range_back, find_is}
use Rattle.mr2d.proofs.HomeLaws.{same_element_of_b, home_in_array}

-- the selected elements are those of the list
pub in_elements : (mv : Move) (i j : ℕ) → IsElement mv i j → IsAmong (i, j) (elements mv.cut)
in_elements mv i j e =
    let row : IsAmong i (range_with_len 0 mv.cut.m) = among_range 0 mv.cut.m i (omega arith) (let r = e.row in omega arith) in
    let column : IsAmong j (range_with_len 0 mv.cut.n) = among_range 0 mv.cut.n j (omega arith) (let c = e.column in omega arith) in
    among_flat_map (λ j. map (λ i. (i, j)) (filter (λ i. is_selected mv.cut i j) (range_with_len 0 mv.cut.m))) j (i, j) (range_with_len 0 mv.cut.n) column
    (among_map (λ (i : ℕ). (i, j)) i (filter (λ i. is_selected mv.cut i j) (range_with_len 0 mv.cut.m)) (among_filter (λ i. is_selected mv.cut i j) i (range_with_len 0 mv.cut.m) row e.selected))

pub of_elements : (mv : Move) (e : ℕ × ℕ) → IsAmong e (elements mv.cut) → IsElement mv e.0 e.1
of_elements mv e h =
    let a = among_flat_map_back (λ j. map (λ i. (i, j)) (filter (λ i. is_selected mv.cut i j) (range_with_len 0 mv.cut.m))) e (range_with_len 0 mv.cut.n) h in
    let b = among_map_back (λ (i : ℕ). (i, a.0)) e (filter (λ i. is_selected mv.cut i a.0) (range_with_len 0 mv.cut.m)) a.2 in
    let c = among_filter_back (λ i. is_selected mv.cut i a.0) b.0 (range_with_len 0 mv.cut.m) b.1 in
    let column = among_range_back 0 mv.cut.n a.0 a.1 in
    let row = among_range_back 0 mv.cut.m b.0 c.0 in
    let low = row.1 in let right = column.1 in
    subst (λ (x : ℕ × ℕ). IsElement mv x.0 x.1) (sym b.2) (record { row = omega arith; column = omega arith; selected = c.1 })

-- a place that passes the test is this one
pub same_place : (x y : RankPlace) → is_same_place x y ≡ true → x ≡ y
same_place x y h = both x.rank x.place y.rank y.place h
  where
    both : (a b c d : ℕ) → (a == c) && (b == d) ≡ true → rank_place a b ≡ rank_place c d
    both a b c d h = joined a b c d (first a b c d h) (second a b c d h)
      where
        first : (a b c d : ℕ) → (a == c) && (b == d) ≡ true → a ≡ c
        first a b c d h = grind (arith, nat_tests)

        second : (a b c d : ℕ) → (a == c) && (b == d) ≡ true → b ≡ d
        second a b c d h = grind (arith, nat_tests)

        joined : (a b c d : ℕ) → a ≡ c → b ≡ d → rank_place a b ≡ rank_place c d
        joined a b c d e f = cc

pub place_itself : (x y : RankPlace) → x ≡ y → is_same_place x y ≡ true
place_itself x y e = both x.rank x.place y.rank y.place (ap (λ (h : RankPlace). h.rank) e) (ap (λ (h : RankPlace). h.place) e)
  where
    both : (a b c d : ℕ) → a ≡ c → b ≡ d → (a == c) && (b == d) ≡ true
    both a b c d e f = grind (arith, nat_tests)

and_parts : (a b : Bool) → a && b ≡ true → (a ≡ true) × (b ≡ true)
and_parts true b h = (refl, h)
and_parts false b h = cc

and_both : (a b : Bool) → a ≡ true → b ≡ true → a && b ≡ true
and_both a b e f = cc

-- the element of such a pair that has its home there
pub record Found (done : Test) (mv : Move) (at : RankPlace) : Type 0 where
  pub row : ℕ
  pub column : ℕ
  pub is : element_at done mv at ≡ Some (row, column)
  pub element : IsElement mv row column
  pub done_is : is_done done mv row column ≡ true
  pub here : home_b mv row column ≡ at

-- or there is none
pub record Nothing (done : Test) (mv : Move) (at : RankPlace) : Type 0 where
  pub is : element_at done mv at ≡ None
  pub none : (i j : ℕ) → IsElement mv i j → is_done done mv i j ≡ true → home_b mv i j ≢ at

pub at_place : (done : Test) (mv : Move) (at : RankPlace) → Found done mv at ⊎ Nothing done mv at
at_place done mv at = step (find_is (λ (e : ℕ × ℕ). is_done done mv e.0 e.1 && is_same_place (home_b mv e.0 e.1) at) (elements mv.cut))
  where
    step : ((x : ℕ × ℕ) × (element_at done mv at ≡ Some x) × IsAmong x (elements mv.cut) × (is_done done mv x.0 x.1 && is_same_place (home_b mv x.0 x.1) at ≡ true)) ⊎ ((element_at done mv at ≡ None) × ((x : ℕ × ℕ) → IsAmong x (elements mv.cut) → is_done done mv x.0 x.1 && is_same_place (home_b mv x.0 x.1) at ≡ false))
        → Found done mv at ⊎ Nothing done mv at
    step (inl r) =
        let t = and_parts (is_done done mv r.0.0 r.0.1) (is_same_place (home_b mv r.0.0 r.0.1) at) r.3 in
        inl (record { row = r.0.0; column = r.0.1; is = r.1; element = of_elements mv r.0 r.2; done_is = t.0; here = same_place (home_b mv r.0.0 r.0.1) at t.1 })
    step (inr r) = inr (record { is = r.0; none = none })
      where
        none : (i j : ℕ) → IsElement mv i j → is_done done mv i j ≡ true → home_b mv i j ≢ at
        none i j e d same =
            let no : is_done done mv i j && is_same_place (home_b mv i j) at ≡ false = r.1 (i, j) (in_elements mv i j e) in
            let yes : is_done done mv i j && is_same_place (home_b mv i j) at ≡ true = and_both (is_done done mv i j) (is_same_place (home_b mv i j) at) d (place_itself (home_b mv i j) at same) in
            absurd (cc)

-- an array of the size of the one that it stands for leaves the sizes
pub frames_set : (cs : List LocalCells) (a : ℕ) (c d : LocalCells) → frame_of c ≡ frame_of (slice_index_or cs a d) → map frame_of (slice_set cs a c) ≡ map frame_of cs
frames_set [] a c d e = refl
frames_set (x ∷ xs) zero c d e = ap (λ f. f ∷ map frame_of xs) e
frames_set (x ∷ xs) (suc a) c d e = ap (λ ys. frame_of x ∷ ys) (frames_set xs a c d e)

tuple : ℕ → ℕ → ℕ → ℕ × ℕ × ℕ
tuple a b c = (a, b, c)

frame_moved : (done : Test) (mv : Move) (arrays : Arrays) (rank : ℕ) → frame_of (moved_cells done mv arrays rank) ≡ frame_of (cells_of arrays rank mv.b.array)
unfolding tuple
frame_moved done mv arrays rank =
    let c : LocalCells = cells_of arrays rank mv.b.array in
    ap (λ n. tuple c.lld c.cols n) (length-map-range_with_len (λ x. word_for mv arrays (rank_place rank x) (element_at done mv (rank_place rank x))) 0 (length c.words))

rank_sizes : (done : Test) (mv : Move) (arrays : Arrays) (rank : ℕ) → map frame_of (moved_rank done mv arrays rank) ≡ map frame_of (slice_index_or arrays rank [])
rank_sizes done mv arrays rank = frames_set (slice_index_or arrays rank []) mv.b.array (moved_cells done mv arrays rank) (zeros 1 0) (frame_moved done mv arrays rank)

length_moved : (done : Test) (mv : Move) (arrays : Arrays) → length (moved_for done mv arrays) ≡ length arrays
unfolding moved_for
length_moved done mv arrays = length-map-range_with_len (moved_rank done mv arrays) 0 (length arrays)

-- a rank's arrays
rank_moved : (done : Test) (mv : Move) (arrays : Arrays) (rank : ℕ) → rank < length arrays → slice_index_or (moved_for done mv arrays) rank [] ≡ moved_rank done mv arrays rank
unfolding moved_for
rank_moved done mv arrays rank lt = get_or-map-range_with_len (moved_rank done mv arrays) 0 (length arrays) rank rank [] lt (omega arith)

rank_past : (done : Test) (mv : Move) (arrays : Arrays) (rank : ℕ) → length arrays ≤ rank → slice_index_or (moved_for done mv arrays) rank [] ≡ slice_index_or arrays rank []
rank_past done mv arrays rank past =
    let n = length_moved done mv arrays in
    get_or_past (moved_for done mv arrays) rank [] (omega arith) ∙ sym (get_or_past arrays rank [] past)

-- one array
cells_moved : (done : Test) (mv : Move) (arrays : Arrays) (rank : ℕ) → rank < length arrays → mv.b.array < length (slice_index_or arrays rank []) → cells_of (moved_for done mv arrays) rank mv.b.array ≡ moved_cells done mv arrays rank
cells_moved done mv arrays rank lt here =
    ap (λ cs. slice_index_or cs mv.b.array (zeros 1 0)) (rank_moved done mv arrays rank lt)
    ∙ get_or-set_same (slice_index_or arrays rank []) mv.b.array (moved_cells done mv arrays rank) (zeros 1 0) here

cells_past : (done : Test) (mv : Move) (arrays : Arrays) (rank array : ℕ) → length arrays ≤ rank → cells_of (moved_for done mv arrays) rank array ≡ cells_of arrays rank array
cells_past done mv arrays rank array past = ap (λ cs. slice_index_or cs array (zeros 1 0)) (rank_past done mv arrays rank past)

cells_missing : (done : Test) (mv : Move) (arrays : Arrays) (rank : ℕ) → rank < length arrays → length (slice_index_or arrays rank []) ≤ mv.b.array → cells_of (moved_for done mv arrays) rank mv.b.array ≡ cells_of arrays rank mv.b.array
cells_missing done mv arrays rank lt past =
    ap (λ cs. slice_index_or cs mv.b.array (zeros 1 0)) (rank_moved done mv arrays rank lt ∙ set_past (slice_index_or arrays rank []) mv.b.array (moved_cells done mv arrays rank) past)

cells_other : (done : Test) (mv : Move) (arrays : Arrays) (rank array : ℕ) → rank < length arrays → array ≢ mv.b.array → cells_of (moved_for done mv arrays) rank array ≡ cells_of arrays rank array
cells_other done mv arrays rank array lt other =
    ap (λ cs. slice_index_or cs array (zeros 1 0)) (rank_moved done mv arrays rank lt)
    ∙ get_or-set_other (slice_index_or arrays rank []) mv.b.array array (moved_cells done mv arrays rank) (zeros 1 0) other

cases_lt : (m n : ℕ) → (m < n) ⊎ (n ≤ m)
cases_lt m n = grind arith

pub cases_eq : (m n : ℕ) → (m ≡ n) ⊎ (m ≢ n)
cases_eq m n = step (n == m) refl
  where
    step : (b : Bool) → (n == m) ≡ b → (m ≡ n) ⊎ (m ≢ n)
    step true e = inl (yes m n e)
      where
        yes : (m n : ℕ) → (n == m) ≡ true → m ≡ n
        yes m n e = grind (arith, nat_tests)
    step false e = inr (λ h. no m n e h)
      where
        no : (m n : ℕ) → (n == m) ≡ false → m ≡ n → ⊥
        no m n e h = grind (arith, nat_tests)

-- the word of a place within
word_moved : (done : Test) (mv : Move) (arrays : Arrays) (at : RankPlace) → at.rank < length arrays → mv.b.array < length (slice_index_or arrays at.rank []) → at.place < length (cells_of arrays at.rank mv.b.array).words
    → word_in (moved_for done mv arrays) mv.b.array at ≡ word_for mv arrays at (element_at done mv at)
word_moved done mv arrays at lt here within =
    ap (λ (c : LocalCells). slice_index_or c.words at.place (pos 0)) (cells_moved done mv arrays at.rank lt here)
    ∙ get_or-map-range_with_len (λ x. word_for mv arrays (rank_place at.rank x) (element_at done mv (rank_place at.rank x))) 0 (length (cells_of arrays at.rank mv.b.array).words) at.place at.place (pos 0) within (omega arith)

word_past : (done : Test) (mv : Move) (arrays : Arrays) (at : RankPlace) → at.rank < length arrays → mv.b.array < length (slice_index_or arrays at.rank []) → length (cells_of arrays at.rank mv.b.array).words ≤ at.place
    → word_in (moved_for done mv arrays) mv.b.array at ≡ word_in arrays mv.b.array at
word_past done mv arrays at lt here past =
    let c : LocalCells = cells_of arrays at.rank mv.b.array in
    let f : ℕ → ℤ = λ x. word_for mv arrays (rank_place at.rank x) (element_at done mv (rank_place at.rank x)) in
    let n : length (map f (range_with_len 0 (length c.words))) ≡ length c.words = length-map-range_with_len f 0 (length c.words) in
    ap (λ (c : LocalCells). slice_index_or c.words at.place (pos 0)) (cells_moved done mv arrays at.rank lt here)
    ∙ get_or_past (map f (range_with_len 0 (length c.words))) at.place (pos 0) (omega arith) ∙ sym (get_or_past c.words at.place (pos 0) past)

moved_placed : (done : Test) (mv : Move) (arrays : Arrays) → IsMove mv → HaveArrays mv.b arrays → (i j : ℕ) → IsElement mv i j → is_done done mv i j ≡ true → word_in (moved_for done mv arrays) mv.b.array (home_b mv i j) ≡ word_in arrays mv.a.array (home_a mv i j)
moved_placed done mv arrays w have i j e d =
    let rows = w.rows_in_b in let columns = w.columns_in_b in let hi = e.row in let hj = e.column in
    let h = home_in_array mv.b arrays (mv.ib + i) (mv.jb + j) w.target have (omega arith) (omega arith) in
    word_moved done mv arrays (home_b mv i j) h.0.rank h.0.array h.1 ∙ step (at_place done mv (home_b mv i j))
  where
    step : Found done mv (home_b mv i j) ⊎ Nothing done mv (home_b mv i j) → word_for mv arrays (home_b mv i j) (element_at done mv (home_b mv i j)) ≡ word_in arrays mv.a.array (home_a mv i j)
    step (inl f) =
        let same = same_element_of_b mv f.row f.column i j w f.element e f.here in
        ap (word_for mv arrays (home_b mv i j)) f.is ∙ ap (λ x. word_in arrays mv.a.array (home_a mv x f.column)) same.0 ∙ ap (λ y. word_in arrays mv.a.array (home_a mv i y)) same.1
    step (inr n) = absurd (n.none i j e d refl)

moved_others : (done : Test) (mv : Move) (arrays : Arrays) (array : ℕ) (at : RankPlace) → (array ≡ mv.b.array → (i j : ℕ) → IsElement mv i j → is_done done mv i j ≡ true → home_b mv i j ≢ at) → word_in (moved_for done mv arrays) array at ≡ word_in arrays array at
moved_others done mv arrays array at none = step (cases_lt at.rank (length arrays)) (cases_eq array mv.b.array)
  where
    within : at.rank < length arrays → array ≡ mv.b.array → word_in (moved_for done mv arrays) mv.b.array at ≡ word_in arrays mv.b.array at
    within lt e = deep (cases_lt mv.b.array (length (slice_index_or arrays at.rank []))) (cases_lt at.place (length (cells_of arrays at.rank mv.b.array).words)) (at_place done mv at)
      where
        deep : (mv.b.array < length (slice_index_or arrays at.rank [])) ⊎ (length (slice_index_or arrays at.rank []) ≤ mv.b.array) → (at.place < length (cells_of arrays at.rank mv.b.array).words) ⊎ (length (cells_of arrays at.rank mv.b.array).words ≤ at.place) → Found done mv at ⊎ Nothing done mv at → word_in (moved_for done mv arrays) mv.b.array at ≡ word_in arrays mv.b.array at
        deep (inl here) (inl in_words) (inl f) = absurd (none e f.row f.column f.element f.done_is f.here)
        deep (inl here) (inl in_words) (inr n) = word_moved done mv arrays at lt here in_words ∙ ap (word_for mv arrays at) n.is
        deep (inl here) (inr past) f = word_past done mv arrays at lt here past
        deep (inr past) x f = ap (λ (c : LocalCells). slice_index_or c.words at.place (pos 0)) (cells_missing done mv arrays at.rank lt past)

    step : (at.rank < length arrays) ⊎ (length arrays ≤ at.rank) → (array ≡ mv.b.array) ⊎ (array ≢ mv.b.array) → word_in (moved_for done mv arrays) array at ≡ word_in arrays array at
    step (inr past) x = ap (λ (c : LocalCells). slice_index_or c.words at.place (pos 0)) (cells_past done mv arrays at.rank array past)
    step (inl lt) (inr other) = ap (λ (c : LocalCells). slice_index_or c.words at.place (pos 0)) (cells_other done mv arrays at.rank array lt other)
    step (inl lt) (inl e) = subst (λ k. word_in (moved_for done mv arrays) k at ≡ word_in arrays k at) (sym e) (within lt e)

moved_sizes : (done : Test) (mv : Move) (arrays : Arrays) → frames_of (moved_for done mv arrays) ≡ frames_of arrays
moved_sizes done mv arrays =
    let n = length_moved done mv arrays in
    let f : List LocalCells → List (ℕ × ℕ × ℕ) = λ mine. map frame_of mine in
    let a : length (map f (moved_for done mv arrays)) ≡ length (moved_for done mv arrays) = length-map (moved_for done mv arrays) f in
    let b : length (map f arrays) ≡ length arrays = length-map arrays f in
    same_lists (map f (moved_for done mv arrays)) (map f arrays) (a ∙ n ∙ sym b)
    (λ k d lt.
    let low : k < length arrays = omega arith in
    get_or-map f (moved_for done mv arrays) k [] d (omega arith) ∙ ap f (rank_moved done mv arrays k low) ∙ rank_sizes done mv arrays k ∙ sym (get_or-map f arrays k [] d low))

-- the function gives what the relation says
pub is_moved : (done : Test) (mv : Move) (arrays : Arrays) → IsMove mv → HaveArrays mv.b arrays → IsMovedFor done mv arrays (moved_for done mv arrays)
is_moved done mv arrays w have = record {
  placed = λ i j e d. moved_placed done mv arrays w have i j e d;
  others = λ array at none. moved_others done mv arrays array at none;
  sizes = moved_sizes done mv arrays;
}

-- arrays of the same sizes with the same words
pub same_cells : (c d : LocalCells) → frame_of c ≡ frame_of d → ((k : ℕ) → slice_index_or c.words k (pos 0) ≡ slice_index_or d.words k (pos 0)) → c ≡ d
same_cells c d e h =
    let lead : c.lld ≡ d.lld = ap (λ (f : ℕ × ℕ × ℕ). f.0) e in
    let cols : c.cols ≡ d.cols = ap (λ (f : ℕ × ℕ × ℕ). f.1) e in
    let count : length c.words ≡ length d.words = ap (λ (f : ℕ × ℕ × ℕ). f.2) e in
    joined c.lld c.cols c.words d.lld d.cols d.words lead cols (ext_get_or (pos 0) c.words d.words count (λ k lt. h k))
  where
    joined : (a b : ℕ) (ws : List ℤ) (m n : ℕ) (vs : List ℤ) → a ≡ m → b ≡ n → ws ≡ vs → (let x : LocalCells = record { lld = a; cols = b; words = ws } in x) ≡ record { lld = m; cols = n; words = vs }
    joined a b ws m n vs e f g = cc

same_mine : (cs ds : List LocalCells) → map frame_of cs ≡ map frame_of ds → ((a k : ℕ) → slice_index_or (slice_index_or cs a (zeros 1 0)).words k (pos 0) ≡ slice_index_or (slice_index_or ds a (zeros 1 0)).words k (pos 0)) → cs ≡ ds
same_mine [] [] e h = refl
same_mine [] (d ∷ ds) e h = cc
same_mine (c ∷ cs) [] e h = cc
same_mine (c ∷ cs) (d ∷ ds) e h =
    let first : frame_of c ≡ frame_of d = cc in
    let rest : map frame_of cs ≡ map frame_of ds = cc in
    let one : c ≡ d = same_cells c d first (h 0) in
    let more : cs ≡ ds = same_mine cs ds rest (λ a k. h (suc a) k) in
    ap (λ x. x ∷ cs) one ∙ ap (λ xs. d ∷ xs) more

pub same_arrays : (x y : Arrays) → frames_of x ≡ frames_of y → ((array : ℕ) (at : RankPlace) → word_in x array at ≡ word_in y array at) → x ≡ y
same_arrays [] [] e h = refl
same_arrays [] (d ∷ ds) e h = cc
same_arrays (c ∷ cs) [] e h = cc
same_arrays (c ∷ cs) (d ∷ ds) e h =
    let first : map frame_of c ≡ map frame_of d = cc in
    let rest : frames_of cs ≡ frames_of ds = cc in
    let one : c ≡ d = same_mine c d first (λ a k. h a (rank_place 0 k)) in
    let more : cs ≡ ds = same_arrays cs ds rest (λ array at. h array (rank_place (suc at.rank) at.place)) in
    ap (λ x. x ∷ cs) one ∙ ap (λ xs. d ∷ xs) more

-- and the relation says no more than one thing
pub moved_only : (done : Test) (mv : Move) (before x y : Arrays) → IsMovedFor done mv before x → IsMovedFor done mv before y → x ≡ y
moved_only done mv before x y a b = same_arrays x y (a.sizes ∙ sym b.sizes) (λ array at. step array at (cases_eq array mv.b.array) (at_place done mv at))
  where
    step : (array : ℕ) (at : RankPlace) → (array ≡ mv.b.array) ⊎ (array ≢ mv.b.array) → Found done mv at ⊎ Nothing done mv at → word_in x array at ≡ word_in y array at
    step array at (inr other) f = a.others array at (λ e. absurd (other e)) ∙ sym (b.others array at (λ e. absurd (other e)))
    step array at (inl e) (inr n) = a.others array at (λ same. n.none) ∙ sym (b.others array at (λ same. n.none))
    step array at (inl e) (inl f) =
        let h : word_in x mv.b.array at ≡ word_in before mv.a.array (home_a mv f.row f.column) = subst (λ (p : RankPlace). word_in x mv.b.array p ≡ word_in before mv.a.array (home_a mv f.row f.column)) f.here (a.placed f.row f.column f.element f.done_is) in
        let k : word_in y mv.b.array at ≡ word_in before mv.a.array (home_a mv f.row f.column) = subst (λ (p : RankPlace). word_in y mv.b.array p ≡ word_in before mv.a.array (home_a mv f.row f.column)) f.here (b.placed f.row f.column f.element f.done_is) in
        subst (λ n. word_in x n at ≡ word_in y n at) (sym e) (h ∙ sym k)

-- the plain move is what is moved of every pair
pub plain_from : (mv : Move) (s t : GridState) → IsMovedFor every_pair mv s.arrays t.arrays → ((from to : ℕ) → t.waits from to ≡ s.waits from to) → IsPlainMove mv s t
plain_from mv s t h f = record {
  placed = λ i j e. h.placed i j e refl;
  others = λ array at none. h.others array at (λ b i j e d. none b i j e);
  sizes = h.sizes;
  waits = f;
}

pub plain_to : (mv : Move) (s t : GridState) → IsPlainMove mv s t → IsMovedFor every_pair mv s.arrays t.arrays
plain_to mv s t h = record {
  placed = λ i j e d. h.placed i j e;
  others = λ array at none. h.others array at (λ b i j e. none b i j e refl);
  sizes = h.sizes;
}

pub is_plain : (mv : Move) (s : GridState) → IsMove mv → HaveArrays mv.b s.arrays → IsPlainMove mv s (plain_move mv s)
is_plain mv s w have = plain_from mv s (plain_move mv s) (is_moved every_pair mv s.arrays w have) (λ from to. refl)

pub plain_only : (mv : Move) (s t u : GridState) → IsPlainMove mv s t → IsPlainMove mv s u → t ≡ u
plain_only mv s t u a b = joined t.arrays u.arrays t.waits u.waits (moved_only every_pair mv s.arrays t.arrays u.arrays (plain_to mv s t a) (plain_to mv s u b)) (λ from to. a.waits from to ∙ sym (b.waits from to))
  where
    joined : (x y : Arrays) (f g : ℕ → ℕ → List (List ℤ)) → x ≡ y → ((from to : ℕ) → f from to ≡ g from to) → (let p : GridState = record { arrays = x; waits = f } in p) ≡ record { arrays = y; waits = g }
    joined x y f g e h = λ i. record { arrays = e i; waits = λ from to. h from to i }
