-- The elements of a whole region, one by one.
use Rattle.std.specs.Prelude.{◌≡◌, ℕ, zero, suc, ◌+◌, ◌-◌, ◌*◌, ◌/◌, ◌%◌, ◌<◌, true, ℤ, pos, List, [], ◌∷◌, ◌++◌, length, map, take, slice_index_or}
use Rattle.std.specs.List.{range_with_len, flat_map}
use Rattle.std.proofs.Common.{sym, ap, ◌∙◌, refl, arith, zero-add}
use Rattle.std.proofs.lemmas.Nat.{div-add-mod'}
use Rattle.std.proofs.lemmas.List.{append-nil, length-append, length-map, length-take, get_or_append_left, get_or-append_right, get_or-map, take_more, take_all}
use Rattle.std.proofs.lemmas.List.FromFn.{length-range_with_len, get_or-map-range_with_len}
use Rattle.pack_words.specs.declared.region.Region.{Region}
use Rattle.pack_words.specs.LocalCells.{LocalCells, word_at, with_word}
use Rattle.pack_words.specs.Packing.{column_spots, region_spots, spots, with_words}
use Rattle.pack_words.specs.WholeRegions.{whole_cut, whole_words}
use Rattle.pack_words.specs.RankOps.{size_of, AreInArray}
use Rattle.pack_words.proofs.Runs.{filter_whole}
use Rattle.pack_words.proofs.Columns.{with_words-append}

-- lists of one length, joined
long : {A : Type 0} (f : ℕ → List A) (n a m : ℕ) → ((k : ℕ) → length (f k) ≡ n) → length (flat_map f (range_with_len a m)) ≡ m * n
long f n a zero h = omega arith
long f n a (suc m) h =
    let one = h a in
    let rest = long f n (a + 1) m h in
    let both = length-append (f a) (flat_map f (range_with_len (a + 1) m)) in
    omega arith

at : {A : Type 0} (f : ℕ → List A) (n a m v u : ℕ) (d : A) → ((k : ℕ) → length (f k) ≡ n) → v < m → u < n → slice_index_or (flat_map f (range_with_len a m)) (v * n + u) d ≡ slice_index_or (f (a + v)) u d
at f n a zero v u d h lv lu = absurd (omega arith)
at f n a (suc m) zero u d h lv lu =
    let one = h a in
    let e : zero * n + u ≡ u = omega arith in
    let g : a + zero ≡ a = omega arith in
    rw (e, g) (get_or_append_left (f a) (flat_map f (range_with_len (a + 1) m)) d u (omega arith))
at f n a (suc m) (suc v) u d h lv lu =
    let rest : List _ = flat_map f (range_with_len (a + 1) m) in
    let e : suc v * n + u - n ≡ v * n + u = omega arith in
    let g : a + 1 + v ≡ a + suc v = omega arith in
    get_or-append_right (f a) rest n (suc v * n + u) d (h a) (omega arith)
    ∙ ap (λ k. slice_index_or rest k d) e
    ∙ at f n (a + 1) m v u d h (omega arith) lu
    ∙ ap (λ k. slice_index_or (f k) u d) g

-- all rows of each column are selected
whole_column : (r : Region) (v : ℕ) → column_spots (whole_cut r) r v ≡ map (λ u. (r.li + u, r.lj + v)) (range_with_len 0 r.rows)
unfolding column_spots
whole_column r v = ap (map (λ u. (r.li + u, r.lj + v))) (filter_whole (λ u. true) 0 r.rows (λ u lo hi. refl))

column_long : (r : Region) (v : ℕ) → length (column_spots (whole_cut r) r v) ≡ r.rows
column_long r v = ap length (whole_column r v) ∙ length-map (range_with_len 0 r.rows) (λ u. (r.li + u, r.lj + v)) ∙ length-range_with_len 0 r.rows

spots_are : (r : Region) → spots (whole_cut r) (r ∷ []) ≡ flat_map (column_spots (whole_cut r) r) (range_with_len 0 r.cols)
unfolding spots region_spots
spots_are r = append-nil (flat_map (column_spots (whole_cut r) r) (range_with_len 0 r.cols))

-- there are as many as rows times columns
pub whole_count : (r : Region) → length (spots (whole_cut r) (r ∷ [])) ≡ r.rows * r.cols
whole_count r =
    let n = long (column_spots (whole_cut r) r) r.rows 0 r.cols (column_long r) in
    let same = ap length (spots_are r) in
    omega arith

-- element k of the region
pub nth_spot : (r : Region) (k : ℕ) (d : ℕ × ℕ) → k % r.rows < r.rows → k / r.rows < r.cols → slice_index_or (spots (whole_cut r) (r ∷ [])) k d ≡ (r.li + k % r.rows, r.lj + k / r.rows)
nth_spot r k d row column =
    let e : k ≡ k / r.rows * r.rows + k % r.rows = sym (div-add-mod' k r.rows) in
    ap (λ ss. slice_index_or ss k d) (spots_are r)
    ∙ ap (λ n. slice_index_or (flat_map (column_spots (whole_cut r) r) (range_with_len 0 r.cols)) n d) e
    ∙ at (column_spots (whole_cut r) r) r.rows 0 r.cols (k / r.rows) (k % r.rows) d (column_long r) column row
    ∙ ap (λ v. slice_index_or (column_spots (whole_cut r) r v) (k % r.rows) d) (zero-add (k / r.rows))
    ∙ ap (λ ss. slice_index_or ss (k % r.rows) d) (whole_column r (k / r.rows))
    ∙ get_or-map-range_with_len (λ u. (r.li + u, r.lj + k / r.rows)) 0 r.rows (k % r.rows) (k % r.rows) d row (zero-add (k % r.rows))

-- the word of element k
pub nth_word : (r : Region) (c : LocalCells) (k : ℕ) → k < r.rows * r.cols → k % r.rows < r.rows → k / r.rows < r.cols → slice_index_or (whole_words r c) k (pos 0) ≡ word_at c (r.li + k % r.rows) (r.lj + k / r.rows)
nth_word r c k lt row column =
    let count = whole_count r in
    get_or-map (λ (s : ℕ × ℕ). word_at c s.0 s.1) (spots (whole_cut r) (r ∷ [])) k (0, 0) (pos 0) (omega arith)
    ∙ ap (λ (s : ℕ × ℕ). word_at c s.0 s.1) (nth_spot r k (0, 0) row column)

-- one more word is written
pub one_more_word : (r : Region) (c : LocalCells) (ws : List ℤ) (k : ℕ) → length ws ≡ r.rows * r.cols → k < r.rows * r.cols → k % r.rows < r.rows → k / r.rows < r.cols
    → with_words c (take (k + 1) (spots (whole_cut r) (r ∷ []))) (take (k + 1) ws) ≡ with_word (with_words c (take k (spots (whole_cut r) (r ∷ []))) (take k ws)) (r.li + k % r.rows) (r.lj + k / r.rows) (slice_index_or ws k (pos 0))
one_more_word r c ws k size lt row column =
    let ss : List (ℕ × ℕ) = spots (whole_cut r) (r ∷ []) in
    let count = whole_count r in
    let before : LocalCells = with_words c (take k ss) (take k ws) in
    let n : length (take k ws) ≡ length (take k ss) = let a = length-take k ws in let b = length-take k ss in omega arith in
    ap (λ (xs : List (ℕ × ℕ)). with_words c xs (take (k + 1) ws)) (take_more ss k (0, 0) (omega arith))
    ∙ ap (λ (xs : List ℤ). with_words c (take k ss ++ slice_index_or ss k (0, 0) ∷ []) xs) (take_more ws k (pos 0) (omega arith))
    ∙ with_words-append c (take k ss) (slice_index_or ss k (0, 0) ∷ []) (take k ws) (slice_index_or ws k (pos 0) ∷ []) n
    ∙ ap (λ (s : ℕ × ℕ). with_word before s.0 s.1 (slice_index_or ws k (pos 0))) (nth_spot r k (0, 0) row column)

-- all words are written
pub all_words : (r : Region) (c : LocalCells) (ws : List ℤ) (k : ℕ) → length ws ≡ r.rows * r.cols → k ≡ r.rows * r.cols → with_words c (take k (spots (whole_cut r) (r ∷ []))) (take k ws) ≡ with_words c (spots (whole_cut r) (r ∷ [])) ws
all_words r c ws k size all =
    let count = whole_count r in
    ap (λ (xs : List (ℕ × ℕ)). with_words c xs (take k ws)) (take_all k (spots (whole_cut r) (r ∷ [])) (omega arith))
    ∙ ap (λ (xs : List ℤ). with_words c (spots (whole_cut r) (r ∷ [])) xs) (take_all k ws (omega arith))

-- an array in which regions lie is one of the list
pub array_within : (cs : List LocalCells) (a : ℕ) (rs : List Region) → AreInArray (map size_of cs) a rs → a < length cs
array_within [] a rs h = absurd h
array_within (c ∷ cs) zero rs h = omega arith
array_within (c ∷ cs) (suc a) rs h = let rest = array_within cs a rs h in omega arith
