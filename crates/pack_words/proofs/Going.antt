-- What loops over the columns of a region and over regions keep.
use Rattle.std.specs.Prelude.{◌≡◌, ℕ, zero, suc, ◌+◌, ◌<◌, ◌≤◌, ℤ, List, [], ◌∷◌, ◌++◌, length, take, drop, slice_index_or}
use Rattle.std.specs.List.{range_with_len, flat_map}
use Rattle.std.proofs.Common.{sym, ap, ◌∙◌, refl, arith}
use Rattle.std.proofs.lemmas.List.{append_assoc, append-nil, length-append, length-take, length-drop, map-append, drop-drop, take_more, take_all}
use Rattle.std.proofs.lemmas.List.Folds.{length-flat_map-take}
use Rattle.std.proofs.lemmas.Grind.{flat_map-append}
use Rattle.pack_words.specs.declared.cut.Cut.{Cut}
use Rattle.pack_words.specs.declared.region.Region.{Region}
use Rattle.pack_words.specs.LocalCells.{LocalCells, word_at}
use Rattle.pack_words.specs.Packing.{IsInArray, AllInArray, column_spots, region_spots, spots, words_at, with_words}
use Rattle.pack_words.proofs.Runs.{flat_map_run_more, flat_map_run_le}
use Rattle.pack_words.proofs.Columns.{with_words-append, with_words-sizes}

-- the selected elements of the columns before v
abbrev pub spots_before : Cut → Region → ℕ → List (ℕ × ℕ)
spots_before cut r v = flat_map (column_spots cut r) (range_with_len 0 v)

pub before_more : (cut : Cut) (r : Region) (v : ℕ) → spots_before cut r (v + 1) ≡ spots_before cut r v ++ column_spots cut r v
before_more cut r v = flat_map_run_more (column_spots cut r) v

pub before_room : (cut : Cut) (r : Region) (v : ℕ) → v < r.cols → length (spots_before cut r v) + length (column_spots cut r v) ≤ length (region_spots cut r)
unfolding region_spots
before_room cut r v lt = flat_map_run_le (column_spots cut r) v r.cols lt

pub before_all : (cut : Cut) (r : Region) (v : ℕ) → v ≡ r.cols → spots_before cut r v ≡ region_spots cut r
unfolding region_spots
before_all cut r v e = ap (spots_before cut r) e

pub before_length : (cut : Cut) (r : Region) (v : ℕ) → length (spots_before cut r (v + 1)) ≡ length (spots_before cut r v) + length (column_spots cut r v)
before_length cut r v = ap length (before_more cut r v) ∙ length-append (spots_before cut r v) (column_spots cut r v)

-- the regions before the i-th
pub spots_more : (cut : Cut) (rs : List Region) (i : ℕ) (d : Region) → i < length rs → spots cut (take (i + 1) rs) ≡ spots cut (take i rs) ++ region_spots cut (slice_index_or rs i d)
unfolding spots
spots_more cut rs i d lt =
    ap (flat_map (region_spots cut)) (take_more rs i d lt) ∙ flat_map-append (region_spots cut) (take i rs) (slice_index_or rs i d ∷ [])
    ∙ ap (λ xs. flat_map (region_spots cut) (take i rs) ++ xs) (append-nil (region_spots cut (slice_index_or rs i d)))

pub spots_room : (cut : Cut) (rs : List Region) (i : ℕ) (d : Region) → i < length rs → length (spots cut (take i rs)) + length (region_spots cut (slice_index_or rs i d)) ≤ length (spots cut rs)
unfolding spots
spots_room cut rs i d lt = length-flat_map-take (region_spots cut) rs i d lt

pub spots_length : (cut : Cut) (rs : List Region) (i : ℕ) (d : Region) → i < length rs → length (spots cut (take (i + 1) rs)) ≡ length (spots cut (take i rs)) + length (region_spots cut (slice_index_or rs i d))
spots_length cut rs i d lt = ap length (spots_more cut rs i d lt) ∙ length-append (spots cut (take i rs)) (region_spots cut (slice_index_or rs i d))

pub spots_none : (cut : Cut) → spots cut [] ≡ []
unfolding spots
spots_none cut = refl

-- the words after some elements' words are those of the next elements
pub words_go_on : (c : LocalCells) (ss ts : List (ℕ × ℕ)) (base now next : List ℤ) → now ≡ base ++ words_at c ss → next ≡ now ++ words_at c ts → next ≡ base ++ words_at c (ss ++ ts)
words_go_on c ss ts base now next e f =
    f ∙ ap (λ xs. xs ++ words_at c ts) e ∙ append_assoc base (words_at c ss) (words_at c ts)
    ∙ ap (λ xs. base ++ xs) (sym (map-append (λ s. word_at c s.0 s.1) ss ts))

take_two : (xs : List ℤ) (m n : ℕ) → take (m + n) xs ≡ take m xs ++ take n (drop m xs)
take_two xs zero n = let e : zero + n ≡ n = omega arith in rw e refl
take_two [] (suc m) n =
    let e : suc m + n ≡ suc (m + n) = omega arith in
    rw e (sym (take_all {A = ℤ} n [] (omega arith)))
take_two (x ∷ xs) (suc m) n = let e : suc m + n ≡ suc (m + n) = omega arith in rw e (ap (λ ys. x ∷ ys) (take_two xs m n))

-- after some elements are written, the next ones
pub writing_goes_on : (c : LocalCells) (ss ts : List (ℕ × ℕ)) (ws : List ℤ) (start : ℕ) → start + length ss ≤ length ws → with_words (with_words c ss (take (length ss) (drop start ws))) ts (take (length ts) (drop (start + length ss) ws)) ≡ with_words c (ss ++ ts) (take (length (ss ++ ts)) (drop start ws))
writing_goes_on c ss ts ws start room =
    let first : List ℤ = take (length ss) (drop start ws) in
    let long : length first ≡ length ss = omega (arith, length-take (length ss) (drop start ws), length-drop start ws) in
    let two : take (length (ss ++ ts)) (drop start ws) ≡ first ++ take (length ts) (drop (start + length ss) ws) =
    ap (λ n. take n (drop start ws)) (length-append ss ts) ∙ take_two (drop start ws) (length ss) (length ts)
    ∙ ap (λ xs. first ++ take (length ts) xs) (drop-drop (length ss) start ws) in
    sym (with_words-append c ss ts first (take (length ts) (drop (start + length ss) ws)) long) ∙ ap (with_words c (ss ++ ts)) (sym two)

-- the sizes of an array stay
pub in_array_after : (c : LocalCells) (ss : List (ℕ × ℕ)) (ws : List ℤ) (r : Region) → IsInArray c r → IsInArray (with_words c ss ws) r
in_array_after c ss ws r is =
    let sizes = with_words-sizes c ss ws in
    let lead = sizes.0 in
    let columns = sizes.1 in
    record { rows = omega (arith, lead, is.rows); columns = omega (arith, columns, is.columns) }

pub all_in_array_after : (c : LocalCells) (ss : List (ℕ × ℕ)) (ws : List ℤ) (rs : List Region) → AllInArray c rs → AllInArray (with_words c ss ws) rs
all_in_array_after c ss ws [] all = tt
all_in_array_after c ss ws (r ∷ rs) all = (in_array_after c ss ws r all.0, all_in_array_after c ss ws rs all.1)
