-- What loops over row runs of whole shapes keep.
use Rattle.std.specs.Prelude.{◌≡◌, ℕ, zero, suc, ◌+◌, ◌-◌, ◌<◌, ◌≤◌, ℤ, List, [], ◌∷◌, ◌++◌, length, take, map, slice_index_or}
use Rattle.std.specs.List.{range_with_len, flat_map, AllByRecursion}
use Rattle.std.proofs.Common.{sym, ap, ◌∙◌, refl, arith}
use Rattle.std.proofs.lemmas.List.{append-nil, length-append, length-map, take_more, take_all}
use Rattle.std.proofs.lemmas.List.Folds.{length-flat_map-take}
use Rattle.std.proofs.lemmas.List.FromFn.{length-range_with_len}
use Rattle.std.proofs.lemmas.Grind.{flat_map-append}
use Rattle.pack_words.specs.declared.cut.Cut.{Cut}
use Rattle.pack_words.specs.declared.region.Region.{Region}
use Rattle.pack_words.specs.declared.shape.Shape.TheVariants.{Ge}
use Rattle.pack_words.specs.declared.span.Span.{Span}
use Rattle.pack_words.specs.LocalCells.{LocalCells, IsLocalCells, part_of, with_part}
use Rattle.pack_words.specs.Packing.{no_region, AllInArray, column_spots, region_spots, spots, words_at, with_words}
use Rattle.pack_words.specs.Products.{crossing, down, touched_down}
use Rattle.pack_words.specs.RowRuns.{IsRunOf, one_run, run_spots}
use Rattle.pack_words.proofs.Columns.{words_of_run, with_run, part_within, spots_of_column, with_words-sizes}
use Rattle.pack_words.proofs.Crossing.{no_span, length-down, down_at}
use Rattle.pack_words.proofs.Going.{spots_more, spots_room}
use Rattle.pack_words.proofs.Wholes.{all_rows, all_touched}

-- one more run
pub runs_more : (rows : List Span) (j i : ℕ) → i < length rows → run_spots (take (i + 1) rows) j ≡ run_spots (take i rows) j ++ one_run j (slice_index_or rows i no_span)
unfolding run_spots
runs_more rows j i lt =
    ap (flat_map (one_run j)) (take_more rows i no_span lt) ∙ flat_map-append (one_run j) (take i rows) (slice_index_or rows i no_span ∷ [])
    ∙ ap (λ ss. flat_map (one_run j) (take i rows) ++ ss) (append-nil (one_run j (slice_index_or rows i no_span)))

pub one_length : (j : ℕ) (row : Span) → length (one_run j row) ≡ row.len
one_length j row = length-map (range_with_len 0 row.len) (λ u. (row.place + u, j)) ∙ length-range_with_len 0 row.len

pub runs_length : (rows : List Span) (j i : ℕ) → i < length rows → length (run_spots (take (i + 1) rows) j) ≡ length (run_spots (take i rows) j) + (slice_index_or rows i no_span).len
runs_length rows j i lt =
    let row : Span = slice_index_or rows i no_span in
    ap length (runs_more rows j i lt) ∙ length-append (run_spots (take i rows) j) (one_run j row) ∙ ap (λ n. length (run_spots (take i rows) j) + n) (one_length j row)

pub runs_room : (rows : List Span) (j i : ℕ) → i < length rows → length (run_spots (take i rows) j) + (slice_index_or rows i no_span).len ≤ length (run_spots rows j)
unfolding run_spots
runs_room rows j i lt =
    let most = length-flat_map-take (one_run j) rows i no_span lt in
    let one = one_length j (slice_index_or rows i no_span) in
    omega arith

pub runs_none : (j : ℕ) → run_spots [] j ≡ []
unfolding run_spots
runs_none j = refl

-- the words of one run are a part of the array's
pub run_words : (c : LocalCells) (j : ℕ) (row : Span) → IsLocalCells c → IsRunOf c j row → words_at c (one_run j row) ≡ part_of c row.place j row.len
run_words c j row limits is =
    let e : row.place + 0 ≡ row.place = omega arith in
    words_of_run c row.place j 0 row.len (part_within c (row.place + 0) j row.len limits (let h = is.rows in omega arith) is.column)
    ∙ ap (λ k. part_of c k j row.len) e

-- and are written as one
pub run_written : (c : LocalCells) (j : ℕ) (row : Span) (ws : List ℤ) → IsLocalCells c → IsRunOf c j row → length ws ≡ row.len → with_words c (one_run j row) ws ≡ with_part c row.place j ws
run_written c j row ws limits is len =
    let e : row.place + 0 ≡ row.place = omega arith in
    ap (λ n. with_words c (map (λ u. (row.place + u, j)) (range_with_len 0 n)) ws) (sym len)
    ∙ with_run c row.place j 0 ws (part_within c (row.place + 0) j (length ws) limits (let h = is.rows in omega arith) is.column)
    ∙ ap (λ k. with_part c k j ws) e

-- the runs lie there after words are written
pub run_after : (c : LocalCells) (ss : List (ℕ × ℕ)) (ws : List ℤ) (j : ℕ) (row : Span) → IsRunOf c j row → IsRunOf (with_words c ss ws) j row
run_after c ss ws j row is =
    let sizes = with_words-sizes c ss ws in
    let lead = sizes.0 in
    let columns = sizes.1 in
    record { rows = omega (arith, lead, is.rows); column = omega (arith, columns, is.column) }

pub runs_after : (c : LocalCells) (ss : List (ℕ × ℕ)) (ws : List ℤ) (j : ℕ) (rows : List Span) → AllByRecursion (IsRunOf c j) rows → AllByRecursion (IsRunOf (with_words c ss ws) j) rows
runs_after c ss ws j [] all = tt
runs_after c ss ws j (r ∷ rs) all = (run_after c ss ws j r all.0, runs_after c ss ws j rs all.1)

-- a rectangle of one column is one run
one_column : (cut : Cut) (row col : Span) → cut.shape ≡ Ge → col.len ≡ 1 → region_spots cut (crossing row col) ≡ one_run col.place row
unfolding region_spots
one_column cut row col e one =
    let place : col.place + 0 ≡ col.place = omega arith in
    let all : row.len - 0 ≡ row.len = omega arith in
    ap (λ n. flat_map (column_spots cut (crossing row col)) (range_with_len 0 n)) one
    ∙ append-nil (column_spots cut (crossing row col) 0)
    ∙ spots_of_column cut (crossing row col) 0 0 row.len (all_rows cut (crossing row col) 0 e)
    ∙ ap (λ n. map (λ u. (row.place + u, col.place + 0)) (range_with_len 0 n)) all
    ∙ ap (λ j. one_run j row) place

pub down_runs : (cut : Cut) (rows : List Span) (col : Span) → cut.shape ≡ Ge → col.len ≡ 1 → spots cut (down rows col) ≡ run_spots rows col.place
unfolding spots down run_spots
down_runs cut [] col e one = refl
down_runs cut (r ∷ rs) col e one =
    ap (λ ss. ss ++ spots cut (down rs col)) (one_column cut r col e one)
    ∙ ap (λ ss. one_run col.place r ++ ss) (down_runs cut rs col e one)

pub runs_lie : (c : LocalCells) (rows : List Span) (col : Span) → col.len ≡ 1 → AllInArray c (down rows col) → AllByRecursion (IsRunOf c col.place) rows
unfolding down
runs_lie c [] col one all = tt
runs_lie c (r ∷ rs) col one all =
    let rows = all.0.rows in
    let columns = all.0.columns in
    (record { rows = omega arith; column = omega arith }, runs_lie c rs col one all.1)

-- one more rectangle
pub down_more : (cut : Cut) (rows : List Span) (col : Span) (i : ℕ) → i < length rows → spots cut (take (i + 1) (down rows col)) ≡ spots cut (take i (down rows col)) ++ region_spots cut (crossing (slice_index_or rows i no_span) col)
down_more cut rows col i lt =
    let long = length-down rows col in
    spots_more cut (down rows col) i no_region (omega arith)
    ∙ ap (λ r. spots cut (take i (down rows col)) ++ region_spots cut r) (down_at rows col i lt)

pub down_length : (cut : Cut) (rows : List Span) (col : Span) (i : ℕ) → i < length rows → length (spots cut (take (i + 1) (down rows col))) ≡ length (spots cut (take i (down rows col))) + length (region_spots cut (crossing (slice_index_or rows i no_span) col))
down_length cut rows col i lt = ap length (down_more cut rows col i lt) ∙ length-append (spots cut (take i (down rows col))) (region_spots cut (crossing (slice_index_or rows i no_span) col))

pub down_room : (cut : Cut) (rows : List Span) (col : Span) (i : ℕ) → i < length rows → length (spots cut (take i (down rows col))) + length (region_spots cut (crossing (slice_index_or rows i no_span) col)) ≤ length (spots cut (down rows col))
down_room cut rows col i lt =
    let long = length-down rows col in
    let most = spots_room cut (down rows col) i no_region (omega arith) in
    let same = ap (λ r. length (region_spots cut r)) (down_at rows col i lt) in
    omega arith

pub down_all : (rows : List Span) (col : Span) (i : ℕ) → length rows ≤ i → take i (down rows col) ≡ down rows col
down_all rows col i le = let long = length-down rows col in take_all i (down rows col) (omega arith)

-- what holds of each rectangle
pub each_down : (P : Region → Type 0) (rows : List Span) (col : Span) (i : ℕ) → AllByRecursion P (down rows col) → i < length rows → P (crossing (slice_index_or rows i no_span) col)
unfolding down
each_down P [] col i all lt = absurd (omega arith)
each_down P (r ∷ rs) col zero all lt = all.0
each_down P (r ∷ rs) col (suc i) all lt = each_down P rs col i all.1 (omega arith)

-- a whole shape touches each rectangle
pub whole_down_touched : (by : Cut) (rows : List Span) (col : Span) → by.shape ≡ Ge → touched_down by rows col ≡ down rows col
unfolding touched_down
whole_down_touched by rows col e = all_touched by (down rows col) e
