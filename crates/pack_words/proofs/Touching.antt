-- What loops over the rectangles that a cut touches keep.
use Rattle.std.specs.Prelude.{◌≡◌, ℕ, ◌+◌, ◌<◌, ◌≤◌, true, false, List, [], ◌∷◌, ◌++◌, length, take, drop, slice_index_or}
use Rattle.std.specs.List.{filter, AllByRecursion}
use Rattle.std.proofs.Common.{sym, ap, subst, ◌∙◌, refl, arith, cond}
use Rattle.std.proofs.lemmas.List.{append-nil, append_assoc, length-append, take_more, take_all, take-append-drop}
use Rattle.std.proofs.lemmas.List.Elements.{filter-append, filter_more}
use Rattle.pack_words.specs.declared.cut.Cut.{Cut}
use Rattle.pack_words.specs.declared.region.Region.{Region}
use Rattle.pack_words.specs.declared.span.Span.{Span}
use Rattle.pack_words.specs.Packing.{no_region, region_spots, spots}
use Rattle.pack_words.specs.Products.{crossing, down, product, is_touched, touched, touched_down, touched_product}
use Rattle.pack_words.proofs.Crossing.{no_span, length-down, down_at, all_front, spots_join, product_join, product_one}

-- a region that the cut touches stays, and another is left out
pub touched_in : (by : Cut) (r : Region) → is_touched by r ≡ true → touched by r ≡ r ∷ []
unfolding touched
touched_in by r e = ap (λ b. cond b (r ∷ []) []) e

pub touched_out : (by : Cut) (r : Region) → is_touched by r ≡ false → touched by r ≡ []
unfolding touched
touched_out by r e = ap (λ b. cond b (r ∷ []) []) e

pub spots_one : (cut : Cut) (r : Region) → spots cut (r ∷ []) ≡ region_spots cut r
unfolding spots
spots_one cut r = append-nil (region_spots cut r)

pub spots_in : (cut by : Cut) (r : Region) → is_touched by r ≡ true → spots cut (touched by r) ≡ region_spots cut r
spots_in cut by r e = ap (spots cut) (touched_in by r e) ∙ spots_one cut r

none : (cut : Cut) → spots cut [] ≡ []
unfolding spots
none cut = refl

pub spots_out : (cut by : Cut) (r : Region) → is_touched by r ≡ false → spots cut (touched by r) ≡ []
spots_out cut by r e = ap (spots cut) (touched_out by r e) ∙ none cut

-- those of the first i rectangles of one column run
abbrev pub touched_before : Cut → List Span → Span → ℕ → List Region
touched_before by rows col i = filter (is_touched by) (take i (down rows col))

-- the i-th rectangle of one column run, where the cut touches it
abbrev pub touched_at : Cut → List Span → Span → ℕ → List Region
touched_at by rows col i = touched by (crossing (slice_index_or rows i no_span) col)

one_more : (by : Cut) (rows : List Span) (col : Span) (i : ℕ) → i < length rows → touched_before by rows col (i + 1) ≡ touched_before by rows col i ++ touched_at by rows col i
unfolding touched
one_more by rows col i lt =
    let long = length-down rows col in
    filter_more (is_touched by) (down rows col) i no_region (omega arith)
    ∙ ap (λ r. touched_before by rows col i ++ filter (is_touched by) (r ∷ [])) (down_at rows col i lt)

pub next_spots : (cut by : Cut) (rows : List Span) (col : Span) (i : ℕ) → i < length rows → spots cut (touched_before by rows col (i + 1)) ≡ spots cut (touched_before by rows col i) ++ spots cut (touched_at by rows col i)
next_spots cut by rows col i lt = ap (spots cut) (one_more by rows col i lt) ∙ spots_join cut (touched_before by rows col i) (touched_at by rows col i)

pub next_length : (cut by : Cut) (rows : List Span) (col : Span) (i : ℕ) → i < length rows → length (spots cut (touched_before by rows col (i + 1))) ≡ length (spots cut (touched_before by rows col i)) + length (spots cut (touched_at by rows col i))
next_length cut by rows col i lt = ap length (next_spots cut by rows col i lt) ∙ length-append (spots cut (touched_before by rows col i)) (spots cut (touched_at by rows col i))

-- the rest of the column run
after : Cut → List Span → Span → ℕ → List Region
after by rows col i = filter (is_touched by) (drop (i + 1) (down rows col))

in_parts : (by : Cut) (rows : List Span) (col : Span) (i : ℕ) → i < length rows → touched_down by rows col ≡ touched_before by rows col i ++ (touched_at by rows col i ++ after by rows col i)
unfolding touched_down after
in_parts by rows col i lt =
    ap (filter (is_touched by)) (sym (take-append-drop (i + 1) (down rows col)))
    ∙ filter-append (is_touched by) (take (i + 1) (down rows col)) (drop (i + 1) (down rows col))
    ∙ ap (λ rs. rs ++ after by rows col i) (one_more by rows col i lt)
    ∙ append_assoc (touched_before by rows col i) (touched_at by rows col i) (after by rows col i)

pub next_room : (cut by : Cut) (rows : List Span) (col : Span) (i : ℕ) → i < length rows → length (spots cut (touched_before by rows col i)) + length (spots cut (touched_at by rows col i)) ≤ length (spots cut (touched_down by rows col))
next_room cut by rows col i lt =
    let a = ap (λ rs. length (spots cut rs)) (in_parts by rows col i lt) in
    let b = ap length (spots_join cut (touched_before by rows col i) (touched_at by rows col i ++ after by rows col i)) in
    let d = length-append (spots cut (touched_before by rows col i)) (spots cut (touched_at by rows col i ++ after by rows col i)) in
    let e = ap length (spots_join cut (touched_at by rows col i) (after by rows col i)) in
    let f = length-append (spots cut (touched_at by rows col i)) (spots cut (after by rows col i)) in
    omega arith

pub all_touched : (P : Region → Type 0) (by : Cut) (rows : List Span) (col : Span) (i : ℕ) → AllByRecursion P (touched_down by rows col) → i < length rows → AllByRecursion P (touched_at by rows col i)
all_touched P by rows col i all lt =
    (all_front P (touched_at by rows col i) (after by rows col i) (all_front P (touched_before by rows col i) (touched_at by rows col i ++ after by rows col i) (subst (AllByRecursion P) (in_parts by rows col i lt) all)).1).0

pub before_none : (cut by : Cut) (rows : List Span) (col : Span) → spots cut (touched_before by rows col 0) ≡ []
unfolding spots
before_none cut by rows col = refl

pub before_all : (by : Cut) (rows : List Span) (col : Span) (i : ℕ) → length rows ≤ i → touched_before by rows col i ≡ touched_down by rows col
unfolding touched_down
before_all by rows col i le = let long = length-down rows col in ap (filter (is_touched by)) (take_all i (down rows col) (omega arith))

-- one more column run
crossed_join : (by : Cut) (rows xs ys : List Span) → touched_product by rows (xs ++ ys) ≡ touched_product by rows xs ++ touched_product by rows ys
unfolding touched_product
crossed_join by rows xs ys = ap (filter (is_touched by)) (product_join rows xs ys) ∙ filter-append (is_touched by) (product rows xs) (product rows ys)

crossed_one : (by : Cut) (rows : List Span) (col : Span) → touched_product by rows (col ∷ []) ≡ touched_down by rows col
unfolding touched_product touched_down
crossed_one by rows col = ap (filter (is_touched by)) (product_one rows col)

pub crossed_next : (by : Cut) (rows cols : List Span) (k : ℕ) → k < length cols → touched_product by rows (take (k + 1) cols) ≡ touched_product by rows (take k cols) ++ touched_down by rows (slice_index_or cols k no_span)
crossed_next by rows cols k lt =
    ap (touched_product by rows) (take_more cols k no_span lt)
    ∙ crossed_join by rows (take k cols) (slice_index_or cols k no_span ∷ [])
    ∙ ap (λ rs. touched_product by rows (take k cols) ++ rs) (crossed_one by rows (slice_index_or cols k no_span))

pub crossed_more : (cut by : Cut) (rows cols : List Span) (k : ℕ) → k < length cols → spots cut (touched_product by rows (take (k + 1) cols)) ≡ spots cut (touched_product by rows (take k cols)) ++ spots cut (touched_down by rows (slice_index_or cols k no_span))
crossed_more cut by rows cols k lt = ap (spots cut) (crossed_next by rows cols k lt) ∙ spots_join cut (touched_product by rows (take k cols)) (touched_down by rows (slice_index_or cols k no_span))

pub crossed_length : (cut by : Cut) (rows cols : List Span) (k : ℕ) → k < length cols → length (spots cut (touched_product by rows (take (k + 1) cols))) ≡ length (spots cut (touched_product by rows (take k cols))) + length (spots cut (touched_down by rows (slice_index_or cols k no_span)))
crossed_length cut by rows cols k lt = ap length (crossed_more cut by rows cols k lt) ∙ length-append (spots cut (touched_product by rows (take k cols))) (spots cut (touched_down by rows (slice_index_or cols k no_span)))

crossed_parts : (by : Cut) (rows cols : List Span) (k : ℕ) → k < length cols → touched_product by rows cols ≡ (touched_product by rows (take k cols) ++ touched_down by rows (slice_index_or cols k no_span)) ++ touched_product by rows (drop (k + 1) cols)
crossed_parts by rows cols k lt =
    ap (touched_product by rows) (sym (take-append-drop (k + 1) cols))
    ∙ crossed_join by rows (take (k + 1) cols) (drop (k + 1) cols)
    ∙ ap (λ rs. rs ++ touched_product by rows (drop (k + 1) cols)) (crossed_next by rows cols k lt)

pub crossed_room : (cut by : Cut) (rows cols : List Span) (k : ℕ) → k < length cols → length (spots cut (touched_product by rows (take k cols))) + length (spots cut (touched_down by rows (slice_index_or cols k no_span))) ≤ length (spots cut (touched_product by rows cols))
crossed_room cut by rows cols k lt =
    let x = touched_product by rows (take k cols) in
    let y = touched_down by rows (slice_index_or cols k no_span) in
    let z = touched_product by rows (drop (k + 1) cols) in
    let a = ap (λ rs. length (spots cut rs)) (crossed_parts by rows cols k lt) in
    let b = ap length (spots_join cut (x ++ y) z) in
    let d = length-append (spots cut (x ++ y)) (spots cut z) in
    let e = ap length (spots_join cut x y) in
    let f = length-append (spots cut x) (spots cut y) in
    omega arith

pub all_crossed : (P : Region → Type 0) (by : Cut) (rows cols : List Span) (k : ℕ) → AllByRecursion P (touched_product by rows cols) → k < length cols → AllByRecursion P (touched_down by rows (slice_index_or cols k no_span))
all_crossed P by rows cols k all lt =
    (all_front P (touched_product by rows (take k cols)) (touched_down by rows (slice_index_or cols k no_span))
    (all_front P (touched_product by rows (take k cols) ++ touched_down by rows (slice_index_or cols k no_span)) (touched_product by rows (drop (k + 1) cols)) (subst (AllByRecursion P) (crossed_parts by rows cols k lt) all)).0).1

pub crossed_none : (cut by : Cut) (rows : List Span) → spots cut (touched_product by rows []) ≡ []
unfolding spots touched_product product
crossed_none cut by rows = refl
