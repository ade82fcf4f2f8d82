-- What loops over row runs and column runs keep.
use Rattle.std.specs.Prelude.{◌≡◌, ℕ, zero, suc, ◌+◌, ◌-◌, ◌*◌, ◌/◌, ◌%◌, ◌<◌, List, [], ◌∷◌, ◌++◌, length, slice_index_or}
use Rattle.std.specs.List.{AllByRecursion}
use Rattle.std.proofs.Common.{sym, ap, ◌∙◌, arith}
use Rattle.std.proofs.lemmas.List.{append-nil, length-append, length-map, get_or-map, get_or_append_left, get_or-append_right}
use Rattle.std.proofs.Math.Nat.{mod-lt, div-lt_iff_lt-mul}
use Rattle.std.proofs.lemmas.Nat.{div-add-mod'}
use Rattle.std.proofs.lemmas.Grind.{flat_map-append}
use Rattle.pack_words.specs.declared.cut.Cut.{Cut}
use Rattle.pack_words.specs.declared.region.Region.{Region}
use Rattle.pack_words.specs.declared.span.Span.{Span}
use Rattle.pack_words.specs.Packing.{no_region, IsInCut, IsInShape, AllInCut, region_spots, spots}
use Rattle.pack_words.specs.Products.{crossing, down, product, LiesWithin}

abbrev pub no_span : Span
no_span = record { first = 0; place = 0; len = 0 }

pub length-down : (rows : List Span) (col : Span) → length (down rows col) ≡ length rows
unfolding down
length-down rows col = length-map rows (λ row. crossing row col)

pub down_at : (rows : List Span) (col : Span) (i : ℕ) → i < length rows → slice_index_or (down rows col) i no_region ≡ crossing (slice_index_or rows i no_span) col
unfolding down
down_at rows col i lt = get_or-map (λ row. crossing row col) rows i no_span no_region lt

pub all_at : {X : Type 0} (P : X → Type 0) (xs : List X) (i : ℕ) (d : X) → AllByRecursion P xs → i < length xs → P (slice_index_or xs i d)
all_at P [] i d all lt = absurd (omega arith)
all_at P (x ∷ xs) zero d all lt = all.0
all_at P (x ∷ xs) (suc i) d all lt = all_at P xs i d all.1 (omega arith)

pub all_front : {X : Type 0} (P : X → Type 0) (xs ys : List X) → AllByRecursion P (xs ++ ys) → AllByRecursion P xs × AllByRecursion P ys
all_front P [] ys all = (tt, all)
all_front P (x ∷ xs) ys all = let h = all_front P xs ys all.1 in ((all.0, h.0), h.1)

pub spots_join : (cut : Cut) (xs ys : List Region) → spots cut (xs ++ ys) ≡ spots cut xs ++ spots cut ys
unfolding spots
spots_join cut xs ys = flat_map-append (region_spots cut) xs ys

pub product_join : (rows xs ys : List Span) → product rows (xs ++ ys) ≡ product rows xs ++ product rows ys
unfolding product
product_join rows xs ys = flat_map-append (down rows) xs ys

pub product_one : (rows : List Span) (col : Span) → product rows (col ∷ []) ≡ down rows col
unfolding product
product_one rows col = append-nil (down rows col)

down_lies : (cut : Cut) (lld count : ℕ) (rows : List Span) (col : Span) → AllByRecursion (LiesWithin cut.m lld) rows → LiesWithin cut.n count col → AllInCut cut (down rows col) × AllByRecursion (IsInShape lld count) (down rows col)
unfolding down
down_lies cut lld count [] col all is = (tt, tt)
down_lies cut lld count (r ∷ rs) col all is =
    let rest = down_lies cut lld count rs col all.1 is in
    let a = all.0.index in let b = all.0.place in let d = is.index in let e = is.place in
    ((record { rows = omega arith; columns = omega arith }, rest.0), (record { rows = omega arith; columns = omega arith }, rest.1))

all_join : {X : Type 0} (P : X → Type 0) (xs ys : List X) → AllByRecursion P xs → AllByRecursion P ys → AllByRecursion P (xs ++ ys)
all_join P [] ys a b = b
all_join P (x ∷ xs) ys a b = (a.0, all_join P xs ys a.1 b)

pub product_lies : (cut : Cut) (lld count : ℕ) (rows cols : List Span) → AllByRecursion (LiesWithin cut.m lld) rows → AllByRecursion (LiesWithin cut.n count) cols → AllInCut cut (product rows cols) × AllByRecursion (IsInShape lld count) (product rows cols)
unfolding product
product_lies cut lld count rows [] all is = (tt, tt)
product_lies cut lld count rows (c ∷ cs) all is =
    let one = down_lies cut lld count rows c all is.0 in
    let rest = product_lies cut lld count rows cs all is.1 in
    (all_join (IsInCut cut) (down rows c) (product rows cs) one.0 rest.0, all_join (IsInShape lld count) (down rows c) (product rows cs) one.1 rest.1)

product_long : (rows cols : List Span) → length (product rows cols) ≡ length cols * length rows
unfolding product
product_long rows [] = omega arith
product_long rows (c ∷ cs) =
    let one = length-down rows c in
    let rest = product_long rows cs in
    let both = length-append (down rows c) (product rows cs) in
    omega arith

pub product_size : (rows cols : List Span) → length (product rows cols) ≡ length rows * length cols
product_size rows cols = let h = product_long rows cols in omega arith

at_run : (rows cols : List Span) (v u : ℕ) → u < length rows → v < length cols → slice_index_or (product rows cols) (v * length rows + u) no_region ≡ crossing (slice_index_or rows u no_span) (slice_index_or cols v no_span)
unfolding product
at_run rows [] v u lu lv = absurd (omega arith)
at_run rows (c ∷ cs) zero u lu lv =
    let e : zero * length rows + u ≡ u = omega arith in
    let long = length-down rows c in
    rw e (get_or_append_left (down rows c) (product rows cs) no_region u (omega arith) ∙ down_at rows c u lu)
at_run rows (c ∷ cs) (suc v) u lu lv =
    let n : ℕ = length rows in
    let e : suc v * n + u - n ≡ v * n + u = omega arith in
    get_or-append_right (down rows c) (product rows cs) n (suc v * n + u) no_region (length-down rows c) (omega arith)
    ∙ ap (λ k. slice_index_or (product rows cs) k no_region) e
    ∙ at_run rows cs v u lu (omega arith)

-- where rectangle k's runs stand
pub in_runs : (rows cols : List Span) (k : ℕ) → k < length (product rows cols) → (0 < length rows) × (k % length rows < length rows) × (k / length rows < length cols)
in_runs rows cols k lt =
    let long = product_long rows cols in
    let some : 0 < length rows = above (length rows) (length cols) k (omega arith) in
    (some, mod-lt k some, (div-lt_iff_lt-mul some).1 (omega arith)) where
      above : (n m k : ℕ) → k < m * n → 0 < n
      above zero m k h = absurd (omega arith)
      above (suc n) m k h = omega arith

pub product_at : (rows cols : List Span) (k : ℕ) → k < length (product rows cols) → slice_index_or (product rows cols) k no_region ≡ crossing (slice_index_or rows (k % length rows) no_span) (slice_index_or cols (k / length rows) no_span)
product_at rows cols k lt =
    let runs = in_runs rows cols k lt in
    let e : k ≡ k / length rows * length rows + k % length rows = sym (div-add-mod' k (length rows)) in
    ap (λ j. slice_index_or (product rows cols) j no_region) e ∙ at_run rows cols (k / length rows) (k % length rows) runs.1 runs.2
