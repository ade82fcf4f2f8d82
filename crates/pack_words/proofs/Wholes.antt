-- How many elements whole shapes select of row runs by column runs.
use Rattle.std.specs.Prelude.{◌≡◌, ℕ, zero, suc, ◌+◌, ◌*◌, cond, List, [], ◌∷◌, ◌++◌, length}
use Rattle.std.specs.List.{range_with_len, filter, flat_map}
use Rattle.std.proofs.Common.{ap, ◌∙◌, refl, arith}
use Rattle.std.proofs.lemmas.List.{length-append}
use Rattle.std.proofs.lemmas.List.Sums.{sum_by-cons}
use Rattle.std.proofs.Math.Nat.{mul-add, add-mul}
use Rattle.pack_words.specs.declared.cut.Cut.{Cut}
use Rattle.pack_words.specs.declared.region.Region.{Region}
use Rattle.pack_words.specs.declared.shape.Shape.TheVariants.{Ge}
use Rattle.pack_words.specs.declared.span.Span.{Span}
use Rattle.pack_words.specs.Selected.{selects}
use Rattle.pack_words.specs.Packing.{AreSelectedRows, column_spots, region_spots, spots, selected_count}
use Rattle.pack_words.specs.Products.{crossing, down, product, has_corner, is_touched, touched_product, indices_of}
use Rattle.pack_words.proofs.Columns.{column_length}
use Rattle.pack_words.proofs.Crossing.{spots_join}

pub all_rows : (cut : Cut) (r : Region) (v : ℕ) → cut.shape ≡ Ge → AreSelectedRows cut r v 0 r.rows
all_rows cut r v e = record {
  ordered = omega arith;
  within = omega arith;
  before = λ u lt. absurd (omega arith);
  inside = λ u lo hi. ap (λ s. selects s cut.m cut.n (r.i0 + u) (r.j0 + v)) e;
  after = λ u lo hi. absurd (omega arith);
}

long_columns : {A : Type 0} (f : ℕ → List A) (a n each : ℕ) → ((v : ℕ) → length (f v) ≡ each) → length (flat_map f (range_with_len a n)) ≡ n * each
long_columns f a zero each h = omega arith
long_columns f a (suc n) each h =
    let one = h a in
    let rest = long_columns f (a + 1) n each h in
    let both = length-append (f a) (flat_map f (range_with_len (a + 1) n)) in
    omega arith

whole_region : (cut : Cut) (r : Region) → cut.shape ≡ Ge → length (region_spots cut r) ≡ r.cols * r.rows
unfolding region_spots
whole_region cut r e = long_columns (column_spots cut r) 0 r.cols r.rows (λ v. let h = column_length cut r v 0 r.rows (all_rows cut r v e) in omega arith)

whole_down : (cut : Cut) (rows : List Span) (col : Span) → cut.shape ≡ Ge → length (spots cut (down rows col)) ≡ col.len * indices_of rows
unfolding spots down
whole_down cut [] col e = omega arith
whole_down cut (r ∷ rs) col e =
    let one : length (region_spots cut (crossing r col)) ≡ col.len * r.len = whole_region cut (crossing r col) e in
    let rest = whole_down cut rs col e in
    let more : col.len * indices_of (r ∷ rs) ≡ col.len * r.len + col.len * indices_of rs = ap (λ n. col.len * n) (sum_by-cons (λ (s : Span). s.len) r rs) ∙ mul-add col.len r.len (indices_of rs) in
    let both : length (spots cut (down (r ∷ rs) col)) ≡ length (region_spots cut (crossing r col)) + length (spots cut (down rs col)) = length-append (region_spots cut (crossing r col)) (spots cut (down rs col)) in
    omega arith

none : (cut : Cut) → length (spots cut []) ≡ 0
unfolding spots
none cut = refl

whole_all : (cut : Cut) (rows cols : List Span) → cut.shape ≡ Ge → length (spots cut (product rows cols)) ≡ indices_of cols * indices_of rows
unfolding product
whole_all cut rows [] e = let h = none cut in omega arith
whole_all cut rows (c ∷ cs) e =
    let one = whole_down cut rows c e in
    let rest = whole_all cut rows cs e in
    let more : indices_of (c ∷ cs) * indices_of rows ≡ c.len * indices_of rows + indices_of cs * indices_of rows = ap (λ n. n * indices_of rows) (sum_by-cons (λ (s : Span). s.len) c cs) ∙ add-mul c.len (indices_of cs) (indices_of rows) in
    let join : length (spots cut (product rows (c ∷ cs))) ≡ length (spots cut (down rows c) ++ spots cut (product rows cs)) = ap length (spots_join cut (down rows c) (product rows cs)) in
    let both = length-append (spots cut (down rows c)) (spots cut (product rows cs)) in
    omega arith

pub all_touched : (by : Cut) (rs : List Region) → by.shape ≡ Ge → filter (is_touched by) rs ≡ rs
all_touched by [] e = refl
all_touched by (r ∷ rs) e =
    ap (λ b. cond b (r ∷ filter (is_touched by) rs) (filter (is_touched by) rs)) (ap (λ s. has_corner s by.m by.n r) e)
    ∙ ap (λ ss. r ∷ ss) (all_touched by rs e)

pub whole_product : (by cut : Cut) (rows cols : List Span) → by.shape ≡ Ge → cut.shape ≡ Ge → selected_count cut (touched_product by rows cols) ≡ indices_of cols * indices_of rows
unfolding touched_product
whole_product by cut rows cols d e = ap (λ rs. length (spots cut rs)) (all_touched by (product rows cols) d) ∙ whole_all cut rows cols e
