-- Words of one array written into another.
use Rattle.std.specs.Prelude.{◌≡◌, ℕ, zero, suc, ◌+◌, ◌<◌, List, [], ◌∷◌, ◌++◌, length, take, slice_index_or}
use Rattle.std.specs.List.{range_with_len, filter, flat_map}
use Rattle.std.proofs.Common.{sym, ap, ◌∙◌, refl, arith}
use Rattle.std.proofs.lemmas.List.{length-append, length-map, map-append}
use Rattle.pack_words.specs.declared.cut.Cut.{Cut}
use Rattle.pack_words.specs.declared.region.Region.{Region}
use Rattle.pack_words.specs.LocalCells.{LocalCells, word_at}
use Rattle.pack_words.specs.Selected.{is_selected}
use Rattle.pack_words.specs.Packing.{no_region, AreSelectedRows, selected_rows, column_spots, region_spots, spots, words_at, with_words, IsAlike, AllAlike}
use Rattle.pack_words.proofs.Going.{spots_before}
use Rattle.pack_words.proofs.Columns.{with_words-append}

-- regions alike select the same rows
pub alike_rows : (cut : Cut) (r t : Region) (v first last : ℕ) → IsAlike r t → AreSelectedRows cut r v first last → AreSelectedRows cut t v first last
alike_rows cut r t v first last alike is =
    let rows = alike.rows in
    let same : (u : ℕ) → is_selected cut (t.i0 + u) (t.j0 + v) ≡ is_selected cut (r.i0 + u) (r.j0 + v) =
    λ u. ap (λ i. is_selected cut (i + u) (t.j0 + v)) (sym alike.i0) ∙ ap (λ j. is_selected cut (r.i0 + u) (j + v)) (sym alike.j0) in
    record {
      ordered = is.ordered;
      within = let w = is.within in omega arith;
      before = λ u h. same u ∙ is.before u h;
      inside = λ u h k. same u ∙ is.inside u h k;
      after = λ u h k. same u ∙ is.after u h (omega arith);
    }

alike_count : (cut : Cut) (r t : Region) (v : ℕ) → IsAlike r t → length (selected_rows cut r v) ≡ length (selected_rows cut t v)
alike_count cut r t v alike =
    ap (λ i. length (filter (λ u. is_selected cut (i + u) (r.j0 + v)) (range_with_len 0 r.rows))) alike.i0
    ∙ ap (λ j. length (filter (λ u. is_selected cut (t.i0 + u) (j + v)) (range_with_len 0 r.rows))) alike.j0
    ∙ ap (λ n. length (filter (λ u. is_selected cut (t.i0 + u) (t.j0 + v)) (range_with_len 0 n))) alike.rows

pub alike_column : (cut : Cut) (r t : Region) (v : ℕ) → IsAlike r t → length (column_spots cut r v) ≡ length (column_spots cut t v)
unfolding column_spots
alike_column cut r t v alike = length-map (selected_rows cut r v) _ ∙ alike_count cut r t v alike ∙ sym (length-map (selected_rows cut t v) _)

-- lists as long, one after the other
flat_map_long : {A : Type 0} (f g : ℕ → List A) (ks : List ℕ) → ((k : ℕ) → length (f k) ≡ length (g k)) → length (flat_map f ks) ≡ length (flat_map g ks)
flat_map_long f g [] h = refl
flat_map_long f g (k ∷ ks) h =
    length-append (f k) (flat_map f ks) ∙ ap (λ n. n + length (flat_map f ks)) (h k) ∙ ap (λ n. length (g k) + n) (flat_map_long f g ks h) ∙ sym (length-append (g k) (flat_map g ks))

pub alike_before : (cut : Cut) (r t : Region) (v : ℕ) → IsAlike r t → length (spots_before cut r v) ≡ length (spots_before cut t v)
alike_before cut r t v alike = flat_map_long (column_spots cut r) (column_spots cut t) (range_with_len 0 v) (λ k. alike_column cut r t k alike)

pub alike_region : (cut : Cut) (r t : Region) → IsAlike r t → length (region_spots cut r) ≡ length (region_spots cut t)
unfolding region_spots
alike_region cut r t alike =
    alike_before cut r t r.cols alike ∙ ap (λ n. length (spots_before cut t n)) alike.cols

-- lists of regions alike
pub alike_at : (rs ts : List Region) (k : ℕ) → AllAlike rs ts → k < length rs → IsAlike (slice_index_or rs k no_region) (slice_index_or ts k no_region)
alike_at [] [] k all lt = absurd (omega arith)
alike_at [] (t ∷ ts) k all lt = absurd all
alike_at (r ∷ rs) [] k all lt = absurd all
alike_at (r ∷ rs) (t ∷ ts) zero all lt = all.0
alike_at (r ∷ rs) (t ∷ ts) (suc k) all lt = alike_at rs ts k all.1 (omega arith)

pub alike_lengths : (rs ts : List Region) → AllAlike rs ts → length rs ≡ length ts
alike_lengths [] [] all = refl
alike_lengths [] (t ∷ ts) all = absurd all
alike_lengths (r ∷ rs) [] all = absurd all
alike_lengths (r ∷ rs) (t ∷ ts) all = ap suc (alike_lengths rs ts all.1)

pub alike_spots : (cut : Cut) (rs ts : List Region) (k : ℕ) → AllAlike rs ts → length (spots cut (take k rs)) ≡ length (spots cut (take k ts))
unfolding spots
alike_spots cut rs ts zero all = refl
alike_spots cut [] [] (suc k) all = refl
alike_spots cut [] (t ∷ ts) (suc k) all = absurd all
alike_spots cut (r ∷ rs) [] (suc k) all = absurd all
alike_spots cut (r ∷ rs) (t ∷ ts) (suc k) all =
    length-append (region_spots cut r) (spots cut (take k rs)) ∙ ap (λ n. n + length (spots cut (take k rs))) (alike_region cut r t all.0)
    ∙ ap (λ n. length (region_spots cut t) + n) (alike_spots cut rs ts k all.1) ∙ sym (length-append (region_spots cut t) (spots cut (take k ts)))

-- some words, and then the others
pub copying_goes_on : (from to : LocalCells) (rs qs ss ts : List (ℕ × ℕ)) → length rs ≡ length ss → with_words (with_words to ss (words_at from rs)) ts (words_at from qs) ≡ with_words to (ss ++ ts) (words_at from (rs ++ qs))
copying_goes_on from to rs qs ss ts long =
    sym (with_words-append to ss ts (words_at from rs) (words_at from qs) (length-map rs _ ∙ long))
    ∙ ap (with_words to (ss ++ ts)) (sym (map-append (λ s. word_at from s.0 s.1) rs qs))
