-- One array more, of zeros.
use Rattle.std.proofs.Common.{◌≡◌, ℕ, zero, suc, ◌+◌, ◌*◌, ◌<◌, List, [], ◌∷◌, ◌++◌, length, map, Some, ℤ, pos, refl, sym, ap, subst, ◌∙◌, arith, length-append, inl, inr}
use Rattle.std.specs.Prelude.{◌⊎◌, slice_get, slice_index_or}
use Rattle.std.proofs.lemmas.List.{length-replicate, length-map}
use Rattle.pack_words.specs.LocalCells.{LocalCells, zeros}
use Rattle.pack_words.specs.GridShapes.{ShapesView, shape_of, measure_of, whole_measure, measures_of, HasShapes}
use Rattle.program_meaning.specs.Declarations.{with_zeros}
use Rattle.line_plans.specs.Exact.{IsExact, HasMore}

-- lists of lists
at_map : {X Y : Type 0} (f : List X → List Y) (xss : List (List X)) (r : ℕ) → f [] ≡ [] → slice_index_or (map f xss) r [] ≡ f (slice_index_or xss r [])
at_map f [] r e = sym e
at_map f (xs ∷ xss) zero e = refl
at_map f (xs ∷ xss) (suc r) e = at_map f xss r e

joined_measures : (cs : List LocalCells) (c : LocalCells) → measures_of (cs ++ c ∷ []) ≡ measures_of cs ++ measure_of c ∷ []
joined_measures [] c = refl
joined_measures (d ∷ cs) c = ap (λ ms. measure_of d ∷ ms) (joined_measures cs c)

pub get_front : {X : Type 0} (xs : List X) (y : X) (k : ℕ) → k < length xs → slice_get (xs ++ y ∷ []) k ≡ slice_get xs k
get_front [] y k lt = absurd (omega arith)
get_front (x ∷ xs) y zero lt = refl
get_front (x ∷ xs) y (suc k) lt = get_front xs y k (omega arith)

pub get_last : {X : Type 0} (xs : List X) (y : X) (k : ℕ) → k ≡ length xs → slice_get (xs ++ y ∷ []) k ≡ Some y
get_last [] y zero e = refl
get_last [] y (suc k) e = absurd (omega arith)
get_last (x ∷ xs) y zero e = absurd (omega arith)
get_last (x ∷ xs) y (suc k) e = get_last xs y k (omega arith)

-- a rank's arrays with one more
zeros_at : (sizes : List (ℕ × ℕ)) (css : List (List LocalCells)) (r : ℕ) → length sizes ≡ length css → r < length css → slice_index_or (with_zeros sizes css) r [] ≡ slice_index_or css r [] ++ zeros (slice_index_or sizes r (1, 0)).0 (slice_index_or sizes r (1, 0)).1 ∷ []
zeros_at sizes [] r e lt = absurd (omega arith)
zeros_at [] (cs ∷ css) r e lt = absurd (omega arith)
zeros_at (size ∷ sizes) (cs ∷ css) zero e lt = refl
zeros_at (size ∷ sizes) (cs ∷ css) (suc r) e lt = zeros_at sizes css r (omega arith) (omega arith)

zeros_long : (sizes : List (ℕ × ℕ)) (css : List (List LocalCells)) → length (with_zeros sizes css) ≡ length css
zeros_long sizes [] = refl
zeros_long [] (cs ∷ css) = refl
zeros_long (size ∷ sizes) (cs ∷ css) = ap suc (zeros_long sizes css)

zeros_measure : (size : ℕ × ℕ) → measure_of (zeros size.0 size.1) ≡ whole_measure size
zeros_measure size = let m : ℕ → ℕ × ℕ × ℕ = λ n. (size.0, size.1, n) in ap m (length-replicate (size.0 * size.1) (pos 0))

last_or_before : (a count : ℕ) → a < count + 1 → (a < count) ⊎ (a ≡ count)
last_or_before a count lt = grind arith

module _ (v w : ShapesView) (sizes : List (ℕ × ℕ)) (arrays : List (List LocalCells)) (waits : ℕ → ℕ → List (List ℤ)) (more : HasMore v w sizes) (whole : length sizes ≡ v.ranks)
    (h : HasShapes v (record { arrays = arrays; waits = waits })) (exact : IsExact v (record { arrays = arrays; waits = waits })) where
  row : (r : ℕ) → r < v.ranks → slice_index_or (map measures_of (with_zeros sizes arrays)) r [] ≡ slice_index_or (map measures_of arrays) r [] ++ whole_measure (slice_index_or sizes r (1, 0)) ∷ []
  row r lt =
      let long = h.ranks_are in
      let size : ℕ × ℕ = slice_index_or sizes r (1, 0) in
      at_map measures_of (with_zeros sizes arrays) r refl
      ∙ ap measures_of (zeros_at sizes arrays r (whole ∙ sym long) (omega arith))
      ∙ joined_measures (slice_index_or arrays r []) (zeros size.0 size.1)
      ∙ ap (λ m. measures_of (slice_index_or arrays r []) ++ m ∷ []) (zeros_measure size)
      ∙ ap (λ ms. ms ++ whole_measure size ∷ []) (sym (at_map measures_of arrays r refl))

  row_long : (r : ℕ) → r < v.ranks → length (slice_index_or (map measures_of arrays) r []) ≡ v.count
  row_long r lt = ap length (at_map measures_of arrays r refl) ∙ length-map (slice_index_or arrays r []) measure_of ∙ exact.each r lt

  pub more_shapes : HasShapes w (record { arrays = with_zeros sizes arrays; waits = waits })
  more_shapes = record {
    ranks_are = zeros_long sizes arrays ∙ h.ranks_are ∙ sym more.ranks;
    each = λ r a lr la.
        let low : r < v.ranks = subst (λ n. r < n) more.ranks lr in
        let some : a < v.count + 1 = subst (λ n. a < n) more.count la in
        ap (λ ms. slice_get ms a) (row r low) ∙ step r a low (last_or_before a v.count some);
  }
    where
      step : (r a : ℕ) → r < v.ranks → (a < v.count) ⊎ (a ≡ v.count) → slice_get (slice_index_or (map measures_of arrays) r [] ++ whole_measure (slice_index_or sizes r (1, 0)) ∷ []) a ≡ Some (whole_measure (shape_of w r a))
      step r a lt (inl before) =
          let long = row_long r lt in
          get_front (slice_index_or (map measures_of arrays) r []) (whole_measure (slice_index_or sizes r (1, 0))) a (omega arith) ∙ h.each r a lt before ∙ ap (λ size. Some (whole_measure size)) (sym (more.others r a lt before))
      step r a lt (inr last) =
          let long = row_long r lt in
          get_last (slice_index_or (map measures_of arrays) r []) (whole_measure (slice_index_or sizes r (1, 0))) a (omega arith) ∙ ap (λ size. Some (whole_measure size)) (sym (ap (shape_of w r) last ∙ more.here r lt))

  pub more_exact : IsExact w (record { arrays = with_zeros sizes arrays; waits = waits })
  more_exact = record {
    each = λ r lr.
        let low : r < v.ranks = subst (λ n. r < n) more.ranks lr in
        let long = h.ranks_are in
        let size : ℕ × ℕ = slice_index_or sizes r (1, 0) in
        ap length (zeros_at sizes arrays r (whole ∙ sym long) (omega arith)) ∙ length-append (slice_index_or arrays r []) (zeros size.0 size.1 ∷ []) ∙ ap (λ n. n + 1) (exact.each r low) ∙ sym more.count;
  }
