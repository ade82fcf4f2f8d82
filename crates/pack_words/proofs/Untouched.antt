-- Regions that a cut does not touch have no selected element.
use Rattle.std.specs.Prelude.{◌≡◌, ◌↔◌, ℕ, zero, suc, ◌+◌, ◌-◌, ◌<◌, ◌≤◌, nat_le, nat_lt, Bool, true, false, cond, List, [], ◌∷◌, ◌++◌, map}
use Rattle.std.specs.List.{range_with_len, filter, flat_map}
use Rattle.std.proofs.Common.{sym, ap, ◌∙◌, refl, arith}
use Rattle.std.proofs.lemmas.Bool.Decides.{nat_tests}
use Rattle.pack_words.specs.declared.cut.Cut.{Cut}
use Rattle.pack_words.specs.declared.region.Region.{Region}
use Rattle.pack_words.specs.declared.shape.Shape.{Shape}
use Rattle.pack_words.specs.declared.shape.Shape.TheVariants.{Ge, Tr}
use Rattle.pack_words.specs.declared.uplo.Uplo.TheVariants.{Upper, Lower}
use Rattle.pack_words.specs.declared.diag.Diag.TheVariants.{N, U}
use Rattle.pack_words.specs.declared.span.Span.{Span}
use Rattle.pack_words.specs.Selected.{selects, is_selected}
use Rattle.pack_words.specs.Packing.{column_spots, region_spots, spots}
use Rattle.pack_words.specs.Products.{has_corner, is_touched, HasElement, product, touched_product}

-- where a region has a selected element, it has one at the corner that the shape favours
corner_too : (s : Shape) (m n : ℕ) (r : Region) (u v : ℕ) → u < r.rows → v < r.cols → selects s m n (r.i0 + u) (r.j0 + v) ≡ true → has_corner s m n r ≡ true
corner_too Ge m n r u v hu hv h = refl
corner_too (Tr Upper N) m n r u v hu hv h = by r.i0 r.j0 r.cols u v (m - n) hv h
  where
    by : (i j l u v d : ℕ) → v < l → nat_le (i + u) (j + v + d) ≡ true → nat_le i (j + l - 1 + d) ≡ true
    by i j l u v d hv h = grind (arith, nat_tests)
corner_too (Tr Upper U) m n r u v hu hv h = by r.i0 r.j0 r.cols u v (m - n) hv h
  where
    by : (i j l u v d : ℕ) → v < l → nat_lt (i + u) (j + v + d) ≡ true → nat_lt i (j + l - 1 + d) ≡ true
    by i j l u v d hv h = grind (arith, nat_tests)
corner_too (Tr Lower N) m n r u v hu hv h = by r.i0 r.j0 r.rows u v (n - m) hu h
  where
    by : (i j l u v d : ℕ) → u < l → nat_le (j + v) (i + u + d) ≡ true → nat_le j (i + l - 1 + d) ≡ true
    by i j l u v d hu h = grind (arith, nat_tests)
corner_too (Tr Lower U) m n r u v hu hv h = by r.i0 r.j0 r.rows u v (n - m) hu h
  where
    by : (i j l u v d : ℕ) → u < l → nat_lt (j + v) (i + u + d) ≡ true → nat_lt j (i + l - 1 + d) ≡ true
    by i j l u v d hu h = grind (arith, nat_tests)

-- the corner is an element of the region
corner_of : (s : Shape) (m n : ℕ) (r : Region) → 0 < r.rows → 0 < r.cols → has_corner s m n r ≡ true → (u : ℕ) × ((v : ℕ) × ((u < r.rows) × ((v < r.cols) × (selects s m n (r.i0 + u) (r.j0 + v) ≡ true))))
corner_of Ge m n r hr hc h = (0, (0, (hr, (hc, refl))))
corner_of (Tr Upper d) m n r hr hc h =
    let i : r.i0 + 0 ≡ r.i0 = omega arith in
    let j : r.j0 + (r.cols - 1) ≡ r.j0 + r.cols - 1 = omega arith in
    (0, (r.cols - 1, (hr, (omega arith, ap (λ k. selects (Tr Upper d) m n k (r.j0 + (r.cols - 1))) i ∙ ap (selects (Tr Upper d) m n r.i0) j ∙ h))))
corner_of (Tr Lower d) m n r hr hc h =
    let i : r.i0 + (r.rows - 1) ≡ r.i0 + r.rows - 1 = omega arith in
    let j : r.j0 + 0 ≡ r.j0 = omega arith in
    (r.rows - 1, (0, (omega arith, (hc, ap (λ k. selects (Tr Lower d) m n k (r.j0 + 0)) i ∙ ap (selects (Tr Lower d) m n (r.i0 + r.rows - 1)) j ∙ h))))

pub corner_tells : (cut : Cut) (r : Region) → 0 < r.rows → 0 < r.cols → (is_touched cut r ≡ true) ↔ HasElement cut r
corner_tells cut r hr hc = (
  λ h. corner_of cut.shape cut.m cut.n r hr hc h,
  λ h. corner_too cut.shape cut.m cut.n r h.0 h.1.0 h.1.1.0 h.1.1.1.0 h.1.1.1.1,
)

turned : (b c : Bool) → (b ≡ true → c ≡ true) → c ≡ false → b ≡ false
turned true c f e = sym (f refl) ∙ e
turned false c f e = refl

no_rows : (p : ℕ → Bool) (a n : ℕ) → ((u : ℕ) → a ≤ u → u < a + n → p u ≡ false) → filter p (range_with_len a n) ≡ []
no_rows p a zero h = refl
no_rows p a (suc n) h =
    let rest = no_rows p (a + 1) n (λ u lo hi. h u (omega arith) (omega arith)) in
    ap (λ b. cond b (a ∷ filter p (range_with_len (a + 1) n)) (filter p (range_with_len (a + 1) n))) (h a (omega arith) (omega arith)) ∙ rest

no_columns : {A : Type 0} (f : ℕ → List A) (a n : ℕ) → ((v : ℕ) → a ≤ v → v < a + n → f v ≡ []) → flat_map f (range_with_len a n) ≡ []
no_columns f a zero h = refl
no_columns f a (suc n) h =
    let rest = no_columns f (a + 1) n (λ v lo hi. h v (omega arith) (omega arith)) in
    ap (λ xs. xs ++ flat_map f (range_with_len (a + 1) n)) (h a (omega arith) (omega arith)) ∙ rest

none_of_column : (cut : Cut) (r : Region) (v : ℕ) → v < r.cols → is_touched cut r ≡ false → column_spots cut r v ≡ []
unfolding column_spots
none_of_column cut r v lt e =
    ap (map (λ u. (r.li + u, r.lj + v))) (no_rows (λ u. is_selected cut (r.i0 + u) (r.j0 + v)) 0 r.rows
    (λ u lo hi. turned (is_selected cut (r.i0 + u) (r.j0 + v)) (is_touched cut r) (λ h. corner_too cut.shape cut.m cut.n r u v (omega arith) lt h) e))

none_of : (cut : Cut) (r : Region) → is_touched cut r ≡ false → region_spots cut r ≡ []
unfolding region_spots
none_of cut r e = no_columns (column_spots cut r) 0 r.cols (λ v lo hi. none_of_column cut r v (omega arith) e)

one_more : (cut : Cut) (r : Region) (rs : List Region) (b : Bool) → is_touched cut r ≡ b → spots cut (filter (is_touched cut) rs) ≡ spots cut rs → spots cut (cond b (r ∷ filter (is_touched cut) rs) (filter (is_touched cut) rs)) ≡ spots cut (r ∷ rs)
unfolding spots
one_more cut r rs true e rest = ap (λ ss. region_spots cut r ++ ss) rest
one_more cut r rs false e rest = rest ∙ ap (λ ss. ss ++ spots cut rs) (sym (none_of cut r e))

-- leaving them out keeps the selected elements
spots_stay : (cut : Cut) (rs : List Region) → spots cut (filter (is_touched cut) rs) ≡ spots cut rs
spots_stay cut [] = refl
spots_stay cut (r ∷ rs) = one_more cut r rs (is_touched cut r) refl (spots_stay cut rs)

pub product_stays : (cut : Cut) (rows cols : List Span) → spots cut (touched_product cut rows cols) ≡ spots cut (product rows cols)
unfolding touched_product
product_stays cut rows cols = spots_stay cut (product rows cols)
