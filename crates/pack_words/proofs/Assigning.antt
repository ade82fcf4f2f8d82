-- The assignment, place by place.
use Rattle.std.specs.Prelude.{◌≡◌, ◌≢◌, ◌⊎◌, ℕ, zero, suc, ◌+◌, ◌*◌, ◌<◌, ◌≤◌, Bool, true, false, cond, ℤ, pos, List, [], ◌∷◌, ◌++◌, length, map, slice_index_or}
use Rattle.std.specs.List.{range_with_len, filter, flat_map, AllByRecursion, IsDistinct}
use Rattle.std.proofs.Common.{sym, ap, ◌∙◌, refl, arith}
use Rattle.std.proofs.lemmas.Bool.Decides.{nat_tests}
use Rattle.std.proofs.lemmas.List.{length-set, length-map, get_or-set_same, get_or-set_other}
use Rattle.pack_words.specs.declared.cut.Cut.{Cut}
use Rattle.pack_words.specs.declared.region.Region.{Region}
use Rattle.pack_words.specs.LocalCells.{LocalCells, IsLocalCells, place, word_at, with_word}
use Rattle.pack_words.specs.Packing.{IsInShape, AllInArray, selected_rows, column_spots, region_spots, spots, with_words, is_same_spot, NameOnce, packed, unpacked, selected_count, IsAssigned, AllAlike, IsCopied}
use Rattle.pack_words.proofs.Places.{place_within, places_apart}
use Rattle.pack_words.proofs.CopyLaws.{alike_spots, alike_lengths}
use Rattle.std.proofs.lemmas.List.{take_all}

-- a place of the array
pub record IsPlace (lld cols : ℕ) (s : ℕ × ℕ) : Type 0 where
  pub row : s.0 < lld
  pub column : s.1 < cols

apart_by : (i j k l : ℕ) → is_same_spot (i, j) (k, l) ≡ false → (i ≢ k) ⊎ (j ≢ l)
apart_by i j k l h = grind (arith, nat_tests)

-- what is written elsewhere leaves a word
pub written_elsewhere : (lld cols : ℕ) (c : LocalCells) (ss : List (ℕ × ℕ)) (ws : List ℤ) (i j : ℕ) → c.lld ≡ lld → i < lld → AllByRecursion (IsPlace lld cols) ss → AllByRecursion (λ s. is_same_spot (i, j) s ≡ false) ss → word_at (with_words c ss ws) i j ≡ word_at c i j
written_elsewhere lld cols c [] ws i j lead row all apart = refl
written_elsewhere lld cols c (s ∷ ss) [] i j lead row all apart = refl
written_elsewhere lld cols c (s ∷ ss) (w ∷ ws) i j lead row all apart =
    let here = all.0.row in
    written_elsewhere lld cols (with_word c s.0 s.1 w) ss ws i j lead row all.1 apart.1
    ∙ get_or-set_other c.words (place c.lld s.0 s.1) (place c.lld i j) w (pos 0) (places_apart c.lld s.0 s.1 i j (omega arith) (omega arith) (apart_by i j s.0 s.1 apart.0))

-- each word stands at its place
pub written_there : (lld cols : ℕ) (c : LocalCells) (ss : List (ℕ × ℕ)) (ws : List ℤ) (k : ℕ) → c.lld ≡ lld → length c.words ≡ lld * cols → AllByRecursion (IsPlace lld cols) ss → IsDistinct is_same_spot ss → length ws ≡ length ss → k < length ss → word_at (with_words c ss ws) (slice_index_or ss k (0, 0)).0 (slice_index_or ss k (0, 0)).1 ≡ slice_index_or ws k (pos 0)
unfolding IsDistinct
written_there lld cols c [] ws k lead count all once long lt = absurd (omega arith)
written_there lld cols c (s ∷ ss) [] k lead count all once long lt = absurd (omega arith)
written_there lld cols c (s ∷ ss) (w ∷ ws) zero lead count all once long lt =
    let row = all.0.row in
    let within : place c.lld s.0 s.1 < length c.words = let h = place_within lld cols s.0 s.1 all.0.row all.0.column in rw lead (omega arith) in
    written_elsewhere lld cols (with_word c s.0 s.1 w) ss ws s.0 s.1 lead row all.1 once.0
    ∙ get_or-set_same c.words (place c.lld s.0 s.1) w (pos 0) within
written_there lld cols c (s ∷ ss) (w ∷ ws) (suc k) lead count all once long lt =
    written_there lld cols (with_word c s.0 s.1 w) ss ws k lead (length-set c.words (place c.lld s.0 s.1) w ∙ count) all.1 once.1 (omega arith) (omega arith)

-- what holds of each number of a run, of those that pass a test, of images and of joined lists
pub all_of_run : (P : ℕ → Type 0) (a n : ℕ) → ((u : ℕ) → a ≤ u → u < a + n → P u) → AllByRecursion P (range_with_len a n)
all_of_run P a zero h = tt
all_of_run P a (suc n) h = (h a (omega arith) (omega arith), all_of_run P (a + 1) n (λ u lo hi. h u (omega arith) (omega arith)))

pub all_of_filter : {X : Type 0} (P : X → Type 0) (p : X → Bool) (xs : List X) → AllByRecursion P xs → AllByRecursion P (filter p xs)
all_of_filter P p [] all = tt
all_of_filter P p (x ∷ xs) all =
    let rest = all_of_filter P p xs all.1 in
    elim (p x) as (λ b. AllByRecursion P (cond b (x ∷ filter p xs) (filter p xs))) [ true ↦ (all.0, rest) | false ↦ rest ]

pub all_of_map : {X Y : Type 0} (P : Y → Type 0) (f : X → Y) (xs : List X) → AllByRecursion (λ x. P (f x)) xs → AllByRecursion P (map f xs)
all_of_map P f [] all = tt
all_of_map P f (x ∷ xs) all = (all.0, all_of_map P f xs all.1)

pub all_of_join : {X : Type 0} (P : X → Type 0) (xs ys : List X) → AllByRecursion P xs → AllByRecursion P ys → AllByRecursion P (xs ++ ys)
all_of_join P [] ys a b = b
all_of_join P (x ∷ xs) ys a b = (a.0, all_of_join P xs ys a.1 b)

pub all_of_flat_map : {X Y : Type 0} (P : Y → Type 0) (f : X → List Y) (xs : List X) → AllByRecursion (λ x. AllByRecursion P (f x)) xs → AllByRecursion P (flat_map f xs)
all_of_flat_map P f [] all = tt
all_of_flat_map P f (x ∷ xs) all = all_of_join P (f x) (flat_map f xs) all.0 (all_of_flat_map P f xs all.1)

-- the selected elements' places are in the array
pub column_places : (cut : Cut) (lld cols : ℕ) (r : Region) (v : ℕ) → IsInShape lld cols r → v < r.cols → AllByRecursion (IsPlace lld cols) (column_spots cut r v)
unfolding column_spots
column_places cut lld cols r v is lt =
    let rows = is.rows in
    let columns = is.columns in
    all_of_map (IsPlace lld cols) (λ u. (r.li + u, r.lj + v)) (selected_rows cut r v)
    (all_of_filter (λ u. IsPlace lld cols (r.li + u, r.lj + v)) _ (range_with_len 0 r.rows)
    (all_of_run (λ u. IsPlace lld cols (r.li + u, r.lj + v)) 0 r.rows (λ u lo hi. record { row = omega arith; column = omega arith })))

pub region_places : (cut : Cut) (lld cols : ℕ) (r : Region) → IsInShape lld cols r → AllByRecursion (IsPlace lld cols) (region_spots cut r)
unfolding region_spots
region_places cut lld cols r is =
    all_of_flat_map (IsPlace lld cols) (column_spots cut r) (range_with_len 0 r.cols)
    (all_of_run (λ v. AllByRecursion (IsPlace lld cols) (column_spots cut r v)) 0 r.cols (λ v lo hi. column_places cut lld cols r v is (omega arith)))

pub places_of : (cut : Cut) (lld cols : ℕ) (rs : List Region) → AllByRecursion (IsInShape lld cols) rs → AllByRecursion (IsPlace lld cols) (spots cut rs)
unfolding spots
places_of cut lld cols [] all = tt
places_of cut lld cols (r ∷ rs) all = all_of_join (IsPlace lld cols) (region_spots cut r) (spots cut rs) (region_places cut lld cols r all.0) (places_of cut lld cols rs all.1)

-- the array after the assignment
pub is_assigned : (cut : Cut) (rs : List Region) (ws : List ℤ) (c : LocalCells) → IsLocalCells c → AllInArray c rs → NameOnce cut rs → length ws ≡ selected_count cut rs → IsAssigned cut rs ws c (unpacked cut rs ws c)
is_assigned cut rs ws c is held once long =
    let all = places_of cut c.lld c.cols rs held in
    record {
      placed = λ k lt. written_there c.lld c.cols c (spots cut rs) ws k refl is.count all once long lt;
      others = λ i j row apart. written_elsewhere c.lld c.cols c (spots cut rs) ws i j refl row all apart;
    }

get_or_map : {X Y : Type 0} (f : X → Y) (xs : List X) (k : ℕ) (d : X) (e : Y) → k < length xs → slice_index_or (map f xs) k e ≡ f (slice_index_or xs k d)
get_or_map f [] k d e lt = absurd (omega arith)
get_or_map f (x ∷ xs) zero d e lt = refl
get_or_map f (x ∷ xs) (suc k) d e lt = get_or_map f xs k d e (omega arith)

-- unpack of what pack gave
pub is_copied : (cut : Cut) (rs ts : List Region) (a b : LocalCells) → IsLocalCells b → AllInArray b ts → AllAlike rs ts → NameOnce cut ts → IsCopied cut rs ts a b (unpacked cut ts (packed cut rs a) b)
is_copied cut rs ts a b is held alike once =
    let same : length (spots cut rs) ≡ length (spots cut ts) =
    ap (λ xs. length (spots cut xs)) (sym (take_all (length rs) rs (omega arith))) ∙ alike_spots cut rs ts (length rs) alike
    ∙ ap (λ xs. length (spots cut xs)) (take_all (length rs) ts (let e = alike_lengths rs ts alike in omega arith)) in
    let long : length (packed cut rs a) ≡ length (spots cut ts) = length-map (spots cut rs) _ ∙ same in
    let h = is_assigned cut ts (packed cut rs a) b is held once long in
    record {
      placed = λ k lt. h.placed k lt ∙ get_or_map (λ (s : ℕ × ℕ). word_at a s.0 s.1) (spots cut rs) k (0, 0) (pos 0) (omega arith);
      others = h.others;
    }
