-- Regions of a local array, and the words that a move takes from them and puts into them.
use Rattle.std.specs.Prelude.{◌≡◌, ◌⊎◌, ℕ, ◌+◌, ◌≤◌, ◌<◌, Bool, true, false, ◌&&◌, nat_eq, ℤ, pos, List, [], ◌∷◌, length, map, slice_index_or}
use Rattle.std.specs.List.{range_with_len, filter, flat_map, AllByRecursion, IsDistinct}
use Rattle.pack_words.specs.declared.cut.Cut.{Cut}
use Rattle.pack_words.specs.declared.region.Region.{Region}
use Rattle.pack_words.specs.LocalCells.{LocalCells, word_at, with_word}
use Rattle.pack_words.specs.Selected.{is_selected}

-- the region of no elements, which stands for one past the end of a list
abbrev pub no_region : Region
no_region = record { li = 0; lj = 0; rows = 0; cols = 0; i0 = 0; j0 = 0 }

-- the region lies in the cut
pub record IsInCut (cut : Cut) (r : Region) : Type 0 where
  pub rows : r.i0 + r.rows ≤ cut.m
  pub columns : r.j0 + r.cols ≤ cut.n

-- the region lies in an array of columns of `lld` words
pub record IsInShape (lld cols : ℕ) (r : Region) : Type 0 where
  pub rows : r.li + r.rows ≤ lld
  pub columns : r.lj + r.cols ≤ cols

abbrev pub IsInArray : LocalCells → Region → Type 0
IsInArray c r = IsInShape c.lld c.cols r

abbrev pub AllInCut : Cut → List Region → Type 0
AllInCut cut rs = AllByRecursion (IsInCut cut) rs

abbrev pub AllInArray : LocalCells → List Region → Type 0
AllInArray c rs = AllByRecursion (IsInArray c) rs

-- the rows of the region, counted from its first, that are selected in its column v
abbrev pub selected_rows : Cut → Region → ℕ → List ℕ
selected_rows cut r v = filter (λ u. is_selected cut (r.i0 + u) (r.j0 + v)) (range_with_len 0 r.rows)

-- the selected elements of the region's column v: their local rows and columns
unfoldable pub column_spots : Cut → Region → ℕ → List (ℕ × ℕ)
column_spots cut r v = map (λ u. (r.li + u, r.lj + v)) (selected_rows cut r v)

-- the selected elements of the region, by columns
unfoldable pub region_spots : Cut → Region → List (ℕ × ℕ)
region_spots cut r = flat_map (column_spots cut r) (range_with_len 0 r.cols)

-- the selected elements, region by region
unfoldable pub spots : Cut → List Region → List (ℕ × ℕ)
spots cut rs = flat_map (region_spots cut) rs

-- the words of an array at these local rows and columns
abbrev pub words_at : LocalCells → List (ℕ × ℕ) → List ℤ
words_at c ss = map (λ s. word_at c s.0 s.1) ss

-- the array after each word is written at its local row and column
abbrev pub with_words : LocalCells → List (ℕ × ℕ) → List ℤ → LocalCells
with_words c [] ws = c
with_words c (s ∷ ss) [] = c
with_words c (s ∷ ss) (w ∷ ws) = with_words (with_word c s.0 s.1 w) ss ws

-- how many elements are selected
abbrev pub selected_count : Cut → List Region → ℕ
selected_count cut rs = length (spots cut rs)

-- the packed words: those of the selected elements, region by region, each by columns
abbrev pub packed : Cut → List Region → LocalCells → List ℤ
packed cut rs c = words_at c (spots cut rs)

-- the array after the assignment in the same order
abbrev pub unpacked : Cut → List Region → List ℤ → LocalCells → LocalCells
unpacked cut rs ws c = with_words c (spots cut rs) ws

-- the selected rows of the cut's column j are those from `first` to before `last`
pub record AreRows (cut : Cut) (j first last : ℕ) : Type 0 where
  pub ordered : first ≤ last
  pub before : (i : ℕ) → i < first → is_selected cut i j ≡ false
  pub inside : (i : ℕ) → first ≤ i → i < last → is_selected cut i j ≡ true
  pub after : (i : ℕ) → last ≤ i → i < cut.m → is_selected cut i j ≡ false

-- the selected rows of the region's column v are those from `first` to before `last`
pub record AreSelectedRows (cut : Cut) (r : Region) (v first last : ℕ) : Type 0 where
  pub ordered : first ≤ last
  pub within : last ≤ r.rows
  pub before : (u : ℕ) → u < first → is_selected cut (r.i0 + u) (r.j0 + v) ≡ false
  pub inside : (u : ℕ) → first ≤ u → u < last → is_selected cut (r.i0 + u) (r.j0 + v) ≡ true
  pub after : (u : ℕ) → last ≤ u → u < r.rows → is_selected cut (r.i0 + u) (r.j0 + v) ≡ false

-- one local place
abbrev pub is_same_spot : ℕ × ℕ → ℕ × ℕ → Bool
is_same_spot s t = nat_eq s.0 t.0 && nat_eq s.1 t.1

-- no place is named twice
abbrev pub NameOnce : Cut → List Region → Type 0
NameOnce cut rs = IsDistinct is_same_spot (spots cut rs)

-- the place is not that of a selected element
abbrev pub IsNoSpot : Cut → List Region → ℕ → ℕ → Type 0
IsNoSpot cut rs i j = AllByRecursion (λ s. is_same_spot (i, j) s ≡ false) (spots cut rs)

-- the k-th selected element, counted from 0
abbrev pub spot_at : Cut → List Region → ℕ → ℕ × ℕ
spot_at cut rs k = slice_index_or (spots cut rs) k (0, 0)

-- the array after the assignment, place by place: the place of the k-th selected element has the k-th word, and every other
-- place its word of before
pub record IsAssigned (cut : Cut) (rs : List Region) (ws : List ℤ) (before after : LocalCells) : Type 0 where
  pub placed : (k : ℕ) → k < selected_count cut rs → word_at after (spot_at cut rs k).0 (spot_at cut rs k).1 ≡ slice_index_or ws k (pos 0)
  pub others : (i j : ℕ) → i < before.lld → IsNoSpot cut rs i j → word_at after i j ≡ word_at before i j

-- two regions of one size and one place in the cut
pub record IsAlike (r t : Region) : Type 0 where
  pub rows : r.rows ≡ t.rows
  pub cols : r.cols ≡ t.cols
  pub i0 : r.i0 ≡ t.i0
  pub j0 : r.j0 ≡ t.j0

abbrev pub AllAlike : List Region → List Region → Type 0
AllAlike [] [] = Unit {0}
AllAlike [] (t ∷ ts) = ⊥
AllAlike (r ∷ rs) [] = ⊥
AllAlike (r ∷ rs) (t ∷ ts) = IsAlike r t × AllAlike rs ts

-- the words of the sources' selected elements of array a stand at those of the targets, element by element, and every other
-- place has its word of before
pub record IsCopied (cut : Cut) (sources targets : List Region) (a before after : LocalCells) : Type 0 where
  pub placed : (k : ℕ) → k < selected_count cut targets → word_at after (spot_at cut targets k).0 (spot_at cut targets k).1 ≡ word_at a (spot_at cut sources k).0 (spot_at cut sources k).1
  pub others : (i j : ℕ) → i < before.lld → IsNoSpot cut targets i j → word_at after i j ≡ word_at before i j

-- two regions that share no place
abbrev pub AreApart : Region → Region → Type 0
AreApart r t = (r.li + r.rows ≤ t.li) ⊎ (t.li + t.rows ≤ r.li) ⊎ (r.lj + r.cols ≤ t.lj) ⊎ (t.lj + t.cols ≤ r.lj)

-- each shares none with a later one
abbrev pub AllApart : List Region → Type 0
AllApart [] = Unit {0}
AllApart (r ∷ rs) = AllByRecursion (AreApart r) rs × AllApart rs
