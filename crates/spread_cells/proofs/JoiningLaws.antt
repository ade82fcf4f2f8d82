-- The joined matrix is the one that the arrays spread.
use Rattle.std.proofs.Common.{◌≡◌, ℕ, zero, suc, ◌+◌, ◌*◌, ◌/◌, ◌%◌, ◌<◌, ◌≤◌, ℤ, pos, List, length, get_or, refl, sym, ap, subst, ◌∙◌, arith}
use Rattle.std.proofs.Math.Nat.{mod-lt, div-lt_iff_lt-mul}
use Rattle.std.proofs.lemmas.Nat.{div-mul-add, mod-mul-add, div-add-mod', mul-add-lt}
use Rattle.std.proofs.lemmas.List.{ext_get_or}
use Rattle.std.proofs.lemmas.List.FromFn.{get_or-map-range_with_len, length-map-range_with_len}
use Rattle.index_tools.specs.Spread.{owner, local}
use Rattle.index_tools.specs.Home.{Layout, row_spread, column_spread, local_rows, local_columns}
use Rattle.pack_words.specs.LocalCells.{LocalCells, zeros, word_at}
use Rattle.mm_grammar.specs.Matrix.{Matrix}
use Rattle.spread_cells.specs.declared.index_home.IndexHome.{IndexHome}
use Rattle.spread_cells.specs.IndexHomes.{index_home}
use Rattle.spread_cells.specs.Joining.{array_at, home_word, joined, HoldsSpread, IsSpreadOver, JoinsByHome}

place_below : (r c i j : ℕ) → i < r → j < c → j * r + i < r * c
place_below r c i j low left = grind arith

pub joined_length : (l : Layout) (arrays : List LocalCells) → length (joined l arrays).values ≡ l.rows * l.columns
joined_length l arrays = length-map-range_with_len (λ k. home_word l arrays (k % l.rows) (k / l.rows)) 0 (l.rows * l.columns)

-- the value by columns of row i and column j
pub joined_at : (l : Layout) (arrays : List LocalCells) (i j : ℕ) → i < l.rows → j < l.columns → get_or (joined l arrays).values (j * l.rows + i) (pos 0) ≡ home_word l arrays i j
joined_at l arrays i j low left =
    let row : (j * l.rows + i) % l.rows ≡ i = mod-mul-add j l.rows i low in
    let column : (j * l.rows + i) / l.rows ≡ j = div-mul-add j l.rows i low in
    get_or-map-range_with_len (λ k. home_word l arrays (k % l.rows) (k / l.rows)) 0 (l.rows * l.columns) (j * l.rows + i) (j * l.rows + i) (pos 0) (place_below l.rows l.columns i j low left) (omega arith)
    ∙ ap (λ k. home_word l arrays k ((j * l.rows + i) / l.rows)) row
    ∙ ap (home_word l arrays i) column

some_rows : (r c k : ℕ) → k < r * c → 0 < r
some_rows zero c k lt = omega arith
some_rows (suc r) c k lt = omega arith

column_below : (r c k : ℕ) → 0 < r → k < r * c → k / r < c
column_below r c k some lt = let lt' : k < c * r = omega arith in (div-lt_iff_lt-mul some).1 lt'

matrix_is : (m : Matrix) (r c : ℕ) (vs : List ℤ) → m.rows ≡ r → m.columns ≡ c → m.values ≡ vs → m ≡ record { rows = r; columns = c; values = vs }
matrix_is m r c vs e f g = rw (← e, ← f, ← g) refl

one_value : (l : Layout) (arrays : List LocalCells) (m : Matrix) → IsSpreadOver l arrays m → (k : ℕ) → k < l.rows * l.columns → get_or m.values k (pos 0) ≡ get_or (joined l arrays).values k (pos 0)
one_value l arrays m is k lt =
    let some : 0 < l.rows = some_rows l.rows l.columns k lt in
    let low : k % l.rows < l.rows = mod-lt k some in
    let left : k / l.rows < l.columns = column_below l.rows l.columns k some lt in
    let spot : k / l.rows * l.rows + k % l.rows ≡ k = div-add-mod' k l.rows in
    ap (λ n. get_or m.values n (pos 0)) (sym spot) ∙ is.homes (k % l.rows) (k / l.rows) low left ∙ sym (joined_at l arrays (k % l.rows) (k / l.rows) low left) ∙ ap (λ n. get_or (joined l arrays).values n (pos 0)) spot

pub joins_by_home : (l : Layout) (arrays : List LocalCells) → JoinsByHome l arrays
joins_by_home l arrays = record {
  spread = record { rows = refl; columns = refl; count = joined_length l arrays; homes = joined_at l arrays };
  only = λ m is. matrix_is m l.rows l.columns (joined l arrays).values is.rows is.columns (ext_get_or (pos 0) m.values (joined l arrays).values (is.count ∙ sym (joined_length l arrays)) (λ k lt. let lt' : k < l.rows * l.columns = omega (arith, is.count) in one_value l arrays m is k lt'));
}

-- the word that the homes of a row and a column lead to
pub word_found : (l : Layout) (arrays : List LocalCells) (i j : ℕ) (row column : IndexHome) (a : LocalCells) (word : ℤ) → i < l.rows → j < l.columns → row ≡ index_home (row_spread l) i → column ≡ index_home (column_spread l) j
    → a ≡ array_at l arrays row.process column.process → word ≡ word_at a row.local column.local → word ≡ get_or (joined l arrays).values (j * l.rows + i) (pos 0)
word_found l arrays i j row column a word low left r c e w =
    w ∙ ap (λ (x : LocalCells). word_at x row.local column.local) e
    ∙ ap (λ (x : IndexHome). word_at (array_at l arrays x.process column.process) x.local column.local) r
    ∙ ap (λ (x : IndexHome). word_at (array_at l arrays (owner (row_spread l) i) x.process) (local (row_spread l) i) x.local) c
    ∙ sym (joined_at l arrays i j low left)

-- the number of a process of the grid
pub process_below : (l : Layout) (p q : ℕ) → p < l.nprow → q < l.npcol → p * l.npcol + q < l.nprow * l.npcol
process_below l p q hp hq = omega (arith, mul-add-lt p l.npcol q l.nprow hp hq)

-- Arrays that have the rows and columns of their processes hold the matrix. The arrays are counted by rows of the grid.
pub holds_spread : (l : Layout) (arrays : List LocalCells) → length arrays ≡ l.nprow * l.npcol
    → ((k : ℕ) → k < l.nprow * l.npcol → local_rows l (k / l.npcol) ≤ (get_or arrays k (zeros 1 0)).lld) → ((k : ℕ) → k < l.nprow * l.npcol → local_columns l (k % l.npcol) ≤ (get_or arrays k (zeros 1 0)).cols) → HoldsSpread l arrays
holds_spread l arrays count rows columns = record {
  count = count;
  rows_fit = record { rows_fit = λ p q hp hq. let R : ℕ → Type 0 = λ r. local_rows l r ≤ (get_or arrays (p * l.npcol + q) (zeros 1 0)).lld in subst R (div-mul-add p l.npcol q hq) (rows (p * l.npcol + q) (process_below l p q hp hq)) };
  columns_fit = λ p q hp hq. let R : ℕ → Type 0 = λ r. local_columns l r ≤ (get_or arrays (p * l.npcol + q) (zeros 1 0)).cols in subst R (mod-mul-add p l.npcol q hq) (columns (p * l.npcol + q) (process_below l p q hp hq));
}
