-- The sizes of what is drawn and dealt.
use Rattle.std.specs.Prelude.{◌≡◌, ℕ, ◌*◌, ◌/◌, ◌%◌, ◌^◌, ◌≤◌, max, ℤ, List, length}
use Rattle.std.proofs.Common.{sym, ap, ◌∙◌, arith}
use Rattle.std.proofs.lemmas.List.FromFn.{length-map-range_with_len}
use Rattle.index_tools.specs.Spread.{below}
use Rattle.index_tools.specs.Home.{row_spread, column_spread}
use Rattle.index_tools.proofs.HomeLemmas.{below_le}
use Rattle.mm_grammar.specs.Matrix.{Matrix}
use Rattle.piece_grammar.specs.Head.{Head, array_columns}
use Rattle.spread_cells.proofs.OwnedLemmas.{length-owned}
use Rattle.piece_moves.specs.Distribution.{Distribution, layout_over, head_over}
use Rattle.drawn_jobs.specs.Drawing.{drawn_word, drawn_words}
use Rattle.drawn_jobs.specs.Dealing.{cells_at}

pub drawn_length : (seed count : ℕ) → length (drawn_words seed count) ≡ count
drawn_length seed count = length-map-range_with_len (drawn_word seed) 0 count

pub drawn_area : (seed count : ℕ) (words : List ℤ) → words ≡ drawn_words seed count → length words ≡ count
drawn_area seed count words e = ap length e ∙ drawn_length seed count

pub square_fits : (size : ℕ) → size ≤ 2000 → size * size ≤ 2 ^ 26
square_fits size le = grind arith

-- the rows and columns of a piece's array
pub cells_rows : (d : Distribution) (m : Matrix) (k : ℕ) → (cells_at d m k).rows ≡ (head_over d m.rows m.columns k).lld
cells_rows d m k = ap (max 1) (length-owned (row_spread (layout_over d m.rows m.columns)) (k / d.npcol) m.rows)

cells_columns : (d : Distribution) (m : Matrix) (k : ℕ) → (cells_at d m k).columns ≡ array_columns (head_over d m.rows m.columns k)
cells_columns d m k = ap (max 1) (length-owned (column_spread (layout_over d m.rows m.columns)) (k % d.npcol) m.columns)

pub columns_are : (d : Distribution) (m : Matrix) (k : ℕ) (x : Matrix) (h : Head) (columns : ℕ) → x ≡ cells_at d m k → h ≡ head_over d m.rows m.columns k → columns ≡ x.columns → columns ≡ array_columns h
columns_are d m k x h columns e is have = have ∙ ap (λ (y : Matrix). y.columns) e ∙ cells_columns d m k ∙ sym (ap array_columns is)

raised : (a n : ℕ) → a ≤ n → n ≤ 2000 → max 1 a ≤ 2000
raised a n le few = grind arith

rows_low : (d : Distribution) (m : Matrix) (k : ℕ) → m.rows ≤ 2000 → (cells_at d m k).rows ≤ 2000
rows_low d m k le =
    let low = raised (below (row_spread (layout_over d m.rows m.columns)) (k / d.npcol) m.rows) m.rows (below_le (row_spread (layout_over d m.rows m.columns)) (k / d.npcol) m.rows) le in
    let is = cells_rows d m k in
    omega (arith, is, low)

columns_low : (d : Distribution) (m : Matrix) (k : ℕ) → m.columns ≤ 2000 → (cells_at d m k).columns ≤ 2000
columns_low d m k le =
    let low = raised (below (column_spread (layout_over d m.rows m.columns)) (k % d.npcol) m.columns) m.columns (below_le (column_spread (layout_over d m.rows m.columns)) (k % d.npcol) m.columns) le in
    let is = cells_columns d m k in
    omega (arith, is, low)

pub few_rows : (d : Distribution) (m : Matrix) (k : ℕ) (x : Matrix) → x ≡ cells_at d m k → m.rows ≤ 2000 → x.rows ≤ 2 ^ 24
few_rows d m k x e le = let low = rows_low d m k le in let is = ap (λ (y : Matrix). y.rows) e in omega (arith, low, is)

pub some_rows : (d : Distribution) (m : Matrix) (k : ℕ) (x : Matrix) → x ≡ cells_at d m k → 1 ≤ x.rows
some_rows d m k x e = let is = ap (λ (y : Matrix). y.rows) e in let mine = cells_rows d m k in omega (arith, mine, is)

pub small_area : (d : Distribution) (m : Matrix) (k : ℕ) (x : Matrix) → x ≡ cells_at d m k → m.rows ≤ 2000 → m.columns ≤ 2000 → x.rows * x.columns ≤ 2 ^ 26
small_area d m k x e few narrow =
    product x.rows x.columns (let low = rows_low d m k few in let is = ap (λ (y : Matrix). y.rows) e in omega (arith, low, is)) (let low = columns_low d m k narrow in let is = ap (λ (y : Matrix). y.columns) e in omega (arith, low, is))
  where
    product : (a b : ℕ) → a ≤ 2000 → b ≤ 2000 → a * b ≤ 2 ^ 26
    product a b ha hb = grind arith
