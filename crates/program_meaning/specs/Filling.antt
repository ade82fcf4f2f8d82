-- Words of the arrays that FILL and LOAD set.
use Rattle.std.specs.Prelude.{ℕ, ◌+◌, ◌*◌, ◌/◌, ◌%◌, ℤ, pos, ◌+ℤ◌, ◌*ℤ◌, Option, None, Some, slice_index_or, slice_set}
use Rattle.std.specs.Int.{int_wrap, w32}
use Rattle.std.specs.List.{find}
use Rattle.mm_grammar.specs.Matrix.{Matrix}
use Rattle.pack_words.specs.declared.shape.Shape.TheVariants.{Ge}
use Rattle.pack_words.specs.LocalCells.{LocalCells, zeros}
use Rattle.pack_words.specs.GridState.{GridState}
use Rattle.scope_ops.specs.Lines.{numbered_from}
use Rattle.mr2d.specs.Homes.{SpreadArray, RankPlace, rank_place, home_on}
use Rattle.mr2d.specs.Moves.{elements, is_same_place}

-- a word of each place: of rank r, place x and the word there
abbrev pub Writing : Type 0
Writing = ℕ → ℕ → ℤ → ℤ

abbrev pub written_cells : (ℕ → ℤ → ℤ) → LocalCells → LocalCells
written_cells f c = record c { words = numbered_from 0 f c.words }

-- each word of the array of that number is another
unfoldable pub with_written : ℕ → Writing → GridState → GridState
with_written array f s = record s { arrays = numbered_from 0 (λ r cs. slice_set cs array (written_cells (f r) (slice_index_or cs array (zeros 1 0)))) s.arrays }

-- the element of a spread matrix that has its home at this place, if there is one
abbrev pub element_here : SpreadArray → RankPlace → Option (ℕ × ℕ)
element_here a at = find (λ e. is_same_place (home_on a e.0 e.1) at) (elements (record { shape = Ge; m = a.layout.rows; n = a.layout.columns }))

-- the word of an element, or else what stands in the padding
abbrev pub word_or : (ℕ → ℕ → ℤ) → ℤ → Option (ℕ × ℕ) → ℤ
word_or word padding None = padding
word_or word padding (Some e) = word e.0 e.1

-- the four numbers of FILL
pub record Filling : Type 0 where
  pub a : ℤ
  pub b : ℤ
  pub c : ℤ
  pub d : ℤ

-- FILL of an ARRAY: the element (i, j) is a + b*i + c*j modulo 2^32, and every padding place is d
abbrev pub element_filled : Filling → ℕ → ℕ → ℤ
element_filled f i j = int_wrap w32 (f.a +ℤ (f.b *ℤ pos i) +ℤ (f.c *ℤ pos j))

abbrev pub fills_array : Filling → SpreadArray → Writing
fills_array f a r x word = word_or (element_filled f) f.d (element_here a (rank_place r x))

-- FILL of a MATRIX: row i and column j on rank r is a + b*i + c*j + d*r modulo 2^32
abbrev pub fills_matrix : Filling → ℕ → Writing
fills_matrix f lld r x word = int_wrap w32 (f.a +ℤ (f.b *ℤ pos (x % lld)) +ℤ (f.c *ℤ pos (x / lld)) +ℤ (f.d *ℤ pos r))

-- LOAD: the element (i, j) is the matrix's; padding stays
abbrev pub matrix_element : Matrix → ℕ → ℕ → ℤ
matrix_element m i j = slice_index_or m.values (j * m.rows + i) (pos 0)

abbrev pub loads_matrix : Matrix → SpreadArray → Writing
loads_matrix m a r x word = word_or (matrix_element m) word (element_here a (rank_place r x))
