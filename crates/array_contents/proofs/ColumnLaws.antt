-- Words of columns, one by one.
use Rattle.std.specs.Prelude.{◌≡◌, ℕ, zero, suc, ◌+◌, ◌*◌, ◌<◌, ◌≤◌, ℤ, pos, ◌+ℤ◌, ◌*ℤ◌, List, [], ◌∷◌, length, Option, None, Some, slice_get, slice_index_or, slice_set}
use Rattle.std.specs.Int.{int_wrap, w32}
use Rattle.std.proofs.Common.{refl, sym, ap, ◌∙◌, arith}
use Rattle.program_meaning.specs.Filling.{word_or, element_filled}
use Rattle.scope_ops.specs.Lines.{numbered_from}
use Rattle.array_contents.specs.declared.filling.Filling.{Filling}
use Rattle.array_contents.specs.Columns.{filling_of, element_in, filled_word, padding_word, placed_word, loaded_word, value_at}
use Rattle.array_contents.specs.Passes.{from_here}
use Rattle.array_contents.proofs.PassLaws.{numbered_any, pass_more, pass_same, pass_keeps}
use Rattle.array_contents.proofs.Wrapping.{sum_of_three, sum_of_four}

pub gets : (xs : List ℕ) (k d : ℕ) → k < length xs → slice_get xs k ≡ Some (slice_index_or xs k d)
gets [] k d lt = absurd (omega arith)
gets (x ∷ xs) zero d lt = refl
gets (x ∷ xs) (suc k) d lt = gets xs k d (omega arith)

pub gets_none : (xs : List ℕ) (k : ℕ) → length xs ≤ k → slice_get xs k ≡ None
gets_none [] k le = refl
gets_none (x ∷ xs) zero le = absurd (omega arith)
gets_none (x ∷ xs) (suc k) le = gets_none xs k (omega arith)

-- one element more
pub one_filled : (f : Filling) (rows : List ℕ) (j k d : ℕ) (first v : ℤ) (ws : List ℤ) → k < length rows → k < length ws → first ≡ int_wrap w32 (f.a +ℤ (f.c *ℤ pos j)) → v ≡ int_wrap w32 (first +ℤ (f.b *ℤ pos (slice_index_or rows k d)))
    → from_here (k + 1) (filled_word f rows (Some j)) (slice_set ws k v) ≡ from_here k (filled_word f rows (Some j)) ws
one_filled f rows j k d first v ws low lt e g =
    pass_more (filled_word f rows (Some j)) ws k (pos 0) v lt
    (g ∙ sum_of_three f.a (f.b *ℤ pos (slice_index_or rows k d)) (f.c *ℤ pos j) first e
    ∙ ap (λ o. word_or (element_filled (filling_of f)) f.d (element_in o (Some j))) (sym (gets rows k d low)))

-- one padding word more
pub one_padded : (d : ℤ) (ws : List ℤ) (k : ℕ) → k < length ws → from_here (k + 1) (padding_word d) (slice_set ws k d) ≡ from_here k (padding_word d) ws
one_padded d ws k lt = pass_more (padding_word d) ws k (pos 0) d lt refl

-- what stands in a row of none is the padding
padded : (f : Filling) (rows : List ℕ) (column : Option ℕ) (i : ℕ) (w : ℤ) → length rows ≤ i → filled_word f rows column i w ≡ f.d
padded f rows column i w le = ap (λ o. word_or (element_filled (filling_of f)) f.d (element_in o column)) (gets_none rows i le)

column_padded : (f : Filling) (rows : List ℕ) (o : Option ℕ) → word_or (element_filled (filling_of f)) f.d (element_in o None) ≡ f.d
column_padded f rows None = refl
column_padded f rows (Some i) = refl

-- the elements and then the padding are the column
pub filled_some : (f : Filling) (rows : List ℕ) (j : ℕ) (start middle end before : List ℤ) → from_here (length rows) (filled_word f rows (Some j)) middle ≡ from_here 0 (filled_word f rows (Some j)) start → end ≡ from_here (length rows) (padding_word f.d) middle
    → length before ≡ length start → end ≡ numbered_from 0 (filled_word f rows (Some j)) before
filled_some f rows j start middle end before e g n =
    g ∙ pass_same (padding_word f.d) (filled_word f rows (Some j)) middle (length rows) (λ i w low high. sym (padded f rows (Some j) i w low))
    ∙ e ∙ numbered_any 0 (filled_word f rows (Some j)) start before (sym n) (λ i x y. refl)

pub filled_none : (f : Filling) (rows : List ℕ) (start end before : List ℤ) → end ≡ from_here 0 (padding_word f.d) start → length before ≡ length start → end ≡ numbered_from 0 (filled_word f rows None) before
filled_none f rows start end before e n =
    e ∙ pass_same (padding_word f.d) (filled_word f rows None) start 0 (λ i w low high. sym (column_padded f rows (slice_get rows i)))
    ∙ numbered_any 0 (filled_word f rows None) start before (sym n) (λ i x y. refl)

-- one word more of a column of a MATRIX
pub one_placed : (f : Filling) (rank j k : ℕ) (inner first v : ℤ) (ws : List ℤ) → k < length ws → inner ≡ int_wrap w32 (f.a +ℤ (f.c *ℤ pos j)) → first ≡ int_wrap w32 (inner +ℤ (f.d *ℤ pos rank)) → v ≡ int_wrap w32 (first +ℤ (f.b *ℤ pos k))
    → from_here (k + 1) (placed_word f rank j) (slice_set ws k v) ≡ from_here k (placed_word f rank j) ws
one_placed f rank j k inner first v ws lt e g h =
    pass_more (placed_word f rank j) ws k (pos 0) v lt (h ∙ sum_of_four f.a (f.b *ℤ pos k) (f.c *ℤ pos j) (f.d *ℤ pos rank) inner first e g)

pub placed_any : (f : Filling) (rank j : ℕ) (start end before : List ℤ) → end ≡ from_here 0 (placed_word f rank j) start → length before ≡ length start → end ≡ numbered_from 0 (placed_word f rank j) before
placed_any f rank j start end before e n = e ∙ numbered_any 0 (placed_word f rank j) start before (sym n) (λ i x y. refl)

-- one loaded element more
pub one_loaded : (values : List ℤ) (height j : ℕ) (rows : List ℕ) (k d : ℕ) (v : ℤ) (ws : List ℤ) → k < length rows → k < length ws → v ≡ value_at values height (slice_index_or rows k d) j
    → from_here (k + 1) (loaded_word values height rows (Some j)) (slice_set ws k v) ≡ from_here k (loaded_word values height rows (Some j)) ws
one_loaded values height j rows k d v ws low lt e =
    pass_more (loaded_word values height rows (Some j)) ws k (pos 0) v lt
    (e ∙ ap (λ o. word_or (value_at values height) (slice_index_or ws k (pos 0)) (element_in o (Some j))) (sym (gets rows k d low)))

-- the rest of a loaded column stays
pub loaded_rest : (values : List ℤ) (height : ℕ) (rows : List ℕ) (column : Option ℕ) (ws : List ℤ) → from_here (length rows) (loaded_word values height rows column) ws ≡ ws
loaded_rest values height rows column ws =
    pass_keeps (loaded_word values height rows column) ws (length rows) (λ i w le. ap (λ o. word_or (value_at values height) w (element_in o column)) (gets_none rows i le))

-- a column of no element stays
pub loaded_none : (values : List ℤ) (height : ℕ) (rows : List ℕ) (ws : List ℤ) → numbered_from 0 (loaded_word values height rows None) ws ≡ ws
loaded_none values height rows ws = pass_keeps (loaded_word values height rows None) ws 0 (λ i w le. none (slice_get rows i) w)
  where
    none : (o : Option ℕ) (w : ℤ) → word_or (value_at values height) w (element_in o None) ≡ w
    none None w = refl
    none (Some i) w = refl
