-- The words of a piece that is held as indices into the whole matrix.
use Rattle.std.proofs.Common.{◌≡◌, ℕ, ◌+◌, ◌*◌, ◌/◌, ◌%◌, ◌<◌, ℤ, pos, List, length, Option, Some, None, refl, sym, ap, ◌∙◌, arith}
use Rattle.std.specs.Prelude.{max, slice_get, slice_index_or}
use Rattle.std.proofs.lemmas.Nat.{div-mul-add, mod-mul-add}
use Rattle.std.proofs.lemmas.List.FromFn.{get_or-map-range_with_len}
use Rattle.mm_grammar.specs.Matrix.{Matrix}
use Rattle.spread_cells.specs.Spreading.{element_at, word_at, array_of}

place_below : (r c i j : ℕ) → i < r → j < c → j * r + i < r * c
place_below r c i j low left = grind arith

-- the word of row i and column j
pub word_of_cells : (m : Matrix) (rows columns : List ℕ) (i j : ℕ) → i < max 1 (length rows) → j < max 1 (length columns)
    → slice_index_or (array_of m rows columns).values (j * max 1 (length rows) + i) (pos 0) ≡ element_at m (slice_get rows i) (slice_get columns j)
word_of_cells m rows columns i j low left =
    let r : ℕ = max 1 (length rows) in
    let here : i < r = low in
    let row : (j * r + i) % r ≡ i = mod-mul-add j r i here in
    let column : (j * r + i) / r ≡ j = div-mul-add j r i here in
    get_or-map-range_with_len (word_at m rows columns) 0 (r * max 1 (length columns)) (j * r + i) (j * r + i) (pos 0) (place_below r (max 1 (length columns)) i j low left) (omega arith)
    ∙ ap (λ k. element_at m (slice_get rows k) (slice_get columns ((j * r + i) / r))) row
    ∙ ap (λ k. element_at m (slice_get rows i) (slice_get columns k)) column

-- the same where one of the indices isn't there, and where both are
pub word_of_none : (m : Matrix) (rows columns : List ℕ) (i j : ℕ) → i < max 1 (length rows) → j < max 1 (length columns) → slice_get rows i ≡ None → pos 0 ≡ slice_index_or (array_of m rows columns).values (j * max 1 (length rows) + i) (pos 0)
word_of_none m rows columns i j low left none = sym (word_of_cells m rows columns i j low left ∙ ap (λ o. element_at m o (slice_get columns j)) none)

at_none : (m : Matrix) (o : Option ℕ) → element_at m o None ≡ pos 0
at_none m None = refl
at_none m (Some i) = refl

pub word_of_no_column : (m : Matrix) (rows columns : List ℕ) (i j : ℕ) → i < max 1 (length rows) → j < max 1 (length columns) → slice_get columns j ≡ None → pos 0 ≡ slice_index_or (array_of m rows columns).values (j * max 1 (length rows) + i) (pos 0)
word_of_no_column m rows columns i j low left none = sym (word_of_cells m rows columns i j low left ∙ ap (element_at m (slice_get rows i)) none ∙ at_none m (slice_get rows i))

pub word_of_some : (m : Matrix) (rows columns : List ℕ) (i j row column : ℕ) (word : ℤ) → i < max 1 (length rows) → j < max 1 (length columns) → slice_get rows i ≡ Some row → slice_get columns j ≡ Some column
    → word ≡ slice_index_or m.values (column * m.rows + row) (pos 0) → word ≡ slice_index_or (array_of m rows columns).values (j * max 1 (length rows) + i) (pos 0)
word_of_some m rows columns i j row column word low left r c is =
    is ∙ sym (word_of_cells m rows columns i j low left ∙ ap (λ o. element_at m o (slice_get columns j)) r ∙ ap (element_at m (Some row)) c)
