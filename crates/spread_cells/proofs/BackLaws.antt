-- The pieces of a matrix, joined, are the matrix.
use Rattle.std.proofs.Common.{◌≡◌, ℕ, ◌+◌, ◌*◌, ◌/◌, ◌%◌, ◌<◌, pos, get_or, refl, sym, ap, ◌∙◌, arith}
use Rattle.std.proofs.lemmas.Nat.{div-mul-add, mod-mul-add}
use Rattle.std.proofs.lemmas.List.FromFn.{get_or-map-range_with_len}
use Rattle.index_tools.specs.Spread.{owner, local}
use Rattle.index_tools.specs.Home.{Layout, row_spread, column_spread, local_place}
use Rattle.index_tools.proofs.HomeLemmas.{owner_below}
use Rattle.pack_words.specs.LocalCells.{LocalCells, zeros}
use Rattle.mm_grammar.specs.Matrix.{Matrix}
use Rattle.spread_cells.specs.Spreading.{element, piece_rows}
use Rattle.spread_cells.specs.Joining.{array_at, home_word}
use Rattle.spread_cells.specs.JoiningBack.{local_array, local_arrays, IsLayoutOf, JoinsBack}
use Rattle.spread_cells.proofs.SpreadLaws.{piece_spread}
use Rattle.spread_cells.proofs.JoiningLaws.{process_below, joins_by_home}

-- the array of process (p, q) is that of piece (p, q)
array_is : (m : Matrix) (l : Layout) (p q : ℕ) → p < l.nprow → q < l.npcol → array_at l (local_arrays m l) p q ≡ local_array m l p q
array_is m l p q hp hq =
    get_or-map-range_with_len (λ k. local_array m l (k / l.npcol) (k % l.npcol)) 0 (l.nprow * l.npcol) (p * l.npcol + q) (p * l.npcol + q) (zeros 1 0) (process_below l p q hp hq) (omega arith)
    ∙ ap (λ k. local_array m l k ((p * l.npcol + q) % l.npcol)) (div-mul-add p l.npcol q hq)
    ∙ ap (λ k. local_array m l p k) (mod-mul-add p l.npcol q hq)

-- the word at an element's home is the element
word_is : (m : Matrix) (l : Layout) (i j : ℕ) → IsLayoutOf l m → i < l.rows → j < l.columns → home_word l (local_arrays m l) i j ≡ element m i j
word_is m l i j is low left =
    let p : ℕ = owner (row_spread l) i in
    let q : ℕ = owner (column_spread l) j in
    let hp : p < l.nprow = owner_below (row_spread l) i (let c = is.layout.row_source in omega arith) in
    let hq : q < l.npcol = owner_below (column_spread l) j (let c = is.layout.column_source in omega arith) in
    ap (λ (a : LocalCells). get_or a.words (local_place a.lld (local (row_spread l) i) (local (column_spread l) j)) (pos 0)) (array_is m l p q hp hq)
    ∙ (piece_spread m l p q).held i j (local_place (piece_rows l p) (local (row_spread l) i) (local (column_spread l) j)) low left refl

pub joins_back : JoinsBack
joins_back = record {
  back = λ m l is. sym ((joins_by_home l (local_arrays m l)).only m (record {
    rows = is.rows;
    columns = is.columns;
    count = is.count;
    homes = λ i j low left. ap (λ n. get_or m.values (j * n + i) (pos 0)) (sym is.rows) ∙ sym (word_is m l i j is low left);
  }));
}
