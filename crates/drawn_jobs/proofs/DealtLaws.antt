-- The pieces of a matrix: they have their turns, and joined they are the matrix.
use Rattle.std.specs.Prelude.{◌≡◌, ℕ, zero, suc, ◌+◌, ◌*◌, ◌/◌, ◌%◌, ◌^◌, ◌<◌, ◌≤◌, max, List, [], ◌∷◌, ◌++◌, length, map}
use Rattle.std.specs.List.{range_with_len}
use Rattle.std.proofs.Common.{sym, ap, ap₂, ◌∙◌, subst, refl, arith}
use Rattle.std.proofs.Math.Nat.{mod-lt, div-lt_iff_lt-mul}
use Rattle.std.proofs.lemmas.List.FromFn.{length-map-range_with_len, map-range_with_len_more}
use Rattle.index_tools.specs.Home.{Layout, local_rows, row_spread}
use Rattle.index_tools.proofs.HomeLemmas.{below_le}
use Rattle.pack_words.specs.LocalCells.{LocalCells}
use Rattle.mm_grammar.specs.Matrix.{Matrix}
use Rattle.piece_grammar.specs.Head.{Head, Piece, IsHead, array_words}
use Rattle.piece_grammar.specs.Turn.{HasTurn}
use Rattle.piece_grammar.specs.Pieces.{turn_behind, AreAll}
use Rattle.piece_file.specs.Gathering.{HaveTurns, AreTurns}
use Rattle.spread_cells.specs.Joining.{joined}
use Rattle.spread_cells.specs.JoiningBack.{local_array}
use Rattle.spread_cells.proofs.BackLaws.{joins_back}
use Rattle.piece_moves.specs.Distribution.{Distribution, layout_over, head_over}
use Rattle.piece_moves.specs.PieceMove.{array_of, first_of, move_words}
use Rattle.piece_moves.specs.Planning.{IsDistribution}
use Rattle.drawn_jobs.specs.Dealing.{piece_at, pieces_of, layout_by, whole_of}
use Rattle.drawn_jobs.proofs.SizeLaws.{IsFew, words_few, over_few}

-- a square matrix of the job
pub record IsSquare (m : Matrix) (size : ℕ) : Type 0 where
  pub rows : m.rows ≡ size
  pub columns : m.columns ≡ m.rows
  pub small : size ≤ 2000
  pub count : length m.values ≡ m.rows * m.columns

-- ---- turns

pub row_below : (r c k : ℕ) → 0 < c → k < r * c → k / c < r
row_below r c k some lt = (div-lt_iff_lt-mul some).1 lt

dealt_head : (d : Distribution) (rows columns k : ℕ) → IsDistribution d → rows ≤ 2000 → columns ≤ 2000 → k < d.nprow * d.npcol → IsHead (head_over d rows columns k)
dealt_head d rows columns k is few narrow lt =
    let l : Layout = layout_over d rows columns in
    let some : 0 < d.npcol = let c = is.columns in omega arith in
    let mine = below_le (row_spread l) (k / d.npcol) rows in
    record {
      some_rows = is.rows;
      few_rows = is.few_rows;
      some_columns = is.columns;
      few_columns = is.few_columns;
      few = is.grid;
      row = row_below d.nprow d.npcol k some lt;
      column = mod-lt k some;
      rows_fit = omega (arith, few);
      columns_fit = omega (arith, narrow);
      some_row_block = is.row_block;
      row_block_fits = is.row_block_fits;
      some_column_block = is.column_block;
      column_block_fits = is.column_block_fits;
      row_source = is.rows;
      column_source = is.columns;
      lead = omega arith;
      lead_fits = lead_low (local_rows l (k / d.npcol)) rows mine few;
    }
  where
    lead_low : (a rows : ℕ) → a ≤ rows → rows ≤ 2000 → max 1 a ≤ 2 ^ 24
    lead_low a rows le few = grind arith

zero_div : (n : ℕ) → 0 < n → 0 ≡ 0 / n
zero_div n some = omega arith

zero_mod : (n : ℕ) → 0 < n → 0 ≡ 0 % n
zero_mod n some = omega arith

has_turn : (d : Distribution) (m : Matrix) (a : ℕ) → IsDistribution d → m.columns ≡ m.rows → IsFew d m.rows → a < d.nprow * d.npcol → HasTurn (turn_behind (map (piece_at d m) (range_with_len 0 a))) (head_over d m.rows m.columns a)
has_turn d m zero is square few lt =
    let some : 0 < d.npcol = let c = is.columns in omega arith in
    let one = few 0 lt in
    let here : array_words (head_over d m.rows m.columns 0) ≡ array_words (head_over d m.rows m.rows 0) = ap (λ c. array_words (head_over d m.rows c 0)) square in
    record { row = sym (zero_div d.npcol some); column = sym (zero_mod d.npcol some); agrees = tt; few = omega (arith, one, here) }
has_turn d m (suc a) is square few lt =
    let more : length (map (piece_at d m) (range_with_len 1 a)) ≡ a = length-map-range_with_len (piece_at d m) 1 a in
    let one = few (suc a) lt in
    let here : array_words (head_over d m.rows m.columns (suc a)) ≡ array_words (head_over d m.rows m.rows (suc a)) = ap (λ c. array_words (head_over d m.rows c (suc a))) square in
    let before = words_few d m 0 (suc a) square few (omega (arith, lt)) in
    let grid = is.grid in
    record {
      row = ap (λ k. suc k / d.npcol) (sym more);
      column = ap (λ k. suc k % d.npcol) (sym more);
      agrees = refl;
      few = omega (arith, one, here, before, grid, lt);
    }

turns_from : (d : Distribution) (m : Matrix) (a n : ℕ) → IsDistribution d → m.rows ≤ 2000 → m.columns ≡ m.rows → IsFew d m.rows → a + n ≤ d.nprow * d.npcol → HaveTurns (map (piece_at d m) (range_with_len 0 a)) (map (piece_at d m) (range_with_len a n))
turns_from d m a zero is small square few le = tt
turns_from d m a (suc n) is small square few le =
    let f : ℕ → Piece = piece_at d m in
    let more : map f (range_with_len 0 (a + 1)) ≡ map f (range_with_len 0 a) ++ f a ∷ [] = map-range_with_len_more f 0 a a (omega arith) in (
      dealt_head d m.rows m.columns a is small (omega (arith, small, square)) (omega (arith, le)),
      has_turn d m a is square few (omega (arith, le)),
      subst (λ (before : List Piece). HaveTurns before (map f (range_with_len (a + 1) n))) more (turns_from d m (a + 1) n is small square few (omega (arith, le))),
    )

all_of : (d : Distribution) (m : Matrix) (n : ℕ) → 0 < n → n ≡ d.nprow * d.npcol → AreAll (map (piece_at d m) (range_with_len 0 n))
all_of d m zero some e = absurd (omega arith)
all_of d m (suc n) some e = let rest = length-map-range_with_len (piece_at d m) 1 n in omega (arith, rest, e)

some_pieces : (r c : ℕ) → 1 ≤ r → 1 ≤ c → 0 < r * c
some_pieces r c hr hc = grind arith

pub pieces_turn : (d : Distribution) (m : Matrix) (size : ℕ) → IsDistribution d → IsSquare m size → IsFew d size → AreTurns (pieces_of d m)
pieces_turn d m size is square few =
    let few' : IsFew d m.rows = subst (IsFew d) (sym square.rows) few in
    let rows = square.rows in
    let small = square.small in
    record {
      all = all_of d m (d.nprow * d.npcol) (some_pieces d.nprow d.npcol is.rows is.columns) refl;
      turns = turns_from d m 0 (d.nprow * d.npcol) is (omega (arith, rows, small)) square.columns few' (omega arith);
    }

-- ---- the first piece

first_is : (d : Distribution) (m : Matrix) (n : ℕ) → 0 < n → first_of (map (piece_at d m) (range_with_len 0 n)) ≡ head_over d m.rows m.columns 0
first_is d m zero some = absurd (omega arith)
first_is d m (suc n) some = refl

pub first_of_pieces : (d : Distribution) (m : Matrix) → IsDistribution d → first_of (pieces_of d m) ≡ head_over d m.rows m.columns 0
first_of_pieces d m is = first_is d m (d.nprow * d.npcol) (some_pieces d.nprow d.npcol is.rows is.columns)

layout_is : (d : Distribution) (m : Matrix) (n : ℕ) → 0 < n → layout_by (map (piece_at d m) (range_with_len 0 n)) ≡ layout_over d m.rows m.columns
layout_is d m zero some = absurd (omega arith)
layout_is d m (suc n) some = refl

pub layout_of_pieces : (d : Distribution) (m : Matrix) → IsDistribution d → layout_by (pieces_of d m) ≡ layout_over d m.rows m.columns
layout_of_pieces d m is = layout_is d m (d.nprow * d.npcol) (some_pieces d.nprow d.npcol is.rows is.columns)

-- ---- words

pub few_move : (d e : Distribution) (m : Matrix) (size : ℕ) → IsDistribution d → IsSquare m size → IsFew d size → IsFew e size → d.nprow * d.npcol ≡ 16 → e.nprow * e.npcol ≡ 16 → move_words (pieces_of d m) e ≤ 2 ^ 26
few_move d e m size is square few fewer ranks others =
    let few' : IsFew d m.rows = subst (IsFew d) (sym square.rows) few in
    let head = first_of_pieces d m is in
    let h : Head = first_of (pieces_of d m) in
    let rows : h.m ≡ size = ap (λ (x : Head). x.m) head ∙ square.rows in
    let columns : h.n ≡ size = ap (λ (x : Head). x.n) head ∙ square.columns ∙ square.rows in
    let held = words_few d m 0 (d.nprow * d.npcol) square.columns few' (omega arith) in
    let there = over_few e h.m h.n size (e.nprow * e.npcol) rows columns fewer (omega arith) in
    let small = square.small in
    let moved : h.m * h.n ≤ 4000000 = product h.m h.n (omega (arith, rows, small)) (omega (arith, columns, small)) in
    omega (arith, held, there, moved, ranks, others)
  where
    product : (a b : ℕ) → a ≤ 2000 → b ≤ 2000 → a * b ≤ 4000000
    product a b ha hb = grind arith

-- ---- joined they are the matrix

arrays_are : (d : Distribution) (m : Matrix) (ks : List ℕ) → map array_of (map (piece_at d m) ks) ≡ map (λ k. local_array m (layout_over d m.rows m.columns) (k / d.npcol) (k % d.npcol)) ks
arrays_are d m [] = refl
arrays_are d m (k ∷ ks) = ap (λ (cs : List LocalCells). local_array m (layout_over d m.rows m.columns) (k / d.npcol) (k % d.npcol) ∷ cs) (arrays_are d m ks)

pub whole_is : (d : Distribution) (m : Matrix) → IsDistribution d → length m.values ≡ m.rows * m.columns → whole_of (pieces_of d m) ≡ m
whole_is d m is count =
    let l : Layout = layout_over d m.rows m.columns in
    ap₂ joined (layout_of_pieces d m is) (arrays_are d m (range_with_len 0 (d.nprow * d.npcol)))
    ∙ joins_back.back m l (record { layout = record { row_block = is.row_block; column_block = is.column_block; row_source = is.rows; column_source = is.columns }; rows = refl; columns = refl; count = count })
