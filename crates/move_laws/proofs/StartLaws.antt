-- The states that splits and joins begin with, and what the moves leave there.
use Rattle.std.specs.Prelude.{◌≡◌, ℕ, ◌+◌, ◌*◌, ◌/◌, ◌%◌, ◌^◌, ◌<◌, ◌≤◌, max, pos, List, [], ◌∷◌, length, map, slice_index_or}
use Rattle.std.proofs.Common.{sym, ap, ◌∙◌, subst, refl, arith}
use Rattle.std.proofs.Math.Nat.{mod-lt, div-lt_iff_lt-mul}
use Rattle.std.proofs.lemmas.Nat.{div-mul-add, mod-mul-add, div-add-mod', mul-add-lt}
use Rattle.std.proofs.lemmas.List.{length-map, length-replicate}
use Rattle.std.proofs.lemmas.List.FromFn.{get_or-map-range_with_len, length-map-range_with_len, fill_by_all}
use Rattle.proc_grid.specs.Grid.{Grid}
use Rattle.proc_grid.specs.Refusals.{FitsShape, dealt_grid, dealt_rank}
use Rattle.proc_grid.specs.declared.world.Order.TheVariants.{R}
use Rattle.proc_grid.proofs.GridLemmas.{dealt_grid-is}
use Rattle.index_tools.specs.Home.{Layout}
use Rattle.pack_words.specs.LocalCells.{LocalCells, zeros}
use Rattle.pack_words.specs.GridState.{GridState}
use Rattle.mm_grammar.specs.Matrix.{Matrix}
use Rattle.spread_cells.specs.Spreading.{piece_rows, piece_columns}
use Rattle.spread_cells.specs.Joining.{joined}
use Rattle.spread_cells.specs.JoiningBack.{local_array, local_arrays}
use Rattle.mr2d.specs.Homes.{rank_of, rank_place, Arrays, cells_of, word_in, HasArray}
use Rattle.mr2d.specs.Moves.{IsPlainMove, frame_of, plain_move}
use Rattle.mr2d.proofs.MovedLaws.{is_plain}
use Rattle.move_laws.specs.WholeMoves.{piece_array, AwaitsPieces, IsGridOf}
use Rattle.move_laws.specs.Ends.{file_layout, file_cells, file_array, IsSplitStart, IsJoinStart}
use Rattle.move_laws.specs.Starts.{file_grid, piece_grid, state_of, arrays_on, own_array, split_arrays, split_state, split_move, join_arrays, join_state, join_move, CanSplit, CanJoin}
use Rattle.move_laws.proofs.MoveLaws.{get_map, is_move, piece_is_spread}
use Rattle.move_laws.proofs.FileLaws.{file_is_layout, file_rows, file_columns, zero_in}
use Rattle.move_laws.proofs.EndLaws.{split_start, split_moves, join_moves}

number_below : (r c p q : ℕ) → p < r → q < c → p * c + q < r * c
number_below r c p q hp hq = omega (arith, mul-add-lt p c q r hp hq)

-- the rank of a process
rank_is : (r c p q : ℕ) → p < r → q < c → rank_of (dealt_grid R r c) p q ≡ p * c + q
rank_is r c p q hp hq =
    get_or-map-range_with_len (λ k. dealt_rank R r c (k / c) (k % c)) 0 (r * c) (p * c + q) (p * c + q) 0 (number_below r c p q hp hq) (omega arith)
    ∙ div-add-mod' (p * c + q) c

file_grid_is : (m : Matrix) → IsGridOf file_grid (file_layout m)
file_grid_is m = record {
  grid = dealt_grid-is R 1 1 1 (record { some_rows = omega arith; few_rows = omega arith; some_columns = omega arith; few_columns = omega arith; places = omega arith; few_ranks = omega arith });
  rows = refl;
  columns = refl;
}

piece_grid_is : (l : Layout) → FitsShape (l.nprow * l.npcol) l.nprow l.npcol → IsGridOf (piece_grid l) l
piece_grid_is l shape = record { grid = dealt_grid-is R (l.nprow * l.npcol) l.nprow l.npcol shape; rows = refl; columns = refl }

-- a rank's arrays
mine_are : (n : ℕ) (f : ℕ → List LocalCells) (at rank : ℕ) → at ≡ rank → rank < n → slice_index_or (state_of n f).arrays at [] ≡ f rank
mine_are n f at rank e lt = ap (λ k. slice_index_or (state_of n f).arrays k []) e ∙ get_or-map-range_with_len f 0 n rank rank [] lt (omega arith)

-- array 1 of zeros
zeros_there : (g : Grid) (l : Layout) (n : ℕ) (f : ℕ → List LocalCells) (p q : ℕ) (first : LocalCells) → rank_of g p q < n → slice_index_or (state_of n f).arrays (rank_of g p q) [] ≡ first ∷ zeros (piece_rows l p) (piece_columns l q) ∷ []
    → piece_rows l p * piece_columns l q ≤ 2 ^ 26 → HasArray (piece_array 1 g l) (state_of n f).arrays p q
zeros_there g l n f p q first low mine few =
    let arrays : Arrays = (state_of n f).arrays in
    let c : cells_of arrays (rank_of g p q) 1 ≡ zeros (piece_rows l p) (piece_columns l q) = ap (λ (cs : List LocalCells). slice_index_or cs 1 (zeros 1 0)) mine in
    let size : length arrays ≡ n = length-map-range_with_len f 0 n in
    record {
      rank = omega arith;
      array = (let two : length (slice_index_or arrays (rank_of g p q) []) ≡ 2 = ap length mine in omega arith);
      lead = ap (λ (d : LocalCells). d.lld) c;
      columns = ap (λ (d : LocalCells). d.cols) c;
      words = ap (λ (d : LocalCells). length d.words) c ∙ length-replicate (piece_rows l p * piece_columns l q) (pos 0) ∙ sym (ap (λ (d : LocalCells). d.lld * d.cols) c);
      few = subst (λ n. n ≤ 2 ^ 26) (sym (ap (λ (d : LocalCells). d.lld * d.cols) c)) few;
    }

zero_there : (arrays : Arrays) (rank place : ℕ) (first : LocalCells) (r c : ℕ) → slice_index_or arrays rank [] ≡ first ∷ zeros r c ∷ [] → word_in arrays 1 (rank_place rank place) ≡ pos 0
zero_there arrays rank place first r c mine = ap (λ (cs : List LocalCells). slice_index_or (slice_index_or cs 1 (zeros 1 0)).words place (pos 0)) mine ∙ zero_in (r * c) place

-- ---- a split

split_mine : (m : Matrix) (l : Layout) (p q : ℕ) → p < l.nprow → q < l.npcol
    → slice_index_or (split_state m l).arrays (rank_of (piece_grid l) p q) [] ≡ slice_index_or (split_arrays m l (p * l.npcol + q)) 0 (zeros 1 0) ∷ zeros (piece_rows l p) (piece_columns l q) ∷ []
split_mine m l p q hp hq =
    let first : LocalCells = slice_index_or (split_arrays m l (p * l.npcol + q)) 0 (zeros 1 0) in
    mine_are (l.nprow * l.npcol) (split_arrays m l) (rank_of (piece_grid l) p q) (p * l.npcol + q) (rank_is l.nprow l.npcol p q hp hq) (number_below l.nprow l.npcol p q hp hq)
    ∙ ap (λ k. first ∷ zeros (piece_rows l k) (piece_columns l ((p * l.npcol + q) % l.npcol)) ∷ []) (div-mul-add p l.npcol q hq)
    ∙ ap (λ k. first ∷ zeros (piece_rows l p) (piece_columns l k) ∷ []) (mod-mul-add p l.npcol q hq)

split_awaits : (m : Matrix) (l : Layout) → CanSplit m l → AwaitsPieces (piece_array 1 (piece_grid l) l) (split_state m l).arrays
split_awaits m l w = record {
  spread = piece_is_spread 1 (piece_grid l) l (piece_grid_is l w.shape) w.layout.layout;
  leads_are = λ p q hp hq. refl;
  have = record {
    each = λ p q hp hq.
        zeros_there (piece_grid l) l (l.nprow * l.npcol) (split_arrays m l) p q (slice_index_or (split_arrays m l (p * l.npcol + q)) 0 (zeros 1 0)) (omega (arith, rank_is l.nprow l.npcol p q hp hq, number_below l.nprow l.npcol p q hp hq))
        (split_mine m l p q hp hq) (w.few p q hp hq);
  };
  zeros = λ p q place hp hq. zero_there (split_state m l).arrays (rank_of (piece_grid l) p q) place (slice_index_or (split_arrays m l (p * l.npcol + q)) 0 (zeros 1 0)) (piece_rows l p) (piece_columns l q) (split_mine m l p q hp hq);
}

apart_numbers : (a b : ℕ) → a < b → a ≡ b → ⊥
apart_numbers a b lt e = omega arith

some_ranks : (r c : ℕ) → 0 < r → 0 < c → 0 < r * c
some_ranks r c hr hc = grind arith

pub can_split : (m : Matrix) (l : Layout) → CanSplit m l → IsSplitStart m file_grid 0 (piece_array 1 (piece_grid l) l) (split_state m l).arrays
can_split m l w = record {
  count = w.layout.count ∙ ap (λ n. n * l.columns) (sym w.layout.rows) ∙ ap (λ n. m.rows * n) (sym w.layout.columns);
  grid = file_grid_is m;
  source = ap (λ (cs : List LocalCells). slice_index_or cs 0 (zeros 1 0)) (mine_are (l.nprow * l.npcol) (split_arrays m l) (rank_of file_grid 0 0) 0 (rank_is 1 1 0 0 (omega arith) (omega arith)) (some_ranks l.nprow l.npcol w.shape.some_rows w.shape.some_columns));
  target = split_awaits m l w;
  rows = w.layout.rows;
  columns = w.layout.columns;
  apart = apart_numbers 0 1 (omega arith);
}

-- the pieces, by rank
pub split_gives : (m : Matrix) (l : Layout) → CanSplit m l → arrays_on 1 (plain_move (split_move m l) (split_state m l)) ≡ local_arrays m l
split_gives m l w = fill_by_all (λ k. local_array m l (k / l.npcol) (k % l.npcol)) (arrays_on 1 after) (l.nprow * l.npcol) (zeros 1 0) count each
  where
    after : GridState
    after = plain_move (split_move m l) (split_state m l)

    moved : IsPlainMove (split_move m l) (split_state m l) after
    moved =
        let s = can_split m l w in
        let start = split_start m file_grid 0 (piece_array 1 (piece_grid l) l) (split_state m l).arrays s in
        is_plain (split_move m l) (split_state m l) (is_move m (file_array 0 file_grid m) (piece_array 1 (piece_grid l) l) (split_state m l).arrays start) s.target.have

    pick : List LocalCells → LocalCells
    pick mine = slice_index_or mine 1 (zeros 1 0)

    count : length (arrays_on 1 after) ≡ l.nprow * l.npcol
    count =
        length-map after.arrays pick
        ∙ sym (length-map after.arrays (λ (mine : List LocalCells). map frame_of mine))
        ∙ ap length moved.sizes
        ∙ length-map (split_state m l).arrays (λ (mine : List LocalCells). map frame_of mine)
        ∙ length-map-range_with_len (split_arrays m l) 0 (l.nprow * l.npcol)

    each : (k : ℕ) → k < l.nprow * l.npcol → slice_index_or (arrays_on 1 after) k (zeros 1 0) ≡ local_array m l (k / l.npcol) (k % l.npcol)
    each k lt =
        let some : 0 < l.npcol = w.shape.some_columns in
        let p : k / l.npcol < l.nprow = (div-lt_iff_lt-mul some).1 lt in
        let q : k % l.npcol < l.npcol = mod-lt k some in
        get_map pick after.arrays k []
        ∙ ap (λ n. cells_of after.arrays n 1) (sym (rank_is l.nprow l.npcol (k / l.npcol) (k % l.npcol) p q ∙ div-add-mod' k l.npcol))
        ∙ split_moves m file_grid 0 (piece_array 1 (piece_grid l) l) (split_state m l) (can_split m l w) (k / l.npcol) (k % l.npcol) p q

-- ---- a join

join_mine : (l : Layout) (pieces : List LocalCells) → CanJoin l pieces → let m = joined l pieces in
    slice_index_or (join_state l pieces).arrays (rank_of file_grid 0 0) [] ≡ slice_index_or pieces 0 (zeros 1 0) ∷ zeros (piece_rows (file_layout m) 0) (piece_columns (file_layout m) 0) ∷ []
join_mine l pieces w =
    let m : Matrix = joined l pieces in
    let first : LocalCells = slice_index_or pieces 0 (zeros 1 0) in
    mine_are (l.nprow * l.npcol) (join_arrays l pieces) (rank_of file_grid 0 0) 0 (rank_is 1 1 0 0 (omega arith) (omega arith)) (some_ranks l.nprow l.npcol w.shape.some_rows w.shape.some_columns)
    ∙ ap (λ r. first ∷ zeros r (max 1 l.columns) ∷ []) (sym (file_rows m))
    ∙ ap (λ c. first ∷ zeros (piece_rows (file_layout m) 0) c ∷ []) (sym (file_columns m))

join_few : (l : Layout) (pieces : List LocalCells) → CanJoin l pieces → let m = joined l pieces in piece_rows (file_layout m) 0 * piece_columns (file_layout m) 0 ≤ 2 ^ 26
join_few l pieces w =
    let m : Matrix = joined l pieces in
    subst (λ n. n ≤ 2 ^ 26) (sym (ap (λ n. n * piece_columns (file_layout m) 0) (file_rows m) ∙ ap (λ n. max 1 l.rows * n) (file_columns m))) w.few

at_zero : (P : ℕ → ℕ → Type 0) → P 0 0 → (p q : ℕ) → p < 1 → q < 1 → P p q
at_zero P h p q hp hq =
    let e : 0 ≡ p = omega arith in
    let f : 0 ≡ q = omega arith in
    subst (λ n. P n q) e (subst (λ n. P 0 n) f h)

join_awaits : (l : Layout) (pieces : List LocalCells) → CanJoin l pieces → AwaitsPieces (file_array 1 file_grid (joined l pieces)) (join_state l pieces).arrays
join_awaits l pieces w =
    let m : Matrix = joined l pieces in
    let arrays : Arrays = (join_state l pieces).arrays in
    let first : LocalCells = slice_index_or pieces 0 (zeros 1 0) in
    let low : rank_of file_grid 0 0 < l.nprow * l.npcol = omega (arith, rank_is 1 1 0 0 (omega arith) (omega arith), some_ranks l.nprow l.npcol w.shape.some_rows w.shape.some_columns) in
    record {
      spread = piece_is_spread 1 file_grid (file_layout m) (file_grid_is m) (file_is_layout m);
      leads_are = λ p q hp hq. refl;
      have = record { each = at_zero (HasArray (file_array 1 file_grid m) arrays) (zeros_there file_grid (file_layout m) (l.nprow * l.npcol) (join_arrays l pieces) 0 0 first low (join_mine l pieces w) (join_few l pieces w)) };
      zeros = λ p q place. at_zero (λ p q. word_in arrays 1 (rank_place (rank_of file_grid p q) place) ≡ pos 0) (zero_there arrays (rank_of file_grid 0 0) place first (piece_rows (file_layout m) 0) (piece_columns (file_layout m) 0) (join_mine l pieces w)) p q;
    }

pub can_join : (l : Layout) (pieces : List LocalCells) → CanJoin l pieces → IsJoinStart pieces (own_array 0 (piece_grid l) l pieces) file_grid 1 (join_state l pieces).arrays
can_join l pieces w =
    let g = piece_grid_is l w.shape in
    record {
      source = record {
        spread = record { grid = g.grid; rows = g.rows; columns = g.columns; layout = w.layout; room = w.holds.rows_fit };
        leads_are = λ p q hp hq. refl;
        pieces_are = λ p q hp hq. ap (λ (cs : List LocalCells). slice_index_or cs 0 (zeros 1 0)) (mine_are (l.nprow * l.npcol) (join_arrays l pieces) (rank_of (piece_grid l) p q) (p * l.npcol + q) (rank_is l.nprow l.npcol p q hp hq) (number_below l.nprow l.npcol p q hp hq));
      };
      target = join_awaits l pieces w;
      apart = apart_numbers 0 1 (omega arith);
    }

-- the matrix, on rank 0
pub join_gives : (l : Layout) (pieces : List LocalCells) → CanJoin l pieces → cells_of (plain_move (join_move l pieces) (join_state l pieces)).arrays 0 1 ≡ file_cells (joined l pieces)
join_gives l pieces w =
    ap (λ n. cells_of (plain_move (join_move l pieces) (join_state l pieces)).arrays n 1) (sym (rank_is 1 1 0 0 (omega arith) (omega arith)))
    ∙ join_moves pieces (own_array 0 (piece_grid l) l pieces) file_grid 1 (join_state l pieces) (can_join l pieces w)
