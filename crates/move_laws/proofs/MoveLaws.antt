-- What a move of a whole matrix leaves: the pieces.
use Rattle.std.specs.Prelude.{◌≡◌, ◌⊎◌, ℕ, zero, suc, ◌+◌, ◌*◌, ◌<◌, ◌≤◌, pos, List, [], ◌∷◌, length, map, max, slice_index_or}
use Rattle.std.proofs.Common.{sym, ap, ◌∙◌, subst, refl, inl, inr, arith}
use Rattle.std.proofs.lemmas.Bool.{cases_lt}
use Rattle.std.proofs.lemmas.List.{get_or_past}
use Rattle.proc_grid.specs.Grid.{Grid}
use Rattle.index_tools.specs.Home.{Layout, IsLayout, Home, home, row_spread, column_spread, HasRoom, local_rows}
use Rattle.index_tools.specs.Spread.{owner, local}
use Rattle.pack_words.specs.LocalCells.{LocalCells, zeros}
use Rattle.pack_words.specs.GridState.{GridState}
use Rattle.mm_grammar.specs.Matrix.{Matrix}
use Rattle.spread_cells.specs.Spreading.{piece_rows, piece_columns, piece_cells}
use Rattle.spread_cells.specs.JoiningBack.{local_array}
use Rattle.spread_cells.proofs.SpreadLaws.{piece_spread}
use Rattle.mr2d.specs.Homes.{SpreadArray, RankPlace, rank_place, rank_of, home_on, Arrays, cells_of, word_in, IsSpread, HasArray}
use Rattle.mr2d.specs.Moves.{Move, home_a, IsMove, IsPlainMove, frame_of, frames_of, plain_move, every_pair}
use Rattle.mr2d.proofs.HomeLaws.{same_process, process_row, process_column}
use Rattle.mr2d.proofs.MovedLaws.{is_plain, same_cells, Found, Nothing, at_place}
use Rattle.move_laws.specs.WholeMoves.{piece_array, whole_move, AwaitsPieces, IsGridOf, IsMoveStart}

-- what is made of a list's members stands where they stood
pub get_map : {A B : Type 0} (f : A → B) (xs : List A) (k : ℕ) (d : A) → slice_index_or (map f xs) k (f d) ≡ f (slice_index_or xs k d)
get_map f [] k d = refl
get_map f (x ∷ xs) zero d = refl
get_map f (x ∷ xs) (suc k) d = get_map f xs k d

frame_at : (arrays : Arrays) (rank array : ℕ) → frame_of (cells_of arrays rank array) ≡ slice_index_or (slice_index_or (frames_of arrays) rank []) array (frame_of (zeros 1 0))
frame_at arrays rank array =
    sym (get_map frame_of (slice_index_or arrays rank []) array (zeros 1 0))
    ∙ ap (λ (fs : List (ℕ × ℕ × ℕ)). slice_index_or fs array (frame_of (zeros 1 0))) (sym (get_map (λ (mine : List LocalCells). map frame_of mine) arrays rank []))

-- arrays of one size each have the sizes of one another
same_frame : (x y : Arrays) (rank array : ℕ) → frames_of x ≡ frames_of y → frame_of (cells_of x rank array) ≡ frame_of (cells_of y rank array)
same_frame x y rank array e =
    frame_at x rank array
    ∙ ap (λ (fs : List (List (ℕ × ℕ × ℕ))). slice_index_or (slice_index_or fs rank []) array (frame_of (zeros 1 0))) e
    ∙ sym (frame_at y rank array)

abbrev tuple : ℕ → ℕ → ℕ → ℕ × ℕ × ℕ
tuple a b c = (a, b, c)

pub tuple_is : (a b c x y z : ℕ) → a ≡ x → b ≡ y → c ≡ z → tuple a b c ≡ tuple x y z
tuple_is a b c x y z e f g = ap (λ n. tuple n b c) e ∙ ap (λ n. tuple x n c) f ∙ ap (λ n. tuple x y n) g

-- an array of that many words has the piece's size
piece_frame : (m : Matrix) (l : Layout) (p q : ℕ) (c : LocalCells) → c.lld ≡ piece_rows l p → c.cols ≡ piece_columns l q → length c.words ≡ c.lld * c.cols → frame_of c ≡ frame_of (local_array m l p q)
piece_frame m l p q c lead columns count =
    tuple_is c.lld c.cols (length c.words) (piece_rows l p) (piece_columns l q) (length (piece_cells m l p q).values) lead columns
    (count ∙ ap (λ n. n * c.cols) lead ∙ ap (λ n. piece_rows l p * n) columns ∙ sym (piece_spread m l p q).size)

pub home_is : (a b c x y z : ℕ) → a ≡ x → b ≡ y → c ≡ z → (let h : Home = record { row = a; column = b; place = c } in h) ≡ record { row = x; column = y; place = z }
home_is a b c x y z e f g = rw (e, f, g) refl

-- the leading dimension of a piece has room for its rows
pub piece_room : (l : Layout) → HasRoom l (λ p q. piece_rows l p)
piece_room l = record { rows_fit = λ p q hp hq. least (local_rows l p) }
  where
    least : (n : ℕ) → n ≤ max 1 n
    least n = omega arith

-- rows and columns counted from the first ones
zero_plus : (n : ℕ) → 0 + n ≡ n
zero_plus n = omega arith

from_start : (s : SpreadArray) (i j : ℕ) → home_on s (0 + i) (0 + j) ≡ home_on s i j
from_start s i j = ap (λ x. home_on s x (0 + j)) (zero_plus i) ∙ ap (λ y. home_on s i y) (zero_plus j)

pub piece_is_spread : (b : ℕ) (g : Grid) (l : Layout) → IsGridOf g l → IsLayout l → IsSpread (piece_array b g l)
piece_is_spread b g l grid layout = record { grid = grid.grid; rows = grid.rows; columns = grid.columns; layout = layout; room = piece_room l }

pub is_move : (m : Matrix) (a b : SpreadArray) (arrays : Arrays) → IsMoveStart m a b arrays → IsMove (whole_move m a b)
is_move m a b arrays w = record {
  source = w.source.spread;
  target = w.target.spread;
  rows_in_a = let e = w.source.rows in omega arith;
  columns_in_a = let e = w.source.columns in omega arith;
  rows_in_b = let e = w.rows in omega arith;
  columns_in_b = let e = w.columns in omega arith;
  apart = w.apart;
}

-- an element whose home in B is a place of a process has its home in the process's piece there
home_there : (b : SpreadArray) (arrays : Arrays) (i j p q k : ℕ) → AwaitsPieces b arrays → p < b.layout.nprow → q < b.layout.npcol → home_on b i j ≡ rank_place (rank_of b.grid p q) k
    → home b.layout (λ r c. piece_rows b.layout r) i j ≡ record { row = p; column = q; place = k }
home_there b arrays i j p q k w hp hq here =
    let l : Layout = b.layout in
    let er = w.spread.rows in
    let ec = w.spread.columns in
    let row : owner (row_spread l) i < b.grid.nprow = process_row b i w.spread in
    let column : owner (column_spread l) j < b.grid.npcol = process_column b j w.spread in
    let same = same_process b.grid (owner (row_spread l) i) (owner (column_spread l) j) p q w.spread.grid row column (omega arith) (omega arith) (ap (λ (h : RankPlace). h.rank) here) in
    let lead : b.llds (owner (row_spread l) i) (owner (column_spread l) j) ≡ piece_rows l (owner (row_spread l) i) = w.leads_are (owner (row_spread l) i) (owner (column_spread l) j) (omega arith) (omega arith) in
    home_is _ _ _ p q k same.0 same.1
    (ap (λ n. local (column_spread l) j * n + local (row_spread l) i) (sym lead) ∙ ap (λ (h : RankPlace). h.place) here)

-- and the other way
home_back : (b : SpreadArray) (arrays : Arrays) (i j p q k : ℕ) → AwaitsPieces b arrays → home b.layout (λ r c. piece_rows b.layout r) i j ≡ record { row = p; column = q; place = k }
    → home_on b i j ≡ rank_place (rank_of b.grid p q) k
home_back b arrays i j p q k w there =
    let l : Layout = b.layout in
    let er = w.spread.rows in
    let ec = w.spread.columns in
    let row : owner (row_spread l) i < b.grid.nprow = process_row b i w.spread in
    let column : owner (column_spread l) j < b.grid.npcol = process_column b j w.spread in
    let lead : b.llds (owner (row_spread l) i) (owner (column_spread l) j) ≡ piece_rows l (owner (row_spread l) i) = w.leads_are (owner (row_spread l) i) (owner (column_spread l) j) (omega arith) (omega arith) in
    ap (λ n. rank_place (rank_of b.grid (owner (row_spread l) i) (owner (column_spread l) j)) (local (column_spread l) j * n + local (row_spread l) i)) lead
    ∙ ap (λ (h : Home). rank_place (rank_of b.grid h.row h.column) h.place) there

pub moved_piece : (m : Matrix) (a b : SpreadArray) (s : GridState) → IsMoveStart m a b s.arrays → (p q : ℕ) → p < b.layout.nprow → q < b.layout.npcol
    → cells_of (plain_move (whole_move m a b) s).arrays (rank_of b.grid p q) b.array ≡ local_array m b.layout p q
moved_piece m a b s w p q hp hq = same_cells after piece frame words
  where
    mv : Move
    mv = whole_move m a b

    rank : ℕ
    rank = rank_of b.grid p q

    after : LocalCells
    after = cells_of (plain_move mv s).arrays rank b.array

    piece : LocalCells
    piece = local_array m b.layout p q

    moved : IsPlainMove mv s (plain_move mv s)
    moved = is_plain mv s (is_move m a b s.arrays w) w.target.have

    has : HasArray b s.arrays p q
    has = w.target.have.each p q (let e = w.target.spread.rows in omega arith) (let e = w.target.spread.columns in omega arith)

    frame : frame_of after ≡ frame_of piece
    frame =
        same_frame (plain_move mv s).arrays s.arrays rank b.array moved.sizes
        ∙ piece_frame m b.layout p q (cells_of s.arrays rank b.array) (has.lead ∙ w.target.leads_are p q hp hq) has.columns has.words

    -- where no element has its home, the zero of before
    stays : (k : ℕ) → Nothing every_pair mv (rank_place rank k) → slice_index_or after.words k (pos 0) ≡ pos 0
    stays k n = moved.others b.array (rank_place rank k) (λ e i j element. n.none i j element refl) ∙ w.target.zeros p q k hp hq

    words : (k : ℕ) → slice_index_or after.words k (pos 0) ≡ slice_index_or piece.words k (pos 0)
    words k = step (at_place every_pair mv (rank_place rank k)) (cases_lt k (length piece.words))
      where
        step : Found every_pair mv (rank_place rank k) ⊎ Nothing every_pair mv (rank_place rank k) → (k < length piece.words) ⊎ (length piece.words ≤ k) → slice_index_or after.words k (pos 0) ≡ slice_index_or piece.words k (pos 0)
        step (inl f) x =
            let i : ℕ = f.row in
            let j : ℕ = f.column in
            let low : i < m.rows = f.element.row in
            let left : j < m.columns = f.element.column in
            let there = home_there b s.arrays i j p q k w.target hp hq (sym (from_start b i j) ∙ f.here) in
            let R : RankPlace → Type 0 = λ h. word_in (plain_move mv s).arrays b.array h ≡ word_in s.arrays a.array (home_a mv i j) in
            subst R f.here (moved.placed i j f.element)
            ∙ ap (word_in s.arrays a.array) (from_start a i j)
            ∙ w.source.elements i j low left
            ∙ sym ((piece_spread m b.layout p q).held i j k (let e = w.rows in omega arith) (let e = w.columns in omega arith) there)
        step (inr n) (inl lt) =
            stays k n
            ∙ sym ((piece_spread m b.layout p q).padding k lt (λ i j low left there. n.none i j (record { row = (let e = w.rows in omega arith); column = (let e = w.columns in omega arith); selected = refl }) refl (from_start b i j ∙ home_back b s.arrays i j p q k w.target there)))
        step (inr n) (inr past) = stays k n ∙ sym (get_or_past piece.words k (pos 0) past)
