-- The 1 by 1 grid of a file.
use Rattle.std.specs.Prelude.{◌≡◌, ◌⊎◌, ℕ, zero, suc, ◌+◌, ◌-◌, ◌*◌, ◌/◌, ◌%◌, ◌<◌, ◌≤◌, max, ℤ, pos, List, [], ◌∷◌, ◌++◌, length, replicate, slice_index_or}
use Rattle.std.proofs.Common.{sym, ap, ◌∙◌, refl, inl, inr, arith}
use Rattle.std.proofs.Math.Nat.{mod-lt, div-lt_iff_lt-mul}
use Rattle.std.proofs.lemmas.Nat.{div-add-mod'}
use Rattle.std.proofs.lemmas.Bool.{cases_lt}
use Rattle.std.proofs.lemmas.List.{get_or_past, get_or_append_left, length-append, length-replicate}
use Rattle.index_tools.specs.Spread.{spread, owner, below, local}
use Rattle.index_tools.specs.Home.{Layout, IsLayout, Home, home, row_spread, column_spread}
use Rattle.index_tools.proofs.HomeLemmas.{owner_below, below_owned}
use Rattle.pack_words.specs.LocalCells.{LocalCells}
use Rattle.mm_grammar.specs.Matrix.{Matrix}
use Rattle.spread_cells.specs.Spreading.{piece_rows, piece_columns}
use Rattle.spread_cells.specs.JoiningBack.{local_array}
use Rattle.spread_cells.proofs.SpreadLaws.{piece_spread}
use Rattle.mr2d.specs.Moves.{frame_of}
use Rattle.mr2d.proofs.MovedLaws.{same_cells}
use Rattle.move_laws.specs.Ends.{file_layout, file_cells}
use Rattle.move_laws.proofs.MoveLaws.{tuple_is, home_is}

-- one process owns every index, each at its own number
pub one_owner : (block i : ℕ) → owner (spread block 0 1) i ≡ 0
one_owner block i = let h : owner (spread block 0 1) i < 1 = owner_below (spread block 0 1) i (omega arith) in omega arith

pub one_below : (block n : ℕ) → below (spread block 0 1) 0 n ≡ n
unfolding below
one_below block zero = refl
one_below block (suc n) = below_owned (spread block 0 1) 0 n (one_owner block n) ∙ ap (λ k. k + 1) (one_below block n) ∙ (let e : n + 1 ≡ suc n = omega arith in e)

pub one_local : (block i : ℕ) → local (spread block 0 1) i ≡ i
one_local block i = ap (λ p. below (spread block 0 1) p i) (one_owner block i) ∙ one_below block i

pub file_rows : (m : Matrix) → piece_rows (file_layout m) 0 ≡ max 1 m.rows
file_rows m = ap (max 1) (one_below (max 1 m.rows) m.rows)

pub file_columns : (m : Matrix) → piece_columns (file_layout m) 0 ≡ max 1 m.columns
file_columns m = ap (max 1) (one_below (max 1 m.columns) m.columns)

pub file_is_layout : (m : Matrix) → IsLayout (file_layout m)
file_is_layout m = record { row_block = some m.rows; column_block = some m.columns; row_source = omega arith; column_source = omega arith }
  where
    some : (n : ℕ) → 0 < max 1 n
    some n = omega arith

least : (n i : ℕ) → i < n → max 1 n ≡ n
least n i lt = omega arith

-- the home of an element of the file
pub file_home : (m : Matrix) (i j : ℕ) → i < m.rows → home (file_layout m) (λ p q. piece_rows (file_layout m) p) i j ≡ record { row = 0; column = 0; place = j * m.rows + i }
file_home m i j low =
    let l : Layout = file_layout m in
    let li : local (row_spread l) i ≡ i = one_local (max 1 m.rows) i in
    let lj : local (column_spread l) j ≡ j = one_local (max 1 m.columns) j in
    let p : owner (row_spread l) i ≡ 0 = one_owner (max 1 m.rows) i in
    let q : owner (column_spread l) j ≡ 0 = one_owner (max 1 m.columns) j in
    home_is _ _ _ 0 0 (j * m.rows + i) p q
    (ap (λ n. local (column_spread l) j * piece_rows l n + local (row_spread l) i) p
    ∙ ap (λ n. n * piece_rows l 0 + local (row_spread l) i) lj
    ∙ ap (λ n. j * piece_rows l 0 + n) li
    ∙ ap (λ n. j * n + i) (file_rows m ∙ least m.rows i low))

-- a value by columns stands in the file's array at its place
pub file_word : (m : Matrix) (k : ℕ) → length m.values ≡ m.rows * m.columns → k < m.rows * m.columns → slice_index_or (file_cells m).words k (pos 0) ≡ slice_index_or m.values k (pos 0)
file_word m k count lt = get_or_append_left m.values (replicate (max 1 m.rows * max 1 m.columns - m.rows * m.columns) (pos 0)) (pos 0) k (let h : k < length m.values = omega arith in h)

pub zero_in : (n k : ℕ) → slice_index_or (replicate n (pos 0)) k (pos 0) ≡ pos 0
zero_in zero k = refl
zero_in (suc n) zero = refl
zero_in (suc n) (suc k) = zero_in n k

zero_past : (xs : List ℤ) (n k : ℕ) → length xs ≤ k → slice_index_or (xs ++ replicate n (pos 0)) k (pos 0) ≡ pos 0
zero_past [] n k h = zero_in n k
zero_past (x ∷ xs) n zero h = absurd (omega arith)
zero_past (x ∷ xs) n (suc k) h = zero_past xs n k (omega arith)

area : (r c : ℕ) → r * c ≤ max 1 r * max 1 c
area zero c = omega arith
area (suc r) zero = omega arith
area (suc r) (suc c) = grind arith

some_rows : (r c k : ℕ) → k < r * c → 0 < r
some_rows zero c k lt = omega arith
some_rows (suc r) c k lt = omega arith

column_below : (r c k : ℕ) → 0 < r → k < r * c → k / r < c
column_below r c k some lt = let lt' : k < c * r = omega arith in (div-lt_iff_lt-mul some).1 lt'

place_below : (r c i j : ℕ) → i < r → j < c → j * r + i < r * c
place_below r c i j low left = grind arith

file_count : (m : Matrix) → length m.values ≡ m.rows * m.columns → length (file_cells m).words ≡ max 1 m.rows * max 1 m.columns
file_count m count =
    let n : ℕ = max 1 m.rows * max 1 m.columns - m.rows * m.columns in
    length-append m.values (replicate n (pos 0)) ∙ ap (λ k. k + length (replicate n (pos 0))) count ∙ ap (λ k. m.rows * m.columns + k) (length-replicate n (pos 0)) ∙ whole (m.rows * m.columns) (max 1 m.rows * max 1 m.columns) (area m.rows m.columns)
  where
    whole : (a b : ℕ) → a ≤ b → a + (b - a) ≡ b
    whole a b h = omega arith

pub one_piece_is : (m : Matrix) → length m.values ≡ m.rows * m.columns → local_array m (file_layout m) 0 0 ≡ file_cells m
one_piece_is m count = same_cells piece (file_cells m) frame words
  where
    l : Layout
    l = file_layout m

    piece : LocalCells
    piece = local_array m l 0 0

    frame : frame_of piece ≡ frame_of (file_cells m)
    frame = tuple_is (piece_rows l 0) (piece_columns l 0) (length piece.words) (max 1 m.rows) (max 1 m.columns) (length (file_cells m).words) (file_rows m) (file_columns m)
        ((piece_spread m l 0 0).size ∙ ap (λ n. n * piece_columns l 0) (file_rows m) ∙ ap (λ n. max 1 m.rows * n) (file_columns m) ∙ sym (file_count m count))

    words : (k : ℕ) → slice_index_or piece.words k (pos 0) ≡ slice_index_or (file_cells m).words k (pos 0)
    words k = step (cases_lt k (m.rows * m.columns)) (cases_lt k (length piece.words))
      where
        step : (k < m.rows * m.columns) ⊎ (m.rows * m.columns ≤ k) → (k < length piece.words) ⊎ (length piece.words ≤ k) → slice_index_or piece.words k (pos 0) ≡ slice_index_or (file_cells m).words k (pos 0)
        step (inl lt) x =
            let some : 0 < m.rows = some_rows m.rows m.columns k lt in
            let low : k % m.rows < m.rows = mod-lt k some in
            let left : k / m.rows < m.columns = column_below m.rows m.columns k some lt in
            let spot : k / m.rows * m.rows + k % m.rows ≡ k = div-add-mod' k m.rows in
            (piece_spread m l 0 0).held (k % m.rows) (k / m.rows) k low left (file_home m (k % m.rows) (k / m.rows) low ∙ home_is 0 0 _ 0 0 k refl refl spot)
            ∙ ap (λ n. slice_index_or m.values n (pos 0)) spot
            ∙ sym (file_word m k count lt)
        step (inr past) (inl lt) =
            (piece_spread m l 0 0).padding k lt (λ i j low left there. apart i j low left (ap (λ (h : Home). h.place) (sym (file_home m i j low) ∙ there)))
            ∙ sym (zero_past m.values (max 1 m.rows * max 1 m.columns - m.rows * m.columns) k (let h : length m.values ≤ k = omega arith in h))
          where
            apart : (i j : ℕ) → i < m.rows → j < m.columns → j * m.rows + i ≡ k → ⊥
            apart i j low left e = let h : j * m.rows + i < m.rows * m.columns = place_below m.rows m.columns i j low left in omega arith
        step (inr past) (inr over) =
            get_or_past piece.words k (pos 0) over
            ∙ sym (zero_past m.values (max 1 m.rows * max 1 m.columns - m.rows * m.columns) k (let h : length m.values ≤ k = omega arith in h))
