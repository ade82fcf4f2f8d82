-- Splits and joins are moves.
use Rattle.std.specs.Prelude.{◌≡◌, ◌⊎◌, ℕ, zero, suc, ◌+◌, ◌*◌, ◌%◌, ◌^◌, ◌<◌, ◌≤◌, max, ℤ, List, [], ◌∷◌, length, map}
use Rattle.std.proofs.Common.{ap, ◌∙◌, refl, inl, inr, arith}
use Rattle.std.proofs.lemmas.Nat.{div-mul-add, mod-mul-add, mul-add-lt}
use Rattle.index_tools.specs.Home.{Layout, row_spread, column_spread}
use Rattle.proc_grid.specs.Refusals.{FitsShape}
use Rattle.pack_words.specs.LocalCells.{LocalCells}
use Rattle.mm_grammar.specs.Matrix.{Matrix}
use Rattle.spread_cells.specs.Spreading.{piece_rows, piece_columns, piece_cells}
use Rattle.spread_cells.specs.JoiningBack.{local_array}
use Rattle.spread_cells.proofs.OwnedLemmas.{length-owned}
use Rattle.piece_grammar.specs.Head.{Piece, IsHead}
use Rattle.piece_file.specs.Gathering.{AreTurns}
use Rattle.tool_words.specs.Within.{IsTarget}
use Rattle.move_laws.specs.Starts.{CanSplit, CanJoin}
use Rattle.file_tools.specs.Target.{Target}
use Rattle.file_tools.specs.SplitWalk.{distribution_of, layout_of, words_of, words_before, job_words}
use Rattle.piece_moves.specs.PieceMove.{array_of}
use Rattle.piece_moves.proofs.ArrayFits.{one_fits}
use Rattle.file_tools.specs.JoinWalk.{layout_by, join_words}
use Rattle.tool_laws.specs.ByMoves.{local_of}
use Rattle.file_tools.proofs.TurnLaws.{turns_hold, first_is_head}

-- a grid of at most 64 processes
pub shape_fits : (r c : ℕ) → 1 ≤ r → 1 ≤ c → r * c ≤ 64 → FitsShape (r * c) r c
shape_fits r c hr hc few = record { some_rows = omega arith; few_rows = left r c hc few; some_columns = omega arith; few_columns = left c r hr (omega arith); places = omega arith; few_ranks = few }
  where
    left : (r c : ℕ) → 1 ≤ c → r * c ≤ 64 → r ≤ 64
    left r zero h few = absurd (omega arith)
    left r (suc c) h few = let e : r * suc c ≡ r + r * c = omega arith in omega arith

pub can_split : (t : Target) (m : Matrix) → IsTarget t.nprow t.npcol t.mb t.nb → length m.values ≡ m.rows * m.columns → job_words t m.rows m.columns ≤ 2 ^ 26 → CanSplit m (layout_of t m.rows m.columns)
can_split t m is count small = record {
  layout = record { layout = record { row_block = is.row_block; column_block = is.column_block; row_source = is.rows; column_source = is.columns }; rows = refl; columns = refl; count = count };
  shape = shape_fits t.nprow t.npcol is.rows is.columns is.grid;
  few = λ p q hp hq.
      let l : Layout = layout_of t m.rows m.columns in
      let below : p * t.npcol + q < t.nprow * t.npcol = omega (arith, mul-add-lt p t.npcol q t.nprow hp hq) in
      let one : words_of t m.rows m.columns (p * t.npcol + q) ≤ words_before t m.rows m.columns (t.nprow * t.npcol) = one_fits m.rows m.columns (distribution_of t) (p * t.npcol + q) (t.nprow * t.npcol) below in
      let here : words_of t m.rows m.columns (p * t.npcol + q) ≡ piece_rows l p * piece_columns l q = ap (λ k. piece_rows l k * piece_columns l ((p * t.npcol + q) % t.npcol)) (div-mul-add p t.npcol q hq) ∙ ap (λ k. piece_rows l p * piece_columns l k) (mod-mul-add p t.npcol q hq) in
      omega (arith, small, one, here);
}

cells_are : (lld cols x y : ℕ) (ws : List ℤ) → lld ≡ x → cols ≡ y → (let c : LocalCells = record { lld = lld; cols = cols; words = ws } in c) ≡ record { lld = x; cols = y; words = ws }
cells_are lld cols x y ws e f = rw (e, f) refl

pub piece_is : (m : Matrix) (l : Layout) (p q : ℕ) → local_of (piece_cells m l p q) ≡ local_array m l p q
piece_is m l p q = cells_are _ _ (piece_rows l p) (piece_columns l q) (piece_cells m l p q).values (ap (max 1) (length-owned (row_spread l) p l.rows)) (ap (max 1) (length-owned (column_spread l) q l.columns))

pub same_lists_by : (f g : ℕ → LocalCells) (ks : List ℕ) → ((k : ℕ) → f k ≡ g k) → map f ks ≡ map g ks
same_lists_by f g [] e = refl
same_lists_by f g (k ∷ ks) e = ap (λ (c : LocalCells). c ∷ map f ks) (e k) ∙ ap (λ (cs : List LocalCells). g k ∷ cs) (same_lists_by f g ks e)

pub can_join : (ps : List Piece) → AreTurns ps → join_words ps ≤ 2 ^ 26 → CanJoin (layout_by ps) (map array_of ps)
can_join [] turns small = absurd turns.all
can_join (first ∷ more) turns small =
    let h : IsHead first.head = first_is_head first more turns in
    record {
      layout = record { row_block = h.some_row_block; column_block = h.some_column_block; row_source = h.row_source; column_source = h.column_source };
      shape = shape_fits first.head.nprow first.head.npcol h.some_rows h.some_columns h.few;
      holds = turns_hold (first ∷ more) turns;
      few = omega (arith, small);
    }
