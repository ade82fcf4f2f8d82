-- What a move of pieces leaves: the pieces of a split of the joined matrix.
use Rattle.std.specs.Prelude.{◌≡◌, ◌⊎◌, ℕ, zero, suc, ◌+◌, ◌*◌, ◌%◌, ◌^◌, ◌<◌, ◌≤◌, Bool, true, nat_lt, pos, List, [], ◌∷◌, length, map, if◌then◌else◌, slice_index_or}
use Rattle.std.proofs.Common.{sym, ap, ◌∙◌, subst, refl, inl, inr, arith}
use Rattle.std.proofs.lemmas.Nat.{div-mul-add, mod-mul-add, mul-add-lt}
use Rattle.std.proofs.lemmas.Bool.Decides.{nat_tests}
use Rattle.std.proofs.lemmas.List.{length-replicate}
use Rattle.std.proofs.lemmas.List.FromFn.{get_or-map-range_with_len, length-map-range_with_len}
use Rattle.index_tools.specs.Home.{Layout, local_rows}
use Rattle.proc_grid.specs.Grid.{Grid}
use Rattle.proc_grid.specs.Refusals.{FitsShape, dealt_grid}
use Rattle.proc_grid.specs.declared.world.Order.TheVariants.{R}
use Rattle.proc_grid.proofs.GridLemmas.{dealt_grid-is}
use Rattle.descriptor.specs.Bounds.{part}
use Rattle.pack_words.specs.LocalCells.{LocalCells, zeros}
use Rattle.spread_cells.specs.Spreading.{piece_rows, piece_columns}
use Rattle.spread_cells.specs.Joining.{leads, joined}
use Rattle.spread_cells.specs.JoiningBack.{local_array}
use Rattle.piece_grammar.specs.Head.{Head, Piece, IsHead, array_columns, array_words}
use Rattle.piece_file.specs.Gathering.{AreTurns}
use Rattle.piece_moves.specs.Planning.{IsDistribution}
use Rattle.mr2d.specs.Homes.{SpreadArray, Arrays, rank_of, cells_of}
use Rattle.mr2d.specs.Calls.{spread_array}
use Rattle.piece_moves.specs.Distribution.{Distribution, layout_over, head_over}
use Rattle.piece_moves.specs.PieceMove as moving
use Rattle.piece_moves.specs.PieceMove.{first_of, ranks_for, spread_from, spread_to, held_before, state_before, state_after, words_over, move_words}
use Rattle.piece_moves.proofs.CallLaws.{dealt_at}
use Rattle.move_laws.specs.WholeMoves.{HoldsPieces, AwaitsPieces}
use Rattle.move_laws.proofs.MoveLaws.{piece_room}
use Rattle.move_laws.proofs.FileLaws.{zero_in}
use Rattle.move_laws.proofs.EndLaws.{pieces_move}
use Rattle.piece_moves.specs.PieceMove.{array_of}
use Rattle.drawn_jobs.specs.Dealing.{layout_by}
use Rattle.drawn_jobs.proofs.TurnLaws.{turns_hold, first_is_head}

-- a grid of at most 64 processes
pub shape_fits : (r c : ℕ) → 1 ≤ r → 1 ≤ c → r * c ≤ 64 → FitsShape (r * c) r c
shape_fits r c hr hc few = record { some_rows = omega arith; few_rows = left r c hc few; some_columns = omega arith; few_columns = left c r hr (omega arith); places = omega arith; few_ranks = few }
  where
    left : (r c : ℕ) → 1 ≤ c → r * c ≤ 64 → r ≤ 64
    left r zero h few = absurd (omega arith)
    left r (suc c) h few = let e : r * suc c ≡ r + r * c = omega arith in omega arith

number_below : (r c p q : ℕ) → p < r → q < c → p * c + q < r * c
number_below r c p q hp hq = omega (arith, mul-add-lt p c q r hp hq)

-- a leading dimension among those of the pieces
lead_at : (ps : List Piece) (k : ℕ) → k < length ps → part (slice_index_or (map (λ (p : Piece). pos p.head.lld) ps) k (pos 0)) ≡ (slice_index_or (map array_of ps) k (zeros 1 0)).lld
lead_at [] k lt = absurd (omega arith)
lead_at (p ∷ ps) zero lt = refl
lead_at (p ∷ ps) (suc k) lt = lead_at ps k (omega arith)

-- the arrays of both ends
source_array : List Piece → SpreadArray
source_array ps = spread_array 0 (spread_from ps) (dealt_grid R (first_of ps).nprow (first_of ps).npcol)

target_array : List Piece → Distribution → SpreadArray
target_array ps d = spread_array 1 (spread_to (first_of ps) d) (dealt_grid R d.nprow d.npcol)

-- a rank's arrays before
held_at : (ps : List Piece) (d : Distribution) (at rank : ℕ) → at ≡ rank → rank < ranks_for (first_of ps) d → slice_index_or (state_before ps d).arrays at [] ≡ held_before ps d rank
held_at ps d at rank e lt =
    ap (λ k. slice_index_or (state_before ps d).arrays k []) e ∙ get_or-map-range_with_len (held_before ps d) 0 (ranks_for (first_of ps) d) rank rank [] lt (omega arith)

-- ---- the pieces are A

holds_pieces : (first : Piece) (more : List Piece) (d : Distribution) → AreTurns (first ∷ more) → HoldsPieces (source_array (first ∷ more)) (state_before (first ∷ more) d).arrays (map array_of (first ∷ more))
unfolding source_array
holds_pieces first more d turns =
    let ps : List Piece = first ∷ more in
    let h : Head = first.head in
    let is : IsHead h = first_is_head first more turns in
    let l : Layout = layout_by ps in
    let all : length ps ≡ h.nprow * h.npcol = turns.all in
    let same : (p q : ℕ) → p < h.nprow → q < h.npcol → part (slice_index_or (map (λ (x : Piece). pos x.head.lld) ps) (p * h.npcol + q) (pos 0)) ≡ leads l (map array_of ps) p q
    = λ p q hp hq. lead_at ps (p * h.npcol + q) (let low = number_below h.nprow h.npcol p q hp hq in omega arith) in
    record {
      spread = record {
        grid = dealt_grid-is R (h.nprow * h.npcol) h.nprow h.npcol (shape_fits h.nprow h.npcol is.some_rows is.some_columns is.few);
        rows = refl;
        columns = refl;
        layout = record { row_block = is.some_row_block; column_block = is.some_column_block; row_source = is.row_source; column_source = is.column_source };
        room = record { rows_fit = λ p q hp hq. subst (λ n. local_rows l p ≤ n) (sym (same p q hp hq)) ((turns_hold ps turns).rows_fit.rows_fit p q hp hq) };
      };
      leads_are = same;
      pieces_are = λ p q hp hq.
          ap (λ (cs : List LocalCells). slice_index_or cs 0 (zeros 1 0)) (held_at ps d (rank_of (dealt_grid R h.nprow h.npcol) p q) (p * h.npcol + q) (dealt_at h.nprow h.npcol p q hp hq) (let low = number_below h.nprow h.npcol p q hp hq in omega arith));
    }

-- ---- B awaits the others

next_words : (h : Head) (d : Distribution) (k : ℕ) → words_over h.m h.n d (suc k) ≡ words_over h.m h.n d k + array_words (head_over d h.m h.n k)
unfolding words_over
next_words h d k = refl

one_of_all : (h : Head) (d : Distribution) (n k : ℕ) → k < n → array_words (head_over d h.m h.n k) ≤ words_over h.m h.n d n
one_of_all h d zero k lt = absurd (omega arith)
one_of_all h d (suc n) k lt = step (nat_cases k n lt) (one_of_all h d n k)
  where
    nat_cases : (k n : ℕ) → k < suc n → (k < n) ⊎ (k ≡ n)
    nat_cases k n lt = grind arith

    step : (k < n) ⊎ (k ≡ n) → (k < n → array_words (head_over d h.m h.n k) ≤ words_over h.m h.n d n) → array_words (head_over d h.m h.n k) ≤ words_over h.m h.n d (suc n)
    step (inl low) before = omega (arith, before low, next_words h d n)
    step (inr e) before = omega (arith, ap (λ k. array_words (head_over d h.m h.n k)) e, next_words h d n)

zeros_are : (h : Head) (d : Distribution) (p q : ℕ) → p < d.nprow → q < d.npcol
    → moving.zeros_for h d (p * d.npcol + q) ≡ zeros (piece_rows (layout_over d h.m h.n) p) (piece_columns (layout_over d h.m h.n) q)
zeros_are h d p q hp hq =
    let l : Layout = layout_over d h.m h.n in
    let k : ℕ = p * d.npcol + q in
    ap (λ (b : Bool). if b then zeros (head_over d h.m h.n k).lld (array_columns (head_over d h.m h.n k)) else zeros 1 0) (below k (d.nprow * d.npcol) (number_below d.nprow d.npcol p q hp hq))
    ∙ ap (λ n. zeros (piece_rows l n) (piece_columns l (k % d.npcol))) (div-mul-add p d.npcol q hq)
    ∙ ap (λ n. zeros (piece_rows l p) (piece_columns l n)) (mod-mul-add p d.npcol q hq)
  where
    below : (k n : ℕ) → k < n → nat_lt k n ≡ true
    below k n lt = grind (arith, nat_tests)

two_words : (c x : LocalCells) → c ≡ x → c.lld * c.cols ≡ x.lld * x.cols
two_words c x e = ap (λ (y : LocalCells). y.lld * y.cols) e

awaits : (ps : List Piece) (d : Distribution) → IsDistribution d → move_words ps d ≤ 2 ^ 26 → AwaitsPieces (target_array ps d) (state_before ps d).arrays
unfolding target_array
awaits ps d is small =
    let h : Head = first_of ps in
    let g : Grid = dealt_grid R d.nprow d.npcol in
    let l : Layout = layout_over d h.m h.n in
    let arrays : Arrays = (state_before ps d).arrays in
    let first : ℕ → LocalCells = λ k. slice_index_or (map moving.array_of ps) k (zeros 1 0) in
    let size : length arrays ≡ ranks_for h d = length-map-range_with_len (held_before ps d) 0 (ranks_for h d) in
    let mine : (p q : ℕ) → p < d.nprow → q < d.npcol → slice_index_or arrays (rank_of g p q) [] ≡ first (p * d.npcol + q) ∷ zeros (piece_rows l p) (piece_columns l q) ∷ []
    = λ p q hp hq. held_at ps d (rank_of g p q) (p * d.npcol + q) (dealt_at d.nprow d.npcol p q hp hq) (let low = number_below d.nprow d.npcol p q hp hq in omega arith) ∙ ap (λ (c : LocalCells). first (p * d.npcol + q) ∷ c ∷ []) (zeros_are h d p q hp hq) in
    let lead : (p q : ℕ) → p < d.nprow → q < d.npcol → (target_array ps d).llds p q ≡ piece_rows l p
    = λ p q hp hq.
    ap part (get_or-map-range_with_len (λ k. pos (head_over d h.m h.n k).lld) 0 (d.nprow * d.npcol) (p * d.npcol + q) (p * d.npcol + q) (pos 0) (number_below d.nprow d.npcol p q hp hq) (omega arith))
    ∙ ap (piece_rows l) (div-mul-add p d.npcol q hq) in
    record {
      spread = record {
        grid = dealt_grid-is R (d.nprow * d.npcol) d.nprow d.npcol (shape_fits d.nprow d.npcol is.rows is.columns is.grid);
        rows = refl;
        columns = refl;
        layout = record { row_block = is.row_block; column_block = is.column_block; row_source = is.rows; column_source = is.columns };
        room = record { rows_fit = λ p q hp hq. subst (λ n. local_rows l p ≤ n) (sym (lead p q hp hq)) ((piece_room l).rows_fit p q hp hq) };
      };
      leads_are = lead;
      have = record {
        each = λ p q hp hq.
            let c : cells_of arrays (rank_of g p q) 1 ≡ zeros (piece_rows l p) (piece_columns l q) = ap (λ (cs : List LocalCells). slice_index_or cs 1 (zeros 1 0)) (mine p q hp hq) in
            let at : rank_of g p q ≡ p * d.npcol + q = dealt_at d.nprow d.npcol p q hp hq in
            let low : p * d.npcol + q < d.nprow * d.npcol = number_below d.nprow d.npcol p q hp hq in
            let one : array_words (head_over d h.m h.n (p * d.npcol + q)) ≤ words_over h.m h.n d (d.nprow * d.npcol) = one_of_all h d (d.nprow * d.npcol) (p * d.npcol + q) low in
            let here : array_words (head_over d h.m h.n (p * d.npcol + q)) ≡ piece_rows l p * piece_columns l q = ap (λ n. piece_rows l n * piece_columns l ((p * d.npcol + q) % d.npcol)) (div-mul-add p d.npcol q hq) ∙ ap (λ n. piece_rows l p * piece_columns l n) (mod-mul-add p d.npcol q hq) in
            let area = two_words (cells_of arrays (rank_of g p q) 1) (zeros (piece_rows l p) (piece_columns l q)) c in
            record {
              rank = omega arith;
              array = (let two : length (slice_index_or arrays (rank_of g p q) []) ≡ 2 = ap length (mine p q hp hq) in omega arith);
              lead = ap (λ (x : LocalCells). x.lld) c ∙ sym (lead p q hp hq);
              columns = ap (λ (x : LocalCells). x.cols) c;
              words = ap (λ (x : LocalCells). length x.words) c ∙ length-replicate (piece_rows l p * piece_columns l q) (pos 0) ∙ sym area;
              few = subst (λ n. n ≤ 2 ^ 26) (sym area) (omega (arith, small, one, here));
            };
      };
      zeros = λ p q place hp hq. ap (λ (cs : List LocalCells). slice_index_or (slice_index_or cs 1 (zeros 1 0)).words place (pos 0)) (mine p q hp hq) ∙ zero_in (piece_rows l p * piece_columns l q) place;
    }

apart_numbers : (a b : ℕ) → a < b → a ≡ b → ⊥
apart_numbers a b lt e = omega arith

-- the local array of piece k after the move
pub moved_is : (ps : List Piece) (d : Distribution) → AreTurns ps → IsDistribution d → move_words ps d ≤ 2 ^ 26 → (p q : ℕ) → p < d.nprow → q < d.npcol
    → moving.array_after ps d (p * d.npcol + q) ≡ local_array (joined (layout_by ps) (map array_of ps)) (layout_over d (first_of ps).m (first_of ps).n) p q
unfolding source_array target_array
moved_is [] d turns is small p q hp hq = absurd turns.all
moved_is (first ∷ more) d turns is small p q hp hq =
    let ps : List Piece = first ∷ more in
    ap (λ k. cells_of (state_after ps d).arrays k 1) (sym (dealt_at d.nprow d.npcol p q hp hq))
    ∙ pieces_move (map array_of ps) (source_array ps) (target_array ps d) (state_before ps d)
    (record { source = holds_pieces first more d turns; target = awaits ps d is small; rows = refl; columns = refl; apart = apart_numbers 0 1 (omega arith) }) p q hp hq
