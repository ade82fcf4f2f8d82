-- The pieces of a split are pieces of their files, each at its turn.
use Rattle.std.proofs.Common.{◌≡◌, ℕ, zero, suc, ◌+◌, ◌-◌, ◌*◌, ◌/◌, ◌%◌, ◌^◌, ◌<◌, ◌≤◌, max, true, ℤ, pos, List, [], ◌∷◌, ◌++◌, length, get_or, Option, Some, None, refl, sym, ap, ap₂, subst, ◌∙◌, arith}
use Rattle.std.specs.Prelude.{map, slice_get, sum}
use Rattle.std.proofs.lemmas.List.{map-append}
use Rattle.std.proofs.lemmas.List.Sums.{sum_by_push}
use Rattle.std.specs.List.{range_with_len, AllByRecursion}
use Rattle.std.proofs.Math.Nat.{zero-div, mod-eq_of_lt}
use Rattle.std.proofs.lemmas.List.FromFn.{length-map-range_with_len, map-range_with_len_more}
use Rattle.store_io.specs.Outside.{Files}
use Rattle.index_tools.specs.Home.{row_spread, column_spread}
use Rattle.index_tools.proofs.HomeLemmas.{below_le}
use Rattle.mm_grammar.specs.Matrix.{Matrix, IsMatrix}
use Rattle.mm_grammar.specs.Width.{width32, is_in_range}
use Rattle.spread_cells.specs.Spreading.{element_at, word_at, owned}
use Rattle.spread_cells.proofs.OwnedLemmas.{length-owned}
use Rattle.spread_cells.proofs.SpreadLaws.{piece_spread}
use Rattle.piece_grammar.specs.Head as grammar
use Rattle.piece_grammar.specs.Head.{Piece, IsHead}
use Rattle.piece_grammar.specs.Turn.{HasTurn}
use Rattle.piece_grammar.specs.Pieces as pieces
use Rattle.piece_grammar.specs.Pieces.{turn_behind, HoldsPiece, AreHeldBehind, IsGathered, Whole}
use Rattle.piece_grammar.specs.PlainPiece.{piece_name, piece_text}
use Rattle.piece_grammar.specs.PieceText.{IsPieceText}
use Rattle.piece_grammar.proofs.PlainPieceLaws.{reads_back}
use Rattle.piece_file.specs.Gathering.{held_in}
use Rattle.tool_words.specs.Within.{IsTarget}
use Rattle.file_tools.specs.Target.{Target}
use Rattle.save_list.specs.Save.{saved}
use Rattle.file_tools.specs.SplitWalk.{layout_of, row_of, column_of, head_of, cells_of, text_of, words_of, words_before, job_words, saves_of}
use Rattle.file_tools.proofs.SplitHeads.{head_is}
use Rattle.file_tools.proofs.WordCounts.{no_words, next_words}
use Rattle.file_tools.proofs.SavedPieces.{piece_held}

-- piece k, and so many of them from one on
abbrev pub piece_of : Target → Matrix → ℕ → Piece
piece_of t m k = record { head = head_of t m.rows m.columns k; words = (cells_of t m k).values }

abbrev pub pieces_from : Target → Matrix → (first count : ℕ) → List Piece
pieces_from t m first count = map (piece_of t m) (range_with_len first count)

-- ---- a piece by itself

matrix_is : (c : Matrix) (rows columns : ℕ) → rows ≡ c.rows → columns ≡ c.columns → record { rows = rows; columns = columns; values = c.values } ≡ c
matrix_is c rows columns e f = rw (e, f) refl

array_is : (t : Target) (m : Matrix) (k : ℕ) → grammar.array_of (piece_of t m k) ≡ cells_of t m k
array_is t m k =
    let l = layout_of t m.rows m.columns in
    matrix_is (cells_of t m k) _ _ (ap (max 1) (sym (length-owned (row_spread l) (row_of t k) m.rows))) (ap (max 1) (sym (length-owned (column_spread l) (column_of t k) m.columns)))

is_head : (t : Target) (m : Matrix) (k : ℕ) → IsTarget t.nprow t.npcol t.mb t.nb → k < t.nprow * t.npcol → IsMatrix width32 m → IsHead (head_of t m.rows m.columns k)
is_head t m k is lt whole = head_is t m.rows m.columns k is lt whole.rows_fit whole.columns_fit

-- each word is an element or 0
abbrev Fits : ℤ → Type 0
Fits v = is_in_range width32 v ≡ true

value_fits : (vs : List ℤ) (i : ℕ) → AllByRecursion Fits vs → Fits (get_or vs i (pos 0))
value_fits [] i all = refl
value_fits (v ∷ vs) zero all = all.0
value_fits (v ∷ vs) (suc i) all = value_fits vs i all.1

element_fits : (m : Matrix) (i j : Option ℕ) → AllByRecursion Fits m.values → Fits (element_at m i j)
element_fits m (Some i) (Some j) all = value_fits m.values (j * m.rows + i) all
element_fits m (Some i) None all = refl
element_fits m None j all = refl

words_fit : (m : Matrix) (rows columns : List ℕ) (a c : ℕ) → AllByRecursion Fits m.values → AllByRecursion Fits (map (word_at m rows columns) (range_with_len a c))
words_fit m rows columns a zero all = tt
words_fit m rows columns a (suc c) all = (element_fits m (slice_get rows (a % max 1 (length rows))) (slice_get columns (a / max 1 (length rows))) all, words_fit m rows columns (a + 1) c all)

is_array : (t : Target) (m : Matrix) (k : ℕ) → IsMatrix width32 m → words_of t m.rows m.columns k ≤ 2 ^ 26 → IsMatrix width32 (grammar.array_of (piece_of t m k))
is_array t m k whole few =
    let l = layout_of t m.rows m.columns in
    let rows = below_le (row_spread l) (row_of t k) m.rows in
    let columns = below_le (column_spread l) (column_of t k) m.columns in
    record {
      rows_fit = omega (arith, rows, whole.rows_fit);
      columns_fit = omega (arith, columns, whole.columns_fit);
      area_fits = few;
      count = (piece_spread m l (row_of t k) (column_of t k)).size;
      each = words_fit m (owned (row_spread l) (row_of t k) m.rows) (owned (column_spread l) (column_of t k) m.columns) 0 _ whole.each;
    }

-- ---- the words of the pieces before

words_with : (ps : List Piece) (p : Piece) → pieces.words_of (ps ++ p ∷ []) ≡ pieces.words_of ps + grammar.array_words p.head
words_with ps p =
    let words : Piece → ℕ = λ q. grammar.array_words q.head in
    ap sum (map-append words ps (p ∷ [])) ∙ sum_by_push (λ n. n) (map words ps) (grammar.array_words p.head)

grows : (t : Target) (rows columns k n d : ℕ) → n ≡ d + k → words_before t rows columns k ≤ words_before t rows columns n
grows t rows columns k n zero e = let same : k ≡ n = omega arith in subst (λ (j : ℕ). words_before t rows columns k ≤ words_before t rows columns j) same (omega arith)
grows t rows columns k n (suc d) e =
    let same : suc (d + k) ≡ n = omega arith in
    subst (λ (j : ℕ). words_before t rows columns k ≤ words_before t rows columns j) same (omega (arith, grows t rows columns k (d + k) d refl, next_words t rows columns (d + k)))

pub words_are : (t : Target) (m : Matrix) (k : ℕ) → pieces.words_of (pieces_from t m 0 k) ≡ words_before t m.rows m.columns k
words_are t m zero = sym (no_words t m.rows m.columns)
words_are t m (suc k) =
    let next : suc k ≡ k + 1 = omega arith in
    ap (λ (n : ℕ). pieces.words_of (pieces_from t m 0 n)) next
    ∙ ap pieces.words_of (map-range_with_len_more (piece_of t m) 0 k k (omega arith)) ∙ words_with (pieces_from t m 0 k) (piece_of t m k)
    ∙ ap (λ (n : ℕ). n + words_of t m.rows m.columns k) (words_are t m k) ∙ sym (next_words t m.rows m.columns k)

few_before : (t : Target) (m : Matrix) (k : ℕ) → k < t.nprow * t.npcol → job_words t m.rows m.columns ≤ 2 ^ 26 → words_before t m.rows m.columns k + words_of t m.rows m.columns k ≤ 2 ^ 26
few_before t m k lt small =
    let all : t.nprow * t.npcol ≡ (t.nprow * t.npcol - suc k) + suc k = omega arith in
    let less = grows t m.rows m.columns (suc k) (t.nprow * t.npcol) (t.nprow * t.npcol - suc k) all in
    omega (arith, less, small, next_words t m.rows m.columns k)

-- ---- the turns

turn_is : (t : Target) (m : Matrix) (k : ℕ) → IsTarget t.nprow t.npcol t.mb t.nb → k < t.nprow * t.npcol → job_words t m.rows m.columns ≤ 2 ^ 26 → HasTurn (turn_behind (pieces_from t m 0 k)) (head_of t m.rows m.columns k)
turn_is t m zero is lt small = record {
  row = zero-div t.npcol;
  column = mod-eq_of_lt is.columns;
  agrees = tt;
  few = let le = few_before t m 0 lt small in let none = no_words t m.rows m.columns in omega (arith, le, none);
}
turn_is t m (suc j) is lt small =
    let count : length (pieces_from t m 1 j) ≡ j = length-map-range_with_len (piece_of t m) 1 j in
    record {
      row = ap (λ (n : ℕ). suc n / t.npcol) (sym count);
      column = ap (λ (n : ℕ). suc n % t.npcol) (sym count);
      agrees = refl;
      few = let le = few_before t m (suc j) lt small in omega (arith, le, words_are t m (suc j));
    }

-- ---- the files

is_text : (t : Target) (m : Matrix) (k : ℕ) → IsTarget t.nprow t.npcol t.mb t.nb → k < t.nprow * t.npcol → IsMatrix width32 m → job_words t m.rows m.columns ≤ 2 ^ 26 → IsPieceText (text_of t m k) (piece_of t m k)
is_text t m k is lt whole small =
    let few : words_of t m.rows m.columns k ≤ 2 ^ 26 = omega (arith, few_before t m k lt small) in
    let read = reads_back (piece_of t m k) (record { is_head = is_head t m k is lt whole; is_array = is_array t m k whole few }) in
    subst (λ (c : Matrix). IsPieceText (piece_text (head_of t m.rows m.columns k) c) (piece_of t m k)) (array_is t m k) read.again

module _ (t : Target) (m : Matrix) (files : Files) (is : IsTarget t.nprow t.npcol t.mb t.nb) (whole : IsMatrix width32 m) (small : job_words t m.rows m.columns ≤ 2 ^ 26) where
  held_at : (k : ℕ) → k < t.nprow * t.npcol → HoldsPiece (held_in (saved (saves_of t m) files)) t.prefix (turn_behind (pieces_from t m 0 k)) (piece_of t m k)
  held_at k lt =
      let turn = turn_is t m k is lt small in
      record {
        bytes = text_of t m k;
        is_held = ap (held_in (saved (saves_of t m) files)) (ap₂ (piece_name t.prefix) (sym turn.row) (sym turn.column)) ∙ piece_held t m k files is lt;
        is_piece = record { piece = is_text t m k is lt whole small; turn_is = turn };
      }

  held_from : (k c : ℕ) → k + c ≤ t.nprow * t.npcol → AreHeldBehind (held_in (saved (saves_of t m) files)) t.prefix (pieces_from t m 0 k) (pieces_from t m k c)
  held_from k zero le = tt
  held_from k (suc c) le = (
    held_at k (omega arith),
    subst (λ (ps : List Piece). AreHeldBehind (held_in (saved (saves_of t m) files)) t.prefix ps (pieces_from t m (k + 1) c)) (map-range_with_len_more (piece_of t m) 0 k k (omega arith)) (held_from (k + 1) c (omega arith)),
  )

  -- The pieces of a split are those that a join gathers.
  pub gathered : (j : ℕ) → t.nprow * t.npcol ≡ suc j → IsGathered (held_in (saved (saves_of t m) files)) t.prefix (Whole (pieces_from t m 0 (suc j)))
  gathered j all = (held_from 0 (suc j) (omega (arith, all)), ap suc (length-map-range_with_len (piece_of t m) 1 j) ∙ sym all)
