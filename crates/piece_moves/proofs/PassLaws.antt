-- The arguments of a move of pieces pass their check.
use Rattle.std.proofs.Common.{◌≡◌, ℕ, zero, suc, ◌+◌, ◌-◌, ◌*◌, ◌/◌, ◌%◌, ◌^◌, ◌<◌, ◌≤◌, ◌==◌, ◌||◌, not, nat_lt, max, Bool, true, false, List, [], ◌∷◌, ◌++◌, length, get_or, Option, Some, None, is_none, ℤ, pos, refl, sym, ap, subst, ◌∙◌, arith}
use Rattle.std.specs.Prelude.{slice_get, slice_index, slice_index_or}
use Rattle.std.specs.List.{list_any}
use Rattle.std.proofs.lemmas.Bool.{le-ltb, eq-eqb}
use Rattle.std.proofs.lemmas.List.{get_or_default, length-map}
use Rattle.std.proofs.lemmas.List.Folds.{list_any_at, list_any_none}
use Rattle.std.proofs.lemmas.List.FromFn.{length-map-range_with_len, get_or-map-range_with_len}
use Rattle.index_tools.specs.Spread.{spread, below}
use Rattle.index_tools.specs.Home.{local_rows}
use Rattle.index_tools.proofs.HomeLemmas.{below_le}
use Rattle.proc_grid.specs.Grid.{Grid}
use Rattle.proc_grid.specs.Refusals.{dealt_grid, dealt_rank}
use Rattle.proc_grid.specs.declared.world.Order.TheVariants.{R}
use Rattle.proc_grid.proofs.GridLemmas.{number-grid_by, length-grid_by, dealt_by_rows}
use Rattle.descriptor.specs.InfoOf.{Entry, entry, info_of}
use Rattle.descriptor.specs.Bounds.{is_outside, starts_outside, rows_of, columns_of, least_lld, some_below, has_bad_lld, lacks_grid}
use Rattle.descriptor.specs.Entries.{desc_entries, extent_entries, start_entries, matrix_entries, common_entries, gemr2d_entries}
use Rattle.descriptor.specs.declared.spread.Spread.{Spread}
use Rattle.descriptor.specs.declared.moves.MrArgs.{MrArgs}
use Rattle.descriptor.proofs.BoundsLemmas.{bad_at}
use Rattle.descriptor.proofs.InfoLemmas.{info_of_rest}
use Rattle.descriptor.proofs.PassLemmas.{NineGood}
use Rattle.pack_words.specs.RankOps.{RankState}
use Rattle.pack_words.specs.GridShapes.{ShapesView}
use Rattle.piece_grammar.specs.Head.{Head, Piece, IsHead, layout_of}
use Rattle.piece_file.specs.Gathering.{AreTurns}
use Rattle.piece_moves.specs.Distribution.{Distribution, head_over}
use Rattle.piece_moves.specs.PieceMove.{ranks_for, desc_for, llds_from, llds_to, spread_from, spread_to, args_for}
use Rattle.piece_moves.specs.Planning.{IsPrepared, IsDistribution, contexts_of}
use Rattle.piece_moves.proofs.TurnLaws.{IsAt, piece_at}

-- ---- lists of entries

entry_passes : (b : Bool) (place : ℕ) (es : List Entry) → b ≡ false → info_of es ≡ None → info_of (entry b place ∷ es) ≡ None
entry_passes true place es h k = cc
entry_passes false place es h k = k

nine_pass : (d : ℕ) (b₁ b₂ b₃ b₄ b₅ b₆ b₇ b₈ b₉ : Bool) → NineGood b₁ b₂ b₃ b₄ b₅ b₆ b₇ b₈ b₉
    → info_of (entry b₁ (d + 1) ∷ (entry b₂ (d + 2) ∷ (entry b₃ (d + 3) ∷ (entry b₄ (d + 4) ∷ (entry b₅ (d + 5) ∷ (entry b₆ (d + 6) ∷ (entry b₇ (d + 7) ∷ (entry b₈ (d + 8) ∷ (entry b₉ (d + 9) ∷ []))))))))) ≡ None
nine_pass d b₁ b₂ b₃ b₄ b₅ b₆ b₇ b₈ b₉ w =
    let e₉ = entry_passes b₉ (d + 9) [] w.llds refl in
    let e₈ = entry_passes b₈ (d + 8) (entry b₉ (d + 9) ∷ []) w.column_source e₉ in
    let e₇ = entry_passes b₇ (d + 7) (entry b₈ (d + 8) ∷ (entry b₉ (d + 9) ∷ [])) w.row_source e₈ in
    let e₆ = entry_passes b₆ (d + 6) (entry b₇ (d + 7) ∷ (entry b₈ (d + 8) ∷ (entry b₉ (d + 9) ∷ []))) w.column_block e₇ in
    let e₅ = entry_passes b₅ (d + 5) (entry b₆ (d + 6) ∷ (entry b₇ (d + 7) ∷ (entry b₈ (d + 8) ∷ (entry b₉ (d + 9) ∷ [])))) w.row_block e₆ in
    let e₄ = entry_passes b₄ (d + 4) (entry b₅ (d + 5) ∷ (entry b₆ (d + 6) ∷ (entry b₇ (d + 7) ∷ (entry b₈ (d + 8) ∷ (entry b₉ (d + 9) ∷ []))))) w.columns e₅ in
    let e₃ = entry_passes b₃ (d + 3) (entry b₄ (d + 4) ∷ (entry b₅ (d + 5) ∷ (entry b₆ (d + 6) ∷ (entry b₇ (d + 7) ∷ (entry b₈ (d + 8) ∷ (entry b₉ (d + 9) ∷ [])))))) w.rows e₄ in
    let e₂ = entry_passes b₂ (d + 2) (entry b₃ (d + 3) ∷ (entry b₄ (d + 4) ∷ (entry b₅ (d + 5) ∷ (entry b₆ (d + 6) ∷ (entry b₇ (d + 7) ∷ (entry b₈ (d + 8) ∷ (entry b₉ (d + 9) ∷ []))))))) w.context e₃ in
    entry_passes b₁ (d + 1) (entry b₂ (d + 2) ∷ (entry b₃ (d + 3) ∷ (entry b₄ (d + 4) ∷ (entry b₅ (d + 5) ∷ (entry b₆ (d + 6) ∷ (entry b₇ (d + 7) ∷ (entry b₈ (d + 8) ∷ (entry b₉ (d + 9) ∷ [])))))))) w.dtype e₂

-- ---- single entries

neither : (a b : Bool) → a ≡ false → b ≡ false → (a || b) ≡ false
neither true b h e = h
neither false b h e = e

within : (n low high : ℕ) → low ≤ n → n ≤ high → is_outside (pos n) low high ≡ false
unfolding is_outside
within n low high h k = neither (nat_lt n low) (nat_lt high n) (le-ltb n low h) (le-ltb high n k)

from_one : (n : ℕ) → starts_outside (pos 1) (pos n) (pos n) ≡ false
unfolding starts_outside
from_one n = neither (nat_lt 1 1) (nat_lt n (1 + n - 1)) (le-ltb 1 1 (omega arith)) (le-ltb n (1 + n - 1) (omega arith))

none_below : (test : ℕ → Bool) (n : ℕ) → ((k : ℕ) → k < n → test k ≡ false) → some_below test n ≡ false
unfolding some_below
none_below test zero h = refl
none_below test (suc n) h = neither (some_below test n) (test n) (none_below test n (λ k lt. h k (omega (arith, lt)))) (h n (omega arith))

good_llds : (llds : List ℤ) (rows block source nprow npcol : ℕ) → length llds ≡ nprow * npcol → ((k : ℕ) → k < nprow * npcol → bad_at llds rows block source nprow npcol k ≡ false) → has_bad_lld llds rows block source nprow npcol ≡ false
unfolding has_bad_lld
good_llds llds rows block source nprow npcol count each =
    neither (not (length llds == nprow * npcol)) (some_below (bad_at llds rows block source nprow npcol) (nprow * npcol)) (ap not (eq-eqb (length llds) (nprow * npcol) count)) (none_below (bad_at llds rows block source nprow npcol) (nprow * npcol) each)

-- ---- descriptors and starts

desc_passes : (held : List Grid) (c : ℕ) (h : Head) (llds : List ℤ) (descpos : ℕ) → slice_get held c ≡ Some (dealt_grid R h.nprow h.npcol) → IsHead h → has_bad_lld llds h.m h.mb h.rsrc h.nprow h.npcol ≡ false
    → info_of (desc_entries held (record { desc = desc_for c h; llds = llds }) descpos) ≡ None
unfolding desc_entries
desc_passes held c h llds descpos at head good =
    nine_pass (100 * descpos) _ _ _ _ _ _ _ _ _ (record {
      dtype = within 1 1 1 (omega arith) (omega arith);
      context = ap (λ (o : Option Grid). is_none o) at;
      rows = within h.m 0 (2 ^ 24) (omega arith) head.rows_fit;
      columns = within h.n 0 (2 ^ 24) (omega arith) head.columns_fit;
      row_block = within h.mb 1 (2 ^ 24) head.some_row_block head.row_block_fits;
      column_block = within h.nb 1 (2 ^ 24) head.some_column_block head.column_block_fits;
      row_source = subst (λ (o : Option Grid). is_outside (pos h.rsrc) 0 (rows_of o - 1) ≡ false) (sym at) (within h.rsrc 0 (h.nprow - 1) (omega arith) (let f = head.row_source in omega (arith, f)));
      column_source = subst (λ (o : Option Grid). is_outside (pos h.csrc) 0 (columns_of o - 1) ≡ false) (sym at) (within h.csrc 0 (h.npcol - 1) (omega arith) (let f = head.column_source in omega (arith, f)));
      llds = subst (λ (o : Option Grid). has_bad_lld llds h.m h.mb h.rsrc (rows_of o) (columns_of o) ≡ false) (sym at) good;
    })

starts_pass : (m n : ℕ) (s : Spread) (descpos : ℕ) → s.desc.m ≡ pos m → s.desc.n ≡ pos n → info_of (start_entries (pos m) (pos n) (pos 1) (pos 1) s descpos) ≡ None
unfolding start_entries
starts_pass m n s descpos rows columns =
    entry_passes (starts_outside (pos 1) (pos m) s.desc.m) (descpos - 2) (entry (starts_outside (pos 1) (pos n) s.desc.n) (descpos - 1) ∷ []) (subst (λ w. starts_outside (pos 1) (pos m) w ≡ false) (sym rows) (from_one m))
    (entry_passes (starts_outside (pos 1) (pos n) s.desc.n) (descpos - 1) [] (subst (λ w. starts_outside (pos 1) (pos n) w ≡ false) (sym columns) (from_one n)) refl)

matrix_passes : (held : List Grid) (m n : ℕ) (s : Spread) (descpos : ℕ) → info_of (desc_entries held s descpos) ≡ None → s.desc.m ≡ pos m → s.desc.n ≡ pos n → info_of (matrix_entries held (pos m) (pos n) (pos 1) (pos 1) s descpos) ≡ None
unfolding matrix_entries
matrix_passes held m n s descpos desc rows columns =
    info_of_rest (desc_entries held s descpos) (start_entries (pos m) (pos n) (pos 1) (pos 1) s descpos) desc ∙ starts_pass m n s descpos rows columns

extents_pass : (m mpos n npos : ℕ) → m ≤ 2 ^ 24 → n ≤ 2 ^ 24 → info_of (extent_entries (pos m) mpos (pos n) npos) ≡ None
unfolding extent_entries
extents_pass m mpos n npos h k = entry_passes (is_outside (pos m) 0 (2 ^ 24)) mpos (entry (is_outside (pos n) 0 (2 ^ 24)) npos ∷ []) (within m 0 (2 ^ 24) (omega arith) h) (entry_passes (is_outside (pos n) 0 (2 ^ 24)) npos [] (within n 0 (2 ^ 24) (omega arith) k) refl)

-- ---- the leading dimensions

lld_passes : (llds : List ℤ) (rows block source nprow npcol k lld : ℕ) → slice_index_or llds k (pos 0) ≡ pos lld → least_lld rows block source nprow (k / npcol) ≤ lld → lld ≤ 2 ^ 24 → bad_at llds rows block source nprow npcol k ≡ false
lld_passes llds rows block source nprow npcol k lld at low high =
    subst (λ x. is_outside x (least_lld rows block source nprow (k / npcol)) (2 ^ 24) ≡ false) (sym at) (within lld (least_lld rows block source nprow (k / npcol)) (2 ^ 24) low high)

lead_at : (ps : List Piece) (k : ℕ) (d : Piece) → k < length ps → slice_index_or (llds_from ps) k (pos 0) ≡ pos (get_or ps k d).head.lld
lead_at [] k d lt = absurd (omega arith)
lead_at (p ∷ ps) zero d lt = refl
lead_at (p ∷ ps) (suc k) d lt = lead_at ps k d (omega arith)

as_large : (n : ℕ) → n ≤ n
as_large n = omega arith

no_larger : (n m : ℕ) → n ≤ m → m ≤ 2 ^ 24 → max 1 n ≤ 2 ^ 24
no_larger n m h k = omega arith

-- those of the pieces
llds_from_pass : (first : Piece) (more : List Piece) → AreTurns (first ∷ more) → let h = first.head in has_bad_lld (llds_from (first ∷ more)) h.m h.mb h.rsrc h.nprow h.npcol ≡ false
llds_from_pass first more is =
    let h : Head = first.head in
    let ps : List Piece = first ∷ more in
    let all : length ps ≡ h.nprow * h.npcol = is.all in
    good_llds (llds_from ps) h.m h.mb h.rsrc h.nprow h.npcol (length-map ps (λ (p : Piece). pos p.head.lld) ∙ all) (λ k lt.
    (let low : k < length ps = omega (arith, lt, all) in
    let at : IsAt (layout_of h) k (get_or ps k first) = piece_at first more first is k low in
    let p : Piece = get_or ps k first in
    let here : max 1 (local_rows (layout_of h) (k / h.npcol)) ≤ p.head.lld = subst (λ j. max 1 (local_rows (layout_of h) j) ≤ p.head.lld) at.row (subst (λ l. max 1 (local_rows l p.head.prow) ≤ p.head.lld) at.layout at.head.lead) in
    lld_passes (llds_from ps) h.m h.mb h.rsrc h.nprow h.npcol k p.head.lld (lead_at ps k first low) here at.head.lead_fits))

-- those of the other grid
llds_to_pass : (h : Head) (d : Distribution) → h.m ≤ 2 ^ 24 → let t = head_over d h.m h.n 0 in has_bad_lld (llds_to h d) t.m t.mb t.rsrc t.nprow t.npcol ≡ false
llds_to_pass h d fit =
    let f : ℕ → ℤ = λ k. pos (head_over d h.m h.n k).lld in
    good_llds (llds_to h d) h.m d.mb 0 d.nprow d.npcol (length-map-range_with_len f 0 (d.nprow * d.npcol)) (λ k lt.
    (let rows : below (spread d.mb 0 d.nprow) (k / d.npcol) h.m ≤ h.m = below_le (spread d.mb 0 d.nprow) (k / d.npcol) h.m in
    lld_passes (llds_to h d) h.m d.mb 0 d.nprow d.npcol k (head_over d h.m h.n k).lld (get_or-map-range_with_len f 0 (d.nprow * d.npcol) k k (pos 0) lt (omega arith)) (as_large _) (no_larger (below (spread d.mb 0 d.nprow) (k / d.npcol) h.m) h.m rows fit)))

-- the head of the first piece of a distribution
pub head_of : (h : Head) (d : Distribution) → IsDistribution d → h.m ≤ 2 ^ 24 → h.n ≤ 2 ^ 24 → IsHead (head_over d h.m h.n 0)
head_of h d is rows columns =
    let some_rows = is.rows in
    let some_columns = is.columns in
    let zero_row : 0 / d.npcol ≡ 0 = omega (arith, some_columns) in
    let zero_column : 0 % d.npcol ≡ 0 = omega (arith, some_columns) in
    let fit : below (spread d.mb 0 d.nprow) (0 / d.npcol) h.m ≤ h.m = below_le (spread d.mb 0 d.nprow) (0 / d.npcol) h.m in
    record {
      some_rows = is.rows;
      few_rows = is.few_rows;
      some_columns = is.columns;
      few_columns = is.few_columns;
      few = is.grid;
      row = omega (arith, zero_row, some_rows);
      column = omega (arith, zero_column, some_columns);
      rows_fit = rows;
      columns_fit = columns;
      some_row_block = is.row_block;
      row_block_fits = is.row_block_fits;
      some_column_block = is.column_block;
      column_block_fits = is.column_block_fits;
      row_source = omega (arith, some_rows);
      column_source = omega (arith, some_columns);
      lead = as_large _;
      lead_fits = no_larger (below (spread d.mb 0 d.nprow) (0 / d.npcol) h.m) h.m fit rows;
    }

-- ---- the context of all ranks

dealt_number : (nprow npcol k : ℕ) → k < nprow * npcol → slice_index (dealt_grid R nprow npcol).ranks k ≡ k
dealt_number nprow npcol k lt = number-grid_by nprow npcol (dealt_rank R nprow npcol) k lt ∙ sym (dealt_by_rows nprow npcol k)

has_rank : (ranks k : ℕ) → k < ranks → list_any (λ r. r == k) (dealt_grid R 1 ranks).ranks ≡ true
has_rank ranks k lt =
    let one : k < 1 * ranks = omega (arith, lt) in
    let long : k < length (dealt_grid R 1 ranks).ranks = omega (arith, one, length-grid_by 1 ranks (dealt_rank R 1 ranks)) in
    list_any_at (λ r. r == k) (dealt_grid R 1 ranks).ranks k 0 long (eq-eqb (slice_index (dealt_grid R 1 ranks).ranks k) k (dealt_number 1 ranks k one))

no_lack : (ranks nprow npcol : ℕ) → nprow * npcol ≤ ranks → lacks_grid (Some (dealt_grid R 1 ranks)) (Some (dealt_grid R nprow npcol)) ≡ false
unfolding lacks_grid
no_lack ranks nprow npcol few =
    list_any_none (λ rank. not (list_any (λ r. r == rank) (dealt_grid R 1 ranks).ranks)) (dealt_grid R nprow npcol).ranks (λ k d lt.
    (let low : k < nprow * npcol = omega (arith, lt, length-grid_by nprow npcol (dealt_rank R nprow npcol)) in
    let here : get_or (dealt_grid R nprow npcol).ranks k d ≡ k = get_or_default (dealt_grid R nprow npcol).ranks k d 0 lt ∙ dealt_number nprow npcol k low in
    subst (λ rank. not (list_any (λ r. r == rank) (dealt_grid R 1 ranks).ranks) ≡ false) (sym here) (ap not (has_rank ranks k (omega (arith, low, few))))))

common_passes : (ranks p q r t : ℕ) (place : ℕ) → p * q ≤ ranks → r * t ≤ ranks
    → info_of (common_entries (dealt_grid R 1 ranks ∷ dealt_grid R p q ∷ dealt_grid R r t ∷ []) (pos 0) (pos 1) (pos 2) place) ≡ None
unfolding common_entries
common_passes ranks p q r t place first second =
    entry_passes (lacks_grid (Some (dealt_grid R 1 ranks)) (Some (dealt_grid R p q)) || lacks_grid (Some (dealt_grid R 1 ranks)) (Some (dealt_grid R r t))) place [] (neither _ _ (no_lack ranks p q first) (no_lack ranks r t second)) refl

-- ---- all entries

passes_for : (first : Piece) (more : List Piece) (d : Distribution) → AreTurns (first ∷ more) → IsDistribution d → info_of (gemr2d_entries (contexts_of (first ∷ more) d) (args_for (first ∷ more) d)) ≡ None
passes_for first more d is to =
    let ps : List Piece = first ∷ more in
    let h : Head = first.head in
    let head : IsHead h = is.turns.0 in
    let held : List Grid = contexts_of ps d in
    let t : Head = head_over d h.m h.n 0 in
    let extents = extents_pass h.m 1 h.n 2 head.rows_fit head.columns_fit in
    let source = matrix_passes held h.m h.n (spread_from ps) 6 (desc_passes held 1 h (llds_from ps) 6 refl head (llds_from_pass first more is)) refl refl in
    let target = matrix_passes held h.m h.n (spread_to h d) 10 (desc_passes held 2 t (llds_to h d) 10 refl (head_of h d to head.rows_fit head.columns_fit) (llds_to_pass h d head.rows_fit)) refl refl in
    let common = common_passes (ranks_for h d) h.nprow h.npcol d.nprow d.npcol 11 (omega arith) (omega arith) in
    let last : List Entry = common_entries held (pos 0) (pos 1) (pos 2) 11 in
    let second : List Entry = matrix_entries held (pos h.m) (pos h.n) (pos 1) (pos 1) (spread_to h d) 10 in
    let first_part : List Entry = matrix_entries held (pos h.m) (pos h.n) (pos 1) (pos 1) (spread_from ps) 6 in
    info_of_rest (extent_entries (pos h.m) 1 (pos h.n) 2) (first_part ++ (second ++ last)) extents
    ∙ (info_of_rest first_part (second ++ last) source ∙ (info_of_rest second last target ∙ common))

-- the arguments of prepared memories
pub passes : (ps : List Piece) (d : Distribution) (args : MrArgs) (contexts : List Grid) (v : ShapesView) (nodes : List RankState) → IsPrepared ps d args contexts v nodes → info_of (gemr2d_entries contexts args) ≡ None
passes [] d args contexts v nodes is = absurd is.turns.all
passes (first ∷ more) d args contexts v nodes is =
    let P : MrArgs → List Grid → Type 0 = λ x gs. info_of (gemr2d_entries gs x) ≡ None in
    subst (λ x. P x contexts) (sym is.args_are) (subst (P (args_for (first ∷ more) d)) (sym is.contexts_are) (passes_for first more d is.turns is.to))
