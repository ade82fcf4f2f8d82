-- The pieces that a move leaves.
use Rattle.std.specs.Prelude.{◌≡◌, ℕ, zero, suc, ◌+◌, ◌*◌, ◌/◌, ◌%◌, ◌^◌, ◌<◌, ◌≤◌, ◌+ℤ◌, ℤ, pos, List, [], ◌∷◌, map}
use Rattle.std.specs.List.{range_with_len}
use Rattle.std.proofs.Common.{sym, ap, ap₂, ◌∙◌, subst, refl, arith}
use Rattle.std.proofs.Math.Nat.{mod-lt, div-lt_iff_lt-mul}
use Rattle.std.proofs.lemmas.Nat.{div-add-mod'}
use Rattle.std.proofs.lemmas.List.FromFn.{length-map-range_with_len}
use Rattle.fold_ops.specs.Fold.{total}
use Rattle.index_tools.specs.Home.{Layout}
use Rattle.mm_grammar.specs.Matrix.{Matrix}
use Rattle.pack_words.specs.LocalCells.{LocalCells}
use Rattle.piece_grammar.specs.Head.{Head, Piece}
use Rattle.piece_file.specs.Gathering.{AreTurns}
use Rattle.spread_cells.specs.Spreading.{piece_cells}
use Rattle.spread_cells.specs.Joining.{home_word}
use Rattle.spread_cells.specs.JoiningBack.{local_array}
use Rattle.mr2d.specs.Homes.{Arrays, cells_of}
use Rattle.piece_moves.specs.Distribution.{Distribution, layout_over, head_over}
use Rattle.piece_moves.specs.PieceMove.{array_of, first_of, state_after, move_words}
use Rattle.piece_moves.specs.Planning.{IsDistribution}
use Rattle.drawn_jobs.specs.Dealing.{piece_at, pieces_of, layout_by, whole_of, piece_after, sum_after, HavePieces}
use Rattle.drawn_jobs.proofs.SpreadSums.{sum_next, pieces_sum}
use Rattle.drawn_jobs.proofs.MovedPieces.{moved_is}

-- array 1 of rank k is piece k
cells_after : (ps : List Piece) (d : Distribution) → AreTurns ps → IsDistribution d → move_words ps d ≤ 2 ^ 26 → (k : ℕ) → k < d.nprow * d.npcol → cells_of (state_after ps d).arrays k 1 ≡ local_array (whole_of ps) (layout_over d (first_of ps).m (first_of ps).n) (k / d.npcol) (k % d.npcol)
cells_after ps d turns is small k lt =
    let some : 0 < d.npcol = let c = is.columns in omega arith in
    let p : k / d.npcol < d.nprow = (div-lt_iff_lt-mul some).1 lt in
    let q : k % d.npcol < d.npcol = mod-lt k some in
    ap (λ n. cells_of (state_after ps d).arrays n 1) (sym (div-add-mod' k d.npcol)) ∙ moved_is ps d turns is small (k / d.npcol) (k % d.npcol) p q

sizes_as : (c x : LocalCells) → c ≡ x → c ≡ record { lld = x.lld; cols = x.cols; words = c.words }
sizes_as c x e = e ∙ ap (λ (ws : List ℤ). let y : LocalCells = record { lld = x.lld; cols = x.cols; words = ws } in y) (sym (ap (λ (y : LocalCells). y.words) e))

have_after : (ps : List Piece) (d : Distribution) → AreTurns ps → IsDistribution d → move_words ps d ≤ 2 ^ 26 → HavePieces d (first_of ps).m (first_of ps).n (state_after ps d).arrays
have_after ps d turns is small = record { each = λ k lt. sizes_as (cells_of (state_after ps d).arrays k 1) (local_array (whole_of ps) (layout_over d (first_of ps).m (first_of ps).n) (k / d.npcol) (k % d.npcol)) (cells_after ps d turns is small k lt) }

pub have_pieces : (ps : List Piece) (d : Distribution) (h : Head) (arrays : Arrays) → AreTurns ps → IsDistribution d → move_words ps d ≤ 2 ^ 26 → h ≡ first_of ps → arrays ≡ (state_after ps d).arrays → HavePieces d h.m h.n arrays
have_pieces ps d h arrays turns is small first same =
    let P : Head → Type 0 = λ g. HavePieces d g.m g.n (state_after ps d).arrays in
    subst (HavePieces d h.m h.n) (sym same) (subst P (sym first) (have_after ps d turns is small))

along : {X : Type 0} (f g : ℕ → X) (a n : ℕ) → ((k : ℕ) → k < a + n → f k ≡ g k) → map f (range_with_len a n) ≡ map g (range_with_len a n)
along f g a zero e = refl
along f g a (suc n) e = ap (λ x. x ∷ map f (range_with_len (a + 1) n)) (e a (omega arith)) ∙ ap (λ xs. g a ∷ xs) (along f g (a + 1) n (λ k lt. e k (omega arith)))

one_after : (ps : List Piece) (d : Distribution) → AreTurns ps → IsDistribution d → move_words ps d ≤ 2 ^ 26 → (k : ℕ) → k < d.nprow * d.npcol → piece_after d (first_of ps).m (first_of ps).n (state_after ps d).arrays k ≡ piece_at d (whole_of ps) k
one_after [] d turns is small k lt = absurd turns.all
one_after (first ∷ more) d turns is small k lt =
    ap (λ (c : LocalCells). let p : Piece = record { head = head_over d first.head.m first.head.n k; words = c.words } in p) (cells_after (first ∷ more) d turns is small k lt)

pub moved_pieces : (ps : List Piece) (d : Distribution) (h : Head) (arrays : Arrays) → AreTurns ps → IsDistribution d → move_words ps d ≤ 2 ^ 26 → h ≡ first_of ps → arrays ≡ (state_after ps d).arrays
    → map (piece_after d h.m h.n arrays) (range_with_len 0 (d.nprow * d.npcol)) ≡ pieces_of d (whole_of ps)
moved_pieces ps d h arrays turns is small first same =
    ap (λ (g : Head). map (piece_after d g.m g.n arrays) (range_with_len 0 (d.nprow * d.npcol))) first
    ∙ ap (λ (held : Arrays). map (piece_after d (first_of ps).m (first_of ps).n held) (range_with_len 0 (d.nprow * d.npcol))) same
    ∙ along (piece_after d (first_of ps).m (first_of ps).n (state_after ps d).arrays) (piece_at d (whole_of ps)) 0 (d.nprow * d.npcol) (λ k lt. one_after ps d turns is small k (omega (arith, lt)))

-- ---- the sum

pub after_none : (arrays : Arrays) → pos 0 ≡ sum_after arrays 0
after_none arrays = refl

-- a piece more
pub after_more : (arrays : Arrays) (k : ℕ) (before sum result : ℤ) → before ≡ sum_after arrays k → sum ≡ total (cells_of arrays k 1).words → result ≡ before +ℤ sum → result ≡ sum_after arrays (k + 1)
after_more arrays k before sum result e is now = now ∙ ap₂ (λ (a b : ℤ). a +ℤ b) e is ∙ sym (sum_next (λ n. total (cells_of arrays n 1).words) k)

pub after_small : (k a b c : ℕ) → c ≤ a + b → a ≤ k * 2 ^ 57 → b ≤ 2 ^ 57 → c ≤ (k + 1) * 2 ^ 57
after_small k a b c both few more = omega (arith, both, few, more)

-- the words of all ranks after a move are those of the matrix
pub sum_stays : (ps : List Piece) (d : Distribution) (arrays : Arrays) → AreTurns ps → IsDistribution d → move_words ps d ≤ 2 ^ 26 → arrays ≡ (state_after ps d).arrays → sum_after arrays (d.nprow * d.npcol) ≡ total (whole_of ps).values
sum_stays [] d arrays turns is small same = absurd turns.all
sum_stays (first ∷ more) d arrays turns is small same =
    let ps : List Piece = first ∷ more in
    let m : Matrix = whole_of ps in
    let l : Layout = layout_over d first.head.m first.head.n in
    let n : ℕ = d.nprow * d.npcol in
    let at : Layout = layout_by ps in
    ap (λ (held : Arrays). sum_after held n) same
    ∙ ap total (along (λ k. total (cells_of (state_after ps d).arrays k 1).words) (λ k. total (piece_cells m l (k / d.npcol) (k % d.npcol)).values) 0 n (λ k lt. ap (λ (c : LocalCells). total c.words) (cells_after ps d turns is small k (omega (arith, lt)))))
    ∙ pieces_sum m l refl refl (length-map-range_with_len (λ k. home_word at (map array_of ps) (k % at.rows) (k / at.rows)) 0 (at.rows * at.columns)) (let some = is.rows in omega (arith, some)) (let some = is.columns in omega (arith, some))
